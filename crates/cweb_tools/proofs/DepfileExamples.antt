-- Worked examples: texts that `wdep` prints. `tests/depfiles` shows that GNU make reads such texts.
use Rattle.cweb_tools.proofs.Common.{◌≡◌, [], ◌∷◌, codes, refl}
use Rattle.cweb_tools.specs.Depfile.{depfile, each_once, escaped}
use Rattle.cweb_tools.specs.declared.depfile.TheConstants.{WIDTH}
use Rattle.cweb_tools.specs.declared.depfile.escape.Position.TheVariants.{Target, Inner, Last}

-- Two outputs, and two files beside the web.
two_inputs : depfile (codes "hello.c" ∷ codes "hello.h" ∷ [])
    (codes "hello.w" ∷ codes "sub/inc.w" ∷ codes "hello.ch" ∷ [])
    ≡ codes "hello.c hello.h: hello.w sub/inc.w hello.ch\nsub/inc.w:\nhello.ch:\n"
two_inputs = refl

opened_twice : each_once (codes "a.w" ∷ codes "b.w" ∷ codes "c.w" ∷ codes "b.w" ∷ [])
    ≡ codes "a.w" ∷ codes "b.w" ∷ codes "c.w" ∷ []
opened_twice = refl

special_bytes : escaped Target (codes "a b#c:d$e%f\tg") ≡ codes "a\\ b\\#c\\:d$$e\\%f\\\tg"
special_bytes = refl

pattern_sign : escaped Inner (codes "a%b") ≡ codes "a%b"
pattern_sign = refl

-- Backslashes are doubled before a byte that needs one, and at the end of a name.
backslashes : escaped Inner (codes "a\\b\\\\ c\\") ≡ codes "a\\b\\\\\\\\\\ c\\\\"
backslashes = refl

-- The last name of a line ends in its own backslashes and a blank.
last_name : escaped Last (codes "a\\") ≡ codes "a\\ "
last_name = refl

-- A line has at most 78 bytes.
width : WIDTH ≡ 78
width = refl

long_line : depfile (codes "a23456789012345678901234567890123456789.c" ∷ [])
    (codes "b2345678901234567890123456789012.w" ∷ codes "c.w" ∷ [])
    ≡ codes "a23456789012345678901234567890123456789.c: b2345678901234567890123456789012.w \\\n c.w\nc.w:\n"
long_line = refl

-- `/dev/null` comes before a web with `=`, and the first prerequisite before another such name.
equals : depfile (codes "x.c" ∷ []) (codes "a=b.w" ∷ codes "c" ∷ codes "d=e" ∷ [])
    ≡ codes "x.c: /dev/null a=b.w c d=e\nc:\n/dev/null d=e:\n"
equals = refl

equals_later : depfile (codes "x.c" ∷ []) (codes "a.w" ∷ codes "d=e" ∷ []) ≡ codes "x.c: a.w d=e\na.w d=e:\n"
equals_later = refl
