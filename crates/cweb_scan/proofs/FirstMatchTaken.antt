-- Taking the next lexeme, once the code knows its rule.
use Rattle.cweb_rules.proofs.FirstBytes.{known_if}
use Rattle.cweb_scan.proofs.Common.{◌≡◌, Bool, false, refl, if◌then◌else◌, Kind, Context, Definition, Rule, enter_in, is_head, ReaderModel, Between, ScanState}

pub enter_same : (c : Context) (k : Kind) (s : ScanState) → is_head c ≡ false → enter_in c k s ≡ s
enter_same (Definition begun) k s h = cc
enter_same _ k s h = refl

abbrev pub between : ScanState → Bool → ReaderModel
between s g = record { state = s; item = Between; begun = g }

pub neither : (is : Rule → Bool) (v : Bool) (x y : Rule) → is x ≡ false → is y ≡ false → is (if v then x else y) ≡ false
neither is v x y f g = known_if (λ r. is r ≡ false) v x y (λ e. f) (λ e. g)
