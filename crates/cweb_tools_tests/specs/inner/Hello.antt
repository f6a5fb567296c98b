-- What the programs make of the web hello.w.
use Rattle.std.specs.Prelude.{◌≡◌, ◌≢◌, ℕ, List, [], ◌∷◌, ◌++◌, codes, Option, Some, None, if◌then◌else◌, option_map}
use Rattle.std.specs.Option.{unwrap_or}
use Rattle.std.specs.Str.{bytes_eq}
use Rattle.cweb_out.specs.Files.{File}
use Rattle.cweb_out.specs.Sinks.{SinkContents, SinkModel}
use Rattle.cweb_tools_tests.specs.declared.hello.TheConstants.{HELLO}

-- The files of a shelf with hello.w alone.
abbrev pub hello_contents : List ℕ → Option (List ℕ)
hello_contents name = if bytes_eq (codes "hello.w") name then Some HELLO.now else None

-- The bytes of an observable sink.
abbrev pub text_of : SinkModel → List ℕ
text_of sink = unwrap_or (option_map (λ (now : SinkContents). now.bytes) sink.contents) []

-- The files of observable bins.
abbrev pub files_of : SinkModel → List File
files_of bins = unwrap_or (option_map (λ (now : SinkContents). now.beside.files) bins.contents) []

-- No write to the output or to the log failed, and the log doesn't end with the line that memory ran out.
pub record NoneFailed (out_failed log_failed : ℕ) (log : List ℕ) : Type 0 where
  pub out : out_failed ≡ 0
  pub logged : log_failed ≡ 0
  pub memory : (first : List ℕ) → log ≢ first ++ codes "! Out of memory\n"

-- `ctangle` leaves this file, this log and status 0.
pub record IsTangledHello (files : List File) (log : List ℕ) (status : ℕ) : Type 0 where
  pub written : files ≡ record {
    name = codes "hello.c";
    bytes = codes "/*1:*/\n#line 2 \"hello.w\"\n\n#include <stdio.h>\nint main(void){/*2:*/\n"
        ++ codes "#line 5 \"hello.w\"\n\nputs(\"hi\");/*:2*/\n#line 4 \"hello.w\"\nreturn 0;}\n/*:1*/\n";
  } ∷ []
  pub logged : log ≡ codes "This is CTANGLE, profile of CWEB 3\nWriting hello.c\n(No errors were found.)\n"
  pub answered : status ≡ 0

-- `wmerge` prints the web as it is, and `wdep` one rule. Neither logs a line.
pub record IsMergedHello (out log : List ℕ) (status : ℕ) : Type 0 where
  pub printed : out ≡ HELLO.now
  pub logged : log ≡ []
  pub answered : status ≡ 0

pub record IsRuleOfHello (out log : List ℕ) (status : ℕ) : Type 0 where
  pub printed : out ≡ codes "hello.c: hello.w\n"
  pub logged : log ≡ []
  pub answered : status ≡ 0
