-- Abbreviations for worked examples.
use Rattle.cweb_scan.proofs.Common.{ℕ, suc, true, false, List, [], ◌∷◌, ◌++◌, codes, Place, Line, PartKind, Unnamed, Occurrence, Full, Prefix, Part, Token, Word, Number, Literal, Verbatim, Punct, Name, Head, Tail, Mark, Replacement, ScanFault, ScanKind, Scanned}
use Prim.Native.String.{String}
use Rattle.cweb_store.specs.declared.parts.PartKind.TheVariants.{Named, Macro}

abbrev pub at : ℕ → ℕ → Place
at file line = record { file = record { 0 = file }; line = line }

abbrev pub line : String → Place → Line
line bytes place = record { bytes = codes bytes; place = place }

abbrev lines_from : ℕ → List String → List Line
lines_from n [] = []
lines_from n (s ∷ ss) = line s (at 0 n) ∷ lines_from (suc n) ss

-- The lines of one file.
abbrev pub web : List String → List Line
web ss = lines_from 1 ss

abbrev pub word : String → Token
word s = Word (codes s)

abbrev pub number : String → Token
number s = Number (codes s)

abbrev pub literal : String → Token
literal s = Literal (codes s)

abbrev pub verbatim : String → Token
verbatim s = Verbatim (codes s)

abbrev pub punct : String → Token
punct s = Punct (codes s)

abbrev pub named : ℕ → Token
named n = Name (record { 0 = n })

-- A line of the first file.
abbrev pub mark : ℕ → Token
mark n = Mark (at 0 n)

abbrev pub name : String → Occurrence
name s = record { text = codes s; how = Full; is_file = false }

abbrev pub prefix : String → Occurrence
prefix s = record { text = codes s; how = Prefix; is_file = false }

abbrev pub file : String → Occurrence
file s = record { text = codes s; how = Full; is_file = true }

abbrev pub macro : List Token → Part
macro tokens = record { kind = Macro; tokens = tokens }

-- A part of C text, by its section and the line of its start.
abbrev c_part : PartKind → ℕ → ℕ → List Token → Part
c_part kind n line tokens = record { kind = kind; tokens = Head n ∷ mark line ∷ tokens ++ Tail n ∷ [] }

abbrev pub unnamed : ℕ → ℕ → List Token → Part
unnamed n line tokens = c_part Unnamed n line tokens

abbrev pub named_part : ℕ → ℕ → ℕ → List Token → Part
named_part occurrence n line tokens = c_part (Named (record { 0 = occurrence })) n line tokens

abbrev pub repl : ℕ → String → Replacement
repl byte text = record { byte = byte; text = codes text }

abbrev pub fault : ScanKind → ℕ → ScanFault
fault kind line = record { kind = kind; place = at 0 line }

abbrev pub wanted : List Occurrence → List Part → List Replacement → List ScanFault → ℕ → List ℕ → Scanned
wanted occurrences parts replacements faults sections starred =
    record {
      store = record { occurrences = occurrences; parts = parts; replacements = replacements };
      faults = faults;
      sections = sections;
      starred = starred;
    }
