-- Items that are open at the end of their line: the reader holds their source so far.
use Rattle.std.specs.Prelude.{◌≡◌, ℕ, ◌+◌, Bool, true, false, List, ◌++◌, length, take, drop, codes, fold, flat_map}
use Rattle.cweb_files.specs.declared.place.Place.{Place}
use Rattle.cweb_rules.specs.Bytes.{begins}
use Rattle.cweb_rules.specs.Items.{reach}
use Rattle.cweb_rules.specs.declared.end.End.TheVariants.{Cut}
use Rattle.cweb_rules.specs.Matches.{RuleMatch, quoted_match}
use Rattle.cweb_rules.specs.declared.context.Context.{Context}
use Rattle.cweb_rules.specs.declared.context.Context.TheVariants.{Limbo, TeX, Definition, Macro, CText}
use Rattle.cweb_rules.specs.Literals.{starts_literal, starts_raw}
use Rattle.cweb_rules.specs.declared.items.Item.{Item}
use Rattle.cweb_rules.specs.inner.LineItems.{opens_in, look_of, IsPast}
use Rattle.cweb_rules.specs.laws.Laws.{at_line_ends}
use Rattle.cweb_scan.specs.Effects.{literal_unit}
use Rattle.cweb_scan.specs.State.{ScanState}
use Rattle.cweb_scan.specs.declared.reader.open.Open.{Open}
use Rattle.cweb_scan.specs.declared.reader.open.Open.TheVariants.{Between, Comment, Name, Literal, RawLiteral}
use Rattle.cweb_scan.specs.inner.MatchSteps.{is_head, reads_c, reads_names, starts_name}
use Rattle.cweb_scan.specs.inner.ReaderModel.{OpenItem, HasItemRoom}
use Rattle.cweb_scan.specs.inner.ScanParts.{in_open_part}
use Rattle.cweb_scan.specs.inner.ReaderModel as model
use Rattle.cweb_scan.specs.laws.Laws.{next_match}

abbrev pub is_between : Open → Bool
is_between kind = elim kind [ Between ↦ true | _ ↦ false ]

-- The open item as the code stores it.
abbrev pub item_of : Open → List ℕ → List Place → OpenItem
item_of kind text places = elim kind [ Between ↦ model.Between | _ ↦ model.Pending text places ]

-- The source begins with an item of this kind, which may occur in the context.
abbrev pub IsItem : Open → Context → List ℕ → Type 0
IsItem Between c text = Unit {0}
IsItem Comment c text = (reads_c c ≡ true) × (begins (codes "/*") text ≡ true)
IsItem Name c text = (reads_names c ≡ true) × (is_head c ≡ false) × (starts_name text ≡ true)
IsItem Literal c text = (in_open_part c ≡ true) × IsPast text × (starts_raw text ≡ false)
    × (starts_literal text ≡ true)
IsItem RawLiteral c text = (in_open_part c ≡ true) × IsPast text × (starts_raw text ≡ true)

-- It is still open at the end of its source so far, whose newlines have these places after them.
pub record IsPending (kind : Open) (c : Context) (text : List ℕ) (places : List Place) : Type 0 where
  pub item : IsItem kind c text
  pub unclosed : opens_in c text ≡ true
  pub newlines : at_line_ends 1 text ≡ length places

-- What the reader stores fits the open item.
abbrev pub IsStored : Open → Context → List ℕ → List Place → Type 0
IsStored kind c text places = is_between kind ≡ false → IsPending kind c text places

-- The source begins with an item of this kind, whose newlines have these places after them, and the store has room.
pub record CanTake (kind : Open) (text : List ℕ) (places : List Place) (s : ScanState) : Type 0 where
  pub pending : is_between kind ≡ false
  pub item : IsItem kind s.context text
  pub lines : at_line_ends 1 (take (next_match s text).size text) ≡ length places
  pub room : HasItemRoom (length places + 2) s

-- In C text a part opener is read as C text.
abbrev pub takes_opener : ScanState → Bool
takes_opener s = elim s.context [ CText ↦ false | _ ↦ true ]

-- A literal with an opener of this size.
abbrev pub quoted_as : ℕ → Item → List ℕ → RuleMatch
quoted_as opener item text = quoted_match opener (reach (look_of item) Cut (drop opener text)) text

-- Units of a literal were passed, and their newlines. Only faults, and the current line, change.
pub record PassesUnits (units : List (List ℕ)) (places left : List Place) (old new : ScanState) : Type 0 where
  pub state : (later : List Place) → fold literal_unit (record { state = old; later = places ++ later }) units
      ≡ record { state = new; later = left ++ later }
  pub lines : at_line_ends 1 (flat_map (λ u. u) units) + length left ≡ length places
  pub context : new.context ≡ old.context
  pub contents : new.contents ≡ old.contents
  pub sections : new.sections ≡ old.sections
