-- Laws of names and parts for any calls, and the calls as values.
use Rattle.std.specs.Prelude.{◌+◌, ◌<◌, ◌≤◌, List, [], ◌∷◌, filter, length, map, IsSome, IsNone, fold, ◌≡◌, ℕ, Bool}
use Rattle.std.specs.Prelude.{false, nat_eq, ◌++◌, Option, Some, None, Ok, slice_get, option_map, option_and_then}
use Rattle.std.specs.Prelude.{filter_map, true, option_to_list, if◌then◌else◌, take, ◌⊎◌, ◌≢◌, not, bytes_eq}
use Rattle.cweb_store.specs.declared.call.Answered.{Answered}
use Rattle.cweb_store.specs.surface.Tokens.{part_count, token_count, replacement_of, token_model, all_parts}
use Rattle.cweb_store.specs.surface.Tokens.{occurrence_of, too_many}
use Rattle.cweb_store.specs.Calls.{Contents, Replacement, empty, with_occurrence, with_open, with_token, with_dropped}
use Rattle.cweb_store.specs.Calls.{with_closed, with_replacement}
use Rattle.cweb_store.specs.Parts.{PartKind, Token, Part, joined_where, at_close, is_layout, protected_count}
use Rattle.cweb_store.specs.Parts.{without_layout, all_tokens}
use Rattle.cweb_store.specs.Names.{Occurrence, names, beginning, resolutions, resolved_at, resolved_among, files, is_id}
use Rattle.cweb_store.specs.Names.{Resolution, spellings, squeezed, NameId, Full, Prefix}
use Rattle.std.specs.List.{starts_with, list_any, list_all}
use Rattle.cweb_store.specs.declared.name.NameFault.{NameFault}
use Rattle.cweb_store.specs.Faults.{unresolved_fault, unresolved_faults}
use Rattle.cweb_store.specs.declared.parts.PartKind.TheVariants.{Macro}
use Rattle.cweb_store.specs.declared.call.Call as declared
use Rattle.cweb_store.specs.declared.call.Call.TheVariants as made
use Rattle.cweb_rules.specs.Bytes.{is_white}
use Rattle.cweb_rules.specs.Edges.{first_is}

-- The byte isn't white.
abbrev pub is_other : ℕ → Bool
is_other b = not (is_white b)

-- Each white byte is a blank. It has a byte before it, and a byte that isn't white after it.
abbrev pub HasSingleBlanks : List ℕ → Type 0
HasSingleBlanks text = (before : List ℕ) (b : ℕ) (after : List ℕ) → text ≡ before ++ b ∷ after
    → is_white b ≡ true → (b ≡ 32) × (before ≢ []) × (first_is is_other after ≡ true)

-- White space in a spelling is single blanks between other bytes, and the other bytes stay in order.
pub record SpellingsAreSqueezed : Type 0 where
  pub single : (text : List ℕ) → HasSingleBlanks (squeezed text)
  pub others : (text : List ℕ) → filter is_other (squeezed text) ≡ filter is_other text
  -- any span of white space counts as one blank
  pub spans : (before gap after : List ℕ) (b : ℕ) → is_white b ≡ true → list_all is_white gap ≡ true
      → squeezed (before ++ b ∷ (gap ++ after)) ≡ squeezed (before ++ 32 ∷ after)
  pub stays : (text : List ℕ) → HasSingleBlanks text → squeezed text ≡ text
  pub twice : (text : List ℕ) → squeezed (squeezed text) ≡ squeezed text

-- Lists without duplicates.
abbrev pub Distinct : List (List ℕ) → Type 0
Distinct [] = Unit {0}
Distinct (x ∷ xs) = (list_any (bytes_eq x) xs ≡ false) × Distinct xs

-- A call that was accepted.
pub data Call : Type 0 where
  Occurs : (occurrence : Occurrence) → Call
  Opens : (kind : PartKind) → Call
  Pushes : (token : Token) → Call
  Drops Closes : Call
  Transliterates : (replacement : Replacement) → Call

abbrev pub after_call : Contents → Call → Contents
after_call c (Occurs o) = with_occurrence o c
after_call c (Opens kind) = with_open kind c
after_call c (Pushes token) = with_token token c
after_call c Drops = with_dropped c
after_call c Closes = with_closed c
after_call c (Transliterates r) = with_replacement r c

-- The contents after a list of calls.
abbrev pub contents : List Call → Contents
contents calls = fold after_call empty calls

-- The model of a call.
abbrev pub call_model : declared.Call → Call
call_model (made.Occurs name how is_file) = Occurs (occurrence_of name.now how is_file)
call_model (made.Opens kind) = Opens kind
call_model (made.Pushes token) = Pushes (token_model token)
call_model made.Drops = Drops
call_model made.Closes = Closes
call_model (made.Transliterates byte new) = Transliterates (replacement_of byte new.now)

-- `open_part` needs no open part; `push`, `drop_layout` and `close_part` need one. No count reaches its bound.
abbrev pub AcceptsCall : Contents → Call → Type 0
AcceptsCall c (Occurs o) = length c.occurrences + 1 < too_many
AcceptsCall c (Opens kind) = IsNone c.parts.current × (part_count c.parts + 1 < too_many)
AcceptsCall c (Pushes token) = IsSome c.parts.current × (token_count c.parts + 1 < too_many)
AcceptsCall c Drops = IsSome c.parts.current
AcceptsCall c Closes = IsSome c.parts.current
AcceptsCall c (Transliterates r) = 128 ≤ r.byte

-- The builder accepts each call after the ones before it.
abbrev pub AcceptsCalls : Contents → List Call → Type 0
AcceptsCalls c [] = Unit {0}
AcceptsCalls c (call ∷ calls) = AcceptsCall c call × AcceptsCalls (after_call c call) calls

-- The calls that returned `Ok`.
abbrev pub accepted_calls : List Answered → List Call
accepted_calls answers = map (λ a. call_model a.call) (filter (λ a. a.is_ok) answers)

-- A full occurrence whose bytes begin with `text`.
abbrev pub defines_with_prefix : List ℕ → Occurrence → Bool
defines_with_prefix text o = elim o.how [ Full ↦ starts_with nat_eq o.text text | Prefix ↦ false ]

-- Later names that don't begin with an abbreviation's prefix don't change its resolution.
abbrev pub AbbreviationsStay : Type 0
AbbreviationsStay = (os later : List Occurrence) (i : ℕ) (o : Occurrence) → slice_get os i ≡ Some o → o.how ≡ Prefix
    → list_any (defines_with_prefix o.text) later ≡ false →
    slice_get (resolutions (os ++ later)) i ≡ slice_get (resolutions os) i

-- An abbreviation with only one match among earlier names resolves to it, whatever comes later.
abbrev pub EarlierNamesDecide : Type 0
EarlierNamesDecide = (earlier later : List Occurrence) (o : Occurrence) (n : NameId) → o.how ≡ Prefix
    → beginning o.text (names earlier) ≡ n ∷ [] →
    slice_get (resolutions (earlier ++ o ∷ later)) (length earlier) ≡ Some (Ok n)

-- What an occurrence resolves to depends only on the names given before it and on all names.
abbrev pub NamesDecideResolutions : Type 0
NamesDecideResolutions = (earlier later : List Occurrence) (o : Occurrence) →
    let os = earlier ++ o ∷ later in
    slice_get (resolutions os) (length earlier) ≡ Some (resolved_among (names earlier) (names os) o)

-- The bytes of the name that occurrence i resolves to.
abbrev pub resolved_spelling : List Occurrence → ℕ → Option (List ℕ)
resolved_spelling os i =
    option_and_then (λ n. option_map (λ m. m.text) (slice_get (names os) n.0)) (resolved_at (resolutions os) i)

-- A full name resolves to itself.
abbrev pub FullNamesResolveToThemselves : Type 0
FullNamesResolveToThemselves = (os : List Occurrence) (i : ℕ) (o : Occurrence) → slice_get os i ≡ Some o → o.how ≡ Full
    → resolved_spelling os i ≡ Some o.text

-- An abbreviation resolves to a name that begins with its prefix.
abbrev pub AbbreviationsBeginTheirNames : Type 0
AbbreviationsBeginTheirNames = (os : List Occurrence) (i : ℕ) (o : Occurrence) (text : List ℕ) → slice_get os i ≡ Some o
    → o.how ≡ Prefix → resolved_spelling os i ≡ Some text → starts_with nat_eq text o.text ≡ true

-- No two names have equal bytes.
abbrev pub NamesAreDistinct : Type 0
NamesAreDistinct = (os : List Occurrence) → Distinct (spellings (names os))

abbrev pub is_at : ℕ → NameFault → Bool
is_at i fault = nat_eq fault.occurrence.0 i

-- An occurrence resolves to a name without a fault of its own, or has exactly one fault.
abbrev pub OneFaultForNoName : Type 0
OneFaultForNoName = (rs : List Resolution) (i : ℕ) (r : Resolution) → slice_get rs i ≡ Some r
    → filter (is_at i) (unresolved_faults rs) ≡ option_to_list (unresolved_fault i r)

abbrev pub occurrence_of_call : Call → Option Occurrence
occurrence_of_call (Occurs o) = Some o
occurrence_of_call call = None

-- The occurrences are those of the calls, in order.
abbrev pub OccurrencesAreThoseOfCalls : Type 0
OccurrencesAreThoseOfCalls = (calls : List Call) → (contents calls).occurrences ≡ filter_map occurrence_of_call calls

-- Some occurrence names a file and resolves to this name.
pub record IsNamedAsFile (os : List Occurrence) (n : NameId) : Type 0 where
  pub number : ℕ
  pub occurrence : Occurrence
  pub there : slice_get os number ≡ Some occurrence
  pub file : occurrence.is_file ≡ true
  pub resolves : resolved_at (resolutions os) number ≡ Some n

-- No name is in the list twice.
abbrev pub AreDistinctIds : List NameId → Type 0
AreDistinctIds [] = Unit {0}
AreDistinctIds (n ∷ ns) = (list_any (is_id n) ns ≡ false) × AreDistinctIds ns

-- The file names are the names that some file occurrence resolves to, each once.
pub record FilesAreNamesOfOccurrences : Type 0 where
  pub only : (os : List Occurrence) (n : NameId) → list_any (is_id n) (files os) ≡ true → IsNamedAsFile os n
  pub all : (os : List Occurrence) (n : NameId) → IsNamedAsFile os n → list_any (is_id n) (files os) ≡ true
  pub once : (os : List Occurrence) → AreDistinctIds (files os)

-- The token that a call pushes, if it pushes one.
abbrev pub token_of_call : Call → Option Token
token_of_call (Pushes token) = Some token
token_of_call call = None

-- The second list is the first one without some of its Blanks, Newlines and Marks.
abbrev pub IsLeftOfTokens : List Token → List Token → Type 0
IsLeftOfTokens [] ts = ts ≡ []
IsLeftOfTokens (u ∷ us) ts = ((is_layout u ≡ true) × IsLeftOfTokens us ts)
    ⊎ ((rest : List Token) × (ts ≡ u ∷ rest) × IsLeftOfTokens us rest)

-- The tokens of the parts are the pushed ones, in order, less dropped layout.
abbrev pub TokensAreThosePushed : Type 0
TokensAreThosePushed = (calls : List Call) → AcceptsCalls empty calls
    → IsLeftOfTokens (filter_map token_of_call calls) (all_tokens (all_parts (contents calls).parts))

-- Joining one part, and joining two lists of parts.
pub record JoiningConcatenates : Type 0 where
  pub alone : (test : PartKind → Bool) (p : Part) → joined_where test (p ∷ []) ≡ (if test p.kind then p.tokens else [])
  pub in_order : (test : PartKind → Bool) (ps qs : List Part)
      → joined_where test (ps ++ qs) ≡ joined_where test ps ++ joined_where test qs

-- `prefix` is a prefix of `whole`, and all other tokens are layout.
pub record IsLeft (whole prefix : List Token) : Type 0 where
  pub rest : List Token
  pub splits : whole ≡ prefix ++ rest
  pub layout : list_all is_layout rest ≡ true

-- The tokens of a macro without trailing layout.
abbrev pub left_of_macro : List Token → List Token
left_of_macro ts = (without_layout (record { kind = Macro; tokens = ts })).tokens

-- Dropping layout and closing remove only trailing layout. A macro keeps its first two tokens, and no layout after them.
pub record OnlyLayoutIsDropped : Type 0 where
  pub dropped : (p : Part) → IsLeft p.tokens (without_layout p).tokens
  pub closed : (p : Part) → IsLeft p.tokens (at_close p).tokens
  pub firsts : (p : Part) → take (protected_count p.kind) (without_layout p).tokens
      ≡ take (protected_count p.kind) p.tokens
  pub no_more : (t u : Token) (layout : List Token) → list_all is_layout layout ≡ true
      → left_of_macro (t ∷ u ∷ layout) ≡ t ∷ u ∷ []
