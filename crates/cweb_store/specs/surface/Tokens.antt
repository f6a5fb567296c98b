-- Occurrences, tokens and parts as calls see them, their numbers, strings and edges.
use Rattle.cweb_store.specs.declared.tokens.Token.{Token as BorrowedToken}
use Rattle.std.specs.Prelude.{◌≡◌, ℕ, ◌+◌, List, [], ◌∷◌, ◌++◌, fold, length, map, flat_map, option_to_list, Bool}
use Rattle.std.specs.Prelude.{slice_range, if◌then◌else◌, ◌≤◌, All, bytes_eq, ◌==◌, codes}
use Rattle.cweb_store.specs.Parts.{Token, Word, Number, Literal, Verbatim, Punct, all_tokens, joined_where, Part}
use Rattle.cweb_store.specs.Calls.{Replacement, Stored, PartsSoFar, Contents}
use Rattle.cweb_store.specs.declared.parts.PartKind.{PartKind}
use Rattle.cweb_store.specs.Parts as spec
use Rattle.cweb_store.specs.declared.tokens.Token.TheVariants as borrowed
use Rattle.cweb_store.specs.declared.parts.Part as declared
use Rattle.std.specs.List.{list_any}
use Rattle.cweb_store.specs.declared.name.How.{How}
use Rattle.cweb_store.specs.Names.{Occurrence}
use Rattle.cweb_store.specs.declared.edges.Edge.{Edge}
use Rattle.cweb_rules.specs.Edges.{is_one_of, is_operator, first_is, last_is}
use Rattle.cweb_store.specs.declared.edges.Edge.TheVariants as edge_kind

-- a byte that may continue a number
abbrev pub is_numeric : ℕ → Bool
is_numeric b = is_one_of (codes ".+-") b

-- one of three edges, by two tests of the last byte: whether it is a point, and whether it is an operator byte
abbrev pub edge_by_last : Edge → Edge → Edge → Bool → Bool → Edge
edge_by_last plain operator point is_point is_operator =
    if is_point then point else (if is_operator then operator else plain)

-- the edge of a punctuator, by two tests of its first byte and two of its last byte
abbrev pub punctuator_edge_by : Bool → Bool → Bool → Bool → Edge
punctuator_edge_by is_numeric is_operator is_point ends =
    if is_numeric then edge_by_last edge_kind.NumericPlain edge_kind.NumericOperator edge_kind.NumericPoint is_point
    ends
    else (if is_operator then edge_by_last edge_kind.OperatorPlain edge_kind.OperatorOperator edge_kind.OperatorPoint
    is_point
    ends
    else edge_by_last edge_kind.PlainPlain edge_kind.PlainOperator edge_kind.PlainPoint is_point ends)

abbrev pub punctuator_edge : List ℕ → Edge
punctuator_edge b =
    punctuator_edge_by (first_is is_numeric b) (first_is is_operator b) (last_is (λ x. x == 46) b)
    (last_is is_operator b)

abbrev pub occurrence_of : List ℕ → How → Bool → Occurrence
occurrence_of text how is_file = record { text = text; how = how; is_file = is_file }

abbrev pub occurrence_text : Occurrence → List ℕ
occurrence_text o = o.text

-- The maximum number of occurrences is less than this.
abbrev pub too_many : ℕ
too_many = 4294967295

abbrev pub total : {A : Type 0} → (A → ℕ) → List A → ℕ
total f [] = 0
total f (x ∷ xs) = f x + total f xs

-- words with one more, unless it is among them
abbrev pub with_word : List (List ℕ) → List ℕ → List (List ℕ)
with_word words word = if list_any (bytes_eq word) words then words else words ++ word ∷ []

-- The strings without repetitions, in order of first occurrence.
abbrev pub distinct_strings : List (List ℕ) → List (List ℕ)
distinct_strings strings = fold with_word [] strings

-- The model of a token that borrows its bytes.
abbrev pub token_model : BorrowedToken → spec.Token
token_model (borrowed.Word string) = spec.Word string.now
token_model (borrowed.Number string) = spec.Number string.now
token_model (borrowed.Literal string) = spec.Literal string.now
token_model (borrowed.Verbatim string) = spec.Verbatim string.now
token_model (borrowed.Punct string) = spec.Punct string.now
token_model borrowed.Blank = spec.Blank
token_model borrowed.Newline = spec.Newline
token_model borrowed.Join = spec.Join
token_model borrowed.Defs = spec.Defs
token_model (borrowed.Name name) = spec.Name name
token_model (borrowed.Head section) = spec.Head section
token_model (borrowed.Tail section) = spec.Tail section
token_model (borrowed.Mark place) = spec.Mark place

-- The string of a token, if it has one.
abbrev pub token_strings : Token → List (List ℕ)
token_strings (Word b) = b ∷ []
token_strings (Number b) = b ∷ []
token_strings (Literal b) = b ∷ []
token_strings (Verbatim b) = b ∷ []
token_strings (Punct b) = b ∷ []
token_strings token = []

abbrev pub token_size : Token → ℕ
token_size token = total length (token_strings token)

abbrev pub with_word_of : List (List ℕ) → Token → List (List ℕ)
with_word_of words (Word b) = with_word words b
with_word_of words (Number b) = with_word words b
with_word_of words (Punct b) = with_word words b
with_word_of words token = words

-- The distinct strings of Words, Numbers and Puncts.
abbrev pub words_of : List Token → List (List ℕ)
words_of ts = fold with_word_of [] ts

-- The number of bytes of a token whose string is not interned: a Literal or Verbatim.
abbrev pub other_bytes : Token → ℕ
other_bytes (Word b) = 0
other_bytes (Number b) = 0
other_bytes (Punct b) = 0
other_bytes token = token_size token

-- The number of bytes of all tokens. Equal strings of Words, Numbers and Puncts count once.
abbrev pub interned_token_bytes : List Token → ℕ
interned_token_bytes ts = total length (words_of ts) + total other_bytes ts

-- A string is a contiguous range of a list of bytes.
abbrev pub IsSpanOf : List ℕ → List ℕ → Type 0
IsSpanOf bytes string = (before : List ℕ) × (after : List ℕ) × (bytes ≡ before ++ (string ++ after))

abbrev pub AreSpansOf : List ℕ → List (List ℕ) → Type 0
AreSpansOf bytes [] = Unit {0}
AreSpansOf bytes (t ∷ ts) = IsSpanOf bytes t × AreSpansOf bytes ts

-- The strings are contiguous ranges of one list of n bytes.
pub record AreInOneList (n : ℕ) (strings : List (List ℕ)) : Type 0 where
  pub bytes : List ℕ
  pub count : length bytes ≡ n
  pub ranges : AreSpansOf bytes strings

-- A byte and its replacement.
abbrev pub replacement_of : ℕ → List ℕ → Replacement
replacement_of byte text = record { byte = byte; text = text }

abbrev pub replacement_bytes : Replacement → List ℕ
replacement_bytes r = r.text

-- The strings of tokens, occurrences and replacements.
abbrev pub stored_strings : Stored → List (List ℕ)
stored_strings s = flat_map token_strings (all_tokens s.parts)
    ++ (map occurrence_text s.occurrences ++ map replacement_bytes s.replacements)

-- The number of bytes of all strings, each counted as often as it occurs.
abbrev pub uninterned_store_bytes : Stored → ℕ
uninterned_store_bytes s =
    total token_size (all_tokens s.parts) +
    (total length (map occurrence_text s.occurrences) + total length (map replacement_bytes s.replacements))

-- The number of bytes of all strings. Equal strings of Words, Numbers and Puncts count once, and so do equal spellings.
abbrev pub interned_store_bytes : Stored → ℕ
interned_store_bytes s =
    interned_token_bytes (all_tokens s.parts) +
    (total length (distinct_strings (map occurrence_text s.occurrences))
    + total length (map replacement_bytes s.replacements))

-- The capacities of the vectors of tokens: of their records, of the places of Marks, and of the index of uses and Defs.
pub record TokenRooms : Type 0 where
  pub records : ℕ
  pub places : ℕ
  pub uses : ℕ
  pub defs : ℕ

-- The capacities of the vectors of tokens and of the ranges of parts.
pub record Rooms : Type 0 where
  pub tokens : TokenRooms
  pub ranges : ℕ

-- A builder: its contents and its capacities.
pub record BuilderModel : Type 0 where
  pub contents : Contents
  pub rooms : Rooms

-- All parts, the open one included.
abbrev pub all_parts : PartsSoFar → List Part
all_parts v = v.closed ++ option_to_list v.current

abbrev pub token_count : PartsSoFar → ℕ
token_count v = length (all_tokens (all_parts v))

abbrev pub part_count : PartsSoFar → ℕ
part_count v = length (all_parts v)

-- The index ranges of the parts that pass a test, if the first token has index n.
abbrev pub numbers_from : (PartKind → Bool) → ℕ → List Part → List declared.Part
numbers_from test n [] = []
numbers_from test n (p ∷ ps) =
    let after = n + length p.tokens in
    let rest = numbers_from test after ps in
    if test p.kind then (record { first = n; after = after }) ∷ rest else rest

-- The index ranges of the parts that pass a test.
abbrev pub numbers_where : (PartKind → Bool) → List Part → List declared.Part
numbers_where test parts = numbers_from test 0 parts

-- The tokens of index ranges, concatenated.
abbrev pub tokens_at : List Token → List declared.Part → List Token
tokens_at tokens numbers = flat_map (λ (p : declared.Part). slice_range tokens p.first p.after) numbers

-- These are the ranges of the parts that pass a test, in order.
pub record AreRangesOf (test : PartKind → Bool) (parts : List Part) (ranges : List declared.Part) : Type 0 where
  pub numbers : ranges ≡ numbers_where test parts
  pub text : tokens_at (all_tokens parts) ranges ≡ joined_where test parts
  pub ordered : All (λ (p : declared.Part). p.first ≤ p.after) ranges
  pub within : All (λ (p : declared.Part). p.after ≤ length (all_tokens parts)) ranges
