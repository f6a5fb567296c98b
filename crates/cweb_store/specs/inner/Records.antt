-- Tokens as records with string indices, the places of Marks, and the index of uses.
use Rattle.std.specs.Prelude.{◌≡◌, ◌<◌, ◌≤◌, ℕ, ◌+◌, List, [], ◌∷◌, ◌++◌, length, map, slice_index_or, filter, bytes_eq}
use Rattle.std.specs.Prelude.{Bool, true, false, Some, slice_get, slice_range, option_map, if◌then◌else◌}
use Rattle.std.specs.List.{list_any}
use Rattle.cweb_store.specs.Parts.{Place, Token, is_defs}
use Rattle.cweb_store.specs.inner.StringLists.{string_at, text_bytes}
use Rattle.cweb_store.specs.inner.PartRanges.{has_string}
use Rattle.cweb_store.specs.surface.Tokens.{with_word_of, other_bytes, interned_token_bytes, words_of, total, TokenRooms}
use Rattle.cweb_store.specs.inner.StringTables.{StringTableModel, has_word}
use Rattle.cweb_store.specs.declared.tokens.records.Record.{Record}
use Rattle.cweb_store.specs.declared.tokens.records.Record.TheVariants.{Word, Number, Literal, Verbatim, Punct, Blank}
use Rattle.cweb_store.specs.declared.tokens.records.Record.TheVariants.{Newline, Join, Defs, Name, Head, Tail, Mark}
use Rattle.cweb_store.specs.declared.parts.Part.{Part}
use Rattle.cweb_store.specs.declared.tokens.token_index.TokenIndex.{TokenIndex}
use Rattle.cweb_store.specs.Parts as spec

-- The place of a Mark with this number.
abbrev pub place_at : List Place → ℕ → Place
place_at places number = slice_index_or places number (record { file = record { 0 = 0 }; line = 0 })

abbrev pub token_of_record : List (List ℕ) → List Place → Record → spec.Token
token_of_record strings places (Word n) = spec.Word (string_at strings n)
token_of_record strings places (Number n) = spec.Number (string_at strings n)
token_of_record strings places (Literal n) = spec.Literal (string_at strings n)
token_of_record strings places (Verbatim n) = spec.Verbatim (string_at strings n)
token_of_record strings places (Punct n) = spec.Punct (string_at strings n)
token_of_record strings places Blank = spec.Blank
token_of_record strings places Newline = spec.Newline
token_of_record strings places Join = spec.Join
token_of_record strings places Defs = spec.Defs
token_of_record strings places (Name n) = spec.Name (record { 0 = n })
token_of_record strings places (Head section) = spec.Head section
token_of_record strings places (Tail section) = spec.Tail section
token_of_record strings places (Mark n) = spec.Mark (place_at places n)

abbrev pub tokens_of : List (List ℕ) → List Place → List Record → List spec.Token
tokens_of strings places records = map (token_of_record strings places) records

-- The string index of a record, if it has one, is below n.
abbrev pub StringIsWithin : ℕ → Record → Type 0
StringIsWithin n (Word number) = number < n
StringIsWithin n (Number number) = number < n
StringIsWithin n (Literal number) = number < n
StringIsWithin n (Verbatim number) = number < n
StringIsWithin n (Punct number) = number < n
StringIsWithin n r = Unit {0}

-- The place index of a record, if it has one, is `number`.
abbrev pub PlaceHasNumber : ℕ → Record → Type 0
PlaceHasNumber number (Mark n) = n ≡ number
PlaceHasNumber number r = Unit {0}

-- The place index of a record, if it has one, is below `count`.
abbrev pub PlaceIsWithin : ℕ → Record → Type 0
PlaceIsWithin count (Mark n) = n < count
PlaceIsWithin count r = Unit {0}

-- The number of places of a record: 0 or 1.
abbrev pub places_of : Record → ℕ
places_of (Mark n) = 1
places_of r = 0

-- String indices are below n. Place indices are consecutive, from `number` up to `end`.
abbrev pub AreRecords : ℕ → ℕ → List Record → ℕ → Type 0
AreRecords n number [] end = number ≡ end
AreRecords n number (r ∷ rs) end =
    StringIsWithin n r × PlaceHasNumber number r × AreRecords n (number + places_of r) rs end

-- The place of a record, if it has one, is appended.
pub record AddsPlace (old : List Place) (r : Record) (new : List Place) : Type 0 where
  pub more : List Place
  pub grows : new ≡ old ++ more
  pub at : PlaceHasNumber (length old) r
  pub count : length new ≡ length old + places_of r

-- All old strings are unchanged, and the record resolves to the token.
pub record InternsToken (old : StringTableModel) (token : spec.Token) (places : List Place) (r : Record)
    (new : StringTableModel) : Type 0 where
  pub more : List (List ℕ)
  pub grows : new.strings ≡ old.strings ++ more
  pub within : StringIsWithin (length new.strings) r
  pub stored : token_of_record new.strings places r ≡ token
  pub words : (q : List ℕ) → has_word new q ≡ list_any (bytes_eq q) (with_word_of old.words token)
  pub bytes : length (text_bytes more) + total length old.words
      ≡ total length (with_word_of old.words token) + other_bytes token
  pub few : length more ≤ length (filter has_string (token ∷ []))

-- A use of a name.
abbrev pub is_name_use : Token → Bool
is_name_use (spec.Name name) = true
is_name_use token = false

-- The index of the first passing token of a part, or the end of the part if there is none.
pub record IsNextNumber (test : Token → Bool) (tokens : List Token) (part : Part) (next : ℕ) : Type 0 where
  pub begins : part.first ≤ next
  pub within : next ≤ part.after
  pub before : list_any test (slice_range tokens part.first next) ≡ false
  pub found : next < part.after → option_map test (slice_get tokens next) ≡ Some true

-- The indices of the tokens that pass a test, if the first token has index n.
abbrev pub token_numbers : (Token → Bool) → ℕ → List Token → List ℕ
token_numbers test n [] = []
token_numbers test n (t ∷ ts) = let rest = token_numbers test (n + 1) ts in if test t then n ∷ rest else rest

-- The index has exactly the uses and the Defs of the tokens.
pub record IsTokenIndex (token_index : TokenIndex) (tokens : List Token) : Type 0 where
  pub uses : token_index.uses.items ≡ token_numbers is_name_use 0 tokens
  pub defs : token_index.defs.items ≡ token_numbers is_defs 0 tokens

-- The entry of token n, if it needs one, is appended.
pub record AddsNumber (old : TokenIndex) (n : ℕ) (token : Token) (new : TokenIndex) : Type 0 where
  pub uses : new.uses.items ≡ old.uses.items ++ token_numbers is_name_use n (token ∷ [])
  pub defs : new.defs.items ≡ old.defs.items ++ token_numbers is_defs n (token ∷ [])

pub record HasSameEntries (old new : TokenIndex) : Type 0 where
  pub uses : new.uses.items ≡ old.uses.items
  pub defs : new.defs.items ≡ old.defs.items

-- The table has exactly the strings of the records. Equal Words and punctuators are stored once.
pub record AreTokens (kept : StringTableModel) (places : List Place) (records : List Record) : Type 0 where
  pub numbers : AreRecords (length kept.strings) 0 records (length places)
  pub words : (q : List ℕ) → has_word kept q ≡ list_any (bytes_eq q) (words_of (tokens_of kept.strings places records))
  pub bytes : length (text_bytes kept.strings) ≡ interned_token_bytes (tokens_of kept.strings places records)
  pub few : length kept.strings ≤ length (filter has_string (tokens_of kept.strings places records))

-- The uses and Defs of these tokens are indexed.
pub record AreIndexedTokens (kept : StringTableModel) (places : List Place) (records : List Record)
    (token_index : TokenIndex) : Type 0 where
  pub tokens : AreTokens kept places records
  pub index : IsTokenIndex token_index (tokens_of kept.strings places records)

-- Finished tokens: the strings are exactly those of the records, and the uses and Defs are indexed.
pub record AreClosedTokens (strings : List (List ℕ)) (places : List Place) (records : List Record)
    (token_index : TokenIndex) : Type 0 where
  pub numbers : AreRecords (length strings) 0 records (length places)
  pub bytes : length (text_bytes strings) ≡ interned_token_bytes (tokens_of strings places records)
  pub index : IsTokenIndex token_index (tokens_of strings places records)

-- Tokens, and the capacities of their vectors.
pub record TokenListModel : Type 0 where
  pub tokens : List Token
  pub rooms : TokenRooms
