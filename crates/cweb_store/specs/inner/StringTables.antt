-- Strings, and the words among them that are interned.
use Rattle.std.specs.Prelude.{◌≡◌, ◌≤◌, ℕ, ◌+◌, Bool, true, List, [], ◌∷◌, ◌++◌, Some, map, length, slice_get, bytes_eq}
use Rattle.std.specs.Prelude.{Result, MatchResult, if◌then◌else◌}
use Rattle.std.specs.List.{list_any}
use Rattle.cweb_store.specs.declared.words.word.Word.{Word}
use Rattle.cweb_store.specs.inner.StringLists.{text_bytes}
use Rattle.cweb_store.specs.inner.Words.{Entries, AreInterned, word_string, entry_word}
use Rattle.cweb_store.specs.surface.Tokens.{with_word}

-- strings are numbered by 32 bits, so there are fewer than this
abbrev pub string_limit : ℕ
string_limit = 4294967295

-- strings, and the interned words in some order
pub record StringTableModel : Type 0 where
  pub strings : List (List ℕ)
  pub words : List (List ℕ)

abbrev pub empty_table : StringTableModel
empty_table = record { strings = []; words = [] }

-- whether a word is interned
abbrev pub has_word : StringTableModel → List ℕ → Bool
has_word kept word = list_any (bytes_eq word) kept.words

-- the strings, with the words of the sorted map and those of the hash table
abbrev pub table_model : List (List ℕ) → List Word → Entries → StringTableModel
table_model strings ws es = record { strings = strings; words = map entry_word es ++ map (word_string strings) ws }

-- at most one string was appended, and the number is that of the string
pub record AddsString (old : StringTableModel) (string : List ℕ) (number : ℕ) (new : StringTableModel) : Type 0 where
  pub more : List (List ℕ)
  pub grows : new.strings ≡ old.strings ++ more
  pub stored : slice_get new.strings number ≡ Some string
  pub words : (q : List ℕ) → has_word new q ≡ has_word old q
  pub bytes : length (text_bytes more) ≡ length string
  pub few : length more ≤ 1

-- a word was interned: its string is the one that was there, or was appended
pub record InternsWord (old : StringTableModel) (word : List ℕ) (number : ℕ) (new : StringTableModel) : Type 0 where
  pub grows : new.strings ≡ (if has_word old word then old.strings else old.strings ++ word ∷ [])
  pub stored : slice_get new.strings number ≡ Some word
  pub words : (q : List ℕ) → has_word new q ≡ list_any (bytes_eq q) (with_word old.words word)

-- a call added a string, or memory is refused and nothing changed
abbrev pub TakesString : {E : Type 0} → StringTableModel → List ℕ → Result ℕ E → StringTableModel → Type 0
TakesString old string result new = MatchResult result (λ number. AddsString old string number new) (λ _. new ≡ old)

-- a call interned a word, or memory is refused and nothing changed
abbrev pub TakesWord : {E : Type 0} → StringTableModel → List ℕ → Result ℕ E → StringTableModel → Type 0
TakesWord old word result new = MatchResult result (λ number. InternsWord old word number new) (λ _. new ≡ old)

-- the string with the number is the byte, and is interned
pub record IsByteId (kept : StringTableModel) (byte number : ℕ) : Type 0 where
  pub stored : slice_get kept.strings number ≡ Some (byte ∷ [])
  pub among : has_word kept (byte ∷ []) ≡ true

-- an entry is 0, or one more than the number of the interned string that is this byte
abbrev pub AreByteIds : StringTableModel → List ℕ → Type 0
AreByteIds kept byte_ids = (byte number : ℕ) → slice_get byte_ids byte ≡ Some (number + 1) → IsByteId kept byte number

-- the invariant of a string table
pub record IsStringTable (strings : List (List ℕ)) (ws : List Word) (es : Entries) (byte_ids : List ℕ) : Type 0 where
  pub interned : AreInterned strings ws es
  pub by_byte : AreByteIds (table_model strings ws es) byte_ids
