-- Strings one after another in a byte buffer, and their edges.
use Rattle.std.specs.Prelude.{◌≡◌, ℕ, Bool, true, false, nat_le, List, [], ◌∷◌, if◌then◌else◌, zero, suc}
use Rattle.std.specs.Prelude.{◌≤◌, ◌++◌, Result, MatchResult, flat_map, drop, length, slice_index_or, slice_range}
use Rattle.std.specs.List.{list_any}
use Rattle.cweb_store.specs.declared.edges.Edge.{Edge}
use Rattle.cweb_store.specs.declared.edges.TokenBytes.{TokenBytes}
use Rattle.cweb_store.specs.surface.Tokens.{punctuator_edge}
use Rattle.cweb_store.specs.declared.edges.Edge.TheVariants as edge_kind

-- a byte that is not ASCII
abbrev pub is_high : ℕ → Bool
is_high b = nat_le 128 b

-- the edge of a string, which is known where all its bytes are ASCII
abbrev pub string_edge : List ℕ → Edge
string_edge b = if list_any is_high b then edge_kind.Unknown else punctuator_edge b

abbrev pub is_known_edge : Edge → Bool
is_known_edge edge_kind.Unknown = false
is_known_edge b = true

-- an edge that is stored for a string is its own, or unknown
abbrev pub IsStoredEdge : List ℕ → Edge → Type 0
IsStoredEdge string b = is_known_edge b ≡ true → b ≡ string_edge string

abbrev pub AreStoredEdges : List (List ℕ) → List Edge → Type 0
AreStoredEdges [] [] = Unit {0}
AreStoredEdges (t ∷ ts) (b ∷ bs) = IsStoredEdge t b × AreStoredEdges ts bs
AreStoredEdges ts bs = ⊥

-- a string and its edge
pub record TokenBytesModel : Type 0 where
  pub string : List ℕ
  pub edge : Edge

abbrev pub token_bytes_model : TokenBytes → TokenBytesModel
token_bytes_model l = record { string = l.string.now; edge = l.edge }

-- the strings with these ends, where the first starts at byte n and each other starts where the one before it ends
abbrev pub strings_from : List ℕ → ℕ → List ℕ → List (List ℕ)
strings_from bytes n [] = []
strings_from bytes n (end ∷ ends) = slice_range bytes n end ∷ strings_from bytes end ends

-- the ends do not decrease, and the last string ends at the last byte
abbrev pub AreEnds : ℕ → List ℕ → ℕ → Type 0
AreEnds n [] all = n ≡ all
AreEnds n (end ∷ ends) all = (n ≤ end) × AreEnds end ends all

-- the bytes of strings
abbrev pub text_bytes : List (List ℕ) → List ℕ
text_bytes strings = flat_map (λ t. t) strings

-- the start of string k, where the first starts at byte n
abbrev pub string_start : ℕ → List ℕ → ℕ → ℕ
string_start n ends zero = n
string_start n [] (suc k) = n
string_start n (end ∷ ends) (suc k) = string_start end ends k

-- the first string starts at byte 0
abbrev pub IsFromStart : List ℕ → Type 0
IsFromStart [] = Unit {0}
IsFromStart (n ∷ ends) = n ≡ 0

-- the lists of a StringList: the bytes, the start of the first string and the end of each, and the stored edges
pub record IsStringList (bytes offsets : List ℕ) (edges : List Edge) : Type 0 where
  pub start : IsFromStart offsets
  pub ends_at : AreEnds 0 (drop 1 offsets) (length bytes)
  pub stored_edges : AreStoredEdges (strings_from bytes 0 (drop 1 offsets)) edges

abbrev pub string_at : List (List ℕ) → ℕ → List ℕ
string_at strings number = slice_index_or strings number []

-- a string was appended, and has this number
pub record IsNext (old : List (List ℕ)) (string : List ℕ) (place : ℕ) (new : List (List ℕ)) : Type 0 where
  pub number : place ≡ length old
  pub added : new ≡ old ++ string ∷ []

-- a call appended a string, or memory is refused and nothing changed
abbrev pub TakesNext : {E : Type 0} → List (List ℕ) → List ℕ → Result ℕ E → List (List ℕ) → Type 0
TakesNext old string result new = MatchResult result (λ number. IsNext old string number new) (λ _. new ≡ old)
