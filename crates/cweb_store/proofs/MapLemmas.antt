-- Words in the sorted map.
use Rattle.cweb_store.proofs.Common.{arith, ◌≡◌, ℕ, true, false, ◌||◌, List, [], ◌∷◌, ◌++◌, map, Some, None, refl, sym, ◌∙◌, ap, slice_get, bytes_eq, Vec, list_any, lookup, insert_entry, is_eq, nat_cmp, slice_cmp, bytes_decides, Equal, Global, is_eq-slice_cmp, compare_vecs, Entries, AreMapped, IsInserted, entry_word, or_comm}
use Rattle.cweb_store.proofs.ListLemmas.{or-assoc}
use Rattle.cweb_store.proofs.StringListLemmas.{get-grow}

pub mapped-grow : (strings more : List (List ℕ)) (es : Entries) → AreMapped strings es → AreMapped (strings ++ more) es
mapped-grow strings more [] h = tt
mapped-grow strings more (e ∷ es) h = (get-grow strings more e.1 e.0.items h.0, mapped-grow strings more es h.1)

same-bytes : (q k : List ℕ) → is_eq (slice_cmp nat_cmp q k) ≡ true → q ≡ k
same-bytes q k h = (bytes_decides q k).0 (sym (is_eq-slice_cmp q k) ∙ h)

-- a word that is found in the map is the string with its number
pub record FoundWord (strings : List (List ℕ)) (q : List ℕ) (es : Entries) (number : ℕ) : Type 0 where
  pub stored : slice_get strings number ≡ Some q
  pub among : list_any (bytes_eq q) (map entry_word es) ≡ true

pub find-word : (strings : List (List ℕ)) (q : List ℕ) (es : Entries) (number : ℕ)
    → lookup (λ (k : Vec ℕ Global). is_eq (slice_cmp nat_cmp q k.items)) es ≡ Some number → AreMapped strings es
    → FoundWord strings q es number
find-word strings q [] number h m = cc
find-word strings q (e ∷ es) number h m =
    grind (
      arith,
      is_eq (slice_cmp nat_cmp q e.0.items),
      h,
      m,
      same-bytes q e.0.items,
      is_eq-slice_cmp q e.0.items,
      find-word strings q es number,
    )

pub no-word : (q : List ℕ) (es : Entries) → lookup (λ (k : Vec ℕ Global). is_eq (slice_cmp nat_cmp q k.items)) es ≡ None
    → list_any (bytes_eq q) (map entry_word es) ≡ false
no-word q [] h = refl
no-word q (e ∷ es) h = grind (arith, is_eq-slice_cmp q e.0.items, no-word q es)

equal-key : (key : Vec ℕ Global) (e : Vec ℕ Global × ℕ) → compare_vecs key e.0 ≡ Equal → key.items ≡ e.0.items
equal-key key e is = same-bytes key.items e.0.items (ap is_eq is)

entry-any : (q : List ℕ) (es : Entries) (key : Vec ℕ Global) (number : ℕ)
    → list_any (bytes_eq q) (map entry_word (insert_entry compare_vecs es key number))
    ≡ (list_any (bytes_eq q) (map entry_word es) || bytes_eq q key.items)
entry-any q [] key number = or_comm (bytes_eq q key.items) false
entry-any q (e ∷ es) key number = grind (arith, equal-key key e, entry-any q es key number, or-assoc)

entry-mapped : (strings : List (List ℕ)) (es : Entries) (key : Vec ℕ Global) (number : ℕ)
    → slice_get strings number ≡ Some key.items → AreMapped strings es
    → AreMapped strings (insert_entry compare_vecs es key number)
entry-mapped strings [] key number stored m = (stored, tt)
entry-mapped strings (e ∷ es) key number stored m =
    grind (arith, equal-key key e, entry-mapped strings es key number stored m.1)

-- a word that was inserted into the map
pub insert-any : (q word : List ℕ) (es new : Entries) (number : ℕ) → IsInserted es word number new
    → list_any (bytes_eq q) (map entry_word new) ≡ (list_any (bytes_eq q) (map entry_word es) || bytes_eq q word)
insert-any q word es new number put = cc (entry-any q es put.key number)

pub insert-mapped : (strings : List (List ℕ)) (word : List ℕ) (es new : Entries) (number : ℕ)
    → slice_get strings number ≡ Some word → AreMapped strings es → IsInserted es word number new
    → AreMapped strings new
insert-mapped strings word es new number stored m put = grind (arith, entry-mapped, number)
