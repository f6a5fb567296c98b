-- What interning a word does, by where the word is found or added.
use Rattle.cweb_store.proofs.Common.{◌≡◌, ◌≤◌, ◌+◌, ℕ, Bool, subst, ◌∙◌, sym, ap, total, with_word, text_bytes, true, false, ◌||◌, List, [], ◌∷◌, ◌++◌, map, length, Some, None, refl, arith, length-append, append-nil, map-append, or_comm, list_any-append, slice_get, bytes_eq, Vec, list_any, lookup, is_eq, nat_cmp, slice_cmp, Global, Entries, AreBytes, FindsString, PushesWord, AreInterned, IsInserted, word_string, have_string, entry_word, StringTableModel, AddsString, InternsWord, has_word, table_model}
use Rattle.cweb_store.specs.declared.words.word.Word.{Word}
use Rattle.cweb_store.specs.inner.Words.{key_of, AreMapped, InternsSorted, is_word}
use Rattle.std.proofs.lemmas.Option.{slice_get_within}
use Rattle.std.specs.Prelude.{if◌then◌else◌, unwrap_or}
use Rattle.cweb_store.proofs.ListLemmas.{get-push, or-assoc, or-last}
use Rattle.cweb_store.proofs.StringListLemmas.{get-last, get-string}
use Rattle.cweb_store.proofs.TotalLemmas.{total-append, with-word-any}
use Rattle.cweb_store.proofs.TableLemmas.{describes-grow, same-strings}
use Rattle.cweb_store.proofs.MapLemmas.{mapped-grow, find-word, no-word, insert-any, insert-mapped}

-- The strings that interning a word adds: none or one.
pub record AddsAtMostOne (old : StringTableModel) (word : List ℕ) (new : StringTableModel) : Type 0 where
  pub more : List (List ℕ)
  pub grows : new.strings ≡ old.strings ++ more
  pub bytes : length (text_bytes more) + total length old.words ≡ total length (with_word old.words word)
  pub few : length more ≤ 1

adds-by : (old new : StringTableModel) (word : List ℕ) (b : Bool) → has_word old word ≡ b
    → new.strings ≡ (if b then old.strings else old.strings ++ word ∷ []) → AddsAtMostOne old word new
adds-by old new word true has grows = record {
  more = [];
  grows = grows ∙ sym (append-nil old.strings);
  bytes = omega (arith, ap (λ b. total length (if b then old.words else old.words ++ word ∷ [])) has);
  few = omega arith;
}
adds-by old new word false has grows = record {
  more = word ∷ [];
  grows = grows;
  bytes = omega (
    arith,
    ap (λ b. total length (if b then old.words else old.words ++ word ∷ [])) has,
    total-append length old.words (word ∷ []),
    length-append word [],
  );
  few = omega arith;
}

pub adds : (old : StringTableModel) (word : List ℕ) (number : ℕ) (new : StringTableModel)
    → InternsWord old word number new → AddsAtMostOne old word new
adds old word number new keeps = adds-by old new word (has_word old word) refl keeps.grows

-- a word that is interned already
pub known : (old : StringTableModel) (word : List ℕ) (number : ℕ) → has_word old word ≡ true
    → slice_get old.strings number ≡ Some word → InternsWord old word number old
known old word number h stored = grind (arith, append-nil old.strings)

pub found-known : (strings : List (List ℕ)) (ws : List Word) (es : Entries) (word : List ℕ) (number : ℕ)
    → FindsString strings ws word number
    → InternsWord (table_model strings ws es) word number (table_model strings ws es)
found-known strings ws es word number found = grind (arith, known, list_any-append, or_comm)

pub mapped-known : (strings : List (List ℕ)) (ws : List Word) (es : Entries) (word : List ℕ) (number : ℕ)
    → AreInterned strings ws es → lookup (λ (k : Vec ℕ Global). is_eq (slice_cmp nat_cmp word k.items)) es ≡ Some number
    → InternsWord (table_model strings ws es) word number (table_model strings ws es)
mapped-known strings ws es word number interned found =
    let there = find-word strings word es number found interned.in_map in
    known (table_model strings ws es) word number (list_any-append (bytes_eq word) (map entry_word es)
    (map (word_string strings) ws)
    ∙ ap (λ b. b || list_any (bytes_eq word) (map (word_string strings) ws)) there.among) there.stored

-- a word that is neither in the table nor in the map is not interned
pub not-interned : (strings : List (List ℕ)) (ws : List Word) (es : Entries) (word : List ℕ)
    → have_string strings ws word ≡ false
    → lookup (λ (k : Vec ℕ Global). is_eq (slice_cmp nat_cmp word k.items)) es ≡ None
    → has_word (table_model strings ws es) word ≡ false
not-interned strings ws es word none absent = grind (arith, no-word, list_any-append)

-- more strings
pub interned-grow : (strings more : List (List ℕ)) (ws : List Word) (es : Entries) → AreInterned strings ws es
    → AreInterned (strings ++ more) ws es
interned-grow strings more ws es interned =
    grind (arith, describes-grow strings more, mapped-grow strings more es interned.in_map)

-- a string that is not interned
pub string-keeps : (strings : List (List ℕ)) (ws : List Word) (es : Entries) (string : List ℕ) (number : ℕ)
    → AreInterned strings ws es → number ≡ length strings
    → AddsString (table_model strings ws es) string number (table_model (strings ++ string ∷ []) ws es)
string-keeps strings ws es string number interned last = grind (arith, get-last, same-strings, length-append)

-- a word that is new
new-keeps : (old : StringTableModel) (word : List ℕ) (number : ℕ) (new : StringTableModel) → has_word old word ≡ false
    → new.strings ≡ old.strings ++ word ∷ [] → slice_get new.strings number ≡ Some word
    → ((q : List ℕ) → has_word new q ≡ (has_word old q || bytes_eq q word)) → InternsWord old word number new
new-keeps old word number new absent grows stored words = grind (arith, with-word-any, length-append, total-append)

-- in the table
pub table-interned : (strings : List (List ℕ)) (ws new : List Word) (es : Entries) (word : List ℕ) (number : ℕ)
    → AreInterned strings ws es → AreBytes word → PushesWord ws (key_of word) (length word) number new
    → number ≡ length strings → AreInterned (strings ++ word ∷ []) new es
table-interned strings ws new es word number interned bytes push last =
    grind (
      arith,
      interned-grow strings (word ∷ []) ws es interned,
      get-push ws push.word,
      get-last strings word number last,
    )

pub table-keeps : (strings : List (List ℕ)) (ws new : List Word) (es : Entries) (word : List ℕ) (number : ℕ)
    → AreInterned strings ws es → PushesWord ws (key_of word) (length word) number new → number ≡ length strings
    → has_word (table_model strings ws es) word ≡ false
    → InternsWord (table_model strings ws es) word number (table_model (strings ++ word ∷ []) new es)
table-keeps strings ws new es word number interned push last absent =
    let more = strings ++ word ∷ [] in
    grind (
      arith,
      new-keeps (table_model strings ws es) word number (table_model more new es) absent refl
          (get-last strings word number last),
      get-last strings word number last,
      get-string more push.word.number word,
      map-append (word_string more) ws (push.word ∷ []),
      same-strings strings (word ∷ []) ws interned.in_table,
      list_any-append {X = List ℕ},
      or-assoc,
      or_comm,
    )

-- A word with one search of the map: it was there.
pub sorted-known : (strings : List (List ℕ)) (es more : Entries) (word : List ℕ) (number next : ℕ)
    → AreMapped strings es → number ≡ unwrap_or (lookup (is_word word) es) next → (number ≡ next → ⊥)
    → IsInserted es word number more → InternsSorted strings es word number strings more
sorted-known strings es more word number next mapped is other put =
    grind (arith, lookup (is_word word) es, is, other, put, find-word strings word es number)

-- Or it is the last string now.
pub sorted-new : (strings : List (List ℕ)) (es more : Entries) (word : List ℕ) (number next : ℕ)
    → AreMapped strings es → next ≡ length strings → number ≡ unwrap_or (lookup (is_word word) es) next
    → number ≡ next → IsInserted es word number more
    → InternsSorted strings es word number (strings ++ word ∷ []) more
sorted-new strings es more word number next mapped last is same put =
    grind (
      arith,
      lookup (is_word word) es,
      is,
      same,
      last,
      put,
      no-word word es,
      get-last strings word number,
      find-word strings word es number,
      slice_get_within strings number word,
    )

pub sorted-interned : (strings new : List (List ℕ)) (ws : List Word) (es more : Entries) (word : List ℕ) (number : ℕ)
    → AreInterned strings ws es → InternsSorted strings es word number new more → AreInterned new ws more
sorted-interned strings new ws es more word number interned put =
    grind (
      arith,
      list_any (bytes_eq word) (map entry_word es),
      put.grows,
      interned-grow strings (word ∷ []) ws es interned,
      insert-mapped new word es more number put.stored,
      put.inserted,
      interned,
    )

-- A word that is found in the map adds nothing.
found-keeps : (strings : List (List ℕ)) (ws : List Word) (es more : Entries) (word : List ℕ) (number : ℕ)
    → list_any (bytes_eq word) (map entry_word es) ≡ true → slice_get strings number ≡ Some word
    → IsInserted es word number more
    → InternsWord (table_model strings ws es) word number (table_model strings ws more)
found-keeps strings ws es more word number among stored put =
    let old = map entry_word es ++ map (word_string strings) ws in
    let has : list_any (bytes_eq word) old ≡ true =
    list_any-append (bytes_eq word) (map entry_word es) (map (word_string strings) ws)
    ∙ ap (λ b. b || list_any (bytes_eq word) (map (word_string strings) ws)) among in
    record {
      grows = ap (λ b. if b then strings else strings ++ word ∷ []) (sym has);
      stored = stored;
      words = λ q.
          grind (
            arith,
            list_any-append (bytes_eq q) (map entry_word more) (map (word_string strings) ws),
            list_any-append (bytes_eq q) (map entry_word es) (map (word_string strings) ws),
            insert-any q word es more number put,
            with-word-any q old word,
            or-last,
          );
    }

-- A word that is new in the map and not in the table.
added-keeps : (strings : List (List ℕ)) (ws : List Word) (es more : Entries) (word : List ℕ) (number : ℕ)
    → AreInterned strings ws es → list_any (bytes_eq word) (map entry_word es) ≡ false
    → have_string strings ws word ≡ false → slice_get (strings ++ word ∷ []) number ≡ Some word
    → IsInserted es word number more
    → InternsWord (table_model strings ws es) word number (table_model (strings ++ word ∷ []) ws more)
added-keeps strings ws es more word number interned absent none stored put =
    let new = strings ++ word ∷ [] in
    let nowhere : has_word (table_model strings ws es) word ≡ false =
    list_any-append (bytes_eq word) (map entry_word es) (map (word_string strings) ws)
    ∙ (λ i. absent i || none i) in
    new-keeps (table_model strings ws es) word number (table_model new ws more) nowhere refl stored (λ q.
    grind (
      arith,
      same-strings strings (word ∷ []) ws interned.in_table,
      list_any-append (bytes_eq q) (map entry_word more) (map (word_string new) ws),
      list_any-append (bytes_eq q) (map entry_word es) (map (word_string strings) ws),
      insert-any q word es more number put,
      or-last,
    ))

pub sorted-keeps : (strings new : List (List ℕ)) (ws : List Word) (es more : Entries) (word : List ℕ) (number : ℕ)
    → AreInterned strings ws es → have_string strings ws word ≡ false
    → InternsSorted strings es word number new more
    → InternsWord (table_model strings ws es) word number (table_model new ws more)
sorted-keeps strings new ws es more word number interned none put =
    by (list_any (bytes_eq word) (map entry_word es)) refl put.grows
  where
    by : (b : Bool) → list_any (bytes_eq word) (map entry_word es) ≡ b
        → new ≡ (if b then strings else strings ++ word ∷ [])
        → InternsWord (table_model strings ws es) word number (table_model new ws more)
    by true among grows = subst (λ (ts : List (List ℕ)).
        InternsWord (table_model strings ws es) word number (table_model ts ws more)) (sym grows)
        (found-keeps strings ws es more word number among
        (subst (λ (ts : List (List ℕ)). slice_get ts number ≡ Some word) grows put.stored) put.inserted)
    by false absent grows = subst (λ (ts : List (List ℕ)).
        InternsWord (table_model strings ws es) word number (table_model ts ws more)) (sym grows)
        (added-keeps strings ws es more word number interned absent none
        (subst (λ (ts : List (List ℕ)). slice_get ts number ≡ Some word) grows put.stored) put.inserted)
