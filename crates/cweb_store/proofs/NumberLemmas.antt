-- Spellings that are stored once, and names by the numbers of their spellings.
use Rattle.cweb_store.proofs.Common.{◌≡◌, ◌≤◌, ◌<◌, ℕ, zero, suc, ◌+◌, ◌∙◌, ◌||◌, Bool, true, false, List, [], ◌∷◌, ◌++◌, Some, Ok, map, drop, length, refl, sym, ap, arith, subst, length-append, append_assoc, map-append, slice_get, slice_get_within, bytes_eq, nat_eq, list_any, position_or_len, fold, if◌then◌else◌, AllByRecursion, total, with_word, How, Full, Prefix, Name, Resolution, id, spellings, with_occurrence_name, occurrence_of, occurrence_text, Distinct, StringTableModel, InternsWord, AreSpansOf, text_bytes}
use Rattle.std.proofs.lemmas.List.Sums.{fold-append}
use Rattle.cweb_store.specs.declared.occurrences.OccurrenceRecord.{OccurrenceRecord}
use Rattle.cweb_store.specs.surface.Tokens.{distinct_strings, too_many}
use Rattle.cweb_store.specs.inner.StringLists.{string_at}
use Rattle.cweb_store.specs.inner.Known.{occurrence_at, occurrences_at, IsOccurrenceTable, IsNameTable, number_at, with_number, numbered, numbered_from}
use Rattle.cweb_store.proofs.StringListLemmas.{get-string}
use Rattle.cweb_store.proofs.NameLemmas.{bytes_eq-same, bytes_eq-sym, Distinct-push, strings-push}
use Rattle.cweb_store.proofs.TotalLemmas.{total-append, with-word-any}
use Rattle.cweb_store.proofs.InterningLemmas.{adds}
use Rattle.cweb_store.proofs.TokenStringLemmas.{string-stored}
use Rattle.cweb_store.proofs.OccurrenceTableLemmas.{drop-at}

-- Distinct strings: their number, their bytes, and one more.
distinct-few-from : (ws ts : List (List ℕ)) → length (fold with_word ws ts) ≤ length ws + length ts
distinct-few-from ws [] = omega arith
distinct-few-from ws (t ∷ ts) =
    grind (arith, distinct-few-from (with_word ws t) ts, length-append ws (t ∷ []), list_any (bytes_eq t) ws)

pub distinct-few : (ts : List (List ℕ)) → length (distinct_strings ts) ≤ length ts
distinct-few ts = omega (arith, distinct-few-from [] ts)

distinct-bytes-from : (ws ts : List (List ℕ))
    → total length (fold with_word ws ts) ≤ total length ws + total length ts
distinct-bytes-from ws [] = omega arith
distinct-bytes-from ws (t ∷ ts) =
    grind (arith, distinct-bytes-from (with_word ws t) ts, total-append length ws (t ∷ []), list_any (bytes_eq t) ws)

pub distinct-bytes : (ts : List (List ℕ)) → total length (distinct_strings ts) ≤ total length ts
distinct-bytes ts = omega (arith, distinct-bytes-from [] ts)

distinct-from : (ws ts : List (List ℕ)) → Distinct ws → Distinct (fold with_word ws ts)
distinct-from ws [] d = d
distinct-from ws (t ∷ ts) d = distinct-from (with_word ws t) ts (step (list_any (bytes_eq t) ws) refl)
  where
    step : (b : Bool) → list_any (bytes_eq t) ws ≡ b → Distinct (if b then ws else ws ++ t ∷ [])
    step true h = d
    step false h = Distinct-push ws t d h

pub distinct-is : (ts : List (List ℕ)) → Distinct (distinct_strings ts)
distinct-is ts = distinct-from [] ts tt

-- More strings.
string-grow : (strings more : List (List ℕ)) (n : ℕ) → n < length strings
    → string_at (strings ++ more) n ≡ string_at strings n
string-grow [] more n h = absurd (let none : ⊥ = omega arith in none)
string-grow (t ∷ ts) more zero h = refl
string-grow (t ∷ ts) more (suc n) h = string-grow ts more n (omega arith)

abbrev pub AreRecordsWithin : ℕ → List OccurrenceRecord → Type 0
AreRecordsWithin n rs = AllByRecursion (λ (r : OccurrenceRecord). r.spelling < n) rs

occurrences-grow : (strings more : List (List ℕ)) (rs : List OccurrenceRecord) → AreRecordsWithin (length strings) rs
    → occurrences_at (strings ++ more) rs ≡ occurrences_at strings rs
occurrences-grow strings more [] h = refl
occurrences-grow strings more (r ∷ rs) h =
    cc (string-grow strings more r.spelling h.0, occurrences-grow strings more rs h.1)

within-push : (n m : ℕ) (rs : List OccurrenceRecord) (r : OccurrenceRecord) → AreRecordsWithin n rs → n ≤ m
    → r.spelling < m → AreRecordsWithin m (rs ++ r ∷ [])
within-push n m [] r h le less = (less, tt)
within-push n m (s ∷ rs) r h le less = (omega (arith, h.0, le), within-push n m rs r h.1 le less)

-- One more occurrence.
pub added-is : (old new : StringTableModel) (rs : List OccurrenceRecord) (word : List ℕ) (r : OccurrenceRecord)
    → IsNameTable old rs → InternsWord old word r.spelling new
    → occurrences_at new.strings (rs ++ r ∷ []) ≡ occurrences_at old.strings rs
    ++ occurrence_of word r.how r.is_file ∷ []
added-is old new rs word r are keeps =
    let more = adds old word r.spelling new keeps in
    let text : string_at new.strings r.spelling ≡ word = get-string new.strings r.spelling word keeps.stored in
    map-append (occurrence_at new.strings) rs (r ∷ [])
    ∙ (λ i. (ap (λ ts. occurrences_at ts rs) more.grows
    ∙ occurrences-grow old.strings more.more rs are.table.within) i ++ occurrence_of (text i) r.how r.is_file ∷ [])

strings-are : (old new : StringTableModel) (rs : List OccurrenceRecord) (word : List ℕ) (number : ℕ)
    → IsNameTable old rs → InternsWord old word number new → new.strings ≡ with_word old.strings word
strings-are old new rs word number are keeps =
    keeps.grows ∙ ap (λ b. if b then old.strings else old.strings ++ word ∷ []) (are.interned word)

pub added-are : (old new : StringTableModel) (rs : List OccurrenceRecord) (word : List ℕ) (r : OccurrenceRecord)
    → IsNameTable old rs → InternsWord old word r.spelling new → length rs + 1 < too_many
    → IsNameTable new (rs ++ r ∷ [])
added-are old new rs word r are keeps few =
    let more = adds old word r.spelling new keeps in
    let strings = strings-are old new rs word r.spelling are keeps in
    let texts = map occurrence_text (occurrences_at old.strings rs) in
    let grown : map occurrence_text (occurrences_at new.strings (rs ++ r ∷ [])) ≡ texts ++ word ∷ [] =
    ap (map occurrence_text) (added-is old new rs word r are keeps)
    ∙ map-append occurrence_text (occurrences_at old.strings rs) (occurrence_of word r.how r.is_file ∷ []) in
    record {
      table = record {
        once = strings ∙ ap (λ ts. with_word ts word) are.table.once ∙ sym (fold-append with_word [] texts (word ∷ []))
            ∙ ap distinct_strings (sym grown);
        within = within-push (length old.strings) (length new.strings) rs r are.table.within
            (omega (arith, ap length more.grows, length-append old.strings more.more))
            (slice_get_within new.strings r.spelling word keeps.stored);
        few = omega (arith, length-append rs (r ∷ []), few);
      };
      interned = λ q.
          keeps.words q ∙ with-word-any q old.words word ∙ ap (λ b. b || bytes_eq q word) (are.interned q)
          ∙ sym (with-word-any q old.strings word) ∙ ap (list_any (bytes_eq q)) (sym strings);
    }

-- There are no more strings than occurrences.
pub strings-few : (strings : List (List ℕ)) (rs : List OccurrenceRecord) → IsOccurrenceTable strings rs
    → length strings ≤ length rs
strings-few strings rs are =
    omega (
      arith,
      ap length are.once,
      distinct-few (map occurrence_text (occurrences_at strings rs)),
      length-map-map strings rs,
    )
  where
    length-map-map : (ts : List (List ℕ)) (rs : List OccurrenceRecord)
        → length (map occurrence_text (occurrences_at ts rs)) ≡ length rs
    length-map-map ts [] = refl
    length-map-map ts (r ∷ rs) = omega (arith, length-map-map ts rs)

-- The spellings are in one list of bytes.
pub spellings-valid : (strings : List (List ℕ)) (rs : List OccurrenceRecord) → AreRecordsWithin (length strings) rs
    → AreSpansOf (text_bytes strings) (map occurrence_text (occurrences_at strings rs))
spellings-valid strings [] h = tt
spellings-valid strings (r ∷ rs) h =
    (string-stored strings r.spelling h.0, spellings-valid strings rs h.1)

-- Distinct strings are equal exactly if their numbers are.
not-there : (t : List ℕ) (ts : List (List ℕ)) (n : ℕ) → list_any (bytes_eq t) ts ≡ false → n < length ts
    → bytes_eq t (string_at ts n) ≡ false
not-there t [] n none h = absurd (let no : ⊥ = omega arith in no)
not-there t (u ∷ ts) zero none h = grind (arith, bytes_eq t u)
not-there t (u ∷ ts) (suc n) none h = grind (arith, bytes_eq t u, not-there t ts n)

same-number : (strings : List (List ℕ)) (k n : ℕ) → Distinct strings → k < length strings → n < length strings
    → nat_eq k n ≡ bytes_eq (string_at strings k) (string_at strings n)
same-number [] k n d h g = absurd (let none : ⊥ = omega arith in none)
same-number (t ∷ ts) zero zero d h g = sym (bytes_eq-same t)
same-number (t ∷ ts) zero (suc n) d h g = grind (arith, not-there t ts n)
same-number (t ∷ ts) (suc k) zero d h g = grind (arith, not-there t ts k, bytes_eq-sym (string_at ts k) t)
same-number (t ∷ ts) (suc k) (suc n) d h g = grind (arith, same-number ts k n d.1)

abbrev pub AreNumbersWithin : ℕ → List ℕ → Type 0
AreNumbersWithin n keys = AllByRecursion (λ (k : ℕ). k < n) keys

same-any : (strings : List (List ℕ)) (k : ℕ) (keys : List ℕ) → Distinct strings → k < length strings
    → AreNumbersWithin (length strings) keys
    → list_any (nat_eq k) keys ≡ list_any (bytes_eq (string_at strings k)) (map (string_at strings) keys)
same-any strings k [] d h within = refl
same-any strings k (n ∷ keys) d h within =
    (λ i. same-number strings k n d h within.0 i || same-any strings k keys d h within.1 i)

same-position : (strings : List (List ℕ)) (k : ℕ) (keys : List ℕ) → Distinct strings → k < length strings
    → AreNumbersWithin (length strings) keys → position_or_len (nat_eq k) keys
    ≡ position_or_len (bytes_eq (string_at strings k)) (map (string_at strings) keys)
same-position strings k [] d h within = refl
same-position strings k (n ∷ keys) d h within =
    grind (arith, same-number strings k n d h within.0, same-position strings k keys d h within.1)

-- Names after one more occurrence, by the numbers of their spellings.
pub record AreNumbered (strings : List (List ℕ)) (rs : List OccurrenceRecord) (i : ℕ) (keys : List ℕ)
    (done : List Resolution) : Type 0 where
  pub names : List Name
  pub spelled : map (string_at strings) keys ≡ spellings names
  pub within : AreNumbersWithin (length strings) keys
  pub rest : done ++ numbered_from i names (occurrences_at strings (drop i rs))
      ≡ numbered_from 0 [] (occurrences_at strings rs)
  pub few : length keys ≤ i

-- The numbers and the names after an occurrence.
record IsStep (strings : List (List ℕ)) (keys : List ℕ) (ns : List Name) (i : ℕ) (r : OccurrenceRecord)
    : Type 0 where
  pub number : number_at keys r ≡ numbered ns (occurrence_at strings r)
  pub spelled : map (string_at strings) (with_number keys r)
      ≡ spellings (with_occurrence_name i ns (occurrence_at strings r))
  pub within : AreNumbersWithin (length strings) (with_number keys r)
  pub few : length (with_number keys r) ≤ length keys + 1

keys-push : (n k : ℕ) (keys : List ℕ) → AreNumbersWithin n keys → k < n → AreNumbersWithin n (keys ++ k ∷ [])
keys-push n k [] h less = (less, tt)
keys-push n k (m ∷ keys) h less = (h.0, keys-push n k keys h.1 less)

number-step : (strings : List (List ℕ)) (keys : List ℕ) (ns : List Name) (i k : ℕ) (how : How) (is_file : Bool)
    → Distinct strings → map (string_at strings) keys ≡ spellings ns → AreNumbersWithin (length strings) keys
    → k < length strings → IsStep strings keys ns i (record { spelling = k; how = how; is_file = is_file })
number-step strings keys ns i k Prefix is_file d spelled within less =
    record { number = refl; spelled = spelled; within = within; few = omega arith }
number-step strings keys ns i k Full is_file d spelled within less =
    let text = string_at strings k in
    let any : list_any (nat_eq k) keys ≡ list_any (bytes_eq text) (spellings ns) =
    same-any strings k keys d less within ∙ ap (list_any (bytes_eq text)) spelled in
    let n : Name = record { text = text; first = i } in
    let r : OccurrenceRecord = record { spelling = k; how = Full; is_file = is_file } in
    record {
      number = ap (λ p. let x : Resolution = Ok (id p) in x)
          (same-position strings k keys d less within ∙ ap (position_or_len (bytes_eq text)) spelled);
      spelled = by (list_any (nat_eq k) keys) any;
      within = all (list_any (nat_eq k) keys);
      few = count (list_any (nat_eq k) keys);
    }
  where
    by : (b : Bool) → b ≡ list_any (bytes_eq (string_at strings k)) (spellings ns)
        → map (string_at strings) (if b then keys else keys ++ k ∷ [])
        ≡ spellings (if list_any (bytes_eq (string_at strings k)) (spellings ns) then ns
        else ns ++ (record { text = string_at strings k; first = i }) ∷ [])
    by b e =
        grind (
          arith,
          b,
          e,
          spelled,
          map-append (string_at strings) keys (k ∷ []),
          strings-push ns (record { text = string_at strings k; first = i }),
        )

    all : (b : Bool) → AreNumbersWithin (length strings) (if b then keys else keys ++ k ∷ [])
    all true = within
    all false = keys-push (length strings) k keys within less

    count : (b : Bool) → length (if b then keys else keys ++ k ∷ []) ≤ length keys + 1
    count true = omega arith
    count false = omega (arith, length-append keys (k ∷ []))

record-within : (n : ℕ) (rs : List OccurrenceRecord) (i : ℕ) (r : OccurrenceRecord) → AreRecordsWithin n rs
    → slice_get rs i ≡ Some r → r.spelling < n
record-within n [] i r h there = cc
record-within n (s ∷ rs) zero r h there = subst (λ (x : OccurrenceRecord). x.spelling < n) (same there) h.0
  where
    same : Some s ≡ Some r → s ≡ r
    same e = cc
record-within n (s ∷ rs) (suc i) r h there = record-within n rs i r h.1 there

pub numbered-next : (strings : List (List ℕ)) (rs : List OccurrenceRecord) (i : ℕ) (keys : List ℕ)
    (done : List Resolution) (r : OccurrenceRecord) (x : Resolution) → IsOccurrenceTable strings rs
    → slice_get rs i ≡ Some r → AreNumbered strings rs i keys done → x ≡ number_at keys r
    → AreNumbered strings rs (i + 1) (with_number keys r) (done ++ x ∷ [])
numbered-next strings rs i keys done r x table there all is =
    let o = occurrence_at strings r in
    let distinct = subst Distinct (sym table.once)
    (distinct-is (map occurrence_text (occurrences_at strings rs))) in
    let step = number-step strings keys all.names i r.spelling r.how r.is_file distinct all.spelled all.within
    (record-within (length strings) rs i r table.within there) in
    let rest = occurrences_at strings (drop (i + 1) rs) in
    let next = with_occurrence_name i all.names o in
    record {
      names = next;
      spelled = step.spelled;
      within = step.within;
      few = omega (arith, step.few, all.few);
      rest = append_assoc done (x ∷ []) (numbered_from (i + 1) next rest)
          ∙ ap (λ y. done ++ y ∷ numbered_from (i + 1) next rest) (is ∙ step.number)
          ∙ ap (λ us. done ++ numbered_from i all.names (occurrences_at strings us)) (sym (drop-at rs i r there))
          ∙ all.rest;
    }
