-- Strings in one list of bytes, and how many bytes tokens and strings have.
use Rattle.cweb_store.proofs.Common.{◌≡◌, ℕ, zero, suc, ◌+◌, ◌<◌, ◌≤◌, Bool, List, [], ◌∷◌, ◌++◌, length, take, drop, refl, sym, ◌∙◌, ap, arith, length-append, append_assoc, append-nil, subst, flat_map, filter, bytes_eq, list_any, Token, total, token_strings, interned_token_bytes, AreSpansOf, filter-append, has_string, length-filter, count_by-le-length, Place, Record, AreRecords, InternsToken, StringIsWithin, token_of_record, tokens_of}
use Rattle.std.proofs.lemmas.List.{take-map, take-append-drop}
use Rattle.std.proofs.Math.Seq.{length-take-le}
use Rattle.cweb_store.specs.declared.tokens.records.Record.TheVariants.{Number, Literal, Verbatim, Word, Punct}
use Rattle.cweb_store.specs.inner.StringLists.{text_bytes, string_at}
use Rattle.cweb_store.specs.inner.StringTables.{StringTableModel, has_word}
use Rattle.cweb_store.specs.surface.Tokens.{words_of, other_bytes, IsSpanOf}
use Rattle.cweb_store.specs.inner.Records.{AreTokens, AddsPlace, places_of}
use Rattle.cweb_store.proofs.RecordLemmas.{push-tokens, push-records, tokens-grow, IsCut}
use Rattle.cweb_store.proofs.TotalLemmas.{total-append}
use Rattle.cweb_store.proofs.WordLemmas.{words-push, same-words, same-bytes, same-more, same-more-bytes}

stored-after : (x bytes string : List ℕ) → IsSpanOf bytes string → IsSpanOf (x ++ bytes) string
stored-after x bytes string s = (x ++ s.0, s.1, ap (λ b. x ++ b) s.2 ∙ sym (append_assoc x s.0 (string ++ s.1)))

pub all-after : (x bytes : List ℕ) (ts : List (List ℕ)) → AreSpansOf bytes ts → AreSpansOf (x ++ bytes) ts
all-after x bytes [] h = tt
all-after x bytes (t ∷ ts) h = (stored-after x bytes t h.0, all-after x bytes ts h.1)

stored-before : (bytes x string : List ℕ) → IsSpanOf bytes string → IsSpanOf (bytes ++ x) string
stored-before bytes x string s = grind (arith, s.0, s.2, append_assoc s.0 (string ++ s.1) x, append_assoc string s.1 x)

pub all-before : (bytes x : List ℕ) (ts : List (List ℕ)) → AreSpansOf bytes ts → AreSpansOf (bytes ++ x) ts
all-before bytes x [] h = tt
all-before bytes x (t ∷ ts) h = (stored-before bytes x t h.0, all-before bytes x ts h.1)

pub string-stored : (ts : List (List ℕ)) (n : ℕ) → n < length ts → IsSpanOf (text_bytes ts) (string_at ts n)
string-stored [] n h = absurd (let none : ⊥ = omega arith in none)
string-stored (t ∷ ts) zero h = ([], text_bytes ts, refl)
string-stored (t ∷ ts) (suc n) h = stored-after t (text_bytes ts) (string_at ts n) (string-stored ts n (omega arith))

pub strings-valid : (ts : List (List ℕ)) → AreSpansOf (text_bytes ts) ts
strings-valid [] = tt
strings-valid (t ∷ ts) = (([], text_bytes ts, refl), all-after t (text_bytes ts) ts (strings-valid ts))

pub all-drop : (bytes : List ℕ) (k : ℕ) (ts : List (List ℕ)) → AreSpansOf bytes ts → AreSpansOf bytes (drop k ts)
all-drop bytes zero [] h = tt
all-drop bytes zero (t ∷ ts) h = h
all-drop bytes (suc k) [] h = tt
all-drop bytes (suc k) (t ∷ ts) h = all-drop bytes k ts h.1

pub all-both : (bytes : List ℕ) (ts us : List (List ℕ)) → AreSpansOf bytes ts
    → AreSpansOf bytes us → AreSpansOf bytes (ts ++ us)
all-both bytes [] us h g = g
all-both bytes (t ∷ ts) us h g = (h.0, all-both bytes ts us h.1 g)

token-stored : (ts : List (List ℕ)) (places : List Place) (r : Record) → StringIsWithin (length ts) r
    → AreSpansOf (text_bytes ts) (token_strings (token_of_record ts places r))
token-stored ts places (Word n) h = (string-stored ts n h, tt)
token-stored ts places (Number n) h = (string-stored ts n h, tt)
token-stored ts places (Literal n) h = (string-stored ts n h, tt)
token-stored ts places (Verbatim n) h = (string-stored ts n h, tt)
token-stored ts places (Punct n) h = (string-stored ts n h, tt)
token-stored ts places _ h = tt

pub tokens-valid : (ts : List (List ℕ)) (places : List Place) (from end : ℕ) (rs : List Record)
    → AreRecords (length ts) from rs end
    → AreSpansOf (text_bytes ts) (flat_map token_strings (tokens_of ts places rs))
tokens-valid ts places from end [] h = tt
tokens-valid ts places from end (r ∷ rs) h =
    grind (arith, all-both, text_bytes, token-stored, tokens-valid ts places (from + places_of r) end rs h.2)

pub bytes-total : (ts : List (List ℕ)) → length (text_bytes ts) ≡ total length ts
bytes-total [] = refl
bytes-total (t ∷ ts) = omega (arith, length-append t (text_bytes ts), bytes-total ts)

-- One more token.
pub push-are : (old new : StringTableModel) (was now : List Place) (rs : List Record) (t : Token) (r : Record)
    → AreTokens old was rs → InternsToken old t now r new → AddsPlace was r now → AreTokens new now (rs ++ r ∷ [])
push-are old new was now rs t r all packs placed =
    let ts = tokens_of old.strings was rs in
    let tokens : tokens_of new.strings now (rs ++ r ∷ []) ≡ ts ++ t ∷ [] =
    push-tokens old new was now rs t r all.numbers packs placed in
    let words : (q : List ℕ) → has_word new q ≡ list_any (bytes_eq q) (words_of (ts ++ t ∷ [])) = λ q.
    packs.words q ∙ same-more old.words (words_of ts) t all.words q
    ∙ ap (list_any (bytes_eq q)) (sym (words-push ts t)) in
    let grown : total length new.strings ≡ total length (old.strings ++ packs.more) = ap (total length) packs.grows in
    let bytes : length (text_bytes new.strings) ≡ interned_token_bytes (ts ++ t ∷ []) =
    omega (
      arith,
      same-more-bytes old.words (words_of ts) t all.words,
      ap (total length) (words-push ts t),
      grown,
      bytes-total new.strings,
      bytes-total old.strings,
      bytes-total packs.more,
      total-append length old.strings packs.more,
      total-append other_bytes ts (t ∷ []),
      all.bytes,
      packs.bytes,
    ) in
    record {
      numbers = push-records old new was now rs t r all.numbers packs placed;
      words = λ q. words q ∙ ap (λ us. list_any (bytes_eq q) (words_of us)) (sym tokens);
      bytes = bytes ∙ ap interned_token_bytes (sym tokens);
      few =
          omega (
            arith,
            ap length packs.grows,
            length-append old.strings packs.more,
            packs.few,
            all.few,
            ap length (filter-append has_string ts (t ∷ [])),
            length-append (filter has_string ts) (filter has_string (t ∷ [])),
            ap (λ us. length (filter has_string us)) tokens,
          );
    }

-- Fewer tokens with unchanged strings.
pub truncate-tokens : (strings : List (List ℕ)) (places : List Place) (rs : List Record) (n k : ℕ)
    → IsCut (length strings) n rs (length places) k
    → tokens_of strings (take k places) (take n rs) ≡ take n (tokens_of strings places rs)
truncate-tokens strings places rs n k cut =
    let fits : AreRecords (length strings) 0 (take n rs) (length (take k places)) =
    subst (AreRecords (length strings) 0 (take n rs)) (sym (length-take-le k places cut.within)) cut.prefix in
    cc (
      tokens-grow strings [] (take k places) (drop k places) 0 (take n rs) fits,
      take-append-drop k places,
      append-nil strings,
      take-map (token_of_record strings places) n rs,
    )

pub truncate-are : (kept : StringTableModel) (places : List Place) (rs : List Record) (n k : ℕ)
    → AreTokens kept places rs → IsCut (length kept.strings) n rs (length places) k
    → filter has_string (take n (tokens_of kept.strings places rs))
    ≡ filter has_string (tokens_of kept.strings places rs)
    → AreTokens kept (take k places) (take n rs)
truncate-are kept places rs n k all cut same =
    let us = tokens_of kept.strings (take k places) (take n rs) in
    let ts = tokens_of kept.strings places rs in
    let kept_strings : filter has_string us ≡ filter has_string ts =
    ap (filter has_string) (truncate-tokens kept.strings places rs n k cut) ∙ same in
    record {
      numbers = grind (arith, length-take-le);
      words = λ q. all.words q ∙ ap (list_any (bytes_eq q)) (sym (same-words us ts kept_strings));
      bytes = all.bytes ∙ sym (same-bytes us ts kept_strings);
      few = omega (arith, all.few, ap length kept_strings);
    }

pub filter-few : {A : Type 0} (p : A → Bool) (xs : List A) → length (filter p xs) ≤ length xs
filter-few p xs = omega (arith, length-filter p xs, count_by-le-length p xs)

-- There are no more strings than tokens.
pub strings-few : (kept : StringTableModel) (places : List Place) (rs : List Record) → AreTokens kept places rs
    → length kept.strings ≤ length (tokens_of kept.strings places rs)
strings-few kept places rs all = omega (arith, all.few, filter-few has_string (tokens_of kept.strings places rs))
