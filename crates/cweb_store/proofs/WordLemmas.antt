-- Words, numbers and punctuators that are stored once, and how many bytes of tokens are stored.
use Rattle.cweb_store.proofs.Common.{◌≡◌, ℕ, ◌+◌, ◌≤◌, cond, List, [], ◌∷◌, ◌++◌, length, refl, sym, ◌∙◌, ap, arith, bytes_eq, filter, fold, list_any, Token, Word, Punct, total, interned_token_bytes, has_string}
use Rattle.std.proofs.lemmas.List.Sums.{fold-append}
use Rattle.cweb_store.specs.surface.Tokens.{with_word, token_size, with_word_of, words_of, other_bytes}
use Rattle.cweb_store.specs.Parts.{Number}
use Rattle.cweb_store.proofs.TotalLemmas.{total-append, with-word-any}

-- One more token preserves that two lists of words are permutations of each other.
pub same-more : (ws vs : List (List ℕ)) (t : Token)
    → ((q : List ℕ) → list_any (bytes_eq q) ws ≡ list_any (bytes_eq q) vs)
    → (q : List ℕ) → list_any (bytes_eq q) (with_word_of ws t) ≡ list_any (bytes_eq q) (with_word_of vs t)
same-more ws vs (Word b) same = grind (arith, with-word-any)
same-more ws vs (Number b) same = grind (arith, with-word-any)
same-more ws vs (Punct b) same = grind (arith, with-word-any)
same-more ws vs _ same = same

word-bytes : (ws : List (List ℕ)) (w : List ℕ)
    → total length (with_word ws w) ≡ total length ws + cond (list_any (bytes_eq w) ws) 0 (length w)
word-bytes ws w = grind (arith, total-append length ws (w ∷ []))

-- It adds the same number of bytes to both.
pub same-more-bytes : (ws vs : List (List ℕ)) (t : Token)
    → ((q : List ℕ) → list_any (bytes_eq q) ws ≡ list_any (bytes_eq q) vs)
    → total length (with_word_of ws t) + total length vs ≡ total length (with_word_of vs t) + total length ws
same-more-bytes ws vs (Word b) same = grind (arith, word-bytes, same)
same-more-bytes ws vs (Number b) same = grind (arith, word-bytes, same)
same-more-bytes ws vs (Punct b) same = grind (arith, word-bytes, same)
same-more-bytes ws vs _ same = omega arith

pub words-push : (ts : List Token) (t : Token) → words_of (ts ++ t ∷ []) ≡ with_word_of (words_of ts) t
words-push ts t = fold-append with_word_of [] ts (t ∷ [])

-- Tokens without a string add no word and no bytes.
words-strings : (ws : List (List ℕ)) (ts : List Token)
    → fold with_word_of ws (filter has_string ts) ≡ fold with_word_of ws ts
words-strings ws [] = refl
words-strings ws (Word b ∷ ts) = words-strings (with_word ws b) ts
words-strings ws (Number b ∷ ts) = words-strings (with_word ws b) ts
words-strings ws (Punct b ∷ ts) = words-strings (with_word ws b) ts
words-strings ws (t ∷ ts) = words-strings ws ts

other-strings : (ts : List Token) → total other_bytes (filter has_string ts) ≡ total other_bytes ts
other-strings [] = refl
other-strings (Word b ∷ ts) = omega (arith, other-strings ts)
other-strings (t ∷ ts) = omega (arith, other-strings ts)

pub same-words : (ts us : List Token) → filter has_string ts ≡ filter has_string us → words_of ts ≡ words_of us
same-words ts us same = sym (words-strings [] ts) ∙ ap words_of same ∙ words-strings [] us

pub same-bytes : (ts us : List Token) → filter has_string ts ≡ filter has_string us
    → interned_token_bytes ts ≡ interned_token_bytes us
same-bytes ts us same = grind (arith, same-words, same, other-strings)

-- Interning stores no more bytes than were added.
word-few : (ws : List (List ℕ)) (b : List ℕ) → total length (with_word ws b) ≤ total length ws + length b
word-few ws b = grind (arith, total-append length ws (b ∷ []))

few-from : (ws : List (List ℕ)) (ts : List Token)
    → total length (fold with_word_of ws ts) + total other_bytes ts ≤ total length ws + total token_size ts
few-from ws [] = omega arith
few-from ws (Word b ∷ ts) = omega (arith, word-few ws b, few-from (with_word ws b) ts)
few-from ws (Number b ∷ ts) = omega (arith, word-few ws b, few-from (with_word ws b) ts)
few-from ws (Punct b ∷ ts) = omega (arith, word-few ws b, few-from (with_word ws b) ts)
few-from ws (t ∷ ts) = omega (arith, few-from ws ts)

pub kept-few : (ts : List Token) → interned_token_bytes ts ≤ total token_size ts
kept-few ts = omega (arith, few-from [] ts)
