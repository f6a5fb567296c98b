-- Records and their tokens: after more strings and places, of a prefix, and at an index.
use Rattle.cweb_store.proofs.Common.{◌≡◌, ℕ, zero, suc, ◌+◌, ◌≤◌, List, [], ◌∷◌, ◌++◌, Some, length, take, drop, refl, ap, arith, length-append, slice_get, map-append, direct_bytes, Place, Record}
use Rattle.std.proofs.Math.ListN.{get_or-append}
use Rattle.cweb_store.specs.inner.Records.{token_of_record, tokens_of, StringIsWithin, PlaceHasNumber, places_of, AreRecords, AddsPlace, InternsToken, PlaceIsWithin}
use Rattle.cweb_store.specs.declared.tokens.records.Record.TheVariants.{Word, Number, Literal, Verbatim, Punct, Mark}
use Rattle.cweb_store.specs.inner.StringTables.{StringTableModel}
use Rattle.cweb_store.specs.Parts as spec

pub records-le : (n from end : ℕ) (rs : List Record) → AreRecords n from rs end → from ≤ end
records-le n from end [] h = omega (arith, h)
records-le n from end (r ∷ rs) h = omega (arith, records-le n (from + places_of r) end rs h.2)

one-place : (r : Record) → places_of r ≤ 1
one-place (Mark n) = omega arith
one-place r = omega arith

pub records-few : (n from end : ℕ) (rs : List Record) → AreRecords n from rs end → end ≤ from + length rs
records-few n from end [] h = omega (arith, h)
records-few n from end (r ∷ rs) h = omega (arith, one-place r, records-few n (from + places_of r) end rs h.2)

-- More strings and places.
token-grow : (strings more : List (List ℕ)) (places others : List Place) (from : ℕ) (r : Record)
    → StringIsWithin (length strings) r → PlaceHasNumber from r → from + places_of r ≤ length places
    → token_of_record (strings ++ more) (places ++ others) r ≡ token_of_record strings places r
token-grow strings more places others from (Word n) h at le = ap spec.Word (get_or-append strings more [] n h)
token-grow strings more places others from (Number n) h at le = ap spec.Number (get_or-append strings more [] n h)
token-grow strings more places others from (Literal n) h at le = ap spec.Literal (get_or-append strings more [] n h)
token-grow strings more places others from (Verbatim n) h at le = ap spec.Verbatim (get_or-append strings more [] n h)
token-grow strings more places others from (Punct n) h at le = ap spec.Punct (get_or-append strings more [] n h)
token-grow strings more places others from (Mark n) h at le = grind (arith, get_or-append)
token-grow strings more places others from _ h at le = refl

pub tokens-grow : (strings more : List (List ℕ)) (places others : List Place) (from : ℕ) (rs : List Record)
    → AreRecords (length strings) from rs (length places)
    → tokens_of (strings ++ more) (places ++ others) rs ≡ tokens_of strings places rs
tokens-grow strings more places others from [] h = refl
tokens-grow strings more places others from (r ∷ rs) h =
    grind (arith, token-grow, records-le, tokens-grow strings more places others (from + places_of r) rs h.2)

within-grow : (n m : ℕ) (r : Record) → n ≤ m → StringIsWithin n r → StringIsWithin m r
within-grow n m (Word k) le h = omega (arith, le, h)
within-grow n m (Number k) le h = omega (arith, le, h)
within-grow n m (Literal k) le h = omega (arith, le, h)
within-grow n m (Verbatim k) le h = omega (arith, le, h)
within-grow n m (Punct k) le h = omega (arith, le, h)
within-grow n m _ le h = h

-- One more record.
records-push : (n m from end : ℕ) (rs : List Record) (r : Record) → AreRecords n from rs end → n ≤ m
    → StringIsWithin m r → PlaceHasNumber end r → AreRecords m from (rs ++ r ∷ []) (end + places_of r)
records-push n m from end [] r h le within at = grind (arith, at)
records-push n m from end (q ∷ rs) r h le within at =
    (within-grow n m q le h.0, h.1, records-push n m (from + places_of q) end rs r h.2 le within at)

pub push-records : (old new : StringTableModel) (was now : List Place) (rs : List Record) (t : spec.Token) (r : Record)
    → AreRecords (length old.strings) 0 rs (length was) → InternsToken old t now r new → AddsPlace was r now
    → AreRecords (length new.strings) 0 (rs ++ r ∷ []) (length now)
push-records old new was now rs t r all packs placed = grind (arith, records-push, length-append)

pub push-tokens : (old new : StringTableModel) (was now : List Place) (rs : List Record) (t : spec.Token) (r : Record)
    → AreRecords (length old.strings) 0 rs (length was) → InternsToken old t now r new → AddsPlace was r now
    → tokens_of new.strings now (rs ++ r ∷ []) ≡ tokens_of old.strings was rs ++ t ∷ []
push-tokens old new was now rs t r all packs placed =
    cc (
      map-append (token_of_record new.strings now) rs (r ∷ []),
      tokens-grow old.strings packs.more was placed.more 0 rs all,
    )

-- The first records have the first k places.
pub record IsCut (n count : ℕ) (rs : List Record) (places k : ℕ) : Type 0 where
  pub prefix : AreRecords n 0 (take count rs) k
  pub within : k ≤ places

-- The first records, with their places, and the others.
record Split (n from count : ℕ) (rs : List Record) (end : ℕ) : Type 0 where
  pub number : ℕ
  pub prefix : AreRecords n from (take count rs) number
  pub rest : AreRecords n number (drop count rs) end

split : (n from count : ℕ) (rs : List Record) (end : ℕ) → AreRecords n from rs end → Split n from count rs end
split n from zero [] end h = record { number = from; prefix = refl; rest = h }
split n from (suc count) [] end h = record { number = from; prefix = refl; rest = h }
split n from zero (r ∷ rs) end h = record { number = from; prefix = refl; rest = h }
split n from (suc count) (r ∷ rs) end h = grind (arith, split n (from + places_of r) count rs end h.2)

pub cut-is : (n count : ℕ) (rs last : List Record) (places all k : ℕ) → AreRecords n 0 rs places
    → last ≡ drop count rs → all ≡ places → ((m number : ℕ) → AreRecords m number last all → k ≡ number)
    → IsCut n count rs places k
cut-is n count rs last places all k h rest same first =
    let s = split n 0 count rs places h in
    let is : k ≡ s.number = first n s.number (rw (rest, same) s.rest) in
    rw is (record { prefix = s.prefix; within = records-le n s.number places (drop count rs) s.rest })

place-within : (r : Record) (from end : ℕ) → PlaceHasNumber from r → from + places_of r ≤ end → PlaceIsWithin end r
place-within (Mark k) from end at h = omega (arith, at, h)
place-within _ from end at h = tt

-- The record at an index.
pub record-at : (n from end : ℕ) (rs : List Record) (i : ℕ) (r : Record) → AreRecords n from rs end
    → slice_get rs i ≡ Some r → StringIsWithin n r × PlaceIsWithin end r
record-at n from end [] i r all h = cc
record-at n from end (q ∷ rs) zero r all h = grind (arith, place-within, records-le)
record-at n from end (q ∷ rs) (suc i) r all h = record-at n (from + places_of q) end rs i r all.2 h

-- The bytes of a record don't depend on the places.
pub direct-alone : (strings : List (List ℕ)) (places : List Place) (r : Record)
    → direct_bytes (token_of_record strings [] r) ≡ direct_bytes (token_of_record strings places r)
direct-alone strings places (Word n) = refl
direct-alone strings places _ = refl
