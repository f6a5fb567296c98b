-- Strings that are written part by part.
use Rattle.std.proofs.Common.{arith}
use Rattle.cweb_out.proofs.Common.{ap, ◌≡◌, ◌<◌, ◌+◌, ◌++◌, [], ◌∙◌, refl, sym, append_assoc, append-nil, ℕ, List, length, take, drop, suc, get_or, Result, IsErr, flat_map, FailsWithin, SinkModel, Wrote, written}
use Rattle.cweb_files.proofs.JoinedParts.{flat_at, flat_more}
use Rattle.cweb_files.proofs.Appending.{fails_then, written_none, written_then, wrote_same, wrote_then, wrote_until}

-- A prefix of a string was written, and the rest is to come.
pub record WrittenBefore (old new : SinkModel) (text rest : List ℕ) : Type 0 where
  pub prefix : List ℕ
  pub wrote : new ≡ written prefix old
  pub whole : text ≡ prefix ++ rest

-- One more item of a list.
pub items_then : {X : Type 0} (f : X → List ℕ) (xs : List X) (i : ℕ) (d : X) (a b : SinkModel) {c : SinkModel}
    → i < length xs
    → b ≡ written (flat_map f (take i xs)) a → c ≡ written (f (get_or xs i d)) b
    → c ≡ written (flat_map f (take (i + 1) xs)) a
items_then f xs i d a b lt before here =
    written_then (flat_map f (take i xs)) (f (get_or xs i d)) a before here
    ∙ ap (λ (t : List ℕ). written t a) (flat_more f xs i d lt)

-- A fault at an item of a list.
pub items_until : {X B F : Type 0} (f : X → List ℕ) (xs : List X) (i : ℕ) (d : X) (a b c : SinkModel) (r : Result B F)
    → i < length xs → IsErr r → b ≡ written (flat_map f (take i xs)) a → FailsWithin (f (get_or xs i d)) b c
    → Wrote (flat_map f xs) a c r
items_until f xs i d a b c r lt is before here =
    wrote_until (flat_map f xs) _ (flat_map f (drop (suc i) xs)) a c r is (flat_at f xs i d lt)
    (fails_then (flat_map f (take i xs)) before here)

-- A fault within a string.
pub wrote_err : {B F : Type 0} (text other : List ℕ) (a b : SinkModel) (r : Result B F) → IsErr r
    → text ≡ other → FailsWithin text a b → Wrote other a b r
wrote_err text other a b r is same = wrote_until other text [] a b r is (sym same ∙ sym (append-nil text))

pub before_none : (sink : SinkModel) (text : List ℕ) → WrittenBefore sink sink text text
before_none sink text = record { prefix = []; wrote = written_none sink; whole = refl }

-- One more part of a string.
pub before_then : {a b c : SinkModel} {text : List ℕ} (part rest : List ℕ)
    → WrittenBefore a b text (part ++ rest) → c ≡ written part b → WrittenBefore a c text rest
before_then {a} part rest before here = record {
  prefix = before.prefix ++ part;
  wrote = written_then before.prefix part a before.wrote here;
  whole = before.whole ∙ sym (append_assoc before.prefix part rest);
}

-- A fault at a part of a string.
pub before_until : {B F : Type 0} (a b c : SinkModel) (text part rest : List ℕ) (r : Result B F)
    → IsErr r → WrittenBefore a b text (part ++ rest) → FailsWithin part b c → Wrote text a c r
before_until a b c text part rest r is before here =
    wrote_until text (before.prefix ++ part) rest a c r is
    (before.whole ∙ sym (append_assoc before.prefix part rest)) (fails_then before.prefix before.wrote here)

-- A string of three parts: a fault at the second one, and all three.
pub second_until : {C G : Type 0} (a b c : SinkModel) (text first part rest : List ℕ) (r : Result C G)
    → IsErr r → text ≡ first ++ (part ++ rest) → b ≡ written first a → FailsWithin part b c → Wrote text a c r
second_until a b c text first part rest r is whole one =
    before_until a b c text part rest r is (record { prefix = first; wrote = one; whole = whole })

pub three_then : {C G : Type 0} (a b c d : SinkModel) (text first part last : List ℕ) (r : Result C G)
    → text ≡ first ++ (part ++ last) → b ≡ written first a → c ≡ written part b → Wrote last c d r → Wrote text a d r
three_then a b c d text first part last r whole one two three = grind (arith, wrote_same, wrote_then)
