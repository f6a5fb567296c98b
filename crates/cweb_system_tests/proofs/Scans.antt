-- A scan of a log.
use Rattle.std.proofs.Common.{◌≡◌, ◌∙◌, ◌<◌, ◌≤◌, ◌+◌, ◌^◌, ℕ, List, [], ◌∷◌, ◌++◌, Bool, true, false, cond, refl, sym, ap, subst, string_bytes, Option, Some, None, take, drop, get_or, length, slice_set, suc, zero, arith}
use Rattle.std.proofs.lemmas.List.{take_more, length-append}
use Rattle.std.proofs.lemmas.Option.{slice_get_within}
use Rattle.std.specs.List.{slice_get}
use Rattle.std.specs.Option.{MatchOption}
use Rattle.std.specs.Prelude.{Result, Ok, Err, OnOk, IfSome}
use Rattle.std.specs.Str.{bytes_eq}
use Rattle.cweb_system_tests.specs.declared.memory_folder.log.Change.{Change}
use Rattle.cweb_system_tests.specs.declared.memory_folder.log.Change.TheVariants.{Put, Create, Append, SetMode, Move, Remove}
use Rattle.cweb_system.specs.declared.node.FileKey.{FileKey}
use Rattle.cweb_system.specs.declared.node.Node.{Node}
use Rattle.cweb_system.specs.Tree.{IsFile}
use Rattle.cweb_system.specs.inner.Written.{key_eq}
use Rattle.cweb_system_tests.specs.inner.Log.{IsAbove, KeysBelow, bytes_by, bytes_step, node_step, node_with_mode, nodes_by}
use Rattle.cweb_system_tests.proofs.Changes.{bytes_more, nodes_more}

-- The next change of a scan.
pub nodes_next : (log : List Change) (i : ℕ) (c : Change) (p : List ℕ) → i < length log → c ≡ get_or log i c
    → nodes_by (take (i + 1) log) p None ≡ node_step c p (nodes_by (take i log) p None)
nodes_next log i c p within is = ap (λ (l : List Change). nodes_by l p None) (take_more log i c within)
    ∙ ap (λ (d : Change). nodes_by (take i log ++ d ∷ []) p None) (sym is) ∙ nodes_more (take i log) c p None

pub bytes_next : (log : List Change) (i : ℕ) (c : Change) (k : FileKey) → i < length log → c ≡ get_or log i c
    → bytes_by (take (i + 1) log) k [] ≡ bytes_step c k (bytes_by (take i log) k [])
bytes_next log i c k within is = ap (λ (l : List Change). bytes_by l k []) (take_more log i c within)
    ∙ ap (λ (d : Change). bytes_by (take i log ++ d ∷ []) k []) (sym is) ∙ bytes_more (take i log) c k []

step_longer : (c : Change) (k : FileKey) (bytes : List ℕ) → length (bytes_step c k bytes) ≤ length bytes + 1
step_longer (Put at node) k bytes = omega arith
step_longer (Create at key mode) k bytes = by_test (key_eq k key)
  where
    by_test : (b : Bool) → length (cond b [] bytes) ≤ length bytes + 1
    by_test true = omega arith
    by_test false = omega arith
step_longer (Append key byte) k bytes = by_test (key_eq k key)
  where
    by_test : (b : Bool) → length (cond b (bytes ++ byte ∷ []) bytes) ≤ length bytes + 1
    by_test true = omega (arith, length-append bytes (byte ∷ []))
    by_test false = omega arith
step_longer (SetMode key mode) k bytes = omega arith
step_longer (Move from to node) k bytes = omega arith
step_longer (Remove at) k bytes = omega arith

-- A file has at most one byte for each change.
pub bytes_short : (log : List Change) (k : FileKey) (bytes : List ℕ)
    → length (bytes_by log k bytes) ≤ length bytes + length log
bytes_short [] k bytes = omega arith
bytes_short (c ∷ log) k bytes =
    let rest = bytes_short log k (bytes_step c k bytes) in
    let step = step_longer c k bytes in
    omega (arith, rest, step)

-- A byte that was found is within the file.
pub some_within : (found : Option ℕ) (bytes : List ℕ) (n : ℕ) → found ≡ slice_get bytes n → length bytes < 2 ^ 64
    → IfSome found (λ _. n + 1 < 2 ^ 64)
some_within None bytes n is few = tt
some_within (Some b) bytes n is few =
    let within = slice_get_within bytes n b (sym is) in
    omega (arith, within, few)

after_byte : (bytes : List ℕ) (n b : ℕ) → slice_get bytes n ≡ Some b → drop n bytes ≡ b ∷ drop (n + 1) bytes
after_byte [] n b is = cc
after_byte (x ∷ xs) zero b is = let same : x ≡ b = cc in ap (λ (y : ℕ). y ∷ xs) same
after_byte (x ∷ xs) (suc n) b is = after_byte xs n b is ∙ ap (λ (m : ℕ). b ∷ drop m (x ∷ xs)) further
  where
    further : suc (n + 1) ≡ suc n + 1
    further = omega arith

first_set : (piece : List ℕ) (b : ℕ) → 0 < length piece → take 1 (slice_set piece 0 b) ≡ b ∷ []
first_set [] b some = absurd (omega arith)
first_set (x ∷ xs) b some = refl

-- A byte of the rest is read into the first place.
pub next_byte : (bytes piece : List ℕ) (n b : ℕ) → slice_get bytes n ≡ Some b → 0 < length piece
    → drop n bytes ≡ take 1 (slice_set piece 0 b) ++ drop (n + 1) bytes
next_byte bytes piece n b is some =
    after_byte bytes n b is ∙ ap (λ (l : List ℕ). l ++ drop (n + 1) bytes) (sym (first_set piece b some))

pub first_byte : (piece : List ℕ) → 0 < length piece → take 1 piece ≡ get_or piece 0 0 ∷ []
first_byte [] some = absurd (omega arith)
first_byte (x ∷ xs) some = refl

moded_file : (k key : FileKey) (mode : ℕ) (found : Option Node)
    → IsFile k (node_with_mode key mode found) → IsFile k found
moded_file k key mode (Some (Node.File f m)) is = is
moded_file k key mode _ is = is

above : (k : FileKey) (at : _) (node : Node) (m : ℕ) → IsAbove (Put at node) m → IsFile k (Some node) → k.number < m
above k at (Node.File f mode) m is same = subst (λ (g : FileKey). g.number < m) same is
above k at Node.Link m is same = absurd same
above k at (Node.Unknown why) m is same = absurd same
above k at (Node.Folder f) m is same = absurd same
above k at (Node.Device f) m is same = absurd same

-- The node that a change moves is one that it puts there.
moves : (from to : _) (node : Node) (m : ℕ) → IsAbove (Move from to node) m → IsAbove (Put to node) m
moves from to (Node.File f mode) m is = is
moves from to _ m is = is

step_below : (c : Change) (found : Option Node) (p : List ℕ) (k : FileKey) (m : ℕ) → IsAbove c m
    → (IsFile k found → k.number < m) → IsFile k (node_step c p found) → k.number < m
step_below (Put at node) found p k m is old = by_test (bytes_eq (string_bytes at) p)
  where
    by_test : (b : Bool) → IsFile k (cond b (Some node) found) → k.number < m
    by_test true now = above k at node m is now
    by_test false now = old now
step_below (Create at key mode) found p k m is old = by_test (bytes_eq (string_bytes at) p)
  where
    by_test : (b : Bool) → IsFile k (cond b (Some (Node.File key mode)) found) → k.number < m
    by_test true same = subst (λ (g : FileKey). g.number < m) same is
    by_test false now = old now
step_below (Append key byte) found p k m is old = old
step_below (SetMode key mode) found p k m is old = λ now. old (moded_file k key mode found now)
step_below (Move from to node) found p k m is old =
    by_test (bytes_eq (string_bytes to) p) (bytes_eq (string_bytes from) p)
  where
    by_test : (a b : Bool) → IsFile k (cond a (Some node) (cond b None found)) → k.number < m
    by_test true b now = above k to node m (moves from to node m is) now
    by_test false true now = absurd now
    by_test false false now = old now
step_below (Remove at) found p k m is old = by_test (bytes_eq (string_bytes at) p)
  where
    by_test : (b : Bool) → IsFile k (cond b None found) → k.number < m
    by_test true now = absurd now
    by_test false now = old now

pub below_next : (log : List Change) (i n m : ℕ) (c : Change) → i < length log → c ≡ get_or log i c → n ≤ m
    → IsAbove c m → KeysBelow n (take i log) → KeysBelow m (take (i + 1) log)
below_next log i n m c within is le above' below p k now = step_below c (nodes_by (take i log) p None) p k m above'
    (λ was. at_most (below p k was)) (subst (λ (o : Option Node). IsFile k o) (nodes_next log i c p within is) now)
  where
    at_most : k.number < n → k.number < m
    at_most lt = omega arith

pub on_ok : {A E : Type 0} (r : Result A E) (P Q : Type 0) → (P → Q) → OnOk r P → OnOk r Q
on_ok (Ok x) P Q then holds = then holds
on_ok (Err e) P Q then holds = tt

pub match_some : {A : Type 0} (o : Option A) (a : A) (P : Type 0) (Q : A → Type 0) → o ≡ Some a
    → MatchOption o P Q → Q a
match_some {A} o a P Q is holds = subst (λ (x : Option A). MatchOption x P Q) is holds

pub match_none : {A : Type 0} (o : Option A) (P : Type 0) (Q : A → Type 0) → o ≡ None → MatchOption o P Q → P
match_none {A} o P Q is holds = subst (λ (x : Option A). MatchOption x P Q) is holds
