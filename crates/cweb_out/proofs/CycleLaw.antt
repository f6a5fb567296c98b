-- A refused cycle is one: the walk goes on until a name repeats, and each name uses the next one.
use Rattle.cweb_out.proofs.Common.{◌≡◌, ◌<◌, ◌+◌, ℕ, zero, suc, Bool, true, false, not, cond, ◌&&◌, ◌||◌, List, [], ◌∷◌, ◌++◌, refl, sym, ◌∙◌, ap, arith, length, length-append, append_assoc, get_or, inl, inr, subst, drop, take, map, filter, Option, Some, None, All, Result, Ok, Err, find, bytes_eq, list_all, list_any, list_any-append, position_or_len, NameId, is_id, has_part, has_defs_code, Token, Stored, names, joined, program, uses, first_endless, has_rank, list_ends, cycle_from, walk, IsRoot, Planned, Refusal, bad_name, same_name, cycle, file_outputs, has_no_program, is_good_name, name_spelling, output_name, output_of, outputs, planned_apart, planned_ending, root_list, start_of, AreNew, or_left, or_right}
use Rattle.std.specs.Prelude.{nat_lt}
use Rattle.std.proofs.Math.Seq.{get_or-append_seam}
use Rattle.std.proofs.lemmas.List.{take-append-drop}
use Rattle.std.proofs.lemmas.List.Elements.{All-cons, All-filter, All-map}
use Rattle.std.proofs.lemmas.Bool.{false_from_ne_true}
use Rattle.cweb_store.specs.Names as spec
use Rattle.cweb_store.proofs.BoundLemmas.{files-within}
use Rattle.cweb_out.specs.Outputs.{planned}
use Rattle.cweb_out.specs.laws.Laws.{IsFirstCycle, LeadsThrough}
use Rattle.cweb_out.proofs.Paths.{is-same, new-push, on-pushed, split-or}
use Rattle.cweb_out.proofs.Ranks.{all-parts, few, id-same, rank-grows, rank_by_uses, uses-weaker}
use Rattle.cweb_out.proofs.Searches.{uses-defs}
use Rattle.cweb_out.proofs.Walks.{from-cons, from_first}

-- A list up to the first element that fails a test.
record Split {X : Type 0} (p : X → Bool) (xs : List X) (x : X) : Type 0 where
  pub before : List X
  pub after : List X
  pub whole : xs ≡ before ++ x ∷ after
  pub passed : list_all p before ≡ true
  pub fails : p x ≡ false

split : {X : Type 0} (p : X → Bool) (xs : List X) {x : X} → find (λ y. not (p y)) xs ≡ Some x → Split p xs x
split p [] h = cc
split {X} p (y ∷ ys) {x} h = by (p y) refl h (λ g. split p ys g)
  where
    by : (b : Bool) → p y ≡ b → cond (not b) (Some y) (find (λ z. not (p z)) ys) ≡ Some x
        → (find (λ z. not (p z)) ys ≡ Some x → Split p ys x) → Split p (y ∷ ys) x
    by false e g later =
        let is : y ≡ x = cc in
        record { before = []; after = ys; whole = ap (λ z. z ∷ ys) is; passed = refl; fails = ap p (sym is) ∙ e }
    by true e g later =
        let s = later g in
        record {
          before = y ∷ s.before;
          after = s.after;
          whole = ap (λ zs. y ∷ zs) s.whole;
          passed = ap (λ b. b && list_all p s.before) e ∙ s.passed;
          fails = s.fails;
        }

found : {X : Type 0} (p : X → Bool) (xs : List X) → list_all p xs ≡ false
    → (x : X) × (find (λ y. not (p y)) xs ≡ Some x)
found p [] h = cc
found {X} p (y ∷ ys) h = by (p y) h (λ g. found p ys g)
  where
    by : (b : Bool) → (b && list_all p ys) ≡ false
        → (list_all p ys ≡ false → (x : X) × (find (λ z. not (p z)) ys ≡ Some x))
        → (x : X) × (cond (not b) (Some y) (find (λ z. not (p z)) ys) ≡ Some x)
    by true g later = later g
    by false g later = (y, refl)

-- The first name without a rank that a list uses.
record Endless (w : Stored) (ts : List Token) : Type 0 where
  pub name : NameId
  pub first : first_endless w ts ≡ Some name
  pub used : list_any (is_id name) (uses w ts) ≡ true
  pub rankless : has_rank w name ≡ false
  pub within : name.0 < names w

all-pass : (ns : List NameId) → list_all (λ n. true) ns ≡ true
all-pass [] = refl
all-pass (n ∷ ns) = all-pass ns

are-within : (w : Stored) (ts : List Token) → list_all (λ n. nat_lt n.0 (names w)) (uses w ts) ≡ true
are-within w ts =
    uses-weaker w (λ n. true) (λ n. nat_lt n.0 (names w)) ts (λ n l h. grind (arith, l)) (all-pass (uses w ts))

endless : (w : Stored) (ts : List Token) → list_ends w ts ≡ false → Endless w ts
endless w ts h =
    let f = found (has_rank w) (uses w ts) h in
    let s = split (has_rank w) (uses w ts) f.1 in
    let in_ = all-parts (λ n. nat_lt n.0 (names w)) s.before (f.0 ∷ s.after) (ap (list_all (λ n. nat_lt n.0 (names w)))
    (sym s.whole) ∙ are-within w ts) in
    record {
      name = f.0;
      first = f.1;
      used = grind (arith, list_any-append, or_left, or_right, id-same);
      rankless = s.fails;
      within = grind (arith, in_);
    }

-- The name after one without a rank.
endless-next : (w : Stored) (n : NameId) → n.0 < names w → has_rank w n ≡ false → Endless w (joined w n)
endless-next w n l h = endless w (joined w n)
    (false_from_ne_true (list_ends w (joined w n)) (λ e. let bad : true ≡ false = sym (rank_by_uses w n l e) ∙ h in cc))

-- The first name passes a test, and each name uses the next one.
abbrev Leads : (NameId → Type 0) → Stored → List NameId → Type 0
Leads P w [] = Unit {0}
Leads P w (n ∷ ns) = P n × LeadsThrough w (joined w n) ns

through-on : (w : Stored) (ts : List Token) (ns : List NameId) (n : NameId) (more : List NameId)
    → LeadsThrough w ts (ns ++ n ∷ []) → LeadsThrough w (joined w n) more → LeadsThrough w ts (ns ++ n ∷ more)
through-on w ts [] n more a b = (a.0, b)
through-on w ts (m ∷ ns) n more a b = (a.0, through-on w (joined w m) ns n more a.1 b)

leads-on : (P : NameId → Type 0) (w : Stored) (ns : List NameId) (n m : NameId) → Leads P w (ns ++ n ∷ [])
    → list_any (is_id m) (uses w (joined w n)) ≡ true → Leads P w ((ns ++ n ∷ []) ++ m ∷ [])
leads-on P w [] n m a b = (a.0, (b, tt))
leads-on P w (k ∷ ns) n m a b = (
  a.0,
  subst (LeadsThrough w (joined w k)) (sym (append_assoc ns (n ∷ []) (m ∷ [])))
      (through-on w (joined w k) ns n (m ∷ []) a.1 (b, tt)),
)

-- The names that a walk visited before a name without a rank.
record Came (P : NameId → Type 0) (w : Stored) (seen : List NameId) (n : NameId) : Type 0 where
  pub new : AreNew [] seen
  pub within : (m : NameId) → list_any (is_id m) seen ≡ true → m.0 < names w
  pub leads : Leads P w (seen ++ n ∷ [])
  pub rankless : has_rank w n ≡ false
  pub name : n.0 < names w

came-on : {P : NameId → Type 0} {w : Stored} (seen : List NameId) (n : NameId) (c : Came P w seen n)
    → list_any (is_id n) seen ≡ false → (e : Endless w (joined w n)) → Came P w (seen ++ n ∷ []) e.name
came-on {P} {w} seen n c fresh e = record {
  new = new-push [] seen n c.new fresh;
  within = λ m h. elim (split-or (list_any (is_id m) seen) (is_id m n) (sym (on-pushed seen m n) ∙ h)) [
    | inl a ↦ c.within m a
    | inr a ↦ rw (is-same m n a) c.name
  ];
  leads = leads-on P w seen n e.name c.leads e.used;
  rankless = e.rankless;
  name = e.within;
}

-- A way and a cycle.
record Closes (P : NameId → Type 0) (w : Stored) (ns : List NameId) : Type 0 where
  pub way : List NameId
  pub name : NameId
  pub between : List NameId
  pub closed : ns ≡ name ∷ between ++ name ∷ []
  pub leads : Leads P w (way ++ ns)

-- A list from the first occurrence of a name on begins with it.
begins : (n : NameId) (ns : List NameId) → list_any (is_id n) ns ≡ true
    → (rest : List NameId) × (from_first n ns ≡ n ∷ rest)
begins n [] h = cc
begins n (m ∷ ns) h = by (is_id n m) refl h (λ e. begins n ns e)
  where
    by : (b : Bool) → is_id n m ≡ b → (b || list_any (is_id n) ns) ≡ true
        → (list_any (is_id n) ns ≡ true → (rest : List NameId) × (from_first n ns ≡ n ∷ rest))
        → (rest : List NameId) × (from_first n (m ∷ ns) ≡ n ∷ rest)
    by true e h later = (
      ns,
      from-cons n m ns ∙ ap (λ b. cond b (m ∷ ns) (from_first n ns)) e
          ∙ ap (λ (k : NameId). k ∷ ns) (sym (is-same n m e)),
    )
    by false e h later =
        let r = later h in (r.0, from-cons n m ns ∙ ap (λ b. cond b (m ∷ ns) (from_first n ns)) e ∙ r.1)

closes : {P : NameId → Type 0} {w : Stored} (seen : List NameId) (n : NameId) → Came P w seen n
    → list_any (is_id n) seen ≡ true → Closes P w (from_first n seen ++ n ∷ [])
closes {P} {w} seen n c h =
    let i = position_or_len (is_id n) seen in
    let r = begins n seen h in
    let whole : take i seen ++ (from_first n seen ++ n ∷ []) ≡ seen ++ n ∷ [] =
    sym (append_assoc (take i seen) (drop i seen) (n ∷ [])) ∙ ap (λ ns. ns ++ n ∷ []) (take-append-drop i seen) in
    record {
      way = take i seen;
      name = n;
      between = r.0;
      closed = ap (λ (ns : List NameId). ns ++ n ∷ []) r.1;
      leads = subst (Leads P w) (sym whole) c.leads;
    }

walk-closes : {P : NameId → Type 0} {w : Stored} (k : ℕ) {seen : List NameId} {n : NameId}
    → names w < length seen + k → Came P w seen n → Closes P w (walk w k seen (Some n))
walk-closes {w} zero {seen} l c = absurd (omega (arith, l, few (names w) seen c.new c.within))
walk-closes {P} {w} (suc k) {seen} {n} l c =
    let next = endless-next w n c.name c.rankless in
    let size = length-append seen (n ∷ []) in
    by next (list_any (is_id n) seen) refl (λ e. walk-closes k (omega (arith, l, size)) (came-on seen n c e next))
  where
    by : (next : Endless w (joined w n)) (b : Bool) → list_any (is_id n) seen ≡ b
        → (list_any (is_id n) seen ≡ false → Closes P w (walk w k (seen ++ n ∷ []) (Some next.name))) → Closes P w
        (elim b [
          | true ↦ drop (position_or_len (is_id n) seen) seen ++ n ∷ []
          | false ↦ walk w k (seen ++ n ∷ []) (first_endless w (joined w n))
        ])
    by next true e later = closes seen n c e
    by next false e later = rw next.first (later e)

cycle-closes : {P : NameId → Type 0} {w : Stored} (n : NameId) → P n → has_rank w n ≡ false → n.0 < names w
    → Closes P w (cycle_from w (Some n))
cycle-closes {P} {w} n p h l = walk-closes (suc (names w)) {seen = []}
    (omega arith) (record { new = tt; within = λ m e. cc; leads = (p, tt); rankless = h; name = l })

-- A list reaches a cycle.
record Reaches (w : Stored) (ts : List Token) (ns : List NameId) : Type 0 where
  pub way : List NameId
  pub name : NameId
  pub between : List NameId
  pub closed : ns ≡ name ∷ between ++ name ∷ []
  pub leads : LeadsThrough w ts (way ++ ns)

through : (w : Stored) (ts : List Token) (ns : List NameId)
    → Leads (λ n. list_any (is_id n) (uses w ts) ≡ true) w ns → LeadsThrough w ts ns
through w ts [] h = tt
through w ts (n ∷ ns) h = h

reaches-by-use : {w : Stored} (ts : List Token) {ns : List NameId}
    → Closes (λ n. list_any (is_id n) (uses w ts) ≡ true) w ns → Reaches w ts ns
reaches-by-use {w} ts {ns} c = record {
  way = c.way;
  name = c.name;
  between = c.between;
  closed = c.closed;
  leads = through w ts (c.way ++ ns) c.leads;
}

reaches-itself : {w : Stored} (m : NameId) {ns : List NameId} → Closes (λ n. n ≡ m) w ns → Reaches w (joined w m) ns
reaches-itself {w} m {ns} c = by c.way c.leads
  where
    by : (way : List NameId) → Leads (λ n. n ≡ m) w (way ++ ns) → Reaches w (joined w m) ns
    by [] l =
        let again : Leads (λ n. n ≡ m) w (c.name ∷ c.between ++ c.name ∷ []) =
        subst (Leads (λ n. n ≡ m) w) c.closed l in
        let first : LeadsThrough w (joined w m) (c.between ++ c.name ∷ []) =
        subst (λ (n : NameId). LeadsThrough w (joined w n) (c.between ++ c.name ∷ [])) again.0 again.1 in
        record {
          way = c.between;
          name = c.name;
          between = c.between;
          closed = c.closed;
          leads = subst (λ (ns : List NameId). LeadsThrough w (joined w m) (c.between ++ ns)) (sym c.closed)
              (through-on w (joined w m) c.between c.name (c.between ++ c.name ∷ []) first again.1);
        }
    by (k ∷ way) l = record {
      way = way;
      name = c.name;
      between = c.between;
      closed = c.closed;
      leads = subst (λ (n : NameId). LeadsThrough w (joined w n) (way ++ ns)) l.0 l.1;
    }

reaches : {w : Stored} (o : Option NameId) → IsRoot w o → list_ends w (root_list w o) ≡ false
    → Reaches w (root_list w o) (cycle_from w (start_of w o))
reaches {w} None i h =
    let same = uses-defs w (not (has_defs_code w.parts)) (program w) in
    let e = endless w (program w) (ap (list_all (has_rank w)) (sym same) ∙ h) in
    rw e.first (reaches-by-use (root_list w None)
    (cycle-closes e.name (ap (list_any (is_id e.name)) same ∙ e.used) e.rankless e.within))
reaches {w} (Some m) i h = reaches-itself m (cycle-closes m refl (false_from_ne_true (has_rank w m)
    (λ e. let bad : true ≡ false = sym (rank-grows w (names w) m e) ∙ h in cc)) i)

outputs-are-roots : (w : Stored) → All (IsRoot w) (outputs w)
outputs-are-roots w =
    let test = has_part (spec.resolutions w.occurrences) w.parts in
    All-cons (IsRoot w) None (map Some (file_outputs w)) tt (All-map (IsRoot w) Some (file_outputs w)
    (All-filter test (λ (n : NameId). n.0 < names w) (spec.files w.occurrences) (files-within w.occurrences)))

root-in : (w : Stored) (before : List (Option NameId)) (o : Option NameId) (after : List (Option NameId))
    → outputs w ≡ before ++ o ∷ after → IsRoot w o
root-in w before o after whole =
    let all = subst (All (IsRoot w)) whole (outputs-are-roots w) in
    let lt : length before < length (before ++ o ∷ after) = omega (arith, length-append before (o ∷ after)) in
    subst (IsRoot w) (get_or-append_seam before o after None) (all (length before) None lt)

abbrev outcome : {A : Type 0} → Option A → (A → Refusal) → Result Planned Refusal → Result Planned Refusal
outcome found why r = elim found [ Some x ↦ Err (why x) | None ↦ r ]

passed : {A : Type 0} (found : Option A) (why : A → Refusal) (r : Result Planned Refusal) (ns : List NameId)
    → ((x : A) → why x ≡ cycle ns → ⊥) → outcome found why r ≡ Err (cycle ns) → r ≡ Err (cycle ns)
passed (Some x) why r ns other h = let e : why x ≡ cycle ns = cc in absurd (other x e)
passed None why r ns other h = h

ended : (w : Stored) (p : Planned) (ns : List NameId) (found : Option (Option NameId))
    → outcome found (λ o. cycle (cycle_from w (start_of w o))) (Ok p) ≡ Err (cycle ns)
    → (o : Option NameId) × (found ≡ Some o) × (cycle_from w (start_of w o) ≡ ns)
ended w p ns (Some o) h = (o, refl, cc)
ended w p ns None h = cc

pub refused_cycles_are_cycles : (w : Stored) (main : List ℕ) (ns : List NameId) → planned w main ≡ Err (cycle ns)
    → IsFirstCycle w ns
refused_cycles_are_cycles w main ns h =
    let apart = passed (find (λ o. not (is_good_name (output_name w main o))) (outputs w))
    (λ o. bad_name o) (planned_apart w main) ns (λ o e. cc) h in
    let ending = passed (find (λ n. bytes_eq (name_spelling w n) main) (spec.files w.occurrences))
    (λ n. same_name n) (planned_ending w main) ns (λ n e. cc) apart in
    let end = ended w (record { outputs = map (output_of w main) (outputs w); no_text = has_no_program w }) ns
    (find (λ o. not (list_ends w (root_list w o))) (outputs w)) ending in
    let s = split (λ o. list_ends w (root_list w o)) (outputs w) end.1 in
    let found : List NameId = cycle_from w (start_of w end.0) in
    let r : Reaches w (root_list w end.0) ns =
    subst (Reaches w (root_list w end.0)) {x = found} end.2 (reaches end.0 (root-in w s.before end.0 s.after s.whole) s.fails) in
    record {
      earlier = s.before;
      output = end.0;
      later = s.after;
      all = s.whole;
      ending = s.passed;
      way = r.way;
      name = r.name;
      between = r.between;
      closed = r.closed;
      leads = r.leads;
    }
