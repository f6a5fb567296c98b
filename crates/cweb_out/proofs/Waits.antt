-- The marks of names when they start to wait and get their rank.
use Rattle.cweb_out.proofs.Common.{◌≡◌, ◌<◌, true, false, List, [], ◌∷◌, ◌++◌, sym, ◌∙◌, ap, arith, length, inl, inr, subst, sum_by, list_any, set, get_or-set_same, length-set, NameId, is_id, Stored, names, joined, has_rank, FrameIsWithin, suffix, AreNew, id, eqb_tells, Waiting}
use Rattle.std.proofs.Common.{◌≢◌}
use Rattle.std.proofs.lemmas.List.{get_or-set_other, get_or_past}
use Rattle.std.proofs.lemmas.List.Sums.{sum_by-set}
use Rattle.cweb_out.specs.declared.outputs.search.Mark.{Mark}
use Rattle.cweb_out.specs.declared.outputs.search.Mark.TheVariants.{Unseen, Waits, Ranked}
use Rattle.cweb_out.specs.inner.Search.{MarksFitPath, Waited, mark_of, marks_left, path_of}
use Rattle.std.proofs.lemmas.Bool.{cases_lt}
use Rattle.cweb_out.proofs.Ranks.{on-prefix, on-last}
use Rattle.cweb_out.proofs.ScannedUses.{looked-start}
use Rattle.cweb_out.proofs.Paths.{new-pop, new-push, on-pushed, path-push, split-or, within-pop, within-push}

mark-same : (marks : List Mark) (n : NameId) (m : Mark) → n.0 < length marks → mark_of (set marks n.0 m) n ≡ m
mark-same marks n m l = get_or-set_same marks n.0 m Unseen l

mark-other : (marks : List Mark) (n k : NameId) (m : Mark) → k.0 ≢ n.0 → mark_of (set marks n.0 m) k ≡ mark_of marks k
mark-other marks n k m d = get_or-set_other marks n.0 k.0 m Unseen d

pub top-within : {w : Stored} {marks : List Mark} (path : List Waiting) (f : Waiting)
    → MarksFitPath w marks (path ++ f ∷ []) → FrameIsWithin w f.text
top-within path f t = (within-pop path f t.within).1

-- A name starts to wait.
pub fits-push : {w : Stored} {marks : List Mark} {path : List Waiting} (f : Waiting)
    → MarksFitPath w marks path → mark_of marks f.name ≡ Unseen → f.name.0 < names w
    → FrameIsWithin w f.text → MarksFitPath w (set marks f.name.0 Waits) (path ++ f ∷ [])
fits-push {marks} {path} f t u l i =
    grind (arith, length-set, eqb_tells, mark-same, mark-other, path-push, on-pushed, new-push, within-push)

-- The last waiting name gets its rank.
pub fits-pop : {w : Stored} {marks : List Mark} {path : List Waiting} (f : Waiting)
    → MarksFitPath w marks (path ++ f ∷ [])
    → f.name.0 < names w → has_rank w f.name ≡ true → MarksFitPath w (set marks f.name.0 Ranked) path
fits-pop {w} {marks} {path} f t l r =
    let lt : f.name.0 < length marks = omega (arith, l, t.all) in
    let split = new-pop [] (path_of path) f.name (subst (AreNew []) (path-push path f) t.new) in
    record {
      all = length-set marks f.name.0 Ranked ∙ t.all;
      ranked = grind (arith, eqb_tells, inl, inr, mark-other);
      waits = grind (arith, eqb_tells, inl, mark-same, set, inr, split-or, on-pushed, path-push, mark-other);
      marked = λ n h. elim (eqb_tells n.0 f.name.0) [
        | inl e ↦
            let bad : true ≡ false = sym h ∙ ap (λ m. list_any (is_id m) (path_of path)) (ap id e.1) ∙ split.1 in
            cc
        | inr e ↦ mark-other marks f.name n Ranked e.1
            ∙ t.marked n (ap (list_any (is_id n)) (path-push path f) ∙ on-prefix (path_of path) (f.name ∷ []) n h)
      ];
      new = split.0;
      within = (within-pop path f t.within).0;
    }

-- The last waiting name advances in its list.
pub fits-swap : {w : Stored} {marks : List Mark} (path : List Waiting) (f g : Waiting) → g.name ≡ f.name
    → FrameIsWithin w g.text → MarksFitPath w marks (path ++ f ∷ []) → MarksFitPath w marks (path ++ g ∷ [])
fits-swap path f g e i t = grind (arith, path-push, within-push, within-pop)

-- A waiting name is one of the names.
pub top-name : {w : Stored} {marks : List Mark} {path : List Waiting} (n : NameId)
    → MarksFitPath w marks path → list_any (is_id n) (path_of path) ≡ true → n.0 < names w
top-name {w} {marks} n t h = grind (arith, cases_lt n.0 (names w), cases_lt, get_or_past)

pub on-top : (path : List Waiting) (f : Waiting) → list_any (is_id f.name) (path_of (path ++ f ∷ [])) ≡ true
on-top path f = ap (list_any (is_id f.name)) (path-push path f) ∙ on-last (path_of path) f.name

-- Marking a name leaves less to mark.
pub left-less : (marks : List Mark) (n : NameId) (m : Mark) → n.0 < length marks
    → marks_left m < marks_left (mark_of marks n) → sum_by marks_left (set marks n.0 m) < sum_by marks_left marks
left-less marks n m l h = let e = sum_by-set marks_left marks n.0 m Unseen l in omega (arith, h, e)

-- The state of a name that has just started to wait.
pub waited-fits : {w : Stored} {marks more : List Mark} {path longer : List Waiting} {n : NameId} (f : Waiting)
    → MarksFitPath w marks path → mark_of marks n ≡ Unseen → n.0 < names w → f.name ≡ n → FrameIsWithin w f.text
    → suffix w f.text
    ≡ joined w n → more ≡ set marks n.0 Waits → longer ≡ path ++ f ∷ [] → Waited w marks path n more longer
waited-fits {w} {marks} {longer} {n} f t u l e i s m p =
    let fits = fits-push f t (ap (mark_of marks) e ∙ u) (rw e l) i in
    let lt : n.0 < length marks = omega (arith, l, t.all) in
    let two : marks_left Waits < marks_left (mark_of marks n) = rw u (omega arith) in
    record {
      top = f;
      name = e;
      long = p;
      fits = rw (← (ap (λ (k : NameId). set marks k.0 Waits) e ∙ sym m)) (rw p fits);
      looked = looked-start s;
      less = rw m (left-less marks n Waits lt two);
    }
