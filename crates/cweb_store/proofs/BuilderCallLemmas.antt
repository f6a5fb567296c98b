-- The contents of a builder after a call, by its result.
use Rattle.cweb_store.proofs.Common.{◌≡◌, ◌+◌, refl, Bool, true, false, ℕ, List, [], ◌∷◌, ◌++◌, arith, length-append, map-append, if◌then◌else◌, Call, Occurs, Opens, Pushes, Drops, Closes, Transliterates, Contents, after_call, contents, empty, fold, call_model, accepted_calls, HoldsAtMost, Answered, AcceptsCall, AcceptsCalls, IsTrue, append-nil, filter-append}
use Rattle.cweb_store.proofs.CallerLemmas.{token_count_opened, token_count_pushed, part_count_opened, token_count_dropped, token_count_closed, part_count_pushed, part_count_dropped, part_count_closed}
use Rattle.std.proofs.lemmas.List.Sums.{fold-append}

forms-one : (answers : List Answered) (a : Answered)
    → accepted_calls (answers ++ a ∷ []) ≡ accepted_calls answers ++ (if a.is_ok then call_model a.call ∷ [] else [])
forms-one answers a = simp (filter-append, map-append) (grind (arith, a.is_ok))

pub held-one : (answers : List Answered) (a : Answered) (c : Contents) → c ≡ contents (accepted_calls answers)
    → (if a.is_ok then after_call c (call_model a.call) else c) ≡ contents (accepted_calls (answers ++ a ∷ []))
held-one answers a c held = simp (forms-one, fold-append, ← held) (grind (arith, a.is_ok))

takes-one : (c : Contents) (calls : List Call) (call : Call)
    → AcceptsCalls c calls → AcceptsCall (fold after_call c calls) call → AcceptsCalls c (calls ++ call ∷ [])
takes-one c [] call all next = (next, tt)
takes-one c (x ∷ xs) call all next = (all.0, takes-one (after_call c x) xs call all.1 next)

pub taken-one : (answers : List Answered) (a : Answered) (c : Contents) → c ≡ contents (accepted_calls answers)
    → AcceptsCalls empty (accepted_calls answers) → (IsTrue a.is_ok → AcceptsCall c (call_model a.call))
    → AcceptsCalls empty (accepted_calls (answers ++ a ∷ []))
taken-one answers a c held all next = grind (arith, forms-one, takes-one, append-nil, held)

at-most-after : (n : ℕ) (c : Contents) (call : Call) → HoldsAtMost n c → AcceptsCall c call
    → HoldsAtMost (n + 1) (after_call c call)
at-most-after n c (Occurs o) h takes = grind (arith, length-append)
at-most-after n c (Opens kind) h takes = grind (arith, token_count_opened, part_count_opened, takes.0)
at-most-after n c (Pushes t) h takes = grind (arith, token_count_pushed, part_count_pushed, takes.0)
at-most-after n c Drops h takes = grind (arith, token_count_dropped, part_count_dropped)
at-most-after n c Closes h takes = grind (arith, token_count_closed, part_count_closed)
at-most-after n c (Transliterates r) h takes = grind arith

pub at-most-one : (n : ℕ) (c : Contents) (call : Call) (is_ok : Bool) → HoldsAtMost n c
    → (IsTrue is_ok → AcceptsCall c call) → HoldsAtMost (n + 1) (if is_ok then after_call c call else c)
at-most-one n c call true h takes = at-most-after n c call h (takes refl)
at-most-one n c call false h takes = grind arith
