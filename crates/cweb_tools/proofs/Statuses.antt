-- The status of a run that nothing stops.
use Rattle.cweb_tools.specs.declared.rule_targets.Targets.{Targets}
use Rattle.cweb_tools.proofs.Common.{◌≡◌, ◌<◌, ◌+◌, ℕ, Bool, true, false, cond, ◌||◌, List, [], ◌∷◌, ◌++◌, map, refl, sym, ◌∙◌, ap, arith, nat_tests, sum_by-cons, or-true, or-false, list_any-append, ◌==◌, count_by, if◌then◌else◌, list_any, WebNotOpened, LogItem, banner, fault_count, faults, is_fault, no_errors, see_warning, stopped, Shown, Act, opens, says, Numbers, Planning, TangleCourse, logged_items, planned, planned_acts, refused, tangle_status, Web, acts_status, depend_acts, depend_web_acts, depend_plan_acts, tangling, unread, not_there, change_not_there, web_acts, when, web_status, status_by}
use Rattle.cweb_tools.proofs.WebActs.{when_on, starred_on, outputs_on, closing_on, warning_on}

-- Whether acts log a fault.
abbrev has_fault : List Act → Bool
has_fault acts = list_any is_fault (logged_items acts)

abbrev status_for : Bool → ℕ
status_for fails = if fails then 1 else 0

items_in-said : (items : List LogItem) (acts : List Act)
    → logged_items (map says items ++ acts) ≡ items ++ logged_items acts
items_in-said [] acts = refl
items_in-said (item ∷ items) acts = ap (λ (all : List LogItem). item ∷ all) (items_in-said items acts)

fault-said : (items : List LogItem) (acts : List Act)
    → has_fault (map says items ++ acts) ≡ (list_any is_fault items || has_fault acts)
fault-said items acts = grind (arith, items_in-said, list_any-append)

-- The item is no fault.
abbrev IsQuiet : LogItem → Type 0
IsQuiet item = is_fault item ≡ false

abbrev Shows : Bool → List Act → Type 0
Shows b acts = has_fault acts ≡ b

quiet_on : (b : Bool) (item : LogItem) (acts : List Act) → IsQuiet item → Shows b acts → Shows b (says item ∷ acts)
quiet_on b item acts is rest = ap (λ (f : Bool). f || has_fault acts) is ∙ rest

shuts : (none missing : Bool) (count : ℕ)
    → is_fault (if none then (if missing then see_warning else no_errors) else faults count) ≡ false
shuts true true count = refl
shuts _ _ count = refl

-- Only a refused plan has a fault of its own.
abbrev is_refused : Planning → Bool
is_refused (refused text) = true
is_refused (planned files missing) = false

fault-planned : (shown : Shown) (numbers : Numbers) (count : ℕ) (plan : Planning)
    → has_fault (planned_acts shown numbers count plan) ≡ is_refused plan
fault-planned shown numbers count (refused text) = refl
fault-planned shown numbers count (planned files missing) =
    let on = quiet_on false in
    warning_on IsQuiet (Shows false) on shown numbers count files missing refl (outputs_on IsQuiet (Shows false) on
    shown.progress files _ (λ name. refl) (λ name text acts rest. rest) (closing_on IsQuiet (Shows false) on shown
    numbers count missing refl (shuts (count == 0) missing count) refl))

count_step : (b any : Bool) (n m : ℕ) → m ≡ cond b 1 0 + n → (any ≡ true → 0 < n) × (any ≡ false → n ≡ 0)
    → ((b || any) ≡ true → 0 < m) × ((b || any) ≡ false → m ≡ 0)
count_step true any n m is rest = ((λ e. omega (arith, is)), (λ e. absurd (cc)))
count_step false any n m is rest = ((λ e. omega (arith, is, rest.0 e)), (λ e. omega (arith, is, rest.1 e)))

counted_some : {X : Type 0} (p : X → Bool) (xs : List X)
    → (list_any p xs ≡ true → 0 < count_by p xs) × (list_any p xs ≡ false → count_by p xs ≡ 0)
counted_some p [] = ((λ is. absurd (cc)), (λ is. refl))
counted_some p (x ∷ xs) =
    count_step (p x) (list_any p xs) (count_by p xs) (count_by p (x ∷ xs)) (sum_by-cons _ x xs) (counted_some p xs)

by_count : (b : Bool) (n : ℕ) → (b ≡ true → 0 < n) → (b ≡ false → n ≡ 0) → status_for b ≡ (if n == 0 then 0 else 1)
by_count true n some none = let more : 0 < n = some refl in grind (arith, nat_tests)
by_count false n some none = ap (λ (m : ℕ). if m == 0 then 0 else 1) (sym (none refl))

status_planned : (items : List LogItem) (plan : Planning)
    → status_for (list_any is_fault items || is_refused plan) ≡ status_by (fault_count items) plan
status_planned items (refused text) = ap status_for (or-true (list_any is_fault items))
status_planned items (planned files missing) = grind (arith, or-false, by_count, counted_some)

pub banner_status : (shown : Shown) (acts : List Act)
    → acts_status (when shown.banner banner ++ acts) ≡ acts_status acts
banner_status shown acts = grind (arith, when_on, quiet_on)

pub web_status_is : (shown : Shown) (web : Web) → acts_status (web_acts shown web) ≡ web_status web
web_status_is shown web = grind (arith, starred_on, quiet_on, fault-said, fault-planned, status_planned)

fault-depend : (targets : Targets) (files : List (List ℕ)) (plan : Planning)
    → has_fault (depend_plan_acts targets files plan) ≡ is_refused plan
fault-depend targets files (planned outputs true) = refl
fault-depend targets files _ = refl

pub depend_status_is : (targets : Targets) (files : List (List ℕ)) (web : Web)
    → acts_status (depend_web_acts targets files web) ≡ web_status web
depend_status_is targets files web = grind (arith, fault-said, fault-depend, status_planned)

pub same_status : (targets : Targets) (shown : Shown) (course : TangleCourse)
    → acts_status (depend_acts targets course) ≡ tangle_status shown course
same_status targets shown unread = refl
same_status targets shown (not_there web) = sym (banner_status shown (opens ∷ says (stopped WebNotOpened web) ∷ []))
same_status targets shown (change_not_there change) = grind (arith, banner_status)
same_status targets shown (tangling files events web) = grind (arith, depend_status_is, web_status_is, banner_status)
