-- The line marks of an expansion, the acts of consecutive outputs, and an expander between outputs.
use Rattle.cweb_tools.proofs.Common.{◌≡◌, ℕ, Bool, List, length, map, refl, sym, ◌∙◌, ap, subst, Bor, All, Result, File, opened_file_names, FileNames, Stop, Stored, Token, IsMarkBelow, expand, left, Planned, output_name_at, output_at, root_at, root_list, setting, file, names, Expander, SinkModel, ending_of, DoesInBoth, IsReady, StaysReady, output_ending, file_at, planned_files, left_in, output_acts, outputs_acts, output_file, Failed, arith, ◌<◌, ◌≤◌, ◌+◌, suc, [], ◌∷◌, ◌++◌, take, drop, get_or, append-nil, drop-cons, flat_map-append, take-append-drop, take_more, take_all, map-append, Act, zero, true, false, cond, not, All-nil, All-cons, All-head, All-tail, All-append, Option, None, Some, Mark, Name, Defs, Part, all_tokens, is_of, is_unnamed, NameId, PartKind, expanded_name, put, option_map_or, defs_first, MarkFileIsNamed, Setting, joined, program, resolved_use, flat_map}
use Rattle.cweb_store.specs.Parts as parts
use Rattle.cweb_store.specs.Names as spec

-- The file of a mark has a name.
pub mark_named : (s : Setting) (t : Token) → IsMarkBelow (length s.files) t → MarkFileIsNamed s t
mark_named s (Mark place) below = below
mark_named s t below = tt

pub all_prefix : {X : Type 0} (P : X → Type 0) (xs ys : List X) → All P (xs ++ ys) → All P xs
all_prefix P [] ys all = All-nil P
all_prefix P (x ∷ xs) ys all =
    All-cons P x xs (All-head P x (xs ++ ys) all) (all_prefix P xs ys (All-tail P x (xs ++ ys) all))

pub all_back : {X : Type 0} (P : X → Type 0) (xs ys : List X) → All P (xs ++ ys) → All P ys
all_back P [] ys all = all
all_back P (x ∷ xs) ys all = all_back P xs ys (All-tail P x (xs ++ ys) all)

-- A property of the tokens of all parts.
module _ (P : Token → Type 0) where
  kept : (b : Bool) (p : Part) (ps : List Part) → All P p.tokens
      → All P (all_tokens ps) → All P (all_tokens (cond b (p ∷ ps) ps))
  kept true p ps first rest = All-append P p.tokens (all_tokens ps) first rest
  kept false p ps first rest = rest

  some_parts : (test : PartKind → Bool) (ps : List Part) → All P (all_tokens ps) → All P (parts.joined_where test ps)
  some_parts test [] all = All-nil P
  some_parts test (p ∷ ps) all = kept (test p.kind) p _
      (all_prefix P p.tokens (all_tokens ps) all) (some_parts test ps (all_back P p.tokens (all_tokens ps) all))

  module _ (w : Stored) (all : All P (all_tokens w.parts)) where
    for_all : (text : NameId → List Token) → ((n : NameId) → All P (text n))
        → (o : Option NameId) → All P (option_map_or text o [])
    for_all text texts None = All-nil P
    for_all text texts (Some n) = texts n

    put_all : (text : NameId → List Token) → ((n : NameId) → All P (text n)) → (t : Token) → P t → All P (put w text t)
    put_all text texts (Name name) holds = for_all text texts (resolved_use w name)
    put_all text texts t holds = All-cons P t [] holds (All-nil P)

    all_put : (text : NameId → List Token) → ((n : NameId) → All P (text n))
        → (ts : List Token) → All P ts → All P (flat_map (put w text) ts)
    all_put text texts [] holds = All-nil P
    all_put text texts (t ∷ ts) holds = All-append P (put w text t) (flat_map (put w text) ts)
        (put_all text texts t (All-head P t ts holds)) (all_put text texts ts (All-tail P t ts holds))

    text_all : (k : ℕ) (n : NameId) → All P (expanded_name w k n)
    text_all zero n = All-nil P
    text_all (suc k) n = all_put
        (expanded_name w k) (text_all k) (joined w n)
        (some_parts (is_of (spec.resolutions w.occurrences) n) w.parts all)

    first_all : P Defs → (b : Bool) → All P (defs_first b)
    first_all defs true = All-cons P Defs [] defs (All-nil P)
    first_all defs false = All-nil P

    root_all : P Defs → (root : Option NameId) → All P (root_list w root)
    root_all defs None = All-append P (defs_first (not (parts.has_defs_code w.parts)))
        (program w) (first_all defs (not (parts.has_defs_code w.parts))) (some_parts is_unnamed w.parts all)
    root_all defs (Some n) = some_parts (is_of (spec.resolutions w.occurrences) n) w.parts all

    pub expansion_all : P Defs → (root : Option NameId) → All P (expand w (names w) (root_list w root))
    expansion_all defs root =
        all_put (expanded_name w (names w)) (text_all (names w)) (root_list w root) (root_all defs root)

pub stays : {names : FileNames} {e : Expander} → IsReady names e → StaysReady e e
stays ready = record { store = refl; plan = refl; valid = ready.valid }

pub stays_on : {a b c : Expander} → StaysReady a b → StaysReady b c → StaysReady a c
stays_on first then = record { store = then.store ∙ first.store; plan = then.plan ∙ first.plan; valid = then.valid }

-- The file of an output is unchanged.
pub file_on : (files : FileNames) {a b : Expander} (n : ℕ) → StaysReady a b → file_at files b n ≡ file_at files a n
file_on files n on = λ i. output_file (on.store i).now (opened_file_names files) (output_at (on.plan i).now.outputs n)

-- The marks of an output are about files with names.
pub left_known : (files : FileNames) (a b : Expander) (n : ℕ) → IsReady files a → b.store ≡ a.store
    → left a.store.now b.frames.items
    ≡ expand a.store.now (names a.store.now) (root_list a.store.now (root_at a.plan.now.outputs n))
    → All (IsMarkBelow (length (opened_file_names files))) (left_in b)
left_known files a b n ready same yields =
    let Known : Token → Type 0 = IsMarkBelow (length (opened_file_names files)) in
    subst (All Known) (sym (ap (λ (s : Bor Stored). left s.now b.frames.items) same ∙ yields))
    (expansion_all Known a.store.now ready.marks tt (root_at a.plan.now.outputs n))

-- Printing the tokens of an output gives its file.
pub text_on : (files : FileNames) (a b : Expander) (ts : List Token)
    → b.store ≡ a.store → left a.store.now b.frames.items ≡ ts
    → file (setting b.store.now (opened_file_names files)) (left_in b)
    ≡ file (setting a.store.now (opened_file_names files)) ts
text_on files a b ts same yields = grind arith

-- The acts of an output are those of the initial expander.
pub output_on : {A : Type 0} (progress : Bool) (files : FileNames) {a b : Expander}
    (n : ℕ) (r : Result A Stop) {x y : SinkModel} {k l : SinkModel} → StaysReady a b
    → DoesInBoth (output_acts progress (file_at files b n)) (ending_of (output_name_at b.plan.now.outputs n) r) x y k l
    → DoesInBoth (output_acts progress (file_at files a n)) (ending_of (output_name_at a.plan.now.outputs n) r) x y k l
output_on progress files {a} {b} n r {x} {y} {k} {l} on does = subst (λ (f : File). DoesInBoth (output_acts progress f)
    (ending_of (output_name_at a.plan.now.outputs n) r) x y k l) (file_on files n on) (subst (λ (p : Bor Planned).
    DoesInBoth (output_acts progress (file_at files b n)) (ending_of (output_name_at p.now.outputs n) r) x y k l)
    on.plan does)

-- The acts of all outputs are those of the store and the plan.
pub all_on : (progress : Bool) (files : FileNames) (e : Expander) {s : Bor Stored} {p : Bor Planned}
    {store : Stored} (r : Result (Unit {0}) Failed) {x y k l : SinkModel} → e.store ≡ s → s.now ≡ store → e.plan ≡ p
    → DoesInBoth (outputs_acts progress (planned_files files e)) (output_ending e.plan.now.outputs r) x y k l
    → DoesInBoth (outputs_acts progress (map (output_file store (opened_file_names files)) p.now.outputs))
    (output_ending p.now.outputs r) x y k l
all_on progress files e r of_store is of_plan does = rw (← of_plan) (rw (← is) (rw (← of_store) does))

-- Outputs with the file of each.
module _ {X : Type 0} (file : X → File) (progress : Bool) where
  abbrev pub acts : List X → List Act
  acts xs = outputs_acts progress (map file xs)

  acts_joined : (xs ys : List X) → acts (xs ++ ys) ≡ acts xs ++ acts ys
  acts_joined xs ys = grind (arith, map-append, flat_map-append)

  -- The acts of the outputs before one, of that one, and of those after it.
  pub acts_at : (xs : List X) (i : ℕ) (d : X) → i < length xs
      → acts xs ≡ acts (take i xs) ++ (output_acts progress (file (get_or xs i d)) ++ acts (drop (suc i) xs))
  acts_at xs i d lt =
      ap acts (sym (take-append-drop i xs)) ∙ acts_joined (take i xs) (drop i xs)
      ∙ ap (λ (ys : List X). acts (take i xs) ++ acts ys) (drop-cons xs i d lt)

  -- One more output.
  pub acts_more : (xs : List X) (i : ℕ) (d : X) → i < length xs
      → acts (take (i + 1) xs) ≡ acts (take i xs) ++ output_acts progress (file (get_or xs i d))
  acts_more xs i d lt =
      ap acts (take_more xs i d lt) ∙ acts_joined (take i xs) (get_or xs i d ∷ [])
      ∙ ap (λ (more : List Act). acts (take i xs) ++ more) (append-nil (output_acts progress (file (get_or xs i d))))

  pub acts_all : (xs : List X) (i : ℕ) → length xs ≤ i → acts (take i xs) ≡ acts xs
  acts_all xs i le = ap acts (take_all i xs le)
