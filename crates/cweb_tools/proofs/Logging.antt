-- Logging of items is the doing of acts. The faults of a web as items: their number and their lines.
use Rattle.cweb_tools.proofs.Common.{◌≡◌, ◌<◌, ◌⊎◌, inl, inr, ℕ, zero, suc, List, [], ◌∷◌, ◌++◌, map, refl, sym, ◌∙◌, ap, append-nil, length, arith, flat_map, ◌==◌, Bool, true, false, None, Some, Result, Ok, Err, LogFault, Wrote, FailsWithin, Logs, logged, log_failed, written, LogItem, line, starred, SinkModel, FailedReads, ending, PerformsActs, says, at, DoesInLog, log_ending, starred_acts, when, ◌+◌, cond, length-append, flat_map-append, length-map, sum_by-append, sum_by-cons, count_by, SourceFault, Part, is_macro, numbers_from, numbers_where, PartKind, Scanned, fault_count, is_fault, source_item, name_items, scan_item, EndsInLog, acts_status, web_of}
use Rattle.cweb_files.proofs.Appending.{appended_on, written_none, written_then}
use Rattle.cweb_tools.proofs.Doing.{does_none, ends_reported}
use Rattle.cweb_store.specs.Faults as store

-- Two ways to split a list of bytes: one prefix is a prefix of the other.
abbrev Cuts : List ℕ → List ℕ → List ℕ → List ℕ → Type 0
Cuts a b prefix rest =
    ((more : List ℕ) × (a ≡ prefix ++ more)) ⊎ ((more : List ℕ) × (prefix ≡ a ++ more) × (b ≡ more ++ rest))

cuts : (a b prefix rest : List ℕ) → a ++ b ≡ prefix ++ rest → Cuts a b prefix rest
cuts [] b prefix rest is = inr (prefix, refl, is)
cuts (x ∷ a) b [] rest is = inl (x ∷ a, refl)
cuts (x ∷ a) b (y ∷ prefix) rest is = grind (arith, cuts a b prefix rest (cc))

-- The log failed within one of the lines.
lines_stop : (item : LogItem) (items : List LogItem) (shelf : FailedReads) (out : SinkModel) (old new : SinkModel)
    → FailsWithin (flat_map line (item ∷ items)) old new
    → PerformsActs (map says (item ∷ items)) (Some (ending LogFault [])) (at shelf out old) (at shelf out new)
lines_stop item [] shelf out old new fails = grind (arith, inr, append-nil)
lines_stop item (next ∷ items) shelf out old new fails =
    elim (cuts (line item) (flat_map line (next ∷ items)) fails.prefix fails.rest fails.whole) [
      | inl cut ↦ inr (record {
        log = record { prefix = fails.prefix; rest = cut.0; whole = cut.1; is = fails.is };
        others = refl;
      })
      | inr cut ↦ inl (
        tt,
        lines_stop next items shelf out (written (line item) old) new (record {
          prefix = cut.0;
          rest = fails.rest;
          whole = cut.2;
          is = grind (arith, appended_on);
        }),
      )
    ]

-- All lines were logged.
lines_said : (items : List LogItem) (shelf : FailedReads) (out : SinkModel) (old new : SinkModel)
    → new ≡ written (flat_map line items) old → PerformsActs (map says items) None (at shelf out old) (at shelf out new)
lines_said [] shelf out old new is = ap (at shelf out) (is ∙ sym (written_none old))
lines_said (item ∷ items) shelf out old new is =
    grind (arith, written_then, lines_said items shelf out (written (line item) old) new)

-- Writing the lines of a nonempty list of items is logging them.
pub said_all : {A E : Type 0} (r : Result A E) (item : LogItem) (items : List LogItem) {old new : SinkModel}
    → Wrote (flat_map line (item ∷ items)) old new r
    → DoesInLog (map says (item ∷ items)) (log_ending r) old new
said_all (Ok x) item items {old} {new} writes =
    λ shelf out. record { runs = lines_said (item ∷ items) shelf out old new writes }
said_all (Err e) item items {old} {new} writes = grind (arith, lines_stop)

-- One line.
pub said : {A E : Type 0} (r : Result A E) (item : LogItem) {old new : SinkModel}
    → Wrote (line item) old new r → DoesInLog (says item ∷ []) (log_ending r) old new
said r item {old} {new} writes = said_all r item [] (rw (append-nil (line item)) writes)

-- The logged bytes, or a prefix of them, were written.
pub logs_write : {text : List ℕ} {old new : SinkModel}
    → Logs text old new → (r : Result (Unit {0}) (Unit {0})) × Wrote text old new r
logs_write (logged is) = (Ok tt, is)
logs_write (log_failed fails) = (Err tt, fails)

-- Nothing was to be logged.
pub said_none : {stream : SinkModel} → DoesInLog [] None stream stream
said_none = λ shelf out. does_none

-- A line that is wanted.
pub said_when : {A E : Type 0} (r : Result A E) (wanted : Bool) (item : LogItem) {old new : SinkModel}
    → wanted ≡ true → Wrote (flat_map line (item ∷ [])) old new r
    → DoesInLog (when wanted item) (log_ending r) old new
said_when r true item is writes = said_all r item [] writes
said_when r false item is writes = absurd (cc)

-- A line that isn't wanted.
pub said_not : (wanted : Bool) (item : LogItem) {stream : SinkModel} → wanted ≡ false
    → DoesInLog (when wanted item) None stream stream
said_not true item is = absurd (cc)
said_not false item is = said_none

-- A list of nonzero length has elements.
pub some_by : (n : ℕ) → (n == 0) ≡ false → 0 < n
some_by zero is = absurd (cc)
some_by (suc n) is = omega arith

-- The numbers of a nonempty list of starred sections.
pub said_starred : {A E : Type 0} (r : Result A E) (progress : Bool) (numbers : List ℕ) {old new : SinkModel}
    → progress ≡ true → 0 < length numbers
    → Wrote (flat_map line (starred numbers ∷ [])) old new r
    → DoesInLog (starred_acts progress numbers) (log_ending r) old new
said_starred r progress [] is some writes = absurd (omega (arith, some))
said_starred r progress (n ∷ numbers) is some writes = said_when r progress (starred (n ∷ numbers)) is writes

-- The faults of the files, the source and the names.
abbrev fault_items : List (List ℕ) → List SourceFault → Scanned → List LogItem
fault_items files faults made = (web_of files faults made []).faults

-- A list of items that are all faults.
all_count : {X : Type 0} (f : X → LogItem) (xs : List X)
    → ((x : X) → is_fault (f x) ≡ true) → fault_count (map f xs) ≡ length xs
all_count f [] is = refl
all_count f (x ∷ xs) is =
    let one : ◌≡◌ {A = ℕ} (cond (is_fault (f x)) 1 0) 1 = ap (λ (b : Bool). cond b 1 0) (is x) in
    omega (arith, sum_by-cons (λ (item : LogItem). cond (is_fault item) 1 0) (f x) (map f xs), one, all_count f xs is)

pub all_counted : (files : List (List ℕ)) (faults : List SourceFault) (made : Scanned)
    → fault_count (fault_items files faults made)
    ≡ length faults + (length made.faults + length (store.faults made.store.occurrences made.store.parts))
all_counted files faults made = grind (arith, all_count, sum_by-append)

-- The fault count is the number of items.
pub counted_all : (files : List (List ℕ)) (faults : List SourceFault) (made : Scanned)
    → fault_count (fault_items files faults made) ≡ length (fault_items files faults made)
counted_all files faults made = grind (arith, all_counted, length-append, length-map)

-- Without faults nothing is logged.
pub none_said : (items : List LogItem) {stream : SinkModel}
    → length items ≡ 0 → DoesInLog (map says items) None stream stream
none_said [] {stream} none = said_none
none_said (item ∷ items) none = absurd (omega (arith, none))

pub some_said : {A E : Type 0} (r : Result A E) (items : List LogItem) {old new : SinkModel} → 0 < length items
    → Wrote (flat_map line items) old new r → DoesInLog (map says items) (log_ending r) old new
some_said r [] some writes = absurd (omega (arith, some))
some_said r (item ∷ items) {old} {new} some writes = said_all r item items writes

-- The faults of a merge were logged, and the status is 1.
pub faults_said : {A E : Type 0} (r : Result A E) (files : List (List ℕ)) (faults : List SourceFault)
    {old new : SinkModel} → (length faults ≡ 0 → ⊥)
    → Wrote (flat_map line (map (source_item files) faults)) old new r
    → EndsInLog (map says (map (source_item files) faults)) (acts_status (map says (map (source_item files) faults)))
    old new 1
faults_said r files [] some writes = absurd (some refl)
faults_said r files (met ∷ faults) some writes = ends_reported r
    (said_all r (source_item files met) (map (source_item files) faults) writes) refl refl

-- The lines of a web's faults are those of its files, its source and its names.
pub fault_text : (files : List (List ℕ)) (faults : List SourceFault) (made : Scanned)
    → flat_map line (fault_items files faults made) ≡
    flat_map line (map (source_item files) faults)
    ++ (flat_map line (map (scan_item files) made.faults) ++ flat_map line (name_items made.store))
fault_text files faults made = grind (arith, flat_map-append)

-- The number of macros.
numbers_counted : (test : PartKind → Bool) (parts : List Part) (n : ℕ)
    → length (numbers_from test n parts) ≡ count_by (λ (part : Part). test part.kind) parts
numbers_counted test [] n = refl
numbers_counted test (p ∷ parts) n =
    let rest : length (numbers_from test (n + length p.tokens) parts)
    ≡ count_by (λ (part : Part). test part.kind) parts = numbers_counted test parts (n + length p.tokens) in
    let split = sum_by-cons (λ (part : Part). cond (test part.kind) 1 0) p parts in
    (elim (test p.kind) as (λ b. length (cond b ((record { first = n; after = n + length p.tokens }) ∷ numbers_from test
    (n + length p.tokens) parts) (numbers_from test (n + length p.tokens) parts))
    ≡ cond b 1 0 + count_by (λ (part : Part). test part.kind) parts) [
      | true ↦ omega (arith, rest)
      | false ↦ omega (arith, rest)
    ]) ∙ sym split

pub macros_counted : (parts : List Part)
    → length (numbers_where is_macro parts) ≡ count_by (λ (part : Part). is_macro part.kind) parts
macros_counted parts = numbers_counted is_macro parts 0
