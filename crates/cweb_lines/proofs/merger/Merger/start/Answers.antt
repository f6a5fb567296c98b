use Rattle.cweb_lines.proofs.Common.{rules, ◌≡◌, ◌+◌, ◌∷◌, ◌++◌, ℕ, List, Some, length, length-append, string_bytes, ap, sym, ◌∙◌, arith, get_or, [], found_as, names_found, opened_file_names, IsReaderNamed}
use Rattle.cweb_lines.specs.Include.{web_at}
use Rattle.cweb_lines.specs.inner.Stages.{files_of_faults}
use Rattle.cweb_lines.proofs.MergeStateEvents.{begins_low}
use Rattle.cweb_lines.proofs.merger.Merger.start.Goals as goal

pub invariant_of-result : goal.invariant_of-result
unfolding files_of_faults
invariant_of-result g c =
    let none : length (opened_file_names c.new-names.result) ≡ 0 =
    ap (λ (ns : List (List ℕ)). length ns) c.new-names.ensures in
    let one : length (opened_file_names c.open_source.new.names) ≡ 1 =
    ap (λ (ns : List (List ℕ)). length ns) c.in_ok-web-2.ensures.names
    ∙ length-append (opened_file_names c.new-names.result) _ ∙ ap (λ n. n + 1) none in
    let left : g.row.S-R.Denot → List ℕ = λ reader. [] in
    let found = names_found (found_as left c.in-Some-2.change) in
    let all : length (opened_file_names c.open_change.new.names) ≡ 1 + length found =
    ap (λ (ns : List (List ℕ)). length ns) (c.in_ok-change-2.ensures.names left)
    ∙ length-append (opened_file_names c.open_source.new.names) found ∙ ap (λ n. n + length found) one in
    let low = begins_low c.in_ok-change-2.change c.first_stage.result c.first_stage.ensures in
    record {
      shallow = omega (arith, c.new.ensures.depth);
      deep = c.new.ensures.deep (omega (arith, c.in_ok-web-2.ensures.level.2));
      numbers = omega (arith, c.new.ensures.numbers, c.in_ok-web-2.ensures.level.1);
      change_number = omega (arith, c.in_ok-change-2.ensures.number);
      floor = omega (arith, low.0);
      floor_deep = omega (arith, low.0);
      named = omega (arith, c.in_ok-change-2.ensures.few);
      open_known = omega (arith, c.new.ensures.files, c.in_ok-web-2.ensures.level.0, none, all);
      change_known = c.in_ok-change-2.ensures.file;
      begun_known = omega (arith, low.1);
      faults_known = rw c.new-4.ensures.items (omega arith);
      stop_known = omega arith;
    }

pub returns-clause-begins : goal.returns-clause-begins
returns-clause-begins g c = λ seen it.
    let change = found_as seen.left c.in-Some-2.change in
    let names : opened_file_names c.open_change.new.names ≡ string_bytes c.in-Some.web.name ∷ names_found change =
    c.in_ok-change-2.ensures.names seen.left ∙ ap (λ (ns : List (List ℕ)). ns ++ names_found change)
    (c.in_ok-web-2.ensures.names
    ∙ ap (λ (ns : List (List ℕ)). ns ++ string_bytes c.in-Some.web.name ∷ []) c.new-names.ensures) in
    let web = c.in_ok-web.ensures.found seen it
    ∙ (λ i. web_at seen.texts (c.in_ok-from_str.ensures.ok i) (c.in_ok-second.ensures i)) in
    let changed = c.in_ok-change.ensures.found seen (ap (λ m. m.contents) c.in_ok-web.ensures.same ∙ it) in
    record {
      name = string_bytes c.in-Some.web.name;
      text = seen.left c.in-Some.web.reader;
      change = change;
      there = search rules;
      changes_there = search rules;
      so_far_is = search rules;
      whole = search rules;
    }

pub returns-in_default-clause-stops : goal.returns-in_default-clause-stops
returns-in_default-clause-stops g c = λ seen it. sym (rw c.in_default.is at (c.in_ok-web.ensures.found seen it)
    ∙ (λ i. web_at seen.texts (c.in_ok-from_str.ensures.ok i) (c.in_ok-second.ensures i)))

pub returns-in_default-2-clause-stops : goal.returns-in_default-2-clause-stops
returns-in_default-2-clause-stops g c = λ seen it. (
  (
    _,
    sym (rw c.in-Some.is at (c.in_ok-web.ensures.found seen it)
        ∙ (λ i. web_at seen.texts (c.in_ok-from_str.ensures.ok i) (c.in_ok-second.ensures i))),
  ),
  sym (rw c.in_default-2.is at
      (c.in_ok-change.ensures.found seen (ap (λ m. m.contents) c.in_ok-web.ensures.same ∙ it))),
)

pub returns-clause-readers : goal.returns-clause-readers
returns-clause-readers g c = λ seen it.
    let found = names_found (found_as seen.left c.in-Some-2.change) in
    let names : opened_file_names c.open_change.new.names ≡ string_bytes c.in-Some.web.name ∷ found =
    c.in_ok-change-2.ensures.names seen.left ∙ ap (λ (ns : List (List ℕ)). ns ++ found) (c.in_ok-web-2.ensures.names
    ∙ ap (λ (ns : List (List ℕ)). ns ++ string_bytes c.in-Some.web.name ∷ []) c.new-names.ensures) in
    let reader = ap seen.opened_as c.in_ok-web-2.ensures.reader ∙ rw c.in-Some.is at (c.in_ok-web.ensures.opened seen
    it) in
    let first = c.in_ok-web-2.ensures.level.0 ∙ ap (λ (ns : List (List ℕ)). length ns) c.new-names.ensures in
    let top : IsReaderNamed seen.opened_as (opened_file_names c.open_change.new.names) (Some c.in_ok-web-2.web) =
    reader ∙ sym ((λ i. get_or (names i) (first i) [])) in
    record {
      texts = grind arith;
      change = c.in_ok-change-2.ensures.named seen.opened_as (rw c.in-Some-2.is at
          (c.in_ok-change.ensures.opened seen (ap (λ m. m.contents) c.in_ok-web.ensures.same ∙ it)));
    }
