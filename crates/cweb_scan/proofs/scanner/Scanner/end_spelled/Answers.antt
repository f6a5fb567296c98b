use Rattle.cweb_scan.proofs.Common.{List, ℕ, ◌++◌, ap, ◌∙◌, reach, look_in_name, unescaped, occurrence, Open, arith}
use Rattle.cweb_scan.proofs.PendingNames.{name_spelled}
use Rattle.cweb_scan.proofs.scanner.Scanner.end_spelled.Goals as goal

pub returns-then-plain-extent : goal.returns-then-plain-extent
returns-then-plain-extent c = grind (arith, name_spelled)

pub returns : goal.returns
returns c =
    let inner = c.split_at.ensures.back in
    let text = c.deref.ensures.value ∙ c.in_ok-push_units.ensures
    ∙ ap (λ (v : List ℕ). v ++ unescaped
    (reach look_in_name Open c.split_at.result.1.now).units) c.new-bytes.ensures.items
    ∙ ap (λ (v : List ℕ). unescaped (reach look_in_name Open v).units) inner in
    c.in_ok-end_name-2.ensures
    ∙ (λ i. occurrence (c.begins-is_file.ensures.value i) (text i) c.args.how c.args.opens c.args.begun c.args.self.now)
