use Rattle.cweb_lines.proofs.Common.{rules, ◌≡◌, ◌∷◌, [], ℕ, List, sym, arith, ap, ◌∙◌, length-append, string_bytes, ◌++◌, subst, get_or, get_or_push, opened_file_names, AreReadersNamed, IsReaderNamed}
use Rattle.cweb_lines.proofs.ReadersStayNamed.{change_more, named_more, named_set}
use Rattle.cweb_lines.proofs.SourceStacks.{most_set}
use Rattle.cweb_lines.proofs.step.obey.open.Goals as goal

pub invariant_of-run-2 : goal.invariant_of-run-2
invariant_of-run-2 g c = grind (arith, length-append, most_set)

pub returns-clause-readers : goal.returns-clause-readers
returns-clause-readers g c = λ opened_as opened known.
    let run = c.args.run.now in
    let more = string_bytes c.args.opening.name ∷ [] in
    let names : opened_file_names c.open_source.new.names ≡ opened_file_names run.names ++ more =
    c.in_ok-text.ensures.names in
    let number = c.in_ok-text.text.file.0 in
    let file : get_or (opened_file_names run.names ++ more) number [] ≡ string_bytes c.args.opening.name =
    get_or_push (opened_file_names run.names) (string_bytes c.args.opening.name) [] number
    (sym c.in_ok-text.ensures.level.0) in
    let top = ap opened_as c.in_ok-text.ensures.reader ∙ opened
    ∙ sym (ap (λ (ns : List (List ℕ)). get_or ns number []) names ∙ file) in
    let others = subst (λ (ns : List (List ℕ)). AreReadersNamed opened_as ns run.stack.texts) (sym names)
    (named_more opened_as (opened_file_names run.names) more run.stack.texts run.open_known known.texts) in
    record {
      texts = grind (arith, named_set, c.push.ensures.texts);
      change = subst (λ (ns : List (List ℕ)). IsReaderNamed opened_as ns run.change) (sym names)
          (change_more opened_as (opened_file_names run.names) more run.change run.change_known known.change);
    }

pub returns-clause-opens : goal.returns-clause-opens
returns-clause-opens g c = search rules
