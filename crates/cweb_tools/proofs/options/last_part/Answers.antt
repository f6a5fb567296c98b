use Rattle.cweb_tools.proofs.Common.{Some, None, sym, ◌∙◌, arith, rfind_char}
use Rattle.cweb_tools.proofs.Stems.{after_found, after_none}
use Rattle.cweb_tools.proofs.options.last_part.Goals as goal

pub returns-in-Some : goal.returns-in-Some
returns-in-Some c =
    let found = rfind_char 47 c.args.word.now (Some c.in-Some.slash) c.in-Some.ensures.cases (omega arith) in
    c.range_from.ensures.value ∙ sym (after_found 47 c.args.word.now c.in-Some.slash found.0 found.1 found.2)

pub returns-in-None : goal.returns-in-None
returns-in-None c =
    sym (after_none 47 c.args.word.now (rfind_char 47 c.args.word.now None c.in-None.ensures.cases (omega arith)))
