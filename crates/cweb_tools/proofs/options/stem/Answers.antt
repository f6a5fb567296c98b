use Rattle.cweb_tools.proofs.Common.{◌≡◌, Some, None, take, ◌∙◌, ap, arith, rfind_char, slice_range}
use Rattle.cweb_tools.proofs.Stems.{stem_found, stem_whole}
use Rattle.cweb_tools.proofs.options.stem.Goals as goal

pub returns-in-Some : goal.returns-in-Some
returns-in-Some c =
    let part = c.last_part-part.result.now in
    let found = rfind_char 46 part (Some c.in-Some.dot) c.in-Some.ensures.cases (omega arith) in
    let prefix : slice_range part 0 c.in-Some.dot ≡ take c.in-Some.dot part = ap (λ n. take n part) (omega arith) in
    c.range.ensures.value ∙ prefix
    ∙ stem_found c.args.word.now part c.in-Some.dot c.last_part-part.ensures found.0 found.1 found.2

pub returns-in-None : goal.returns-in-None
returns-in-None c =
    let part = c.last_part-part.result.now in
    stem_whole c.args.word.now part c.last_part-part.ensures
    (rfind_char 46 part None c.in-None.ensures.cases (omega arith))
