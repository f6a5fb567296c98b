use Rattle.cweb_out.proofs.Common.{◌++◌, ◌∙◌, ap, append_assoc, arith, take, List, ℕ, blank_where}
use Rattle.cweb_out.proofs.OverlappingEnds.{prefix_stays}
use Rattle.cweb_out.proofs.buffer.copying.put_if_fits.Goals as goal

pub returns-clause-kept : goal.returns-clause-kept
returns-clause-kept c = grind (arith, append_assoc)

pub returns-clause-prefix : goal.returns-clause-prefix
returns-clause-prefix c =
    let text = c.args.text.now in
    prefix_stays c.args.bytes.now c.put_slice.new.bytes (blank_where c.args.is_apart ++ text)
    c.args.used c.put_slice.result (omega (arith, c.put_slice.ensures.end, c.put_blank-begin.ensures.within.0))
    (omega (arith, c.requires.size, c.requires.within))
    (omega (
      arith,
      c.requires.size,
      c.put_slice.ensures.size,
      c.put_blank-begin.ensures.size,
      c.put_slice.ensures.end,
      c.put_blank-begin.ensures.within.1,
    ))
    (c.put_slice.ensures.put ∙ ap (λ (t : List ℕ). t ++ text) c.put_blank-begin.ensures.put
    ∙ append_assoc (take c.args.used c.args.bytes.now) (blank_where c.args.is_apart) text)
