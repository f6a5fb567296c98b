use Rattle.cweb_tools.proofs.Common.{arith, part_bytes, refl}
use Rattle.cweb_tools.proofs.BufferedLog.{buffers_nothing, count_kept, buffers_next, fails_at, fails_if, buffers_all}
use Rattle.cweb_tools.proofs.writing.append_chunk.Goals as goal

pub parts-init : goal.parts-init
parts-init g c = buffers_nothing refl refl

pub append_part-requires : goal.append_part-requires
append_part-requires g c = omega (arith, count_kept c.parts.invariant, c.requires)

pub returns-in_err-append_part : goal.returns-in_err-append_part
returns-in_err-append_part g c = fails_if _ _ _ _ c.from_residual.ensures.0 (fails_at part_bytes c.args.parts.now
    c.parts.part-index _ c.parts-test.true c.parts.invariant c.in_err-append_part.ensures)

pub parts-preserved : goal.parts-preserved
parts-preserved g c = buffers_next part_bytes c.args.parts.now
    c.parts.part-index _ c.parts-test.true c.parts.invariant c.in_ok-append_part.ensures

pub returns : goal.returns
returns g c = buffers_all part_bytes c.args.parts.now c.parts.part-index c.parts-test.false c.parts.invariant
