use Rattle.cweb_out.proofs.Common.{◌≡◌, ◌+◌, ◌-◌, ◌++◌, length, take, arith, ℕ, length-take-le}
use Rattle.cweb_out.proofs.OverlappingEnds.{overlapped, taken_twice}
use Rattle.cweb_out.proofs.buffer.copying.put_ends.Goals as goal

pub returns-clause-put : goal.returns-clause-put
returns-clause-put g c =
    let bytes = c.args.bytes.now in
    let used = c.args.used in
    let text = c.args.text.now in
    let before = take used bytes in
    let after : ℕ = length text - g.row.N in
    let mid = c.put_chunk.new.bytes in
    let size : length before ≡ used = length-take-le used bytes (omega (arith, c.requires.room)) in
    let prefix : take (used + after) mid ≡ take (used + after) (before ++ take g.row.N text) =
    grind (arith, taken_twice) in
    grind (arith, overlapped)
