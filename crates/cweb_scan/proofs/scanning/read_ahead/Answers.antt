use Rattle.cweb_scan.proofs.Common.{◌≡◌, ◌∷◌, ◌++◌, [], List, ℕ, ap, length, arith, length-append, Place, Line, ReaderModel, read_after}
use Rattle.cweb_scan.proofs.Aheads.{read_more, read_nothing}
use Rattle.cweb_scan.proofs.scanning.read_ahead.Goals as goal

-- A line is read by its bytes.
read_as : (old new : ReaderModel) (p : Place) (borrowed bytes : List ℕ) → borrowed ≡ bytes
    → ((more : List Line) → read_after new more ≡ read_after old (record { bytes = borrowed; place = p } ∷ more))
    → (more : List Line) → read_after new more ≡ read_after old (record { bytes = bytes; place = p } ∷ more)
read_as old new p borrowed bytes is reads more = grind arith

pub lines-init : goal.lines-init
lines-init g c =
    let run = c.args.merger.now.run in
    let looks = c.requires.looks in
    let old = c.args.reader.now in (
      looks.raw ∷ [],
      record {
        comes = looks.comes;
        read = read_more run [] c.args.first old old c.take_line.new.self looks (read_nothing run old)
            (read_as old c.take_line.new.self c.args.first.line.place c.bytes_of.result.now _ c.bytes_of.ensures
            c.in_ok-take_line.ensures.read)
            (omega (arith, c.in_ok-take_line.ensures.adds, ap (λ (l : List ℕ). length l) c.bytes_of.ensures));
        some = omega arith;
        count = looks.count;
        is = c.requires.ahead;
      },
    )

pub lines-preserved : goal.lines-preserved
lines-preserved g c =
    let run = c.args.merger.now.run in
    let inv = c.lines.invariant in
    let next = c.in-Some.next in
    let new = c.take_line-in-Some.new.self in
    let size = ap (λ (l : List ℕ). length l) c.bytes_of-in-Some.ensures in
    let looks = c.in-Some.ensures.looks inv.0 inv.1.comes in (
      inv.0 ++ looks.raw ∷ [],
      record {
        comes = looks.comes;
        read = read_more run inv.0 next c.args.reader.now c.lines.reader new looks inv.1.read
            (read_as c.lines.reader new next.line.place c.bytes_of-in-Some.result.now _ c.bytes_of-in-Some.ensures
            c.in_ok-take_line-2.ensures.read)
            (omega (arith, c.in_ok-take_line-2.ensures.adds, size));
        some = omega (arith, length-append inv.0 (looks.raw ∷ []));
        count = omega (arith, looks.count, length-append inv.0 (looks.raw ∷ []));
        is = c.in-Some.ensures.ahead;
      },
    )
