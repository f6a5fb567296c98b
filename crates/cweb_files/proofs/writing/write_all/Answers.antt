use Rattle.std.proofs.Common.{◌-◌, ◌∙◌, List, ℕ, length, take, drop, ap, sym, arith, take-append-drop}
use Rattle.std.proofs.lemmas.List.{length-drop, take_all}
use Rattle.std.proofs.Math.Seq.{take-add}
use Rattle.cweb_files.specs.Sinks.{written}
use Rattle.cweb_files.proofs.Appending.{fails_at_once, fails_then, written_none, written_then}
use Rattle.cweb_files.proofs.writing.write_all.Goals as goal

pub pieces-init : goal.pieces-init
pieces-init g c = record { within = omega arith; wrote = written_none (g.W.Sink.model c.args.out.now) }

pub pieces-preserved : goal.pieces-preserved
pieces-preserved g c =
    let rest = drop c.pieces.at c.args.bytes.now in
    let piece = take_all (length c.args.bytes.now - c.pieces.at) rest
    (omega (arith, length-drop c.pieces.at c.args.bytes.now)) in
    record {
      within = omega (
        arith,
        ap length piece,
        length-drop c.pieces.at c.args.bytes.now,
        c.in-Ok.ensures.within,
        c.pieces.invariant.within,
      );
      wrote = written_then (take c.pieces.at c.args.bytes.now) (take c.in-Ok.n rest) (g.W.Sink.model c.args.out.now)
          c.pieces.invariant.wrote
          (c.in-Ok.ensures.ok ∙ ap (λ (p : List ℕ). written (take c.in-Ok.n p) (g.W.Sink.model c.pieces.out)) piece)
          ∙ ap (λ (t : List ℕ). written t (g.W.Sink.model c.args.out.now))
          (sym (take-add c.pieces.at c.in-Ok.n c.args.bytes.now));
    }

pub returns-in-Err-clause-wrote : goal.returns-in-Err-clause-wrote
returns-in-Err-clause-wrote g c = rw (take-append-drop c.pieces.at c.args.bytes.now) at
    (fails_then (take c.pieces.at c.args.bytes.now) c.pieces.invariant.wrote
    (fails_at_once (drop c.pieces.at c.args.bytes.now) c.in-Err.ensures.err))
