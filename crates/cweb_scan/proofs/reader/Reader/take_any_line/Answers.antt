use Rattle.cweb_scan.proofs.Common.{IsLine, IsLine-drop, sym, List, ℕ, length, length-drop, ap, subst, arith, TakesBytes}
use Rattle.cweb_scan.proofs.LineBegins.{line_taken}
use Rattle.cweb_scan.proofs.reader.Reader.take_any_line.Goals as goal

pub take_bytes-requires-clause-clean : goal.take_bytes-requires-clause-clean
take_bytes-requires-clause-clean c =
    subst IsLine (sym c.split_at.ensures.back) (IsLine-drop c.in_ok-taken.taken c.args.line.now c.requires.clean)

pub returns : goal.returns
returns c = record {
  read = λ lines. line_taken c.args.self.now c.begin_line.new.self c.take_bytes.new.self
      (record { bytes = c.args.line.now; place = c.args.place }) c.in_ok-taken.taken
      lines c.in_ok-taken.ensures (subst (λ (u : List ℕ). TakesBytes u c.begin_line.new.self c.take_bytes.new.self)
      c.split_at.ensures.back c.in_ok-take_bytes.ensures.bytes);
  adds = omega (
    arith,
    c.in_ok-taken.ensures.adds,
    c.in_ok-taken.ensures.within,
    c.in_ok-take_bytes.ensures.cost,
    ap (λ (u : List ℕ). length u) c.split_at.ensures.back,
    length-drop c.in_ok-taken.taken c.args.line.now,
  );
}
