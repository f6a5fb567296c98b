use Rattle.std.proofs.Common.{arith}
use Rattle.cweb_out.proofs.Common.{◌≡◌, ◌≤◌, ◌∷◌, subst, length, List, Part, all_tokens, macro_line, replaced_in, tokens_of_part}
use Rattle.cweb_out.proofs.AppendedParts.{WrittenBefore, before_none, before_then, before_until}
use Rattle.cweb_out.proofs.MacroLines.{All-tail, all_lines, lines, lines_are}
use Rattle.cweb_out.proofs.printer.macros.write_macros.Goals as goal

pub macros-init : goal.macros-init
macros-init g c = grind (arith, lines_are, before_none)

pub macros-preserved : goal.macros-preserved
macros-preserved g c =
    let w = c.args.store.now in
    let is : c.macros.parts ≡ c.in-Some.part ∷ c.next.new.self = c.in-Some.ensures.steps in
    record {
      ordered = (All-tail (λ (p : Part). p.first ≤ p.after) c.macros.parts
          c.next.new.self c.in-Some.part is c.macros.invariant.ordered).1;
      within = (All-tail (λ (p : Part). p.after ≤ length (all_tokens w.parts)) c.macros.parts
          c.next.new.self c.in-Some.part is c.macros.invariant.within).1;
      wrote = before_then (macro_line (replaced_in w) (tokens_of_part w c.in-Some.part)) (lines w c.next.new.self)
          (subst (λ (ps : List Part). WrittenBefore (g.W.ChunkSink.model c.args.out.now) (g.W.ChunkSink.model c.macros.out)
          (all_lines w) (lines w ps)) is c.macros.invariant.wrote)
          c.in_ok-write_macro.ensures.wrote;
      borrows = grind arith;
    }

pub returns-in_err-write_macro : goal.returns-in_err-write_macro
returns-in_err-write_macro g c =
    let w = c.args.store.now in
    let is : c.macros.parts ≡ c.in-Some.part ∷ c.next.new.self = c.in-Some.ensures.steps in
    record {
      wrote = before_until _ _ _ (all_lines w) (macro_line (replaced_in w) (tokens_of_part w c.in-Some.part))
          (lines w c.next.new.self) c.from_residual.result c.from_residual.ensures.0
          (subst (λ (ps : List Part). WrittenBefore (g.W.ChunkSink.model c.args.out.now) (g.W.ChunkSink.model c.macros.out)
          (all_lines w) (lines w ps)) is c.macros.invariant.wrote)
          c.in_err-write_macro.ensures.wrote;
      borrows = grind arith;
    }
