use Rattle.cweb_out.proofs.Common.{◌∙◌, ap, List, ℕ, written, length, ◌<◌, arith, slice_range, all_tokens, added, all_added, at_start, macro_by, replaced_in}
use Rattle.cweb_files.proofs.Appending.{written_none, written_then}
use Rattle.cweb_out.proofs.AppendedParts.{second_until}
use Rattle.cweb_out.proofs.MacroLines.{left_more, none_added, one_added, tokens_at}
use Rattle.cweb_out.proofs.Ranges.{there}
use Rattle.cweb_out.specs.inner.Edges.{token_at}
use Rattle.cweb_out.proofs.printer.macros.write_macro_tokens.Goals as goal

pub tokens-init : goal.tokens-init
tokens-init g c = grind (arith, written_none, none_added)

pub tokens-preserved : goal.tokens-preserved
tokens-preserved g c =
    let w = c.args.store.now in
    let ts = all_tokens w.parts in
    let first = c.args.part.first in
    let n = c.tokens.number in
    let t = token_at w n in
    let by = macro_by (replaced_in w) in
    let within : n < length ts = omega (arith, c.tokens-test.true, c.tokens.invariant.end, c.requires.within) in
    record {
      from = omega arith;
      end = c.tokens.invariant.end;
      left = left_more ts first n t c.tokens.left c.in_ok-left.left c.tokens.invariant.from
          (there w n within) c.tokens.invariant.left c.in_ok-left.ensures.next;
      wrote = written_then (all_added by at_start (slice_range ts first n)) (added by c.tokens.left t)
          (g.W.ChunkSink.model c.args.out.now) c.tokens.invariant.wrote c.in_ok-left.ensures.wrote
          ∙ ap (λ (text : List ℕ). written text (g.W.ChunkSink.model c.args.out.now))
          (one_added by ts first n t c.tokens.left c.tokens.invariant.from (there w n within)
          c.tokens.invariant.left);
      borrows = grind arith;
    }

pub returns-in_err-left : goal.returns-in_err-left
returns-in_err-left g c =
    let w = c.args.store.now in
    let ts = all_tokens w.parts in
    let first = c.args.part.first in
    let n = c.tokens.number in
    let t = token_at w n in
    let lt : n < c.args.part.after = omega (arith, c.tokens-test.true, c.tokens.invariant.end) in
    let within : n < length ts = omega (arith, lt, c.requires.within) in record {
      wrote = second_until _ _ _ _ _ _ _ c.from_residual.result c.from_residual.ensures.0 (tokens_at (macro_by
          (replaced_in w)) ts first n c.args.part.after t c.tokens.left c.tokens.invariant.from lt
          c.requires.within (there w n within) c.tokens.invariant.left) c.tokens.invariant.wrote
          c.in_err-left.ensures.wrote;
      borrows = grind arith;
    }
