use Rattle.cweb_lines.proofs.Common.{rules, ℕ, List, [], ◌∷◌, ◌+◌, ◌-◌, ◌∙◌, drop, take, ap, sym, subst, refl, arith, length-take, slice_range, is_include_line, Reaches, pending_in, Stretch}
use Rattle.cweb_lines.proofs.LinesInBuffer.{one_line}
use Rattle.cweb_lines.proofs.passing.stretch.line_from.Goals as goal

pub returns-clause-line : goal.returns-clause-line
returns-clause-line g c =
    let buffer = c.deref.result.now in
    let bytes = slice_range buffer c.args.start c.args.source.now.end in
    let at = c.in_ok-at.at in
    let size = length-take at bytes in
    let entry = pending_in c.args.stage c.args.first.now in
    let trims = c.trimmed_length-length.ensures.trimmed in
    let s : Stretch = record {
      text = c.args.start + c.trimmed_length-length.result;
      end = c.args.start + at + 1;
      lines = 1;
    } in
    let near = c.in_ok-at.ensures.within in
    let whole = length-take (c.args.source.now.end - c.args.start) (drop c.args.start buffer) in
    subst (λ (p : List ℕ). Reaches entry c.args.may_match p c.args.start c.args.source.now.end s)
    c.deref.ensures.value (
      take at bytes ∷ [],
      one_line entry c.args.may_match buffer c.args.start c.args.source.now.end at c.trimmed_length-length.result
          c.in_ok-at.ensures c.requires (omega (arith, c.trimmed_length-length.ensures.within, size, near)) trims s
          refl refl
          refl (record {
            clean = c.in_ok-at.ensures.before;
            short = omega (arith, size, c.if-at-gt-LINE_LENGTH.false);
            plain = ap is_include_line (sym trims) ∙ sym c.is_include_line.ensures ∙ c.if-is_include_line.false;
            unbegun = search rules;
          }),
      omega (arith, near, whole),
    )
