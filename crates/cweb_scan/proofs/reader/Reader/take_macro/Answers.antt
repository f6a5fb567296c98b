use Rattle.cweb_scan.proofs.Common.{ap, sym, ◌∙◌, at_line_end}
use Rattle.cweb_scan.proofs.RuleSteps.{backslash_passes}
use Rattle.cweb_scan.proofs.reader.Reader.take_macro.Goals as goal

pub returns-then-at_line_end : goal.returns-then-at_line_end
returns-then-at_line_end c = backslash_passes c.args.rest.bytes.now c.args.self.now c.requires.between
    c.requires.context c.args.rest.line c.args.rest.some (sym c.begins.ensures.value ∙ c.if-begins.true)
    (ap at_line_end (sym c.split_at.ensures.back) ∙ sym c.at_line_end.ensures ∙ c.if-at_line_end.true)
