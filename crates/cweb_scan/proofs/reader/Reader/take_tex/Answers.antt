use Rattle.cweb_lines.proofs.Found.{IfOk-map}
use Rattle.cweb_scan.proofs.Common.{sym, ◌∙◌, section_match, names_include}
use Rattle.cweb_scan.proofs.InLineItemSteps.{closed_at}
use Rattle.cweb_scan.proofs.CodeSteps.{section_text, skipped_at, text_head}
use Rattle.cweb_scan.proofs.reader.Reader.take_tex.Goals as goal

pub returns-then-skipped-gt0 : goal.returns-then-skipped-gt0
returns-then-skipped-gt0 c = skipped_at c.skipped_len-skipped.result c.args.rest.bytes.now c.args.self.now
    c.skipped_len-skipped.ensures.value c.if-skipped-gt0.true c.requires.between c.requires.context c.args.rest.line

pub returns-then-starts_section : goal.returns-then-starts_section
returns-then-starts_section c =
    let u = c.args.rest.bytes.now in
    let h = c.args.self.now in
    let f = section_text h.state.context
    (names_include h.state) u c.requires.context (sym c.starts_section.ensures ∙ c.if-starts_section.true) in
    IfOk-map c.take_section.result (λ size taken. closed_at size u h _ _ (section_match u) c.self.view_is
    c.requires.between (text_head h.state.context c.requires.context) c.args.rest.line c.args.rest.some f.0 f.1 taken)
    c.take_section.ensures
