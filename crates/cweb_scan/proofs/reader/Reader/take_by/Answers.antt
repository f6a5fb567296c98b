use Rattle.cweb_rules.specs.declared.rule.Rule.TheVariants as rule
use Rattle.cweb_lines.proofs.Found.{IfOk-map}
use Rattle.cweb_scan.proofs.Common.{◌&&◌, false, ap, sym, ◌∙◌, section_match, in_c, c_match_by, is_c, names_include, arith}
use Rattle.cweb_scan.proofs.InLineItemSteps.{closed_at}
use Rattle.cweb_scan.proofs.InLineRules.{closes, rule_closed}
use Rattle.cweb_scan.proofs.RuleSteps.{ends_closes, is_ended, left_ends, part_head, rule_in_line, two_fit}
use Rattle.cweb_rules.proofs.FirstRules.{seen}
use Rattle.cweb_scan.proofs.reader.Reader.take_by.Goals as goal

pub open_comment-requires-clause-opens : goal.open_comment-requires-clause-opens
open_comment-requires-clause-opens c =
    let s = c.args.self.now.state in
    (seen (is_c s.context && names_include s) c.args.rest.bytes.now rule.Comment (sym c.requires.first
    ∙ c.in-Comment.is)).1

pub take_code-requires-clause-opens : goal.take_code-requires-clause-opens
take_code-requires-clause-opens c =
    let s = c.args.self.now.state in
    (seen (is_c s.context && names_include s) c.args.rest.bytes.now rule.Code (sym c.requires.first ∙ c.in-Code.is)).1

pub open_raw-requires-clause-opens : goal.open_raw-requires-clause-opens
open_raw-requires-clause-opens c =
    let s = c.args.self.now.state in
    (seen (is_c s.context && names_include s) c.args.rest.bytes.now rule.RawLiteral
    (sym c.requires.first ∙ c.in-RawLiteral.is)).1

pub open_literal-requires-clause-plain : goal.open_literal-requires-clause-plain
open_literal-requires-clause-plain c =
    let s = c.args.self.now.state in
    (seen (is_c s.context && names_include s) c.args.rest.bytes.now rule.Literal (sym c.requires.first ∙
    c.in-Literal.is)).1

pub open_literal-requires-clause-opens : goal.open_literal-requires-clause-opens
open_literal-requires-clause-opens c =
    let s = c.args.self.now.state in
    (seen (is_c s.context && names_include s) c.args.rest.bytes.now rule.Literal (sym c.requires.first ∙
    c.in-Literal.is)).2

pub take_rule-requires-clause-ends : goal.take_rule-requires-clause-ends
take_rule-requires-clause-ends c = grind (arith, rule_in_line, left_ends)

pub take_rule-requires-clause-two : goal.take_rule-requires-clause-two
take_rule-requires-clause-two c =
    let s = c.args.self.now.state in
    two_fit (is_c s.context && names_include s) c.args.rest.bytes.now c.args.rule c.requires.first

pub returns-in-Section : goal.returns-in-Section
returns-in-Section c =
    let u = c.args.rest.bytes.now in
    let h = c.args.self.now in
    let f = rule_closed h.state.context (names_include h.state)
    u c.args.rule c.requires.next.context c.requires.plain c.requires.first (ap closes c.in-Section.is) in
    IfOk-map c.take_section.result (λ size taken. closed_at size u h _ _ (section_match u) c.self.view_is
    c.requires.next.between (part_head h.state.context c.requires.next.context) c.args.rest.line c.args.rest.some
    (f.0 ∙ ap (c_match_by in_c false u) c.in-Section.is) f.1 taken) c.take_section.ensures

pub returns-in_default : goal.returns-in_default
returns-in_default c =
    let u = c.args.rest.bytes.now in
    let h = c.args.self.now in
    let s = h.state in
    let r = c.args.rule in
    let no_end = ap is_ended c.requires.first ∙ rule_in_line (is_c s.context && names_include s) u c.args.rest.line in
    let ends = left_ends r c.in_default.not-Comment
    c.in_default.not-Section c.in_default.not-Code c.in_default.not-RawLiteral c.in_default.not-Literal no_end in
    let f = rule_closed s.context
    (names_include s) u r c.requires.next.context c.requires.plain c.requires.first (ends_closes r ends) in
    IfOk-map c.take_rule.result (λ size taken. closed_at size u h _ _
    (c_match_by in_c false u r) c.self-in_default.view_is c.requires.next.between
    (part_head s.context c.requires.next.context) c.args.rest.line c.args.rest.some f.0 f.1 taken)
    c.take_rule.ensures
