use Rattle.cweb_lines.proofs.Found.{IfOk-map}
use Rattle.cweb_scan.proofs.Common.{ℕ, false, List, refl, ap, sym, ◌∙◌, line_comment_match}
use Rattle.cweb_rules.specs.declared.rule.Rule.TheVariants as rule
use Rattle.cweb_scan.proofs.HeadSteps.{dropped_at, foreign_rule}
use Rattle.cweb_scan.proofs.HeadStays.{blanks_pass, head_passes}
use Rattle.cweb_scan.proofs.RuleSteps.{is_ended, rule_in_line, two_fit}
use Rattle.cweb_rules.proofs.FirstRules.{seen}
use Rattle.cweb_scan.proofs.reader.Reader.take_head.Goals as goal

pub open_comment-requires-clause-opens : goal.open_comment-requires-clause-opens
open_comment-requires-clause-opens c =
    (seen false c.args.rest.bytes.now rule.Comment (sym c.c_rule-rule.ensures ∙ c.in-Comment.is)).1

pub take_line_comment-requires-clause-two : goal.take_line_comment-requires-clause-two
take_line_comment-requires-clause-two c =
    two_fit false c.args.rest.bytes.now rule.LineComment (sym c.in-LineComment.is ∙ c.c_rule-rule.ensures) refl

pub returns-in-Blanks : goal.returns-in-Blanks
returns-in-Blanks c =
    blanks_pass c.span_len.result c.args.rest.bytes.now c.args.self.now c.args.begun c.c_rule-rule.result c.in-Blanks.is
    c.requires.between c.requires.context c.args.rest.line c.args.rest.some c.c_rule-rule.ensures
    c.span_len.ensures.value

pub returns-in-LineComment : goal.returns-in-LineComment
returns-in-LineComment c =
    let u = c.args.rest.bytes.now in
    IfOk-map c.take_line_comment.result (λ size taken. head_passes size u c.args.self.now _ _ c.args.begun
    rule.LineComment (line_comment_match u) c.self.view_is c.requires.between c.requires.context c.args.rest.line
    c.args.rest.some (sym c.in-LineComment.is ∙ c.c_rule-rule.ensures) refl refl refl refl taken)
    c.take_line_comment.ensures

pub returns-in_ok-drop_definition-in_default : goal.returns-in_ok-drop_definition-in_default
returns-in_ok-drop_definition-in_default c =
    let u = c.args.rest.bytes.now in
    let r = c.c_rule-rule.result in
    let no_end = ap is_ended c.c_rule-rule.ensures ∙ rule_in_line false u c.args.rest.line in
    let left = λ (w : List ℕ). foreign_rule w r
    c.in_default.not-Blanks c.in_default.not-Comment c.in_default.not-LineComment c.in_default.not-Identifier no_end in
    IfOk-map c.take_tex.result (λ size taken. dropped_at size u c.args.self.now _ _ c.drop_definition.new.self
    c.args.begun r c.self-in_default.view_is c.requires.between c.requires.context c.args.rest.some
    c.c_rule-rule.ensures left c.in_ok-drop_definition-in_default.ensures taken) c.take_tex.ensures
