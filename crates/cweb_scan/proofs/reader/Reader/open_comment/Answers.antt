use Rattle.cweb_lines.proofs.Found.{IfOk-map}
use Rattle.cweb_scan.proofs.Common.{sym, ap, drop, ◌∙◌, is_unclosed, Reached, comment_match, IsLine-take}
use Rattle.cweb_rules.proofs.UnitNewlines.{none-ends}
use Rattle.cweb_scan.proofs.InLineItemSteps.{whole_at}
use Rattle.cweb_scan.proofs.PendingComments.{is_comment, comment_goes_on}
use Rattle.cweb_scan.proofs.reader.Reader.open_comment.Goals as goal

pub hold-requires-clause-source : goal.hold-requires-clause-source
hold-requires-clause-source c = record {
  item = (c.requires.next.context, c.requires.opens);
  unclosed = (is_comment c.args.self.now.state c.args.rest.bytes.now c.requires.next.context c.requires.opens).opens_is
      ∙ comment_goes_on (drop 2 c.args.rest.bytes.now)
      ∙ sym (ap (λ (r : Reached). is_unclosed r.how) (rw c.split_at.ensures.back at c.reach-reached.ensures.value))
      ∙ sym c.is_unclosed.ensures ∙ c.if-is_unclosed.true;
  newlines = none-ends c.args.rest.bytes.now c.args.rest.line;
}

pub take_comment-requires-clause-lines : goal.take_comment-requires-clause-lines
take_comment-requires-clause-lines c = none-ends _ (IsLine-take (comment_match c.args.rest.bytes.now).size
    c.args.rest.bytes.now c.args.rest.line)

pub returns : goal.returns
returns c =
    let u = c.args.rest.bytes.now in
    let h = c.args.self.now in
    let is = is_comment h.state u c.requires.next.context c.requires.opens in
    let ends = comment_goes_on (drop 2 u)
    ∙ sym (ap (λ (r : Reached). is_unclosed r.how) (rw c.split_at.ensures.back at c.reach-reached.ensures.value))
    ∙ sym c.is_unclosed.ensures ∙ c.if-is_unclosed.false in
    IfOk-map c.take_comment.result (λ size taken. whole_at size u h _ c.take_comment.new.self (comment_match u)
    c.self.view_is c.requires.next.between c.args.rest.some is.stays is.is (is.opens_is ∙ ends) taken)
    c.take_comment.ensures
