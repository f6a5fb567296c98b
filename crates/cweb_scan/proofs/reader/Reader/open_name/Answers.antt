use Rattle.cweb_lines.proofs.Found.{IfOk-map}
use Rattle.cweb_scan.proofs.Common.{sym, ap, drop, ◌∙◌, subst, is_unclosed, Reached, ReaderModel, name_match, takes_opener, IsLine-take, AppliesOver, []}
use Rattle.cweb_rules.proofs.UnitNewlines.{none-ends}
use Rattle.cweb_scan.proofs.InLineItemSteps.{whole_at}
use Rattle.cweb_scan.proofs.PendingNames.{is_name, name_goes_on}
use Rattle.cweb_scan.proofs.reader.Reader.open_name.Goals as goal

pub hold-requires-clause-source : goal.hold-requires-clause-source
hold-requires-clause-source c = record {
  item = (c.requires.next.context, c.requires.head, c.requires.opens);
  unclosed = (is_name c.args.self.now.state c.args.rest.bytes.now c.requires.next.context c.requires.head
      c.requires.opens).opens_is ∙ name_goes_on (drop 2 c.args.rest.bytes.now)
      ∙ sym (ap (λ (r : Reached). is_unclosed r.how)
      (rw c.split_at.ensures.back at c.reach_after-reached.ensures.value))
      ∙ sym c.is_unclosed.ensures ∙ c.if-is_unclosed.true;
  newlines = none-ends c.args.rest.bytes.now c.args.rest.line;
}

pub take_name-requires-clause-lines : goal.take_name-requires-clause-lines
take_name-requires-clause-lines c = none-ends _ (IsLine-take (name_match (takes_opener c.self.inside.scanner)
    c.args.rest.bytes.now).size c.args.rest.bytes.now c.args.rest.line)

pub returns : goal.returns
returns c =
    let u = c.args.rest.bytes.now in
    let h = c.args.self.now in
    let is = is_name h.state u c.requires.next.context c.requires.head c.requires.opens in
    let ends = name_goes_on (drop 2 u) ∙ sym (ap (λ (r : Reached). is_unclosed r.how)
    (rw c.split_at.ensures.back at c.reach_after-reached.ensures.value)) ∙ sym c.is_unclosed.ensures
    ∙ c.if-is_unclosed.false in
    let f = name_match (takes_opener h.state) u in
    IfOk-map c.take_name.result (λ size taken. whole_at size u h _ c.take_name.new.self f c.self.view_is
    c.requires.next.between c.args.rest.some is.stays is.is (is.opens_is ∙ ends) (subst (λ (v : ReaderModel).
    AppliesOver (name_match (takes_opener v.state) u) u [] size c.self.inside.scanner c.take_name.new.self)
    c.self.view_is taken)) c.take_name.ensures
