use Rattle.cweb_lines.proofs.Found.{IfOk-map}
use Rattle.cweb_scan.proofs.Common.{sym, ap, ◌∙◌, drop, raw_match, look_in_raw, reach, Reached, is_unclosed, Open, IsLine-take}
use Rattle.cweb_rules.proofs.UnitNewlines.{none-ends}
use Rattle.cweb_scan.proofs.InLineItemSteps.{whole_at}
use Rattle.cweb_scan.proofs.PendingLiterals.{is_raw, raw_goes_on}
use Rattle.cweb_rules.specs.inner.LineItems.{raw_opener_len}
use Rattle.cweb_scan.proofs.reader.Reader.open_raw.Goals as goal

pub hold-requires-clause-source : goal.hold-requires-clause-source
hold-requires-clause-source c =
    let u = c.args.rest.bytes.now in
    let closer = c.deref.ensures.value ∙ c.in_ok-closer.ensures in
    let inner = c.split_at.ensures.back ∙ ap (λ n. drop n u) c.raw_opener_len.ensures.value in
    record {
      item = (c.requires.next.context, c.requires.past, c.requires.opens);
      unclosed = (is_raw c.args.self.now.state u c.requires.next.context c.requires.past c.requires.opens).opens_is
          ∙ raw_goes_on u (drop (raw_opener_len u) u)
          ∙ sym (c.is_unclosed.ensures ∙ ap (λ (r : Reached). is_unclosed r.how) c.reach.ensures.value
          ∙ (λ i. is_unclosed (reach (look_in_raw (closer i)) Open (inner i)).how)) ∙ c.if-is_unclosed.true;
      newlines = none-ends u c.args.rest.line;
    }

pub take_raw-requires-clause-lines : goal.take_raw-requires-clause-lines
take_raw-requires-clause-lines c =
    none-ends _ (IsLine-take (raw_match c.args.rest.bytes.now).size c.args.rest.bytes.now c.args.rest.line)

pub returns : goal.returns
returns c =
    let u = c.args.rest.bytes.now in
    let h = c.args.self.now in
    let is = is_raw h.state u c.requires.next.context c.requires.past c.requires.opens in
    let closer = c.deref.ensures.value ∙ c.in_ok-closer.ensures in
    let inner = c.split_at.ensures.back ∙ ap (λ n. drop n u) c.raw_opener_len.ensures.value in
    let ends = sym (c.is_unclosed.ensures ∙ ap (λ (r : Reached). is_unclosed r.how) c.reach.ensures.value
    ∙ (λ i. is_unclosed (reach (look_in_raw (closer i)) Open (inner i)).how)) ∙ c.if-is_unclosed.false in
    IfOk-map c.take_raw.result (λ size taken. whole_at size u h _ c.take_raw.new.self (raw_match u) c.self.view_is
    c.requires.next.between c.args.rest.some is.stays is.is (is.opens_is ∙ raw_goes_on u (drop (raw_opener_len u) u)
    ∙ ends) taken) c.take_raw.ensures
