use Rattle.cweb_lines.proofs.Found.{IfOk-map}
use Rattle.cweb_scan.proofs.Common.{sym, ap, ◌∙◌, arith, drop, ◌+◌, literal_match, look_in_literal, IsLine-take, ap, refl}
use Rattle.cweb_rules.specs.inner.LineItems.{goes_on}
use Rattle.cweb_rules.proofs.TokenSizes.{is_quoted-size}
use Rattle.cweb_rules.proofs.UnitNewlines.{none-ends}
use Rattle.cweb_scan.proofs.InLineItemSteps.{whole_at}
use Rattle.cweb_scan.proofs.PendingLiterals.{is_literal, quote_as}
use Rattle.cweb_scan.proofs.reader.Reader.open_literal.Goals as goal

pub split_at-requires-2 : goal.split_at-requires-2
split_at-requires-2 c = grind (arith, is_quoted-size)

pub hold-requires-clause-source : goal.hold-requires-clause-source
hold-requires-clause-source c = grind (arith, quote_as, is_literal, none-ends)

pub take_literal-requires-clause-lines : goal.take_literal-requires-clause-lines
take_literal-requires-clause-lines c =
    none-ends _ (IsLine-take (literal_match c.args.rest.bytes.now).size c.args.rest.bytes.now c.args.rest.line)

pub returns : goal.returns
returns c =
    let u = c.args.rest.bytes.now in
    let h = c.args.self.now in
    let p = c.literal_prefix-prefix.ensures.value in
    let is = is_literal h.state u c.requires.next.context c.requires.past c.requires.plain c.requires.opens in
    let quote = quote_as u u u c.split_at.result.1.now c.literal_prefix-prefix.result c.quote_of-quote.result refl refl
    p c.split_at.ensures.back c.quote_of-quote.ensures in
    let inner = c.split_at-2.ensures.back ∙ ap (λ n. drop (n + 1) u) p in
    let ends = sym (λ i. goes_on (look_in_literal (quote i)) (inner i)) ∙ sym c.continues.ensures
    ∙ c.if-continues.false in
    IfOk-map c.take_literal.result (λ size taken. whole_at size u h _ c.take_literal.new.self (literal_match u)
    c.self.view_is c.requires.next.between c.args.rest.some is.stays is.is (is.opens_is ∙ ends) taken)
    c.take_literal.ensures
