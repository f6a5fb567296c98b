use Rattle.cweb_scan.proofs.Common.{List, ℕ, ap, sym, ◌∙◌, subst, opens_in, is_unclosed, Reached, reach, look_in_raw, look_in_literal, IsPending, ReaderModel, with_line, pending_text, Open as Unclosed, false}
use Rattle.cweb_rules.specs.inner.LineItems.{goes_on, raw_closer_of}
use Rattle.cweb_scan.specs.declared.reader.open.Open.{Open}
use Rattle.cweb_scan.specs.declared.reader.open.Open.TheVariants.{Comment, Name, Literal, RawLiteral}
use Rattle.cweb_scan.proofs.PendingItems.{pending_now}
use Rattle.cweb_scan.proofs.PendingLiterals.{quote_as, raw_goes_on}
use Rattle.cweb_scan.proofs.PendingNames.{name_goes_on}
use Rattle.cweb_scan.proofs.PendingComments.{comment_goes_on}
use Rattle.cweb_scan.proofs.PendingKinds.{stays_on, is_comment_kind}
use Rattle.cweb_scan.proofs.reader.Reader.stays_pending.Goals as goal

pub returns-in-Name : goal.returns-in-Name
returns-in-Name c =
    let r = c.self.inside in
    let w = r.pending.items in
    let now = pending_now r.item r.scanner r.begun w r.places.items c.args.self.now c.self.view_is c.requires
    c.self.invariant in
    let pending = subst (λ (k : Open). IsPending k r.scanner.context w r.places.items) c.in-Name.is now.source in
    c.is_unclosed.ensures ∙ ap (λ (v : Reached). is_unclosed v.how) c.reach.ensures.value
    ∙ sym (name_goes_on c.args.line.now)
    ∙ sym (stays_on Name r.scanner w c.args.line.now r.places.items (λ i. false) pending)
    ∙ ap (λ (h : ReaderModel). opens_in h.state.context (with_line (pending_text h.item) c.args.line.now)) now.view

pub returns-in-Literal : goal.returns-in-Literal
returns-in-Literal c =
    let r = c.self.inside in
    let w = r.pending.items in
    let now = pending_now r.item r.scanner r.begun w r.places.items c.args.self.now c.self.view_is c.requires
    c.self.invariant in
    let pending = subst (λ (k : Open). IsPending k r.scanner.context w r.places.items) c.in-Literal.is now.source in
    c.continues.ensures ∙ ap (λ q. goes_on (look_in_literal q) c.args.line.now) (quote_as w c.deref.result.now
    c.deref-in-Literal.result.now c.split_at.result.1.now c.literal_prefix-prefix.result c.quote_of-quote.result
    c.deref.ensures.value
    c.deref-in-Literal.ensures.value c.literal_prefix-prefix.ensures.value c.split_at.ensures.back
    c.quote_of-quote.ensures)
    ∙ sym (stays_on Literal r.scanner w c.args.line.now r.places.items (λ i. false) pending)
    ∙ ap (λ (h : ReaderModel). opens_in h.state.context (with_line (pending_text h.item) c.args.line.now)) now.view

pub returns-in_ok-closer-in-RawLiteral : goal.returns-in_ok-closer-in-RawLiteral
returns-in_ok-closer-in-RawLiteral c =
    let r = c.self.inside in
    let w = r.pending.items in
    let now = pending_now r.item r.scanner r.begun w r.places.items c.args.self.now c.self.view_is c.requires
    c.self.invariant in
    let pending = subst (λ (k : Open). IsPending k r.scanner.context w r.places.items) c.in-RawLiteral.is now.source in
    c.is_unclosed-in-RawLiteral.ensures ∙ ap (λ (v : Reached). is_unclosed v.how) c.reach-in-RawLiteral.ensures.value
    ∙ ap (λ (v : List ℕ). is_unclosed (reach (look_in_raw v) Unclosed c.args.line.now).how)
    (c.deref-in-RawLiteral-2.ensures.value ∙ c.in_ok-closer-in-RawLiteral.ensures
    ∙ ap raw_closer_of c.deref-in-RawLiteral.ensures.value)
    ∙ sym (raw_goes_on w c.args.line.now)
    ∙ sym (stays_on RawLiteral r.scanner w c.args.line.now r.places.items (λ i. false) pending)
    ∙ ap (λ (h : ReaderModel). opens_in h.state.context (with_line (pending_text h.item) c.args.line.now)) now.view

pub returns-in_default : goal.returns-in_default
returns-in_default c =
    let r = c.self.inside in
    let w = r.pending.items in
    let now = pending_now r.item r.scanner r.begun w r.places.items c.args.self.now c.self.view_is c.requires
    c.self.invariant in
    let pending = subst (λ (k : Open). IsPending k r.scanner.context w r.places.items)
    (is_comment_kind r.item now.pending c.in_default.not-Name
    c.in_default.not-Literal c.in_default.not-RawLiteral) now.source in
    c.is_unclosed-in_default.ensures ∙ ap (λ (v : Reached). is_unclosed v.how) c.reach-in_default.ensures.value
    ∙ sym (comment_goes_on c.args.line.now)
    ∙ sym (stays_on Comment r.scanner w c.args.line.now r.places.items (λ i. false) pending)
    ∙ ap (λ (h : ReaderModel). opens_in h.state.context (with_line (pending_text h.item) c.args.line.now)) now.view
