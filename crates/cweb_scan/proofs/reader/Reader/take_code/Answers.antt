use Rattle.cweb_lines.proofs.Found.{IfOk-map}
use Rattle.cweb_scan.proofs.Common.{◌≡◌, true, false, get_or, ap, sym, ◌∙◌, subst, effect_match, Effect, names_include, Applies, effect_in, is_name_effect, ReaderModel}
use Rattle.cweb_scan.proofs.InLineItemSteps.{closed_at}
use Rattle.cweb_scan.proofs.CodeSteps.{plain_prefix}
use Rattle.cweb_scan.proofs.reader.Reader.take_code.Goals as goal

pub returns : goal.returns
returns c =
    let u = c.args.rest.bytes.now in
    let h = c.args.self.now in
    let b = get_or u 1 0 in
    let e = effect_in h.state.context b in
    let place = c.context.ensures ∙ ap (λ (k : ReaderModel). k.state.context) c.self.view_is in
    let same : c.effect_of-effect.result ≡ e = c.effect_of-effect.ensures.value ∙ ap (λ k. effect_in k b) place in
    let plain : is_name_effect e ≡ false = ap is_name_effect (sym same) ∙ sym c.is_name_effect.ensures
    ∙ c.if-is_name_effect.false in
    let f =
    plain_prefix h.state.context (names_include h.state) u c.requires.next.context c.requires.section c.requires.opens
    plain in
    IfOk-map c.take_item.result (λ size taken. closed_at size u h _ _ (effect_match e true u)
    c.self.view_is c.requires.next.between c.requires.next.context c.args.rest.line c.args.rest.some f.0
    f.1 (subst (λ (k : Effect). Applies (effect_match k true u) u size c.self.inside.scanner
    c.take_item.new.self) same taken)) c.take_item.ensures
