use Rattle.cweb_scan.proofs.Common.{◌≡◌, true, sym, ap, ◌∙◌, subst, if◌then◌else◌, is_layout, in_open_part, ScanState, Contents, token_model, IsTied, after_token, Directive}
use Rattle.cweb_scan.proofs.TiedSteps.{tied_emitted}
use Rattle.cweb_scan.proofs.scanner.Scanner.emit.Goals as goal

pub invariant_of-self-2 : goal.invariant_of-self-2
invariant_of-self-2 c =
    let s = c.self.inside in
    let t = token_model c.args.token in
    let part = subst (λ (u : ScanState). in_open_part u.context ≡ true) (sym c.self.view_is) c.requires.part in
    let tied = tied_emitted s.directive s.solid s.context s.builder.contents.parts.current t c.self.invariant part in
    let next = c.after_token-next.ensures in
    let solid = c.solid_after-self-inside.ensures ∙ ap (λ (d : Directive). if is_layout t then s.solid else d) next in
    subst (λ (d : Directive). IsTied d c.solid_after-self-inside.result s.context c.push.new.self.contents.parts.current)
    (sym next) (subst (λ (d : Directive). IsTied (after_token s.directive t) d s.context c.push.new.self.contents.parts.current)
    (sym solid) (subst (λ (v : Contents). IsTied (after_token s.directive t) (if is_layout
    t then s.solid else after_token s.directive t) s.context v.parts.current) (sym c.in_ok-push.ensures.ok) tied))
