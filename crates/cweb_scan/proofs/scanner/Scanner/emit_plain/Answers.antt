use Rattle.cweb_scan.proofs.Common.{sym, ap, subst, is_c, in_open_part, Contents, token_model, IsTied, IsPlainC}
use Rattle.cweb_scan.specs.inner.ScanParts.{new_directive}
use Rattle.cweb_scan.proofs.Plains.{none_open, tied_plain}
use Rattle.cweb_scan.proofs.scanner.Scanner.emit_plain.Goals as goal

pub invariant_of-self-2 : goal.invariant_of-self-2
invariant_of-self-2 c =
    let s = c.self.inside in
    let t = token_model c.args.token in
    let h = subst IsPlainC (sym c.self.view_is) c.requires.in_c in
    let tied = tied_plain s.directive s.solid s.context s.builder.contents.parts.current t c.self.invariant
    (ap is_c h.in_c) (ap in_open_part h.in_c) (none_open _ h) c.requires.plain in
    subst (λ (v : Contents). IsTied new_directive new_directive s.context v.parts.current)
    (sym c.in_ok-push.ensures.ok) tied
