use Rattle.cweb_scan.proofs.Common.{sym, ap, subst, is_c, in_open_part, Contents, IsTied, IsPlainC}
use Rattle.cweb_scan.specs.declared.directive.Last.TheVariants.{LineEnd}
use Rattle.cweb_scan.proofs.Plains.{none_open, tied_newline}
use Rattle.cweb_scan.proofs.scanner.Scanner.emit_newline.Goals as goal

pub invariant_of-self-2 : goal.invariant_of-self-2
invariant_of-self-2 c =
    let s = c.self.inside in
    let h = subst IsPlainC (sym c.self.view_is) c.requires.in_c in
    subst (λ (v : Contents). IsTied (record { stage = s.directive.stage; last = LineEnd })
    s.solid s.context v.parts.current) (sym c.in_ok-push.ensures.ok) (tied_newline s.directive
    s.solid s.context s.builder.contents.parts.current c.self.invariant (ap is_c h.in_c) (ap in_open_part h.in_c)
    (none_open _ h))
