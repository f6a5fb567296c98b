use Rattle.cweb_tools.proofs.Common.{◌≡◌, None, option_copied, arith, common_steps}
use Rattle.cweb_lines.proofs.Errors.{same_error}
use Rattle.cweb_tools.specs.CommandLine.{main_by}
use Rattle.cweb_tools.specs.inner.Variables.{merge_word_names}
use Rattle.cweb_tools.proofs.RequestedOptions.{merge_fails}
use Rattle.cweb_tools.proofs.options.Options.named.Goals as goal

pub returns-in_err-merge : goal.returns-in_err-merge
returns-in_err-merge c =
    let some : main_by c.args.web.now (option_copied c.args.out) ≡ None → ⊥ = grind (arith, common_steps) in
    rw (same_error c.from_residual.result _ c.from_residual.ensures.1) (merge_fails merge_word_names _ c.args.shown
    c.args.web.now (option_copied c.args.change) (option_copied c.args.out) some c.in_err-merge.ensures)
