use Rattle.cweb_tools.proofs.Common.{◌≡◌, arith, scanned_model}
use Rattle.cweb_tools.specs.Tangle.{numbers_of}
use Rattle.cweb_tools.proofs.Doing.{log_counted, does_on, log_fails}
use Rattle.cweb_tools.proofs.Logging.{macros_counted}
use Rattle.cweb_tools.proofs.saying.say_end.Given as given
use Rattle.cweb_tools.proofs.saying.say_end.Goals as goal
use Rattle.cweb_tools.proofs.saying.say_end.Goals.{After-say}

macros : (g : given.Over) (c : After-say g) → c.count_parts.result
    ≡ (numbers_of (scanned_model c.args.scanned.now)).macros
macros g c = grind (arith, macros_counted)

pub returns-in_err-say : goal.returns-in_err-say
returns-in_err-say g c = log_fails c.in_err-say.field-0.0 _ _
    (rw (c.names.ensures.count, macros g (goal.at.returns-in_err-say g c).After-say) at c.in_err-say.ensures)
    c.from_residual.ensures.0

pub say-requires-2 : goal.say-requires-2
say-requires-2 g c = omega (arith, log_counted c.in_ok-say.ensures, c.requires)

pub returns : goal.returns
returns g c = λ shelf bins. does_on
    ((rw (c.names.ensures.count, macros g (goal.at.returns g c).After-say) at c.in_ok-say.ensures) shelf bins)
    (c.say-2.ensures shelf bins)
