use Rattle.std.proofs.Common.{rules, ◌∙◌, ap}
use Rattle.cweb_out.specs.surface.Printed.{setting_of}
use Rattle.cweb_out.specs.Printing.{Setting}
use Rattle.cweb_out_tests.proofs.tests.buffering.print_file_buffered.Goals as goal

pub append-requires-in-tokens-clause-named : goal.append-requires-in-tokens-clause-named
append-requires-in-tokens-clause-named g c =
    c.is_named.ensures (search rules) (setting_of c.append.new.printer)
    (ap (λ (s : Setting). s.files) c.append.ensures.setting ∙ c.tokens.invariant.files)
