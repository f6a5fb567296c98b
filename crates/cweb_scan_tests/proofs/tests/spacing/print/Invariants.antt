use Rattle.std.proofs.Common.{◌≡◌}
use Rattle.cweb_lines.specs.surface.OpenedFileNames.{opened_file_names}
use Rattle.cweb_out.specs.surface.Printed.{setting_of}
use Rattle.cweb_scan_tests.proofs.tests.spacing.print.Given as goal

abbrev pub invariant-tokens : goal.invariant-tokens
invariant-tokens g l = (setting_of l.printer).files ≡ opened_file_names l.names
