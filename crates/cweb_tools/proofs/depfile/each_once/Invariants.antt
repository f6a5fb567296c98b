use Rattle.std.proofs.Common.{take}
use Rattle.cweb_lines.specs.surface.OpenedFileNames.{opened_file_names}
use Rattle.cweb_tools.specs.Depfile.{each_once}
use Rattle.cweb_tools.proofs.NamesOnce.{ContainNames}
use Rattle.cweb_tools.proofs.depfile.each_once.Given as goal

abbrev pub invariant-names : goal.invariant-names
invariant-names l = ContainNames l.known l.inputs.items (each_once (take l.id (opened_file_names l.names)))
