-- What a refused call leaves in bins.
use Rattle.std.specs.Prelude.{Some}
use Rattle.cweb_files.specs.Sinks.{SinkModel, changed, failing, without_file}
use Rattle.cweb_files.specs.declared.bins.BinFault.{BinFault}
use Rattle.cweb_files.specs.declared.bins.BinFault.TheVariants.{Memory, Device}

-- Bins after a refused `start_file`: no draft, and the reason is recorded. Only a fault of the device is counted.
abbrev pub refused : BinFault → SinkModel → SinkModel
refused Memory bins = changed (without_file (Some Memory)) bins
refused Device bins = failing (without_file (Some Device)) bins
