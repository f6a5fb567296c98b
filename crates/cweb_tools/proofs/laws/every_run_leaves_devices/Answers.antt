use Rattle.cweb_tools.proofs.RunLaws.{leave_devices}
use Rattle.cweb_tools.proofs.laws.every_run_leaves_devices.Goals as goal

pub returns : goal.returns
returns c = leave_devices
