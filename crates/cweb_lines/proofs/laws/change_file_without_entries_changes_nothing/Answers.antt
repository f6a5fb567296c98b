use Rattle.cweb_lines.proofs.EmptyChanges.{empty_changes}
use Rattle.cweb_lines.proofs.laws.change_file_without_entries_changes_nothing.Goals as goal

pub returns : goal.returns
returns c = empty_changes
