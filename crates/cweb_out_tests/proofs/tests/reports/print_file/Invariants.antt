use Rattle.std.proofs.Common.{◌≡◌, vec_capacity}
use Rattle.cweb_lines.specs.surface.OpenedFileNames.{opened_file_names}
use Rattle.cweb_out.specs.surface.FrameStacks.{IsFrameStack}
use Rattle.cweb_out.specs.surface.Printed.{setting_of}
use Rattle.cweb_out_tests.proofs.tests.reports.print_file.Given as goal

abbrev pub invariant-tokens : goal.invariant-tokens
invariant-tokens g l = record {
  valid : IsFrameStack l.expander.store.now l.expander.frames.items (vec_capacity l.expander.frames);
  store : l.expander.store ≡ l.fn.expander.store;
  plan : l.expander.plan ≡ l.fn.expander.plan;
  files : (setting_of l.printer).files ≡ opened_file_names l.names;
}
