use Rattle.std.proofs.Common.{rules}
use Rattle.std.proofs.Common.{arith}
use Rattle.cweb_out.proofs.Common.{[], append-nil, begin_by, ap, refl, sym, ◌∙◌, left_in_printer, setting_of}
use Rattle.cweb_files.specs.Sinks.{failed_once}
use Rattle.cweb_out.proofs.AppendedParts.{wrote_err}
use Rattle.cweb_out.proofs.Buffering.{moved_prefix, moved_same}
use Rattle.cweb_out.proofs.Steps.{file-end}
use Rattle.cweb_out.proofs.printer.Printer.finish.Goals as goal

pub returns-in_err-append-clause-ends : goal.returns-in_err-append-clause-ends
returns-in_err-append-clause-ends g c =
    let s = setting_of c.args.self.now in
    record {
      bytes = c.begin_line.result.now;
      expected = grind (arith, file-end);
      wrote = wrote_err _ _ _ _ c.from_residual.result c.from_residual.ensures.0 refl c.in_err-append.ensures;
    }

-- All was printed, and the flush failed.
pub returns-in_err-flush-clause-ends : goal.returns-in_err-flush-clause-ends
returns-in_err-flush-clause-ends g c =
    let s = setting_of c.args.self.now in
    let bytes = c.begin_line.result.now in
    record {
      bytes = bytes;
      expected = grind (arith, file-end);
      wrote = wrote_err _ _ _ _ c.from_residual-in_err-flush.result c.from_residual-in_err-flush.ensures.0 refl
          (record {
            prefix = bytes;
            rest = [];
            whole = sym (append-nil bytes);
            is = moved_prefix _ _ c.in_err-flush.ensures.err ∙ ap failed_once c.in_ok-append.ensures;
          });
    }

pub returns-clause-ends : goal.returns-clause-ends
returns-clause-ends g c = grind (arith, file-end, moved_same)

pub returns-clause-left : goal.returns-clause-left
returns-clause-left g c = search rules
