use Rattle.std.proofs.Common.{◌≤◌, ◌+◌, length, arith, sym}
use Rattle.std.proofs.lemmas.Option.{same_Some}
use Rattle.cweb_tools_tests.proofs.ReadLemmas.{reads}
use Rattle.cweb_tools_tests.proofs.own_shelf.OneShelfShelf.read.Goals as goal

pub returns-clause-bytes : goal.returns-clause-bytes
returns-clause-bytes c = λ seen it.
    let fits : c.args.reader.now.at + c.min-n.result ≤ length c.as_slice-text.result.now =
    omega (arith, c.min.ensures, c.min-n.ensures, c.if-text-reader.false) in
    rw (sym (same_Some _ seen it)) (rw (← c.as_slice-text.ensures.value)
    (reads c.as_slice-text.result.now c.copy_from_slice.new.self
    c.args.piece.now c.args.reader.now.at c.min-n.result c.copy_from_slice.ensures.after fits))
