use Rattle.std.proofs.Common.{◌≤◌, ◌+◌, length, arith, rules}
use Rattle.cweb_files.proofs.Entries.{rest-read}
use Rattle.cweb_files.proofs.memory.MemoryShelfShelf.read.Goals as goal

pub returns-clause-bytes : goal.returns-clause-bytes
returns-clause-bytes c =
    let fits : c.args.reader.now.at + c.min-n.result ≤ length c.as_slice-text.result.now =
    omega (arith, c.min-n.ensures, c.if-text-reader.false) in
    rest-read c.args.self.now.entries.items c.args.reader.now.entry c.args.reader.now.at c.min-n.result
    c.in-Some.entry.now c.as_slice-text.result.now c.copy_from_slice.new.self c.args.piece.now
    (rw c.deref.ensures.value at c.in-Some.ensures.lookup.3.0) (rw c.deref.ensures.value at c.in-Some.ensures.lookup.1)
    c.as_slice-text.ensures.value c.copy_from_slice.ensures.after fits

pub overflow_add-reader : goal.overflow_add-reader
overflow_add-reader c = search rules
