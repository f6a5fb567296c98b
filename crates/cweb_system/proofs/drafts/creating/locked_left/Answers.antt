use Rattle.std.proofs.Common.{◌≡◌, ◌∙◌, Some}
use Rattle.cweb_system.proofs.Keys.{is_memory, key_self}
use Rattle.cweb_system.proofs.drafts.creating.locked_left.Goals as goal

pub returns-in_err-found-in-Ok-clause-memory : goal.returns-in_err-found-in-Ok-clause-memory
returns-in_err-found-in-Ok-clause-memory g c = λ some is.
    let found = c.key_at.ensures some (rw ((c.in-Ok.ensures some).same c.args.left is) at is) in
    absurd (cc (found, c.in_err-found-in-Ok.was))

pub returns-in_ok-found-in-Ok-clause-there : goal.returns-in_ok-found-in-Ok-clause-there
returns-in_ok-found-in-Ok-clause-there g c = λ some is.
    let same = (c.in-Ok.ensures some).same c.args.left is in
    let found = c.key_at.ensures some (rw same at is) in
    let left : c.in_ok-found-in-Ok.found ≡ Some c.args.left = cc (found, c.in_ok-found-in-Ok.was, same) in
    (rw left at c.eq.ensures) ∙ key_self c.args.left

pub returns-in-Err-NotFound-clause-there : goal.returns-in-Err-NotFound-clause-there
returns-in-Err-NotFound-clause-there g c = λ some is.
    absurd ((c.in-Err-NotFound.ensures some (λ e. cc)).none c.args.left is)

pub returns-in-Err : goal.returns-in-Err
returns-in-Err g c = record {
  there = λ some is. tt;
  memory = λ some is. is_memory c.in-Err.fault (λ other. (c.in-Err.ensures some other).none c.args.left is);
}
