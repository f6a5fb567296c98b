use Rattle.std.proofs.Common.{arith}
use Rattle.std.proofs.Common.{◌≡◌, string_bytes, true, rules}
use Rattle.cweb_system.specs.declared.node.FileKey.{FileKey}
use Rattle.cweb_system.specs.Steps.{view}
use Rattle.cweb_system.specs.Tree.{IsFile, at}
use Rattle.cweb_system.proofs.Files.{draft_set, set_back}
use Rattle.cweb_system.proofs.drafts.committing.keep_mode.Goals as goal

pub returns-in_err-set_draft_mode-in-Some-File : goal.returns-in_err-set_draft_mode-in-Some-File
returns-in_err-set_draft_mode-in-Some-File g c = grind arith

pub returns-in_ok-set_draft_mode-in-Some-File-clause-leaves
    : goal.returns-in_ok-set_draft_mode-in-Some-File-clause-leaves
returns-in_ok-set_draft_mode-in-Some-File-clause-leaves g c = grind arith

pub returns-in_ok-set_draft_mode-in-Some-File-clause-stays : goal.returns-in_ok-set_draft_mode-in-Some-File-clause-stays
returns-in_ok-set_draft_mode-in-Some-File-clause-stays g c = λ some.
    draft_set g.F.FileSystem.key c.args.files.now.written.items c.args.draft.now c.in-Some-File.kept _ _
    (c.in_ok-set_draft_mode-in-Some-File.ensures.changes.place some)
    (c.in_ok-set_draft_mode-in-Some-File.ensures.changes.ok some)
    (c.in_ok-set_draft_mode-in-Some-File.ensures.alone some) (c.requires.draft some)

pub returns-in_ok-set_draft_mode-in-Some-File-clause-apart : goal.returns-in_ok-set_draft_mode-in-Some-File-clause-apart
returns-in_ok-set_draft_mode-in-Some-File-clause-apart g c = λ some.
    let see = view g.F.FileSystem.disk in
    let old = (see c.args.fs.now).tree in
    let new = (see c.set_draft_mode.new.fs).tree in
    let name = string_bytes c.args.draft.now.name in
    let set = c.in_ok-set_draft_mode-in-Some-File.ensures.changes in
    let allowed : c.may_replace.result ≡ true = search rules in
    let apart : c.in-Some-File.found ≡ c.args.draft.now.key → ⊥ = search rules in
    let same : (k : FileKey) → IsFile k (at new name) → c.in-Some-File.found ≡ k = grind (arith, set_back) in
    record {
      own = λ now. apart (same c.args.draft.now.key now);
      unread = grind arith;
      others = grind arith;
    }
