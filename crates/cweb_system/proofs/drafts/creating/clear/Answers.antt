use Rattle.std.proofs.Common.{◌≡◌, ◌∙◌, ap, subst, sym, rules, slice_index_or, Some}
use Rattle.cweb_system.specs.declared.node.FileKey.{FileKey}
use Rattle.cweb_system.specs.Tree.{IsFile}
use Rattle.cweb_system.proofs.Files.{clearing}
use Rattle.cweb_system.proofs.drafts.creating.clear.Goals as goal

pub returns-else-contains-clause-leaves : goal.returns-else-contains-clause-leaves
returns-else-contains-clause-leaves g c = record {
  leaves = clearing c.args.files.now c.args.path.text.now _ _ c.clear_file.ensures.clears (λ some k d within is.
      let key : FileKey = (slice_index_or c.args.files.now.written.items k d).key in
      let same : c.in-Some-File.key ≡ key = subst (IsFile key)
      (sym (c.look.ensures some) ∙ c.in-Some-File.is ∙ ap Some c.in-Some-File.field-0-is) is in
      c.has_written.ensures.value c.if-has_written.false some k d within (sym same));
  cause = search rules;
}
