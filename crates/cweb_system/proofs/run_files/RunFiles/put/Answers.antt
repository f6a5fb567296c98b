use Rattle.std.proofs.Common.{◌≡◌, ◌∙◌, ◌++◌, ◌∷◌, [], List, ap, subst, sym, IsTrue, string_bytes}
use Rattle.std.specs.Prelude.{All, filter}
use Rattle.std.proofs.lemmas.List.Elements.{All-filter, All-push}
use Rattle.cweb_system.specs.declared.written.WrittenFile.{WrittenFile}
use Rattle.cweb_system.specs.Steps.{keys_in}
use Rattle.cweb_system.specs.inner.Written.{is_among}
use Rattle.cweb_system.proofs.Views.{is_other, none_removed}
use Rattle.cweb_system.proofs.run_files.RunFiles.put.Goals as goal
use Rattle.cweb_system.proofs.run_files.RunFiles.put.Goals.{then-replaces, else-replaces}

pub invariant_of-self : goal.invariant_of-self
invariant_of-self c =
    let Known : WrittenFile → Type 0 = λ w. IsTrue (is_among (keys_in c.args.self.now.created) w.key) in
    let kept : All Known c.if-replaces.self.1.1.0.items = elim c.if-replaces.branch [
      | then-replaces w ↦ rw (w.self-is, w.remove_named.ensures.others)
          (All-filter _ Known c.args.self.now.written.items c.args.self.now.known)
      | else-replaces w ↦ rw w.self-is c.args.self.now.known
    ] in
    record {
      known = subst (All Known) (sym c.push_reserved.ensures.items)
          (All-push Known c.if-replaces.self.1.1.0.items (record { name = c.args.name; key = c.args.key }) kept
          c.requires.known);
    }

pub returns-clause-written : goal.returns-clause-written
returns-clause-written c = λ unnamed.
    let name = string_bytes c.args.name in
    let now : WrittenFile = record { name = c.args.name; key = c.args.key } in
    let kept : c.if-replaces.self.1.1.0.items ≡ filter (is_other name) c.args.self.now.written.items =
    elim c.if-replaces.branch [
      | then-replaces w ↦ rw w.self-is (rw w.as_str.ensures.value at w.remove_named.ensures.others)
      | else-replaces w ↦ rw w.self-is (none_removed name _ (unnamed w.if-replaces.false))
    ] in
    c.push_reserved.ensures.items ∙ ap (λ (l : List WrittenFile). l ++ now ∷ []) kept
