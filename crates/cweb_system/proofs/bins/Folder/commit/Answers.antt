use Rattle.std.proofs.Common.{arith}
use Rattle.std.proofs.Common.{◌≡◌, ◌∙◌, ap, map, refl, sym, string_bytes, Option, Some}
use Rattle.std.specs.Prelude.{option_map}
use Rattle.cweb_files.specs.Files.{with_bytes}
use Rattle.cweb_files.specs.Sinks.{committed}
use Rattle.cweb_system.specs.declared.drafts.path.Draft.{Draft}
use Rattle.cweb_system.specs.declared.written.WrittenFile.{WrittenFile}
use Rattle.cweb_system.specs.Bins.{draft_bytes, draft_name, file_in}
use Rattle.cweb_system.specs.Steps.{view}
use Rattle.cweb_system.proofs.Models.{bins_contents, model_is}
use Rattle.cweb_system.proofs.Views.{committing, files_left, leaves_then, stands_then}
use Rattle.cweb_system.proofs.bins.Folder.commit.Goals as goal

pub returns-in_default-put_in_place-clause-err : goal.returns-in_default-put_in_place-clause-err
returns-in_default-put_in_place-clause-err g c = grind (arith, model_is, files_left, leaves_then)

pub invariant_of-self-2 : goal.invariant_of-self-2
invariant_of-self-2 g c =
    let see = view g.F.FileSystem.disk in
    let w : WrittenFile = record { name = c.in-Some.draft.name; key = c.in-Some.draft.key } in
    record {
      sound = record {
        files = λ some. stands_then c.args.self.now.files.written.items c.put.new.self.written.items w
            (string_bytes w.name) (see c.args.self.now.fs).tree (see c.put_in_place.new.fs).tree
            (c.in-Ok.ensures.ok some) refl (c.put.ensures.written (c.in-Ok.ensures.answers.first some));
        draft = grind arith;
      };
    }

pub returns-clause-ok : goal.returns-clause-ok
returns-clause-ok g c = model_is g.F.FileSystem.disk _ _ committed refl (λ some.
    let see = view g.F.FileSystem.disk in
    let ws = c.args.self.now.files.written.items in
    let old = (see c.args.self.now.fs).tree in
    let new = (see c.put_in_place.new.fs).tree in
    let name = string_bytes c.in-Some.draft.name in
    let w : WrittenFile = record { name = c.in-Some.draft.name; key = c.in-Some.draft.key } in
    let was : c.args.self.now.draft ≡ Some c.in-Some.draft = sym c.take.ensures.value ∙ c.in-Some.is in
    let files = committing ws c.put.new.self.written.items w name old new (c.args.self.now.sound.files some)
    (c.in-Ok.ensures.ok some) refl (c.put.ensures.written (c.in-Ok.ensures.answers.first some))
    ∙ sym (ap (λ (o : Option (Draft g.row.F-File.Denot)). with_bytes (map (file_in old) ws) (option_map draft_name o)
    (draft_bytes old o)) was) in
    λ i. bins_contents new (files i) (c.take.ensures.after i) c.args.self.now.refused)
