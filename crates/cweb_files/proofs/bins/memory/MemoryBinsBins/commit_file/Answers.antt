use Rattle.std.proofs.Common.{◌≡◌, [], ◌∷◌, ◌++◌, sym, ◌∙◌, ap, Some, None, map, List, Option}
use Rattle.std.specs.Prelude.{option_map}
use Rattle.cweb_files.specs.Files.{File}
use Rattle.cweb_files.specs.Sinks.{SinkModel, changed, committed}
use Rattle.cweb_files.specs.declared.bins.memory.BinFile.{BinFile}
use Rattle.cweb_files.specs.surface.MemoryDevices.{as_file, bin_file_name, bin_file_bytes, last_refusal}
use Rattle.cweb_files.specs.surface.MemoryDevices.{files_with_draft}
use Rattle.cweb_files.proofs.Commits.{commits}
use Rattle.cweb_files.proofs.bins.memory.MemoryBinsBins.commit_file.Goals as goal

pub returns-clause-ok : goal.returns-clause-ok
returns-clause-ok c =
    let files = c.args.self.now.files.items in
    let was : c.args.self.now.draft ≡ Some c.in-Some.file = sym c.take.ensures.value ∙ c.in-Some.is in
    let none : c.take.new.self ≡ None = c.take.ensures.after in
    let put = commits files c.remove_named.new.files.items c.push_reserved.new.self.items c.in-Some.file
    (rw c.as_str.ensures.value at c.remove_named.ensures.others) c.push_reserved.ensures.items in
    let bins : List File → Option BinFile → SinkModel = λ (fs : List File) (draft : Option BinFile). record {
      failed = c.args.self.now.failed;
      contents = Some (record {
        bytes = bin_file_bytes draft;
        beside = record { files = fs; draft = option_map bin_file_name draft; refused = last_refusal c.args.self.now };
      });
    } in
    ap (bins (map as_file c.push_reserved.new.self.items)) none ∙ ap (λ (fs : List File). bins fs None) put
    ∙ sym (ap (λ (d : Option BinFile). changed committed (bins (map as_file files) d)) was)

pub returns-clause-files : goal.returns-clause-files
returns-clause-files c =
    c.push_reserved.ensures.items
    ∙ ap (λ (fs : List BinFile). fs ++ c.in-Some.file ∷ []) (rw c.as_str.ensures.value at c.remove_named.ensures.others)
    ∙ sym (ap (files_with_draft c.args.self.now.files.items) (sym c.take.ensures.value ∙ c.in-Some.is))
