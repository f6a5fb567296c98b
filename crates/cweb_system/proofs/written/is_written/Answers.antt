use Rattle.std.proofs.Common.{◌≡◌, IsSomeAnd, subst, string_bytes, arith}
use Rattle.std.proofs.lemmas.List.{take_all}
use Rattle.std.proofs.lemmas.List.Elements.{All-more}
use Rattle.std.specs.Option.{option_copied}
use Rattle.cweb_system.specs.declared.written.WrittenFile.{WrittenFile}
use Rattle.cweb_system.proofs.written.is_written.Goals as goal

pub loop-file-preserved : goal.loop-file-preserved
loop-file-preserved g c = λ some.
    let Says : WrittenFile → Type 0 = λ w. w.key ≡ c.args.key
    → IsSomeAnd (option_copied c.args.but) (λ name. string_bytes w.name ≡ name) in
    All-more Says c.args.written.now c.loop-file.file-index c.file-item.result (omega arith)
    (c.loop-file.invariant some) (subst Says c.file-item.is (c.is_of_key.ensures.value c.if-is_of_key.false some))

pub returns-clause-value : goal.returns-clause-value
returns-clause-value g c = grind (arith, take_all)
