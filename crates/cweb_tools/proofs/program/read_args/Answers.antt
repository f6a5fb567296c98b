use Rattle.std.proofs.Common.{◌≡◌, Some, None, map, string_bytes, ◌∙◌, ap, subst, rules}
use Rattle.std.specs.Prelude.{All, IsUtf8}
use Rattle.std.specs.List.{slice_get}
use Rattle.std.proofs.lemmas.Str.{IsUtf8-string_bytes}
use Rattle.cweb_tools.proofs.Arguments.{all_taken, valid_at, valid_more, words_more}
use Rattle.cweb_tools.proofs.program.read_args.Goals as goal

pub returns-in_default-clause-invalid : goal.returns-in_default-clause-invalid
returns-in_default-clause-invalid g c = λ seen it invalid.
    let none : slice_get seen.args c.words.index ≡ None = search rules in
    absurd (invalid (subst (All IsUtf8) (all_taken _ c.words.index none) (c.words.invariant.valid seen it)))

pub returns-in_default-clause-valid : goal.returns-in_default-clause-valid
returns-in_default-clause-valid g c = λ seen it valid.
    let none : slice_get seen.args c.words.index ≡ None = search rules in
    c.words.invariant.words seen it ∙ all_taken _ c.words.index none

pub returns-in_default-from_utf8-clause-valid : goal.returns-in_default-from_utf8-clause-valid
returns-in_default-from_utf8-clause-valid g c = λ seen it valid.
    let some : slice_get seen.args c.words.index ≡ Some c.in-Some.bytes.items =
    search rules in
    let utf8 : IsUtf8 c.in-Some.bytes.items = valid_at _ c.words.index _ valid some in
    search rules

pub words-preserved : goal.words-preserved
words-preserved g c =
    let bytes : string_bytes c.in-Ok.word ≡ c.in-Some.bytes.items = search rules in record {
      words = λ seen it.
          let some : slice_get seen.args c.words.index ≡ Some (string_bytes c.in-Ok.word) =
          search rules in
          ap (map string_bytes) c.in_ok-push.ensures.items
          ∙ words_more _ c.in-Ok.word _ c.words.index (c.words.invariant.words seen it) some;
      valid = λ seen it.
          let some : slice_get seen.args c.words.index ≡ Some (string_bytes c.in-Ok.word) =
          search rules in
          valid_more _ c.words.index (string_bytes c.in-Ok.word) (c.words.invariant.valid seen it) some
          (IsUtf8-string_bytes c.in-Ok.word);
    }
