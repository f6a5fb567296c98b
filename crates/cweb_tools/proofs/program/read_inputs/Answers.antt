use Rattle.std.proofs.Common.{◌≡◌, ℕ, List, Some, ◌∙◌, subst, sym, rules}
use Rattle.std.specs.Prelude.{IsUtf8, string_bytes}
use Rattle.std.proofs.lemmas.Str.{IsUtf8-string_bytes}
use Rattle.cweb_tools.proofs.program.read_inputs.Goals as goal

of_some : (xs ys : List ℕ) → Some xs ≡ Some ys → xs ≡ ys
of_some xs ys is = cc

pub returns-in-Ok-clause-invalid : goal.returns-in-Ok-clause-invalid
returns-in-Ok-clause-invalid g c = λ seen it text is invalid.
    let found : Some (string_bytes c.in-Ok.folder) ≡ seen.value _ = search rules in
    absurd (invalid (subst IsUtf8 (of_some _ _ (found ∙ is)) (IsUtf8-string_bytes c.in-Ok.folder)))

pub returns-clause-valid : goal.returns-clause-valid
returns-clause-valid g c = λ seen it text is utf8.
    let found : Some c.in-Some.bytes.items ≡ seen.value _ = search rules in
    let no = c.in-Err.ensures.succeeds (subst IsUtf8 (sym (of_some _ _ (found ∙ is))) utf8) in
    absurd (cc)

pub returns-clause-invalid : goal.returns-clause-invalid
returns-clause-invalid g c = search rules
