use Rattle.std.proofs.Common.{ℕ, List, ◌∙◌, ap, codes, Option, Some, if◌then◌else◌}
use Rattle.std.specs.Str.{bytes_eq}
use Rattle.cweb_tools_tests.specs.declared.hello.TheConstants.{HELLO}
use Rattle.cweb_tools_tests.proofs.hello.hello_shelf.Goals as goal

-- A shelf that had these contents, after the call of `put`.
abbrev after_put : (List ℕ → Option (List ℕ)) → List ℕ → Option (List ℕ)
after_put contents name = if bytes_eq (codes "hello.w") name then Some HELLO.now else contents name

pub returns : goal.returns
returns c = c.in_ok-put.ensures.ok ∙ ap after_put c.new-shelf.ensures
