use Rattle.std.proofs.Common.{◌≡◌, ◌≤◌, ◌++◌, drop}
use Rattle.cweb_tools.specs.Depfile.{escaped, escaped_from}
use Rattle.cweb_tools.proofs.depfile.escape.append_escaped.Given as goal

-- The text so far, followed by the rest of the name, is the whole name. No more backslashes than bytes were read.
abbrev pub invariant-bytes : goal.invariant-bytes
invariant-bytes l = record {
  whole : l.text.items ++ escaped_from l.position l.backslashes (drop l.b-index l.name)
      ≡ l.fn.text.items ++ escaped l.position l.name;
  few : l.backslashes ≤ l.b-index;
}
