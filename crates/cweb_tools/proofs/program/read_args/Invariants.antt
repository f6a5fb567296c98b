use Rattle.std.specs.Prelude.{◌≡◌, All, Some, map, string_bytes, take, IsUtf8}
use Rattle.cweb_tools.specs.inner.Variables.{Variables}
use Rattle.cweb_tools.proofs.program.read_args.Given as goal

-- The words so far are the first arguments, which are UTF-8.
abbrev pub invariant-words : goal.invariant-words
invariant-words g l = record {
  words : (seen : Variables) → g.E.Environment.known l.env ≡ Some seen
      → map string_bytes l.words.items ≡ take l.index seen.args;
  valid : (seen : Variables) → g.E.Environment.known l.env ≡ Some seen → All IsUtf8 (take l.index seen.args);
}
