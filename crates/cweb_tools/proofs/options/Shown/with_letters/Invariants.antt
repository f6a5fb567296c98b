use Rattle.cweb_tools.proofs.Common.{◌≡◌, drop, letters_shown}
use Rattle.cweb_tools.proofs.options.Shown.with_letters.Given as goal

abbrev pub invariant-letters : goal.invariant-letters
invariant-letters l =
    letters_shown l.on (drop l.letter-index l.letters) l.shown ≡ letters_shown l.on l.letters l.fn.self
