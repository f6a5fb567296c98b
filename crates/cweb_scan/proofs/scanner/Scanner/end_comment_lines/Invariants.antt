use Rattle.cweb_scan.proofs.Common.{◌≡◌, ◌≤◌, ◌+◌, drop, passed, comment_line_end}
use Rattle.cweb_store.specs.surface.Tokens.{token_count}
use Rattle.cweb_scan.proofs.scanner.Scanner.end_comment_lines.Given as goal

abbrev pub invariant-lines : goal.invariant-lines
invariant-lines l =
    (passed comment_line_end (drop l.place-index l.places) l.self ≡ passed comment_line_end l.places l.fn.self)
    × (token_count l.self.contents.parts ≤ token_count l.fn.self.contents.parts + l.place-index)
