-- Old sides in the buffers, line by line.
use Rattle.cweb_lines.proofs.Common.{◌≡◌, ℕ, List, [], ◌∷◌, ◌++◌, Option, None, sym, ◌∙◌, ap, map-append, AllByRecursion, OpenSource, change_code, trimmed}
use Rattle.cweb_lines.specs.declared.passing.next.LinesAhead.{LinesAhead}
use Rattle.cweb_lines.specs.declared.passing.old_side.OldSideAhead.{OldSideAhead}
use Rattle.cweb_lines.specs.inner.PassingChanges.{AreAhead, IsPartOfOldSide, last_bytes}

plain-append : (lines : List (List ℕ)) (line : List ℕ)
    → AllByRecursion (λ old. change_code (trimmed old) ≡ None) lines → change_code (trimmed line) ≡ None
    → AllByRecursion (λ old. change_code (trimmed old) ≡ None) (lines ++ line ∷ [])
plain-append [] line all plain = (plain, tt)
plain-append (old ∷ lines) line all plain = (all.0, plain-append lines line all.1 plain)

pub one_more_part : {R : Type 0} (web change : Option (OpenSource R)) (first : List ℕ) (ahead : OldSideAhead)
    (more side : LinesAhead) (part : IsPartOfOldSide web change first ahead) (next x : List ℕ)
    → AreAhead web more (part.before ++ part.raw ∷ []) next → AreAhead change side (part.olds ++ part.last ∷ []) x
    → change_code (last_bytes change ahead.side) ≡ None → last_bytes web more ≡ last_bytes change ahead.side
    → IsPartOfOldSide web change first (record { web = more; side = side })
one_more_part web change first ahead more side part next x web_is side_is plain same = record {
  before = part.before ++ part.raw ∷ [];
  raw = next;
  olds = part.olds ++ part.last ∷ [];
  last = x;
  web_is = web_is;
  side_is = side_is;
  equal = map-append trimmed (part.before ++ part.raw ∷ []) (next ∷ [])
      ∙ (λ i. part.equal i ++ (sym web_is.bytes ∙ same ∙ part.side_is.bytes) i ∷ [])
      ∙ ap (λ (ls : List (List ℕ)). first ∷ ls) (sym (map-append trimmed part.olds (part.last ∷ [])));
  plain = plain-append part.olds part.last part.plain (ap change_code (sym part.side_is.bytes) ∙ plain);
  matches = part.matches;
}
