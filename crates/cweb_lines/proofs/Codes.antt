-- Code lines within a change.
use Rattle.cweb_lines.proofs.Common.{rules, ◌≡◌, ℕ, true, false, List, [], ◌∷◌, Some, Option, refl, Place, OldSide, change_code, old_after, old_at, old_lines, at_place, Line, SourceLine, Thing, took, fault, WantsY, sameb, the_type, Code, NewSide, new_at, new_things, passed, reported, WantsZ}
use Rattle.cweb_lines.specs.declared.change.code.Code.TheVariants.{NewSide as new_side, EndSide as end_side}

pub is_new : (code : Code) → sameb the_type code new_side ≡ true → code ≡ new_side
is_new new_side same = refl
is_new _ same = absurd (cc)

pub is_faulty : (code : Code) (line : Line) (lines : List SourceLine) (things : List Thing)
    (later : List Thing → OldSide) → sameb the_type code new_side ≡ false
    → old_at (Some code) line lines things later ≡ old_after (fault (at_place WantsY line.place)) (later things)
is_faulty new_side line lines things later other = absurd (cc)
is_faulty _ line lines things later other = refl

pub old_code_at : (code : Option Code) (line : SourceLine) (lines : List SourceLine) (things : List Thing)
    (bytes : List ℕ) (place : Place) → line.line ≡ record { bytes = bytes; place = place } → change_code bytes ≡ code
    → old_lines (line ∷ lines) things ≡ old_after (took line)
    (old_at code (record { bytes = bytes; place = place }) lines things (λ rest. old_lines lines rest))
old_code_at code line lines things bytes place is test = search rules

pub is_end : (code : Code) → sameb the_type code end_side ≡ true → code ≡ end_side
is_end end_side same = refl
is_end _ same = absurd (cc)

pub is_faulty_new : (code : Code) (depth : ℕ) (line : SourceLine) (lines : List SourceLine) (later : NewSide)
    → sameb the_type code end_side ≡ false → new_at (Some code) depth line lines later
    ≡ new_things (passed line ∷ reported (at_place WantsZ line.line.place) ∷ []) later
is_faulty_new end_side depth line lines later other = absurd (cc)
is_faulty_new _ depth line lines later other = refl
