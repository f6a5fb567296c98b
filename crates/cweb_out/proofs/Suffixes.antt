-- The suffix of a list that a frame holds.
use Rattle.cweb_out.proofs.Common.{◌≡◌, [], ◌≤◌, ◌<◌, ◌+◌, ◌∷◌, ◌++◌, List, Some, length, ℕ, sym, ◌∙◌, ap, arith, false, suc, subst, All, Part, Token, all_tokens, Stored, Frame, defs_first, suffix, PartIsWithin, FrameIsWithin, tokens_of_parts, append_assoc, Defs}
use Rattle.std.proofs.Common.{◌≢◌, slice_range}
use Rattle.std.specs.Prelude.{slice_get}
use Rattle.cweb_out.specs.surface.Printed.{tokens_of_part}
use Rattle.std.proofs.lemmas.Option.{slice_get-get_or}
use Rattle.cweb_out.proofs.Ranges.{slice_get-or, slice_range-first}
use Rattle.cweb_store.proofs.RangeLemmas.{range-none, range-split}

-- A frame with a nonempty part begins with the part's first token.
pub suffix-first : {w : Stored} {f : Frame} (t : Token) → f.defs ≡ false → f.part.first < f.part.after
    → FrameIsWithin w f → slice_get (all_tokens w.parts) f.part.first ≡ Some t → suffix w f ≡ t ∷ suffix w
    (record {
      owner = f.owner;
      defs = f.defs;
      part = record { first = f.part.first + 1; after = f.part.after };
      rest = f.rest;
    })
suffix-first {w} {f} t d n k e =
    let h = slice_range-first
    (all_tokens w.parts) f.part.first f.part.after t n k.part (slice_get-or (all_tokens w.parts) f.part.first t e) in
    ap (λ b. defs_first b ++ (tokens_of_part w f.part ++ tokens_of_parts w f.rest)) d
    ∙ ap (λ xs. xs ++ tokens_of_parts w f.rest) h
    ∙ ap (λ b. t ∷ (defs_first b
    ++ (slice_range (all_tokens w.parts) (f.part.first + 1) f.part.after ++ tokens_of_parts w f.rest))) (sym d)

-- Its suffix isn't empty.
pub suffix-left : {w : Stored} {f : Frame} → f.defs ≡ false → f.part.first < f.part.after
    → FrameIsWithin w f → suffix w f ≢ []
suffix-left {w} {f} d n k none =
    let here = suffix-first _ d n k
    (slice_get-get_or (all_tokens w.parts) f.part.first Defs (omega (arith, n, k.part))) in
    omega (arith, ap length here, ap length none)

pub suffix-next : (w : Stored) (f : Frame) (q : Part) (more : List Part) → f.part.after ≤ f.part.first
    → f.rest ≡ q ∷ more → suffix w f ≡ suffix w (record { owner = f.owner; defs = f.defs; part = q; rest = more })
suffix-next w f q more n e = grind (arith, range-none)

pub IsWithin-next : {w : Stored} {f : Frame} (q : Part) (more : List Part) → f.rest ≡ q ∷ more
    → FrameIsWithin w f → PartIsWithin (length (all_tokens w.parts)) q
    × All (PartIsWithin (length (all_tokens w.parts))) more
IsWithin-next {w} q more e h =
    let g : All (PartIsWithin (length (all_tokens w.parts))) (q ∷ more) =
    subst (All (PartIsWithin (length (all_tokens w.parts)))) e h.rest in
    (g 0 q (omega arith), λ k d l. g (suc k) d (omega arith))

-- The part continues at a later token.
pub suffix-passed : (w : Stored) (f : Frame) (n : ℕ) → f.defs ≡ false → f.part.first ≤ n → n ≤ f.part.after
    → suffix w f ≡ slice_range (all_tokens w.parts) f.part.first n
    ++ suffix w (record {
      owner = f.owner;
      defs = f.defs;
      part = record { first = n; after = f.part.after };
      rest = f.rest;
    })
suffix-passed w f n none from upto =
    let passed = slice_range (all_tokens w.parts) f.part.first n in
    let still = slice_range (all_tokens w.parts) n f.part.after in
    ap (λ b. defs_first b ++ (tokens_of_part w f.part ++ tokens_of_parts w f.rest)) none
    ∙ ap (λ (ts : List Token). ts ++ tokens_of_parts w f.rest)
    (range-split (all_tokens w.parts) f.part.first n f.part.after from upto)
    ∙ append_assoc passed still (tokens_of_parts w f.rest)
    ∙ ap (λ b. passed ++ (defs_first b ++ (still ++ tokens_of_parts w f.rest))) (sym none)
