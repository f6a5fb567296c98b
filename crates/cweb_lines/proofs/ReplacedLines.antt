-- An entry whose old lines are in the web.
use Rattle.cweb_lines.proofs.Common.{◌≡◌, ◌≢◌, ◌+◌, ◌&&◌, ℕ, Bool, true, false, List, [], ◌∷◌, ◌++◌, map, None, Some, refl, sym, ◌∙◌, ap, arith, length, append_assoc, append-nil, bytes_eq-Decides, list_any, bytes_eq, Place, SourceLine, CutLine, numbered_lines, cut_lines, lines, trimmed, raw, raws, seek, passed, World, is_include_line, WaitingEntry, OldSide, NewSide, change_code, old_lines, new_lines, is_change_code, RawLine, Thing, at_entry, after_old, change_events, taking, Event, took, merge, merge_next, followed_by, only_lines, placed, outcome_of_events, or_parts, ChangesReplaceLines, MergeOutcome}
use Rattle.cweb_lines.specs.declared.change.code.Code.TheVariants.{OldSide as old_side, NewSide as new_side, EndSide as end_side}
use Rattle.cweb_lines.proofs.Merges.{state}
use Rattle.cweb_lines.proofs.OutcomeOfEvents.{seek_unseen, took_unseen}
use Rattle.cweb_lines.proofs.PlainLines.{emits, emits_all, first_old, no_code, passes, place_of, source_of, texts_of, web_from}
use Rattle.cweb_lines.proofs.SourceStacks.{raws-append}

-- Lines in two parts, which have these texts. The second begins at line `at`.
record Parts (a b : List (List ℕ)) (file number : ℕ) (lines : List CutLine) : Type 0 where
  first : List CutLine
  later : List CutLine
  at : ℕ
  first_is : texts_of first ≡ a
  later_is : texts_of later ≡ b
  at_is : at ≡ number + length a
  whole : numbered_lines file number lines ≡ numbered_lines file number first ++ numbered_lines file at later

parts_of : (a b : List (List ℕ)) (file number : ℕ) (lines : List CutLine) → texts_of lines ≡ a ++ b
    → Parts a b file number lines
parts_of [] b file number lines is = record {
  first = [];
  later = lines;
  at = number;
  first_is = refl;
  later_is = is;
  at_is = omega arith;
  whole = refl;
}
parts_of (text ∷ a) b file number [] is = absurd (cc)
parts_of (text ∷ a) b file number (line ∷ lines) is =
    let p = parts_of a b file (number + 1) lines (cc) in
    record {
      first = line ∷ p.first;
      later = p.later;
      at = p.at;
      first_is = cc;
      later_is = p.later_is;
      at_is = omega (arith, p.at_is);
      whole = ap (λ (ls : List SourceLine). source_of file number line ∷ ls) p.whole;
    }

any_parts : (test : List ℕ → Bool) (a b : List (List ℕ)) → list_any test (a ++ b) ≡ false
    → (list_any test a ≡ false) × (list_any test b ≡ false)
any_parts test [] b is = (refl, is)
any_parts test (x ∷ a) b is =
    let parts = or_parts (test x) (list_any test (a ++ b)) is in
    let rest = any_parts test a b parts.1 in
    (simp (parts.0, rest.0), rest.1)

-- The old side of an entry whose further old lines come next in the web.
record Drops (old rest after : List (List ℕ)) (number web_number : ℕ) (change web : List CutLine) : Type 0 where
  taken : List SourceLine
  later : List CutLine
  later_is : texts_of later ≡ rest
  at : ℕ
  at_is : at ≡ number + length old + 1
  below : List CutLine
  below_is : texts_of below ≡ after
  web_at : ℕ
  web_at_is : web_at ≡ web_number + length old
  is : old_lines (numbered_lines 1 number change) (web_from web_number web) ≡ record {
    events = map took taken;
    unequal = 0;
    ran_out = false;
    ended = false;
    rest = numbered_lines 1 at later;
    things = web_from web_at below;
  }

drops : (old : List (List ℕ)) (y : List ℕ) (rest after : List (List ℕ)) (number web_number : ℕ)
    (change web : List CutLine) → texts_of change ≡ old ++ y ∷ rest → texts_of web ≡ old ++ after
    → list_any is_change_code old ≡ false → change_code y ≡ Some new_side
    → Drops old rest after number web_number change web
drops [] y rest after number web_number [] web is web_is no_codes turns = absurd (cc)
drops [] y rest after number web_number (line ∷ change) web is web_is no_codes turns = record {
  taken = source_of 1 number line ∷ [];
  later = change;
  later_is = cc;
  at = number + 1;
  at_is = omega arith;
  below = web;
  below_is = web_is;
  web_at = web_number;
  web_at_is = omega arith;
  is = grind arith;
}
drops (text ∷ old) y rest after number web_number [] web is web_is no_codes turns = absurd (cc)
drops (text ∷ old) y rest after number web_number (line ∷ change) [] is web_is no_codes turns = absurd (cc)
drops (text ∷ old) y rest after number web_number (line ∷ change) (raw_line ∷ web) is web_is no_codes turns =
    let codes = or_parts (is_change_code text) (list_any is_change_code old) no_codes in
    let d = drops old y rest after (number + 1) (web_number + 1) change web (cc) (cc) codes.1 turns in
    record {
      taken = source_of 1 number line ∷ source_of 0 web_number raw_line ∷ d.taken;
      later = d.later;
      later_is = d.later_is;
      at = d.at;
      at_is = omega (arith, d.at_is);
      below = d.below;
      below_is = d.below_is;
      web_at = d.web_at;
      web_at_is = omega (arith, d.web_at_is);
      is = grind (arith, no_code, codes.0, d.is, bytes_eq-Decides);
    }

-- The new side of the last entry.
record NewLines (new : List (List ℕ)) (begin : Place) (number : ℕ) (change : List CutLine) : Type 0 where
  texts : List CutLine
  texts_are : texts_of texts ≡ new
  end : SourceLine
  is : new_lines 1 begin (numbered_lines 1 number change)
      ≡ record { things = raws 1 false (numbered_lines 1 number texts) ++ passed end ∷ []; rest = [] }

news : (new : List (List ℕ)) (z : List ℕ) (begin : Place) (number : ℕ) (change : List CutLine)
    → texts_of change ≡ new ++ z ∷ [] → list_any is_change_code new ≡ false → change_code z ≡ Some end_side
    → NewLines new begin number change
news [] z begin number [] is no_codes ends = absurd (cc)
news [] z begin number (line ∷ x ∷ change) is no_codes ends = absurd (cc)
news [] z begin number (line ∷ []) is no_codes ends = record {
  texts = [];
  texts_are = refl;
  end = source_of 1 number line;
  is = grind arith;
}
news (text ∷ new) z begin number [] is no_codes ends = absurd (cc)
news (text ∷ new) z begin number (line ∷ change) is no_codes ends =
    let codes = or_parts (is_change_code text) (list_any is_change_code new) no_codes in
    let n = news new z begin (number + 1) change (cc) codes.1 ends in
    record {
      texts = line ∷ n.texts;
      texts_are = cc;
      end = n.end;
      is = grind (arith, no_code, codes.0, n.is);
    }

module _ (world : World) (before old after new : List (List ℕ)) (first x y z : List ℕ)
    (begins : change_code x ≡ Some old_side) (turns : change_code y ≡ Some new_side)
    (ends : change_code z ≡ Some end_side)
    (others : list_any is_change_code ((first ∷ old) ++ new) ≡ false) (some : first ≢ [])
    (earlier : list_any (λ line. bytes_eq line first) before ≡ false)
    (plain_lines : list_any is_include_line (before ++ (new ++ after)) ≡ false) where
  abbrev begin : Place
  begin = place_of 1 1

  abbrev entry : WaitingEntry
  entry = record { begin = begin; first = first }

  -- The new lines, then the rest of the web.
  abbrev later_is : ℕ → MergeOutcome
  later_is web_at = followed_by (only_lines (placed 1 (4 + length old) new)) (only_lines (placed 0 web_at after))

  new_come : (number web_at : ℕ) (change web : List CutLine) → number ≡ 4 + length old
      → texts_of change ≡ new ++ z ∷ [] → texts_of web ≡ after → (side : OldSide)
      → side.rest ≡ numbered_lines 1 number change → side.things ≡ web_from web_at web
      → outcome_of_events (merge world (after_old false 2 1 begin side)) ≡ later_is web_at
  new_come number web_at change web number_is is web_is side rest_is things_are =
      let codes = any_parts is_change_code (first ∷ old) new others in
      let plain_before = any_parts is_include_line before (new ++ after) plain_lines in
      let plain_later = any_parts is_include_line new after plain_before.1 in
      let n = news new z begin number change is codes.1 ends in
      let below = web_from web_at web in
      let texts = raws 1 false (numbered_lines 1 number n.texts) in
      (λ i. outcome_of_events (merge world (state ((new_lines 1 begin (rest_is i)).things ++ seek ∷ things_are i)
      None (new_lines 1 begin (rest_is i)).rest 2)))
      ∙ ap (λ (side : NewSide). outcome_of_events (merge world (state (side.things ++ seek ∷ below) None side.rest 2)))
      n.is
      ∙ ap (λ (ts : List Thing). outcome_of_events (merge world (state ts None [] 2)))
      (append_assoc texts (passed n.end ∷ []) (seek ∷ below))
      ∙ emits world 1 false 1 number n.texts (passed n.end ∷ seek ∷ below) [] 2
      (ap (list_any is_include_line) n.texts_are ∙ plain_later.0)
      ∙ ap (followed_by (only_lines (placed 1 number (texts_of n.texts))))
      (ap outcome_of_events (merge_next world (state (passed n.end ∷ seek ∷ below) None [] 2)
      (took n.end ∷ [], state (seek ∷ below) None [] 2) refl)
      ∙ ap outcome_of_events (merge_next world (state (seek ∷ below) None [] 2) ([], state below None [] 2) refl)
      ∙ emits_all world [] 2 web_at web (ap (list_any is_include_line) web_is ∙ plain_later.1))
      ∙ (λ i. followed_by (only_lines (placed 1 (number_is i) (n.texts_are i)))
      (only_lines (placed 0 web_at (web_is i))))

  replaces : (number : ℕ) (change web : List CutLine) → texts_of change ≡ old ++ (y ∷ (new ++ z ∷ []))
      → texts_of web ≡ first ∷ (old ++ after)
      → outcome_of_events (merge world (state (web_from number web) (Some entry) (numbered_lines 1 3 change) 2))
      ≡ later_is (number + 1 + length old)
  replaces number change [] is web_is = absurd (cc)
  replaces number change (line ∷ web) is web_is =
      let codes = any_parts is_change_code (first ∷ old) new others in
      let old_codes = or_parts (is_change_code first) (list_any is_change_code old) codes.0 in
      let d = drops old y (new ++ z ∷ []) after 3 (number + 1) change web is (cc) old_codes.1 turns in
      let source = source_of 0 number line in
      let r : RawLine = record { source = source; depth = 1; may_match = true } in
      let rest = web_from (number + 1) web in
      let s = state (raw r ∷ rest) (Some entry) (numbered_lines 1 3 change) 2 in
      let same : trimmed line.bytes ≡ first = cc in
      let equal = (bytes_eq-Decides (trimmed line.bytes) first).1 same in
      let side : OldSide = record {
        events = map took d.taken;
        unequal = 0;
        ran_out = false;
        ended = false;
        rest = numbered_lines 1 d.at d.later;
        things = web_from d.web_at d.below;
      } in
      ap outcome_of_events (merge_next world s
      (took source ∷ change_events begin side, after_old false 2 1 begin side)
      (ap (λ b. Some (taking source (at_entry (true && b) entry world s r rest))) equal
      ∙ ap (λ (side : OldSide). Some
      (took source ∷ change_events begin side, after_old side.ended 2 1 begin side)) d.is))
      ∙ ap (λ (es : List Event). outcome_of_events (es ++ merge world (after_old false 2 1 begin side)))
      (append-nil (map took d.taken))
      ∙ took_unseen d.taken (merge world (after_old false 2 1 begin side))
      ∙ new_come d.at d.web_at d.later d.below (omega (arith, d.at_is)) d.later_is d.below_is side refl refl
      ∙ ap later_is d.web_at_is

  replaces_in : (change web : List CutLine) → texts_of change ≡ x ∷ first ∷ (old ++ (y ∷ (new ++ z ∷ [])))
      → texts_of web ≡ before ++ (first ∷ (old ++ after))
      → outcome_of_events (merge world (state (seek ∷ web_from 1 web) None (numbered_lines 1 1 change) 2))
      ≡ followed_by (only_lines (placed 0 1 before)) (later_is (1 + length before + 1 + length old))
  replaces_in [] web is web_is = absurd (cc)
  replaces_in (cx ∷ []) web is web_is = absurd (cc)
  replaces_in (cx ∷ cf ∷ change) web is web_is =
      let codes = any_parts is_change_code (first ∷ old) new others in
      let old_codes = or_parts (is_change_code first) (list_any is_change_code old) codes.0 in
      let plain_before = any_parts is_include_line before (new ++ after) plain_lines in
      let p = parts_of before (first ∷ (old ++ after)) 0 1 web web_is in
      let rest = numbered_lines 1 3 change in
      seek_unseen world (web_from 1 web) (numbered_lines 1 1 (cx ∷ cf ∷ change)) 2
      (source_of 1 1 cx ∷ source_of 1 2 cf ∷ []) (Some entry) rest (grind (arith, first_old, no_code))
      ∙ ap (λ (ls : List SourceLine). outcome_of_events (merge world (state (raws 1 true ls) (Some entry) rest 2)))
      p.whole
      ∙ ap (λ (ts : List Thing). outcome_of_events (merge world (state ts (Some entry) rest 2)))
      (raws-append 1 true (numbered_lines 0 1 p.first) (numbered_lines 0 p.at p.later))
      ∙ passes world entry rest 2 1 p.first (web_from p.at p.later)
      (ap (list_any is_include_line) p.first_is ∙ plain_before.0)
      (ap (list_any (λ line. bytes_eq line first)) p.first_is ∙ earlier)
      ∙ ap (followed_by (only_lines (placed 0 1 (texts_of p.first)))) (replaces p.at change p.later (cc) p.later_is)
      ∙ (λ i. followed_by (only_lines (placed 0 1 (p.first_is i))) (later_is (p.at_is i + 1 + length old)))

pub replaced : ChangesReplaceLines
replaced world web change first before old after new web_is e some earlier plain_lines =
    let number : 1 + length before + 1 + length old ≡ 2 + length before + length old = omega arith in
    replaces_in world before old after new first e.x e.y e.z e.begins e.turns e.ends e.others some earlier
    (ap (list_any is_include_line) (sym (append_assoc before new after)) ∙ plain_lines)
    (cut_lines change) (cut_lines web)
    (e.whole ∙ append_assoc (e.x ∷ first ∷ old) (e.y ∷ new) (e.z ∷ []))
    (web_is ∙ append_assoc before (first ∷ old) after)
    ∙ ap only_lines (ap (λ n. placed 0 1 before ++ (placed 1 (4 + length old) new ++ placed 0 n after)) number
    ∙ sym (append_assoc (placed 0 1 before) (placed 1 (4 + length old) new)
    (placed 0 (2 + length before + length old) after)))
