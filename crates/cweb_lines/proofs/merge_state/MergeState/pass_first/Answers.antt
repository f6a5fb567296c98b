use Rattle.cweb_lines.proofs.Common.{◌==◌, ◌∙◌, ℕ, List, [], ◌∷◌, None, ap, sym, refl, subst, arith, change_code, length, slice_range, IsRunAt, IsStretchAt}
use Rattle.cweb_lines.proofs.PlainLines.{no_code}
use Rattle.cweb_lines.proofs.NextLines.{silent_none, text_is}
use Rattle.cweb_lines.proofs.PassedChanges.{entry_passes, two_lines, two_sizes}
use Rattle.cweb_lines.proofs.merge_state.MergeState.pass_first.Goals as goal

pub returns-in_default-line_from : goal.returns-in_default-line_from
returns-in_default-line_from g c = silent_none _ _ (λ is. cc)

pub returns-then-is_empty : goal.returns-then-is_empty
returns-then-is_empty g c = silent_none _ _ (λ is. cc)

pub returns-in_err-self : goal.returns-in_err-self
returns-in_err-self g c = silent_none _ _ (λ is. grind arith)

pub advance_slot-requires-clause-next : goal.advance_slot-requires-clause-next
advance_slot-requires-clause-next g c =
    let x = c.requires.next.0 in
    let two = two_lines c.in-Some.text c.args.begin c.in-Some-line_from.next c.then.result x
    (subst (λ o. IsStretchAt None o c.args.begin (x ∷ [])) c.in-Some.is c.requires.next.1)
    c.in-Some-line_from.ensures.line c.in-Some-line_from.ensures.one c.then.ensures.end
    c.then.ensures.lines in (
      None,
      x ∷ two.raw_line ∷ [],
      subst (λ o. IsRunAt None o c.then.result (x ∷ two.raw_line ∷ [])) (sym c.in-Some.is) two.in_place,
      record {
        few = omega (arith, c.requires.two.few);
        small = omega (
          arith,
          c.requires.two.small,
          two_sizes x two.raw_line,
          two.in_place.is.passing.0.short,
          two.in_place.is.passing.1.0.short,
        );
      },
    )

pub returns : goal.returns
returns g c =
    let x = c.requires.next.0 in
    let two = two_lines c.in-Some.text c.args.begin c.in-Some-line_from.next c.then.result x
    (subst (λ o. IsStretchAt None o c.args.begin (x ∷ [])) c.in-Some.is c.requires.next.1)
    c.in-Some-line_from.ensures.line c.in-Some-line_from.ensures.one c.then.ensures.end
    c.then.ensures.lines in
    let passes = c.advance_slot.ensures.passes None (x ∷ two.raw_line ∷ [])
    (subst (λ o. IsRunAt None o c.then.result (x ∷ two.raw_line ∷ [])) (sym c.in-Some.is) two.in_place) in
    let begins = ap change_code (sym (text_is c.args.begin x c.args.self.now.change c.requires.next.1))
    ∙ c.requires.begins in
    let same = ap (λ (b : List ℕ). slice_range b c.args.begin.end c.in-Some-line_from.next.text) c.deref.ensures.value
    ∙ two.is in
    let none = ap change_code (sym same) ∙ sym c.change_code.ensures
    ∙ no_code c.change_code.result (sym c.is_some.ensures ∙ c.if-is_some.false) in
    entry_passes c.args.self.now _ _ c.in-Some.text c.then.result x two.raw_line c.in-Some.is two.in_place passes
    c.requires.seeking begins
    (λ empty.
    let test = ap (λ (b : List ℕ). length b == 0) (same ∙ empty) in cc (c.is_empty.ensures, c.if-is_empty.false))
    none (c.in_ok-self.ensures.items ∙ same) (λ opened_as known. record {
      texts = known.texts;
      change = c.advance_slot.ensures.level.named opened_as _ known.change;
    }) refl refl refl refl refl refl
