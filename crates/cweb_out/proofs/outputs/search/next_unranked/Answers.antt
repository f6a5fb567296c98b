use Rattle.cweb_out.proofs.Common.{rules, ◌≡◌, ◌∙◌, ap, sym, arith, true, false, ◌&&◌, refl, option_to_list, list_all, Name, suffix, is_marked}
use Rattle.cweb_out.proofs.FirstUses.{none-used, use-shorter}
use Rattle.cweb_out.proofs.ScannedUses.{passes-on, passes-more, passes-all, meets}
use Rattle.cweb_out.proofs.outputs.search.next_unranked.Goals as goal

pub returns-then-not-is_ranked-clause-meets : goal.returns-then-not-is_ranked-clause-meets
returns-then-not-is_ranked-clause-meets c =
    let marks = c.args.marks.now in
    let t = Name c.in-Some.used in
    let at = passes-on c.uses.invariant.passes c.in-Some.ensures.some in
    let unranked : is_marked marks c.in-Some-standing.name ≡ false = search rules in
    meets t at refl (ap option_to_list c.in-Some-standing.ensures.name) unranked c.in-Some-standing.ensures.within

pub uses-preserved-else-not-is_ranked : goal.uses-preserved-else-not-is_ranked
uses-preserved-else-not-is_ranked c =
    let w = c.args.store.now in
    let marks = c.args.marks.now in
    let new = suffix w c.take_use.new.self in
    let t = Name c.in-Some.used in
    let at = passes-on c.uses.invariant.passes c.in-Some.ensures.some in
    let ranked : is_marked marks c.in-Some-standing.name ≡ true = search rules in
    let used = ap option_to_list c.in-Some-standing.ensures.name in
    record {
      within = c.take_use.ensures.keeps.within;
      shorter = omega (arith, use-shorter new t c.in-Some.ensures.some, c.uses.invariant.shorter);
      passes = passes-more t at refl
          (ap (list_all (is_marked marks)) (sym used) ∙ ap (λ b. b && true) ranked);
    }

pub uses-preserved : goal.uses-preserved
uses-preserved c =
    let w = c.args.store.now in
    let marks = c.args.marks.now in
    let new = suffix w c.take_use.new.self in
    let t = Name c.in-Some.used in
    let at = passes-on c.uses.invariant.passes c.in-Some.ensures.some in
    let used = ap option_to_list c.in_default-standing.ensures.name in
    record {
      within = c.take_use.ensures.keeps.within;
      shorter = omega (arith, use-shorter new t c.in-Some.ensures.some, c.uses.invariant.shorter);
      passes = passes-more t at refl (ap (list_all (is_marked marks)) (sym used));
    }

pub returns-clause-none : goal.returns-clause-none
returns-clause-none c = λ none.
    let w = c.args.store.now in
    let mid = suffix w c.uses.text in
    passes-all c.uses.invariant.passes (none-used w mid (c.in_default.ensures.none refl))
