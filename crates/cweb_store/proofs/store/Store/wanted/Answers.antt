use Rattle.cweb_store.proofs.Common.{◌≡◌, ◌≤◌, List, sym, subst, ◌∙◌, ap, arith, All, all_tokens, tokens_at, length-map, length-filter, count_by-le-length, ranges_from, is_wanted, wanted_in}
use Rattle.cweb_store.specs.Names as spec
use Rattle.cweb_store.specs.declared.parts.Part.{Part}
use Rattle.cweb_store.proofs.PartLemmas.{part-ranges, tokens_at-numbers, numbers-within, numbers-ordered}
use Rattle.cweb_store.proofs.store.Store.wanted.Goals as goal

-- The parts that the iterator visits, from the resolutions of the store.
met : (c : goal.After-new) → c.new.result
    ≡ wanted_in c.self.inside.answers.resolutions.items c.args.wanted (ranges_from 0 c.self.inside.parts)
met c = grind arith

pub returns-clause-ranges : goal.returns-clause-ranges
returns-clause-ranges c =
    let ps = c.args.self.now.parts in
    let test = is_wanted (spec.resolutions c.args.self.now.occurrences) c.args.wanted in
    let resolutions = c.self.invariant.answers.settled ∙ ap (λ v. spec.resolutions v.occurrences) c.self.view_is in
    let numbers = met c ∙ (λ i. wanted_in (resolutions i) c.args.wanted (ranges_from 0 (c.self.view_is i).parts))
    ∙ part-ranges test 0 ps in
    record {
      numbers = numbers;
      text = ap (tokens_at (all_tokens ps)) numbers ∙ tokens_at-numbers test ps;
      ordered = subst (λ (xs : List Part). All (λ p. p.first ≤ p.after) xs) (sym numbers) (numbers-ordered test ps);
      within = grind (arith, numbers-within);
    }

pub returns-clause-few : goal.returns-clause-few
returns-clause-few c = grind (arith, met, length-map, length-filter, count_by-le-length)
