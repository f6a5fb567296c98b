use Rattle.cweb_store.proofs.Common.{◌≡◌, ◌+◌, ◌∙◌, ◌||◌, ◌∷◌, suc, if◌then◌else◌, length, drop, map, get_or, sym, ap, arith, list_any, PartRange, Unnamed, is_c_part, is_use, is_used, closed_in, flag_of}
use Rattle.std.proofs.Common.{drop-cons}
use Rattle.std.proofs.lemmas.List.{with_items_is}
use Rattle.cweb_store.proofs.UseLemmas.{used-here}
use Rattle.cweb_store.proofs.RangeLemmas.{Follow-at}
use Rattle.cweb_store.proofs.parts.closed.ClosedParts.uses.Goals as goal
use Rattle.cweb_store.proofs.parts.closed.ClosedParts.uses.Goals.{then-not-is_macro, else-not-is_macro}

pub flag_uses-requires-clause-ordered : goal.flag_uses-requires-clause-ordered
flag_uses-requires-clause-ordered c = grind (arith, Follow-at)

pub flag_uses-requires-clause-within : goal.flag_uses-requires-clause-within
flag_uses-requires-clause-within c = grind (arith, Follow-at)

pub loop-range-preserved : goal.loop-range-preserved
loop-range-preserved c = record {
  size = grind (arith, then-not-is_macro, with_items_is, else-not-is_macro, c.loop-range.invariant.size);
  same = λ n.
      let rs = c.args.resolutions.now in
      let items = c.deref-range-items.result.now in
      let i = c.loop-range.range-index in
      let r : PartRange = get_or items i (record { kind = Unnamed; part = record { first = 0; after = 0 } }) in
      let shape = closed_in c.self.inside.tokens in
      let here : drop i items ≡ r ∷ drop (suc i) items = drop-cons items i _ (omega (arith, c.loop-range-test.true)) in
      let next : suc i ≡ i + 1 = omega arith in
      let was = flag_of c.loop-range.used.items n in
      let more = list_any (is_use rs n) (shape r).tokens in
      let flag : flag_of c.if-not-is_macro.used.items n ≡ (if is_c_part r.kind then was || more else was) =
      elim c.if-not-is_macro.branch [
        | then-not-is_macro w ↦
            let size = w.flag_uses.ensures.size ∙ ap length w.deref_mut.ensures.value in
            let items = with_items_is c.loop-range.used w.flag_uses.new.used
            (omega (arith, size, c.loop-range.used.ok.0)) in
            grind (
              arith,
              w.used-is,
              items,
              w.flag_uses.ensures.flags n,
              w.deref_mut.ensures.value,
              c.is_macro.ensures,
              w.if-not-is_macro.true,
            )
        | else-not-is_macro w ↦ grind (arith, w.used-is, c.is_macro.ensures, w.if-not-is_macro.false)
      ] in
      used-here rs n (shape r) (map shape (drop (i + 1) items)) was (flag_of c.if-not-is_macro.used.items n) flag
      ∙ ap (λ k. was || is_used rs (shape r ∷ map shape (drop k items)) n) (sym next)
      ∙ ap (λ xs. was || is_used rs (map shape xs) n) (sym here) ∙ c.loop-range.invariant.same n;
}
