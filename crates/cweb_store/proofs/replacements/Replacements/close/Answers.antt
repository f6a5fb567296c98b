use Rattle.cweb_store.proofs.Common.{◌≡◌, map, ◌∙◌, ap, subst, take_all, length-map, arith, replacement_in, Replacement, replacement_bytes, AreLast}
use Rattle.cweb_store.proofs.StoredStringLemmas.{map-both, replacements-back}
use Rattle.cweb_store.specs.declared.replacements.Replaced.{Replaced}
use Rattle.cweb_store.proofs.replacements.Replacements.close.Goals as goal

pub invariant_of-result : goal.invariant_of-result
invariant_of-result c =
    record {
      count = grind (arith, c.loop-replaced.invariant.all, c.loop-replaced.invariant.strings, length-map);
      last = subst (AreLast c.in_ok-last_places.last_places.items) c.as_slice-2.ensures.value c.in_ok-last_places.ensures;
    }

pub returns : goal.returns
returns c =
    let s = c.self.inside in
    let items : c.deref-replaced-items.result.now ≡ s.entries.items = c.deref-replaced-items.ensures.value in
    let all = take_all c.loop-replaced.replaced-index c.deref-replaced-items.result.now c.loop-replaced-test.false in
    let bytes : c.loop-replaced.bytes.items ≡ map (λ (r : Replacement). r.byte) c.args.self =
    c.loop-replaced.invariant.all ∙ ap (map (λ (r : Replaced). r.byte)) (all ∙ items)
    ∙ map-both (λ (r : Replacement). r.byte) replacement_in s.entries.items
    ∙ ap (map (λ (r : Replacement). r.byte)) c.self.view_is in
    let strings : c.loop-replaced.strings ≡ map replacement_bytes c.args.self =
    c.loop-replaced.invariant.strings ∙ ap (map (λ (x : Replaced). replacement_bytes (replacement_in x))) (all ∙ items)
    ∙ map-both replacement_bytes replacement_in s.entries.items ∙ ap (map replacement_bytes) c.self.view_is in
    rw (strings, bytes) (replacements-back c.args.self)
