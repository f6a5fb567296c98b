use Rattle.cweb_store.proofs.Common.{map, ◌≡◌, ◌<◌, length, length-map, ap, ◌∙◌, Some, sym, subst, arith, NamesSoFar, Name, name_at, names_at, option_map, slice_get, spellings, Distinct, is_several, occurrence_text}
use Rattle.cweb_store.specs.inner.StringLists.{string_at}
use Rattle.cweb_store.proofs.KnownLemmas.{text-at}
use Rattle.cweb_store.proofs.LongerLemmas.{prefix-several}
use Rattle.cweb_store.proofs.known.KnownNames.is_prefix.Goals as goal

pub returns : goal.returns
returns c =
    let s = c.self.inside in
    let ns = c.args.self.now.names in
    let first = c.index.result.now in
    let text = string_at c.args.self.now.strings first in
    let named : names_at (map occurrence_text s.occurrences.now) s.firsts.items ≡ ns = ap (λ (m : NamesSoFar). m.names) c.self.view_is in
    let within : c.args.id.0 < length s.firsts.items =
    omega (arith, c.requires, ap length named, length-map s.firsts.items (name_at (map occurrence_text s.occurrences.now))) in
    let is : option_map (λ (n : Name). n.text) (slice_get ns c.args.id.0) ≡ Some text =
    (λ i. option_map (λ (n : Name). n.text) (slice_get (sym named i) c.args.id.0))
    ∙ text-at (map occurrence_text s.occurrences.now) s.firsts.items c.args.id.0 first within c.index.ensures
    ∙ ap (λ (m : NamesSoFar). Some (string_at m.strings first)) c.self.view_is in
    let distinct = subst (λ (m : NamesSoFar). Distinct (spellings m.names)) c.self.view_is
    c.self.invariant.sorted.distinct in
    prefix-several ns c.args.id.0 text distinct c.requires is
    ∙ ap Some (sym (c.is_several.ensures ∙ ap is_several c.find.ensures))
