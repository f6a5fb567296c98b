use Rattle.cweb_store.proofs.Common.{◌≡◌, ◌<◌, ◌+◌, ℕ, List, drop, length, suc, take, sym, subst, ◌∙◌, ap, arith, AreStoredEdges, AreEnds, IsFromStart, string_start, strings_from}
use Rattle.cweb_store.proofs.EdgeLemmas.{known-take}
use Rattle.cweb_store.proofs.TruncationLemmas.{strings-cut, ends-are-cut}
use Rattle.cweb_store.proofs.StringListLemmas.{place_is, offsets-begin, offsets-take, start-take, strings-count}
use Rattle.cweb_store.proofs.strings.StringList.truncate.Goals as goal

pub index-requires : goal.index-requires
index-requires c =
    let s = c.self.inside in
    let place = place_is s.bytes.items s.offsets.items s.edges.items c.args.count c.self.invariant
    (rw c.self.view_is c.requires) in
    omega (arith, place.next, s.offsets.ok.0)

pub invariant_of-self : goal.invariant_of-self
invariant_of-self c =
    let s = c.self.inside in
    let ends = drop 1 s.offsets.items in
    let within : c.args.count < length ends =
    omega (arith, c.requires, ap length c.self.view_is, strings-count s.bytes.items 0 ends) in
    let begin : c.index.result.now ≡ string_start 0 ends c.args.count =
    c.index.ensures ∙ offsets-begin s.offsets.items c.args.count _ c.self.invariant.start within in
    let bytes = take (string_start 0 ends c.args.count) s.bytes.items in
    let edges = take c.args.count s.edges.items in
    let next : suc c.args.count ≡ c.args.count + 1 = omega arith in
    let cut : take c.args.count ends ≡ drop 1 (take (c.args.count + 1) s.offsets.items) =
    sym (offsets-take c.args.count s.offsets.items) ∙ ap (λ n. drop 1 (take n s.offsets.items)) next in
    rw (c.truncate.ensures.items, c.truncate-2.ensures.items, c.truncate-3.ensures.items, begin)
    (record {
      start = subst (λ n. IsFromStart (take n s.offsets.items)) next
          (start-take c.args.count s.offsets.items c.self.invariant.start);
      ends_at = subst (λ (es : List ℕ). AreEnds 0 es (length bytes)) cut
          (ends-are-cut s.bytes.items ends c.args.count c.self.invariant.ends_at);
      stored_edges = subst (λ (es : List ℕ). AreStoredEdges (strings_from bytes 0 es) edges) cut
          (subst (λ (ts : List (List ℕ)).
          AreStoredEdges ts edges) (sym (strings-cut s.bytes.items ends c.args.count c.self.invariant.ends_at))
          (known-take c.args.count (strings_from s.bytes.items 0 ends) s.edges.items c.self.invariant.stored_edges));
    })

pub returns : goal.returns
returns c =
    let s = c.self.inside in
    let ends = drop 1 s.offsets.items in
    let within : c.args.count < length ends =
    omega (arith, c.requires, ap length c.self.view_is, strings-count s.bytes.items 0 ends) in
    let begin : c.index.result.now ≡ string_start 0 ends c.args.count =
    c.index.ensures ∙ offsets-begin s.offsets.items c.args.count _ c.self.invariant.start within in
    let next : suc c.args.count ≡ c.args.count + 1 = omega arith in
    let cut : drop 1 (take (c.args.count + 1) s.offsets.items) ≡ take c.args.count ends =
    ap (λ n. drop 1 (take n s.offsets.items)) (sym next) ∙ offsets-take c.args.count s.offsets.items in
    rw (c.truncate.ensures.items, c.truncate-2.ensures.items, begin, cut, ← c.self.view_is)
    (strings-cut s.bytes.items ends c.args.count c.self.invariant.ends_at)
