use Rattle.cweb_store.proofs.Common.{◌≡◌, ◌<◌, ◌≤◌, ◌++◌, ◌∷◌, [], ℕ, List, drop, length, subst, sym, ◌∙◌, ap, arith, length-append, AreStoredEdges, AreEnds, strings_from}
use Rattle.cweb_store.proofs.EdgeLemmas.{known-count, known-push}
use Rattle.cweb_store.proofs.StringListLemmas.{ends-push, offsets-push, start-push, strings-push}
use Rattle.cweb_store.proofs.strings.StringList.add_with_edge.Goals as goal

pub invariant_of-self-2 : goal.invariant_of-self-2
invariant_of-self-2 c =
    let s = c.self.inside in
    let bytes = s.bytes.items in
    let string = c.args.string.now in
    let offsets = c.begin.new.offsets.items in
    let ends = drop 1 s.offsets.items in
    let edges = s.edges.items in
    let size : c.in_ok-end.end ≡ length (bytes ++ string) =
    omega (arith, c.in_ok-end.ensures, c.len.ensures, s.bytes.ok.0, length-append bytes string) in
    let longer : length bytes ≤ length (bytes ++ string) = omega (arith, length-append bytes string) in
    let some : 0 < length offsets = c.in_ok-begin.ensures.begun in
    let all : drop 1 (offsets ++ length (bytes ++ string) ∷ []) ≡ ends ++ length (bytes ++ string) ∷ [] =
    offsets-push offsets (length (bytes ++ string)) some
    ∙ ap (λ (es : List ℕ). es ++ length (bytes ++ string) ∷ []) c.in_ok-begin.ensures.ends in
    rw (
      c.push_reserved.ensures.items,
      c.in_ok-reserve.ensures.items,
      c.push_reserved-2.ensures.items,
      c.in_ok-reserve-2.ensures.items,
      size,
      c.in_ok-extend_from_slice.ensures.items,
    )
    (record {
      start = start-push offsets (length (bytes ++ string)) some c.in_ok-begin.ensures.start;
      ends_at = subst (λ (es : List ℕ). AreEnds 0 es (length (bytes ++ string))) (sym all)
          (ends-push 0 (length bytes) (length (bytes ++ string)) ends c.self.invariant.ends_at longer);
      stored_edges = subst (λ (es : List ℕ). AreStoredEdges (strings_from (bytes ++ string) 0 es)
          (edges ++ c.args.edge ∷ []))
          (sym all) (subst (λ (ts : List (List ℕ)). AreStoredEdges ts (edges ++ c.args.edge ∷ []))
          (sym (strings-push bytes string 0 ends c.self.invariant.ends_at))
          (known-push (strings_from bytes 0 ends) edges string c.args.edge c.self.invariant.stored_edges c.requires));
    })

pub returns : goal.returns
returns c =
    let s = c.self.inside in
    let bytes = s.bytes.items in
    let string = c.args.string.now in
    let size : c.in_ok-end.end ≡ length (bytes ++ string) =
    omega (arith, c.in_ok-end.ensures, c.len.ensures, s.bytes.ok.0, length-append bytes string) in
    let added = strings-push bytes string 0 (drop 1 s.offsets.items) c.self.invariant.ends_at in
    record {
      number = c.len-number.ensures ∙ c.in_ok-reserve-2.ensures.len ∙ s.edges.ok.0
          ∙ known-count (strings_from s.bytes.items 0 (drop 1 s.offsets.items)) s.edges.items
          c.self.invariant.stored_edges ∙ ap length c.self.view_is;
      added = rw (
        c.push_reserved.ensures.items,
        c.in_ok-reserve.ensures.items,
        size,
        c.in_ok-extend_from_slice.ensures.items,
        offsets-push c.begin.new.offsets.items (length (bytes ++ string)) c.in_ok-begin.ensures.begun,
        c.in_ok-begin.ensures.ends,
        ← c.self.view_is,
      ) added;
    }
