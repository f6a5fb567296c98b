-- The bytes of tokens whose edge is stored.
use Rattle.cweb_store.proofs.Common.{arith, ◌≡◌, ℕ, true, List, Some, refl, list_any, Word, Punct, direct_bytes}
use Rattle.cweb_store.specs.declared.edges.Edge.{Edge}
use Rattle.cweb_store.specs.inner.StringLists.{IsStoredEdge, is_high, is_known_edge}
use Rattle.cweb_store.specs.declared.edges.Edge.TheVariants as edge_kind
use Rattle.cweb_store.proofs.EdgeLemmas.{known-ascii}

-- A Word with a stored edge, and a punctuator.
pub word-borrows : (t : List ℕ) (b : Edge) → IsStoredEdge t b → is_known_edge b ≡ true
    → Some (record { string = t; edge = edge_kind.Word }) ≡ direct_bytes (Word t)
word-borrows t b is_known some = cc (known-ascii t b (list_any is_high t) refl is_known some)

pub sign-borrows : (t : List ℕ) (b : Edge) → IsStoredEdge t b → is_known_edge b ≡ true
    → Some (record { string = t; edge = b }) ≡ direct_bytes (Punct t)
sign-borrows t b is_known some = grind (arith, known-ascii)
