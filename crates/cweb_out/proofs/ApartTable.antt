-- The table of blanks between edges agrees with its definition.
use Rattle.cweb_out.proofs.Common.{◌≡◌, ◌<◌, ◌+◌, ◌*◌, ◌/◌, ◌%◌, ℕ, Bool, true, false, List, [], ◌∷◌, ◌++◌, replicate, slice_index_or, refl, ◌∙◌, arith, tag_of, the_type, Edge, edge_is_apart}
use Rattle.cweb_files.proofs.ByteTables.{known_by_table}
use Rattle.cweb_store.specs.declared.edges.Edge.TheVariants as edge_kind

-- All rows, as spans of equal entries.
abbrev pub apart_bits : List Bool
apart_bits = replicate 3 true ++ replicate 13 false ++ replicate 3 true ++ replicate 7 false ++ replicate 3 true
    ++ replicate 3 false ++ replicate 2 true ++ replicate 53 false ++ replicate 6 true ++ replicate 4 false
    ++ replicate 1 true ++ replicate 5 false ++ replicate 6 true ++ replicate 26 false ++ replicate 6 true
    ++ replicate 4 false ++ replicate 1 true ++ replicate 5 false ++ replicate 6 true ++ replicate 26 false ++ replicate
    6 true ++ replicate 4 false ++ replicate 1 true ++ replicate 5 false ++ replicate 6 true ++ replicate 51 false

-- Edges by number.
abbrev pub edge_at : ℕ → Edge
edge_at n = slice_index_or (
    edge_kind.Word ∷ edge_kind.Number ∷ edge_kind.Literal ∷ edge_kind.Glue ∷ edge_kind.PlainPlain
    ∷ edge_kind.PlainOperator ∷ edge_kind.PlainPoint ∷ edge_kind.OperatorPlain ∷ edge_kind.OperatorOperator
    ∷ edge_kind.OperatorPoint ∷ edge_kind.NumericPlain ∷ edge_kind.NumericOperator ∷ edge_kind.NumericPoint
    ∷ edge_kind.Blank ∷ edge_kind.LineEnd ∷ []) n edge_kind.Unknown

at_number : (b : Edge) → edge_at (tag_of the_type b) ≡ b
at_number edge_kind.Word = refl
at_number _ = refl

abbrev pub test : ℕ → Bool
test n = edge_is_apart (edge_at (n / 16)) (edge_at (n % 16))

small : (b : Edge) → tag_of the_type b < 16
small edge_kind.Word = omega arith
small _ = omega arith

pub apart_known : (l r : Edge) → slice_index_or apart_bits (16 * tag_of the_type l + tag_of the_type r) false
    ≡ edge_is_apart l r
apart_known l r =
    let a = tag_of the_type l in
    let b = tag_of the_type r in
    let row : (16 * a + b) / 16 ≡ a = omega (arith, small r) in
    let place : (16 * a + b) % 16 ≡ b = omega (arith, small r) in
    known_by_table test apart_bits refl (16 * a + b) (omega (arith, small l, small r))
    ∙ (λ i. edge_is_apart (edge_at (row i)) (edge_at (place i)))
    ∙ (λ i. edge_is_apart (at_number l i) (at_number r i))
