use Rattle.cweb_out.proofs.Common.{◌≡◌, ◌∙◌, ℕ, false, refl, sym, ap, edge_is_apart, is_comment, token_model}
use Rattle.cweb_store.specs.declared.tokens.Token.{Token}
use Rattle.cweb_store.specs.declared.tokens.Token.TheVariants.{Head, Tail}
use Rattle.cweb_out.proofs.DirectEdges.{apart-edge}
use Rattle.cweb_out.proofs.printer.edges.is_apart.Goals as goal

no_comment : (t : Token) → ((n : ℕ) → t ≡ Head n → ⊥) → ((n : ℕ) → t ≡ Tail n → ⊥)
    → is_comment (token_model t) ≡ false
no_comment (Head n) h k = absurd (h n refl)
no_comment (Tail n) h k = absurd (k n refl)
no_comment _ h k = refl

pub returns-in_default : goal.returns-in_default
returns-in_default c =
    let t = c.args.token.now in
    c.edge_is_apart.ensures ∙ ap (edge_is_apart c.args.left) c.edge_of.ensures
    ∙ sym (apart-edge c.args.left (token_model t) (no_comment t c.in_default.not-Head c.in_default.not-Tail))
