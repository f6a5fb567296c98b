-- Printing of consecutive direct tokens.
use Rattle.cweb_out.proofs.Common.{arith, ◌≡◌, ◌++◌, ◌∙◌, [], ◌∷◌, sym, subst, ap, append_assoc, append-nil, ℕ, List, true, ◌&&◌, is_some, list_all, Token, TokenBytesModel, direct_bytes, Left, Printer, left_after_tokens, left_after_token, AreDirect, blank_where, is_direct, left_in_printer, setting_of, MovesBy, PrintsBy, second_so, Some, Edge, edge_is_apart, left_after_edge}
use Rattle.cweb_out.proofs.DirectPrinting.{leaves-direct, print-direct}
use Rattle.cweb_out.proofs.Steps.{leaves-push}

direct-push : (ts : List Token) (t : Token) → AreDirect ts → is_direct t ≡ true → AreDirect (ts ++ t ∷ [])
direct-push [] t h e = ap (λ b. b && true) e
direct-push (x ∷ xs) t h e = grind (arith, direct-push xs t (second_so (is_direct x) (list_all is_direct xs) h) e)

-- Tokens were printed in order, and this is the state after them.
pub record Passed (p : Printer) (ts : List Token) (left : Left) (old new : List ℕ) : Type 0 where
  pub direct : AreDirect ts
  pub moves : MovesBy (left_in_printer p) ts left
  pub prints : PrintsBy p ts old new

pub passed_none : (p : Printer) (old : List ℕ) → Passed p [] (left_in_printer p) old old
passed_none p old = grind (arith, append-nil)

-- One more direct token was appended.
pub passed_more : (p : Printer) (ts : List Token) (last : Edge) (t : Token) (l : TokenBytesModel) (old mid new : List ℕ)
    → Passed p ts (left_after_edge last) old mid → direct_bytes t ≡ Some l
    → new ≡ mid ++ (blank_where (edge_is_apart last l.edge) ++ l.string)
    → Passed p (ts ++ t ∷ []) (left_after_edge l.edge) old new
passed_more p ts last t l old mid new passed h appended =
    let s = setting_of p in
    let more : List ℕ = blank_where (edge_is_apart last l.edge) ++ l.string in
    record {
      direct = direct-push ts t passed.direct (ap is_some h);
      moves = λ done is. ap left_after_tokens (sym (append_assoc done ts (t ∷ []))) ∙ leaves-push (done ++ ts) t
          ∙ ap (λ (left : Left). left_after_token left t) (passed.moves done is)
          ∙ leaves-direct last t l h;
      prints = grind (arith, append_assoc, print-direct);
    }

-- Rewrites the new bytes along an equation.
pub passed_same : (p : Printer) (ts : List Token) (left : Left) (old new new' : List ℕ) → new' ≡ new
    → Passed p ts left old new → Passed p ts left old new'
passed_same p ts left old new new' same passed = subst (λ (u : List ℕ). Passed p ts left old u) (sym same) passed
