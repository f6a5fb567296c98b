-- Prefixes of the remaining tokens that were printed in order.
use Rattle.cweb_out.proofs.Common.{◌≡◌, ◌++◌, ◌∙◌, sym, ap, subst, append_assoc, ℕ, List, ◌&&◌, list_all, Stored, Token, Setting, print, AreDirect, is_direct, setting_of, PrintsPrefix, arith}
use Rattle.std.proofs.lemmas.List.Folds.{list_all-append}
use Rattle.cweb_out.specs.surface.Printed.{left_after_tokens}
use Rattle.cweb_out.specs.declared.printer.Printer.{Printer}
use Rattle.cweb_out.specs.inner.BufferedPrinting.{AddsBytes}
use Rattle.cweb_out.specs.inner.FrameStacks.{PrintsFrame}
use Rattle.cweb_out.specs.declared.frame.Frame.{Frame}

are_borrowed-append : (xs ys : List Token) → AreDirect xs → AreDirect ys → AreDirect (xs ++ ys)
are_borrowed-append xs ys h k = list_all-append is_direct xs ys ∙ ap (λ b. b && list_all is_direct ys) h ∙ k

pub prefix_more : {p q r : Printer} {a b c : List Token} {old mid new : List ℕ} → setting_of q ≡ setting_of p
    → PrintsPrefix p q a b old mid → PrintsPrefix q r b c mid new → PrintsPrefix p r a c old new
prefix_more {p} {c} {old} {mid} {new} same f g =
    let s = setting_of p in
    record {
      done = f.done ++ g.done;
      whole = grind (arith, append_assoc);
      direct = are_borrowed-append f.done g.done f.direct g.direct;
      moves = λ done is.
          ap left_after_tokens (sym (append_assoc done f.done g.done)) ∙ g.moves (done ++ f.done) (f.moves done is);
      prints = λ done is.
          let one = f.prints done is in
          let two = subst (λ (t : Setting). AddsBytes (print t (done ++ f.done))
          (print t ((done ++ f.done) ++ g.done)) mid new) same (g.prints (done ++ f.done) (f.moves done is)) in
          record {
            bytes = one.bytes ++ two.bytes;
            expected = grind (arith, append_assoc);
            written = grind (arith, append_assoc);
          };
    }

-- Rewrites the remaining tokens along an equation.
pub prefix_to : {p q : Printer} {a b c : List Token} {old new : List ℕ} → b ≡ c
    → PrintsPrefix p q a b old new → PrintsPrefix p q a c old new
prefix_to {p} {q} {a} {old} {new} same f = rw (← same) f

-- The remaining tokens before and after, with tokens before the rest.
pub prefix_of : {p q : Printer} (a b : List Token) {c d : List Token} {old new : List ℕ}
    (f : PrintsPrefix p q a b old new) → c ≡ f.done ++ d → PrintsPrefix p q c d old new
prefix_of a b f whole = record { done = f.done; whole = whole; direct = f.direct; moves = f.moves; prints = f.prints }

pub frame_more : {w : Stored} {a b c : Frame} {p q r : Printer} {x y z : List ℕ} → PrintsFrame w a b p q x y
    → PrintsFrame w b c q r y z → PrintsFrame w a c p r x z
frame_more first then = grind (arith, prefix_more)
