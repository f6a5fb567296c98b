-- A line outside C text without `@` only changes the place.
use Rattle.cweb_scan.proofs.Common.{◌≡◌, ℕ, true, false, List, [], ◌∷◌, ◌++◌, length, refl, ap, sym, ◌∙◌, subst, arith, prefix_len, drop-length, Place, Line, IsLine, Context, Macro, CText, line_end, line_end_in, is_skipped, reads_c, ReaderModel, read_on, gone_to, read_after, TakesBytes, TakesLineEnd, Between, ScanState, move_to}
use Rattle.cweb_scan.proofs.FirstMatchTaken.{between}
use Rattle.cweb_scan.proofs.CodeSteps.{skipped_at}
use Rattle.cweb_scan.proofs.LineBegins.{line_ends}
use Rattle.cweb_scan.proofs.Taken.{next_taken}

text_ends : (c : Context) (q : Place) (s : ScanState) → reads_c c ≡ false → line_end_in c q s ≡ move_to q s
text_ends Macro q s text = absurd (cc text)
text_ends CText q s text = absurd (cc text)
text_ends _ q s text = refl

text_bytes : (line : List ℕ) (h : ReaderModel) → prefix_len is_skipped line ≡ length line → h.item ≡ Between
    → reads_c h.state.context ≡ false → IsLine line → TakesBytes line h h
text_bytes [] h plain between text clean = record { begun = refl; same = λ later more at. refl }
text_bytes (b ∷ t) h plain between text clean = record {
  begun = refl;
  same = λ later more at. ap (λ (u : List ℕ). read_on h later (u ++ more)) (sym (drop-length (b ∷ t)))
      ∙ (skipped_at (length (b ∷ t)) (b ∷ t) h (sym plain) (omega arith) between text clean).taken.same later more at;
}

pub text_passed : (h new : ReaderModel) (line : Line) (lines : List Line) → h.begun ≡ true → h.item ≡ Between
    → reads_c h.state.context ≡ false → prefix_len is_skipped line.bytes ≡ length line.bytes → IsLine line.bytes
    → new ≡ gone_to line.place h → read_after new lines ≡ read_after h (line ∷ lines)
text_passed h new line lines begun rest text plain clean is =
    next_taken h new new line 0 lines begun ended (text_bytes line.bytes new plain
    (ap (λ (x : ReaderModel). x.item) is ∙ rest) (ap (λ (x : ReaderModel). reads_c x.state.context) is ∙ text) clean)
  where
    now : new ≡ between (line_end line.place h.state) h.begun
    now = is ∙ (λ i. record {
      state = sym (text_ends h.state.context line.place h.state text) i;
      item = rest i;
      begun = h.begun;
    })

    ended : TakesLineEnd line.place line.bytes 0 h new
    ended = subst (λ (x : ReaderModel). TakesLineEnd line.place line.bytes 0 x new)
        (λ i. record { state = h.state; item = sym rest i; begun = h.begun })
        (subst (λ (x : ReaderModel). TakesLineEnd line.place line.bytes 0 (between h.state h.begun) x) (sym now)
        (line_ends line.place line.bytes h.state h.begun begun))
