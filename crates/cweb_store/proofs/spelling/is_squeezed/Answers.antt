use Rattle.cweb_store.proofs.Common.{◌≡◌, ◌<◌, ◌∷◌, ◌∙◌, false, true, sym, ap, arith}
use Rattle.std.proofs.Common.{◌==◌}
use Rattle.cweb_store.specs.inner.Squeezing.{is_squeezed_after}
use Rattle.cweb_store.proofs.Squeezing.{nothing_left, no_word, not_a_space, word_ends}
use Rattle.cweb_store.proofs.spelling.is_squeezed.Goals as goal
use Rattle.cweb_store.proofs.spelling.is_squeezed.Goals.{In_default, In-Some}

pub returns-then-word-eq0 : goal.returns-then-word-eq0
returns-then-word-eq0 c = sym (no_word c.words.rest.now (sym c.word_len-word.ensures.value ∙ c.if-word-eq0.true))
    ∙ c.words.invariant

pub returns-in_default : goal.returns-in_default
returns-in_default c =
    let some : 0 < c.word_len-word.result = omega (arith, c.if-word-eq0.false) in
    sym (nothing_left c.split_at.result.1.now c.in_default.ensures.cases)
    ∙ sym (word_ends c.words.rest.now c.split_at.result.1.now c.word_len-word.result c.word_len-word.ensures.value some
    c.split_at.ensures.back) ∙ c.words.invariant

after : (c : In-Some) → is_squeezed_after false (c.in-Some.next.now ∷ c.in-Some.after.now)
    ≡ is_squeezed_after true c.words.rest.now
after c =
    let some : 0 < c.word_len-word.result = omega (arith, c.if-word-eq0.false) in
    ap (λ t. is_squeezed_after false t) (sym c.in-Some.ensures.cases.0)
    ∙ sym (word_ends c.words.rest.now c.split_at.result.1.now c.word_len-word.result c.word_len-word.ensures.value some
    c.split_at.ensures.back)

pub words-preserved : goal.words-preserved
words-preserved c =
    ap (λ b. is_squeezed_after false (b ∷ c.in-Some.after.now)) (sym c.if-next-ne32.false)
    ∙ after (goal.at.words-preserved c).In-Some ∙ c.words.invariant

pub returns-then-next-ne32 : goal.returns-then-next-ne32
returns-then-next-ne32 c =
    let other : (c.in-Some.next.now == 32) ≡ false = grind (arith, c.if-next-ne32.true) in
    sym (not_a_space c.words.rest.now c.word_len-word.result c.in-Some.next.now c.in-Some.after.now
    c.word_len-word.ensures.value (sym c.split_at.ensures.back ∙ c.in-Some.ensures.cases.0) other)
    ∙ after (goal.at.returns-then-next-ne32 c).In-Some ∙ c.words.invariant
