use Rattle.cweb_store.proofs.Common.{◌≡◌, ◌+◌, ◌-◌, ◌*◌, length, sym, ◌∙◌, ap, w32, w64, from_le_bytes, Key, short_key, middle_key, long_key, hashed_key}
use Rattle.cweb_store.proofs.KeyLemmas.{key-short, key-middle, key-long, key-hashed, tail}
use Rattle.cweb_store.proofs.words.key.Key.of.Goals as goal

pub returns-then-len-lt4 : goal.returns-then-len-lt4
returns-then-len-lt4 c =
    let made : Key = record {
      first = c.byte_at.result + 256 * c.byte_at-then-len-lt4.result;
      last = c.byte_at-then-len-lt4-2.result;
    } in
    let is : made ≡ short_key c.args.word.now = λ i. record {
      first = c.byte_at.ensures i + 256 * c.byte_at-then-len-lt4.ensures i;
      last = c.byte_at-then-len-lt4-2.ensures i;
    } in
    is ∙ sym (key-short c.args.word.now c.if-len-lt4.true)

pub returns-then-len-lt8 : goal.returns-then-len-lt8
returns-then-len-lt8 c =
    let word = c.args.word.now in
    let made : Key = record { first = c.four.result; last = c.four-then-len-lt8.result } in
    let is : made ≡ middle_key c.args.word.now = λ i. record {
      first = c.four.ensures i;
      last = (c.four-then-len-lt8.ensures ∙ ap (from_le_bytes w32) (tail word (length word - 4))) i;
    } in
    is ∙ sym (key-middle c.args.word.now c.if-len-lt4.false c.if-len-lt8.true)

pub returns-then-len-gt-KEY_BYTES : goal.returns-then-len-gt-KEY_BYTES
returns-then-len-gt-KEY_BYTES c =
    let word = c.args.word.now in
    let made : Key = record { first = c.hash.result; last = c.eight.result } in
    let is : made ≡ hashed_key c.args.word.now = λ i. record {
      first = c.hash.ensures i;
      last = (c.eight.ensures ∙ ap (from_le_bytes w64) (tail word (length word - 8))) i;
    } in
    is ∙ sym (key-hashed c.args.word.now c.if-len-gt-KEY_BYTES.true)

pub returns : goal.returns
returns c =
    let word = c.args.word.now in
    let made : Key = record { first = c.eight-2.result; last = c.eight-3.result } in
    let is : made ≡ long_key c.args.word.now = λ i. record {
      first = c.eight-2.ensures i;
      last = (c.eight-3.ensures ∙ ap (from_le_bytes w64) (tail word (length word - 8))) i;
    } in
    is ∙ sym (key-long c.args.word.now c.if-len-lt8.false c.if-len-gt-KEY_BYTES.false)
