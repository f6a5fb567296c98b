use Rattle.cweb_scan.proofs.Common.{List, ℕ, ap, ◌∙◌, arith, common_steps, Word, emit}
use Rattle.cweb_scan.proofs.Plains.{word_turn}
use Rattle.cweb_scan.proofs.Furthers.{seen_word}
use Rattle.cweb_scan.proofs.scanner.Scanner.take_word.Goals as goal

pub returns : goal.returns
returns c = record {
  taken =
      let s = c.args.self.now in
      let u = c.args.rest.bytes.now in
      word_turn c.span_len-size.result u s c.emit_plain.new.self c.args.rest.line c.args.rest.some
      c.requires.plain.in_c.in_c (seen_word s u c.requires.plain.in_c c.requires.first) c.span_len-size.ensures.value
      (c.in_ok-emit_plain.ensures.ok ∙ ap (λ (x : List ℕ). emit (Word x) s) c.split_at.ensures.front);
  stays = grind (arith, common_steps);
}
