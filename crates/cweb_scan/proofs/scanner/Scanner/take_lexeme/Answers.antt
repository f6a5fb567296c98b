use Rattle.cweb_scan.proofs.Common.{◌&&◌, List, ℕ, false, take, sym, ap, ◌∙◌, subst, arith, common_steps, Word, Punct, is_c, names_include, ScanState, emit, IsPlainC}
use Rattle.cweb_rules.specs.declared.firsts.Plain.TheVariants as plain
use Rattle.cweb_rules.proofs.FirstBytes.{known-at}
use Rattle.cweb_scan.proofs.PlainFirsts.{lone-sign}
use Rattle.cweb_scan.proofs.Plains.{stays_plain, blanks_turn, word_turn, sign_turn}
use Rattle.cweb_scan.proofs.scanner.Scanner.take_lexeme.Goals as goal

pub returns-in-Blank-clause-taken : goal.returns-in-Blank-clause-taken
returns-in-Blank-clause-taken c = grind (arith, known-at, blanks_turn)

pub returns-in_ok-emit_plain-in-Word-clause-taken : goal.returns-in_ok-emit_plain-in-Word-clause-taken
returns-in_ok-emit_plain-in-Word-clause-taken c = record {
  taken =
      let s = c.args.self.now in
      let u = c.args.rest.bytes.now in
      let known = known-at (is_c s.context && names_include s) u plain.Word c.args.rest.some
      (sym c.in-Word.is ∙ c.first_byte_class.ensures) in
      word_turn c.nonempty_span_len-size.result u s c.emit_plain.new.self c.args.rest.line c.args.rest.some
      c.requires.in_c.in_c
      known.0 c.nonempty_span_len-size.ensures.value
      (c.in_ok-emit_plain-in-Word.ensures.ok ∙ ap (λ (x : List ℕ). emit (Word x) s) c.split_at.ensures.front);
  stays = grind (arith, common_steps);
}

pub returns-in_ok-emit_plain-in-Lone-clause-taken : goal.returns-in_ok-emit_plain-in-Lone-clause-taken
returns-in_ok-emit_plain-in-Lone-clause-taken c = record {
  taken =
      let s = c.args.self.now in
      let u = c.args.rest.bytes.now in
      let known = known-at (is_c s.context && names_include s) u plain.Lone c.args.rest.some
      (sym c.in-Lone.is ∙ c.first_byte_class.ensures) in
      let made = c.self.view_is ∙ c.in_ok-emit_plain-in-Lone.ensures.ok
      ∙ ap (λ (x : List ℕ). emit (Punct x) s) c.split_at-in-Lone.ensures.front in
      sign_turn u s _ c.args.rest.line c.args.rest.some c.requires.in_c known.0 (lone-sign u known.1)
      (ap (λ (v : ScanState). record v { folded = false }) made);
  stays =
      let s = c.args.self.now in
      let u = c.args.rest.bytes.now in
      let known = known-at (is_c s.context && names_include s) u plain.Lone c.args.rest.some
      (sym c.in-Lone.is ∙ c.first_byte_class.ensures) in
      let made = c.self.view_is ∙ c.in_ok-emit_plain-in-Lone.ensures.ok
      ∙ ap (λ (x : List ℕ). emit (Punct x) s) c.split_at-in-Lone.ensures.front in
      let p = subst IsPlainC (sym made) (stays_plain s (Punct (take 1 u)) c.requires.in_c
      (lone-sign u known.1).token) in
      record { in_c = p.in_c; outside = p.outside };
}

pub take_number-requires-clause-first : goal.take_number-requires-clause-first
take_number-requires-clause-first c =
    known-at false c.args.rest.bytes.now plain.Digit c.args.rest.some (sym c.in-Digit.is ∙ c.first_byte_class.ensures)

pub take_whole_literal-requires-clause-first : goal.take_whole_literal-requires-clause-first
take_whole_literal-requires-clause-first c =
    known-at false c.args.rest.bytes.now plain.Quote c.args.rest.some (sym c.in-Quote.is ∙ c.first_byte_class.ensures)

pub take_operator-requires-clause-first : goal.take_operator-requires-clause-first
take_operator-requires-clause-first c =
    (known-at false c.args.rest.bytes.now plain.Operator c.args.rest.some
    (sym c.in-Operator.is ∙ c.first_byte_class.ensures)).0

pub nonempty_span_len-requires : goal.nonempty_span_len-requires
nonempty_span_len-requires c = record {
  first =
      (known-at false c.args.rest.bytes.now plain.Blank c.args.rest.some
      (sym c.in-Blank.is ∙ c.first_byte_class.ensures)).1;
}
