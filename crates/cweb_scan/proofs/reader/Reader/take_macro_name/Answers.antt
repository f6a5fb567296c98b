use Rattle.cweb_scan.proofs.Common.{◌≡◌, take, drop, refl, ap, sym, ◌∙◌, codes, prefix_len, begins, is_word_byte, Defined, rule_match, define}
use Rattle.cweb_rules.specs.declared.rule.Rule.TheVariants as rule
use Rattle.cweb_scan.proofs.HeadStays.{head_passes}
use Rattle.cweb_scan.proofs.reader.Reader.take_macro_name.Goals as goal

pub returns : goal.returns
returns c =
    let u = c.args.rest.bytes.now in
    let m = prefix_len is_word_byte u in
    let size : c.span_len-size.result ≡ m = c.span_len-size.ensures.value in
    let name = c.split_at.ensures.front ∙ ap (λ k. take k u) size in
    let tight = c.begins.ensures.value ∙ ap (begins (codes "(")) (c.split_at.ensures.back ∙ ap (λ k. drop k u) size) in
    head_passes c.span_len-size.result u c.args.self.now _ _ c.args.begun rule.Identifier
    (rule_match (Defined (begins (codes "(") (drop m u))) m) c.self.view_is
    c.requires.next.between c.requires.next.context c.args.rest.line c.args.rest.some (sym c.requires.first) refl
    refl refl refl
    (record { size = size; state = c.in_ok-define.ensures ∙ (λ i. define (name i) (tight i) c.self.inside.scanner) })
