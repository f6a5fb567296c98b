use Rattle.std.specs.Prelude.{IfOk}
use Rattle.cweb_scan.proofs.Common.{ℕ, List, take, drop, ap, ◌∙◌, subst, raw_match, reach, look_in_raw, quoted_match, at_line_ends, AppliesOver, RuleMatch, Cut, ◌≡◌}
use Rattle.cweb_rules.specs.inner.LineItems.{raw_opener_len, raw_closer_of}
use Rattle.cweb_scan.proofs.scanner.Scanner.take_raw.Goals as goal

same : (t closer : List ℕ) (n : ℕ) → n ≡ raw_opener_len t → closer ≡ raw_closer_of t
    → quoted_match n (reach (look_in_raw closer) Cut (drop n t)) t ≡ raw_match t
same t closer n opener is = λ i. quoted_match (opener i) (reach (look_in_raw (is i)) Cut (drop (opener i) t)) t

pub take_quoted-requires-clause-lines : goal.take_quoted-requires-clause-lines
take_quoted-requires-clause-lines c = ap (λ (f : RuleMatch). at_line_ends 1 (take f.size c.args.text.now))
    (same c.args.text.now c.deref.result.now c.raw_opener_len.result c.raw_opener_len.ensures.value
    (c.deref.ensures.value ∙ c.in_ok-closer.ensures)) ∙ c.requires.lines

pub returns : goal.returns
returns c = subst (λ (f : RuleMatch). IfOk c.take_quoted.result (λ n. AppliesOver f c.args.text.now
    c.args.places.now n c.args.self.now c.take_quoted.new.self))
    (same c.args.text.now c.deref.result.now c.raw_opener_len.result c.raw_opener_len.ensures.value
    (c.deref.ensures.value ∙ c.in_ok-closer.ensures)) c.take_quoted.ensures
