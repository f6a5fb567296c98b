use Rattle.cweb_scan.proofs.Common.{ℕ, ◌+◌, List, drop, ap, ◌∙◌, literal_prefix, literal_match, quote_of, quoted_as, ◌≡◌, arith}
use Rattle.cweb_rules.specs.declared.items.Item.TheVariants.{Literal}
use Rattle.cweb_scan.proofs.scanner.Scanner.take_literal.Goals as goal

same : (t quoted : List ℕ) (p q : ℕ) → p ≡ literal_prefix t → quoted ≡ drop p t → q ≡ quote_of quoted
    → quoted_as (p + 1) (Literal q) t ≡ literal_match t
same t quoted p q prefix back quote =
    let is = quote ∙ ap quote_of back in
    (λ i. quoted_as (p + 1) (Literal (is i)) t)
    ∙ (λ i. quoted_as (prefix i + 1) (Literal (quote_of (drop (prefix i) t))) t)

pub returns : goal.returns
returns c = grind (arith, same)
