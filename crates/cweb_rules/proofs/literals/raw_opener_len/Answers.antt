use Rattle.cweb_rules.proofs.Common.{◌+◌, List, ℕ, length, drop, ap, ◌∙◌, arith, codes, length-drop, begins, raw_prefix, delimiter, and_parts}
use Rattle.cweb_rules.proofs.LineDelimiters.{sign-fits}
use Rattle.cweb_rules.proofs.TokenSizes.{has_delimiter-size}
use Rattle.cweb_rules.proofs.literals.raw_opener_len.Goals as goal

pub returns : goal.returns
returns c =
    let t = c.args.text.now in
    let m = raw_prefix t + 2 in
    let p = c.raw_prefix-start.ensures.value in
    let name = c.delimiter.ensures ∙ ap delimiter c.split_at.ensures.back ∙ ap (λ k. delimiter (drop (k + 2) t)) p in
    let start = and_parts (begins (codes "R\"") (drop (raw_prefix t) t)) _ c.requires in
    record {
      value = λ i. p i + 2 + length (name i) + 1;
      within = omega (
        arith,
        p,
        ap (λ (v : List ℕ). length v) name,
        sign-fits t start.0,
        has_delimiter-size (drop m t) start.1,
        length-drop m t,
      );
    }
