use Rattle.cweb_rules.specs.declared.rule.Rule.TheVariants as rule
use Rattle.cweb_scan.proofs.Common.{false, arith, sym, literal_prefix, is_quoted-size}
use Rattle.cweb_scan.proofs.FurtherLiterals.{literal_turn, none_valid}
use Rattle.cweb_scan.proofs.Plains.{stays_plain}
use Rattle.cweb_rules.proofs.FirstRules.{seen}
use Rattle.cweb_scan.proofs.scanner.Scanner.take_whole_literal.Goals as goal

pub split_at-requires-2 : goal.split_at-requires-2
split_at-requires-2 c =
    let u = c.args.rest.bytes.now in
    let seen = seen false u rule.Literal (sym c.requires.first) in
    omega (arith, c.literal_prefix-prefix.ensures.value, is_quoted-size (literal_prefix u) u seen.2)

pub returns-in_ok-emit_plain-in-Some : goal.returns-in_ok-emit_plain-in-Some
returns-in_ok-emit_plain-in-Some c = grind (arith, seen, none_valid, literal_turn, stays_plain)
