use Rattle.cweb_store.proofs.Common.{ap, arith, token_count, BuilderModel}
use Rattle.cweb_store.proofs.PartRangeLemmas.{tokens-whole}
use Rattle.cweb_store.proofs.builder.Builder.has_room.Goals as goal

pub returns-then-part_count-lt-FULL-clause-tokens : goal.returns-then-part_count-lt-FULL-clause-tokens
returns-then-part_count-lt-FULL-clause-tokens c =
    let s = c.self.inside in
    grind (
      arith,
      ap token_count (ap (λ (v : BuilderModel). v.contents.parts) c.self.view_is),
      tokens-whole s.tokens.tokens s.ranges.items s.current _ c.self.invariant,
    )

pub returns-then-part_count-lt-FULL-clause-room : goal.returns-then-part_count-lt-FULL-clause-room
returns-then-part_count-lt-FULL-clause-room c =
    let s = c.self.inside in
    grind (
      arith,
      ap token_count (ap (λ (v : BuilderModel). v.contents.parts) c.self.view_is),
      tokens-whole s.tokens.tokens s.ranges.items s.current _ c.self.invariant,
    )
