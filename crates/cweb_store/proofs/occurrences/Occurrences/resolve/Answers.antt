use Rattle.cweb_store.proofs.Common.{◌∙◌, ap, [], length, length-map, arith, occurrence_text, resolve_all}
use Rattle.cweb_store.proofs.OccurrenceLemmas.{names-few}
use Rattle.cweb_store.specs.inner.Known.{occurrence_at}
use Rattle.cweb_store.proofs.OccurrenceTableLemmas.{earlies-count, resolve-count, resolve-resolutions}
use Rattle.cweb_store.proofs.occurrences.Occurrences.resolve.Goals as goal

pub resolve_all-requires-clause-count : goal.resolve_all-requires-clause-count
resolve_all-requires-clause-count c =
    omega (
      arith,
      ap length c.in_ok-known.ensures.strings,
      length-map c.args.self.now occurrence_text,
      ap length c.in_ok-known.ensures.early,
      earlies-count 0 [] c.args.self.now,
    )

pub resolve_all-requires-clause-few : goal.resolve_all-requires-clause-few
resolve_all-requires-clause-few c =
    let s = c.self.inside in
    omega (
      arith,
      ap length c.in_ok-known.ensures.early,
      earlies-count 0 [] c.args.self.now,
      ap length c.self.view_is,
      length-map s.records.items (occurrence_at s.strings),
      c.self.invariant.few,
    )

pub returns-clause-resolutions : goal.returns-clause-resolutions
returns-clause-resolutions c =
    c.resolve_all.ensures
    ∙ (λ i. resolve_all (c.in_ok-known.ensures.names i) (c.in_ok-known.ensures.strings i) c.in_ok-known.all.items)
    ∙ resolve-resolutions c.args.self.now c.in_ok-known.all.items c.in_ok-known.ensures.early

pub returns-clause-few_names : goal.returns-clause-few_names
returns-clause-few_names c =
    let s = c.self.inside in
    omega (
      arith,
      ap length c.in_ok-known.ensures.names,
      names-few c.args.self.now,
      ap length c.self.view_is,
      length-map s.records.items (occurrence_at s.strings),
      c.self.invariant.few,
    )

pub returns-clause-few : goal.returns-clause-few
returns-clause-few c =
    let s = c.self.inside in
    omega (
      arith,
      ap length c.resolve_all.ensures,
      resolve-count c.in_ok-known.known.names c.in_ok-known.known.strings c.in_ok-known.all.items
          (omega (
            arith,
            ap length c.in_ok-known.ensures.strings,
            length-map c.args.self.now occurrence_text,
            ap length c.in_ok-known.ensures.early,
            earlies-count 0 [] c.args.self.now,
          )),
      ap length c.in_ok-known.ensures.early,
      earlies-count 0 [] c.args.self.now,
      ap length c.self.view_is,
      length-map s.records.items (occurrence_at s.strings),
      c.self.invariant.few,
    )
