use Rattle.cweb_store.proofs.Common.{◌≡◌, refl, length, sym, ◌∙◌, ap, PartRange, has_part, list_any, is_of, [], arith, Name, names, length-map}
use Rattle.cweb_store.specs.inner.Known.{files_from}
use Rattle.cweb_store.proofs.BoundLemmas.{resolutions-within}
use Rattle.cweb_store.proofs.NameSetLemmas.{any-part}
use Rattle.cweb_store.proofs.store.answers.Answers.of.Goals as goal

pub new-requires-clause-known : goal.new-requires-clause-known
new-requires-clause-known c = resolutions-within c.args.occurrences.now c.as_slice-2.result.now c.len.result
    (c.as_slice-2.ensures.value ∙ c.in_ok-names.ensures.resolutions)
    (c.len.ensures ∙ ap length c.in_ok-names.ensures.names)

pub name_faults-requires-clause-known : goal.name_faults-requires-clause-known
name_faults-requires-clause-known c = resolutions-within c.args.occurrences.now c.as_slice-3.result.now _
    (c.as_slice-3.ensures.value ∙ c.in_ok-names.ensures.resolutions) refl

-- A name has a part if the links begin with one.
pub name_faults-requires-clause-some : goal.name_faults-requires-clause-some
name_faults-requires-clause-some c = λ n.
    let rs : c.as_slice-2.result.now ≡ c.as_slice-3.result.now =
    c.as_slice-2.ensures.value ∙ sym c.as_slice-3.ensures.value in
    c.in_ok-links.ensures.some n
    ∙ ap (λ xs. list_any (λ (r : PartRange). is_of c.as_slice-2.result.now n r.kind) xs) c.ranges-2.ensures.ranges
    ∙ any-part c.as_slice-2.result.now n 0 c.args.parts.now ∙ ap (λ ss. has_part ss c.args.parts.now n) rs

pub returns : goal.returns
returns c =
    let settled = c.as_slice.ensures.value ∙ c.in_ok-names.ensures.resolutions in
    record {
      settled = c.in_ok-names.ensures.resolutions;
      forms = c.in_ok-files.ensures ∙ ap (λ rs. files_from rs [] 0 c.args.occurrences.now) settled;
      found = c.in_ok-faults.ensures.found;
      defs = c.has_defs_code.ensures;
      first_places = c.in_ok-faults.ensures.firsts;
      few = omega (
        arith,
        ap length c.in_ok-faults.ensures.firsts,
        length-map (names c.args.occurrences.now) (λ (n : Name). n.first),
        ap length c.in_ok-names.ensures.names,
        c.in_ok-names.ensures.few_names,
      );
      small = c.in_ok-names.ensures.few;
      linked = rw (c.as_slice-2.ensures.value, c.ranges-2.ensures.ranges) at c.in_ok-links.ensures;
    }
