use Rattle.cweb_store.proofs.Common.{◌≡◌, ℕ, List, ◌∙◌, ◌&&◌, ◌||◌, not, sym, ap, length, length-map, arith, ◌<◌, Some, option_map, slice_get, list_any, NotPresent, Name, id, is_id, flag_of, has_head}
use Rattle.cweb_store.proofs.NameLemmas.{prefix_at}
use Rattle.std.proofs.lemmas.Option.{slice_get-get_or}
use Rattle.std.specs.Prelude.{slice_index_or}
use Rattle.cweb_store.proofs.FaultLemmas.{faults-step, first-at}
use Rattle.cweb_store.proofs.faults.add_missing_faults.Goals as goal

pub loop-number-preserved : goal.loop-number-preserved
loop-number-preserved c = λ ns is.
    let number = c.loop-number.number in
    let within : number < length ns =
    omega (arith, c.loop-number-test.true, ap length is, length-map ns (λ (n : Name). n.first)) in
    let f = prefix_at ns number within in
    let test : option_map (λ (n : Name). (flag_of c.args.used.now (id number)
    || list_any (is_id (id number)) c.args.files.now.keys)
    && not (has_head c.args.heads.now (id number)))
    (slice_get ns number) ≡ Some c.is_missing-fails.result =
    ap (option_map (λ (n : Name).
    (flag_of c.args.used.now (id number)
    || list_any (is_id (id number)) c.args.files.now.keys)
    && not (has_head c.args.heads.now (id number))))
    f.there ∙ ap Some (sym c.is_missing-fails.ensures) in
    let first = slice_index_or c.args.firsts.now number 0 in
    faults-step NotPresent (λ n text.
    (flag_of c.args.used.now n || list_any (is_id n) c.args.files.now.keys)
    && not (has_head c.args.heads.now n))
    ns number c.is_missing-fails.result first
    c.loop-number.faults.items c.add_fault_if.new.faults.items within test
    (first-at ns number first (ap (λ (fs : List ℕ). slice_get fs number) (sym is)
    ∙ slice_get-get_or c.args.firsts.now number 0 c.loop-number-test.true))
    c.in_ok-add_fault_if.ensures
    ∙ c.loop-number.invariant ns is
