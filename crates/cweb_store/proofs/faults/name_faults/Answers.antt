use Rattle.cweb_store.proofs.Common.{◌≡◌, ◌∙◌, ◌++◌, ◌&&◌, ◌||◌, not, ap, map, Name, list_any, NameId, PrefixOfAnother, NotPresent, is_id, flag_of, has_head, faults_where, is_prefix_of_another, is_missing, is_used, has_part, unresolved_faults}
use Rattle.cweb_store.specs.Names as spec
use Rattle.cweb_store.proofs.faults.name_faults.Goals as goal

pub returns-clause-found : goal.returns-clause-found
returns-clause-found c =
    let os = c.args.occurrences.now in
    let ps = c.args.parts.now in
    let first : c.add_unresolved_faults.new.faults.items ≡ unresolved_faults (spec.resolutions os) =
    c.in_ok-add_unresolved_faults.ensures
    ∙ (λ i. c.new-faults.ensures.items i ++ unresolved_faults (c.requires.settled i)) in
    let second : c.add_prefix_faults.new.faults.items ≡ unresolved_faults (spec.resolutions os)
    ++ faults_where PrefixOfAnother (λ n text. is_prefix_of_another (spec.names os) text) (spec.names os) =
    c.in_ok-add_prefix_faults.ensures
    ∙ (λ i. first i ++ faults_where PrefixOfAnother
    (λ n text. is_prefix_of_another (c.requires.named i) text) (c.requires.named i)) in
    let used : (n : NameId) → flag_of c.deref.result.now n ≡ is_used (spec.resolutions os) ps n = λ n.
    ap (λ fs. flag_of fs n) c.deref.ensures.value ∙ c.in_ok-used.ensures n
    ∙ ap (λ rs. is_used rs ps n) c.requires.settled in
    let present : (n : NameId) → has_head c.args.heads.now n ≡ has_part (spec.resolutions os) ps n = λ n.
    c.requires.some n ∙ ap (λ rs. has_part rs ps n) c.requires.settled in
    let missing : (n : NameId)
    → ((flag_of c.deref.result.now n || list_any (is_id n) c.args.files.now.keys) && not (has_head c.args.heads.now n))
    ≡ is_missing os ps n =
    λ n i. (used n i || list_any (is_id n) (c.requires.files i)) && not (present n i) in
    c.in_ok-add_missing_faults.ensures (spec.names os) (c.as_slice.ensures.value ∙ c.close-firsts.ensures
    ∙ ap (map (λ (n : Name). n.first)) c.requires.named)
    ∙ (λ i. second i ++ faults_where NotPresent (λ n text. missing n i) (spec.names os))
