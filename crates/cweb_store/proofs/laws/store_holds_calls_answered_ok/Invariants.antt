use Rattle.cweb_store.proofs.Common.{◌≡◌, take, map, contents, empty, accepted_calls, HoldsAtMost, AcceptsCalls}
use Rattle.cweb_store.proofs.laws.store_holds_calls_answered_ok.Given as goal

abbrev pub invariant-loop-call : goal.invariant-loop-call
invariant-loop-call l = record {
  calls : map (λ a. a.call) l.answers.items ≡ take l.call-index l.calls;
  taken : AcceptsCalls empty (accepted_calls l.answers.items);
  held : l.builder.contents ≡ contents (accepted_calls l.answers.items);
  few : HoldsAtMost l.call-index l.builder.contents;
}
