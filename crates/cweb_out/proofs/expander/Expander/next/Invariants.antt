use Rattle.cweb_out.proofs.Common.{◌≡◌, vec_capacity, names, IsFrameStack, left, work_of}
use Rattle.cweb_out.proofs.expander.Expander.next.Given as goal

abbrev pub invariant-tokens : goal.invariant-tokens
invariant-tokens l = record {
  valid : IsFrameStack l.self.store.now l.self.frames.items (vec_capacity l.self.frames);
  store : l.self.store ≡ l.fn.self.store;
  plan : l.self.plan ≡ l.fn.self.plan;
  left : left l.fn.self.store.now l.fn.self.frames.items ≡ left l.fn.self.store.now l.self.frames.items;
}

abbrev pub decreases-tokens : goal.decreases-tokens
decreases-tokens l = work_of l.fn.self.store.now (names l.fn.self.store.now) l.self.frames.items
