use Rattle.cweb_out.proofs.Common.{◌≡◌, ◌≤◌, length, vec_capacity, names, IsFrameStack, left, work_of}
use Rattle.cweb_out.proofs.expander.Expander.advance.Given as goal

abbrev pub invariant-frames : goal.invariant-frames
invariant-frames l = record {
  valid : IsFrameStack l.store l.self.frames.items (vec_capacity l.self.frames);
  store : l.self.store ≡ l.fn.self.store;
  plan : l.self.plan ≡ l.fn.self.plan;
  left : left l.store l.fn.self.frames.items ≡ left l.store l.self.frames.items;
  work : work_of l.store (names l.store) l.self.frames.items ≤ work_of l.store (names l.store) l.fn.self.frames.items;
}

abbrev pub decreases-frames : goal.decreases-frames
decreases-frames l = length l.self.frames.items
