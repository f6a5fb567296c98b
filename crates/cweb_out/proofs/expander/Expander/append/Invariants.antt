use Rattle.cweb_out.proofs.Common.{◌≡◌, vec_capacity, names, IsFrameStack, left, work_of, PrintsPrefix, setting_of}
use Rattle.cweb_out.proofs.expander.Expander.append.Given as goal

abbrev pub invariant-frames : goal.invariant-frames
invariant-frames l = record {
  valid : IsFrameStack l.store l.self.frames.items (vec_capacity l.self.frames);
  store : l.self.store ≡ l.fn.self.store;
  plan : l.self.plan ≡ l.fn.self.plan;
  setting : setting_of l.printer ≡ setting_of l.fn.printer;
  prints : PrintsPrefix l.fn.printer l.printer (left l.store l.fn.self.frames.items)
      (left l.store l.self.frames.items) l.fn.buffer.bytes l.buffer.bytes;
}

abbrev pub decreases-frames : goal.decreases-frames
decreases-frames l = work_of l.store (names l.store) l.self.frames.items
