use Rattle.cweb_out.proofs.Common.{◌≡◌, length, false, suffix, FrameIsWithin, PassesNoUse}
use Rattle.cweb_out.proofs.frame.Frame.take_use.Given as goal

abbrev pub invariant-parts : goal.invariant-parts
invariant-parts l = record {
  owner : l.self.owner ≡ l.fn.self.owner;
  within : FrameIsWithin l.store l.self;
  passed : PassesNoUse (suffix l.fn.store l.fn.self) (suffix l.store l.self);
  started : l.self.defs ≡ false;
}

abbrev pub decreases-parts : goal.decreases-parts
decreases-parts l = length l.self.rest
