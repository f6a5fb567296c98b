-- The model and invariant of a stack of frames, and the suffix of a list that a frame holds.
use Rattle.std.specs.Prelude.{ℕ, ◌≤◌, List, ◌++◌, All, length, Bool, [], ◌∷◌, if◌then◌else◌, ◌<◌, ◌≡◌, ◌+◌, ◌-◌, true}
use Rattle.std.specs.Prelude.{Option, Some, None, vec_capacity, suc, zero, false}
use Rattle.cweb_store.specs.declared.parts.Part.{Part}
use Rattle.cweb_store.specs.Parts.{Token, all_tokens, Defs}
use Rattle.cweb_store.specs.Calls.{Stored}
use Rattle.cweb_out.specs.surface.Printed.{tokens_of_part, tokens_of_parts}
use Rattle.cweb_out.specs.declared.frame.Frame.{Frame}
use Rattle.cweb_store.specs.declared.name.NameId.{NameId}
use Rattle.cweb_out.specs.Expansion.{names, list_ends, expand, ends_below}
use Rattle.cweb_out.specs.Outputs.{root_list}
use Rattle.cweb_out.specs.declared.expander.Expander.{Expander}

-- The macro definitions, where they come first.
abbrev pub defs_first : Bool → List Token
defs_first first = if first then Defs ∷ [] else []

abbrev pub suffix : Stored → Frame → List Token
suffix w f = defs_first f.defs ++ (tokens_of_part w f.part ++ tokens_of_parts w f.rest)

abbrev pub PartIsWithin : ℕ → Part → Type 0
PartIsWithin n part = part.after ≤ n

-- The ranges of a frame are within the tokens.
pub record FrameIsWithin (w : Stored) (f : Frame) : Type 0 where
  pub part : PartIsWithin (length (all_tokens w.parts)) f.part
  pub rest : All (PartIsWithin (length (all_tokens w.parts))) f.rest

-- The least number below n that passes a test, or n.
abbrev pub least : (ℕ → Bool) → ℕ → ℕ
least test zero = zero
least test (suc n) = elim (test zero) [ true ↦ zero | false ↦ suc (least (λ k. test (suc k)) n) ]

-- The rank of a name: the least bound of the ranks of all names that its list uses.
abbrev pub name_rank : Stored → NameId → ℕ
name_rank w n = least (λ k. ends_below w (suc k) n) (names w)

-- The expanded suffixes of all frames, top frame first. The bottom frame is first in the list and is expanded k deep.
abbrev pub left_at_depth : Stored → ℕ → List Frame → List Token
left_at_depth w k [] = []
left_at_depth w k (f ∷ fs) = left_at_depth w (k - 1) fs ++ expand w k (suffix w f)

-- The frame is within the tokens. It holds a suffix of its owner's list, and all names that the list uses have ranks.
pub record IsOwned (w : Stored) (f : Frame) : Type 0 where
  pub within : FrameIsWithin w f
  pub yielded : List Token
  pub list : root_list w f.owner ≡ yielded ++ suffix w f
  pub ends : list_ends w (root_list w f.owner) ≡ true

-- The rank of a list's owner. The main file is above all names.
abbrev pub rank : Stored → Option NameId → ℕ
rank w None = names w
rank w (Some n) = name_rank w n

-- Each frame is of its owner's list. The ranks of the owners decrease strictly from a bound.
abbrev pub AreOwned : Stored → ℕ → List Frame → Type 0
AreOwned w above [] = Unit {0}
AreOwned w above (f ∷ fs) = IsOwned w f × (rank w f.owner < above) × AreOwned w (rank w f.owner) fs

-- A stack that an expander may have: by the ranks, it has at most one frame more than names. Its capacity is constant.
pub record IsFrameStack (w : Stored) (fs : List Frame) (capacity : ℕ) : Type 0 where
  pub owned : AreOwned w (names w + 1) fs
  pub room : capacity ≡ names w + 1

-- The stack of an expander.
abbrev pub IsReady : Expander → Type 0
IsReady e = IsFrameStack e.store.now e.frames.items (vec_capacity e.frames)

-- The tokens that an expander will still yield.
abbrev pub left : Stored → List Frame → List Token
left w fs = left_at_depth w (names w) fs

-- The first remaining token and the rest, or `None` exactly if nothing remains.
abbrev pub YieldsNext : List Token → Option Token → List Token → Type 0
YieldsNext old None new = (old ≡ []) × (new ≡ [])
YieldsNext old (Some t) new = old ≡ t ∷ new
