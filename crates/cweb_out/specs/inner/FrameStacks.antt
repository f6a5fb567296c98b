-- Steps of a stack of frames, and what calls on a frame leave.
use Rattle.std.specs.Prelude.{ℕ, ◌≤◌, ◌<◌, ◌≡◌, ◌+◌, ◌-◌, suc, zero, List, [], ◌∷◌, ◌++◌, Option, Some, None, length}
use Rattle.std.specs.Prelude.{sum_by, true, false}
use Rattle.std.specs.List.{list_all, list_any}
use Rattle.cweb_store.specs.declared.name.NameId.{NameId}
use Rattle.cweb_store.specs.Parts.{Token, Name}
use Rattle.cweb_store.specs.declared.name.NameRef.{NameRef}
use Rattle.cweb_store.specs.Calls.{Stored}
use Rattle.cweb_out.specs.Expansion.{names, ends_below, joined, use_of, resolved_use, expanded_name, put}
use Rattle.cweb_out.specs.surface.FrameStacks.{suffix, IsReady, rank, left, FrameIsWithin}
use Rattle.cweb_out.specs.declared.expander.Expander.{Expander}
use Rattle.cweb_out.specs.declared.frame.Frame.{Frame}
use Rattle.cweb_out.specs.inner.BufferedPrinting.{PrintsPrefix}
use Rattle.cweb_out.specs.surface.Printed.{setting_of}
use Rattle.cweb_out.specs.declared.printer.Printer.{Printer}
use Rattle.cweb_store.specs.inner.Records.{is_name_use}

-- The rank of the top frame's owner, or a bound if there is no frame.
abbrev pub top_rank : Stored → ℕ → List Frame → ℕ
top_rank w above [] = above
top_rank w above (f ∷ fs) = top_rank w (rank w f.owner) fs

-- Each name that a token uses has a rank below that of the top frame's owner.
abbrev pub UsesLower : Stored → List Frame → Token → Type 0
UsesLower w fs t = list_all (ends_below w (top_rank w (names w + 1) fs)) (use_of w t) ≡ true

-- The number of steps for a name or a token at depth k: tokens taken plus frames popped.
abbrev pub work_for : (NameId → ℕ) → Option NameId → ℕ
work_for f None = 0
work_for f (Some n) = f n

abbrev pub token_work : Stored → (NameId → ℕ) → Token → ℕ
token_work w f (Name r) = 1 + work_for f (resolved_use w r)
token_work w f t = 1

abbrev pub name_work : Stored → ℕ → NameId → ℕ
name_work w zero n = 0
name_work w (suc k) n = 1 + sum_by (token_work w (name_work w k)) (joined w n)

abbrev pub list_work : Stored → ℕ → List Token → ℕ
list_work w k ts = 1 + sum_by (token_work w (name_work w k)) ts

abbrev pub work_of : Stored → ℕ → List Frame → ℕ
work_of w k [] = 0
work_of w k (f ∷ fs) = work_of w (k - 1) fs + list_work w k (suffix w f)

-- The depth to which the top frame is expanded.
abbrev pub level : Stored → List Frame → ℕ
level w fs = names w + 1 - length fs

-- A token of the top frame was taken.
pub record Advances (w : Stored) (old new : List Frame) (t : Token) : Type 0 where
  pub left : left w old ≡ put w (expanded_name w (level w new)) t ++ left w new
  pub lower : UsesLower w new t
  pub work : token_work w (name_work w (level w new)) t + work_of w (names w) new ≤ work_of w (names w) old
  pub some : 0 < length new

-- A frame was pushed for a use, or none if the use expands to nothing.
pub record Enters (w : Stored) (old new : List Frame) (r : NameRef) : Type 0 where
  pub left : left w new ≡ put w (expanded_name w (level w old)) (Name r) ++ left w old
  pub work : work_of w (names w) new < token_work w (name_work w (level w old)) (Name r) + work_of w (names w) old

-- Only the stack changes.
pub record KeepsExpander (old new : Expander) : Type 0 where
  pub store : new.store ≡ old.store
  pub plan : new.plan ≡ old.plan
  pub valid : IsReady new

-- No use was skipped between a list and its suffix.
pub record PassesNoUse (old new : List Token) : Type 0 where
  pub before : List Token
  pub none : list_any is_name_use before ≡ false
  pub same : old ≡ before ++ new

-- The frame stays its owner's, within the tokens.
pub record KeepsFrame (w : Stored) (old new : Frame) : Type 0 where
  pub owner : new.owner ≡ old.owner
  pub within : FrameIsWithin w new

-- A prefix of the frame's list is printed. The frame stays its owner's, within the tokens.
pub record PrintsFrame (w : Stored) (old new : Frame) (before after : Printer) (buffer buffer' : List ℕ)
    : Type 0 where
  pub owner : new.owner ≡ old.owner
  pub within : FrameIsWithin w new
  pub setting : setting_of after ≡ setting_of before
  pub prints : PrintsPrefix before after (suffix w old) (suffix w new) buffer buffer'
