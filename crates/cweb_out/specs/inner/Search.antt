-- The depth-first search for a cycle.
use Rattle.std.specs.Prelude.{◌≡◌, ◌<◌, ℕ, Bool, true, false, List, [], ◌∷◌, ◌++◌, Option, Some, None, map, length}
use Rattle.std.specs.Prelude.{drop, option_to_list, slice_index_or, sum_by, if◌then◌else◌, IfSome}
use Rattle.std.specs.List.{list_all, list_any, position_or_len}
use Rattle.cweb_store.specs.Names.{is_id}
use Rattle.cweb_store.specs.declared.name.NameId.{NameId}
use Rattle.cweb_store.specs.Parts.{Token}
use Rattle.cweb_store.specs.Calls.{Stored}
use Rattle.cweb_out.specs.Expansion.{names, joined, uses, ends_below, has_rank, list_ends, cycle_from}
use Rattle.cweb_out.specs.surface.FrameStacks.{FrameIsWithin, suffix}
use Rattle.cweb_out.specs.Outputs.{root_list, start_of}
use Rattle.cweb_out.specs.declared.frame.Frame.{Frame}
use Rattle.cweb_out.specs.declared.outputs.search.Mark.{Mark}
use Rattle.cweb_out.specs.declared.outputs.search.Mark.TheVariants.{Unseen, Waits, Ranked}
use Rattle.cweb_out.specs.declared.outputs.search.Search.{Search}
use Rattle.cweb_out.specs.declared.outputs.search.Waiting.{Waiting}

abbrev pub mark_of : List Mark → NameId → Mark
mark_of marks n = slice_index_or marks n.0 Unseen

abbrev pub is_ranked_mark : Mark → Bool
is_ranked_mark Ranked = true
is_ranked_mark mark = false

abbrev pub is_marked : List Mark → NameId → Bool
is_marked marks n = is_ranked_mark (mark_of marks n)

-- How many more times a name may be marked.
abbrev pub marks_left : Mark → ℕ
marks_left Unseen = 2
marks_left Waits = 1
marks_left Ranked = 0

-- The waiting names. Each uses the next one.
abbrev pub path_of : List Waiting → List NameId
path_of path = map (λ f. f.name) path

-- The first name of a path, or `last` for an empty path.
abbrev pub path_next : List Waiting → Option NameId → Option NameId
path_next [] last = last
path_next (f ∷ path) last = Some f.name

-- The progress in a list: ranked names, then the next name of the path if any, then the rest.
pub record IsScanned (w : Stored) (list : List Token) (frame : Frame) (next : Option NameId) : Type 0 where
  pub before : List NameId
  pub ranked : list_all (has_rank w) before ≡ true
  pub same : uses w list ≡ before ++ (option_to_list next ++ uses w (suffix w frame))

-- Each name of a path was scanned up to the next one.
abbrev pub Chain : Stored → List Waiting → Option NameId → Type 0
Chain w [] last = Unit {0}
Chain w (f ∷ path) last = IsScanned w (joined w f.name) f.text (path_next path last) × Chain w path last

-- Each name of a list is new and not repeated.
abbrev pub AreNew : List NameId → List NameId → Type 0
AreNew seen [] = Unit {0}
AreNew seen (n ∷ ns) = (list_any (is_id n) seen ≡ false) × AreNew (seen ++ n ∷ []) ns

-- The remaining ranges of each frame are within the tokens.
abbrev pub PathIsWithin : Stored → List Waiting → Type 0
PathIsWithin w [] = Unit {0}
PathIsWithin w (f ∷ path) = FrameIsWithin w f.text × PathIsWithin w path

-- The marks agree with the waiting path.
pub record MarksFitPath (w : Stored) (marks : List Mark) (path : List Waiting) : Type 0 where
  pub all : length marks ≡ names w
  pub ranked : (n : NameId) → mark_of marks n ≡ Ranked → has_rank w n ≡ true
  pub waits : (n : NameId) → mark_of marks n ≡ Waits → list_any (is_id n) (path_of path) ≡ true
  pub marked : (n : NameId) → list_any (is_id n) (path_of path) ≡ true → mark_of marks n ≡ Waits
  pub new : AreNew [] (path_of path)
  pub within : PathIsWithin w path

-- No name waits, and the marks agree with that.
pub record IsIdle (w : Stored) (search : Search) : Type 0 where
  pub fits : MarksFitPath w search.marks.items []
  pub path : search.waiting.items ≡ []

-- Names with a rank were skipped, up to one without.
pub record FindsUnranked (w : Stored) (marks : List Mark) (old : List Token) (n : NameId)
    (new : List Token) : Type 0 where
  pub before : List NameId
  pub marked : list_all (is_marked marks) before ≡ true
  pub same : uses w old ≡ before ++ (n ∷ uses w new)
  pub unranked : is_marked marks n ≡ false
  pub name : n.0 < names w

-- The path from the first visit of a name back to it.
abbrev pub back_to : NameId → List Waiting → List NameId
back_to n path = drop (position_or_len (is_id n) (path_of path)) (path_of path) ++ n ∷ []

-- A list of names from `first` on, with one more name.
abbrev pub cycle_with_next : NameId → List NameId → NameId → List NameId
cycle_with_next first [] n = if is_id first n then n ∷ [] else []
cycle_with_next first (m ∷ ns) n = (m ∷ ns) ++ n ∷ []

-- The path begins with a name, or the name has a rank.
abbrev pub PathBegins : Stored → List Waiting → NameId → Type 0
PathBegins w [] n = has_rank w n ≡ true
PathBegins w (f ∷ path) n = f.name ≡ n

-- A name was pushed onto the path.
pub record Waited (w : Stored) (marks : List Mark) (path : List Waiting) (n : NameId) (more : List Mark)
    (longer : List Waiting) : Type 0 where
  pub top : Waiting
  pub name : top.name ≡ n
  pub long : longer ≡ path ++ top ∷ []
  pub fits : MarksFitPath w more longer
  pub looked : IsScanned w (joined w n) top.text None
  pub less : sum_by marks_left more < sum_by marks_left marks

-- One step from the last waiting name: it meets a waiting name, or one more mark is set.
pub record Goes (w : Stored) (marks : List Mark) (path : List Waiting) (more : List Mark) (after : List Waiting)
    (again : Option NameId) : Type 0 where
  pub fits : MarksFitPath w more after
  pub chain : Chain w after again
  pub begins : (n : NameId) → PathBegins w path n → PathBegins w after n
  pub back : IfSome again (λ n. list_any (is_id n) (path_of after) ≡ true)
  pub less : again ≡ None → sum_by marks_left more < sum_by marks_left marks

-- A name has no rank, and the walk from it reaches this cycle.
pub record IsEndless (w : Stored) (n : NameId) (cycle : List NameId) : Type 0 where
  pub endless : (k : ℕ) → ends_below w k n ≡ false
  pub walk : cycle ≡ cycle_from w (Some n)

-- A name has a rank, or there is a cycle.
abbrev pub Settles : Stored → NameId → Option (List NameId) → Type 0
Settles w n None = has_rank w n ≡ true
Settles w n (Some cycle) = IsEndless w n cycle

-- All names that an output uses have a rank, or there is a cycle.
abbrev pub SettlesList : Stored → Option NameId → Option (List NameId) → Type 0
SettlesList w root None = list_ends w (root_list w root) ≡ true
SettlesList w root (Some cycle) = (list_ends w (root_list w root) ≡ false) × (cycle ≡ cycle_from w (start_of w root))
