-- Laws of expansion, cycles and printing for any web.
use Rattle.std.specs.Prelude.{◌≡◌, ◌<◌, ◌≤◌, ◌+◌, ◌↔◌, ◌==◌, ℕ, suc, Bool, true, false, List, [], ◌∷◌, ◌++◌, Some, fold}
use Rattle.std.specs.Prelude.{if◌then◌else◌, codes, Option, Err, length, ◌&&◌}
use Rattle.std.specs.List.{list_all, list_any}
use Rattle.cweb_store.specs.Names.{is_id}
use Rattle.cweb_store.specs.declared.name.NameId.{NameId}
use Rattle.cweb_store.specs.Parts.{Token, Name, Join, Head, Tail, is_layout}
use Rattle.cweb_out.specs.Spacing.{sep}
use Rattle.cweb_store.specs.declared.name.NameRef.{NameRef}
use Rattle.cweb_store.specs.Calls.{Stored}
use Rattle.cweb_out.specs.declared.frame.Frame.{Frame}
use Rattle.cweb_out.specs.Expansion.{names, joined, resolved_use, uses, ends_below, has_rank, list_ends, expand}
use Rattle.cweb_out.specs.Outputs.{outputs, root_list, planned, cycle}
use Rattle.cweb_out.specs.surface.FrameStacks.{IsFrameStack, rank}
use Rattle.cweb_rules.specs.Edges.{last_is}
use Rattle.cweb_out.specs.Printing.{Setting, file, file_token_bytes, without_joined_layout, left_after, print}
use Rattle.cweb_out.specs.Printing.{print_after, stays_joined, plain_bytes}

-- Any token but a use of a name.
abbrev pub is_no_use : Token → Bool
is_no_use (Name r) = false
is_no_use t = true

-- No use remains. Any other token stays between the expansions of what is before and after it. A resolved use becomes
-- the expansion of its name's list, at one depth less.
pub record ReplacesUses (w : Stored) (k : ℕ) : Type 0 where
  pub no_use : (ts : List Token) → list_all is_no_use (expand w k ts) ≡ true
  pub kept : (before after : List Token) (t : Token) → is_no_use t ≡ true
      → expand w k (before ++ t ∷ after) ≡ expand w k before ++ t ∷ expand w k after
  pub replaced : (before after : List Token) (r : NameRef) (n : NameId) → resolved_use w r ≡ Some n
      → expand w (suc k) (before ++ Name r ∷ after) ≡ expand w (suc k) before
      ++ (expand w k (joined w n) ++ expand w (suc k) after)

abbrev pub ExpansionReplacesUsesAlone : Type 0
ExpansionReplacesUsesAlone = (w : Stored) (k : ℕ) → ReplacesUses w k

-- A name has a rank below the number of names exactly if it has a rank below some number.
abbrev pub RanksAreBelowTheNames : Type 0
RanksAreBelowTheNames = (w : Stored) (n : NameId) → n.0 < names w
    → ((has_rank w n ≡ true) ↔ ((k : ℕ) × (ends_below w k n ≡ true)))

-- If each name that a list uses has a rank below k, its expansions at all depths from k on are equal.
abbrev pub DepthAboveTheRankChangesNothing : Type 0
DepthAboveTheRankChangesNothing = (w : Stored) (k depth : ℕ) (ts : List Token) → k ≤ depth
    → list_all (ends_below w k) (uses w ts) ≡ true → expand w depth ts ≡ expand w k ts

-- The ranks of the owners decrease strictly from each frame to the one above it.
abbrev pub RanksDecrease : Stored → List Frame → Type 0
RanksDecrease w [] = Unit {0}
RanksDecrease w (f ∷ []) = Unit {0}
RanksDecrease w (f ∷ g ∷ fs) = (rank w g.owner < rank w f.owner) × RanksDecrease w (g ∷ fs)

-- A stack whose ranks decrease. It has at most one frame more than there are names.
pub record IsRanked (w : Stored) (fs : List Frame) : Type 0 where
  pub ranked : RanksDecrease w fs
  pub depth : length fs ≤ names w + 1

abbrev pub FrameStacksAreRanked : Type 0
FrameStacksAreRanked = (w : Stored) (fs : List Frame) (capacity : ℕ) → IsFrameStack w fs capacity → IsRanked w fs

-- The tokens use the first of the names, and the list of each name uses the next one.
abbrev pub LeadsThrough : Stored → List Token → List NameId → Type 0
LeadsThrough w ts [] = Unit {0}
LeadsThrough w ts (n ∷ ns) = (list_any (is_id n) (uses w ts) ≡ true) × LeadsThrough w (joined w n) ns

-- A cycle of names that an output reaches. The expansion of each earlier output ends.
pub record IsFirstCycle (w : Stored) (ns : List NameId) : Type 0 where
  pub earlier : List (Option NameId)
  pub output : Option NameId
  pub later : List (Option NameId)
  pub all : outputs w ≡ earlier ++ output ∷ later
  pub ending : list_all (λ o. list_ends w (root_list w o)) earlier ≡ true
  pub way : List NameId
  pub name : NameId
  pub between : List NameId
  pub closed : ns ≡ name ∷ between ++ name ∷ []
  pub leads : LeadsThrough w (root_list w output) (way ++ ns)

abbrev pub RefusedCyclesAreCycles : Type 0
RefusedCyclesAreCycles = (w : Stored) (main : List ℕ) (ns : List NameId) → planned w main ≡ Err (cycle ns)
    → IsFirstCycle w ns

-- Whether a join is open after a list.
abbrev pub is_joined : List Token → Bool
is_joined ts = fold stays_joined false ts

-- The bytes that a list prints after another one, from the last printed token of that one and its open join.
abbrev pub print_following : Setting → List Token → List Token → List ℕ
print_following s before ts =
    print_after (file_token_bytes s) (left_after before) (without_joined_layout (is_joined before) ts)

-- A concatenation prints the first list and then the second one.
abbrev pub PrintGoesOn : Type 0
PrintGoesOn = (s : Setting) (before ts : List Token)
    → print s (before ++ ts) ≡ print s before ++ print_following s before ts

-- A token that is no layout after a Join is printed in its place: the separator, its bytes, and then what follows.
abbrev pub EachTokenIsPrinted : Type 0
EachTokenIsPrinted = (s : Setting) (before after : List Token) (t : Token) → (is_joined before && is_layout t) ≡ false
    → print s (before ++ t ∷ after) ≡ print s before ++ ((sep (left_after before) t
    ++ file_token_bytes s (left_after before) t) ++ print_following s (before ++ t ∷ []) after)

-- Empty, or the last byte is a newline.
abbrev pub is_whole_lines : List ℕ → Bool
is_whole_lines [] = true
is_whole_lines (b ∷ bytes) = last_is (λ x. x == 10) (b ∷ bytes)

abbrev pub FilesHaveWholeLines : Type 0
FilesHaveWholeLines = (s : Setting) (ts : List Token) → is_whole_lines (file s ts) ≡ true

-- A blank, if the token before is a Join.
abbrev pub blank_if : Bool → List ℕ
blank_if after_join = if after_join then codes " " else []

-- The section comments among tokens. A blank is before one that comes right after a Join.
abbrev pub section_comments : Setting → Bool → List Token → List ℕ
section_comments s after_join [] = []
section_comments s after_join (Join ∷ ts) = section_comments s true ts
section_comments s after_join (Head n ∷ ts) =
    (blank_if after_join ++ plain_bytes s.replaced (Head n)) ++ section_comments s false ts
section_comments s after_join (Tail n ∷ ts) =
    (blank_if after_join ++ plain_bytes s.replaced (Tail n)) ++ section_comments s false ts
section_comments s after_join (t ∷ ts) = section_comments s after_join ts

-- After a Join come layout, section comments and further Joins, and then another token. Only the section comments are
-- printed before that token.
abbrev pub OnlySectionCommentsComeBetweenJoinedTokens : Type 0
OnlySectionCommentsComeBetweenJoinedTokens = (s : Setting) (before between after : List Token) (t : Token)
    → list_all (stays_joined true) between ≡ true → stays_joined true t ≡ false
    → print s (before ++ Join ∷ (between ++ t ∷ after))
    ≡ print s before ++ (section_comments s true between ++ (file_token_bytes s (Some Join) t
    ++ print_after (file_token_bytes s) (Some t) (without_joined_layout false after)))
