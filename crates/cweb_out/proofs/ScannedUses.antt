-- The progress of the search in a list: skipped uses, up to the next name without a rank.
use Rattle.cweb_out.proofs.Common.{◌≡◌, ◌<◌, Bool, true, false, ◌&&◌, List, [], ◌∷◌, ◌++◌, refl, sym, ◌∙◌, ap, append-nil, append_assoc, Some, None, list_all, NameId, Token, Stored, names, uses, use_of, has_rank, suffix, Frame, and_parts, PassesNoUse, Waiting, arith}
use Rattle.cweb_out.specs.declared.outputs.search.Mark.{Mark}
use Rattle.cweb_out.specs.declared.outputs.search.Mark.TheVariants.{Ranked}
use Rattle.cweb_out.specs.inner.Search.{MarksFitPath, IsScanned, FindsUnranked, is_marked, is_ranked_mark}
use Rattle.cweb_out.proofs.FirstUses.{same-uses}
use Rattle.cweb_out.proofs.Ranks.{all-append}

-- Names with a rank were skipped.
pub record SkipsRanked (w : Stored) (marks : List Mark) (old new : List Token) : Type 0 where
  pub before : List NameId
  pub marked : list_all (is_marked marks) before ≡ true
  pub same : uses w old ≡ before ++ uses w new

pub passes-more : {w : Stored} {marks : List Mark} {old mid new : List Token} (t : Token) → SkipsRanked w marks old mid
    → mid ≡ t ∷ new → list_all (is_marked marks) (use_of w t) ≡ true → SkipsRanked w marks old new
passes-more {w} {marks} {new} t p e h = record {
  before = p.before ++ use_of w t;
  marked = all-append (is_marked marks) p.before (use_of w t) p.marked h;
  same = p.same ∙ ap (λ ts. p.before ++ uses w ts) e ∙ sym (append_assoc p.before (use_of w t) (uses w new));
}

-- No use was skipped.
pub passes-on : {w : Stored} {marks : List Mark} {old mid new : List Token}
    → SkipsRanked w marks old mid → PassesNoUse mid new → SkipsRanked w marks old new
passes-on {w} p x = record {
  before = p.before;
  marked = p.marked;
  same = p.same ∙ ap (λ ns. p.before ++ ns) (same-uses w x);
}

pub meets : {w : Stored} {marks : List Mark} {old mid new : List Token} (t : Token) {n : NameId}
    → SkipsRanked w marks old mid → mid ≡ t ∷ new → n ∷ [] ≡ use_of w t
    → is_marked marks n ≡ false → n.0 < names w → FindsUnranked w marks old n new
meets {w} {new} t p e u f l = grind arith

pub passes-all : {w : Stored} {marks : List Mark} {old new : List Token}
    → SkipsRanked w marks old new → uses w new ≡ [] → list_all (is_marked marks) (uses w old) ≡ true
passes-all {marks} p e = grind (arith, append-nil)

-- A ranked mark means that the name has a rank.
marked-rank : (m : Mark) (b : Bool) → (m ≡ Ranked → b ≡ true) → is_ranked_mark m ≡ true → b ≡ true
marked-rank Ranked b f h = f refl
marked-rank _ b f h = cc

pub all-ranked : {w : Stored} {marks : List Mark} {path : List Waiting} (ns : List NameId)
    → MarksFitPath w marks path → list_all (is_marked marks) ns ≡ true → list_all (has_rank w) ns ≡ true
all-ranked [] f h = refl
all-ranked {w} {marks} {path} (n ∷ ns) f h = grind (arith, marked-rank, and_parts, all-ranked ns f)

-- A list was scanned up to a name, and then up to the next one.
pub looked-more : {w : Stored}
    {list : List Token} {marks : List Mark} {path : List Waiting} {old new : Frame} {n : NameId}
    → MarksFitPath w marks path
    → IsScanned w list old None → FindsUnranked w marks (suffix w old) n (suffix w new) → IsScanned w list new (Some n)
looked-more {w} {new} {n} f l m = record {
  before = l.before ++ m.before;
  ranked = all-append (has_rank w) l.before m.before l.ranked (all-ranked m.before f m.marked);
  same = l.same ∙ ap (λ ns. l.before ++ ns) m.same ∙ sym (append_assoc l.before m.before (n ∷ uses w (suffix w new)));
}

-- The next name got its rank.
pub looked-on : {w : Stored} {list : List Token} {frame : Frame} (n : NameId)
    → has_rank w n ≡ true → IsScanned w list frame (Some n) → IsScanned w list frame None
looked-on {w} {frame} n h l = record {
  before = l.before ++ n ∷ [];
  ranked = all-append (has_rank w) l.before (n ∷ []) l.ranked (ap (λ b. b && true) h);
  same = l.same ∙ sym (append_assoc l.before (n ∷ []) (uses w (suffix w frame)));
}

-- Nothing is left to scan.
pub looked-all : {w : Stored} {list : List Token} {frame : Frame} {marks : List Mark} {path : List Waiting}
    → MarksFitPath w marks path → IsScanned w list frame None
    → list_all (is_marked marks) (uses w (suffix w frame)) ≡ true → list_all (has_rank w) (uses w list) ≡ true
looked-all {w} {frame} f l h = grind (arith, all-append, all-ranked)

pub looked-start : {w : Stored} {list : List Token} {frame : Frame} → suffix w frame ≡ list
    → IsScanned w list frame None
looked-start {w} e = record { before = []; ranked = refl; same = ap (uses w) (sym e) }
