-- Paths of waiting names, each used by the one before it.
use Rattle.cweb_out.proofs.Common.{◌≡◌, Bool, true, false, ◌||◌, List, [], ◌∷◌, ◌++◌, refl, sym, ◌∙◌, ap, inl, inr, append-nil, append_assoc, Option, Some, None, list_any, list_any-append, NameId, is_id, Stored, joined, has_rank, FrameIsWithin, AreNew, ◌⊎◌, eqb_tells, Waiting, arith}
use Rattle.cweb_out.specs.inner.Search.{PathIsWithin, PathBegins, Chain, IsScanned, path_of}
use Rattle.cweb_out.proofs.ScannedUses.{looked-on}

pub chain-push : {w : Stored} (path : List Waiting) (f : Waiting) {last : Option NameId}
    → Chain w path (Some f.name) → IsScanned w (joined w f.name) f.text last → Chain w (path ++ f ∷ []) last
chain-push [] f c l = (l, tt)
chain-push (g ∷ []) f c l = (c.0, (l, tt))
chain-push {w} (g ∷ h ∷ path) f {last} c l = (c.0, chain-push (h ∷ path) f c.1 l)

pub chain-pop : {w : Stored} (path : List Waiting) (f : Waiting) {last : Option NameId}
    → Chain w (path ++ f ∷ []) last → Chain w path (Some f.name) × IsScanned w (joined w f.name) f.text last
chain-pop [] f c = (tt, c.0)
chain-pop (g ∷ []) f c = ((c.0, tt), c.1.0)
chain-pop {w} (g ∷ h ∷ path) f {last} c = let r = chain-pop (h ∷ path) f c.1 in ((c.0, r.0), r.1)

pub chain-on : (w : Stored) (path : List Waiting) (n : NameId)
    → has_rank w n ≡ true → Chain w path (Some n) → Chain w path None
chain-on w [] n h c = tt
chain-on w (g ∷ []) n h c = (looked-on n h c.0, tt)
chain-on w (g ∷ k ∷ path) n h c = (c.0, chain-on w (k ∷ path) n h c.1)

pub begins-pop : (w : Stored) (path : List Waiting) (f : Waiting) (n : NameId)
    → PathBegins w (path ++ f ∷ []) n → has_rank w f.name ≡ true → PathBegins w path n
begins-pop w [] f n b h = ap (has_rank w) (sym b) ∙ h
begins-pop w (g ∷ path) f n b h = b

pub begins-push : (w : Stored) (path : List Waiting) (f g : Waiting) (n : NameId)
    → g.name ≡ f.name → PathBegins w (path ++ f ∷ []) n → PathBegins w (path ++ g ∷ []) n
begins-push w [] f g n e b = e ∙ b
begins-push w (h ∷ path) f g n e b = b

pub begins-more : (w : Stored) (path : List Waiting) (f g : Waiting) (n : NameId)
    → PathBegins w (path ++ f ∷ []) n → PathBegins w ((path ++ f ∷ []) ++ g ∷ []) n
begins-more w [] f g n b = b
begins-more w (h ∷ path) f g n b = b

pub path-push : (path : List Waiting) (f : Waiting) → path_of (path ++ f ∷ []) ≡ path_of path ++ f.name ∷ []
path-push [] f = refl
path-push (g ∷ path) f = ap (λ ns. g.name ∷ ns) (path-push path f)

pub new-push : (seen ns : List NameId) (n : NameId) → AreNew seen ns
    → list_any (is_id n) (seen ++ ns) ≡ false → AreNew seen (ns ++ n ∷ [])
new-push seen [] n a h = (ap (list_any (is_id n)) (sym (append-nil seen)) ∙ h, tt)
new-push seen (m ∷ ns) n a h =
    (a.0, new-push (seen ++ m ∷ []) ns n a.1 (ap (list_any (is_id n)) (append_assoc seen (m ∷ []) ns) ∙ h))

pub new-pop : (seen ns : List NameId) (n : NameId) → AreNew seen (ns ++ n ∷ [])
    → AreNew seen ns × (list_any (is_id n) (seen ++ ns) ≡ false)
new-pop seen [] n a = (tt, ap (list_any (is_id n)) (append-nil seen) ∙ a.0)
new-pop seen (m ∷ ns) n a = grind (arith, append_assoc, new-pop (seen ++ m ∷ []) ns n a.1)

pub is-same : (n m : NameId) → is_id n m ≡ true → n ≡ m
is-same n m h = grind (arith, eqb_tells)

pub on-pushed : (ns : List NameId) (n m : NameId)
    → list_any (is_id n) (ns ++ m ∷ []) ≡ (list_any (is_id n) ns || (is_id n m || false))
on-pushed ns n m = list_any-append (is_id n) ns (m ∷ [])

pub split-or : (a b : Bool) → (a || (b || false)) ≡ true → (a ≡ true) ⊎ (b ≡ true)
split-or true b h = inl refl
split-or false true h = inr refl
split-or false false h = cc

pub within-push : {w : Stored} (path : List Waiting) (f : Waiting)
    → PathIsWithin w path → FrameIsWithin w f.text → PathIsWithin w (path ++ f ∷ [])
within-push [] f a h = (h, tt)
within-push {w} (g ∷ path) f a h = (a.0, within-push path f a.1 h)

pub within-pop : {w : Stored} (path : List Waiting) (f : Waiting)
    → PathIsWithin w (path ++ f ∷ []) → PathIsWithin w path × FrameIsWithin w f.text
within-pop [] f a = (tt, a.0)
within-pop {w} (g ∷ path) f a = let r = within-pop path f a.1 in ((a.0, r.0), r.1)
