-- Longer names that begin with a spelling.
use Rattle.cweb_store.proofs.Common.{◌≡◌, ℕ, zero, suc, ◌+◌, ◌<◌, Bool, true, false, not, List, [], ◌∷◌, Some, length, refl, ◌∙◌, ap, arith, bytes_eq, if◌then◌else◌, nat_eq, slice_get, option_map, list_any, starts_with, take-length, bytes_eq-Decides, NameId, Found, Nothing, Name, id, spellings, beginning_from, beginning, found_of, is_several, Distinct, is_prefix_of_another}
use Rattle.cweb_store.proofs.InsertLemmas.{grown, found-first}
use Rattle.cweb_store.proofs.NameLemmas.{bytes_eq-same, bytes_eq-sym, prefix_at}

is_nothing : Found → Bool
is_nothing Nothing = true
is_nothing _ = false

grown-several : (n : NameId) (f : Found) → is_several (grown true n f) ≡ not (is_nothing f)
unfolding is_nothing
grown-several n Nothing = refl
grown-several n _ = refl

grown-nothing : (n : NameId) (f : Found) → is_nothing (grown true n f) ≡ false
unfolding is_nothing
grown-nothing n Nothing = refl
grown-nothing n _ = refl

abbrev longer : List Name → List ℕ → Bool
longer ns text = is_prefix_of_another ns text

-- For a spelling that is no name, all names that begin with it are longer.
none-begins : (i : ℕ) (q : List ℕ) (ns : List Name) → list_any (bytes_eq q) (spellings ns) ≡ false
    → is_nothing (found_of (beginning_from i q ns)) ≡ not (longer ns q)
unfolding is_nothing
none-begins i q [] h = refl
none-begins i q (n ∷ ns) h = grind (arith, bytes_eq-sym n.text q, none-begins (i + 1) q ns, longer ns q)

pub starts-same : (q : List ℕ) → starts_with nat_eq q q ≡ true
starts-same q = ap (bytes_eq q) (take-length q) ∙ bytes_eq-same q

some-begins : (i : ℕ) (q : List ℕ) (ns : List Name) → list_any (bytes_eq q) (spellings ns) ≡ true
    → is_nothing (found_of (beginning_from i q ns)) ≡ false
unfolding is_nothing
some-begins i q [] h = cc
some-begins i q (n ∷ ns) h =
    grind (
      arith,
      is_nothing (found_of (if starts_with nat_eq n.text q then id i ∷ beginning_from (i + 1) q ns else
          beginning_from (i + 1) q ns)),
      bytes_eq-Decides q n.text,
      starts-same q,
      found-first (id i) (beginning_from (i + 1)
          q ns),
      grown-nothing (id i) (found_of (beginning_from (i + 1) q ns)),
      some-begins (i + 1) q ns,
    )

-- The names that begin with a prefix, with and without the first.
pub beginning-step : (i : ℕ) (p : List ℕ) (n : Name) (ns : List Name) → beginning_from i p (n ∷ ns)
    ≡ (if starts_with nat_eq n.text p then id i ∷ beginning_from (i + 1) p ns else beginning_from (i + 1) p ns)
beginning-step i p n ns = grind (arith, starts_with nat_eq n.text p)

-- Several names begin with a name if and only if one of them is longer.
pub several-longer : (i : ℕ) (q : List ℕ) (ns : List Name) → Distinct (spellings ns)
    → list_any (bytes_eq q) (spellings ns) ≡ true → is_several (found_of (beginning_from i q ns)) ≡ longer ns q
several-longer i q [] d h = cc
several-longer i q (n ∷ ns) d h =
    grind (
      arith,
      beginning-step i q n ns,
      bytes_eq q n.text,
      starts_with nat_eq n.text q,
      bytes_eq-Decides q n.text,
      bytes_eq-sym q n.text,
      starts-same q,
      found-first (id i) (beginning_from (i + 1) q ns),
      grown-several (id i) (found_of (beginning_from (i + 1) q ns)),
      none-begins (i + 1) q ns,
      some-begins (i + 1) q ns,
      several-longer (i + 1) q ns d.1,
      d.0,
      h,
    )

pub any-there : (ns : List Name) (i : ℕ) (n : Name) → slice_get ns i ≡ Some n
    → list_any (bytes_eq n.text) (spellings ns) ≡ true
any-there [] i n h = cc
any-there (m ∷ ns) zero n h = cc (bytes_eq-same n.text)
any-there (m ∷ ns) (suc i) n h = grind (arith, any-there ns i n h)

pub prefix-several : (ns : List Name) (i : ℕ) (text : List ℕ)
    → Distinct (spellings ns) → i < length ns → option_map (λ (n : Name). n.text) (slice_get ns i) ≡ Some text
    → option_map
    (λ (n : Name). is_prefix_of_another ns n.text) (slice_get ns i) ≡ Some (is_several (found_of (beginning text ns)))
prefix-several ns i text d h is = grind (arith, prefix_at ns i h, several-longer 0, any-there ns i)
