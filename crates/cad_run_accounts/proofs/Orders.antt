-- The lists of an account: what comes into their order, what leaves them and what changes in them.
use Rattle.std.proofs.Common.{◌≡◌, ◌<◌, ◌≤◌, ℕ, zero, suc, Bool, true, false, List, [], ◌∷◌, map, length, get_or, refl, ap, ◌∙◌, arith}
use Rattle.std.specs.Prelude.{◌==◌, slice_set, filter, insert, if◌then◌else◌}
use Rattle.cad_world.specs.Orders.{insert_in, name_before, publication_before}
use Rattle.cad_world.specs.State as s
use Rattle.cad_state.specs.Views.{controller_of, publication_of}
use Rattle.cad_state.specs.declared.state.Controller.{Controller}
use Rattle.cad_state.specs.declared.state.Publication.{Publication}
use Rattle.cad_run_accounts.specs.Code.Edits.{place_before}

-- ---- what comes into the order of publications

inserted : (p : s.Publication) (ps : List s.Publication) → insert ps (place_before p.identifier ps) p ≡ insert_in publication_before p ps
inserted p [] = refl
inserted p (q ∷ ps) = go (name_before p.identifier q.identifier) (place_before p.identifier ps) (insert_in publication_before p ps) (inserted p ps)
  where
    go : (b : Bool) (i : ℕ) (rest : List s.Publication) → insert ps i p ≡ rest → insert (q ∷ ps) (if b then 0 else suc i) p ≡ (if b then p ∷ q ∷ ps else q ∷ rest)
    go true i rest e = refl
    go false i rest e = ap (λ (xs : List s.Publication). q ∷ xs) e

map_insert : (xs : List Publication) (i : ℕ) (p : Publication) → map publication_of (insert xs i p) ≡ insert (map publication_of xs) i (publication_of p)
map_insert [] zero p = refl
map_insert [] (suc i) p = refl
map_insert (x ∷ xs) zero p = refl
map_insert (x ∷ xs) (suc i) p = ap (λ (ys : List s.Publication). publication_of x ∷ ys) (map_insert xs i p)

pub published_there : (xs : List Publication) (i : ℕ) (p : Publication) → i ≡ place_before p.identifier (map publication_of xs)
    → map publication_of (insert xs i p) ≡ insert_in publication_before (publication_of p) (map publication_of xs)
published_there xs i p e = map_insert xs i p ∙ ap (λ k. insert (map publication_of xs) k (publication_of p)) e ∙ inserted (publication_of p) (map publication_of xs)

-- ---- what leaves

pub map_filter : {A B : Type 0} (f : A → B) (t : B → Bool) (xs : List A) → map f (filter (λ x. t (f x)) xs) ≡ filter t (map f xs)
map_filter {A = A} {B = B} f t [] = refl
map_filter {A = A} {B = B} f t (x ∷ xs) = go (t (f x)) (filter (λ y. t (f y)) xs) (filter t (map f xs)) (map_filter f t xs)
  where
    go : (b : Bool) (ys : List A) (zs : List B) → map f ys ≡ zs → map f (if b then x ∷ ys else ys) ≡ (if b then f x ∷ zs else zs)
    go true ys zs e = ap (λ (rest : List B). f x ∷ rest) e
    go false ys zs e = e

-- ---- what changes

-- those of a number change
abbrev pub numbered : ℕ → (s.Controller → s.Controller) → s.Controller → s.Controller
numbered n g c = if c.number == n then g c else c

-- the first of them stay, those behind them change
abbrev pub rest_changed : ℕ → (s.Controller → s.Controller) → List s.Controller → List s.Controller
rest_changed zero g cs = map g cs
rest_changed (suc i) g [] = []
rest_changed (suc i) g (c ∷ cs) = c ∷ rest_changed i g cs

pub edited_turn : (g : s.Controller → s.Controller) (cs : List Controller) (i j : ℕ) (old new : Controller) → j ≡ suc i → i < length cs → old ≡ get_or cs i old → controller_of new ≡ g (controller_of old)
    → rest_changed j g (map controller_of (slice_set cs i new)) ≡ rest_changed i g (map controller_of cs)
edited_turn g cs i j old new e h is d = ap (λ k. rest_changed k g (map controller_of (slice_set cs i new))) e ∙ go cs i h is
  where
    go : (ds : List Controller) (k : ℕ) → k < length ds → old ≡ get_or ds k old → rest_changed (suc k) g (map controller_of (slice_set ds k new)) ≡ rest_changed k g (map controller_of ds)
    go [] k h is = absurd (omega (arith, h))
    go (x ∷ ds) zero h is = ap (λ (y : s.Controller). y ∷ map g (map controller_of ds)) (d ∙ ap (λ (y : Controller). g (controller_of y)) is)
    go (x ∷ ds) (suc k) h is = ap (λ (ys : List s.Controller). controller_of x ∷ ys) (go ds k (omega (arith, h)) is)

pub edited_all : (g : s.Controller → s.Controller) (cs : List Controller) (i : ℕ) → length cs ≤ i → map controller_of cs ≡ rest_changed i g (map controller_of cs)
edited_all g [] zero h = refl
edited_all g [] (suc i) h = refl
edited_all g (c ∷ cs) zero h = absurd (omega (arith, h))
edited_all g (c ∷ cs) (suc i) h = ap (λ (ys : List s.Controller). controller_of c ∷ ys) (edited_all g cs i (omega (arith, h)))
