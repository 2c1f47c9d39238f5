-- An account gets more, and the account of an address changes, where there is one.
use Rattle.std.proofs.Common.{◌≡◌, ◌<◌, ◌≤◌, ℕ, zero, suc, List, [], ◌∷◌, ◌++◌, map, length, get_or, refl, sym, ap, ◌∙◌, arith}
use Rattle.std.proofs.lemmas.List.{map-append}
use Rattle.std.specs.Prelude.{slice_set}
use Rattle.cad_loads.specs.Views.{source_of}
use Rattle.cad_loads.specs.declared.sources.Source.{Source}
use Rattle.cad_values.specs.declared.value.Value.{Value}
use Rattle.cad_world.specs.Labels.{change_account}
use Rattle.cad_world.specs.State as s
use Rattle.cad_state.specs.Views.{account_of, controller_of, publication_of}
use Rattle.cad_state.specs.declared.state.Account.{Account}
use Rattle.cad_state.specs.declared.state.Controller.{Controller}
use Rattle.cad_state.specs.declared.state.Publication.{Publication}
use Rattle.cad_world_registers.specs.Meaning.{item_at, changed_by, value_row}
use Rattle.cad_world_registers.specs.declared.saying.Change.{Change}
use Rattle.cad_world_registers.specs.declared.saying.Change.TheVariants as change
use Rattle.cad_worlds.specs.Items.{Draft, put, on_account_at}

pub changed_there : (g : s.Account → s.Account) (all : List Account) (n i : ℕ) (old new : Account) → n ≡ suc i → i < length all → old ≡ get_or all i old → account_of new ≡ g (account_of old)
    → map account_of (slice_set all i new) ≡ change_account n g (map account_of all)
changed_there g all n i old new e h is d = go all i h is ∙ ap (λ k. change_account k g (map account_of all)) (sym e)
  where
    go : (bs : List Account) (k : ℕ) → k < length bs → old ≡ get_or bs k old → map account_of (slice_set bs k new) ≡ change_account (suc k) g (map account_of bs)
    go [] k h is = absurd (omega (arith, h))
    go (b ∷ bs) zero h is = ap (λ (x : s.Account). x ∷ map account_of bs) (d ∙ ap (λ (x : Account). g (account_of x)) is)
    go (b ∷ bs) (suc k) h is = ap (λ (xs : List s.Account). account_of b ∷ xs) (go bs k (omega (arith, h)) is)

pub changed_nowhere : (g : s.Account → s.Account) (all : List Account) (n : ℕ) → ((i : ℕ) → n ≡ suc i → length all ≤ i) → map account_of all ≡ change_account n g (map account_of all)
changed_nowhere g all zero h = same all
  where
    same : (bs : List Account) → map account_of bs ≡ change_account zero g (map account_of bs)
    same bs = refl
changed_nowhere g all (suc i) h = go all i (h i refl)
  where
    go : (bs : List Account) (k : ℕ) → length bs ≤ k → map account_of bs ≡ change_account (suc k) g (map account_of bs)
    go [] k h = refl
    go (b ∷ bs) zero h = absurd (omega (arith, h))
    go (b ∷ bs) (suc k) h = ap (λ (xs : List s.Account). account_of b ∷ xs) (go bs k (omega (arith, h)))

pub published_more : (ps : List Publication) (p : Publication) → map publication_of (ps ++ p ∷ []) ≡ map publication_of ps ++ publication_of p ∷ []
published_more ps p = map-append publication_of ps (p ∷ [])

pub controlled_more : (cs : List Controller) (c : Controller) → map controller_of (cs ++ c ∷ []) ≡ map controller_of cs ++ controller_of c ∷ []
controlled_more cs c = map-append controller_of cs (c ∷ [])

pub accounts_more : (all : List Account) (a : Account) → map account_of (all ++ a ∷ []) ≡ map account_of all ++ account_of a ∷ []
accounts_more all a = map-append account_of all (a ∷ [])

pub sources_more : (ss : List Source) (s : Source) → map source_of (ss ++ s ∷ []) ≡ map source_of ss ++ source_of s ∷ []
sources_more ss s = map-append source_of ss (s ∷ [])

pub values_more : (vs : List Value) (v : Value) → map value_row (vs ++ v ∷ []) ≡ map value_row vs ++ value_row v ∷ []
values_more vs v = map-append value_row vs (v ∷ [])

pub put_at : (n : ℕ) (c : Change) (d : Draft) → put (item_at n c) d ≡ on_account_at n (changed_by c) d
put_at n (change.Stored i v) d = refl
put_at n (change.Published p) d = refl
put_at n (change.Controlled c) d = refl
