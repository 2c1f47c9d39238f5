-- The value of a contract is changed where it stands.
use Rattle.std.proofs.Common.{◌≡◌, ◌<◌, ℕ, zero, suc, Bool, true, false, List, [], ◌∷◌, map, length, get_or, sym, ap, ◌∙◌, arith, subst}
use Rattle.std.specs.Prelude.{slice_set, if◌then◌else◌}
use Rattle.cad_syntax.specs.TypeIds.{same_id}
use Rattle.cad_syntax.specs.declared.type_id.TypeId.{TypeId}
use Rattle.cad_world.specs.Labels.{change_value}
use Rattle.cad_world.specs.Rows.{Row}
use Rattle.cad_world.specs.State as s
use Rattle.cad_state.specs.Views.{contract_of}
use Rattle.cad_state.specs.declared.state.Contract.{Contract}
use Rattle.cad_locations.specs.Code.Values.{NotBefore, IsFirst}

pub not_before : (id : TypeId) (cs : List Contract) (i j : ℕ) (c : Contract) → j ≡ suc i → i < length cs → c ≡ get_or cs i c → same_id c.id id ≡ false → NotBefore id i (map contract_of cs) → NotBefore id j (map contract_of cs)
not_before id cs i j c e h is other before = subst (λ k. NotBefore id k (map contract_of cs)) (sym e) (go cs i h is before)
  where
    go : (ds : List Contract) (k : ℕ) → k < length ds → c ≡ get_or ds k c → NotBefore id k (map contract_of ds) → NotBefore id (suc k) (map contract_of ds)
    go [] k q p b = tt
    go (d ∷ ds) zero q p b = (ap (λ (x : Contract). same_id x.id id) (sym p) ∙ other, tt)
    go (d ∷ ds) (suc k) q p b = (b.0, go ds k (omega (arith, q)) p b.1)

pub is_first : (id : TypeId) (cs : List Contract) (i : ℕ) (c : Contract) → i < length cs → c ≡ get_or cs i c → same_id c.id id ≡ true → NotBefore id i (map contract_of cs) → IsFirst id i cs
is_first id cs i c h is same before = record { before = before; bound = h; here = λ d e. go cs i h c d is e same }
  where
    go : (ds : List Contract) (k : ℕ) → k < length ds → (x y : Contract) → x ≡ get_or ds k x → y ≡ get_or ds k y → same_id x.id id ≡ true → same_id y.id id ≡ true
    go [] k q x y p r t = absurd (omega (arith, q))
    go (d ∷ ds) zero q x y p r t = ap (λ (z : Contract). same_id z.id id) (r ∙ sym p) ∙ t
    go (d ∷ ds) (suc k) q x y p r t = go ds k (omega (arith, q)) x y p r t

changed_here : (b : Bool) (x y rest : List s.Contract) → b ≡ true → x ≡ y → x ≡ (if b then y else rest)
changed_here b x y rest e d = d ∙ ap (λ c. if c then y else rest) (sym e)

changed_later : (b : Bool) (x y rest : List s.Contract) → b ≡ false → x ≡ rest → x ≡ (if b then y else rest)
changed_later b x y rest e d = d ∙ ap (λ c. if c then y else rest) (sym e)

pub value_written : (id : TypeId) (g : Row → Row) (cs : List Contract) (i : ℕ) (old new : Contract) → NotBefore id i (map contract_of cs) → i < length cs → old ≡ get_or cs i old → same_id old.id id ≡ true
    → contract_of new ≡ record (contract_of old) { value = g (contract_of old).value } → map contract_of (slice_set cs i new) ≡ change_value id g (map contract_of cs)
value_written id g [] i old new b h is same e = absurd (omega (arith, h))
value_written id g (c ∷ cs) zero old new b h is same e =
    changed_here (same_id c.id id) (contract_of new ∷ map contract_of cs) (record (contract_of c) { value = g (contract_of c).value } ∷ map contract_of cs) (contract_of c ∷ change_value id g (map contract_of cs))
    (ap (λ (x : Contract). same_id x.id id) (sym is) ∙ same)
    (ap (λ (x : s.Contract). x ∷ map contract_of cs) (e ∙ ap (λ (x : Contract). record (contract_of x) { value = g (contract_of x).value }) is))
value_written id g (c ∷ cs) (suc i) old new b h is same e =
    changed_later (same_id c.id id) (contract_of c ∷ map contract_of (slice_set cs i new)) (record (contract_of c) { value = g (contract_of c).value } ∷ map contract_of cs) (contract_of c ∷ change_value id g (map contract_of cs))
    b.0 (ap (λ (xs : List s.Contract). contract_of c ∷ xs) (value_written id g cs i old new b.1 (omega (arith, h)) is same e))
