-- A contract whose fields have all been set.
use Rattle.std.proofs.Common.{◌≡◌, Bool, true, false, refl, sym, ap, ◌∙◌}
use Rattle.std.specs.Prelude.{List, [], ◌∷◌, ◌++◌, map, Option, Some, None, if◌then◌else◌}
use Rattle.cad_evaluation.specs.Adding.{is_whole, finish_contract, stands_now}
use Rattle.cad_evaluation.specs.Containers.{void_tree}
use Rattle.cad_syntax.specs.TypeIds.{same_id}
use Rattle.cad_syntax.specs.declared.type_id.TypeId.{TypeId}
use Rattle.cad_world.specs.Declared.{contract_in}
use Rattle.cad_world.specs.Labels.{value_in}
use Rattle.cad_world.specs.Rows.{Slot, out, slot, Tree}
use Rattle.cad_world.specs.State.{Contract, State, ok, ill, guard}

abbrev pub value_of_found : Option Contract → Slot
value_of_found None = out
value_of_found (Some c) = slot 0 c.value

by_test : (b : Bool) (c : Contract) (v : Slot) (o : Option Contract) → v ≡ value_of_found o → (if b then slot 0 c.value else v) ≡ value_of_found (if b then Some c else o)
by_test true c v o is = refl
by_test false c v o is = is

-- the value of a contract is that of the first with its identifier
pub value_found : (all : List Contract) (id : TypeId) → value_in all id ≡ value_of_found (contract_in all id)
value_found [] id = refl
value_found (c ∷ all) id = by_test (same_id c.id id) c (value_in all id) (contract_in all id) (value_found all id)

pub whole_found : (all : List Contract) (id : TypeId) (c : Contract) → contract_in all id ≡ Some c → is_whole (value_in all id) ≡ is_whole (slot 0 c.value)
whole_found all id c is = ap is_whole (value_found all id ∙ ap value_of_found is)

pub none_whole : (all : List Contract) (id : TypeId) → contract_in all id ≡ None → is_whole (value_in all id) ≡ false
none_whole all id is = ap is_whole (value_found all id ∙ ap value_of_found is)

-- ---- the end of an installation

pub not_whole : (id : TypeId) (s : State) → is_whole (value_in s.contracts id) ≡ false → finish_contract id s ≡ ill
not_whole id s is = ap (λ (b : Bool). guard b (λ t. ok void_tree (record t { contracts = map (stands_now id) t.contracts; added = t.added ++ id ∷ [] })) s) is

pub joins : (id : TypeId) (s : State) (cs : List Contract) (ids : List TypeId) (v : Tree) → is_whole (value_in s.contracts id) ≡ true → v ≡ void_tree
    → cs ≡ map (stands_now id) s.contracts → ids ≡ s.added ++ id ∷ [] → finish_contract id s ≡ ok v (record s { contracts = cs; added = ids })
joins id s cs ids v is value stand added =
    ap (λ (b : Bool). guard b (λ t. ok void_tree (record t { contracts = map (stands_now id) t.contracts; added = t.added ++ id ∷ [] })) s) is
    ∙ ap (λ (u : Tree). ok u (record s { contracts = map (stands_now id) s.contracts; added = s.added ++ id ∷ [] })) (sym value)
    ∙ ap (λ (l : List Contract). ok v (record s { contracts = l; added = s.added ++ id ∷ [] })) (sym stand)
    ∙ ap (λ (l : List TypeId). ok v (record s { contracts = cs; added = l })) (sym added)
