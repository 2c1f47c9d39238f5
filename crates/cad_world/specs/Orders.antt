-- The orders in which the lists of a World stand.
use Rattle.std.specs.Prelude.{ℕ, Bool, true, ◌&&◌, ◌||◌, ◌==◌, nat_lt, List, [], ◌∷◌, if◌then◌else◌}
use Rattle.std.specs.Cmp.Lexicographic.{slice_cmp}
use Rattle.std.specs.List.{flat_map}
use Rattle.std.specs.Ordering.{nat_cmp, is_lt}
use Rattle.cad_syntax.specs.declared.text.Name.{Name}
use Rattle.cad_syntax.specs.declared.type_id.TypeId.{TypeId}
use Rattle.cad_world.specs.State.{Publication, Controller, Contract}

-- each item stands before the next
abbrev pub rises : {A : Type 0} → (A → A → Bool) → List A → Bool
rises before [] = true
rises before (x ∷ []) = true
rises before (x ∷ y ∷ ys) = before x y && rises before (y ∷ ys)

-- an item comes before the first that it stands before, or to the end
abbrev pub insert_in : {A : Type 0} → (A → A → Bool) → A → List A → List A
insert_in before x [] = x ∷ []
insert_in before x (y ∷ ys) = if before x y then x ∷ y ∷ ys else y ∷ insert_in before x ys

abbrev pub sorted_in : {A : Type 0} → (A → A → Bool) → List A → List A
sorted_in before [] = []
sorted_in before (x ∷ xs) = insert_in before x (sorted_in before xs)

-- texts in the order of their bytes
abbrev pub text_before : List ℕ → List ℕ → Bool
text_before a b = is_lt (slice_cmp nat_cmp a b)

-- identifiers
abbrev pub name_before : Name → Name → Bool
name_before a b = text_before a.0 b.0

abbrev pub publication_before : Publication → Publication → Bool
publication_before p q = name_before p.identifier q.identifier

abbrev pub controller_before : Controller → Controller → Bool
controller_before c d = nat_lt c.number d.number

-- the name of a contract, as bytes
abbrev pub contract_name : TypeId → List ℕ
contract_name id = flat_map (λ n. n.0) id.names

-- contracts by their addresses, and at one address by their names
abbrev pub contract_before : Contract → Contract → Bool
contract_before c d =
    nat_lt c.id.address.0 d.id.address.0
    || ((c.id.address.0 == d.id.address.0) && text_before (contract_name c.id) (contract_name d.id))
