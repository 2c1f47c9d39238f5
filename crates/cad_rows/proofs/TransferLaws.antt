-- What is carried over, by the reference that a type is.
use Rattle.std.proofs.Common.{◌≡◌, ℕ, if◌then◌else◌, refl, ap, ◌∙◌}
use Rattle.cad_syntax.specs.Types as t
use Rattle.cad_syntax.specs.declared.types.Authorization.{Authorization}
use Rattle.cad_types.specs.Optionals.{layers}
use Rattle.cad_values.specs.Values.{PureValue, nil}
use Rattle.cad_world.specs.Rows as r
use Rattle.cad_world.specs.Transfers.{carried, carried_value, carried_authorization, rounds}
use Rattle.cad_rows.specs.Carried.{reference_in, carried_by, is_nil_shape}

not_carried : (type : t.PureType) → ((own : Authorization) → carried_authorization type own ≡ own) → ((x : PureValue) → carried_value type x ≡ x) → (shape : r.NodeShape) → carried type shape ≡ shape
not_carried type a v (r.link own l n) = ap (λ x. r.link x l n) (a own)
not_carried type a v (r.plain x) = ap r.plain (v x)
not_carried type a v (r.array e) = refl
not_carried type a v (r.dictionary k e ks) = refl
not_carried type a v (r.composite id n ns) = refl

pub inside : (type : t.PureType) (shape : r.NodeShape) → carried (t.optional type) shape ≡ carried type shape
inside type (r.link own l n) = refl
inside type (r.plain x) = refl
inside type (r.array e) = refl
inside type (r.dictionary k e ks) = refl
inside type (r.composite id n ns) = refl

pub carried_is : (type : t.PureType) (shape : r.NodeShape) → carried type shape ≡ carried_by (reference_in type) shape
carried_is (t.optional type) shape = inside type shape ∙ carried_is type shape
carried_is (t.reference a type) shape = refl
carried_is (t.basic b) shape = not_carried (t.basic b) (λ own. refl) (λ x. refl) shape
carried_is (t.array e) shape = not_carried (t.array e) (λ own. refl) (λ x. refl) shape
carried_is (t.dictionary k e) shape = not_carried (t.dictionary k e) (λ own. refl) (λ x. refl) shape
carried_is (t.intersection ids) shape = not_carried (t.intersection ids) (λ own. refl) (λ x. refl) shape
carried_is (t.declared id) shape = not_carried (t.declared id) (λ own. refl) (λ x. refl) shape
carried_is t.capability shape = not_carried t.capability (λ own. refl) (λ x. refl) shape
carried_is (t.capability_of e) shape = not_carried (t.capability_of e) (λ own. refl) (λ x. refl) shape

nil_rounds : (x : PureValue) (n : ℕ) (type : t.PureType) → rounds (r.plain x) n type ≡ (if is_nil_shape (r.plain x) then n else layers n type)
nil_rounds nil n type = refl
nil_rounds x n type = refl

pub rounds_is : (shape : r.NodeShape) (n : ℕ) (type : t.PureType) → rounds shape n type ≡ (if is_nil_shape shape then n else layers n type)
rounds_is (r.plain x) n type = nil_rounds x n type
rounds_is (r.link own l k) n type = refl
rounds_is (r.array e) n type = refl
rounds_is (r.dictionary k e ks) n type = refl
rounds_is (r.composite id i ns) n type = refl
