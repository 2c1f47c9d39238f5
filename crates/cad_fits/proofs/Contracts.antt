-- The test tells which values are those of contracts.
use Rattle.std.proofs.Common.{◌≡◌, ℕ, Bool, true, false, Option, Some, None, refl, sym, ap, ◌∙◌}
use Rattle.std.specs.Prelude.{IsTrue, ◌↔◌, ◌==◌}
use Rattle.std.proofs.lemmas.Bool.{false≢true, and_parts, and_from, eqb-true, eq-eqb}
use Rattle.cad_syntax.proofs.Same.{ids_tell}
use Rattle.cad_syntax.specs.TypeIds.{same_id}
use Rattle.cad_syntax.specs.Types.{declared}
use Rattle.cad_syntax.specs.declared.address.Domain.{Domain}
use Rattle.cad_syntax.specs.declared.address.Domain.TheVariants as d
use Rattle.cad_syntax.specs.declared.type_id.TypeId.{TypeId}
use Rattle.cad_types.specs.declared.declared.Sort.{Sort}
use Rattle.cad_types.specs.declared.declared.Sort.TheVariants as s
use Rattle.cad_values.specs.Fits.{FitsContract, IsOf, HasIdentity, HasCase, is_contract}
use Rattle.cad_values.specs.Shapes.{Shape, Shapes, shape_of, shape_fields, is_enum}
use Rattle.cad_values.specs.Types.{path_type}
use Rattle.cad_values.specs.Values.{PureValue, path, composite, Fields, no_fields, fields}
use Rattle.cad_fits.specs.Keys.{Apart}
use Rattle.cad_fits.specs.Tests.{is_contract_shape, contract_fits, fits_contract, fields_fit}
use Rattle.cad_fits.proofs.Laws.{Tells, fields_so, so_fields}

-- ---- the shape of a contract

no_identity : (sort : Sort) (n : ℕ) → n ≡ 0 → HasIdentity sort n
no_identity s.Resource n e = tt
no_identity s.Contract n e = e
no_identity s.Struct n e = e
no_identity s.Enum n e = e
no_identity s.Event n e = e
no_identity s.StructInterface n e = e
no_identity s.ResourceInterface n e = e

identity_none : (sort : Sort) (n : ℕ) → is_contract sort ≡ true → HasIdentity sort n → n ≡ 0
identity_none s.Resource n e h = absurd cc
identity_none s.Contract n e h = h
identity_none s.Struct n e h = h
identity_none s.Enum n e h = h
identity_none s.Event n e h = h
identity_none s.StructInterface n e h = h
identity_none s.ResourceInterface n e h = h

no_enum : (sort : Sort) → is_contract sort ≡ true → is_enum sort ≡ false
no_enum s.Enum e = absurd cc
no_enum _ e = refl

no_case : (shape : Shape) (fs : Fields) → is_enum shape.sort ≡ false → HasCase shape fs
no_case shape no_fields e = e
no_case shape (fields n v no_fields) e = λ h. absurd (false≢true (sym e ∙ h))
no_case shape (fields n v (fields m w fs)) e = e

shape_so : (n : ℕ) (fs : Fields) (o : Option Shape) → is_contract_shape n o ≡ true → IsOf is_contract n fs o
shape_so n fs None e = absurd cc
shape_so n fs (Some shape) e =
    let p = and_parts (is_contract shape.sort) (n == 0) e in
    (p.0, no_identity shape.sort n (eqb-true n 0 p.1), no_case shape fs (no_enum shape.sort p.0))

so_shape : (n : ℕ) (fs : Fields) (o : Option Shape) → IsOf is_contract n fs o → is_contract_shape n o ≡ true
so_shape n fs None h = absurd h
so_shape n fs (Some shape) h = and_from (is_contract shape.sort) (n == 0) h.0 (eq-eqb n 0 (identity_none shape.sort n h.0 h.1))

-- ---- the value of a contract

value_so : (k : Shapes) → Tells k → (v : PureValue) (id : TypeId) → fits_contract k v id ≡ true → Apart v → FitsContract k v id
value_so k tells (composite own n fs) id e a =
    let p = and_parts (same_id own id) (contract_fits k own n fs) e in
    let q = and_parts (is_contract_shape n (shape_of k own)) (fields_fit k (shape_fields (shape_of k own)) fs) p.1 in
    (ap declared ((ids_tell own id).0 p.0), (shape_so n fs (shape_of k own) q.0, fields_so k tells fs (shape_fields (shape_of k own)) q.1 a))
value_so k tells _ id e a = absurd cc

own_id : (own id : TypeId) → declared own ≡ declared id → own ≡ id
own_id own id e = cc

no_path : (domain : Domain) (id : TypeId) → path_type domain ≡ declared id → ⊥
no_path d.Storage id e = absurd cc
no_path d.Public id e = absurd cc

so_value : (k : Shapes) → Tells k → (v : PureValue) (id : TypeId) → FitsContract k v id → (fits_contract k v id ≡ true) × Apart v
so_value k tells (composite own n fs) id h =
    let rest = so_fields k tells fs (shape_fields (shape_of k own)) h.1.1 in (
      and_from (same_id own id) (contract_fits k own n fs) ((ids_tell own id).1 (own_id own id h.0))
          (and_from (is_contract_shape n (shape_of k own)) (fields_fit k (shape_fields (shape_of k own)) fs) (so_shape n fs (shape_of k own) h.1.0) rest.0),
      rest.1,
    )
so_value k tells (path p) id h = absurd (no_path p.domain id h.0)
so_value k tells _ id h = absurd (let wrong = h.0 in cc)

-- ---- both together

pub contract_refused : (k : Shapes) → Tells k → (v : PureValue) (id : TypeId) (own : Bool) → own ≡ fits_contract k v id → own ≡ false → (IsTrue false ↔ FitsContract k v id)
contract_refused k tells v id own e wrong_own = ((λ h. absurd (false≢true h)), (λ h. absurd (false≢true (sym wrong_own ∙ (e ∙ (so_value k tells v id h).0)))))

pub contract_so : (k : Shapes) → Tells k → (v : PureValue) (id : TypeId) (own differ : Bool) → own ≡ fits_contract k v id → own ≡ true → (IsTrue differ ↔ Apart v) → (IsTrue differ ↔ FitsContract k v id)
contract_so k tells v id own differ e right apart = ((λ h. value_so k tells v id (sym e ∙ right) (apart.0 h)), (λ h. apart.1 (so_value k tells v id h).1))
