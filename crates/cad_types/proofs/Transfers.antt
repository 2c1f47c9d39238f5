-- What a transfer does to optionals.
use Rattle.std.proofs.Common.{arith, ◌≡◌, ℕ, Bool, true, false, not, List, refl, ap}
use Rattle.std.specs.Prelude.{zero, suc, ◌-◌}
use Rattle.cad_syntax.specs.Types.{PureType, basic, optional, array, dictionary, intersection, declared, reference, capability, capability_of}
use Rattle.cad_syntax.specs.declared.types.Basic.{Basic}
use Rattle.cad_syntax.specs.declared.types.Basic.TheVariants as b
use Rattle.cad_types.specs.Declarations.{Declaration, IsClosed, resource}
use Rattle.cad_types.specs.Below.{by_class, below}
use Rattle.cad_types.specs.Laws.{FitsOnceThere, NilFits, BelowIsNotWrapped, LayersAreDepths}
use Rattle.cad_types.specs.Optionals.{optionals, depth, taken, layers, nil_type, is_solid}
use Rattle.cad_types.proofs.Decision.{never_under, below_trans, test_tells}
use Rattle.cad_types.specs.Sub as s
use Rattle.cad_types.specs.Sub.{Sub}

solid_not : (k : List Declaration) (o u : PureType) → is_solid o ≡ true → below k o (optional u) ≡ true → ⊥
solid_not k (basic b.Never) u p e = cc
solid_not k (basic c) u p e = cc
solid_not k (optional t) u p e = cc
solid_not k (array t) u p e = cc
solid_not k (dictionary q t) u p e = cc
solid_not k (intersection ids) u p e = cc
solid_not k (declared id) u p e = cc
solid_not k (reference y t) u p e = cc
solid_not k capability u p e = cc
solid_not k (capability_of t) u p e = cc

pub not_wrapped : BelowIsNotWrapped
not_wrapped k (suc n) o (optional u) p e = ap suc (not_wrapped k n o u p e)
not_wrapped k zero o (optional u) p e = absurd (solid_not k o u p e)
not_wrapped k zero o (basic c) p e = refl
not_wrapped k (suc n) o (basic c) p e = refl
not_wrapped k zero o (array u) p e = refl
not_wrapped k (suc n) o (array u) p e = refl
not_wrapped k zero o (dictionary q u) p e = refl
not_wrapped k (suc n) o (dictionary q u) p e = refl
not_wrapped k zero o (intersection ids) p e = refl
not_wrapped k (suc n) o (intersection ids) p e = refl
not_wrapped k zero o (declared id) p e = refl
not_wrapped k (suc n) o (declared id) p e = refl
not_wrapped k zero o (reference y u) p e = refl
not_wrapped k (suc n) o (reference y u) p e = refl
not_wrapped k zero o capability p e = refl
not_wrapped k (suc n) o capability p e = refl
not_wrapped k zero o (capability_of u) p e = refl
not_wrapped k (suc n) o (capability_of u) p e = refl

module _ (k : List Declaration) (closed : IsClosed k) where
  -- what is taken off one after the other
  taken_next : (j : ℕ) (u v : PureType) → taken j u ≡ optional v → taken (suc j) u ≡ v
  taken_next zero (optional u) v e = let q : u ≡ v = cc in q
  taken_next zero (basic t) v e = cc
  taken_next zero (array t) v e = cc
  taken_next zero (dictionary p t) v e = cc
  taken_next zero (intersection ids) v e = cc
  taken_next zero (declared id) v e = cc
  taken_next zero (reference a t) v e = cc
  taken_next zero capability v e = cc
  taken_next zero (capability_of t) v e = cc
  taken_next (suc j) (optional u) v e = taken_next j u v e
  taken_next (suc j) (basic t) v e = cc
  taken_next (suc j) (array t) v e = cc
  taken_next (suc j) (dictionary p t) v e = cc
  taken_next (suc j) (intersection ids) v e = cc
  taken_next (suc j) (declared id) v e = cc
  taken_next (suc j) (reference a t) v e = cc
  taken_next (suc j) capability v e = cc
  taken_next (suc j) (capability_of t) v e = cc

  struct_over : (t : PureType) → not (resource k t) ≡ true → below k t (basic b.AnyStruct) ≡ true
  struct_over t e = (test_tells k closed t (basic b.AnyStruct)).1 (s.any_struct (not_false (resource k t) e))
    where
      not_false : (x : Bool) → not x ≡ true → x ≡ false
      not_false true e = cc
      not_false false e = refl

  -- one optional less on both sides
  class_inner : (t : PureType) (c : Basic) → by_class (resource k t) false c ≡ true → below k t (basic c) ≡ true
  class_inner t b.AnyStruct e = struct_over t e
  class_inner t b.AnyResource e = cc
  class_inner t _ e = cc

  inner : (j : ℕ) (x u : PureType) → below k (optional x) (taken j u) ≡ true → below k x (taken (suc j) u) ≡ true
  inner zero x (optional u) e = e
  inner zero x (basic c) e = class_inner x c e
  inner zero x (array u) e = cc
  inner zero x (dictionary q u) e = cc
  inner zero x (intersection ids) e = cc
  inner zero x (declared id) e = cc
  inner zero x (reference y u) e = cc
  inner zero x capability e = cc
  inner zero x (capability_of u) e = cc
  inner (suc j) x (optional u) e = inner j x u e
  inner (suc j) x (basic c) e = class_inner x c e
  inner (suc j) x (array u) e = cc
  inner (suc j) x (dictionary q u) e = cc
  inner (suc j) x (intersection ids) e = cc
  inner (suc j) x (declared id) e = cc
  inner (suc j) x (reference y u) e = cc
  inner (suc j) x capability e = cc
  inner (suc j) x (capability_of u) e = cc

  wrap_under : (j n : ℕ) (o u : PureType) → is_solid o ≡ true → below k (optionals n o) (taken j u) ≡ true → below k (optionals (layers n u) o) u ≡ true
  wrap_under zero (suc n) o (optional u) p e = wrap_under zero n o u p e
  wrap_under zero zero o (optional u) p e = absurd (solid_not k o u p e)
  wrap_under (suc j) (suc n) o (optional u) p e = wrap_under (suc j) n o u p (inner j (optionals n o) u e)
  wrap_under (suc j) zero o (optional u) p e = wrap_under j zero o u p e
  wrap_under zero zero o (basic c) p e = e
  wrap_under zero (suc n) o (basic c) p e = e
  wrap_under (suc j) zero o (basic c) p e = e
  wrap_under (suc j) (suc n) o (basic c) p e = e
  wrap_under zero zero o (array u) p e = e
  wrap_under zero (suc n) o (array u) p e = e
  wrap_under (suc j) zero o (array u) p e = e
  wrap_under (suc j) (suc n) o (array u) p e = e
  wrap_under zero zero o (dictionary q u) p e = e
  wrap_under zero (suc n) o (dictionary q u) p e = e
  wrap_under (suc j) zero o (dictionary q u) p e = e
  wrap_under (suc j) (suc n) o (dictionary q u) p e = e
  wrap_under zero zero o (intersection ids) p e = e
  wrap_under zero (suc n) o (intersection ids) p e = e
  wrap_under (suc j) zero o (intersection ids) p e = e
  wrap_under (suc j) (suc n) o (intersection ids) p e = e
  wrap_under zero zero o (declared id) p e = e
  wrap_under zero (suc n) o (declared id) p e = e
  wrap_under (suc j) zero o (declared id) p e = e
  wrap_under (suc j) (suc n) o (declared id) p e = e
  wrap_under zero zero o (reference y u) p e = e
  wrap_under zero (suc n) o (reference y u) p e = e
  wrap_under (suc j) zero o (reference y u) p e = e
  wrap_under (suc j) (suc n) o (reference y u) p e = e
  wrap_under zero zero o capability p e = e
  wrap_under zero (suc n) o capability p e = e
  wrap_under (suc j) zero o capability p e = e
  wrap_under (suc j) (suc n) o capability p e = e
  wrap_under zero zero o (capability_of u) p e = e
  wrap_under zero (suc n) o (capability_of u) p e = e
  wrap_under (suc j) zero o (capability_of u) p e = e
  wrap_under (suc j) (suc n) o (capability_of u) p e = e

  nil_under : (j n : ℕ) (u : PureType) → below k (optionals n nil_type) (taken j u) ≡ true → below k (optionals n nil_type) u ≡ true
  nil_under zero n u e = e
  nil_under (suc j) zero (optional u) e = never_under k u
  nil_under (suc j) (suc n) (optional u) e = nil_under (suc j) n u (inner j (optionals n nil_type) u e)
  nil_under (suc j) n (basic c) e = e
  nil_under (suc j) n (array u) e = e
  nil_under (suc j) n (dictionary q u) e = e
  nil_under (suc j) n (intersection ids) e = e
  nil_under (suc j) n (declared id) e = e
  nil_under (suc j) n (reference y u) e = e
  nil_under (suc j) n capability e = e
  nil_under (suc j) n (capability_of u) e = e

pub fits_once_there : FitsOnceThere
fits_once_there k closed n o t u p e f =
    wrap_under k closed (depth u - depth t) n o u p (below_trans k closed (optionals n o) t (taken (depth u - depth t) u) e f)

pub nil_fits : NilFits
nil_fits k closed n t u e f = nil_under k closed (depth u - depth t) n u (below_trans k closed (optionals n nil_type) t (taken (depth u - depth t) u) e f)

pub layers_depths : LayersAreDepths
layers_depths zero (optional u) = let h = layers_depths zero u in omega (arith, h)
layers_depths (suc n) (optional u) = let h = layers_depths n u in omega (arith, h)
layers_depths zero (basic c) = omega arith
layers_depths (suc n) (basic c) = omega arith
layers_depths zero (array u) = omega arith
layers_depths (suc n) (array u) = omega arith
layers_depths zero (dictionary q u) = omega arith
layers_depths (suc n) (dictionary q u) = omega arith
layers_depths zero (intersection ids) = omega arith
layers_depths (suc n) (intersection ids) = omega arith
layers_depths zero (declared id) = omega arith
layers_depths (suc n) (declared id) = omega arith
layers_depths zero (reference y u) = omega arith
layers_depths (suc n) (reference y u) = omega arith
layers_depths zero capability = omega arith
layers_depths (suc n) capability = omega arith
layers_depths zero (capability_of u) = omega arith
layers_depths (suc n) (capability_of u) = omega arith
