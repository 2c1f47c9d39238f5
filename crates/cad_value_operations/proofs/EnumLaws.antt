-- The declared type that the one type argument is.
use Rattle.std.proofs.Common.{◌≡◌, List, [], ◌∷◌, None, refl}
use Rattle.cad_evaluation.specs.Builtins.{type_member}
use Rattle.cad_syntax.specs.Types.{PureType, basic, optional, array, dictionary, intersection, declared, reference, capability, capability_of}
use Rattle.cad_types.specs.declared.builtin.Builtin.TheVariants as m
use Rattle.cad_value_operations.specs.Code.Members.{case_of, declared_in, enum_in}
use Rattle.cad_world.specs.Rows.{Row}
use Rattle.cad_world.specs.State.{State, with_some}

pub enum_is : (t : PureType) → declared_in t ≡ enum_in (t ∷ [])
enum_is (basic b) = refl
enum_is (optional t) = refl
enum_is (array t) = refl
enum_is (dictionary k t) = refl
enum_is (intersection ids) = refl
enum_is (declared id) = refl
enum_is (reference a t) = refl
enum_is capability = refl
enum_is (capability_of t) = refl

pub too_many : (t u : PureType) (types : List PureType) → enum_in (t ∷ u ∷ types) ≡ None
too_many (basic b) u types = refl
too_many (optional t) u types = refl
too_many (array t) u types = refl
too_many (dictionary k t) u types = refl
too_many (intersection ids) u types = refl
too_many (declared id) u types = refl
too_many (reference a t) u types = refl
too_many capability u types = refl
too_many (capability_of t) u types = refl

pub by_enum : (types : List PureType) (r : Row) (s : State) → type_member m.EnumFromRawValue types r s ≡ with_some (enum_in types) (λ id. case_of id r) s
by_enum [] r s = refl
by_enum (basic b ∷ []) r s = refl
by_enum (optional t ∷ []) r s = refl
by_enum (array t ∷ []) r s = refl
by_enum (dictionary k t ∷ []) r s = refl
by_enum (intersection ids ∷ []) r s = refl
by_enum (declared id ∷ []) r s = refl
by_enum (reference a t ∷ []) r s = refl
by_enum (capability ∷ []) r s = refl
by_enum (capability_of t ∷ []) r s = refl
by_enum (basic b ∷ u ∷ types) r s = refl
by_enum (optional t ∷ u ∷ types) r s = refl
by_enum (array t ∷ u ∷ types) r s = refl
by_enum (dictionary k t ∷ u ∷ types) r s = refl
by_enum (intersection ids ∷ u ∷ types) r s = refl
by_enum (declared id ∷ u ∷ types) r s = refl
by_enum (reference a t ∷ u ∷ types) r s = refl
by_enum (capability ∷ u ∷ types) r s = refl
by_enum (capability_of t ∷ u ∷ types) r s = refl
