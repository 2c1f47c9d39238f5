-- Optionals round a type, which types fit a type, how many optionals a transfer puts round a value, and the type of what is
-- read through a reference.
use Rattle.std.specs.Prelude.{ℕ, zero, suc, ◌-◌, Bool, true, false, List}
use Rattle.cad_syntax.specs.Types.{PureType, basic, optional, array, dictionary, intersection, declared, reference, capability, capability_of}
use Rattle.cad_syntax.specs.declared.types.Authorization.{Authorization}
use Rattle.cad_syntax.specs.declared.types.Basic.{Basic}
use Rattle.cad_syntax.specs.declared.types.Basic.TheVariants as b
use Rattle.cad_types.specs.Declarations.{Declaration}
use Rattle.cad_types.specs.Below.{below}

-- a type in this many optionals
abbrev pub optionals : ℕ → PureType → PureType
optionals zero t = t
optionals (suc n) t = optional (optionals n t)

-- how many outer optionals a type has
abbrev pub depth : PureType → ℕ
depth (optional t) = suc (depth t)
depth _ = 0

-- a type without its outer optionals
abbrev pub core : PureType → PureType
core (optional t) = core t
core t = t

-- a type without so many of its outer optionals, or without all
abbrev pub taken : ℕ → PureType → PureType
taken zero t = t
taken (suc n) (optional t) = taken n t
taken (suc n) t = t

-- t fits u: it is below u after u's outer optionals that t lacks were taken off
abbrev pub fits : List Declaration → PureType → PureType → Bool
fits k t u = below k t (taken (depth u - depth t) u)

-- How many optionals stand round a value that isn't nil, with n round it, once it has come to a place of the type: n, or as
-- many as the type has, if these are more.
abbrev pub layers : ℕ → PureType → ℕ
layers zero (optional u) = suc (layers zero u)
layers (suc n) (optional u) = suc (layers n u)
layers n _ = n

-- the own type of nil
abbrev pub nil_type : PureType
nil_type = optional (basic b.Never)

-- neither an optional nor Never, as the own type of a value without its optionals is
abbrev pub is_solid : PureType → Bool
is_solid (optional t) = false
is_solid (basic b.Never) = false
is_solid _ = true

-- What is read through a reference.

-- a place of this declared type gives a reference, in the optionals of the type
abbrev pub gives_reference : PureType → Bool
gives_reference (optional t) = gives_reference t
gives_reference (array t) = true
gives_reference (dictionary p t) = true
gives_reference (intersection ids) = true
gives_reference (declared id) = true
gives_reference (basic b.AnyResource) = true
gives_reference _ = false

abbrev pub reading_basic : Authorization → Basic → PureType
reading_basic a b.AnyResource = reference a (basic b.AnyResource)
reading_basic a t = basic t

-- The type of what is read through a reference from a place of this declared type: of a composite, an intersection,
-- AnyResource or a container a reference with this authorization, in the same optionals; of anything else a copy.
abbrev pub reading : Authorization → PureType → PureType
reading a (optional t) = optional (reading a t)
reading a (array t) = reference a (array t)
reading a (dictionary p t) = reference a (dictionary p t)
reading a (intersection ids) = reference a (intersection ids)
reading a (declared id) = reference a (declared id)
reading a (basic t) = reading_basic a t
reading a (reference x t) = reference x t
reading a capability = capability
reading a (capability_of t) = capability_of t
