-- References to places that are optional, and to others.
use Rattle.std.proofs.Common.{◌≡◌, List, Option, Some, None, true, false, refl, ap, not, ◌&&◌, ◌||◌}
use Rattle.cad_syntax.specs.Types.{PureType, basic, optional, array, dictionary, intersection, declared, reference, capability, capability_of}
use Rattle.cad_types.specs.Below.{below}
use Rattle.cad_types.specs.Declarations.{Declaration}
use Rattle.cad_typing.specs.Environments.{Typing, typed, when}
use Rattle.cad_typing.specs.Receivers.{Receiver}
use Rattle.cad_typing.specs.References.{Asked, borrow_at, borrow_term}
use Rattle.cad_typing.specs.Types.{content}

-- what is borrowed of a place that isn't optional
abbrev pub plain : List Declaration → Receiver → Asked → PureType → Option Typing
plain d r x t = when (not x.is_optional && below d t x.target) (typed (borrow_term r x false false) (reference x.grant x.target))

pub at_plain : (d : List Declaration) (r : Receiver) (x : Asked) (t : PureType) → None ≡ content t → plain d r x t ≡ borrow_at d r x t
at_plain d r x (optional t) none = absurd cc
at_plain d r x (basic t) none = refl
at_plain d r x (array t) none = refl
at_plain d r x (dictionary k t) none = refl
at_plain d r x (intersection ids) none = refl
at_plain d r x (declared id) none = refl
at_plain d r x (reference a t) none = refl
at_plain d r x capability none = refl
at_plain d r x (capability_of t) none = refl

-- what is borrowed of an optional place of a type with this content
abbrev pub of_content : List Declaration → Receiver → Asked → PureType → PureType → Option Typing
of_content d r x t u =
    when (below d u x.target || below d t x.target)
    (typed (borrow_term r x (below d u x.target) true) (optional (reference x.grant x.target)))

pub at_optional : (d : List Declaration) (r : Receiver) (x : Asked) (t u : PureType) → Some u ≡ content t → of_content d r x t u ≡ borrow_at d r x t
at_optional d r x (optional t) u some = let same : u ≡ t = cc in ap (of_content d r x (optional t)) same
at_optional d r x (basic t) u some = absurd cc
at_optional d r x (array t) u some = absurd cc
at_optional d r x (dictionary k t) u some = absurd cc
at_optional d r x (intersection ids) u some = absurd cc
at_optional d r x (declared id) u some = absurd cc
at_optional d r x (reference a t) u some = absurd cc
at_optional d r x capability u some = absurd cc
at_optional d r x (capability_of t) u some = absurd cc
