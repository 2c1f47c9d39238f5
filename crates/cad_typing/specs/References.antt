-- References, casts and what is read of a reference.
use Rattle.std.specs.Prelude.{Bool, true, false, not, ◌&&◌, ◌||◌, Option, Some, None, List}
use Rattle.cad_syntax.specs.Types.{PureType, optional, reference}
use Rattle.cad_syntax.specs.declared.types.Authorization.{Authorization}
use Rattle.cad_auth.specs.Tests.{grants}
use Rattle.cad_grammar.specs.Trees as s
use Rattle.cad_grammar.specs.declared.expression.CastKind.TheVariants as cast
use Rattle.cad_grammar.specs.declared.expression.UnaryOperator.TheVariants as operator
use Rattle.cad_types.specs.Declarations.{Declaration, resource}
use Rattle.cad_declarations.specs.Formed.{is_reference, same_truth, formed_type}
use Rattle.cad_declarations.specs.Typed as e
use Rattle.cad_typing.specs.Environments.{Environment, Typing, kinds, scope, typed, when, ◌>=>◌}
use Rattle.cad_typing.specs.Fields.{is_owned}
use Rattle.cad_typing.specs.Names.{is_contract_type}
use Rattle.cad_types.specs.Below.{below}
use Rattle.cad_types.specs.Optionals.{core, fits}
use Rattle.cad_typing.specs.Receivers.{Receiver, Base, receiver_in, closed, is_self}
use Rattle.cad_typing.specs.Types.{is_copied}

-- ---- `&a as R`

-- a reference type as it is written, or an optional of one
pub record Asked : Type 0 where
  pub grant : Authorization
  pub target : PureType
  pub is_optional : Bool

abbrev pub asked : Bool → PureType → Option Asked
asked is_optional (reference grant t) = Some (record { grant = grant; target = t; is_optional = is_optional })
asked is_optional _ = None

abbrev pub asked_type : PureType → Option Asked
asked_type (optional t) = asked true t
asked_type t = asked false t

abbrev pub borrow_term : Receiver → Asked → Bool → Bool → e.TermTree
borrow_term r x takes_off gives_optional = closed r.hidden (e.borrow r.place x.grant x.target takes_off gives_optional)

-- Of an optional the reference is optional, however it is written. One optional is taken off where the content is below the
-- target, else none.
abbrev pub borrow_optional : List Declaration → Receiver → Asked → PureType → Option Typing
borrow_optional d r x t =
    when (below d t x.target || below d (optional t) x.target)
    (typed (borrow_term r x (below d t x.target) true) (optional (reference x.grant x.target)))

abbrev pub borrow_at : List Declaration → Receiver → Asked → PureType → Option Typing
borrow_at d r x (optional t) = borrow_optional d r x t
borrow_at d r x t = when (not x.is_optional && below d t x.target) (typed (borrow_term r x false false) (reference x.grant x.target))

-- a place that isn't a reference, in whatever optionals
abbrev pub may_be_borrowed : Receiver → Bool
may_be_borrowed r = is_owned r.grant && not (is_reference (core r.type))

-- `self` of a contract is a receiver alone
abbrev pub is_self_of_contract : Environment → s.ExprTree → Receiver → Bool
is_self_of_contract env a r = is_self a && is_contract_type env r.type

abbrev pub borrow_receiver : Environment → s.ExprTree → Asked → Receiver → Option Typing
borrow_receiver env a x r =
    when (may_be_borrowed r && not (is_self_of_contract env a r)) (borrow_at (kinds env) r x r.type)

abbrev pub borrowed : Environment → s.ExprTree → s.TypeTree → Base → Option Typing
borrowed env a written b =
    formed_type (scope env) written >=> asked_type >=> (λ x. receiver_in b >=> borrow_receiver env a x)

-- ---- `*a`

abbrev pub dereferenced_at : e.TermTree → PureType → Option Typing
dereferenced_at term (reference grant t) = when (is_copied t) (typed (e.unary operator.Dereference term) t)
dereferenced_at term _ = None

abbrev pub dereferenced : Typing → Option Typing
dereferenced x = dereferenced_at x.term x.type

-- ---- casts

-- a cast gains no entitlements: between references the rights that are known decide
abbrev pub keeps_rights : PureType → PureType → Bool
keeps_rights (reference grant t) (reference need u) = grants grant need
keeps_rights _ _ = true

-- both are resource types, or neither is
abbrev pub may_be_cast : List Declaration → PureType → PureType → Bool
may_be_cast d t u = same_truth (resource d t) (resource d u) && keeps_rights (core t) (core u)

abbrev pub cast_static : Environment → PureType → Typing → Option Typing
cast_static env t x = when (fits (kinds env) x.type t) (typed (e.cast cast.Static x.term t) t)

-- a failable cast of a resource stands only as the value of an `if let`, which is a statement
abbrev pub cast_failable : Environment → PureType → Typing → Option Typing
cast_failable env t x =
    when (may_be_cast (kinds env) x.type t && not (resource (kinds env) x.type)) (typed (e.cast cast.Failable x.term t) (optional t))

abbrev pub cast_forced : Environment → PureType → Typing → Option Typing
cast_forced env t x = when (may_be_cast (kinds env) x.type t) (typed (e.cast cast.Forced x.term t) t)
