-- Operators, and forms that choose.
use Rattle.std.specs.Prelude.{Bool, true, false, not, ◌&&◌, ◌||◌, Option, Some, None, List, if◌then◌else◌}
use Rattle.cad_syntax.specs.Types.{PureType, optional}
use Rattle.cad_grammar.specs.Trees as s
use Rattle.cad_grammar.specs.declared.expression.BinaryOperator.{BinaryOperator}
use Rattle.cad_grammar.specs.declared.expression.BinaryOperator.TheVariants as binary
use Rattle.cad_grammar.specs.declared.expression.UnaryOperator.TheVariants as unary
use Rattle.cad_types.specs.Declarations.{Declaration, resource}
use Rattle.cad_declarations.specs.BuiltinNames.{is_comparable}
use Rattle.cad_declarations.specs.Typed as e
use Rattle.cad_typing.specs.Environments.{Environment, Typing, kinds, typed, when, ◌>=>◌}
use Rattle.cad_typing.specs.Fields.{is_owned}
use Rattle.cad_typing.specs.Literals.{signed_whole, signed_fixed}
use Rattle.cad_types.specs.Below.{below}
use Rattle.cad_types.specs.Optionals.{fits}
use Rattle.cad_typing.specs.Receivers.{Receiver, Base, receiver_in, closed}
use Rattle.cad_typing.specs.Types.{bool, void, content, is_never_type, is_optional_type, is_signed_type, is_same_basic, is_ordered}

-- ---- one operand

-- a literal under `-`, with its sign
abbrev pub literal_under_minus : Option PureType → s.ExprTree → Option (Option Typing)
literal_under_minus expected (s.whole n is_hexadecimal) = Some (signed_whole expected n is_hexadecimal)
literal_under_minus expected (s.fixed n) = Some (signed_fixed expected n)
literal_under_minus expected _ = None

abbrev pub negated_value : Typing → Option Typing
negated_value x = when (is_signed_type x.type) (typed (e.unary unary.Negate x.term) x.type)

abbrev pub negated : Option (Option Typing) → (Option PureType → Option Typing) → Option PureType → Option Typing
negated (Some literal) operand expected = literal
negated None operand expected = operand expected >=> negated_value

-- Bool, or Never
abbrev pub is_test : PureType → Bool
is_test t = is_never_type t || is_same_basic t bool

abbrev pub inverted : Typing → Option Typing
inverted x = when (is_test x.type) (typed (e.unary unary.Not x.term) bool)

-- a resource, or an optional or container of one
abbrev pub destroyed : Environment → Typing → Option Typing
destroyed env x = when (resource (kinds env) x.type) (typed (e.destroy x.term) void)

-- what may stand under `<-`: a variable, a call, a `create` or a field of a transaction, each of a resource
abbrev pub may_be_moved : Environment → s.ExprTree → Bool
may_be_moved env (s.name n) = true
may_be_moved env (s.call f types all) = true
may_be_moved env (s.create names all) = true
may_be_moved env (s.member s.self n) = true
may_be_moved env _ = false

abbrev pub taken : Environment → s.ExprTree → Typing → Option Typing
taken env a x = when (may_be_moved env a && resource (kinds env) x.type) (Some x)

-- a call, or a form under `<-`
abbrev pub is_call_or_move : s.ExprTree → Bool
is_call_or_move (s.call f types all) = true
is_call_or_move (s.unary unary.Move a) = true
is_call_or_move _ = false

-- the content of an optional; a resource only of a call or a move
abbrev pub forced : Environment → s.ExprTree → Typing → Option Typing
forced env a x = content x.type >=> (λ t. when (not (resource (kinds env) t) || is_call_or_move a) (typed (e.force x.term) t))

-- ---- numbers

abbrev pub arithmetic : (PureType → Bool) → BinaryOperator → Typing → Typing → Option Typing
arithmetic test op x y = when (test x.type && is_same_basic x.type y.type) (typed (e.binary op x.term y.term) x.type)

-- ---- comparisons

abbrev pub ordered : BinaryOperator → Typing → Typing → Option Typing
ordered op x y = when (is_ordered x.type && is_same_basic x.type y.type) (typed (e.binary op x.term y.term) bool)

-- one type is below the other, and both have `==`
abbrev pub may_be_equal : List Declaration → PureType → PureType → Bool
may_be_equal d t u = (below d t u || below d u t) && (is_comparable d t && is_comparable d u)

abbrev pub compared : Environment → BinaryOperator → Typing → Typing → Option Typing
compared env op x y = when (may_be_equal (kinds env) x.type y.type) (typed (e.binary op x.term y.term) bool)

abbrev pub is_negation : BinaryOperator → Bool
is_negation binary.NotEqual = true
is_negation _ = false

-- beside the literal nil stands an optional, which stays where it is
abbrev pub nil_test : BinaryOperator → Receiver → Option Typing
nil_test op r = when (is_owned r.grant && is_optional_type r.type) (typed (closed r.hidden (e.is_nil r.place (is_negation op))) bool)

abbrev pub compared_with_nil : BinaryOperator → Base → Option Typing
compared_with_nil op b = receiver_in b >=> nil_test op

-- ---- Bool, and what isn't always evaluated

abbrev pub joined : BinaryOperator → Typing → Typing → Option Typing
joined op x y = when (is_test x.type && is_test y.type) (typed (e.binary op x.term y.term) bool)

-- the upper of two types
abbrev pub upper : List Declaration → PureType → PureType → Option PureType
upper d t u = if below d t u then Some u else when (below d u t) (Some t)

abbrev pub chosen : Environment → Typing → Typing → Typing → Option Typing
chosen env test x y =
    when (is_test test.type && (not (resource (kinds env) x.type) && not (resource (kinds env) y.type)))
    (upper (kinds env) x.type y.type >=> (λ t. typed (e.conditional test.term x.term y.term) t))

-- `a ?? b`: the content where b fits it, else the optional
abbrev pub coalesced_to : Environment → Typing → PureType → Typing → Option Typing
coalesced_to env x t y =
    if fits (kinds env) y.type t then typed (e.coalesce x.term y.term true t) t
    else when (fits (kinds env) y.type (optional t)) (typed (e.coalesce x.term y.term false (optional t)) (optional t))

-- of a resource only beside what never ends
abbrev pub coalesced : Environment → Typing → PureType → Typing → Option Typing
coalesced env x t y = when (not (resource (kinds env) t) || is_never_type y.type) (coalesced_to env x t y)
