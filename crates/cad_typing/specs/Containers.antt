-- Arrays and dictionaries, and what is asked of elements and arguments.
use Rattle.std.specs.Prelude.{ℕ, Bool, true, false, not, ◌&&◌, ◌||◌, ◌==◌, Option, Some, None, List, [], ◌∷◌, map, if◌then◌else◌}
use Rattle.std.specs.Cmp.Lexicographic.{pointwise}
use Rattle.std.specs.List.{list_all}
use Rattle.cad_syntax.specs.Types.{PureType, array, dictionary}
use Rattle.cad_syntax.specs.declared.text.Name.{Name}
use Rattle.cad_grammar.specs.Trees as s
use Rattle.cad_grammar.specs.declared.expression.UnaryOperator.TheVariants as unary
use Rattle.cad_types.specs.Declarations.{Declaration, resource}
use Rattle.cad_declarations.specs.Formed.{is_key_type}
use Rattle.cad_declarations.specs.Typed as e
use Rattle.cad_typing.specs.Calls.{Parameter, Takes, fitting, any_number, any_storable, any_plain, Count, last_optional, more_follow}
use Rattle.cad_typing.specs.Environments.{Environment, Typing, kinds, typed, when, ◌>=>◌}
use Rattle.cad_types.specs.Below.{below}
use Rattle.cad_types.specs.Optionals.{core, fits}
use Rattle.cad_typing.specs.Types.{element_type, is_number_type, is_storable}

abbrev pub is_move : s.ExprTree → Bool
is_move (s.unary unary.Move a) = true
is_move _ = false

-- a resource stands under `<-` as an argument, a returned value or an element
abbrev pub stands_rightly : Environment → s.ExprTree → PureType → Bool
stands_rightly env a t = not (resource (kinds env) t) || is_move a

-- the value fits the type that is expected, if one is
abbrev pub fits_expected : Environment → Option PureType → PureType → Bool
fits_expected env None t = true
fits_expected env (Some u) t = fits (kinds env) t u

abbrev pub element : Environment → Option PureType → s.ExprTree → Typing → Option Typing
element env expected a x = when (fits_expected env expected x.type && stands_rightly env a x.type) (Some x)

-- ---- the types of containers

abbrev pub all_below : List Declaration → List PureType → PureType → Bool
all_below d ts t = list_all (λ u. below d u t) ts

-- the first of these types that is above all of those
abbrev pub first_above : List Declaration → List PureType → List PureType → Option PureType
first_above d all [] = None
first_above d all (t ∷ ts) = if all_below d all t then Some t else first_above d all ts

-- the type that is expected, else the first that is above all others
abbrev pub common_type : Environment → Option PureType → List PureType → Option PureType
common_type env (Some t) ts = Some t
common_type env None ts = first_above (kinds env) ts ts

-- what is expected of the elements, keys and values, where a container is expected, in whatever optionals
abbrev pub expected_element : Option PureType → Option PureType
expected_element expected = expected >=> (λ t. element_type (core t))

abbrev pub key_in : PureType → Option PureType
key_in (dictionary key t) = Some key
key_in _ = None

abbrev pub value_in : PureType → Option PureType
value_in (dictionary key t) = Some t
value_in _ = None

abbrev pub expected_key : Option PureType → Option PureType
expected_key expected = expected >=> (λ t. key_in (core t))

abbrev pub expected_value : Option PureType → Option PureType
expected_value expected = expected >=> (λ t. value_in (core t))

abbrev pub types_of : List Typing → List PureType
types_of xs = map (λ x. x.type) xs

abbrev pub array_of : List Typing → PureType → Option Typing
array_of xs t = typed (e.array t (e.terms_of (map (λ x. x.term) xs))) (array t)

abbrev pub array_typed : Environment → Option PureType → List Typing → Option Typing
array_typed env expected xs = common_type env expected (types_of xs) >=> array_of xs

-- a key and a value
abbrev pub Pair : Type 0
Pair = Typing × Typing

abbrev pub pair_term : Typing × Typing → e.TermPair
pair_term p = record { key = p.0.term; value = p.1.term }

abbrev pub dictionary_of : Environment → List (Typing × Typing) → PureType → PureType → Option Typing
dictionary_of env ps key t =
    when (is_key_type (kinds env) key) (typed (e.dictionary key t (e.entries_of (map pair_term ps))) (dictionary key t))

abbrev pub dictionary_typed : Environment → Option PureType → List (Typing × Typing) → Option Typing
dictionary_typed env expected ps =
    common_type env (expected_key expected) (types_of (map (λ p. p.0) ps)) >=> (λ key.
    common_type env (expected_value expected) (types_of (map (λ p. p.1) ps)) >=> dictionary_of env ps key)

-- ---- arguments

abbrev pub has_label : Option (List ℕ) → Option Name → Bool
has_label None None = true
has_label (Some text) (Some name) = pointwise ◌==◌ text name.0
has_label _ _ = false

abbrev pub expected_argument : Takes → Option PureType
expected_argument (fitting t) = Some t
expected_argument _ = None

abbrev pub targeted : Typing → PureType → e.TargetedTerm
targeted x t = record { value = x.term; target = t }

-- an argument, transferred to the parameter's type, or else to its own
abbrev pub argument : Environment → Takes → s.ExprTree → Typing → Option e.TargetedTerm
argument env (fitting t) a x = when (fits (kinds env) x.type t && stands_rightly env a x.type) (Some (targeted x t))
argument env any_number a x = when (is_number_type x.type) (Some (targeted x x.type))
argument env any_storable a x = when (is_storable (kinds env) x.type && stands_rightly env a x.type) (Some (targeted x x.type))
argument env any_plain a x = when (not (resource (kinds env) x.type)) (Some (targeted x x.type))

-- the parameter for an argument with a label, and those behind it
pub record Next : Type 0 where
  pub takes : Takes
  pub others : List Parameter

abbrev pub next_parameter : Count → List Parameter → Option Name → Option Next
next_parameter more_follow [] label = Some (record { takes = any_plain; others = [] })
next_parameter count [] label = None
next_parameter count (p ∷ ps) label = when (has_label p.label label) (Some (record { takes = p.takes; others = ps }))

-- whether no further argument is needed
abbrev pub may_end : Count → List Parameter → Bool
may_end count [] = true
may_end last_optional (p ∷ []) = true
may_end count (p ∷ ps) = false
