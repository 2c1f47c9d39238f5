-- What expressions mean. Recursion is on the tree; what is called is a parameter.
use Rattle.std.specs.Prelude.{ℕ, Bool, false, List, [], ◌∷◌, Option, Some, None}
use Rattle.cad_syntax.specs.Types.{PureType}
use Rattle.cad_grammar.specs.declared.expression.BinaryOperator.{BinaryOperator}
use Rattle.cad_grammar.specs.declared.expression.BinaryOperator.TheVariants.{And, Or}
use Rattle.cad_declarations.specs.Typed as e
use Rattle.cad_values.specs.Values as v
use Rattle.cad_world.specs.Rows.{Row, stop, Tree}
use Rattle.cad_world.specs.State.{Frame, Action, ◌>>=◌, ◌>>◌, give, guard, with_some, by_truth, tick}
use Rattle.cad_world.specs.Trees.{of_plain, nil_tree}
use Rattle.cad_world.specs.Labels.{newest}
use Rattle.cad_world.specs.Transfers.{transferred}
use Rattle.cad_world.specs.Locations.{variable, receiver, contract}
use Rattle.cad_world.specs.Receivers.{Receiver, look_at}
use Rattle.cad_evaluation.specs.Builtins.{member, may_use}
use Rattle.cad_evaluation.specs.Builtins as built_in
use Rattle.cad_evaluation.specs.Callees.{function, Calls, Front}
use Rattle.cad_evaluation.specs.Casts.{cast, type_tree}
use Rattle.cad_evaluation.specs.Containers.{void_tree}
use Rattle.cad_evaluation.specs.Ending.{destroyed}
use Rattle.cad_evaluation.specs.Making.{case_tree, construct, create}
use Rattle.cad_evaluation.specs.Numbers.{truth_of, number_tree}
use Rattle.cad_evaluation.specs.Operators as operator
use Rattle.cad_evaluation.specs.Reading.{copied, read_field, read_index}
use Rattle.cad_evaluation.specs.Standing.{Standing, here, led_by, base_of, field_of, element_of, value_at, taken_from, referred_to, receiver_from, receiver_of_chain, content_at, onward}
use Rattle.cad_evaluation.specs.Uses.{before, array_of, Pair, dictionary_of, callable, invoked, tick_if_called, held, wrapped_if, forced, coalesced, nil_told, both, either, before_value}

abbrev pub self_of : Option Frame → Option ℕ
self_of None = None
self_of (Some f) = f.self

-- the receiver of the running function
abbrev pub own_self : Action Standing
own_self = λ s. with_some (self_of (newest s)) (λ l. give (here None (receiver l) 0)) s

-- by the operator, with what the second operand means
abbrev pub combined : BinaryOperator → Tree → Action Tree → Action Tree
combined And a right = both a right
combined Or a right = either a right
combined operation a right = right >>= operator.binary operation a

-- with the receiver of `?.`: nil where there is none
abbrev pub chained : Bool → (Receiver → Action Tree) → Option Receiver → Action Tree
chained wraps f None = give nil_tree
chained wraps f (Some r) = f r >>= (λ t. give (wrapped_if wraps t))

abbrev mutual
  -- A place: where it is, or the reference that leads there; whether it is written. What an index is of is looked at after it.
  pub eval_place : Front → Calls → e.PlaceTree → Bool → Action Standing
  eval_place front calls (e.variable n) writes = give (here None (variable n) 0)
  eval_place front calls e.self writes = own_self
  eval_place front calls (e.contract id) writes = give (here None (contract id) 0)
  eval_place front calls (e.target a) writes = eval front calls a >>= (λ t. give (led_by t))
  eval_place front calls (e.field p type n) writes = eval_place front calls p false >>= onward (λ place. base_of place >>= field_of writes n)
  eval_place front calls (e.element p type a) writes =
      eval_place front calls p false >>= onward (λ place. receiver_from place >>= (λ base.
      eval front calls a >>= (λ index. look_at base >>= element_of writes index)))
  eval_place front calls (e.content p forces) writes = eval_place front calls p false >>= onward (content_at forces)

  -- what is done with a receiver: it is looked at before the arguments, and again after them
  pub eval_use : Front → Calls → e.UseTree → Receiver → Action Tree
  eval_use front calls (e.get n right) r = look_at r >>= read_field n right
  eval_use front calls (e.method n is_view is_never all) r =
      look_at r >>= callable n >> eval_arguments front calls all >>= (λ row. tick >> look_at r >>= invoked calls n row)
  eval_use front calls (e.builtin_field b) r = look_at r >>= (λ spot. guard (may_use b spot) (member front calls b [] spot stop))
  eval_use front calls (e.builtin_call b types all) r =
      look_at r >>= (λ first. guard (may_use b first)
      (eval_arguments front calls all >>= (λ row. tick >> look_at r >>= (λ spot. member front calls b types spot row))))

  pub eval : Front → Calls → e.TermTree → Action Tree
  eval front calls (e.number n) = give (number_tree n)
  eval front calls (e.address a) = give (of_plain (v.address a))
  eval front calls (e.bool x) = give (of_plain (v.bool x))
  eval front calls e.nil = give nil_tree
  eval front calls (e.string text) = give (of_plain (v.string text))
  eval front calls (e.character text) = give (of_plain (v.character text))
  eval front calls (e.path p) = give (of_plain (v.path p))
  eval front calls (e.meta type) = tick >> give (type_tree type)
  eval front calls (e.case id n) = case_tree id n
  eval front calls (e.copy p) = eval_place front calls p false >>= value_at >>= copied
  eval front calls (e.take p) = eval_place front calls p false >>= taken_from
  eval front calls (e.array type es) = eval_terms front calls type es >>= array_of type
  eval front calls (e.dictionary key value es) = eval_entries front calls key value es >>= dictionary_of key value
  eval front calls (e.construct id all) = eval_arguments front calls all >>= (λ row. tick >> construct calls id row)
  eval front calls (e.create id all) = eval_arguments front calls all >>= (λ row. tick >> create calls id row)
  eval front calls (e.call n is_view is_never all) = eval_arguments front calls all >>= (λ row. tick >> calls (function n) row)
  eval front calls (e.builtin b types all) = eval_arguments front calls all >>= (λ row. tick_if_called b >> built_in.function b types row)
  eval front calls (e.on p u) = eval_place front calls p false >>= receiver_from >>= eval_use front calls u
  eval front calls (e.chain p u wraps) = eval_place front calls p false >>= receiver_of_chain >>= chained wraps (eval_use front calls u)
  eval front calls (e.index p type a) =
      eval_place front calls p false >>= receiver_from >>= (λ base. eval front calls a >>= (λ index. look_at base >>= read_index index))
  eval front calls (e.hold n type a rest) = eval front calls a >>= (λ t. held n t (eval front calls rest))
  eval front calls (e.destroy a) = eval front calls a >>= destroyed calls >> give void_tree
  eval front calls (e.borrow p a type one wraps) = eval_place front calls p false >>= referred_to a one wraps
  eval front calls (e.unary operation a) = eval front calls a >>= operator.unary operation
  eval front calls (e.force a) = eval front calls a >>= forced
  eval front calls (e.cast kind a type) = eval front calls a >>= cast kind type
  eval front calls (e.binary operation a b) = eval front calls a >>= (λ x. combined operation x (eval front calls b))
  eval front calls (e.coalesce a b takes type) = eval front calls a >>= (λ x. coalesced takes type x (eval front calls b))
  eval front calls (e.is_nil p negated) = eval_place front calls p false >>= value_at >>= nil_told negated
  eval front calls (e.conditional a b c) = eval front calls a >>= (λ x. by_truth (truth_of x) (eval front calls b) (eval front calls c))
  eval front calls (e.before n) = before_value n

  -- elements, each come to the type
  pub eval_terms : Front → Calls → PureType → e.Terms → Action Row
  eval_terms front calls type e.no_terms = give stop
  eval_terms front calls type (e.terms a es) =
      eval front calls a >>= transferred type >>= (λ t. eval_terms front calls type es >>= before t)

  -- arguments, each come to the type of its place
  pub eval_arguments : Front → Calls → e.Arguments → Action Row
  eval_arguments front calls e.no_arguments = give stop
  eval_arguments front calls (e.arguments a type all) =
      eval front calls a >>= transferred type >>= (λ t. eval_arguments front calls all >>= before t)

  pub eval_entries : Front → Calls → PureType → PureType → e.TermEntries → Action (List Pair)
  eval_entries front calls key value e.no_entries = give []
  eval_entries front calls key value (e.entries a b es) =
      eval front calls a >>= transferred key >>= (λ k. eval front calls b >>= transferred value >>= (λ t.
      eval_entries front calls key value es >>= (λ ps. give (record { key = k; value = t } ∷ ps))))
