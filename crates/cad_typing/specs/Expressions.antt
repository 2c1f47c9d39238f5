-- The type of an expression, and its elaborated tree.
use Rattle.std.specs.Prelude.{Bool, true, false, ◌&&◌, Option, Some, None, List, [], ◌∷◌, if◌then◌else◌}
use Rattle.cad_syntax.specs.Types.{PureType}
use Rattle.cad_grammar.specs.Trees as s
use Rattle.cad_grammar.specs.Trees.{ExprTree, Exprs, Entries}
use Rattle.cad_grammar.specs.declared.expression.BinaryOperator.{BinaryOperator}
use Rattle.cad_grammar.specs.declared.expression.BinaryOperator.TheVariants as binary
use Rattle.cad_grammar.specs.declared.expression.UnaryOperator.TheVariants as unary
use Rattle.cad_grammar.specs.declared.expression.CastKind.TheVariants as cast
use Rattle.cad_declarations.specs.Formed.{resolved_annotation}
use Rattle.cad_declarations.specs.Typed as e
use Rattle.cad_typing.specs.Befores.{is_before, behind, at_entry}
use Rattle.cad_typing.specs.Calls.{Call, Callee, of_before, Count, Parameter, call_head, call_member, create_call, before_call, call_typed}
use Rattle.cad_typing.specs.Chains.{chain_value, chain_call, base_of_chain, forced_base}
use Rattle.cad_typing.specs.Containers.{element, array_typed, dictionary_typed, expected_element, expected_key, expected_value, argument, expected_argument, next_parameter, may_end}
use Rattle.cad_typing.specs.Environments.{Environment, Position, ordinary, moved, Typing, scope, when, ◌>=>◌}
use Rattle.cad_typing.specs.Fields.{value_of_member, base_of_member, index_of, index_value, index_base}
use Rattle.cad_typing.specs.Literals.{whole_literal, fixed_literal, text_literal, bool_literal, nil_literal, path_literal}
use Rattle.cad_typing.specs.Names.{head, value_of_head, base_of_head, self_value, self_base, is_postcondition}
use Rattle.cad_typing.specs.Operators.{literal_under_minus, negated, inverted, destroyed, taken, forced, arithmetic, ordered, compared, compared_with_nil, joined, chosen, coalesced}
use Rattle.cad_typing.specs.Receivers.{Base, receiver_in, held, beside, is_path, is_path_of_chain, is_place, is_nil}
use Rattle.cad_typing.specs.References.{borrowed, dereferenced, cast_static, cast_failable, cast_forced}
use Rattle.cad_typing.specs.Types.{content, is_number_type, is_integer_type}

-- ---- operators by what they ask

pub data Family : Type 0 where
  arithmetical bitwise ordering equality left_beside_nil right_beside_nil logical coalescing : Family

abbrev pub equality_of : Bool → Bool → Family
equality_of left_is_nil true = left_beside_nil
equality_of true false = right_beside_nil
equality_of false false = equality

abbrev pub family : BinaryOperator → ExprTree → ExprTree → Family
family binary.Or a b = logical
family binary.And a b = logical
family binary.Less a b = ordering
family binary.LessOrEqual a b = ordering
family binary.Greater a b = ordering
family binary.GreaterOrEqual a b = ordering
family binary.Equal a b = equality_of (is_nil a) (is_nil b)
family binary.NotEqual a b = equality_of (is_nil a) (is_nil b)
family binary.Coalesce a b = coalescing
family binary.BitOr a b = bitwise
family binary.BitXor a b = bitwise
family binary.BitAnd a b = bitwise
family binary.Add a b = arithmetical
family binary.Subtract a b = arithmetical
family binary.Multiply a b = arithmetical
family binary.Divide a b = arithmetical
family binary.Remainder a b = arithmetical

-- an operand in a position, by what is expected of it
abbrev pub Operand : Type 0
Operand = Position → Option PureType → Option Typing

-- the right operand expects the left one's type
abbrev pub operands : Option Typing → Operand → (Typing → Typing → Option Typing) → Option Typing
operands left right f = left >=> (λ x. right ordinary (Some x.type) >=> f x)

-- An operator between two operands, which are a value each, or what stands beside the literal nil. The left operand of a
-- number's operator expects what the form expects.
abbrev pub operation : Environment → Position → Option PureType → BinaryOperator → Family → Operand → Operand → (Unit {0} → Option Base) → (Unit {0} → Option Base) → Option Typing
operation env position expected op arithmetical a b left right = operands (a ordinary expected) b (arithmetic is_number_type op)
operation env position expected op bitwise a b left right = operands (a ordinary expected) b (arithmetic is_integer_type op)
operation env position expected op ordering a b left right = operands (a ordinary None) b (ordered op)
operation env position expected op equality a b left right = operands (a ordinary None) b (compared env op)
operation env position expected op left_beside_nil a b left right = left tt >=> compared_with_nil op
operation env position expected op right_beside_nil a b left right = right tt >=> compared_with_nil op
operation env position expected op logical a b left right = a ordinary None >=> (λ x. b ordinary None >=> joined op x)
operation env position expected op coalescing a b left right =
    a position None >=> (λ x. content x.type >=> (λ t. b ordinary (Some t) >=> coalesced env x t))

-- ---- parts

-- what stands before `.`, `?.` and `[`: a name, `self`, a member or index is looked up, any other value is held
abbrev pub based : Environment → ExprTree → (Unit {0} → Option Base) → (Unit {0} → Option Typing) → Option Base
based env a looked_up evaluated = by_form (is_path a)
  where
    by_form : Bool → Option Base
    by_form true = looked_up tt
    by_form false = evaluated tt >=> held env

-- what stands before `?.`
abbrev pub based_in_chain : Environment → ExprTree → (Unit {0} → Option Base) → (Unit {0} → Option Typing) → Option Base
based_in_chain env a looked_up evaluated = by_form (is_path_of_chain a)
  where
    by_form : Bool → Option Base
    by_form true = looked_up tt
    by_form false = evaluated tt >=> held env

-- where the arguments of a call stand: behind what is called, and under `before` at entry
abbrev pub environment_of : Environment → ExprTree → Call → Environment
environment_of env f c = by_callee c.callee
  where
    by_callee : Callee → Environment
    by_callee (of_before n) = at_entry env
    by_callee _ = beside c.hidden (behind f env)

-- `before` is called in postconditions alone; else what the name stands for
abbrev pub name_call : Environment → s.Annotations → ExprTree → Option Call → Option Call
name_call env types f otherwise = if is_postcondition env.part && is_before f then before_call env types else otherwise

abbrev mutual
  -- The expression in an environment and a position, where a value of the given type is expected, if one is: its tree and
  -- its type, or nothing where it has none.
  pub infer : Environment → Position → Option PureType → ExprTree → Option Typing
  infer env position expected (s.whole n is_hexadecimal) = whole_literal expected n is_hexadecimal
  infer env position expected (s.fixed n) = fixed_literal expected n
  infer env position expected (s.text text) = text_literal expected text
  infer env position expected (s.bool b) = bool_literal b
  infer env position expected s.nil = nil_literal
  infer env position expected (s.path p) = path_literal p
  infer env position expected (s.name n) = head env n >=> value_of_head env position
  infer env position expected s.self = self_value env
  infer env position expected (s.list all) =
      infer_elements env (expected_element expected) all >=> array_typed env (expected_element expected)
  infer env position expected (s.pairs all) =
      infer_entries env (expected_key expected) (expected_value expected) all >=> dictionary_typed env expected
  infer env position expected (s.create names all) =
      create_call env names >=> (λ c. infer_arguments env c.count c.parameters all >=> call_typed c)
  infer env position expected (s.call f types all) =
      infer_callee env types f >=> (λ c. infer_arguments (environment_of env f c) c.count c.parameters all >=> call_typed c)
  infer env position expected (s.member a n) =
      based env a (λ u. infer_place env a) (λ u. infer env ordinary None a) >=> value_of_member env position n
  infer env position expected (s.optional_member a n) =
      based_in_chain env a (λ u. infer_place env a) (λ u. infer env ordinary None a) >=> chain_value env n
  infer env position expected (s.index a b) =
      based env a (λ u. infer_place env a) (λ u. infer env ordinary None a) >=> receiver_in >=> (λ r.
      index_of env r (λ v. infer (beside r.hidden (behind a env)) ordinary v b) >=> index_value env r)
  infer env position expected (s.force a) = infer env ordinary None a >=> forced env a
  infer env position expected (s.unary unary.Negate a) = negated (literal_under_minus expected a) (λ v. infer env ordinary v a) expected
  infer env position expected (s.unary unary.Not a) = infer env ordinary None a >=> inverted
  infer env position expected (s.unary unary.Dereference a) = infer env ordinary None a >=> dereferenced
  infer env position expected (s.unary unary.Move a) = infer env moved expected a >=> taken env a
  infer env position expected (s.unary unary.Destroy a) = infer env moved None a >=> destroyed env
  infer env position expected (s.borrow a t) = when (is_place a) (infer_place env a >=> borrowed env a t)
  infer env position expected (s.cast cast.Static a t) =
      resolved_annotation (scope env) t >=> (λ u. infer env position (Some u) a >=> cast_static env u)
  infer env position expected (s.cast cast.Failable a t) =
      resolved_annotation (scope env) t >=> (λ u. infer env ordinary None a >=> cast_failable env u)
  infer env position expected (s.cast cast.Forced a t) =
      resolved_annotation (scope env) t >=> (λ u. infer env position None a >=> cast_forced env u)
  infer env position expected (s.binary op a b) =
      operation env position expected op (family op a b) (λ p v. infer env p v a) (λ p v. infer (behind a env) p v b)
      (λ u. based env a (λ u. infer_place env a) (λ u. infer env ordinary None a))
      (λ u. based env b (λ u. infer_place env b) (λ u. infer env ordinary None b))
  infer env position expected (s.conditional a b c) =
      infer env ordinary None a >=> (λ x. infer (behind a env) ordinary expected b >=> (λ y.
      infer (behind b (behind a env)) ordinary expected c >=> chosen env x y))

  -- where a name, `self`, a member, an element or a content stands
  pub infer_place : Environment → ExprTree → Option Base
  infer_place env (s.name n) = head env n >=> base_of_head env
  infer_place env s.self = self_base env
  infer_place env (s.member a n) =
      based env a (λ u. infer_place env a) (λ u. infer env ordinary None a) >=> base_of_member env n
  infer_place env (s.index a b) =
      based env a (λ u. infer_place env a) (λ u. infer env ordinary None a) >=> receiver_in >=> (λ r.
      index_of env r (λ v. infer (beside r.hidden (behind a env)) ordinary v b) >=> index_base env r)
  infer_place env (s.force a) =
      based env a (λ u. infer_place env a) (λ u. infer env ordinary None a) >=> receiver_in >=> forced_base env
  infer_place env (s.optional_member a n) =
      based_in_chain env a (λ u. infer_place env a) (λ u. infer env ordinary None a) >=> base_of_chain env n
  infer_place env _ = None

  -- what is called
  pub infer_callee : Environment → s.Annotations → ExprTree → Option Call
  infer_callee env types (s.name n) = name_call env types (s.name n) (head env n >=> call_head env types)
  infer_callee env types (s.member a n) =
      based env a (λ u. infer_place env a) (λ u. infer env ordinary None a) >=> call_member env types n
  infer_callee env types (s.optional_member a n) =
      based_in_chain env a (λ u. infer_place env a) (λ u. infer env ordinary None a) >=> chain_call env types n
  infer_callee env types _ = None

  -- arguments, each with the type to which it is transferred
  pub infer_arguments : Environment → Count → List Parameter → s.Arguments → Option e.Arguments
  infer_arguments env count ps s.no_arguments = when (may_end count ps) (Some e.no_arguments)
  infer_arguments env count ps (s.arguments label a all) = next_parameter count ps label >=> (λ p.
      infer env ordinary (expected_argument p.takes) a >=> argument env p.takes a >=> (λ x.
      infer_arguments (behind a env) count p.others all >=> (λ xs. Some (e.arguments x.value x.target xs))))

  -- elements, each of which expects the type, if one is given, and fits it
  pub infer_elements : Environment → Option PureType → Exprs → Option (List Typing)
  infer_elements env expected s.no_exprs = Some []
  infer_elements env expected (s.exprs a all) = infer env ordinary expected a >=> element env expected a >=> (λ x.
      infer_elements (behind a env) expected all >=> (λ xs. Some (x ∷ xs)))

  -- keys and values
  pub infer_entries : Environment → Option PureType → Option PureType → Entries → Option (List (Typing × Typing))
  infer_entries env key value s.no_entries = Some []
  infer_entries env key value (s.entries a b all) = infer env ordinary key a >=> element env key a >=> (λ x.
      infer (behind a env) ordinary value b >=> element env value b >=> (λ y.
      infer_entries (behind b (behind a env)) key value all >=> (λ ps. Some ((x, y) ∷ ps))))
