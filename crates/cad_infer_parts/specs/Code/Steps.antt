-- The recursion under names that stay folded, and what is done with the results of parts: so the code of a form is proved
-- without a look into the definitions of its parts.
use Rattle.std.specs.Prelude.{Option, Some, None, List}
use Rattle.cad_syntax.specs.Types.{PureType}
use Rattle.cad_syntax.specs.declared.text.Name.{Name}
use Rattle.cad_grammar.specs.Trees as s
use Rattle.cad_grammar.specs.declared.expression.BinaryOperator.{BinaryOperator}
use Rattle.cad_grammar.specs.declared.expression.UnaryOperator.{UnaryOperator}
use Rattle.cad_grammar.specs.declared.expression.UnaryOperator.TheVariants as operator
use Rattle.cad_grammar.specs.declared.expression.CastKind.{CastKind}
use Rattle.cad_grammar.specs.declared.expression.CastKind.TheVariants as kind
use Rattle.cad_declarations.specs.Typed as tree
use Rattle.cad_typing.specs.Befores.{behind}
use Rattle.cad_typing.specs.Calls.{Call, Count, Parameter, Takes, call_head, call_member, call_typed}
use Rattle.cad_typing.specs.Chains.{chain_value, chain_call, base_of_chain, forced_base}
use Rattle.cad_typing.specs.Containers.{array_typed, dictionary_typed, expected_element}
use Rattle.cad_typing.specs.Environments.{Environment, Position, ordinary, moved, Typing, ◌>=>◌}
use Rattle.cad_typing.specs.Expressions as spec
use Rattle.cad_typing.specs.Fields.{value_of_member, base_of_member, expected_index, index_value, index_base}
use Rattle.cad_typing.specs.Literals.{whole_literal, fixed_literal, text_literal, bool_literal, nil_literal, path_literal}
use Rattle.cad_typing.specs.Names.{head, value_of_head, self_value}
use Rattle.cad_typing.specs.Operators.{literal_under_minus, inverted, destroyed, taken, forced, negated_value, compared_with_nil, joined, coalesced, chosen}
use Rattle.cad_typing.specs.Receivers.{Receiver, Base, receiver_in, beside}
use Rattle.cad_typing.specs.References.{borrowed, dereferenced, cast_static, cast_failable, cast_forced}
use Rattle.cad_typing.specs.Types.{content}
use Rattle.cad_infer_parts.specs.Code.Operands.{operated}
use Rattle.cad_infer_parts.specs.Code.Rows as rows

-- ---- the recursion

unfoldable pub typing : Environment → Position → Option PureType → s.ExprTree → Option Typing
typing env position expected e = spec.infer env position expected e

unfoldable pub place : Environment → s.ExprTree → Option Base
place env e = spec.infer_place env e

unfoldable pub callee : Environment → s.Annotations → s.ExprTree → Option Call
callee env types f = spec.infer_callee env types f

unfoldable pub arguments : Environment → Count → List Parameter → s.Arguments → Option tree.Arguments
arguments env count ps all = spec.infer_arguments env count ps all

unfoldable pub elements : Environment → Option PureType → s.Exprs → Option (List Typing)
elements env expected all = spec.infer_elements env expected all

unfoldable pub entries : Environment → Option PureType → Option PureType → s.Entries → Option (List (Typing × Typing))
entries env key value all = spec.infer_entries env key value all

-- ---- what stands before `.`, `?.`, `[` and `!`

unfoldable pub based : Environment → s.ExprTree → Option Base
based env a = spec.based env a (λ u. spec.infer_place env a) (λ u. spec.infer env ordinary None a)

unfoldable pub based_in_chain : Environment → s.ExprTree → Option Base
based_in_chain env a = spec.based_in_chain env a (λ u. spec.infer_place env a) (λ u. spec.infer env ordinary None a)

unfoldable pub received : Option Base → Option Receiver
received o = o >=> receiver_in

-- ---- what is done with them

unfoldable pub member_then : Environment → Position → Name → Option Base → Option Typing
member_then env position n o = o >=> value_of_member env position n

unfoldable pub chain_then : Environment → Name → Option Base → Option Typing
chain_then env n o = o >=> chain_value env n

unfoldable pub index_environment : Environment → s.ExprTree → Receiver → Environment
index_environment env a r = beside r.hidden (behind a env)

unfoldable pub index_then : Environment → Receiver → Option Typing → Option Typing
index_then env r o = o >=> index_value env r

unfoldable pub force_then : Environment → s.ExprTree → Option Typing → Option Typing
force_then env a o = o >=> forced env a

unfoldable pub nil_then : BinaryOperator → Option Base → Option Typing
nil_then op o = o >=> compared_with_nil op

unfoldable pub operands_then : Environment → BinaryOperator → spec.Family → Typing → Option Typing → Option Typing
operands_then env op family x o = o >=> operated env op family x

unfoldable pub joined_then : BinaryOperator → Typing → Option Typing → Option Typing
joined_then op x o = o >=> joined op x

unfoldable pub chosen_then : Environment → Typing → Typing → Option Typing → Option Typing
chosen_then env test x o = o >=> chosen env test x

unfoldable pub array_then : Environment → Option PureType → Option (List Typing) → Option Typing
array_then env expected o = o >=> array_typed env (expected_element expected)

unfoldable pub dictionary_then : Environment → Option PureType → Option (List (Typing × Typing)) → Option Typing
dictionary_then env expected o = o >=> dictionary_typed env expected

unfoldable pub call_then : Call → Option tree.Arguments → Option Typing
call_then c o = o >=> call_typed c

unfoldable pub member_place_then : Environment → Name → Option Base → Option Base
member_place_then env n o = o >=> base_of_member env n

unfoldable pub chain_place_then : Environment → Name → Option Base → Option Base
chain_place_then env n o = o >=> base_of_chain env n

unfoldable pub index_place_then : Environment → Receiver → Option Typing → Option Base
index_place_then env r o = o >=> index_base env r

unfoldable pub force_place_then : Environment → Option Receiver → Option Base
force_place_then env o = o >=> forced_base env

unfoldable pub named_call : Environment → s.Annotations → s.ExprTree → Name → Option Call
named_call env types f n = spec.name_call env types f (head env n >=> call_head env types)

unfoldable pub member_call_then : Environment → s.Annotations → Name → Option Base → Option Call
member_call_then env types n o = o >=> call_member env types n

unfoldable pub chain_call_then : Environment → s.Annotations → Name → Option Base → Option Call
chain_call_then env types n o = o >=> chain_call env types n

-- a literal under `-`
unfoldable pub literal_of : UnaryOperator → Option PureType → s.ExprTree → Option (Option Typing)
literal_of operator.Negate expected a = literal_under_minus expected a
literal_of _ expected a = None

-- where an operand stands, and what it expects
unfoldable pub operand_position : UnaryOperator → Position
operand_position operator.Move = moved
operand_position operator.Destroy = moved
operand_position _ = ordinary

unfoldable pub operand_expected : UnaryOperator → Option PureType → Option PureType
operand_expected operator.Negate expected = expected
operand_expected operator.Move expected = expected
operand_expected _ expected = None

unfoldable pub unary_then : Environment → UnaryOperator → s.ExprTree → Option Typing → Option Typing
unary_then env operator.Negate a o = o >=> negated_value
unary_then env operator.Not a o = o >=> inverted
unary_then env operator.Dereference a o = o >=> dereferenced
unary_then env operator.Move a o = o >=> taken env a
unary_then env operator.Destroy a o = o >=> destroyed env

unfoldable pub cast_position : CastKind → Position → Position
cast_position kind.Failable position = ordinary
cast_position _ position = position

unfoldable pub cast_expected : CastKind → PureType → Option PureType
cast_expected kind.Static t = Some t
cast_expected _ t = None

unfoldable pub cast_then : Environment → CastKind → PureType → Option Typing → Option Typing
cast_then env kind.Static t o = o >=> cast_static env t
cast_then env kind.Failable t o = o >=> cast_failable env t
cast_then env kind.Forced t o = o >=> cast_forced env t

unfoldable pub borrow_then : Environment → s.ExprTree → s.TypeTree → Option Base → Option Typing
borrow_then env a t o = o >=> borrowed env a t

-- ---- forms of two parts

unfoldable pub operand_then : Environment → BinaryOperator → spec.Family → s.ExprTree → s.ExprTree → Option Typing → Option Typing
operand_then env op family a b None = None
operand_then env op family a b (Some x) = operands_then env op family x (typing (behind a env) ordinary (Some x.type) b)

unfoldable pub logical_then : Environment → BinaryOperator → s.ExprTree → s.ExprTree → Option Typing → Option Typing
logical_then env op a b None = None
logical_then env op a b (Some x) = joined_then op x (typing (behind a env) ordinary None b)

unfoldable pub content_then : Environment → s.ExprTree → s.ExprTree → Typing → Option Typing
content_then env a b x = content x.type >=> (λ t. typing (behind a env) ordinary (Some t) b)

unfoldable pub coalesced_then : Environment → Typing → Option Typing → Option Typing
coalesced_then env x o = o >=> (λ y. content x.type >=> (λ t. coalesced env x t y))

unfoldable pub coalesce_then : Environment → s.ExprTree → s.ExprTree → Option Typing → Option Typing
coalesce_then env a b None = None
coalesce_then env a b (Some x) = coalesced_then env x (content_then env a b x)

unfoldable pub element_then : Environment → s.ExprTree → s.ExprTree → Option Receiver → Option Typing
element_then env a b None = None
element_then env a b (Some r) = index_then env r (typing (index_environment env a r) ordinary (expected_index r.type) b)

unfoldable pub element_place_then : Environment → s.ExprTree → s.ExprTree → Option Receiver → Option Base
element_place_then env a b None = None
element_place_then env a b (Some r) = index_place_then env r (typing (index_environment env a r) ordinary (expected_index r.type) b)

unfoldable pub arguments_environment : Environment → s.ExprTree → Call → Environment
arguments_environment env f c = spec.environment_of env f c

unfoldable pub called_then : Environment → s.ExprTree → s.Arguments → Option Call → Option Typing
called_then env f all None = None
called_then env f all (Some c) = call_then c (arguments (arguments_environment env f c) c.count c.parameters all)

unfoldable pub second_then : Environment → Option PureType → s.ExprTree → s.ExprTree → s.ExprTree → Typing → Option Typing → Option Typing
second_then env expected a b c test None = None
second_then env expected a b c test (Some x) = chosen_then env test x (typing (behind b (behind a env)) ordinary expected c)

unfoldable pub branch_then : Environment → Option PureType → s.ExprTree → s.ExprTree → s.ExprTree → Option Typing → Option Typing
branch_then env expected a b c None = None
branch_then env expected a b c (Some test) = second_then env expected a b c test (typing (behind a env) ordinary expected b)

unfoldable pub create_then : Environment → Call → s.Arguments → Option Typing
create_then env c all = call_then c (arguments env c.count c.parameters all)

-- ---- the items of lists

unfoldable pub element_typed : Environment → Option PureType → s.ExprTree → Option Typing
element_typed env expected a = rows.element_typed env expected a

unfoldable pub entry_typed : Environment → Option PureType → Option PureType → s.EntryTree → Option (Typing × Typing)
entry_typed env key value p = rows.entry_typed env key value p

unfoldable pub argument_typed : Environment → Takes → s.ExprTree → Option tree.TargetedTerm
argument_typed env takes a = rows.argument_typed env takes a

-- ---- forms, and nothing of any other form

unfoldable pub flat : Option (Option Typing) → Option Typing
flat None = None
flat (Some o) = o

-- those that hold no expression
unfoldable pub alone_form : Environment → Position → Option PureType → s.ExprTree → Option (Option Typing)
alone_form env position expected (s.whole n is_hexadecimal) = Some (whole_literal expected n is_hexadecimal)
alone_form env position expected (s.fixed n) = Some (fixed_literal expected n)
alone_form env position expected (s.text text) = Some (text_literal expected text)
alone_form env position expected (s.bool b) = Some (bool_literal b)
alone_form env position expected s.nil = Some nil_literal
alone_form env position expected s.self = Some (self_value env)
alone_form env position expected (s.name n) = Some (head env n >=> value_of_head env position)
alone_form env position expected (s.path p) = Some (path_literal p)
alone_form env position expected _ = None

unfoldable pub binary_form : Environment → Position → Option PureType → s.ExprTree → Option (Option Typing)
binary_form env position expected (s.binary op a b) = Some (typing env position expected (s.binary op a b))
binary_form env position expected _ = None

unfoldable pub conditional_form : Environment → Option PureType → s.ExprTree → Option (Option Typing)
conditional_form env expected (s.conditional a b c) = Some (typing env ordinary expected (s.conditional a b c))
conditional_form env expected _ = None
