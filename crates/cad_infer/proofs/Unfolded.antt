-- Each form as its parts, and what is done with them.
use Rattle.std.proofs.Common.{◌≡◌, Option, Some, None, refl}
use Rattle.cad_syntax.specs.Types.{PureType}
use Rattle.cad_syntax.specs.declared.text.Name.{Name}
use Rattle.cad_syntax.specs.declared.address.Path.{Path}
use Rattle.cad_grammar.specs.Trees as s
use Rattle.cad_typing.specs.Containers.{expected_element, expected_key, expected_value}
use Rattle.cad_typing.specs.Environments.{Environment, Position, ordinary}
use Rattle.std.proofs.Common.{ℕ, Bool, true, false, ap, ◌∙◌, List}
use Rattle.cad_grammar.specs.declared.expression.UnaryOperator.{UnaryOperator}
use Rattle.cad_grammar.specs.declared.expression.UnaryOperator.TheVariants as operator
use Rattle.cad_grammar.specs.declared.expression.BinaryOperator.{BinaryOperator}
use Rattle.cad_grammar.specs.declared.expression.CastKind.{CastKind}
use Rattle.cad_grammar.specs.declared.expression.CastKind.TheVariants as kind
use Rattle.cad_declarations.specs.Formed.{resolved_annotation}
use Rattle.cad_typing.specs.Expressions as spec
use Rattle.cad_typing.specs.Environments.{Typing, scope, when, ◌>=>◌}
use Rattle.cad_typing.specs.Befores.{behind}
use Rattle.cad_typing.specs.Calls.{Call, call_typed, create_call}
use Rattle.cad_typing.specs.Fields.{expected_index, index_value, index_base}
use Rattle.cad_typing.specs.Types.{content}
use Rattle.cad_infer_parts.specs.Code.Operands.{operated}
use Rattle.cad_typing.specs.Operators.{negated, joined, coalesced, chosen}
use Rattle.cad_typing.specs.Names.{self_base}
use Rattle.cad_typing.specs.Receivers.{Receiver, beside, receiver_in, is_place, is_path, is_path_of_chain, held}
use Rattle.cad_typing.specs.References.{cast_static, cast_failable, cast_forced, borrowed}
use Rattle.cad_infer_parts.specs.Code.Steps.{typing, place, callee, arguments, elements, entries, based, based_in_chain, received, member_then, chain_then, force_then, array_then, dictionary_then, member_place_then, chain_place_then, force_place_then, named_call, member_call_then, chain_call_then, literal_of, operand_position, operand_expected, unary_then, cast_position, cast_expected, cast_then, borrow_then, operand_then, logical_then, coalesce_then, element_then, element_place_then, called_then, branch_then, second_then, nil_then, content_then, coalesced_then, index_environment, index_then, index_place_then, arguments_environment, call_then, chosen_then, operands_then, joined_then, flat, alone_form, binary_form, conditional_form}

pub member_is : (env : Environment) (position : Position) (expected : Option PureType) (a : s.ExprTree) (n : Name) → typing env position expected (s.member a n) ≡ member_then env position n (based env a)
unfolding typing member_then based
member_is env position expected a n = refl

pub chain_is : (env : Environment) (position : Position) (expected : Option PureType) (a : s.ExprTree) (n : Name) → typing env position expected (s.optional_member a n) ≡ chain_then env n (based_in_chain env a)
unfolding typing chain_then based_in_chain
chain_is env position expected a n = refl

pub force_is : (env : Environment) (position : Position) (expected : Option PureType) (a : s.ExprTree) → typing env position expected (s.force a) ≡ force_then env a (typing env ordinary None a)
unfolding typing force_then
force_is env position expected a = refl

pub array_is : (env : Environment) (position : Position) (expected : Option PureType) (all : s.Exprs) → typing env position expected (s.list all) ≡ array_then env expected (elements env (expected_element expected) all)
unfolding typing array_then elements
array_is env position expected all = refl

pub dictionary_is : (env : Environment) (position : Position) (expected : Option PureType) (all : s.Entries) → typing env position expected (s.pairs all) ≡ dictionary_then env expected (entries env (expected_key expected) (expected_value expected) all)
unfolding typing dictionary_then entries
dictionary_is env position expected all = refl

pub member_place_is : (env : Environment) (a : s.ExprTree) (n : Name) → place env (s.member a n) ≡ member_place_then env n (based env a)
unfolding place member_place_then based
member_place_is env a n = refl

pub chain_place_is : (env : Environment) (a : s.ExprTree) (n : Name) → place env (s.optional_member a n) ≡ chain_place_then env n (based_in_chain env a)
unfolding place chain_place_then based_in_chain
chain_place_is env a n = refl

pub force_place_is : (env : Environment) (a : s.ExprTree) → place env (s.force a) ≡ force_place_then env (received (based env a))
unfolding place force_place_then received based
force_place_is env a = refl

pub callee_name_is : (env : Environment) (types : s.Annotations) (n : Name) → callee env types (s.name n) ≡ named_call env types (s.name n) n
unfolding callee named_call
callee_name_is env types n = refl

pub member_call_is : (env : Environment) (types : s.Annotations) (a : s.ExprTree) (n : Name) → callee env types (s.member a n) ≡ member_call_then env types n (based env a)
unfolding callee member_call_then based
member_call_is env types a n = refl

pub chain_call_is : (env : Environment) (types : s.Annotations) (a : s.ExprTree) (n : Name) → callee env types (s.optional_member a n) ≡ chain_call_then env types n (based_in_chain env a)
unfolding callee chain_call_then based_in_chain
chain_call_is env types a n = refl

-- ---- operators of one operand, casts and references

pub unary_is : (env : Environment) (position : Position) (expected : Option PureType) (op : UnaryOperator) (a : s.ExprTree) → literal_of op expected a ≡ None
    → typing env position expected (s.unary op a) ≡ unary_then env op a (typing env (operand_position op) (operand_expected op expected) a)
unfolding typing literal_of operand_position operand_expected unary_then
unary_is env position expected operator.Negate a none = ap (λ o. negated o (λ v. spec.infer env ordinary v a) expected) none
unary_is env position expected operator.Not a none = refl
unary_is env position expected operator.Dereference a none = refl
unary_is env position expected operator.Move a none = refl
unary_is env position expected operator.Destroy a none = refl

pub literal_is : (env : Environment) (position : Position) (expected : Option PureType) (op : UnaryOperator) (a : s.ExprTree) (x : Option Typing) → literal_of op expected a ≡ Some x
    → typing env position expected (s.unary op a) ≡ x
unfolding typing literal_of
literal_is env position expected operator.Negate a x some = ap (λ o. negated o (λ v. spec.infer env ordinary v a) expected) some
literal_is env position expected operator.Not a x some = cc
literal_is env position expected operator.Dereference a x some = cc
literal_is env position expected operator.Move a x some = cc
literal_is env position expected operator.Destroy a x some = cc

pub cast_is : (env : Environment) (position : Position) (expected : Option PureType) (k : CastKind) (a : s.ExprTree) (t : s.Annotation) (u : PureType) → resolved_annotation (scope env) t ≡ Some u
    → typing env position expected (s.cast k a t) ≡ cast_then env k u (typing env (cast_position k position) (cast_expected k u) a)
unfolding typing cast_position cast_expected cast_then
cast_is env position expected kind.Static a t u some = ap (λ o. o >=> (λ v. spec.infer env position (Some v) a >=> cast_static env v)) some
cast_is env position expected kind.Failable a t u some = ap (λ o. o >=> (λ v. spec.infer env ordinary None a >=> cast_failable env v)) some
cast_is env position expected kind.Forced a t u some = ap (λ o. o >=> (λ v. spec.infer env position None a >=> cast_forced env v)) some

pub cast_none : (env : Environment) (position : Position) (expected : Option PureType) (k : CastKind) (a : s.ExprTree) (t : s.Annotation) → resolved_annotation (scope env) t ≡ None
    → typing env position expected (s.cast k a t) ≡ None
unfolding typing
cast_none env position expected kind.Static a t none = ap (λ o. o >=> (λ v. spec.infer env position (Some v) a >=> cast_static env v)) none
cast_none env position expected kind.Failable a t none = ap (λ o. o >=> (λ v. spec.infer env ordinary None a >=> cast_failable env v)) none
cast_none env position expected kind.Forced a t none = ap (λ o. o >=> (λ v. spec.infer env position None a >=> cast_forced env v)) none

pub borrow_is : (env : Environment) (position : Position) (expected : Option PureType) (a : s.ExprTree) (t : s.TypeTree) → is_place a ≡ true
    → typing env position expected (s.borrow a t) ≡ borrow_then env a t (place env a)
unfolding typing place borrow_then
borrow_is env position expected a t there = ap (λ b. when b (spec.infer_place env a >=> borrowed env a t)) there

pub borrow_none : (env : Environment) (position : Position) (expected : Option PureType) (a : s.ExprTree) (t : s.TypeTree) → is_place a ≡ false
    → typing env position expected (s.borrow a t) ≡ None
unfolding typing
borrow_none env position expected a t none = ap (λ b. when b (spec.infer_place env a >=> borrowed env a t)) none

-- ---- forms of two parts

element_cases : (env : Environment) (a b : s.ExprTree) (o : Option Receiver) → (o >=> (λ r. spec.infer (beside r.hidden (behind a env)) ordinary (expected_index r.type) b >=> index_value env r)) ≡ element_then env a b o
unfolding element_then typing index_environment index_then
element_cases env a b None = refl
element_cases env a b (Some r) = refl

pub index_is : (env : Environment) (position : Position) (expected : Option PureType) (a b : s.ExprTree) → typing env position expected (s.index a b) ≡ element_then env a b (received (based env a))
unfolding typing received based
index_is env position expected a b = element_cases env a b (spec.based env a (λ u. spec.infer_place env a) (λ u. spec.infer env ordinary None a) >=> receiver_in)

element_place_cases : (env : Environment) (a b : s.ExprTree) (o : Option Receiver) → (o >=> (λ r. spec.infer (beside r.hidden (behind a env)) ordinary (expected_index r.type) b >=> index_base env r)) ≡ element_place_then env a b o
unfolding element_place_then typing index_environment index_place_then
element_place_cases env a b None = refl
element_place_cases env a b (Some r) = refl

pub index_place_is : (env : Environment) (a b : s.ExprTree) → place env (s.index a b) ≡ element_place_then env a b (received (based env a))
unfolding place received based
index_place_is env a b = element_place_cases env a b (spec.based env a (λ u. spec.infer_place env a) (λ u. spec.infer env ordinary None a) >=> receiver_in)

called_cases : (env : Environment) (f : s.ExprTree) (all : s.Arguments) (o : Option Call) → (o >=> (λ c. spec.infer_arguments (spec.environment_of env f c) c.count c.parameters all >=> call_typed c)) ≡ called_then env f all o
unfolding called_then arguments arguments_environment call_then
called_cases env f all None = refl
called_cases env f all (Some c) = refl

pub call_is : (env : Environment) (position : Position) (expected : Option PureType) (f : s.ExprTree) (types : s.Annotations) (all : s.Arguments) → typing env position expected (s.call f types all) ≡ called_then env f all (callee env types f)
unfolding typing callee
call_is env position expected f types all = called_cases env f all (spec.infer_callee env types f)

second_cases : (env : Environment) (expected : Option PureType) (a b c : s.ExprTree) (x : Typing) (o : Option Typing) → (o >=> (λ y. spec.infer (behind b (behind a env)) ordinary expected c >=> chosen env x y)) ≡ second_then env expected a b c x o
unfolding second_then typing chosen_then
second_cases env expected a b c x None = refl
second_cases env expected a b c x (Some y) = refl

branch_cases : (env : Environment) (expected : Option PureType) (a b c : s.ExprTree) (o : Option Typing) → (o >=> (λ x. spec.infer (behind a env) ordinary expected b >=> (λ y. spec.infer (behind b (behind a env)) ordinary expected c >=> chosen env x y))) ≡ branch_then env expected a b c o
unfolding branch_then typing
branch_cases env expected a b c None = refl
branch_cases env expected a b c (Some x) = second_cases env expected a b c x (spec.infer (behind a env) ordinary expected b)

pub conditional_is : (env : Environment) (position : Position) (expected : Option PureType) (a b c : s.ExprTree) → typing env position expected (s.conditional a b c) ≡ branch_then env expected a b c (typing env ordinary None a)
unfolding typing
conditional_is env position expected a b c = branch_cases env expected a b c (spec.infer env ordinary None a)

pub tested_is : (env : Environment) (position : Position) (expected : Option PureType) (a b c : s.ExprTree) (t : Typing) → typing env ordinary None a ≡ Some t
    → typing env position expected (s.conditional a b c) ≡ second_then env expected a b c t (typing (behind a env) ordinary expected b)
unfolding branch_then
tested_is env position expected a b c t some = conditional_is env position expected a b c ∙ ap (branch_then env expected a b c) some

pub untested_is : (env : Environment) (position : Position) (expected : Option PureType) (a b c : s.ExprTree) → typing env ordinary None a ≡ None → typing env position expected (s.conditional a b c) ≡ None
unfolding branch_then
untested_is env position expected a b c none = conditional_is env position expected a b c ∙ ap (branch_then env expected a b c) none

operand_cases : (env : Environment) (op : BinaryOperator) (family : spec.Family) (a b : s.ExprTree) (o : Option Typing) → (o >=> (λ x. spec.infer (behind a env) ordinary (Some x.type) b >=> operated env op family x)) ≡ operand_then env op family a b o
unfolding operand_then typing operands_then
operand_cases env op family a b None = refl
operand_cases env op family a b (Some x) = refl

logical_cases : (env : Environment) (op : BinaryOperator) (a b : s.ExprTree) (o : Option Typing) → (o >=> (λ x. spec.infer (behind a env) ordinary None b >=> joined op x)) ≡ logical_then env op a b o
unfolding logical_then typing joined_then
logical_cases env op a b None = refl
logical_cases env op a b (Some x) = refl

content_cases : (m : Option PureType) (f : PureType → Option Typing) (g : PureType → Typing → Option Typing) → (m >=> (λ t. f t >=> g t)) ≡ ((m >=> f) >=> (λ y. m >=> (λ t. g t y)))
content_cases None f g = refl
content_cases (Some t) f g = refl

coalesce_cases : (env : Environment) (a b : s.ExprTree) (o : Option Typing) → (o >=> (λ x. content x.type >=> (λ t. spec.infer (behind a env) ordinary (Some t) b >=> coalesced env x t))) ≡ coalesce_then env a b o
unfolding coalesce_then typing content_then coalesced_then
coalesce_cases env a b None = refl
coalesce_cases env a b (Some x) = content_cases (content x.type) (λ t. spec.infer (behind a env) ordinary (Some t) b) (coalesced env x)

-- an operator by its family
by_family : (env : Environment) (position : Position) (expected : Option PureType) (op : BinaryOperator) (a b : s.ExprTree) (f : spec.Family) → spec.family op a b ≡ f → spec.infer env position expected (s.binary op a b)
    ≡ spec.operation env position expected op f (λ p v. spec.infer env p v a) (λ p v. spec.infer (behind a env) p v b)
    (λ u. spec.based env a (λ u. spec.infer_place env a) (λ u. spec.infer env ordinary None a)) (λ u. spec.based env b (λ u. spec.infer_place env b) (λ u. spec.infer env ordinary None b))
by_family env position expected op a b f e = ap (λ f. spec.operation env position expected op f (λ p v. spec.infer env p v a) (λ p v. spec.infer (behind a env) p v b)
    (λ u. spec.based env a (λ u. spec.infer_place env a) (λ u. spec.infer env ordinary None a)) (λ u. spec.based env b (λ u. spec.infer_place env b) (λ u. spec.infer env ordinary None b))) e

pub arithmetical_is : (env : Environment) (position : Position) (expected : Option PureType) (op : BinaryOperator) (a b : s.ExprTree) → spec.family op a b ≡ spec.arithmetical → typing env position expected (s.binary op a b) ≡ operand_then env op spec.arithmetical a b (typing env ordinary expected a)
unfolding typing
arithmetical_is env position expected op a b e = by_family env position expected op a b spec.arithmetical e ∙ operand_cases env op spec.arithmetical a b (spec.infer env ordinary expected a)

pub bitwise_is : (env : Environment) (position : Position) (expected : Option PureType) (op : BinaryOperator) (a b : s.ExprTree) → spec.family op a b ≡ spec.bitwise → typing env position expected (s.binary op a b) ≡ operand_then env op spec.bitwise a b (typing env ordinary expected a)
unfolding typing
bitwise_is env position expected op a b e = by_family env position expected op a b spec.bitwise e ∙ operand_cases env op spec.bitwise a b (spec.infer env ordinary expected a)

pub ordering_is : (env : Environment) (position : Position) (expected : Option PureType) (op : BinaryOperator) (a b : s.ExprTree) → spec.family op a b ≡ spec.ordering → typing env position expected (s.binary op a b) ≡ operand_then env op spec.ordering a b (typing env ordinary None a)
unfolding typing
ordering_is env position expected op a b e = by_family env position expected op a b spec.ordering e ∙ operand_cases env op spec.ordering a b (spec.infer env ordinary None a)

pub equality_is : (env : Environment) (position : Position) (expected : Option PureType) (op : BinaryOperator) (a b : s.ExprTree) → spec.family op a b ≡ spec.equality → typing env position expected (s.binary op a b) ≡ operand_then env op spec.equality a b (typing env ordinary None a)
unfolding typing
equality_is env position expected op a b e = by_family env position expected op a b spec.equality e ∙ operand_cases env op spec.equality a b (spec.infer env ordinary None a)

pub logical_is : (env : Environment) (position : Position) (expected : Option PureType) (op : BinaryOperator) (a b : s.ExprTree) → spec.family op a b ≡ spec.logical → typing env position expected (s.binary op a b) ≡ logical_then env op a b (typing env ordinary None a)
unfolding typing
logical_is env position expected op a b e = by_family env position expected op a b spec.logical e ∙ logical_cases env op a b (spec.infer env ordinary None a)

pub coalescing_is : (env : Environment) (position : Position) (expected : Option PureType) (op : BinaryOperator) (a b : s.ExprTree) → spec.family op a b ≡ spec.coalescing → typing env position expected (s.binary op a b) ≡ coalesce_then env a b (typing env position None a)
unfolding typing
coalescing_is env position expected op a b e = by_family env position expected op a b spec.coalescing e ∙ coalesce_cases env a b (spec.infer env position None a)

pub left_nil_is : (env : Environment) (position : Position) (expected : Option PureType) (op : BinaryOperator) (a b : s.ExprTree) → spec.family op a b ≡ spec.left_beside_nil → typing env position expected (s.binary op a b) ≡ nil_then op (based env a)
unfolding typing nil_then based
left_nil_is env position expected op a b e = by_family env position expected op a b spec.left_beside_nil e

pub right_nil_is : (env : Environment) (position : Position) (expected : Option PureType) (op : BinaryOperator) (a b : s.ExprTree) → spec.family op a b ≡ spec.right_beside_nil → typing env position expected (s.binary op a b) ≡ nil_then op (based env b)
unfolding typing nil_then based
right_nil_is env position expected op a b e = by_family env position expected op a b spec.right_beside_nil e

-- ---- forms by themselves

pub binary_flat : (env : Environment) (position : Position) (expected : Option PureType) (op : BinaryOperator) (a b : s.ExprTree) → typing env position expected (s.binary op a b) ≡ flat (binary_form env position expected (s.binary op a b))
unfolding flat binary_form
binary_flat env position expected op a b = refl

pub conditional_flat : (env : Environment) (position : Position) (expected : Option PureType) (a b c : s.ExprTree) → typing env position expected (s.conditional a b c) ≡ flat (conditional_form env expected (s.conditional a b c))
unfolding flat conditional_form typing
conditional_flat env position expected a b c = refl

pub create_none : (env : Environment) (position : Position) (expected : Option PureType) (names : List Name) (all : s.Arguments) → create_call env names ≡ None → typing env position expected (s.create names all) ≡ None
unfolding typing
create_none env position expected names all none = ap (λ o. o >=> (λ c. spec.infer_arguments env c.count c.parameters all >=> call_typed c)) none

pub create_is : (env : Environment) (position : Position) (expected : Option PureType) (names : List Name) (all : s.Arguments) (c : Call) → create_call env names ≡ Some c → typing env position expected (s.create names all) ≡ call_then c (arguments env c.count c.parameters all)
unfolding typing arguments call_then
create_is env position expected names all c some = ap (λ o. o >=> (λ c. spec.infer_arguments env c.count c.parameters all >=> call_typed c)) some

-- ---- forms that hold no expression

pub whole_flat : (env : Environment) (position : Position) (expected : Option PureType) (n : ℕ) (h : Bool) → typing env position expected (s.whole n h) ≡ flat (alone_form env position expected (s.whole n h))
unfolding typing flat alone_form
whole_flat env position expected n h = refl

pub fixed_flat : (env : Environment) (position : Position) (expected : Option PureType) (n : ℕ) → typing env position expected (s.fixed n) ≡ flat (alone_form env position expected (s.fixed n))
unfolding typing flat alone_form
fixed_flat env position expected n = refl

pub text_flat : (env : Environment) (position : Position) (expected : Option PureType) (x : List ℕ) → typing env position expected (s.text x) ≡ flat (alone_form env position expected (s.text x))
unfolding typing flat alone_form
text_flat env position expected x = refl

pub bool_flat : (env : Environment) (position : Position) (expected : Option PureType) (b : Bool) → typing env position expected (s.bool b) ≡ flat (alone_form env position expected (s.bool b))
unfolding typing flat alone_form
bool_flat env position expected b = refl

pub nil_flat : (env : Environment) (position : Position) (expected : Option PureType) → typing env position expected s.nil ≡ flat (alone_form env position expected s.nil)
unfolding typing flat alone_form
nil_flat env position expected = refl

pub self_flat : (env : Environment) (position : Position) (expected : Option PureType) → typing env position expected s.self ≡ flat (alone_form env position expected s.self)
unfolding typing flat alone_form
self_flat env position expected = refl

pub path_flat : (env : Environment) (position : Position) (expected : Option PureType) (p : Path) → typing env position expected (s.path p) ≡ flat (alone_form env position expected (s.path p))
unfolding typing flat alone_form
path_flat env position expected p = refl

pub name_flat : (env : Environment) (position : Position) (expected : Option PureType) (n : Name) → typing env position expected (s.name n) ≡ flat (alone_form env position expected (s.name n))
unfolding typing flat alone_form
name_flat env position expected n = refl

-- ---- forms that ask for no position, or expect nothing

pub create_same : (env : Environment) (position : Position) (expected : Option PureType) (names : List Name) (all : s.Arguments) → typing env position expected (s.create names all) ≡ typing env ordinary None (s.create names all)
unfolding typing
create_same env position expected names all = refl

pub borrow_same : (env : Environment) (position : Position) (expected : Option PureType) (a : s.ExprTree) (t : s.TypeTree) → typing env position expected (s.borrow a t) ≡ typing env ordinary None (s.borrow a t)
unfolding typing
borrow_same env position expected a t = refl

pub unary_same : (env : Environment) (position : Position) (expected : Option PureType) (op : UnaryOperator) (a : s.ExprTree) → typing env position expected (s.unary op a) ≡ typing env ordinary expected (s.unary op a)
unfolding typing
unary_same env position expected operator.Negate a = refl
unary_same env position expected operator.Not a = refl
unary_same env position expected operator.Dereference a = refl
unary_same env position expected operator.Move a = refl
unary_same env position expected operator.Destroy a = refl

pub cast_same : (env : Environment) (position : Position) (expected : Option PureType) (k : CastKind) (a : s.ExprTree) (t : s.Annotation) → typing env position expected (s.cast k a t) ≡ typing env position None (s.cast k a t)
unfolding typing
cast_same env position expected kind.Static a t = refl
cast_same env position expected kind.Failable a t = refl
cast_same env position expected kind.Forced a t = refl

-- ---- where a form stands

pub self_place_is : (env : Environment) → place env s.self ≡ self_base env
unfolding place
self_place_is env = refl

pub based_place : (env : Environment) (a : s.ExprTree) → is_path a ≡ true → based env a ≡ place env a
unfolding based place
based_place env a there = rw there refl

pub based_held : (env : Environment) (a : s.ExprTree) → is_path a ≡ false → based env a ≡ (typing env ordinary None a >=> held env)
unfolding based typing
based_held env a none = rw none refl

pub chain_based_place : (env : Environment) (a : s.ExprTree) → is_path_of_chain a ≡ true → based_in_chain env a ≡ place env a
unfolding based_in_chain place
chain_based_place env a there = rw there refl

pub chain_based_held : (env : Environment) (a : s.ExprTree) → is_path_of_chain a ≡ false → based_in_chain env a ≡ (typing env ordinary None a >=> held env)
unfolding based_in_chain typing
chain_based_held env a none = rw none refl
