-- What the arms of the recursion give: a form, its parts, and what is done with them, as the code finds them.
use Rattle.std.proofs.Common.{◌≡◌, ℕ, Bool, List, Option, Some, None, ap, refl, sym, ◌∙◌, map, ◌⊎◌, inl, inr}
use Rattle.std.specs.Global.{Box, Vec}
use Rattle.std.specs.Option.{option_flatten}
use Rattle.cad_syntax.specs.Types.{PureType}
use Rattle.cad_syntax.specs.declared.text.Name.{Name}
use Rattle.cad_syntax.specs.declared.text.Text.{Text}
use Rattle.cad_syntax.specs.declared.address.Path.{Path}
use Rattle.cad_grammar.specs.Trees as s
use Rattle.cad_grammar.specs.Trees.{ExprTree, ArgumentTree, EntryTree}
use Rattle.cad_grammar.specs.Views.{expr_of, type_of, annotation_of, argument_of, entry_of, expr_step, argument_step, entry_step}
use Rattle.cad_grammar.specs.declared.expression.Expr.{Expr, Expr-F, fold-roll-Expr}
use Rattle.cad_grammar.specs.declared.expression.Expr.TheVariants as variant
use Rattle.cad_grammar.specs.declared.expression.Expr.TheVariants.{rolls-Whole, rolls-Fixed, rolls-Text, rolls-Bool, rolls-Nil, rolls-Self_, rolls-Path, rolls-Create, rolls-Array, rolls-Dictionary, rolls-Name, rolls-Member, rolls-OptionalMember, rolls-Index, rolls-Call, rolls-Force, rolls-Unary, rolls-Reference, rolls-Cast, rolls-Binary, rolls-Conditional}
use Rattle.cad_grammar.specs.declared.expression.Argument.{Argument}
use Rattle.cad_grammar.specs.declared.expression.Entry.{Entry}
use Rattle.cad_grammar.specs.declared.expression.BinaryOperator.{BinaryOperator}
use Rattle.cad_grammar.specs.declared.expression.UnaryOperator.{UnaryOperator}
use Rattle.cad_grammar.specs.declared.expression.CastKind.{CastKind}
use Rattle.cad_grammar.specs.declared.type_expr.TypeExpr.{TypeExpr}
use Rattle.cad_grammar.specs.declared.type_expr.TypeAnnotation.{TypeAnnotation}
use Rattle.cad_typing.specs.Befores.{behind}
use Rattle.cad_typing.specs.Calls.{Call, create_call}
use Rattle.cad_typing.specs.Containers.{expected_element, expected_key, expected_value}
use Rattle.cad_typing.specs.Environments.{Environment, Position, ordinary, Typing}
use Rattle.cad_typing.specs.Expressions as spec
use Rattle.cad_typing.specs.Names.{self_base}
use Rattle.cad_typing.specs.Receivers.{Base, Receiver}
use Rattle.cad_infer.specs.Code.Forms.{callee_form, place_form}
use Rattle.cad_infer_parts.specs.Code.Steps.{typing, place, callee, elements, entries, based, based_in_chain, received, member_then, chain_then, force_then, array_then, dictionary_then, member_place_then, chain_place_then, force_place_then, named_call, member_call_then, chain_call_then, operand_then, logical_then, coalesce_then, element_then, element_place_then, called_then, create_then, second_then, nil_then, flat, alone_form, binary_form, conditional_form}
use Rattle.cad_infer_parts.specs.Views.{family_of}
use Rattle.cad_infer_parts.specs.declared.family.Family.{Family}
use Rattle.cad_infer_parts.specs.declared.family.Family.TheVariants as family
use Rattle.cad_infer.proofs.Unfolded as law

-- ---- the tree of a form

whole_at : (e : Expr) (n : ℕ) (h : Bool) → e ≡ variant.Whole n h → expr_of e ≡ s.whole n h
whole_at e n h is = ap expr_of (is ∙ sym (rolls-Whole n h)) ∙ fold-roll-Expr ExprTree ArgumentTree EntryTree expr_step argument_step entry_step (Expr-F.Whole n h)

create_at : (e : Expr) (d : List Name) (v : Vec Argument) → e ≡ variant.Create d v → expr_of e ≡ s.create d (s.arguments_of (map argument_of v.items))
create_at e d v is = ap expr_of (is ∙ sym (rolls-Create d v)) ∙ fold-roll-Expr ExprTree ArgumentTree EntryTree expr_step argument_step entry_step (Expr-F.Create d v)

array_at : (e : Expr) (v : Vec Expr) → e ≡ variant.Array v → expr_of e ≡ s.list (s.exprs_of (map expr_of v.items))
array_at e v is = ap expr_of (is ∙ sym (rolls-Array v)) ∙ fold-roll-Expr ExprTree ArgumentTree EntryTree expr_step argument_step entry_step (Expr-F.Array v)

dictionary_at : (e : Expr) (v : Vec Entry) → e ≡ variant.Dictionary v → expr_of e ≡ s.pairs (s.entries_of (map entry_of v.items))
dictionary_at e v is = ap expr_of (is ∙ sym (rolls-Dictionary v)) ∙ fold-roll-Expr ExprTree ArgumentTree EntryTree expr_step argument_step entry_step (Expr-F.Dictionary v)

name_at : (e : Expr) (n : Name) → e ≡ variant.Name n → expr_of e ≡ s.name n
name_at e n is = ap expr_of (is ∙ sym (rolls-Name n)) ∙ fold-roll-Expr ExprTree ArgumentTree EntryTree expr_step argument_step entry_step (Expr-F.Name n)

member_at : (e : Expr) (b : Box Expr) (n : Name) → e ≡ variant.Member b n → expr_of e ≡ s.member (expr_of b.value) n
member_at e b n is = ap expr_of (is ∙ sym (rolls-Member b n)) ∙ fold-roll-Expr ExprTree ArgumentTree EntryTree expr_step argument_step entry_step (Expr-F.Member b n)

chain_at : (e : Expr) (b : Box Expr) (n : Name) → e ≡ variant.OptionalMember b n → expr_of e ≡ s.optional_member (expr_of b.value) n
chain_at e b n is = ap expr_of (is ∙ sym (rolls-OptionalMember b n)) ∙ fold-roll-Expr ExprTree ArgumentTree EntryTree expr_step argument_step entry_step (Expr-F.OptionalMember b n)

index_at : (e : Expr) (b : Box Expr) (d : Box Expr) → e ≡ variant.Index b d → expr_of e ≡ s.index (expr_of b.value) (expr_of d.value)
index_at e b d is = ap expr_of (is ∙ sym (rolls-Index b d)) ∙ fold-roll-Expr ExprTree ArgumentTree EntryTree expr_step argument_step entry_step (Expr-F.Index b d)

call_at : (e : Expr) (b : Box Expr) (ts : Vec TypeAnnotation) (v : Vec Argument) → e ≡ variant.Call b ts v → expr_of e ≡ s.call (expr_of b.value) (s.annotations_of (map annotation_of ts.items)) (s.arguments_of (map argument_of v.items))
call_at e b ts v is = ap expr_of (is ∙ sym (rolls-Call b ts v)) ∙ fold-roll-Expr ExprTree ArgumentTree EntryTree expr_step argument_step entry_step (Expr-F.Call b ts v)

force_at : (e : Expr) (b : Box Expr) → e ≡ variant.Force b → expr_of e ≡ s.force (expr_of b.value)
force_at e b is = ap expr_of (is ∙ sym (rolls-Force b)) ∙ fold-roll-Expr ExprTree ArgumentTree EntryTree expr_step argument_step entry_step (Expr-F.Force b)

unary_at : (e : Expr) (op : UnaryOperator) (b : Box Expr) → e ≡ variant.Unary op b → expr_of e ≡ s.unary op (expr_of b.value)
unary_at e op b is = ap expr_of (is ∙ sym (rolls-Unary op b)) ∙ fold-roll-Expr ExprTree ArgumentTree EntryTree expr_step argument_step entry_step (Expr-F.Unary op b)

borrow_at : (e : Expr) (b : Box Expr) (w : TypeExpr) → e ≡ variant.Reference b w → expr_of e ≡ s.borrow (expr_of b.value) (type_of w)
borrow_at e b w is = ap expr_of (is ∙ sym (rolls-Reference b w)) ∙ fold-roll-Expr ExprTree ArgumentTree EntryTree expr_step argument_step entry_step (Expr-F.Reference b w)

cast_at : (e : Expr) (k : CastKind) (b : Box Expr) (w : TypeAnnotation) → e ≡ variant.Cast k b w → expr_of e ≡ s.cast k (expr_of b.value) (annotation_of w)
cast_at e k b w is = ap expr_of (is ∙ sym (rolls-Cast k b w)) ∙ fold-roll-Expr ExprTree ArgumentTree EntryTree expr_step argument_step entry_step (Expr-F.Cast k b w)

binary_at : (e : Expr) (op : BinaryOperator) (b : Box Expr) (d : Box Expr) → e ≡ variant.Binary op b d → expr_of e ≡ s.binary op (expr_of b.value) (expr_of d.value)
binary_at e op b d is = ap expr_of (is ∙ sym (rolls-Binary op b d)) ∙ fold-roll-Expr ExprTree ArgumentTree EntryTree expr_step argument_step entry_step (Expr-F.Binary op b d)

conditional_at : (e : Expr) (b : Box Expr) (d : Box Expr) (g : Box Expr) → e ≡ variant.Conditional b d g → expr_of e ≡ s.conditional (expr_of b.value) (expr_of d.value) (expr_of g.value)
conditional_at e b d g is = ap expr_of (is ∙ sym (rolls-Conditional b d g)) ∙ fold-roll-Expr ExprTree ArgumentTree EntryTree expr_step argument_step entry_step (Expr-F.Conditional b d g)

fixed_at : (e : Expr) (n : ℕ) → e ≡ variant.Fixed n → expr_of e ≡ s.fixed n
fixed_at e n is = ap expr_of (is ∙ sym (rolls-Fixed n)) ∙ fold-roll-Expr ExprTree ArgumentTree EntryTree expr_step argument_step entry_step (Expr-F.Fixed n)

text_at : (e : Expr) (x : Text) → e ≡ variant.Text x → expr_of e ≡ s.text x
text_at e x is = ap expr_of (is ∙ sym (rolls-Text x)) ∙ fold-roll-Expr ExprTree ArgumentTree EntryTree expr_step argument_step entry_step (Expr-F.Text x)

bool_at : (e : Expr) (w : Bool) → e ≡ variant.Bool w → expr_of e ≡ s.bool w
bool_at e w is = ap expr_of (is ∙ sym (rolls-Bool w)) ∙ fold-roll-Expr ExprTree ArgumentTree EntryTree expr_step argument_step entry_step (Expr-F.Bool w)

nil_at : (e : Expr) → e ≡ variant.Nil → expr_of e ≡ s.nil
nil_at e is = ap expr_of (is ∙ sym rolls-Nil) ∙ fold-roll-Expr ExprTree ArgumentTree EntryTree expr_step argument_step entry_step Expr-F.Nil

self_at : (e : Expr) → e ≡ variant.Self_ → expr_of e ≡ s.self
self_at e is = ap expr_of (is ∙ sym rolls-Self_) ∙ fold-roll-Expr ExprTree ArgumentTree EntryTree expr_step argument_step entry_step Expr-F.Self_

path_at : (e : Expr) (p : Path) → e ≡ variant.Path p → expr_of e ≡ s.path p
path_at e p is = ap expr_of (is ∙ sym (rolls-Path p)) ∙ fold-roll-Expr ExprTree ArgumentTree EntryTree expr_step argument_step entry_step (Expr-F.Path p)

-- ---- types

-- a form that holds no expression
by_tree : (env : Environment) (position : Position) (expected : Option PureType) (e : Expr) (tree : s.ExprTree) (y : Option (Option Typing)) (x : Option Typing) → expr_of e ≡ tree → typing env position expected tree ≡ flat (alone_form env position expected tree) → x ≡ flat y → y ≡ alone_form env position expected (expr_of e) → x ≡ typing env position expected (expr_of e)
by_tree env position expected e tree y x at same then some = then ∙ ap flat (some ∙ ap (alone_form env position expected) at) ∙ sym same ∙ ap (typing env position expected) (sym at)

pub alone_arm : (env : Environment) (position : Position) (expected : Option PureType) (e : Expr) (y : Option (Option Typing)) (x : Option Typing)
    → (((n : ℕ) × (h : Bool) × e ≡ variant.Whole n h) ⊎ (((n : ℕ) × e ≡ variant.Fixed n) ⊎ (((t : Text) × e ≡ variant.Text t) ⊎ (((w : Bool) × e ≡ variant.Bool w) ⊎ ((e ≡ variant.Nil) ⊎ ((e ≡ variant.Self_) ⊎ (((n : Name) × e ≡ variant.Name n) ⊎ ((p : Path) × e ≡ variant.Path p))))))))
    → x ≡ flat y → y ≡ alone_form env position expected (expr_of e) → x ≡ typing env position expected (expr_of e)
alone_arm env position expected e y x (inl (n, h, is)) then some = by_tree env position expected e (s.whole n h) y x (whole_at e n h is) (law.whole_flat env position expected n h) then some
alone_arm env position expected e y x (inr (inl (n, is))) then some = by_tree env position expected e (s.fixed n) y x (fixed_at e n is) (law.fixed_flat env position expected n) then some
alone_arm env position expected e y x (inr (inr (inl (t, is)))) then some = by_tree env position expected e (s.text t) y x (text_at e t is) (law.text_flat env position expected t) then some
alone_arm env position expected e y x (inr (inr (inr (inl (w, is))))) then some = by_tree env position expected e (s.bool w) y x (bool_at e w is) (law.bool_flat env position expected w) then some
alone_arm env position expected e y x (inr (inr (inr (inr (inl is))))) then some = by_tree env position expected e s.nil y x (nil_at e is) (law.nil_flat env position expected) then some
alone_arm env position expected e y x (inr (inr (inr (inr (inr (inl is)))))) then some = by_tree env position expected e s.self y x (self_at e is) (law.self_flat env position expected) then some
alone_arm env position expected e y x (inr (inr (inr (inr (inr (inr (inl (n, is)))))))) then some = by_tree env position expected e (s.name n) y x (name_at e n is) (law.name_flat env position expected n) then some
alone_arm env position expected e y x (inr (inr (inr (inr (inr (inr (inr (p, is)))))))) then some = by_tree env position expected e (s.path p) y x (path_at e p is) (law.path_flat env position expected p) then some

pub create_arm : (env : Environment) (position : Position) (expected : Option PureType) (e : Expr) (d : List Name) (v : Vec Argument) (names : List Name) (all : List Argument) (x : Option Typing) → e ≡ variant.Create d v → x ≡ typing env ordinary None (s.create names (s.arguments_of (map argument_of all))) → names ≡ d → all ≡ v.items → x ≡ typing env position expected (expr_of e)
create_arm env position expected e d v names all x is then named items =
    then ∙ ap (λ z. typing env ordinary None (s.create z (s.arguments_of (map argument_of all)))) named ∙ ap (λ z. typing env ordinary None (s.create d (s.arguments_of (map argument_of z)))) items ∙ sym (law.create_same env position expected d (s.arguments_of (map argument_of v.items))) ∙ ap (typing env position expected) (sym (create_at e d v is))

pub array_arm : (env : Environment) (position : Position) (expected : Option PureType) (e : Expr) (v : Vec Expr) (all : List Expr) (wanted : Option PureType) (found : Option (List Typing)) (x : Option Typing) → e ≡ variant.Array v → x ≡ array_then env expected found → found ≡ elements env wanted (s.exprs_of (map expr_of all)) → wanted ≡ expected_element expected → all ≡ v.items → x ≡ typing env position expected (expr_of e)
array_arm env position expected e v all wanted found x is then some want items =
    then ∙ ap (array_then env expected) (some ∙ ap (λ z. elements env z (s.exprs_of (map expr_of all))) want ∙ ap (λ z. elements env (expected_element expected) (s.exprs_of (map expr_of z))) items) ∙ sym (law.array_is env position expected (s.exprs_of (map expr_of v.items))) ∙ ap (typing env position expected) (sym (array_at e v is))

pub dictionary_arm : (env : Environment) (position : Position) (expected : Option PureType) (e : Expr) (v : Vec Entry) (all : List Entry) (key : Option PureType) (value : Option PureType) (found : Option (List (Typing × Typing))) (x : Option Typing) → e ≡ variant.Dictionary v → x ≡ dictionary_then env expected found → found ≡ entries env key value (s.entries_of (map entry_of all)) → key ≡ expected_key expected → value ≡ expected_value expected → all ≡ v.items → x ≡ typing env position expected (expr_of e)
dictionary_arm env position expected e v all key value found x is then some want_key want_value items =
    then ∙ ap (dictionary_then env expected) (some ∙ ap (λ z. entries env z value (s.entries_of (map entry_of all))) want_key ∙ ap (λ z. entries env (expected_key expected) z (s.entries_of (map entry_of all))) want_value ∙ ap (λ z. entries env (expected_key expected) (expected_value expected) (s.entries_of (map entry_of z))) items) ∙ sym (law.dictionary_is env position expected (s.entries_of (map entry_of v.items))) ∙ ap (typing env position expected) (sym (dictionary_at e v is))

pub member_arm : (env : Environment) (position : Position) (expected : Option PureType) (e : Expr) (b : Box Expr) (n : Name) (a : Expr) (o : Option Base) (x : Option Typing) → e ≡ variant.Member b n → x ≡ member_then env position n o → o ≡ based env (expr_of a) → a ≡ b.value → x ≡ typing env position expected (expr_of e)
member_arm env position expected e b n a o x is then some at =
    then ∙ ap (member_then env position n) (some ∙ ap (λ z. based env (expr_of z)) at) ∙ sym (law.member_is env position expected (expr_of b.value) n) ∙ ap (typing env position expected) (sym (member_at e b n is))

pub chain_arm : (env : Environment) (position : Position) (expected : Option PureType) (e : Expr) (b : Box Expr) (n : Name) (a : Expr) (o : Option Base) (x : Option Typing) → e ≡ variant.OptionalMember b n → x ≡ chain_then env n o → o ≡ based_in_chain env (expr_of a) → a ≡ b.value → x ≡ typing env position expected (expr_of e)
chain_arm env position expected e b n a o x is then some at =
    then ∙ ap (chain_then env n) (some ∙ ap (λ z. based_in_chain env (expr_of z)) at) ∙ sym (law.chain_is env position expected (expr_of b.value) n) ∙ ap (typing env position expected) (sym (chain_at e b n is))

pub index_arm : (env : Environment) (position : Position) (expected : Option PureType) (e : Expr) (b : Box Expr) (d : Box Expr) (a : Expr) (a1 : Expr) (i : Expr) (o : Option Base) (r : Option Receiver) (x : Option Typing) → e ≡ variant.Index b d → x ≡ element_then env (expr_of a) (expr_of i) r → r ≡ received o → o ≡ based env (expr_of a1) → a ≡ b.value → a1 ≡ b.value → i ≡ d.value → x ≡ typing env position expected (expr_of e)
index_arm env position expected e b d a a1 i o r x is then got some at at1 at2 =
    then ∙ ap (λ z. element_then env (expr_of z) (expr_of i) r) at ∙ ap (λ z. element_then env (expr_of b.value) (expr_of z) r) at2 ∙ ap (element_then env (expr_of b.value) (expr_of d.value)) (got ∙ ap received (some ∙ ap (λ z. based env (expr_of z)) at1)) ∙ sym (law.index_is env position expected (expr_of b.value) (expr_of d.value)) ∙ ap (typing env position expected) (sym (index_at e b d is))

pub call_arm : (env : Environment) (position : Position) (expected : Option PureType) (e : Expr) (b : Box Expr) (ts : Vec TypeAnnotation) (v : Vec Argument) (f : Expr) (f1 : Expr) (types : List TypeAnnotation) (all : List Argument) (made : Option Call) (x : Option Typing) → e ≡ variant.Call b ts v → x ≡ called_then env (expr_of f) (s.arguments_of (map argument_of all)) made → made ≡ callee env (s.annotations_of (map annotation_of types)) (expr_of f1) → f ≡ b.value → f1 ≡ b.value → types ≡ ts.items → all ≡ v.items → x ≡ typing env position expected (expr_of e)
call_arm env position expected e b ts v f f1 types all made x is then some at at1 typed items =
    then ∙ ap (λ z. called_then env (expr_of z) (s.arguments_of (map argument_of all)) made) at ∙ ap (λ z. called_then env (expr_of b.value) (s.arguments_of (map argument_of z)) made) items ∙ ap (called_then env (expr_of b.value) (s.arguments_of (map argument_of v.items))) (some ∙ ap (λ z. callee env (s.annotations_of (map annotation_of types)) (expr_of z)) at1 ∙ ap (λ z. callee env (s.annotations_of (map annotation_of z)) (expr_of b.value)) typed) ∙ sym (law.call_is env position expected (expr_of b.value) (s.annotations_of (map annotation_of ts.items)) (s.arguments_of (map argument_of v.items))) ∙ ap (typing env position expected) (sym (call_at e b ts v is))

pub force_arm : (env : Environment) (position : Position) (expected : Option PureType) (e : Expr) (b : Box Expr) (a : Expr) (a1 : Expr) (y : Option Typing) (x : Option Typing) → e ≡ variant.Force b → x ≡ force_then env (expr_of a) y → y ≡ typing env ordinary None (expr_of a1) → a ≡ b.value → a1 ≡ b.value → x ≡ typing env position expected (expr_of e)
force_arm env position expected e b a a1 y x is then some at at1 =
    then ∙ ap (λ z. force_then env (expr_of z) y) at ∙ ap (force_then env (expr_of b.value)) (some ∙ ap (λ z. typing env ordinary None (expr_of z)) at1) ∙ sym (law.force_is env position expected (expr_of b.value)) ∙ ap (typing env position expected) (sym (force_at e b is))

pub unary_arm : (env : Environment) (position : Position) (expected : Option PureType) (e : Expr) (op : UnaryOperator) (b : Box Expr) (a : Expr) (x : Option Typing) → e ≡ variant.Unary op b → x ≡ typing env ordinary expected (s.unary op (expr_of a)) → a ≡ b.value → x ≡ typing env position expected (expr_of e)
unary_arm env position expected e op b a x is then at =
    then ∙ ap (λ z. typing env ordinary expected (s.unary op (expr_of z))) at ∙ sym (law.unary_same env position expected op (expr_of b.value)) ∙ ap (typing env position expected) (sym (unary_at e op b is))

pub borrow_arm : (env : Environment) (position : Position) (expected : Option PureType) (e : Expr) (b : Box Expr) (w : TypeExpr) (a : Expr) (x : Option Typing) → e ≡ variant.Reference b w → x ≡ typing env ordinary None (s.borrow (expr_of a) (type_of w)) → a ≡ b.value → x ≡ typing env position expected (expr_of e)
borrow_arm env position expected e b w a x is then at =
    then ∙ ap (λ z. typing env ordinary None (s.borrow (expr_of z) (type_of w))) at ∙ sym (law.borrow_same env position expected (expr_of b.value) (type_of w)) ∙ ap (typing env position expected) (sym (borrow_at e b w is))

pub cast_arm : (env : Environment) (position : Position) (expected : Option PureType) (e : Expr) (k : CastKind) (b : Box Expr) (w : TypeAnnotation) (a : Expr) (x : Option Typing) → e ≡ variant.Cast k b w → x ≡ typing env position None (s.cast k (expr_of a) (annotation_of w)) → a ≡ b.value → x ≡ typing env position expected (expr_of e)
cast_arm env position expected e k b w a x is then at =
    then ∙ ap (λ z. typing env position None (s.cast k (expr_of z) (annotation_of w))) at ∙ sym (law.cast_same env position expected k (expr_of b.value) (annotation_of w)) ∙ ap (typing env position expected) (sym (cast_at e k b w is))

pub binary_arm : (env : Environment) (position : Position) (expected : Option PureType) (e : Expr) (op : BinaryOperator) (b : Box Expr) (d : Box Expr) (y : Option (Option Typing)) (x : Option Typing) → e ≡ variant.Binary op b d → x ≡ flat y → y ≡ binary_form env position expected (expr_of e) → x ≡ typing env position expected (expr_of e)
binary_arm env position expected e op b d y x is then some =
    then ∙ ap flat (some ∙ ap (binary_form env position expected) (binary_at e op b d is)) ∙ sym (law.binary_flat env position expected op (expr_of b.value) (expr_of d.value)) ∙ ap (typing env position expected) (sym (binary_at e op b d is))

pub conditional_arm : (env : Environment) (position : Position) (expected : Option PureType) (e : Expr) (b : Box Expr) (d : Box Expr) (g : Box Expr) (y : Option (Option Typing)) (x : Option Typing) → e ≡ variant.Conditional b d g → x ≡ flat y → y ≡ conditional_form env expected (expr_of e) → x ≡ typing env position expected (expr_of e)
conditional_arm env position expected e b d g y x is then some =
    then ∙ ap flat (some ∙ ap (conditional_form env expected) (conditional_at e b d g is)) ∙ sym (law.conditional_flat env position expected (expr_of b.value) (expr_of d.value) (expr_of g.value)) ∙ ap (typing env position expected) (sym (conditional_at e b d g is))

pub ruleset forms = (create_arm, array_arm, dictionary_arm, member_arm, chain_arm, index_arm, call_arm, force_arm, unary_arm, borrow_arm, cast_arm, binary_arm, conditional_arm)

pub create_made : (env : Environment) (names : List Name) (all : s.Arguments) (c : Call) (x : Option Typing) → x ≡ create_then env c all → Some c ≡ create_call env names → x ≡ typing env ordinary None (s.create names all)
unfolding create_then
create_made env names all c x then some = then ∙ sym (law.create_is env ordinary None names all c (sym some))

pub create_not_made : (env : Environment) (names : List Name) (all : s.Arguments) → None ≡ create_call env names → None ≡ typing env ordinary None (s.create names all)
create_not_made env names all none = sym (law.create_none env ordinary None names all (sym none))

-- ---- operators

-- the family of an operator, as the code finds it
of_family : (f : Family) (g : Family) (op : BinaryOperator) (a b : Expr) (c d : Box Expr) → f ≡ g → family_of f ≡ spec.family op (expr_of a) (expr_of b) → a ≡ c.value → b ≡ d.value → spec.family op (expr_of c.value) (expr_of d.value) ≡ family_of g
of_family f g op a b c d is found at at1 = ap (λ z. spec.family op (expr_of c.value) (expr_of z)) (sym at1) ∙ ap (λ z. spec.family op (expr_of z) (expr_of b)) (sym at) ∙ sym found ∙ ap family_of is

pub arithmetical_arm : (env : Environment) (position : Position) (expected : Option PureType) (e : Expr) (op : BinaryOperator) (b : Box Expr) (d : Box Expr) (f : Family) (a0 : Expr) (b0 : Expr) (a : Expr) (a1 : Expr) (c : Expr) (y : Option Typing) (x : Option Typing) → e ≡ variant.Binary op b d → x ≡ operand_then env op spec.arithmetical (expr_of a) (expr_of c) y → f ≡ family.Arithmetical → family_of f ≡ spec.family op (expr_of a0) (expr_of b0) → y ≡ typing env ordinary expected (expr_of a1) → a ≡ b.value → a1 ≡ b.value → c ≡ d.value → a0 ≡ b.value → b0 ≡ d.value → Some x ≡ binary_form env position expected (expr_of e)
unfolding binary_form
arithmetical_arm env position expected e op b d f a0 b0 a a1 c y x is then of found some at at1 bt at0 bt0 =
    ap Some (then ∙ ap (λ z. operand_then env op spec.arithmetical (expr_of z) (expr_of c) y) at ∙ ap (λ z. operand_then env op spec.arithmetical (expr_of b.value) (expr_of z) y) bt ∙ ap (operand_then env op spec.arithmetical (expr_of b.value) (expr_of d.value)) (some ∙ ap (λ z. typing env ordinary expected (expr_of z)) at1) ∙ sym (law.arithmetical_is env position expected op (expr_of b.value) (expr_of d.value) (of_family f family.Arithmetical op a0 b0 b d of found at0 bt0))) ∙ ap (binary_form env position expected) (sym (binary_at e op b d is))

pub bitwise_arm : (env : Environment) (position : Position) (expected : Option PureType) (e : Expr) (op : BinaryOperator) (b : Box Expr) (d : Box Expr) (f : Family) (a0 : Expr) (b0 : Expr) (a : Expr) (a1 : Expr) (c : Expr) (y : Option Typing) (x : Option Typing) → e ≡ variant.Binary op b d → x ≡ operand_then env op spec.bitwise (expr_of a) (expr_of c) y → f ≡ family.Bitwise → family_of f ≡ spec.family op (expr_of a0) (expr_of b0) → y ≡ typing env ordinary expected (expr_of a1) → a ≡ b.value → a1 ≡ b.value → c ≡ d.value → a0 ≡ b.value → b0 ≡ d.value → Some x ≡ binary_form env position expected (expr_of e)
unfolding binary_form
bitwise_arm env position expected e op b d f a0 b0 a a1 c y x is then of found some at at1 bt at0 bt0 =
    ap Some (then ∙ ap (λ z. operand_then env op spec.bitwise (expr_of z) (expr_of c) y) at ∙ ap (λ z. operand_then env op spec.bitwise (expr_of b.value) (expr_of z) y) bt ∙ ap (operand_then env op spec.bitwise (expr_of b.value) (expr_of d.value)) (some ∙ ap (λ z. typing env ordinary expected (expr_of z)) at1) ∙ sym (law.bitwise_is env position expected op (expr_of b.value) (expr_of d.value) (of_family f family.Bitwise op a0 b0 b d of found at0 bt0))) ∙ ap (binary_form env position expected) (sym (binary_at e op b d is))

pub ordering_arm : (env : Environment) (position : Position) (expected : Option PureType) (e : Expr) (op : BinaryOperator) (b : Box Expr) (d : Box Expr) (f : Family) (a0 : Expr) (b0 : Expr) (a : Expr) (a1 : Expr) (c : Expr) (y : Option Typing) (x : Option Typing) → e ≡ variant.Binary op b d → x ≡ operand_then env op spec.ordering (expr_of a) (expr_of c) y → f ≡ family.Ordering → family_of f ≡ spec.family op (expr_of a0) (expr_of b0) → y ≡ typing env ordinary None (expr_of a1) → a ≡ b.value → a1 ≡ b.value → c ≡ d.value → a0 ≡ b.value → b0 ≡ d.value → Some x ≡ binary_form env position expected (expr_of e)
unfolding binary_form
ordering_arm env position expected e op b d f a0 b0 a a1 c y x is then of found some at at1 bt at0 bt0 =
    ap Some (then ∙ ap (λ z. operand_then env op spec.ordering (expr_of z) (expr_of c) y) at ∙ ap (λ z. operand_then env op spec.ordering (expr_of b.value) (expr_of z) y) bt ∙ ap (operand_then env op spec.ordering (expr_of b.value) (expr_of d.value)) (some ∙ ap (λ z. typing env ordinary None (expr_of z)) at1) ∙ sym (law.ordering_is env position expected op (expr_of b.value) (expr_of d.value) (of_family f family.Ordering op a0 b0 b d of found at0 bt0))) ∙ ap (binary_form env position expected) (sym (binary_at e op b d is))

pub equality_arm : (env : Environment) (position : Position) (expected : Option PureType) (e : Expr) (op : BinaryOperator) (b : Box Expr) (d : Box Expr) (f : Family) (a0 : Expr) (b0 : Expr) (a : Expr) (a1 : Expr) (c : Expr) (y : Option Typing) (x : Option Typing) → e ≡ variant.Binary op b d → x ≡ operand_then env op spec.equality (expr_of a) (expr_of c) y → f ≡ family.Equality → family_of f ≡ spec.family op (expr_of a0) (expr_of b0) → y ≡ typing env ordinary None (expr_of a1) → a ≡ b.value → a1 ≡ b.value → c ≡ d.value → a0 ≡ b.value → b0 ≡ d.value → Some x ≡ binary_form env position expected (expr_of e)
unfolding binary_form
equality_arm env position expected e op b d f a0 b0 a a1 c y x is then of found some at at1 bt at0 bt0 =
    ap Some (then ∙ ap (λ z. operand_then env op spec.equality (expr_of z) (expr_of c) y) at ∙ ap (λ z. operand_then env op spec.equality (expr_of b.value) (expr_of z) y) bt ∙ ap (operand_then env op spec.equality (expr_of b.value) (expr_of d.value)) (some ∙ ap (λ z. typing env ordinary None (expr_of z)) at1) ∙ sym (law.equality_is env position expected op (expr_of b.value) (expr_of d.value) (of_family f family.Equality op a0 b0 b d of found at0 bt0))) ∙ ap (binary_form env position expected) (sym (binary_at e op b d is))

pub logical_arm : (env : Environment) (position : Position) (expected : Option PureType) (e : Expr) (op : BinaryOperator) (b : Box Expr) (d : Box Expr) (f : Family) (a0 : Expr) (b0 : Expr) (a : Expr) (a1 : Expr) (c : Expr) (y : Option Typing) (x : Option Typing) → e ≡ variant.Binary op b d → x ≡ logical_then env op (expr_of a) (expr_of c) y → f ≡ family.Logical → family_of f ≡ spec.family op (expr_of a0) (expr_of b0) → y ≡ typing env ordinary None (expr_of a1) → a ≡ b.value → a1 ≡ b.value → c ≡ d.value → a0 ≡ b.value → b0 ≡ d.value → Some x ≡ binary_form env position expected (expr_of e)
unfolding binary_form
logical_arm env position expected e op b d f a0 b0 a a1 c y x is then of found some at at1 bt at0 bt0 =
    ap Some (then ∙ ap (λ z. logical_then env op (expr_of z) (expr_of c) y) at ∙ ap (λ z. logical_then env op (expr_of b.value) (expr_of z) y) bt ∙ ap (logical_then env op (expr_of b.value) (expr_of d.value)) (some ∙ ap (λ z. typing env ordinary None (expr_of z)) at1) ∙ sym (law.logical_is env position expected op (expr_of b.value) (expr_of d.value) (of_family f family.Logical op a0 b0 b d of found at0 bt0))) ∙ ap (binary_form env position expected) (sym (binary_at e op b d is))

pub coalescing_arm : (env : Environment) (position : Position) (expected : Option PureType) (e : Expr) (op : BinaryOperator) (b : Box Expr) (d : Box Expr) (f : Family) (a0 : Expr) (b0 : Expr) (a : Expr) (a1 : Expr) (c : Expr) (y : Option Typing) (x : Option Typing) → e ≡ variant.Binary op b d → x ≡ coalesce_then env (expr_of a) (expr_of c) y → f ≡ family.Coalescing → family_of f ≡ spec.family op (expr_of a0) (expr_of b0) → y ≡ typing env position None (expr_of a1) → a ≡ b.value → a1 ≡ b.value → c ≡ d.value → a0 ≡ b.value → b0 ≡ d.value → Some x ≡ binary_form env position expected (expr_of e)
unfolding binary_form
coalescing_arm env position expected e op b d f a0 b0 a a1 c y x is then of found some at at1 bt at0 bt0 =
    ap Some (then ∙ ap (λ z. coalesce_then env (expr_of z) (expr_of c) y) at ∙ ap (λ z. coalesce_then env (expr_of b.value) (expr_of z) y) bt ∙ ap (coalesce_then env (expr_of b.value) (expr_of d.value)) (some ∙ ap (λ z. typing env position None (expr_of z)) at1) ∙ sym (law.coalescing_is env position expected op (expr_of b.value) (expr_of d.value) (of_family f family.Coalescing op a0 b0 b d of found at0 bt0))) ∙ ap (binary_form env position expected) (sym (binary_at e op b d is))

pub left_nil_arm : (env : Environment) (position : Position) (expected : Option PureType) (e : Expr) (op : BinaryOperator) (b : Box Expr) (d : Box Expr) (f : Family) (a0 : Expr) (b0 : Expr) (a : Expr) (o : Option Base) (x : Option Typing) → e ≡ variant.Binary op b d → x ≡ nil_then op o → f ≡ family.LeftBesideNil → family_of f ≡ spec.family op (expr_of a0) (expr_of b0) → o ≡ based env (expr_of a) → a ≡ b.value → a0 ≡ b.value → b0 ≡ d.value → Some x ≡ binary_form env position expected (expr_of e)
unfolding binary_form
left_nil_arm env position expected e op b d f a0 b0 a o x is then of found some at at0 bt0 =
    ap Some (then ∙ ap (nil_then op) (some ∙ ap (λ z. based env (expr_of z)) at) ∙ sym (law.left_nil_is env position expected op (expr_of b.value) (expr_of d.value) (of_family f family.LeftBesideNil op a0 b0 b d of found at0 bt0))) ∙ ap (binary_form env position expected) (sym (binary_at e op b d is))

pub right_nil_arm : (env : Environment) (position : Position) (expected : Option PureType) (e : Expr) (op : BinaryOperator) (b : Box Expr) (d : Box Expr) (f : Family) (a0 : Expr) (b0 : Expr) (c : Expr) (o : Option Base) (x : Option Typing) → e ≡ variant.Binary op b d → x ≡ nil_then op o → f ≡ family.RightBesideNil → family_of f ≡ spec.family op (expr_of a0) (expr_of b0) → o ≡ based env (expr_of c) → c ≡ d.value → a0 ≡ b.value → b0 ≡ d.value → Some x ≡ binary_form env position expected (expr_of e)
unfolding binary_form
right_nil_arm env position expected e op b d f a0 b0 c o x is then of found some bt at0 bt0 =
    ap Some (then ∙ ap (nil_then op) (some ∙ ap (λ z. based env (expr_of z)) bt) ∙ sym (law.right_nil_is env position expected op (expr_of b.value) (expr_of d.value) (of_family f family.RightBesideNil op a0 b0 b d of found at0 bt0))) ∙ ap (binary_form env position expected) (sym (binary_at e op b d is))

pub ruleset operations = (arithmetical_arm, bitwise_arm, ordering_arm, equality_arm, logical_arm, coalescing_arm, left_nil_arm, right_nil_arm)

-- ---- `a ? b : c`

pub tested_arm : (env : Environment) (expected : Option PureType) (e : Expr) (b : Box Expr) (d : Box Expr) (g : Box Expr) (a a1 a2 h h1 k : Expr) (t : Typing) (y x : Option Typing) → e ≡ variant.Conditional b d g
    → x ≡ second_then env expected (expr_of a) (expr_of h) (expr_of k) t y → y ≡ typing (behind (expr_of a1) env) ordinary expected (expr_of h1) → Some t ≡ typing env ordinary None (expr_of a2)
    → a ≡ b.value → a1 ≡ b.value → a2 ≡ b.value → h ≡ d.value → h1 ≡ d.value → k ≡ g.value → Some x ≡ conditional_form env expected (expr_of e)
unfolding conditional_form
tested_arm env expected e b d g a a1 a2 h h1 k t y x is then some tested at at1 at2 ht ht1 kt =
    ap Some (then ∙ ap (λ z. second_then env expected (expr_of z) (expr_of h) (expr_of k) t y) at ∙ ap (λ z. second_then env expected (expr_of b.value) (expr_of z) (expr_of k) t y) ht ∙ ap (λ z. second_then env expected (expr_of b.value) (expr_of d.value) (expr_of z) t y) kt
    ∙ ap (second_then env expected (expr_of b.value) (expr_of d.value) (expr_of g.value) t) (some ∙ ap (λ z. typing (behind (expr_of z) env) ordinary expected (expr_of h1)) at1 ∙ ap (λ z. typing (behind (expr_of b.value) env) ordinary expected (expr_of z)) ht1)
    ∙ sym (law.tested_is env ordinary expected (expr_of b.value) (expr_of d.value) (expr_of g.value) t (sym (tested ∙ ap (λ z. typing env ordinary None (expr_of z)) at2))))
    ∙ ap (conditional_form env expected) (sym (conditional_at e b d g is))

pub untested_arm : (env : Environment) (expected : Option PureType) (e : Expr) (b : Box Expr) (d : Box Expr) (g : Box Expr) (a : Expr) → e ≡ variant.Conditional b d g → None ≡ typing env ordinary None (expr_of a) → a ≡ b.value → Some None ≡ conditional_form env expected (expr_of e)
unfolding conditional_form
untested_arm env expected e b d g a is none at =
    ap Some (sym (law.untested_is env ordinary expected (expr_of b.value) (expr_of d.value) (expr_of g.value) (sym (none ∙ ap (λ z. typing env ordinary None (expr_of z)) at)))) ∙ ap (conditional_form env expected) (sym (conditional_at e b d g is))

pub ruleset conditionals = (tested_arm, untested_arm)

-- ---- where a form stands

pub member_place_arm : (env : Environment) (e : Expr) (b : Box Expr) (n : Name) (a : Expr) (o : Option Base) (x : Option Base) → e ≡ variant.Member b n → x ≡ member_place_then env n o → o ≡ based env (expr_of a) → a ≡ b.value → Some x ≡ place_form env (expr_of e)
unfolding place_form
member_place_arm env e b n a o x is then some at =
    ap Some (then ∙ ap (member_place_then env n) (some ∙ ap (λ z. based env (expr_of z)) at) ∙ sym (law.member_place_is env (expr_of b.value) n)) ∙ ap (place_form env) (sym (member_at e b n is))

pub chain_place_arm : (env : Environment) (e : Expr) (b : Box Expr) (n : Name) (a : Expr) (o : Option Base) (x : Option Base) → e ≡ variant.OptionalMember b n → x ≡ chain_place_then env n o → o ≡ based_in_chain env (expr_of a) → a ≡ b.value → Some x ≡ place_form env (expr_of e)
unfolding place_form
chain_place_arm env e b n a o x is then some at =
    ap Some (then ∙ ap (chain_place_then env n) (some ∙ ap (λ z. based_in_chain env (expr_of z)) at) ∙ sym (law.chain_place_is env (expr_of b.value) n)) ∙ ap (place_form env) (sym (chain_at e b n is))

pub force_place_arm : (env : Environment) (e : Expr) (b : Box Expr) (a : Expr) (o : Option Base) (r : Option Receiver) (x : Option Base) → e ≡ variant.Force b → x ≡ force_place_then env r → r ≡ received o → o ≡ based env (expr_of a) → a ≡ b.value → Some x ≡ place_form env (expr_of e)
unfolding place_form
force_place_arm env e b a o r x is then got some at =
    ap Some (then ∙ ap (force_place_then env) (got ∙ ap received (some ∙ ap (λ z. based env (expr_of z)) at)) ∙ sym (law.force_place_is env (expr_of b.value))) ∙ ap (place_form env) (sym (force_at e b is))

pub index_place_arm : (env : Environment) (e : Expr) (b : Box Expr) (d : Box Expr) (a : Expr) (a1 : Expr) (i : Expr) (o : Option Base) (r : Option Receiver) (x : Option Base) → e ≡ variant.Index b d → x ≡ element_place_then env (expr_of a) (expr_of i) r → r ≡ received o → o ≡ based env (expr_of a1) → a ≡ b.value → a1 ≡ b.value → i ≡ d.value → Some x ≡ place_form env (expr_of e)
unfolding place_form
index_place_arm env e b d a a1 i o r x is then got some at at1 at2 =
    ap Some (then ∙ ap (λ z. element_place_then env (expr_of z) (expr_of i) r) at ∙ ap (λ z. element_place_then env (expr_of b.value) (expr_of z) r) at2 ∙ ap (element_place_then env (expr_of b.value) (expr_of d.value)) (got ∙ ap received (some ∙ ap (λ z. based env (expr_of z)) at1)) ∙ sym (law.index_place_is env (expr_of b.value) (expr_of d.value))) ∙ ap (place_form env) (sym (index_at e b d is))

pub name_place_arm : (env : Environment) (e : Expr) (n : Name) (x : Option Base) → e ≡ variant.Name n → x ≡ place env (s.name n) → Some x ≡ place_form env (expr_of e)
unfolding place_form
name_place_arm env e n x is then = ap Some then ∙ ap (place_form env) (sym (name_at e n is))

pub self_place_arm : (env : Environment) (e : Expr) (x : Option Base) → e ≡ variant.Self_ → x ≡ self_base env → Some x ≡ place_form env (expr_of e)
unfolding place_form
self_place_arm env e x is then = ap Some (then ∙ sym (law.self_place_is env)) ∙ ap (place_form env) (sym (self_at e is))

pub ruleset places = (member_place_arm, chain_place_arm, force_place_arm, index_place_arm, name_place_arm)

-- ---- what is called

pub member_callee_arm : (env : Environment) (types : s.Annotations) (e : Expr) (b : Box Expr) (n : Name) (a : Expr) (o : Option Base) (x : Option Call) → e ≡ variant.Member b n → x ≡ member_call_then env types n o → o ≡ based env (expr_of a) → a ≡ b.value → Some x ≡ callee_form env types (expr_of e)
unfolding callee_form
member_callee_arm env types e b n a o x is then some at =
    ap Some (then ∙ ap (member_call_then env types n) (some ∙ ap (λ z. based env (expr_of z)) at) ∙ sym (law.member_call_is env types (expr_of b.value) n)) ∙ ap (callee_form env types) (sym (member_at e b n is))

pub chain_callee_arm : (env : Environment) (types : s.Annotations) (e : Expr) (b : Box Expr) (n : Name) (a : Expr) (o : Option Base) (x : Option Call) → e ≡ variant.OptionalMember b n → x ≡ chain_call_then env types n o → o ≡ based_in_chain env (expr_of a) → a ≡ b.value → Some x ≡ callee_form env types (expr_of e)
unfolding callee_form
chain_callee_arm env types e b n a o x is then some at =
    ap Some (then ∙ ap (chain_call_then env types n) (some ∙ ap (λ z. based_in_chain env (expr_of z)) at) ∙ sym (law.chain_call_is env types (expr_of b.value) n)) ∙ ap (callee_form env types) (sym (chain_at e b n is))

pub name_callee_arm : (env : Environment) (types : s.Annotations) (e : Expr) (n : Name) (x : Option Call) → e ≡ variant.Name n → x ≡ named_call env types (expr_of e) n → Some x ≡ callee_form env types (expr_of e)
unfolding callee_form
name_callee_arm env types e n x is then =
    ap Some (then ∙ ap (λ z. named_call env types z n) (name_at e n is) ∙ sym (law.callee_name_is env types n)) ∙ ap (callee_form env types) (sym (name_at e n is))

pub ruleset callees = (member_callee_arm, chain_callee_arm, name_callee_arm)

-- ---- nothing of any other form

callee_cases : (env : Environment) (types : s.Annotations) (e : s.ExprTree) → option_flatten (callee_form env types e) ≡ callee env types e
unfolding callee_form callee
callee_cases env types (s.whole n h) = refl
callee_cases env types (s.fixed n) = refl
callee_cases env types (s.text x) = refl
callee_cases env types (s.bool b) = refl
callee_cases env types s.nil = refl
callee_cases env types s.self = refl
callee_cases env types (s.path p) = refl
callee_cases env types (s.name n) = refl
callee_cases env types (s.create names all) = refl
callee_cases env types (s.list all) = refl
callee_cases env types (s.pairs all) = refl
callee_cases env types (s.member a n) = refl
callee_cases env types (s.optional_member a n) = refl
callee_cases env types (s.index a b) = refl
callee_cases env types (s.call f ts all) = refl
callee_cases env types (s.force a) = refl
callee_cases env types (s.unary op a) = refl
callee_cases env types (s.borrow a t) = refl
callee_cases env types (s.cast k a t) = refl
callee_cases env types (s.binary op a b) = refl
callee_cases env types (s.conditional a b c) = refl

place_cases : (env : Environment) (e : s.ExprTree) → option_flatten (place_form env e) ≡ place env e
unfolding place_form place
place_cases env (s.whole n h) = refl
place_cases env (s.fixed n) = refl
place_cases env (s.text x) = refl
place_cases env (s.bool b) = refl
place_cases env s.nil = refl
place_cases env s.self = refl
place_cases env (s.path p) = refl
place_cases env (s.name n) = refl
place_cases env (s.create names all) = refl
place_cases env (s.list all) = refl
place_cases env (s.pairs all) = refl
place_cases env (s.member a n) = refl
place_cases env (s.optional_member a n) = refl
place_cases env (s.index a b) = refl
place_cases env (s.call f ts all) = refl
place_cases env (s.force a) = refl
place_cases env (s.unary op a) = refl
place_cases env (s.borrow a t) = refl
place_cases env (s.cast k a t) = refl
place_cases env (s.binary op a b) = refl
place_cases env (s.conditional a b c) = refl

pub callee_flat : (env : Environment) (types : s.Annotations) (e : s.ExprTree) (y : Option (Option Call)) (x : Option Call) → x ≡ option_flatten y → y ≡ callee_form env types e → x ≡ callee env types e
callee_flat env types e y x then some = then ∙ ap option_flatten some ∙ callee_cases env types e

pub place_flat : (env : Environment) (e : s.ExprTree) (y : Option (Option Base)) (x : Option Base) → x ≡ option_flatten y → y ≡ place_form env e → x ≡ place env e
place_flat env e y x then some = then ∙ ap option_flatten some ∙ place_cases env e
