-- Forms of expressions, and what is told of them where their parts were found.
use Rattle.std.specs.Prelude.{IfOk}
use Rattle.std.specs.Global.{Box, Vec}
use Rattle.std.proofs.Common.{◌≡◌, ◌∙◌, List, Result, ap, sym, map, subst}
use Rattle.cad_syntax.specs.declared.text.Name.{Name}
use Rattle.cad_grammar.specs.Trees as s
use Rattle.cad_grammar.specs.Trees.{ExprTree, ArgumentTree, EntryTree}
use Rattle.cad_grammar.specs.Views.{expr_of, annotation_of, argument_of, expr_step, argument_step, entry_step}
use Rattle.cad_grammar.specs.declared.expression.Expr.{Expr, Expr-F, fold-roll-Expr}
use Rattle.cad_grammar.specs.declared.expression.Expr.TheVariants as variant
use Rattle.cad_grammar.specs.declared.expression.Expr.TheVariants.{rolls-Member, rolls-Call}
use Rattle.cad_grammar.specs.declared.expression.Argument.{Argument}
use Rattle.cad_grammar.specs.declared.type_expr.TypeAnnotation.{TypeAnnotation}

member_at : (e : Expr) (b : Box Expr) (n : Name) → e ≡ variant.Member b n → expr_of e ≡ s.member (expr_of b.value) n
member_at e b n is = ap expr_of (is ∙ sym (rolls-Member b n)) ∙ fold-roll-Expr ExprTree ArgumentTree EntryTree expr_step argument_step entry_step (Expr-F.Member b n)

call_at : (e : Expr) (b : Box Expr) (ts : Vec TypeAnnotation) (v : Vec Argument) → e ≡ variant.Call b ts v → expr_of e ≡ s.call (expr_of b.value) (s.annotations_of (map annotation_of ts.items)) (s.arguments_of (map argument_of v.items))
call_at e b ts v is = ap expr_of (is ∙ sym (rolls-Call b ts v)) ∙ fold-roll-Expr ExprTree ArgumentTree EntryTree expr_step argument_step entry_step (Expr-F.Call b ts v)

-- what is told of a member
pub member_arm : {X E Y : Type 0} (view : X → Y) (f : ExprTree → Y) (r : Result X E) (e : Expr) (b : Box Expr) (n : Name) (a : Expr)
    → e ≡ variant.Member b n → a ≡ b.value → IfOk r (λ x. view x ≡ f (s.member (expr_of a) n)) → IfOk r (λ x. view x ≡ f (expr_of e))
member_arm view f r e b n a is at told =
    subst (λ (t : ExprTree). IfOk r (λ x. view x ≡ f t)) (ap (λ (z : Expr). s.member (expr_of z) n) at ∙ sym (member_at e b n is)) told

-- what is told of a call
pub call_arm : {X E Y : Type 0} (view : X → Y) (f : ExprTree → Y) (r : Result X E) (e : Expr) (b : Box Expr) (ts : Vec TypeAnnotation) (v : Vec Argument) (a : Expr) (types : List TypeAnnotation) (all : List Argument)
    → e ≡ variant.Call b ts v → a ≡ b.value → types ≡ ts.items → all ≡ v.items
    → IfOk r (λ x. view x ≡ f (s.call (expr_of a) (s.annotations_of (map annotation_of types)) (s.arguments_of (map argument_of all)))) → IfOk r (λ x. view x ≡ f (expr_of e))
call_arm view f r e b ts v a types all is at typed items told =
    subst (λ (t : ExprTree). IfOk r (λ x. view x ≡ f t))
    (ap (λ (z : Expr). s.call (expr_of z) (s.annotations_of (map annotation_of types)) (s.arguments_of (map argument_of all))) at
    ∙ ap (λ (z : List TypeAnnotation). s.call (expr_of b.value) (s.annotations_of (map annotation_of z)) (s.arguments_of (map argument_of all))) typed
    ∙ ap (λ (z : List Argument). s.call (expr_of b.value) (s.annotations_of (map annotation_of ts.items)) (s.arguments_of (map argument_of z))) items
    ∙ sym (call_at e b ts v is))
    told
