-- An operator is its answer, and then the charge.
use Rattle.std.proofs.Common.{◌≡◌, ℕ, Bool, true, false, Option, Some, None, not, option_map, Result, Ok, arith, ap, refl, subst, sym, ◌∙◌}
use Rattle.std.proofs.lemmas.Bool.{le-leb}
use Rattle.std.specs.Prelude.{IfSome}
use Rattle.cad_syntax.specs.declared.num.Num.{Num}
use Rattle.cad_evaluation.specs.Numbers.{bool_tree, number_tree, on_numbers}
use Rattle.cad_operators.specs.Calculations.{on_integers}
use Rattle.cad_grammar.specs.declared.expression.BinaryOperator.{BinaryOperator}
use Rattle.cad_grammar.specs.declared.expression.BinaryOperator.TheVariants as o
use Rattle.cad_world.specs.Rows.{Tree}
use Rattle.cad_world.specs.State.{State, Action, Outcome, ok, failed, limit, ill, bind, paid, ◌>>=◌, ◌>>◌, give}
use Rattle.cad_evaluation.specs.Operators.{binary, compared, less, same, told, ordered}
use Rattle.cad_outcomes.specs.declared.stop.Stop.{Stop}
use Rattle.cad_outcomes.specs.Outcomes.{Gives}
use Rattle.cad_operators.specs.declared.numbers.Operation.{Operation}
use Rattle.cad_operators.specs.Answers.{with_charge, answer, comparison, is_comparison, calculation, calculated}

ordered_is : (x : Option Bool) (a b : Tree) (s : State) → ordered x a b s ≡ (told x >>= (λ r. compared a b >> give r)) s
ordered_is (Some is) a b s = refl
ordered_is None a b s = refl

uncharged : (x : Outcome Tree) → x ≡ bind x (λ r s. ok r s)
uncharged (ok r s) = refl
uncharged (failed e) = refl
uncharged limit = refl
uncharged ill = refl

pub charged : (op : BinaryOperator) (a b : Tree) (s : State) → binary op a b s ≡ with_charge op a b s
charged o.Less a b s = ordered_is (less a b) a b s
charged o.LessOrEqual a b s = ordered_is (option_map not (less b a)) a b s
charged o.Greater a b s = ordered_is (less b a) a b s
charged o.GreaterOrEqual a b s = ordered_is (option_map not (less a b)) a b s
charged o.Equal a b s = ordered_is (Some (same a b)) a b s
charged o.NotEqual a b s = ordered_is (Some (not (same a b))) a b s
charged op a b s = uncharged (binary op a b s)

-- ---- what the program answers

pub answer_told : {C : Type 0} (view : C → Tree) (op : BinaryOperator) (a b : Tree) (r : Result C Stop) → is_comparison op ≡ true → Gives view (told (comparison op a b)) r → Gives view (answer op a b) r
answer_told view o.Less a b r e h = h
answer_told view o.LessOrEqual a b r e h = h
answer_told view o.Greater a b r e h = h
answer_told view o.GreaterOrEqual a b r e h = h
answer_told view o.Equal a b r e h = h
answer_told view o.NotEqual a b r e h = h
answer_told view op a b r e h = cc

calculated_is : (op : BinaryOperator) (a b : Tree) → is_comparison op ≡ false → calculated (calculation op) a b ≡ answer op a b
calculated_is o.Less a b e = cc
calculated_is o.LessOrEqual a b e = cc
calculated_is o.Greater a b e = cc
calculated_is o.GreaterOrEqual a b e = cc
calculated_is o.Equal a b e = cc
calculated_is o.NotEqual a b e = cc
calculated_is op a b e = refl

pub answer_calculated : {C : Type 0} (view : C → Tree) (op : BinaryOperator) (k : Option Operation) (a b : Tree) (r : Result C Stop) → is_comparison op ≡ false → k ≡ calculation op → Gives view (calculated k a b) r → Gives view (answer op a b) r
answer_calculated view op k a b r e f h =
    subst (λ (p : Action Tree). Gives view p r) (calculated_is op a b e) (subst (λ (x : Option Operation). Gives view (calculated x a b) r) f h)

-- ---- operators on two numbers, which cost no unit

calculates : (op : BinaryOperator) (k : Operation) (a b : Tree) → calculation op ≡ Some k → on_numbers (on_integers k) a b ≡ binary op a b
calculates o.Add k a b e = ap (λ (x : Option Operation). calculated x a b) (sym e)
calculates o.Subtract k a b e = ap (λ (x : Option Operation). calculated x a b) (sym e)
calculates o.Multiply k a b e = ap (λ (x : Option Operation). calculated x a b) (sym e)
calculates o.Divide k a b e = ap (λ (x : Option Operation). calculated x a b) (sym e)
calculates o.Remainder k a b e = ap (λ (x : Option Operation). calculated x a b) (sym e)
calculates o.BitAnd k a b e = ap (λ (x : Option Operation). calculated x a b) (sym e)
calculates o.BitOr k a b e = ap (λ (x : Option Operation). calculated x a b) (sym e)
calculates o.BitXor k a b e = ap (λ (x : Option Operation). calculated x a b) (sym e)
calculates op k a b e = cc

pub calculates_number : (op : BinaryOperator) (k : Operation) (a b : Tree) (found : Option Num) → calculation op ≡ Some k → IfSome found (λ n. Gives number_tree (on_numbers (on_integers k) a b) (Ok n)) → IfSome found (λ n. Gives number_tree (binary op a b) (Ok n))
calculates_number op k a b None e h = tt
calculates_number op k a b (Some n) e h = subst (λ (p : Action Tree). Gives number_tree p (Ok n)) (calculates op k a b e) h

nothing_spent : (m n : Num) (is : Bool) (s : State) → ordered (Some is) (number_tree m) (number_tree n) s ≡ ok (bool_tree is) s
nothing_spent m n is s =
    ap (λ (b : Bool). bind (paid 0 b s) (λ _. give (bool_tree is))) (le-leb 0 s.units (omega arith)) ∙ ap (λ (u : ℕ). ok (bool_tree is) (record s { units = u })) (omega arith)

compares : (op : BinaryOperator) (m n : Num) (is : Bool) → comparison op (number_tree m) (number_tree n) ≡ Some is → (s : State) → binary op (number_tree m) (number_tree n) s ≡ ok (bool_tree is) s
compares o.Less m n is e s = ap (λ (x : Option Bool). ordered x (number_tree m) (number_tree n) s) e ∙ nothing_spent m n is s
compares o.LessOrEqual m n is e s = ap (λ (x : Option Bool). ordered x (number_tree m) (number_tree n) s) e ∙ nothing_spent m n is s
compares o.Greater m n is e s = ap (λ (x : Option Bool). ordered x (number_tree m) (number_tree n) s) e ∙ nothing_spent m n is s
compares o.GreaterOrEqual m n is e s = ap (λ (x : Option Bool). ordered x (number_tree m) (number_tree n) s) e ∙ nothing_spent m n is s
compares o.Equal m n is e s = ap (λ (x : Option Bool). ordered x (number_tree m) (number_tree n) s) e ∙ nothing_spent m n is s
compares o.NotEqual m n is e s = ap (λ (x : Option Bool). ordered x (number_tree m) (number_tree n) s) e ∙ nothing_spent m n is s
compares op m n is e s = cc

pub compares_numbers : (op : BinaryOperator) (m n : Num) (found : Option Bool) → found ≡ comparison op (number_tree m) (number_tree n) → IfSome found (λ is. Gives bool_tree (binary op (number_tree m) (number_tree n)) (Ok is))
compares_numbers op m n None e = tt
compares_numbers op m n (Some is) e = compares op m n is (sym e)
