-- Numbers that are told at once, and what operators make of them.
use Rattle.std.proofs.Common.{◌≡◌, ℕ, Bool, List, [], Option, Some, None, Result, Ok, Err, ap, refl, sym, ◌∙◌, subst}
use Rattle.std.specs.Global.{Box}
use Rattle.std.specs.Prelude.{IfSome}
use Rattle.cad_syntax.specs.declared.num.Num.{Num}
use denote.Ref.{Bor}
use Rattle.cad_declarations.specs.Typed as e
use Rattle.cad_declarations.specs.Views.{place_of}
use Rattle.cad_declarations.specs.declared.term.Place.{Place}
use Rattle.cad_declarations.specs.declared.term.Place.TheVariants as place
use Rattle.cad_evaluation.specs.Callees.{Calls, Front}
use Rattle.cad_evaluation.specs.Numbers.{bool_tree, number_tree}
use Rattle.cad_evaluation.specs.Operators.{binary}
use Rattle.cad_evaluation.specs.Reading.{copied}
use Rattle.cad_evaluation.specs.Standing.{or_nil, without}
use Rattle.cad_evaluation.specs.Terms.{combined, eval}
use Rattle.cad_grammar.specs.declared.expression.BinaryOperator.{BinaryOperator}
use Rattle.cad_grammar.specs.declared.expression.BinaryOperator.TheVariants as o
use Rattle.cad_outcomes.specs.Outcomes.{Gives, Stops}
use Rattle.cad_outcomes.specs.declared.stop.Stop.{Stop}
use Rattle.cad_rows.specs.Places.{pure_slot}
use Rattle.cad_rows.specs.Views.{pure_tree}
use Rattle.cad_rows.specs.declared.access.Slot as access
use Rattle.cad_rows.specs.declared.access.Slot.TheVariants.{Full}
use Rattle.cad_rows.specs.declared.tree.Tree as code
use Rattle.cad_state.specs.Views.{FindsAndCarriesOut, state_over}
use Rattle.cad_state.specs.declared.state.RunState.{RunState}
use Rattle.cad_values.specs.Values as v
use Rattle.cad_world.specs.Labels.{variables}
use Rattle.cad_world.specs.Locations.{read_slot, variable}
use Rattle.cad_world.specs.Rows.{NodeShape, Row, Slot, Tree, full, plain, slot, stop}
use Rattle.cad_world.specs.State.{Account, Action, State, bind, give, ok}
use Rattle.cad_expression_leaves.specs.Code.Steps.{Boxes, evaluated}
use Rattle.cad_expression_leaves.specs.Views.{tree_in}
use Rattle.cad_expression_leaves.proofs.Boxing.{gives_boxed}
use Rattle.cad_expression_leaves.proofs.Trees as tree

-- nothing stands round it or in it
pub number_alone : (t : Tree) (o : Option Num) → t.optionals ≡ 0 → t.parts ≡ stop → IfSome o (λ n. t.shape ≡ plain (v.number n)) → IfSome o (λ n. t ≡ number_tree n)
number_alone t None h p s = tt
number_alone t (Some n) h p s = λ i. record { optionals = h i; shape = s i; parts = p i }

-- a copy of a variable that holds a number
copied_number : (front : Front) (calls : Calls) (i : ℕ) (n : Num) (s : State) → slot i (variables s) ≡ full (number_tree n) → evaluated front calls (e.copy (e.variable i)) s ≡ ok (number_tree n) s
unfolding evaluated
copied_number front calls i n s is = ap (λ q. bind (bind (bind (ok q s) (read_slot (variable i))) (λ o. give (or_nil (without 0 o)))) copied) is

-- what is found in a variable
pub number_there : (x : RunState) (i : ℕ) (found : access.Slot) (t : Bor code.Tree) (o : Option Num) → ((accounts : List Account) → pure_slot found ≡ slot i (variables (state_over accounts x))) → found ≡ Full t
    → IfSome o (λ n. pure_tree t.now ≡ number_tree n) → IfSome o (λ n. (accounts : List Account) → slot i (variables (state_over accounts x)) ≡ full (number_tree n))
number_there x i found t None seen is whole = tt
number_there x i found t (Some n) seen is whole = λ accounts. sym (seen accounts) ∙ ap pure_slot is ∙ ap full whole

-- the place is that variable
pub place_copied : (t : Place) (x : RunState) (i : ℕ) (o : Option Num) → t ≡ place.Variable i → IfSome o (λ n. (accounts : List Account) → slot i (variables (state_over accounts x)) ≡ full (number_tree n))
    → IfSome o (λ n. (front : Front) (calls : Calls) → FindsAndCarriesOut number_tree (evaluated front calls (e.copy (place_of t))) x x (Ok n))
place_copied t x i None is found = tt
place_copied t x i (Some n) is found = λ front calls w ready.
    ap (λ p. evaluated front calls (e.copy p) (state_over w x)) (tree.place_variable_at t i is) ∙ copied_number front calls i n (state_over w x) (found w)

-- it stands on the heap
pub number_boxed : (t : code.Tree) (n : Num) (result : Result (Box code.Tree) Stop) → pure_tree t ≡ number_tree n → Boxes (Ok t) result → Gives tree_in (give (number_tree n)) result
number_boxed t n result is box = gives_boxed (give (number_tree n)) (Ok t) result box (λ s. ap (λ u. ok u s) (sym is))

-- what is told at once is what the expression comes to
pub told : (p : Action Tree) (x : RunState) (n : Num) (result : Result (Box code.Tree) Stop)
    → FindsAndCarriesOut number_tree p x x (Ok n) → Gives tree_in (give (number_tree n)) result → FindsAndCarriesOut tree_in p x x result
told p x n (Ok b) is given w ready = is w ready ∙ given (state_over w x)
told p x n (Err why) is given w ready = subst (λ q. Stops q why) (sym (is w ready)) (given (state_over w x))

-- ---- operators on two of them

-- what an operator makes of a number and of what comes to one
behind_number : (operator : BinaryOperator) (m n : Num) (q : Action Tree) (s : State) → q s ≡ ok (number_tree n) s → combined operator (number_tree m) q s ≡ binary operator (number_tree m) (number_tree n) s
behind_number o.Or m n q s is = refl
behind_number o.And m n q s is = refl
behind_number operator m n q s is = ap (λ r. bind r (binary operator (number_tree m))) is

-- what it makes of two expressions that come to numbers
module _ (front : Front) (calls : Calls) (operator : BinaryOperator) (a b : e.TermTree) (m n : Num) where
  on_numbers : (s : State) → evaluated front calls a s ≡ ok (number_tree m) s → evaluated front calls b s ≡ ok (number_tree n) s → evaluated front calls (e.binary operator a b) s ≡ binary operator (number_tree m) (number_tree n) s
  unfolding evaluated
  on_numbers s first second = ap (λ r. bind r (λ x. combined operator x (eval front calls b))) first ∙ behind_number operator m n (eval front calls b) s second

  found_on : {B : Type 0} (view : B → Tree) (x : RunState) (r : Result B Stop) → FindsAndCarriesOut number_tree (evaluated front calls a) x x (Ok m) → FindsAndCarriesOut number_tree (evaluated front calls b) x x (Ok n)
      → Gives view (binary operator (number_tree m) (number_tree n)) r → FindsAndCarriesOut view (evaluated front calls (e.binary operator a b)) x x r
  found_on view x (Ok t) first second given w ready = on_numbers (state_over w x) (first w ready) (second w ready) ∙ given (state_over w x)
  found_on view x (Err why) first second given w ready = subst (λ q. Stops q why) (sym (on_numbers (state_over w x) (first w ready) (second w ready))) (given (state_over w x))

-- an expression comes to a number, over any front end and any calls
abbrev IsTold : e.TermTree → RunState → Num → Type 0
IsTold a x n = (front : Front) (calls : Calls) → FindsAndCarriesOut number_tree (evaluated front calls a) x x (Ok n)

pub operands_told : (operator : BinaryOperator) (a b : e.TermTree) (x : RunState) (m n : Num) (found : Option (Result (Box code.Tree) Stop)) → IsTold a x m → IsTold b x n
    → IfSome found (λ r. Gives tree_in (binary operator (number_tree m) (number_tree n)) r) → IfSome found (λ r. (front : Front) (calls : Calls) → FindsAndCarriesOut tree_in (evaluated front calls (e.binary operator a b)) x x r)
operands_told operator a b x m n None first second given = tt
operands_told operator a b x m n (Some r) first second given = λ front calls. found_on front calls operator a b m n tree_in x r (first front calls) (second front calls) given

pub operands_compared : (operator : BinaryOperator) (a b : e.TermTree) (x : RunState) (m n : Num) (found : Option Bool) → IsTold a x m → IsTold b x n
    → IfSome found (λ is. Gives bool_tree (binary operator (number_tree m) (number_tree n)) (Ok is)) → IfSome found (λ is. (front : Front) (calls : Calls) → FindsAndCarriesOut bool_tree (evaluated front calls (e.binary operator a b)) x x (Ok is))
operands_compared operator a b x m n None first second given = tt
operands_compared operator a b x m n (Some is) first second given = λ front calls. found_on front calls operator a b m n bool_tree x (Ok is) (first front calls) (second front calls) given

-- what an action gives stands on the heap
pub given_boxed : {B : Type 0} (view : B → Tree) (p : Action Tree) (b : B) (result : Result (Box code.Tree) Stop) → Gives view p (Ok b) → Gives tree_in (give (view b)) result → Gives tree_in p result
given_boxed view p b (Ok t) given boxed = λ s. given s ∙ boxed s
given_boxed view p b (Err why) given boxed = λ s. subst (λ q. Stops q why) (sym (given s)) (boxed s)
