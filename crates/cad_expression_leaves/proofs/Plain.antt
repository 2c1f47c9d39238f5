-- Expressions without parts.
use Rattle.std.proofs.Common.{◌≡◌, ℕ, Bool, Result, Ok, Err, ap, refl, sym, ◌∙◌, subst}
use Rattle.cad_syntax.specs.Types.{pure_type}
use Rattle.cad_syntax.specs.declared.address.Address.{Address}
use Rattle.cad_syntax.specs.declared.address.Path.{Path}
use Rattle.cad_syntax.specs.declared.num.Num.{Num}
use Rattle.cad_syntax.specs.declared.text.Text.{Text}
use Rattle.cad_syntax.specs.declared.type_id.TypeId.{TypeId}
use Rattle.cad_syntax.specs.declared.types.CadType.{CadType}
use Rattle.cad_declarations.specs.Typed as e
use Rattle.cad_declarations.specs.Views.{term_of}
use Rattle.cad_declarations.specs.declared.term.Term.{Term}
use Rattle.cad_declarations.specs.declared.term.Term.TheVariants as term
use Rattle.cad_evaluation.specs.Callees.{Calls, Front}
use Rattle.cad_evaluation.specs.Making.{case_tree}
use Rattle.cad_evaluation.specs.Numbers.{number_tree, bool_tree}
use Rattle.cad_evaluation.specs.Uses.{before_value}
use Rattle.cad_outcomes.specs.Outcomes.{Stops}
use Rattle.cad_outcomes.specs.declared.stop.Stop.{Stop}
use Rattle.cad_rows.specs.Views.{pure_tree}
use Rattle.cad_rows.specs.declared.tree.Tree as code
use Rattle.cad_state.specs.Views.{state_over, CarriesOut, FindsAndCarriesOut}
use Rattle.cad_state.specs.declared.state.RunState.{RunState}
use Rattle.cad_state.proofs.Finding.{find_any, find_same}
use Rattle.cad_values.specs.Values as v
use Rattle.cad_world.specs.Rows.{Tree}
use Rattle.cad_world.specs.State.{State, ok, Action, give}
use Rattle.cad_world.specs.Trees.{of_plain, nil_tree}
use Rattle.cad_expression_leaves.specs.Code.Steps.{CopiesTo, evaluated, type_called}
use Rattle.cad_expression_leaves.proofs.Trees as tree
use Rattle.cad_expression_leaves.specs.Views.{tree_in}
use Rattle.std.specs.Global.{Box}

pub value_carried : {C D : Type 0} (view : D → C) (a : C) (d : D) (x : RunState) → view d ≡ a → CarriesOut view (give a) x x (Ok d)
value_carried view a d x is w = ap (λ c. ok c (state_over w x)) (sym is)

pub copy_carried : {C D : Type 0} (view : D → C) (a : C) (r : Result D Stop) (x : RunState) → CopiesTo view a r → CarriesOut view (give a) x x r
copy_carried view a (Ok d) x is w = value_carried view a d x is w
copy_carried view a (Err why) x is w = subst (λ (q : Stop). Stops (ok a (state_over w x)) q) (sym is) tt

module _ (front : Front) (calls : Calls) (t : Term) (x : RunState) (r : Result code.Tree Stop) where
  plain : (u : e.TermTree) (q : Action Tree) → term_of t ≡ u → ((s : State) → evaluated front calls u s ≡ q s) → CarriesOut pure_tree q x x r
      → FindsAndCarriesOut pure_tree (evaluated front calls (term_of t)) x x r
  plain u q at same done = find_same pure_tree (evaluated front calls (term_of t)) q x x r
      (λ w ready. ap (λ z. evaluated front calls z (state_over w x)) at ∙ same (state_over w x)) (find_any pure_tree q x x r done)

  pub number_arm : (n : Num) → t ≡ term.Number n → CarriesOut pure_tree (give (number_tree n)) x x r → FindsAndCarriesOut pure_tree (evaluated front calls (term_of t)) x x r
  unfolding evaluated
  number_arm n is = plain (e.number n) (give (number_tree n)) (tree.number_at t n is) (λ s. refl)

  pub address_arm : (a : Address) → t ≡ term.Address a → CarriesOut pure_tree (give (of_plain (v.address a))) x x r → FindsAndCarriesOut pure_tree (evaluated front calls (term_of t)) x x r
  unfolding evaluated
  address_arm a is = plain (e.address a) (give (of_plain (v.address a))) (tree.address_at t a is) (λ s. refl)

  pub bool_arm : (b : Bool) → t ≡ term.Bool b → CarriesOut pure_tree (give (bool_tree b)) x x r → FindsAndCarriesOut pure_tree (evaluated front calls (term_of t)) x x r
  unfolding evaluated
  bool_arm b is = plain (e.bool b) (give (bool_tree b)) (tree.bool_at t b is) (λ s. refl)

  pub nil_arm : t ≡ term.Nil → CarriesOut pure_tree (give nil_tree) x x r → FindsAndCarriesOut pure_tree (evaluated front calls (term_of t)) x x r
  unfolding evaluated
  nil_arm is = plain e.nil (give nil_tree) (tree.nil_at t is) (λ s. refl)

  pub string_arm : (a : Text) → t ≡ term.String a → CarriesOut pure_tree (give (of_plain (v.string a))) x x r → FindsAndCarriesOut pure_tree (evaluated front calls (term_of t)) x x r
  unfolding evaluated
  string_arm a is = plain (e.string a) (give (of_plain (v.string a))) (tree.string_at t a is) (λ s. refl)

  pub character_arm : (a : Text) → t ≡ term.Character a → CarriesOut pure_tree (give (of_plain (v.character a))) x x r → FindsAndCarriesOut pure_tree (evaluated front calls (term_of t)) x x r
  unfolding evaluated
  character_arm a is = plain (e.character a) (give (of_plain (v.character a))) (tree.character_at t a is) (λ s. refl)

  pub path_arm : (a : Path) → t ≡ term.Path a → CarriesOut pure_tree (give (of_plain (v.path a))) x x r → FindsAndCarriesOut pure_tree (evaluated front calls (term_of t)) x x r
  unfolding evaluated
  path_arm a is = plain (e.path a) (give (of_plain (v.path a))) (tree.path_at t a is) (λ s. refl)

  pub case_arm : (id : TypeId) (n : ℕ) → t ≡ term.Case id n → CarriesOut pure_tree (case_tree id n) x x r → FindsAndCarriesOut pure_tree (evaluated front calls (term_of t)) x x r
  unfolding evaluated
  case_arm id n is = plain (e.case id n) (case_tree id n) (tree.case_at t id n is) (λ s. refl)

  pub before_arm : (n : ℕ) → t ≡ term.Before n → CarriesOut pure_tree (before_value n) x x r → FindsAndCarriesOut pure_tree (evaluated front calls (term_of t)) x x r
  unfolding evaluated
  before_arm n is = plain (e.before n) (before_value n) (tree.before_at t n is) (λ s. refl)

-- a type that is called for
pub meta_arm : (front : Front) (calls : Calls) (t : Term) (x y : RunState) (r : Result (Box code.Tree) Stop) (c : CadType) → t ≡ term.Meta c
    → FindsAndCarriesOut tree_in (type_called (pure_type c)) x y r → FindsAndCarriesOut tree_in (evaluated front calls (term_of t)) x y r
unfolding evaluated type_called
meta_arm front calls t x y r c is done = find_same tree_in (evaluated front calls (term_of t)) (type_called (pure_type c)) x y r
    (λ w ready. ap (λ z. evaluated front calls z (state_over w x)) (tree.meta_at t c is)) done
