-- What is done with the value of a first part by a second one.
use Rattle.std.proofs.Common.{◌≡◌, Bool, true, false, Option, Some, None, option_map, Result, ap, refl, ◌∙◌}
use Rattle.std.specs.Global.{Box}
use Rattle.cad_syntax.specs.Types.{PureType}
use Rattle.cad_grammar.specs.declared.expression.BinaryOperator.{BinaryOperator}
use Rattle.cad_grammar.specs.declared.expression.BinaryOperator.TheVariants.{And, Or}
use Rattle.cad_grammar.specs.declared.expression.BinaryOperator.TheVariants as op
use Rattle.cad_syntax.specs.declared.text.Name.{Name}
use Rattle.cad_syntax.specs.declared.types.Authorization.{Authorization}
use Rattle.cad_types.specs.declared.builtin.Builtin.{Builtin}
use Rattle.cad_declarations.specs.Views.{use_of}
use Rattle.cad_declarations.specs.declared.term.Use.{Use}
use Rattle.cad_declarations.specs.declared.term.Use.TheVariants as usage
use Rattle.cad_declarations.specs.Typed as e
use Rattle.cad_evaluation.specs.Callees.{Calls, Front}
use Rattle.cad_evaluation.specs.Numbers.{truth_of, bool_tree}
use Rattle.cad_evaluation.specs.Operators as operators
use Rattle.cad_evaluation.specs.Standing.{Standing, here, led_by, nowhere, receiver_from}
use Rattle.cad_evaluation.specs.Reading.{read_field}
use Rattle.cad_evaluation.specs.Changing.{Content, nothing, content, no_optional, content_of, by_content}
use Rattle.cad_evaluation.specs.Uses.{taken_if, truth_only}
use Rattle.cad_expression_leaves.specs.Passed.{left_or_none}
use Rattle.cad_world.specs.Transfers.{rounded}
use Rattle.cad_labels.proofs.Forms.{keeps_give}
use Rattle.cad_labels.specs.Laws.{AnyOne, HasNone, Keeps}
use Rattle.cad_labels.proofs.Keeping.{keeps_bind}
use Rattle.cad_outcomes.specs.declared.stop.Stop.{Stop}
use Rattle.cad_rows.specs.declared.tree.Tree as code
use Rattle.cad_expression_leaves.specs.Passed.{is_nowhere}
use Rattle.cad_state.specs.Views.{state_over, FindsAndCarriesOut}
use Rattle.cad_state.specs.declared.state.RunState.{RunState}
use Rattle.cad_world.specs.Receivers.{Receiver, look_at}
use Rattle.cad_world.specs.Rows.{Tree}
use Rattle.cad_world.specs.State.{State, Outcome, ok, failed, limit, ill, bind, Action, ◌>>=◌, give, choose, by_truth, with_some}
use Rattle.cad_expression_leaves.specs.Code.Steps.{GoesOn, evaluated, element_at, element_in, coalesced_with, combined_with, conjoined, disjoined, filled_by, member_read, rounded_to, truth_told, used}
use Rattle.cad_expression_leaves.specs.Views.{tree_in}
use Rattle.cad_expressions.proofs.Composed.{truth_told_keeps}
use Rattle.cad_expressions.proofs.Forms.{get_is}
use Rattle.cad_expression_leaves.proofs.Going.{goes_twice}
use Rattle.cad_expression_leaves.proofs.Trees as tree
use Rattle.cad_state.proofs.Finding.{find_same}

module _ (front : Front) (calls : Calls) where
  pub no_element : (writes : Bool) (a : e.TermTree) (p : Standing) → is_nowhere p ≡ true → (s : State) → element_at front calls writes a p s ≡ ok p s
  unfolding element_at
  no_element writes a (here rights x n) is s = cc
  no_element writes a (led_by t) is s = cc
  no_element writes a nowhere is s = refl

  pub an_element : (writes : Bool) (a : e.TermTree) (p : Standing) → is_nowhere p ≡ false → (s : State)
      → element_at front calls writes a p s ≡ (receiver_from p >>= element_in front calls writes a) s
  unfolding element_at
  an_element writes a (here rights x n) is s = refl
  an_element writes a (led_by t) is s = refl
  an_element writes a nowhere is s = cc

  both_cases : (o : Option Bool) (right : Action Tree) (s : State)
      → by_truth o (right >>= truth_only) (give (bool_tree false)) s ≡ bind (with_some o give s) (λ x. choose x (right >>= truth_only) (give (bool_tree false)))
  both_cases (Some true) right s = refl
  both_cases (Some false) right s = refl
  both_cases None right s = refl

  either_cases : (o : Option Bool) (right : Action Tree) (s : State)
      → by_truth o (give (bool_tree true)) (right >>= truth_only) s ≡ bind (with_some o give s) (λ x. choose x (give (bool_tree true)) (right >>= truth_only))
  either_cases (Some true) right s = refl
  either_cases (Some false) right s = refl
  either_cases None right s = refl

  lifted : (o : Outcome Tree) (h : Tree → Action Tree) (f : Tree → Action Bool) (g : Bool → Action Tree) → ((t : Tree) (s : State) → h t s ≡ bind (f t s) g) → bind o h ≡ bind (bind o f) g
  lifted (ok t s) h f g same = same t s
  lifted (failed n) h f g same = refl
  lifted limit h f g same = refl
  lifted ill h f g same = refl

  and_same : (b : e.TermTree) (p : Action Tree) (s : State) → (p >>= combined_with front calls And b) s ≡ ((p >>= truth_told) >>= conjoined front calls b) s
  unfolding combined_with truth_told conjoined
  and_same b p s = lifted (p s) (combined_with front calls And b) truth_told (conjoined front calls b) (λ t s. both_cases (truth_of t) (evaluated front calls b) s)

  or_same : (b : e.TermTree) (p : Action Tree) (s : State) → (p >>= combined_with front calls Or b) s ≡ ((p >>= truth_told) >>= disjoined front calls b) s
  unfolding combined_with truth_told disjoined
  or_same b p s = lifted (p s) (combined_with front calls Or b) truth_told (disjoined front calls b) (λ t s. either_cases (truth_of t) (evaluated front calls b) s)

  pub and_goes : (b : e.TermTree) (operator : BinaryOperator) (r : Result (Box code.Tree) Stop) (x' : Result Bool Stop) (y z : RunState) (result : Result (Box code.Tree) Stop) → operator ≡ And
      → GoesOn HasNone tree_in (λ (b : Bool). b) truth_told r y y x' → GoesOn AnyOne (λ (b : Bool). b) tree_in (conjoined front calls b) x' y z result
      → GoesOn HasNone tree_in tree_in (combined_with front calls operator b) r y z result
  and_goes b operator r x' y z result is first second = rw (is)
      (goes_twice HasNone AnyOne tree_in (λ (b : Bool). b) tree_in truth_told (conjoined front calls b) (combined_with front calls And b) r x' y y z result
      (λ p keep. keeps_bind HasNone AnyOne p truth_told keep (λ t h. truth_told_keeps t)) (and_same b) first second)

  pub or_goes : (b : e.TermTree) (operator : BinaryOperator) (r : Result (Box code.Tree) Stop) (x' : Result Bool Stop) (y z : RunState) (result : Result (Box code.Tree) Stop) → operator ≡ Or
      → GoesOn HasNone tree_in (λ (b : Bool). b) truth_told r y y x' → GoesOn AnyOne (λ (b : Bool). b) tree_in (disjoined front calls b) x' y z result
      → GoesOn HasNone tree_in tree_in (combined_with front calls operator b) r y z result
  or_goes b operator r x' y z result is first second = rw (is)
      (goes_twice HasNone AnyOne tree_in (λ (b : Bool). b) tree_in truth_told (disjoined front calls b) (combined_with front calls Or b) r x' y y z result
      (λ p keep. keeps_bind HasNone AnyOne p truth_told keep (λ t h. truth_told_keeps t)) (or_same b) first second)

  content_cases : (c : Content) (takes : Bool) (type : PureType) (t : Tree) (b : e.TermTree) (s : State)
      → by_content c (evaluated front calls b >>= (λ v. give (rounded type v))) (λ inside. give (taken_if takes t inside)) s
      ≡ bind (by_content c (give None) (λ inside. give (Some (taken_if takes t inside))) s) (filled_by front calls type b)
  unfolding filled_by rounded_to
  content_cases nothing takes type t b s = refl
  content_cases (content u) takes type t b s = refl
  content_cases no_optional takes type t b s = refl

  lifted_content : (o : Outcome Tree) (h : Tree → Action Tree) (f : Tree → Action (Option Tree)) (g : Option Tree → Action Tree) → ((t : Tree) (s : State) → h t s ≡ bind (f t s) g) → bind o h ≡ bind (bind o f) g
  lifted_content (ok t s) h f g same = same t s
  lifted_content (failed n) h f g same = refl
  lifted_content limit h f g same = refl
  lifted_content ill h f g same = refl

  coalesce_same : (takes : Bool) (type : PureType) (b : e.TermTree) (p : Action Tree) (s : State)
      → (p >>= coalesced_with front calls takes type b) s ≡ ((p >>= left_or_none takes) >>= filled_by front calls type b) s
  unfolding coalesced_with
  coalesce_same takes type b p s = lifted_content (p s) (coalesced_with front calls takes type b) (left_or_none takes) (filled_by front calls type b) (λ t s. content_cases (content_of t) takes type t b s)

  content_keeps : (c : Content) (takes : Bool) (t : Tree) → Keeps {A = Option Tree} AnyOne (by_content c (give None) (λ inside. give (Some (taken_if takes t inside))))
  content_keeps nothing takes t = keeps_give {A = Option Tree} AnyOne None tt
  content_keeps (content u) takes t = keeps_give {A = Option Tree} AnyOne (Some (taken_if takes t u)) tt
  content_keeps no_optional takes t = λ s once. tt

  pub coalesce_goes : (takes : Bool) (type : PureType) (b : e.TermTree) (r : Result (Box code.Tree) Stop) (x' : Result (Option (Box code.Tree)) Stop) (y z : RunState) (result : Result (Box code.Tree) Stop)
      → GoesOn HasNone tree_in (λ (o : Option (Box code.Tree)). option_map (λ t. tree_in t) o) (left_or_none takes) r y y x'
      → GoesOn AnyOne (λ (o : Option (Box code.Tree)). option_map (λ t. tree_in t) o) tree_in (filled_by front calls type b) x' y z result
      → GoesOn HasNone tree_in tree_in (coalesced_with front calls takes type b) r y z result
  coalesce_goes takes type b r x' y z result first second =
      goes_twice HasNone AnyOne tree_in (λ (o : Option (Box code.Tree)). option_map (λ t. tree_in t) o) tree_in (left_or_none takes) (filled_by front calls type b) (coalesced_with front calls takes type b) r x' y y z result
      (λ p keep. keeps_bind HasNone AnyOne p (left_or_none takes) keep (λ t h. content_keeps (content_of t) takes t)) (coalesce_same takes type b) first second

  pub get_arm : (t : Use) (n : Name) (a : Authorization) (r : Receiver) (x z : RunState) (res : Result (Box code.Tree) Stop) → t ≡ usage.Field n a
      → FindsAndCarriesOut tree_in (look_at r >>= read_field n a) x z res → FindsAndCarriesOut tree_in (used front calls (use_of t) r) x z res
  get_arm t n a r x z res is done = find_same tree_in (used front calls (use_of t) r) (look_at r >>= read_field n a) x z res
      (λ w ready. ap (λ u. used front calls u r (state_over w x)) (tree.use_get_at t n a is) ∙ get_is front calls n a r (state_over w x)) done

  field_read : (b : Builtin) (r : Receiver) (s : State) → used front calls (e.builtin_field b) r s ≡ member_read front calls b r s
  unfolding used member_read
  field_read b r s = refl

  pub builtin_field_arm : (t : Use) (b : Builtin) (r : Receiver) (x z : RunState) (res : Result (Box code.Tree) Stop) → t ≡ usage.BuiltinField b
      → FindsAndCarriesOut tree_in (member_read front calls b r) x z res → FindsAndCarriesOut tree_in (used front calls (use_of t) r) x z res
  builtin_field_arm t b r x z res is done = find_same tree_in (used front calls (use_of t) r) (member_read front calls b r) x z res
      (λ w ready. ap (λ u. used front calls u r (state_over w x)) (tree.use_builtin_field_at t b is) ∙ field_read b r (state_over w x)) done

  pub otherwise : (b : e.TermTree) (operator : BinaryOperator) (x : Tree) → (operator ≡ And → ⊥) → (operator ≡ Or → ⊥) → (s : State)
      → combined_with front calls operator b x s ≡ (evaluated front calls b >>= operators.binary operator x) s
  unfolding combined_with
  otherwise b And x one other s = absurd (one refl)
  otherwise b Or x one other s = absurd (other refl)
  otherwise b op.Less x one other s = refl
  otherwise b op.LessOrEqual x one other s = refl
  otherwise b op.Greater x one other s = refl
  otherwise b op.GreaterOrEqual x one other s = refl
  otherwise b op.Equal x one other s = refl
  otherwise b op.NotEqual x one other s = refl
  otherwise b op.Coalesce x one other s = refl
  otherwise b op.BitOr x one other s = refl
  otherwise b op.BitXor x one other s = refl
  otherwise b op.BitAnd x one other s = refl
  otherwise b op.Add x one other s = refl
  otherwise b op.Subtract x one other s = refl
  otherwise b op.Multiply x one other s = refl
  otherwise b op.Divide x one other s = refl
  otherwise b op.Remainder x one other s = refl
