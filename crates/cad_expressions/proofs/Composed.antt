-- What the forms give: a form of its parts, and what is done with them, as the code finds them.
use Rattle.std.proofs.Common.{ℕ, Bool, false, List, Option, option_map, Result, map}
use Rattle.std.specs.Global.{Box, Vec}
use Rattle.cad_syntax.specs.Types.{PureType, pure_type}
use Rattle.cad_syntax.specs.declared.text.Name.{Name}
use Rattle.cad_syntax.specs.declared.type_id.TypeId.{TypeId}
use Rattle.cad_syntax.specs.declared.types.Authorization.{Authorization}
use Rattle.cad_syntax.specs.declared.types.CadType.{CadType}
use Rattle.cad_grammar.specs.declared.expression.BinaryOperator.{BinaryOperator}
use Rattle.cad_grammar.specs.declared.expression.CastKind.{CastKind}
use Rattle.cad_grammar.specs.declared.expression.UnaryOperator.{UnaryOperator}
use Rattle.cad_types.specs.declared.builtin.Builtin.{Builtin}
use Rattle.cad_declarations.specs.Typed as e
use Rattle.cad_declarations.specs.Views.{place_of, term_of, use_of, argument_of, pair_of}
use Rattle.cad_declarations.specs.declared.term.Argument.{Argument}
use Rattle.cad_declarations.specs.declared.term.TermEntry.{TermEntry}
use Rattle.cad_declarations.specs.declared.term.Term.{Term}
use Rattle.cad_declarations.specs.declared.term.Place.{Place}
use Rattle.cad_declarations.specs.declared.term.Use.{Use}
use Rattle.cad_expression_leaves.specs.Passed.{Pair}
use Rattle.cad_evaluation.specs.Builtins.{may_use}
use Rattle.cad_evaluation.specs.Callees.{Calls, Front}
use Rattle.cad_evaluation.specs.Casts.{cast}
use Rattle.cad_evaluation.specs.Operators as operators
use Rattle.cad_evaluation.specs.Standing.{taken_from, referred_to, receiver_from, receiver_of_chain}
use Rattle.cad_evaluation.specs.Uses.{array_of, callable, dictionary_of, forced}
use Rattle.cad_labels.specs.Laws.{AnyOne, CalleesKeep, HasNone, HasNoneInRow, Keeps}
use Rattle.cad_labels.proofs.Forms.{keeps_give, keeps_guard, keeps_some}
use Rattle.cad_labels.proofs.Keeping.{keeps_bind}
use Rattle.cad_labels.proofs.Places.{looks_keep, filling_keeps}
use Rattle.cad_label_runs.proofs.Standing.{receiver_from_keeps, receiver_of_chain_keeps}
use Rattle.cad_label_runs.proofs.Uses.{callable_keeps}
use Rattle.cad_label_runs.proofs.Values.{PairsHaveNone}
use Rattle.cad_evaluation.specs.Numbers.{truth_of}
use Rattle.cad_world.specs.Locations.{variable}
use Rattle.cad_world.specs.Receivers.{Receiver, look_at}
use Rattle.cad_world.specs.Rows as rows
use Rattle.cad_world.specs.State.{◌>>=◌, give, done, guard}
use Rattle.cad_outcomes.specs.Outcomes.{no_value}
use Rattle.cad_outcomes.specs.declared.stop.Stop.{Stop}
use Rattle.cad_rows.specs.declared.tree.Tree.{Tree}
use Rattle.cad_rows.specs.declared.tree.Place as row
use Rattle.cad_expression_leaves.specs.Passed.{receiver_of}
use Rattle.cad_expression_leaves.specs.Passed as code
use Rattle.cad_expression_leaves.specs.Passed.{standing_of}
use Rattle.cad_expression_leaves.specs.Passed.{Standing}
use Rattle.cad_state.specs.Views.{state_over, FindsAndCarriesOut}
use Rattle.cad_state.specs.declared.state.RunState.{RunState}
use Rattle.cad_state.proofs.Finding.{find_same}
use Rattle.cad_expression_leaves.specs.Views.{items_row, pairs_of, tree_in}
use Rattle.cad_expression_leaves.specs.Code.Steps.{GoesOn, evaluated, placed, used, elements, arguments, entries, copied_from, nil_told_of, index_read, chained_use, constructed, created, called, built_in_called, method_called, member_called, received, received_in_chain, put_aside, taken_down, ended_by, combined_with, coalesced_with, truth_told, chosen}
use Rattle.cad_expressions.proofs.Forms as law
use Rattle.cad_expressions.proofs.Forms.{evaluated_keeps, placed_keeps, elements_keep, arguments_keep, entries_keep}

put_aside_keeps : (n : ℕ) (t : rows.Tree) → HasNone t → Keeps AnyOne (put_aside n t)
unfolding put_aside
put_aside_keeps n t none = filling_keeps (variable n) t none

pub truth_told_keeps : (t : rows.Tree) → Keeps AnyOne (truth_told t)
unfolding truth_told
truth_told_keeps t = keeps_some AnyOne (truth_of t) give (λ b. keeps_give {A = Bool} AnyOne b tt)

module _ (front : Front) (calls : Calls) (keep : CalleesKeep calls) where
  pub copy_parts : (p : Place) (x y0 z : RunState) (r0 : Result Standing Stop) (r1 : Result (Box Tree) Stop)
      → FindsAndCarriesOut standing_of (placed front calls (place_of p) false) x y0 r0 → GoesOn AnyOne standing_of tree_in copied_from r0 y0 z r1
      → FindsAndCarriesOut tree_in (evaluated front calls (e.copy (place_of p))) x z r1
  copy_parts p x y0 z r0 r1 first s0 =
      find_same tree_in (evaluated front calls (e.copy (place_of p))) ((placed front calls (place_of p) false) >>= copied_from) x z r1 (λ w ready. law.copy_is front calls (place_of p) (state_over w x))
      (s0.goes x (placed front calls (place_of p) false) (placed_keeps front calls (place_of p) false keep) first)

  pub take_parts : (p : Place) (x y0 z : RunState) (r0 : Result Standing Stop) (r1 : Result (Box Tree) Stop)
      → FindsAndCarriesOut standing_of (placed front calls (place_of p) false) x y0 r0 → GoesOn AnyOne standing_of tree_in taken_from r0 y0 z r1
      → FindsAndCarriesOut tree_in (evaluated front calls (e.take (place_of p))) x z r1
  take_parts p x y0 z r0 r1 first s0 =
      find_same tree_in (evaluated front calls (e.take (place_of p))) ((placed front calls (place_of p) false) >>= taken_from) x z r1 (λ w ready. law.take_is front calls (place_of p) (state_over w x))
      (s0.goes x (placed front calls (place_of p) false) (placed_keeps front calls (place_of p) false keep) first)

  pub is_nil_parts : (n : Bool) (p : Place) (x y0 z : RunState) (r0 : Result Standing Stop) (r1 : Result (Box Tree) Stop)
      → FindsAndCarriesOut standing_of (placed front calls (place_of p) false) x y0 r0 → GoesOn AnyOne standing_of tree_in (nil_told_of n) r0 y0 z r1
      → FindsAndCarriesOut tree_in (evaluated front calls (e.is_nil (place_of p) n)) x z r1
  is_nil_parts n p x y0 z r0 r1 first s0 =
      find_same tree_in (evaluated front calls (e.is_nil (place_of p) n)) ((placed front calls (place_of p) false) >>= (nil_told_of n)) x z r1 (λ w ready. law.is_nil_is front calls (place_of p) n (state_over w x))
      (s0.goes x (placed front calls (place_of p) false) (placed_keeps front calls (place_of p) false keep) first)

  pub borrow_parts : (a : Authorization) (c : PureType) (n : Bool) (m : Bool) (p : Place) (x y0 z : RunState) (r0 : Result Standing Stop) (r1 : Result (Box Tree) Stop)
      → FindsAndCarriesOut standing_of (placed front calls (place_of p) false) x y0 r0 → GoesOn AnyOne standing_of tree_in (referred_to a n m) r0 y0 z r1
      → FindsAndCarriesOut tree_in (evaluated front calls (e.borrow (place_of p) a c n m)) x z r1
  borrow_parts a c n m p x y0 z r0 r1 first s0 =
      find_same tree_in (evaluated front calls (e.borrow (place_of p) a c n m)) ((placed front calls (place_of p) false) >>= (referred_to a n m)) x z r1 (λ w ready. law.borrow_is front calls (place_of p) a c n m (state_over w x))
      (s0.goes x (placed front calls (place_of p) false) (placed_keeps front calls (place_of p) false keep) first)

  pub array_parts : (c : CadType) (all : List Term) (x y0 z : RunState) (r0 : Result (Vec row.Place) Stop) (r1 : Result (Box Tree) Stop)
      → FindsAndCarriesOut items_row (elements front calls (pure_type c) (e.terms_of (map term_of all))) x y0 r0 → GoesOn HasNoneInRow items_row tree_in (array_of (pure_type c)) r0 y0 z r1
      → FindsAndCarriesOut tree_in (evaluated front calls (e.array (pure_type c) (e.terms_of (map term_of all)))) x z r1
  array_parts c all x y0 z r0 r1 first s0 =
      find_same tree_in (evaluated front calls (e.array (pure_type c) (e.terms_of (map term_of all)))) ((elements front calls (pure_type c) (e.terms_of (map term_of all))) >>= (array_of (pure_type c))) x z r1 (λ w ready. law.array_is front calls (pure_type c) (e.terms_of (map term_of all)) (state_over w x))
      (s0.goes x (elements front calls (pure_type c) (e.terms_of (map term_of all))) (elements_keep front calls (pure_type c) (e.terms_of (map term_of all)) keep) first)

  pub dictionary_parts : (c : CadType) (d : CadType) (all : List TermEntry) (x y0 z : RunState) (r0 : Result (Vec Pair) Stop) (r1 : Result (Box Tree) Stop)
      → FindsAndCarriesOut pairs_of (entries front calls (pure_type c) (pure_type d) (e.entries_of (map pair_of all))) x y0 r0 → GoesOn PairsHaveNone pairs_of tree_in (dictionary_of (pure_type c) (pure_type d)) r0 y0 z r1
      → FindsAndCarriesOut tree_in (evaluated front calls (e.dictionary (pure_type c) (pure_type d) (e.entries_of (map pair_of all)))) x z r1
  dictionary_parts c d all x y0 z r0 r1 first s0 =
      find_same tree_in (evaluated front calls (e.dictionary (pure_type c) (pure_type d) (e.entries_of (map pair_of all)))) ((entries front calls (pure_type c) (pure_type d) (e.entries_of (map pair_of all))) >>= (dictionary_of (pure_type c) (pure_type d))) x z r1 (λ w ready. law.dictionary_is front calls (pure_type c) (pure_type d) (e.entries_of (map pair_of all)) (state_over w x))
      (s0.goes x (entries front calls (pure_type c) (pure_type d) (e.entries_of (map pair_of all))) (entries_keep front calls (pure_type c) (pure_type d) (e.entries_of (map pair_of all)) keep) first)

  pub construct_parts : (i : TypeId) (all : List Argument) (x y0 z : RunState) (r0 : Result (Vec row.Place) Stop) (r1 : Result (Box Tree) Stop)
      → FindsAndCarriesOut items_row (arguments front calls (e.arguments_of (map argument_of all))) x y0 r0 → GoesOn HasNoneInRow items_row tree_in (constructed calls i) r0 y0 z r1
      → FindsAndCarriesOut tree_in (evaluated front calls (e.construct i (e.arguments_of (map argument_of all)))) x z r1
  construct_parts i all x y0 z r0 r1 first s0 =
      find_same tree_in (evaluated front calls (e.construct i (e.arguments_of (map argument_of all)))) ((arguments front calls (e.arguments_of (map argument_of all))) >>= (constructed calls i)) x z r1 (λ w ready. law.construct_is front calls i (e.arguments_of (map argument_of all)) (state_over w x))
      (s0.goes x (arguments front calls (e.arguments_of (map argument_of all))) (arguments_keep front calls (e.arguments_of (map argument_of all)) keep) first)

  pub create_parts : (i : TypeId) (all : List Argument) (x y0 z : RunState) (r0 : Result (Vec row.Place) Stop) (r1 : Result (Box Tree) Stop)
      → FindsAndCarriesOut items_row (arguments front calls (e.arguments_of (map argument_of all))) x y0 r0 → GoesOn HasNoneInRow items_row tree_in (created calls i) r0 y0 z r1
      → FindsAndCarriesOut tree_in (evaluated front calls (e.create i (e.arguments_of (map argument_of all)))) x z r1
  create_parts i all x y0 z r0 r1 first s0 =
      find_same tree_in (evaluated front calls (e.create i (e.arguments_of (map argument_of all)))) ((arguments front calls (e.arguments_of (map argument_of all))) >>= (created calls i)) x z r1 (λ w ready. law.create_is front calls i (e.arguments_of (map argument_of all)) (state_over w x))
      (s0.goes x (arguments front calls (e.arguments_of (map argument_of all))) (arguments_keep front calls (e.arguments_of (map argument_of all)) keep) first)

  pub call_parts : (i : Name) (n : Bool) (m : Bool) (all : List Argument) (x y0 z : RunState) (r0 : Result (Vec row.Place) Stop) (r1 : Result (Box Tree) Stop)
      → FindsAndCarriesOut items_row (arguments front calls (e.arguments_of (map argument_of all))) x y0 r0 → GoesOn HasNoneInRow items_row tree_in (called calls i) r0 y0 z r1
      → FindsAndCarriesOut tree_in (evaluated front calls (e.call i n m (e.arguments_of (map argument_of all)))) x z r1
  call_parts i n m all x y0 z r0 r1 first s0 =
      find_same tree_in (evaluated front calls (e.call i n m (e.arguments_of (map argument_of all)))) ((arguments front calls (e.arguments_of (map argument_of all))) >>= (called calls i)) x z r1 (λ w ready. law.call_is front calls i n m (e.arguments_of (map argument_of all)) (state_over w x))
      (s0.goes x (arguments front calls (e.arguments_of (map argument_of all))) (arguments_keep front calls (e.arguments_of (map argument_of all)) keep) first)

  pub builtin_parts : (i : Builtin) (types : List CadType) (all : List Argument) (x y0 z : RunState) (r0 : Result (Vec row.Place) Stop) (r1 : Result (Box Tree) Stop)
      → FindsAndCarriesOut items_row (arguments front calls (e.arguments_of (map argument_of all))) x y0 r0 → GoesOn HasNoneInRow items_row tree_in (built_in_called i (map pure_type types)) r0 y0 z r1
      → FindsAndCarriesOut tree_in (evaluated front calls (e.builtin i (map pure_type types) (e.arguments_of (map argument_of all)))) x z r1
  builtin_parts i types all x y0 z r0 r1 first s0 =
      find_same tree_in (evaluated front calls (e.builtin i (map pure_type types) (e.arguments_of (map argument_of all)))) ((arguments front calls (e.arguments_of (map argument_of all))) >>= (built_in_called i (map pure_type types))) x z r1 (λ w ready. law.builtin_is front calls i (map pure_type types) (e.arguments_of (map argument_of all)) (state_over w x))
      (s0.goes x (arguments front calls (e.arguments_of (map argument_of all))) (arguments_keep front calls (e.arguments_of (map argument_of all)) keep) first)

  pub on_parts : (p : Place) (u : Use) (x y1 z : RunState) (r1 : Result code.Receiver Stop) (r2 : Result (Box Tree) Stop)
      → FindsAndCarriesOut receiver_of (received front calls (place_of p)) x y1 r1 → GoesOn AnyOne receiver_of tree_in (used front calls (use_of u)) r1 y1 z r2
      → FindsAndCarriesOut tree_in (evaluated front calls (e.on (place_of p) (use_of u))) x z r2
  on_parts p u x y1 z r1 r2 first s1 =
      find_same tree_in (evaluated front calls (e.on (place_of p) (use_of u))) ((received front calls (place_of p)) >>= (used front calls (use_of u))) x z r2 (λ w ready. law.on_is front calls (place_of p) (use_of u) (state_over w x))
      (s1.goes x (received front calls (place_of p)) (keeps_bind AnyOne AnyOne (placed front calls (place_of p) false) receiver_from (placed_keeps front calls (place_of p) false keep) (λ v h. receiver_from_keeps v)) first)

  pub chain_parts : (n : Bool) (p : Place) (u : Use) (x y1 z : RunState) (r1 : Result (Option code.Receiver) Stop) (r2 : Result (Box Tree) Stop)
      → FindsAndCarriesOut (option_map receiver_of) (received_in_chain front calls (place_of p)) x y1 r1 → GoesOn AnyOne (option_map receiver_of) tree_in (chained_use front calls (use_of u) n) r1 y1 z r2
      → FindsAndCarriesOut tree_in (evaluated front calls (e.chain (place_of p) (use_of u) n)) x z r2
  chain_parts n p u x y1 z r1 r2 first s1 =
      find_same tree_in (evaluated front calls (e.chain (place_of p) (use_of u) n)) ((received_in_chain front calls (place_of p)) >>= (chained_use front calls (use_of u) n)) x z r2 (λ w ready. law.chain_is front calls (place_of p) (use_of u) n (state_over w x))
      (s1.goes x (received_in_chain front calls (place_of p)) (keeps_bind AnyOne AnyOne (placed front calls (place_of p) false) receiver_of_chain (placed_keeps front calls (place_of p) false keep) (λ v h. receiver_of_chain_keeps v)) first)

  pub index_parts : (c : PureType) (p : Place) (i : Term) (x y1 z : RunState) (r1 : Result code.Receiver Stop) (r2 : Result (Box Tree) Stop)
      → FindsAndCarriesOut receiver_of (received front calls (place_of p)) x y1 r1 → GoesOn AnyOne receiver_of tree_in (index_read front calls (term_of i)) r1 y1 z r2
      → FindsAndCarriesOut tree_in (evaluated front calls (e.index (place_of p) c (term_of i))) x z r2
  index_parts c p i x y1 z r1 r2 first s1 =
      find_same tree_in (evaluated front calls (e.index (place_of p) c (term_of i))) ((received front calls (place_of p)) >>= (index_read front calls (term_of i))) x z r2 (λ w ready. law.index_is front calls (place_of p) c (term_of i) (state_over w x))
      (s1.goes x (received front calls (place_of p)) (keeps_bind AnyOne AnyOne (placed front calls (place_of p) false) receiver_from (placed_keeps front calls (place_of p) false keep) (λ v h. receiver_from_keeps v)) first)

  pub hold_parts : (n : ℕ) (c : PureType) (p : Term) (q : Term) (x y0 y1 y2 z : RunState) (r0 : Result (Box Tree) Stop) (r1 : Result (Unit {0}) Stop) (r2 : Result (Box Tree) Stop) (r3 : Result (Box Tree) Stop)
      → FindsAndCarriesOut tree_in (evaluated front calls (term_of p)) x y0 r0 → GoesOn HasNone tree_in no_value (put_aside n) r0 y0 y1 r1 → GoesOn AnyOne no_value tree_in (λ _. evaluated front calls (term_of q)) r1 y1 y2 r2 → GoesOn HasNone tree_in tree_in (taken_down n) r2 y2 z r3
      → FindsAndCarriesOut tree_in (evaluated front calls (e.hold n c (term_of p) (term_of q))) x z r3
  hold_parts n c p q x y0 y1 y2 z r0 r1 r2 r3 first s0 s1 s2 =
      find_same tree_in (evaluated front calls (e.hold n c (term_of p) (term_of q))) ((((evaluated front calls (term_of p)) >>= (put_aside n)) >>= (λ _. evaluated front calls (term_of q))) >>= (taken_down n)) x z r3 (λ w ready. law.hold_is front calls n c (term_of p) (term_of q) (state_over w x))
      (s2.goes x (((evaluated front calls (term_of p)) >>= (put_aside n)) >>= (λ _. evaluated front calls (term_of q))) (keeps_bind AnyOne HasNone ((evaluated front calls (term_of p)) >>= (put_aside n)) (λ _. evaluated front calls (term_of q)) (keeps_bind HasNone AnyOne (evaluated front calls (term_of p)) (put_aside n) (evaluated_keeps front calls (term_of p) keep) (λ v h. put_aside_keeps n v h)) (λ v h. evaluated_keeps front calls (term_of q) keep)) (s1.goes x ((evaluated front calls (term_of p)) >>= (put_aside n)) (keeps_bind HasNone AnyOne (evaluated front calls (term_of p)) (put_aside n) (evaluated_keeps front calls (term_of p) keep) (λ v h. put_aside_keeps n v h)) (s0.goes x (evaluated front calls (term_of p)) (evaluated_keeps front calls (term_of p) keep) first)))

  pub destroy_parts : (p : Term) (x y0 z : RunState) (r0 : Result (Box Tree) Stop) (r1 : Result (Box Tree) Stop)
      → FindsAndCarriesOut tree_in (evaluated front calls (term_of p)) x y0 r0 → GoesOn HasNone tree_in tree_in (ended_by calls) r0 y0 z r1
      → FindsAndCarriesOut tree_in (evaluated front calls (e.destroy (term_of p))) x z r1
  destroy_parts p x y0 z r0 r1 first s0 =
      find_same tree_in (evaluated front calls (e.destroy (term_of p))) ((evaluated front calls (term_of p)) >>= (ended_by calls)) x z r1 (λ w ready. law.destroy_is front calls (term_of p) (state_over w x))
      (s0.goes x (evaluated front calls (term_of p)) (evaluated_keeps front calls (term_of p) keep) first)

  pub unary_parts : (o : UnaryOperator) (p : Term) (x y0 z : RunState) (r0 : Result (Box Tree) Stop) (r1 : Result (Box Tree) Stop)
      → FindsAndCarriesOut tree_in (evaluated front calls (term_of p)) x y0 r0 → GoesOn HasNone tree_in tree_in (operators.unary o) r0 y0 z r1
      → FindsAndCarriesOut tree_in (evaluated front calls (e.unary o (term_of p))) x z r1
  unary_parts o p x y0 z r0 r1 first s0 =
      find_same tree_in (evaluated front calls (e.unary o (term_of p))) ((evaluated front calls (term_of p)) >>= (operators.unary o)) x z r1 (λ w ready. law.unary_is front calls o (term_of p) (state_over w x))
      (s0.goes x (evaluated front calls (term_of p)) (evaluated_keeps front calls (term_of p) keep) first)

  pub force_parts : (p : Term) (x y0 z : RunState) (r0 : Result (Box Tree) Stop) (r1 : Result (Box Tree) Stop)
      → FindsAndCarriesOut tree_in (evaluated front calls (term_of p)) x y0 r0 → GoesOn HasNone tree_in tree_in forced r0 y0 z r1
      → FindsAndCarriesOut tree_in (evaluated front calls (e.force (term_of p))) x z r1
  force_parts p x y0 z r0 r1 first s0 =
      find_same tree_in (evaluated front calls (e.force (term_of p))) ((evaluated front calls (term_of p)) >>= forced) x z r1 (λ w ready. law.force_is front calls (term_of p) (state_over w x))
      (s0.goes x (evaluated front calls (term_of p)) (evaluated_keeps front calls (term_of p) keep) first)

  pub cast_parts : (k : CastKind) (c : CadType) (p : Term) (x y0 z : RunState) (r0 : Result (Box Tree) Stop) (r1 : Result (Box Tree) Stop)
      → FindsAndCarriesOut tree_in (evaluated front calls (term_of p)) x y0 r0 → GoesOn HasNone tree_in tree_in (cast k (pure_type c)) r0 y0 z r1
      → FindsAndCarriesOut tree_in (evaluated front calls (e.cast k (term_of p) (pure_type c))) x z r1
  cast_parts k c p x y0 z r0 r1 first s0 =
      find_same tree_in (evaluated front calls (e.cast k (term_of p) (pure_type c))) ((evaluated front calls (term_of p)) >>= (cast k (pure_type c))) x z r1 (λ w ready. law.cast_is front calls k (term_of p) (pure_type c) (state_over w x))
      (s0.goes x (evaluated front calls (term_of p)) (evaluated_keeps front calls (term_of p) keep) first)

  pub binary_parts : (o : BinaryOperator) (p : Term) (q : Term) (x y0 z : RunState) (r0 : Result (Box Tree) Stop) (r1 : Result (Box Tree) Stop)
      → FindsAndCarriesOut tree_in (evaluated front calls (term_of p)) x y0 r0 → GoesOn HasNone tree_in tree_in (combined_with front calls o (term_of q)) r0 y0 z r1
      → FindsAndCarriesOut tree_in (evaluated front calls (e.binary o (term_of p) (term_of q))) x z r1
  binary_parts o p q x y0 z r0 r1 first s0 =
      find_same tree_in (evaluated front calls (e.binary o (term_of p) (term_of q))) ((evaluated front calls (term_of p)) >>= (combined_with front calls o (term_of q))) x z r1 (λ w ready. law.binary_is front calls o (term_of p) (term_of q) (state_over w x))
      (s0.goes x (evaluated front calls (term_of p)) (evaluated_keeps front calls (term_of p) keep) first)

  pub coalesce_parts : (n : Bool) (c : CadType) (p : Term) (q : Term) (x y0 z : RunState) (r0 : Result (Box Tree) Stop) (r1 : Result (Box Tree) Stop)
      → FindsAndCarriesOut tree_in (evaluated front calls (term_of p)) x y0 r0 → GoesOn HasNone tree_in tree_in (coalesced_with front calls n (pure_type c) (term_of q)) r0 y0 z r1
      → FindsAndCarriesOut tree_in (evaluated front calls (e.coalesce (term_of p) (term_of q) n (pure_type c))) x z r1
  coalesce_parts n c p q x y0 z r0 r1 first s0 =
      find_same tree_in (evaluated front calls (e.coalesce (term_of p) (term_of q) n (pure_type c))) ((evaluated front calls (term_of p)) >>= (coalesced_with front calls n (pure_type c) (term_of q))) x z r1 (λ w ready. law.coalesce_is front calls (term_of p) (term_of q) n (pure_type c) (state_over w x))
      (s0.goes x (evaluated front calls (term_of p)) (evaluated_keeps front calls (term_of p) keep) first)

  pub conditional_parts : (p : Term) (q : Term) (l : Term) (x y0 y1 z : RunState) (r0 : Result (Box Tree) Stop) (r1 : Result Bool Stop) (r2 : Result (Box Tree) Stop)
      → FindsAndCarriesOut tree_in (evaluated front calls (term_of p)) x y0 r0 → GoesOn HasNone tree_in (λ (b : Bool). b) truth_told r0 y0 y1 r1 → GoesOn AnyOne (λ (b : Bool). b) tree_in (chosen front calls (term_of q) (term_of l)) r1 y1 z r2
      → FindsAndCarriesOut tree_in (evaluated front calls (e.conditional (term_of p) (term_of q) (term_of l))) x z r2
  conditional_parts p q l x y0 y1 z r0 r1 r2 first s0 s1 =
      find_same tree_in (evaluated front calls (e.conditional (term_of p) (term_of q) (term_of l))) (((evaluated front calls (term_of p)) >>= truth_told) >>= (chosen front calls (term_of q) (term_of l))) x z r2 (λ w ready. law.conditional_is front calls (term_of p) (term_of q) (term_of l) (state_over w x))
      (s1.goes x ((evaluated front calls (term_of p)) >>= truth_told) (keeps_bind HasNone AnyOne (evaluated front calls (term_of p)) truth_told (evaluated_keeps front calls (term_of p) keep) (λ v h. truth_told_keeps v)) (s0.goes x (evaluated front calls (term_of p)) (evaluated_keeps front calls (term_of p) keep) first))

  pub method_parts : (r : Receiver) (i : Name) (n : Bool) (m : Bool) (all : List Argument) (x y0 y1 z : RunState) (r0 : Result (Unit {0}) Stop) (r1 : Result (Vec row.Place) Stop) (r2 : Result (Box Tree) Stop)
      → FindsAndCarriesOut no_value (look_at r >>= callable i) x y0 r0 → GoesOn AnyOne no_value items_row (λ _. arguments front calls (e.arguments_of (map argument_of all))) r0 y0 y1 r1 → GoesOn HasNoneInRow items_row tree_in (method_called calls i r) r1 y1 z r2
      → FindsAndCarriesOut tree_in (used front calls (e.method i n m (e.arguments_of (map argument_of all))) r) x z r2
  method_parts r i n m all x y0 y1 z r0 r1 r2 first s0 s1 =
      find_same tree_in (used front calls (e.method i n m (e.arguments_of (map argument_of all))) r) (((look_at r >>= callable i) >>= (λ _. arguments front calls (e.arguments_of (map argument_of all)))) >>= (method_called calls i r)) x z r2 (λ w ready. law.method_is front calls i n m (e.arguments_of (map argument_of all)) r (state_over w x))
      (s1.goes x ((look_at r >>= callable i) >>= (λ _. arguments front calls (e.arguments_of (map argument_of all)))) (keeps_bind AnyOne HasNoneInRow (look_at r >>= callable i) (λ _. arguments front calls (e.arguments_of (map argument_of all))) (keeps_bind AnyOne AnyOne (look_at r) (callable i) (looks_keep r) (λ v h. callable_keeps i v)) (λ v h. arguments_keep front calls (e.arguments_of (map argument_of all)) keep)) (s0.goes x (look_at r >>= callable i) (keeps_bind AnyOne AnyOne (look_at r) (callable i) (looks_keep r) (λ v h. callable_keeps i v)) first))

  pub builtin_call_parts : (r : Receiver) (i : Builtin) (types : List CadType) (all : List Argument) (x y0 y1 z : RunState) (r0 : Result (Unit {0}) Stop) (r1 : Result (Vec row.Place) Stop) (r2 : Result (Box Tree) Stop)
      → FindsAndCarriesOut no_value (look_at r >>= (λ first. guard (may_use i first) done)) x y0 r0 → GoesOn AnyOne no_value items_row (λ _. arguments front calls (e.arguments_of (map argument_of all))) r0 y0 y1 r1 → GoesOn HasNoneInRow items_row tree_in (member_called front calls i (map pure_type types) r) r1 y1 z r2
      → FindsAndCarriesOut tree_in (used front calls (e.builtin_call i (map pure_type types) (e.arguments_of (map argument_of all))) r) x z r2
  builtin_call_parts r i types all x y0 y1 z r0 r1 r2 first s0 s1 =
      find_same tree_in (used front calls (e.builtin_call i (map pure_type types) (e.arguments_of (map argument_of all))) r) (((look_at r >>= (λ first. guard (may_use i first) done)) >>= (λ _. arguments front calls (e.arguments_of (map argument_of all)))) >>= (member_called front calls i (map pure_type types) r)) x z r2 (λ w ready. law.builtin_call_is front calls i (map pure_type types) (e.arguments_of (map argument_of all)) r (state_over w x))
      (s1.goes x ((look_at r >>= (λ first. guard (may_use i first) done)) >>= (λ _. arguments front calls (e.arguments_of (map argument_of all)))) (keeps_bind AnyOne HasNoneInRow (look_at r >>= (λ first. guard (may_use i first) done)) (λ _. arguments front calls (e.arguments_of (map argument_of all))) (keeps_bind AnyOne AnyOne (look_at r) (λ first. guard (may_use i first) done) (looks_keep r) (λ v h. keeps_guard AnyOne (may_use i v) done (keeps_give {A = Unit {0}} AnyOne tt tt))) (λ v h. arguments_keep front calls (e.arguments_of (map argument_of all)) keep)) (s0.goes x (look_at r >>= (λ first. guard (may_use i first) done)) (keeps_bind AnyOne AnyOne (look_at r) (λ first. guard (may_use i first) done) (looks_keep r) (λ v h. keeps_guard AnyOne (may_use i v) done (keeps_give {A = Unit {0}} AnyOne tt tt))) first))
