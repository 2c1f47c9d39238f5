-- What the arms of a match over forms give: what was done with the parts of a form, as the code finds them, was done with the whole.
use Rattle.std.proofs.Common.{◌≡◌, ℕ, Bool, false, List, Result, ap, sym, ◌∙◌, map}
use Rattle.std.specs.Global.{Box, Vec}
use Rattle.cad_syntax.specs.Types.{pure_type}
use Rattle.cad_syntax.specs.declared.text.Name.{Name}
use Rattle.cad_syntax.specs.declared.type_id.TypeId.{TypeId}
use Rattle.cad_syntax.specs.declared.types.Authorization.{Authorization}
use Rattle.cad_syntax.specs.declared.types.CadType.{CadType}
use Rattle.cad_grammar.specs.declared.expression.BinaryOperator.{BinaryOperator}
use Rattle.cad_grammar.specs.declared.expression.CastKind.{CastKind}
use Rattle.cad_grammar.specs.declared.expression.UnaryOperator.{UnaryOperator}
use Rattle.cad_types.specs.declared.builtin.Builtin.{Builtin}
use Rattle.cad_declarations.specs.Typed as e
use Rattle.cad_declarations.specs.Views.{place_of, term_of, use_of, argument_of, pair_of}
use Rattle.cad_declarations.specs.declared.term.Argument.{Argument}
use Rattle.cad_declarations.specs.declared.term.TermEntry.{TermEntry}
use Rattle.cad_declarations.specs.declared.term.Term.{Term}
use Rattle.cad_declarations.specs.declared.term.Term.TheVariants as term
use Rattle.cad_declarations.specs.declared.term.Place.{Place}
use Rattle.cad_declarations.specs.declared.term.Place.TheVariants as place
use Rattle.cad_declarations.specs.declared.term.Use.{Use}
use Rattle.cad_declarations.specs.declared.term.Use.TheVariants as usage
use Rattle.cad_evaluation.specs.Callees.{Calls, Front}
use Rattle.cad_labels.specs.Laws.{AnyOne, CalleesKeep, HasNone}
use Rattle.cad_world.specs.Receivers.{Receiver}
use Rattle.cad_world.specs.State.{◌>>=◌}
use Rattle.cad_outcomes.specs.declared.stop.Stop.{Stop}
use Rattle.cad_rows.specs.declared.tree.Tree.{Tree}
use Rattle.cad_expression_leaves.specs.Passed.{standing_of}
use Rattle.cad_expression_leaves.specs.Passed.{Standing}
use Rattle.cad_state.specs.Views.{state_over, FindsAndCarriesOut}
use Rattle.cad_state.specs.declared.state.RunState.{RunState}
use Rattle.cad_state.proofs.Finding.{find_same}
use Rattle.cad_expression_leaves.specs.Code.Steps.{GoesOn, evaluated, placed, used, led, field_at, content_in, element_at}
use Rattle.cad_expression_leaves.specs.Views.{tree_in}
use Rattle.cad_expressions.proofs.Forms as law
use Rattle.cad_expressions.proofs.Forms.{evaluated_keeps, placed_keeps}
use Rattle.cad_expression_leaves.proofs.Trees as tree

module _ (front : Front) (calls : Calls) where
  pub copy_arm : (t : Term) (b : Box Place) (p : Place) (x z : RunState) (result : Result (Box Tree) Stop)
      → t ≡ term.Copy b → p ≡ b.value → FindsAndCarriesOut tree_in (evaluated front calls (e.copy (place_of p))) x z result → FindsAndCarriesOut tree_in (evaluated front calls (term_of t)) x z result
  copy_arm t b p x z result is q0 whole =
      find_same tree_in (evaluated front calls (term_of t)) (evaluated front calls (e.copy (place_of p))) x z result (λ w ready. ap (λ a. a (state_over w x)) (ap (λ u. (evaluated front calls u)) (tree.copy_at t b is) ∙ ap (λ u. (evaluated front calls u)) (ap (λ h. e.copy (place_of h)) (sym q0)))) whole

  pub take_arm : (t : Term) (b : Box Place) (p : Place) (x z : RunState) (result : Result (Box Tree) Stop)
      → t ≡ term.Take b → p ≡ b.value → FindsAndCarriesOut tree_in (evaluated front calls (e.take (place_of p))) x z result → FindsAndCarriesOut tree_in (evaluated front calls (term_of t)) x z result
  take_arm t b p x z result is q0 whole =
      find_same tree_in (evaluated front calls (term_of t)) (evaluated front calls (e.take (place_of p))) x z result (λ w ready. ap (λ a. a (state_over w x)) (ap (λ u. (evaluated front calls u)) (tree.take_at t b is) ∙ ap (λ u. (evaluated front calls u)) (ap (λ h. e.take (place_of h)) (sym q0)))) whole

  pub is_nil_arm : (t : Term) (b : Box Place) (n : Bool) (p : Place) (x z : RunState) (result : Result (Box Tree) Stop)
      → t ≡ term.IsNil b n → p ≡ b.value → FindsAndCarriesOut tree_in (evaluated front calls (e.is_nil (place_of p) n)) x z result → FindsAndCarriesOut tree_in (evaluated front calls (term_of t)) x z result
  is_nil_arm t b n p x z result is q0 whole =
      find_same tree_in (evaluated front calls (term_of t)) (evaluated front calls (e.is_nil (place_of p) n)) x z result (λ w ready. ap (λ a. a (state_over w x)) (ap (λ u. (evaluated front calls u)) (tree.is_nil_at t b n is) ∙ ap (λ u. (evaluated front calls u)) (ap (λ h. e.is_nil (place_of h) n) (sym q0)))) whole

  pub borrow_arm : (t : Term) (b : Box Place) (a : Authorization) (c : CadType) (n : Bool) (m : Bool) (p : Place) (x z : RunState) (result : Result (Box Tree) Stop)
      → t ≡ term.Borrow b a c n m → p ≡ b.value → FindsAndCarriesOut tree_in (evaluated front calls (e.borrow (place_of p) a (pure_type c) n m)) x z result → FindsAndCarriesOut tree_in (evaluated front calls (term_of t)) x z result
  borrow_arm t b a c n m p x z result is q0 whole =
      find_same tree_in (evaluated front calls (term_of t)) (evaluated front calls (e.borrow (place_of p) a (pure_type c) n m)) x z result (λ w ready. ap (λ a. a (state_over w x)) (ap (λ u. (evaluated front calls u)) (tree.borrow_at t b a c n m is) ∙ ap (λ u. (evaluated front calls u)) (ap (λ h. e.borrow (place_of h) a (pure_type c) n m) (sym q0)))) whole

  pub array_arm : (t : Term) (c : CadType) (v : Vec Term) (all : List Term) (x z : RunState) (result : Result (Box Tree) Stop)
      → t ≡ term.Array c v → all ≡ v.items → FindsAndCarriesOut tree_in (evaluated front calls (e.array (pure_type c) (e.terms_of (map term_of all)))) x z result → FindsAndCarriesOut tree_in (evaluated front calls (term_of t)) x z result
  array_arm t c v all x z result is q0 whole =
      find_same tree_in (evaluated front calls (term_of t)) (evaluated front calls (e.array (pure_type c) (e.terms_of (map term_of all)))) x z result (λ w ready. ap (λ a. a (state_over w x)) (ap (λ u. (evaluated front calls u)) (tree.array_at t c v is) ∙ ap (λ u. (evaluated front calls u)) (ap (λ h. e.array (pure_type c) (e.terms_of (map term_of h))) (sym q0)))) whole

  pub dictionary_arm : (t : Term) (c : CadType) (d : CadType) (v : Vec TermEntry) (all : List TermEntry) (x z : RunState) (result : Result (Box Tree) Stop)
      → t ≡ term.Dictionary c d v → all ≡ v.items → FindsAndCarriesOut tree_in (evaluated front calls (e.dictionary (pure_type c) (pure_type d) (e.entries_of (map pair_of all)))) x z result → FindsAndCarriesOut tree_in (evaluated front calls (term_of t)) x z result
  dictionary_arm t c d v all x z result is q0 whole =
      find_same tree_in (evaluated front calls (term_of t)) (evaluated front calls (e.dictionary (pure_type c) (pure_type d) (e.entries_of (map pair_of all)))) x z result (λ w ready. ap (λ a. a (state_over w x)) (ap (λ u. (evaluated front calls u)) (tree.dictionary_at t c d v is) ∙ ap (λ u. (evaluated front calls u)) (ap (λ h. e.dictionary (pure_type c) (pure_type d) (e.entries_of (map pair_of h))) (sym q0)))) whole

  pub construct_arm : (t : Term) (i : TypeId) (v : Vec Argument) (all : List Argument) (x z : RunState) (result : Result (Box Tree) Stop)
      → t ≡ term.Construct i v → all ≡ v.items → FindsAndCarriesOut tree_in (evaluated front calls (e.construct i (e.arguments_of (map argument_of all)))) x z result → FindsAndCarriesOut tree_in (evaluated front calls (term_of t)) x z result
  construct_arm t i v all x z result is q0 whole =
      find_same tree_in (evaluated front calls (term_of t)) (evaluated front calls (e.construct i (e.arguments_of (map argument_of all)))) x z result (λ w ready. ap (λ a. a (state_over w x)) (ap (λ u. (evaluated front calls u)) (tree.construct_at t i v is) ∙ ap (λ u. (evaluated front calls u)) (ap (λ h. e.construct i (e.arguments_of (map argument_of h))) (sym q0)))) whole

  pub create_arm : (t : Term) (i : TypeId) (v : Vec Argument) (all : List Argument) (x z : RunState) (result : Result (Box Tree) Stop)
      → t ≡ term.Create i v → all ≡ v.items → FindsAndCarriesOut tree_in (evaluated front calls (e.create i (e.arguments_of (map argument_of all)))) x z result → FindsAndCarriesOut tree_in (evaluated front calls (term_of t)) x z result
  create_arm t i v all x z result is q0 whole =
      find_same tree_in (evaluated front calls (term_of t)) (evaluated front calls (e.create i (e.arguments_of (map argument_of all)))) x z result (λ w ready. ap (λ a. a (state_over w x)) (ap (λ u. (evaluated front calls u)) (tree.create_at t i v is) ∙ ap (λ u. (evaluated front calls u)) (ap (λ h. e.create i (e.arguments_of (map argument_of h))) (sym q0)))) whole

  pub call_arm : (t : Term) (i : Name) (n : Bool) (m : Bool) (v : Vec Argument) (all : List Argument) (x z : RunState) (result : Result (Box Tree) Stop)
      → t ≡ term.Call i n m v → all ≡ v.items → FindsAndCarriesOut tree_in (evaluated front calls (e.call i n m (e.arguments_of (map argument_of all)))) x z result → FindsAndCarriesOut tree_in (evaluated front calls (term_of t)) x z result
  call_arm t i n m v all x z result is q0 whole =
      find_same tree_in (evaluated front calls (term_of t)) (evaluated front calls (e.call i n m (e.arguments_of (map argument_of all)))) x z result (λ w ready. ap (λ a. a (state_over w x)) (ap (λ u. (evaluated front calls u)) (tree.call_at t i n m v is) ∙ ap (λ u. (evaluated front calls u)) (ap (λ h. e.call i n m (e.arguments_of (map argument_of h))) (sym q0)))) whole

  pub builtin_arm : (t : Term) (i : Builtin) (c : Vec CadType) (v : Vec Argument) (types : List CadType) (all : List Argument) (x z : RunState) (result : Result (Box Tree) Stop)
      → t ≡ term.Builtin i c v → types ≡ c.items → all ≡ v.items → FindsAndCarriesOut tree_in (evaluated front calls (e.builtin i (map pure_type types) (e.arguments_of (map argument_of all)))) x z result → FindsAndCarriesOut tree_in (evaluated front calls (term_of t)) x z result
  builtin_arm t i c v types all x z result is q0 q1 whole =
      find_same tree_in (evaluated front calls (term_of t)) (evaluated front calls (e.builtin i (map pure_type types) (e.arguments_of (map argument_of all)))) x z result (λ w ready. ap (λ a. a (state_over w x)) (ap (λ u. (evaluated front calls u)) (tree.builtin_at t i c v is) ∙ ap (λ u. (evaluated front calls u)) (ap (λ h. e.builtin i (map pure_type h) (e.arguments_of (map argument_of v.items))) (sym q0) ∙ ap (λ h. e.builtin i (map pure_type types) (e.arguments_of (map argument_of h))) (sym q1)))) whole

  pub on_arm : (t : Term) (b : Box Place) (d : Box Use) (p : Place) (u : Use) (x z : RunState) (result : Result (Box Tree) Stop)
      → t ≡ term.On b d → p ≡ b.value → u ≡ d.value → FindsAndCarriesOut tree_in (evaluated front calls (e.on (place_of p) (use_of u))) x z result → FindsAndCarriesOut tree_in (evaluated front calls (term_of t)) x z result
  on_arm t b d p u x z result is q0 q1 whole =
      find_same tree_in (evaluated front calls (term_of t)) (evaluated front calls (e.on (place_of p) (use_of u))) x z result (λ w ready. ap (λ a. a (state_over w x)) (ap (λ u. (evaluated front calls u)) (tree.on_at t b d is) ∙ ap (λ u. (evaluated front calls u)) (ap (λ h. e.on (place_of h) (use_of d.value)) (sym q0) ∙ ap (λ h. e.on (place_of p) (use_of h)) (sym q1)))) whole

  pub chain_arm : (t : Term) (b : Box Place) (d : Box Use) (n : Bool) (p : Place) (u : Use) (x z : RunState) (result : Result (Box Tree) Stop)
      → t ≡ term.Chain b d n → p ≡ b.value → u ≡ d.value → FindsAndCarriesOut tree_in (evaluated front calls (e.chain (place_of p) (use_of u) n)) x z result → FindsAndCarriesOut tree_in (evaluated front calls (term_of t)) x z result
  chain_arm t b d n p u x z result is q0 q1 whole =
      find_same tree_in (evaluated front calls (term_of t)) (evaluated front calls (e.chain (place_of p) (use_of u) n)) x z result (λ w ready. ap (λ a. a (state_over w x)) (ap (λ u. (evaluated front calls u)) (tree.chain_at t b d n is) ∙ ap (λ u. (evaluated front calls u)) (ap (λ h. e.chain (place_of h) (use_of d.value) n) (sym q0) ∙ ap (λ h. e.chain (place_of p) (use_of h) n) (sym q1)))) whole

  pub index_arm : (t : Term) (b : Box Place) (c : CadType) (d : Box Term) (p : Place) (i : Term) (x z : RunState) (result : Result (Box Tree) Stop)
      → t ≡ term.Index b c d → p ≡ b.value → i ≡ d.value → FindsAndCarriesOut tree_in (evaluated front calls (e.index (place_of p) (pure_type c) (term_of i))) x z result → FindsAndCarriesOut tree_in (evaluated front calls (term_of t)) x z result
  index_arm t b c d p i x z result is q0 q1 whole =
      find_same tree_in (evaluated front calls (term_of t)) (evaluated front calls (e.index (place_of p) (pure_type c) (term_of i))) x z result (λ w ready. ap (λ a. a (state_over w x)) (ap (λ u. (evaluated front calls u)) (tree.index_at t b c d is) ∙ ap (λ u. (evaluated front calls u)) (ap (λ h. e.index (place_of h) (pure_type c) (term_of d.value)) (sym q0) ∙ ap (λ h. e.index (place_of p) (pure_type c) (term_of h)) (sym q1)))) whole

  pub hold_arm : (t : Term) (n : ℕ) (c : CadType) (b : Box Term) (d : Box Term) (p : Term) (q : Term) (x z : RunState) (result : Result (Box Tree) Stop)
      → t ≡ term.Hold n c b d → p ≡ b.value → q ≡ d.value → FindsAndCarriesOut tree_in (evaluated front calls (e.hold n (pure_type c) (term_of p) (term_of q))) x z result → FindsAndCarriesOut tree_in (evaluated front calls (term_of t)) x z result
  hold_arm t n c b d p q x z result is q0 q1 whole =
      find_same tree_in (evaluated front calls (term_of t)) (evaluated front calls (e.hold n (pure_type c) (term_of p) (term_of q))) x z result (λ w ready. ap (λ a. a (state_over w x)) (ap (λ u. (evaluated front calls u)) (tree.hold_at t n c b d is) ∙ ap (λ u. (evaluated front calls u)) (ap (λ h. e.hold n (pure_type c) (term_of h) (term_of d.value)) (sym q0) ∙ ap (λ h. e.hold n (pure_type c) (term_of p) (term_of h)) (sym q1)))) whole

  pub destroy_arm : (t : Term) (b : Box Term) (p : Term) (x z : RunState) (result : Result (Box Tree) Stop)
      → t ≡ term.Destroy b → p ≡ b.value → FindsAndCarriesOut tree_in (evaluated front calls (e.destroy (term_of p))) x z result → FindsAndCarriesOut tree_in (evaluated front calls (term_of t)) x z result
  destroy_arm t b p x z result is q0 whole =
      find_same tree_in (evaluated front calls (term_of t)) (evaluated front calls (e.destroy (term_of p))) x z result (λ w ready. ap (λ a. a (state_over w x)) (ap (λ u. (evaluated front calls u)) (tree.destroy_at t b is) ∙ ap (λ u. (evaluated front calls u)) (ap (λ h. e.destroy (term_of h)) (sym q0)))) whole

  pub unary_arm : (t : Term) (o : UnaryOperator) (b : Box Term) (p : Term) (x z : RunState) (result : Result (Box Tree) Stop)
      → t ≡ term.Unary o b → p ≡ b.value → FindsAndCarriesOut tree_in (evaluated front calls (e.unary o (term_of p))) x z result → FindsAndCarriesOut tree_in (evaluated front calls (term_of t)) x z result
  unary_arm t o b p x z result is q0 whole =
      find_same tree_in (evaluated front calls (term_of t)) (evaluated front calls (e.unary o (term_of p))) x z result (λ w ready. ap (λ a. a (state_over w x)) (ap (λ u. (evaluated front calls u)) (tree.unary_at t o b is) ∙ ap (λ u. (evaluated front calls u)) (ap (λ h. e.unary o (term_of h)) (sym q0)))) whole

  pub force_arm : (t : Term) (b : Box Term) (p : Term) (x z : RunState) (result : Result (Box Tree) Stop)
      → t ≡ term.Force b → p ≡ b.value → FindsAndCarriesOut tree_in (evaluated front calls (e.force (term_of p))) x z result → FindsAndCarriesOut tree_in (evaluated front calls (term_of t)) x z result
  force_arm t b p x z result is q0 whole =
      find_same tree_in (evaluated front calls (term_of t)) (evaluated front calls (e.force (term_of p))) x z result (λ w ready. ap (λ a. a (state_over w x)) (ap (λ u. (evaluated front calls u)) (tree.force_at t b is) ∙ ap (λ u. (evaluated front calls u)) (ap (λ h. e.force (term_of h)) (sym q0)))) whole

  pub cast_arm : (t : Term) (k : CastKind) (b : Box Term) (c : CadType) (p : Term) (x z : RunState) (result : Result (Box Tree) Stop)
      → t ≡ term.Cast k b c → p ≡ b.value → FindsAndCarriesOut tree_in (evaluated front calls (e.cast k (term_of p) (pure_type c))) x z result → FindsAndCarriesOut tree_in (evaluated front calls (term_of t)) x z result
  cast_arm t k b c p x z result is q0 whole =
      find_same tree_in (evaluated front calls (term_of t)) (evaluated front calls (e.cast k (term_of p) (pure_type c))) x z result (λ w ready. ap (λ a. a (state_over w x)) (ap (λ u. (evaluated front calls u)) (tree.cast_at t k b c is) ∙ ap (λ u. (evaluated front calls u)) (ap (λ h. e.cast k (term_of h) (pure_type c)) (sym q0)))) whole

  pub binary_arm : (t : Term) (o : BinaryOperator) (b : Box Term) (d : Box Term) (p : Term) (q : Term) (x z : RunState) (result : Result (Box Tree) Stop)
      → t ≡ term.Binary o b d → p ≡ b.value → q ≡ d.value → FindsAndCarriesOut tree_in (evaluated front calls (e.binary o (term_of p) (term_of q))) x z result → FindsAndCarriesOut tree_in (evaluated front calls (term_of t)) x z result
  binary_arm t o b d p q x z result is q0 q1 whole =
      find_same tree_in (evaluated front calls (term_of t)) (evaluated front calls (e.binary o (term_of p) (term_of q))) x z result (λ w ready. ap (λ a. a (state_over w x)) (ap (λ u. (evaluated front calls u)) (tree.binary_at t o b d is) ∙ ap (λ u. (evaluated front calls u)) (ap (λ h. e.binary o (term_of h) (term_of d.value)) (sym q0) ∙ ap (λ h. e.binary o (term_of p) (term_of h)) (sym q1)))) whole

  pub coalesce_arm : (t : Term) (b : Box Term) (d : Box Term) (n : Bool) (c : CadType) (p : Term) (q : Term) (x z : RunState) (result : Result (Box Tree) Stop)
      → t ≡ term.Coalesce b d n c → p ≡ b.value → q ≡ d.value → FindsAndCarriesOut tree_in (evaluated front calls (e.coalesce (term_of p) (term_of q) n (pure_type c))) x z result → FindsAndCarriesOut tree_in (evaluated front calls (term_of t)) x z result
  coalesce_arm t b d n c p q x z result is q0 q1 whole =
      find_same tree_in (evaluated front calls (term_of t)) (evaluated front calls (e.coalesce (term_of p) (term_of q) n (pure_type c))) x z result (λ w ready. ap (λ a. a (state_over w x)) (ap (λ u. (evaluated front calls u)) (tree.coalesce_at t b d n c is) ∙ ap (λ u. (evaluated front calls u)) (ap (λ h. e.coalesce (term_of h) (term_of d.value) n (pure_type c)) (sym q0) ∙ ap (λ h. e.coalesce (term_of p) (term_of h) n (pure_type c)) (sym q1)))) whole

  pub conditional_arm : (t : Term) (b : Box Term) (c : Box Term) (d : Box Term) (p : Term) (q : Term) (l : Term) (x z : RunState) (result : Result (Box Tree) Stop)
      → t ≡ term.Conditional b c d → p ≡ b.value → q ≡ c.value → l ≡ d.value → FindsAndCarriesOut tree_in (evaluated front calls (e.conditional (term_of p) (term_of q) (term_of l))) x z result → FindsAndCarriesOut tree_in (evaluated front calls (term_of t)) x z result
  conditional_arm t b c d p q l x z result is q0 q1 q2 whole =
      find_same tree_in (evaluated front calls (term_of t)) (evaluated front calls (e.conditional (term_of p) (term_of q) (term_of l))) x z result (λ w ready. ap (λ a. a (state_over w x)) (ap (λ u. (evaluated front calls u)) (tree.conditional_at t b c d is) ∙ ap (λ u. (evaluated front calls u)) (ap (λ h. e.conditional (term_of h) (term_of c.value) (term_of d.value)) (sym q0) ∙ ap (λ h. e.conditional (term_of p) (term_of h) (term_of d.value)) (sym q1) ∙ ap (λ h. e.conditional (term_of p) (term_of q) (term_of h)) (sym q2)))) whole

  pub method_arm : (r : Receiver) (t : Use) (i : Name) (n : Bool) (m : Bool) (v : Vec Argument) (all : List Argument) (x z : RunState) (result : Result (Box Tree) Stop)
      → t ≡ usage.Method i n m v → all ≡ v.items → FindsAndCarriesOut tree_in (used front calls (e.method i n m (e.arguments_of (map argument_of all))) r) x z result → FindsAndCarriesOut tree_in (used front calls (use_of t) r) x z result
  method_arm r t i n m v all x z result is q0 whole =
      find_same tree_in (used front calls (use_of t) r) (used front calls (e.method i n m (e.arguments_of (map argument_of all))) r) x z result (λ w ready. ap (λ a. a (state_over w x)) (ap (λ u. (used front calls u r)) (tree.use_method_at t i n m v is) ∙ ap (λ u. (used front calls u r)) (ap (λ h. e.method i n m (e.arguments_of (map argument_of h))) (sym q0)))) whole

  pub builtin_call_arm : (r : Receiver) (t : Use) (i : Builtin) (c : Vec CadType) (v : Vec Argument) (types : List CadType) (all : List Argument) (x z : RunState) (result : Result (Box Tree) Stop)
      → t ≡ usage.BuiltinCall i c v → types ≡ c.items → all ≡ v.items → FindsAndCarriesOut tree_in (used front calls (e.builtin_call i (map pure_type types) (e.arguments_of (map argument_of all))) r) x z result → FindsAndCarriesOut tree_in (used front calls (use_of t) r) x z result
  builtin_call_arm r t i c v types all x z result is q0 q1 whole =
      find_same tree_in (used front calls (use_of t) r) (used front calls (e.builtin_call i (map pure_type types) (e.arguments_of (map argument_of all))) r) x z result (λ w ready. ap (λ a. a (state_over w x)) (ap (λ u. (used front calls u r)) (tree.use_builtin_call_at t i c v is) ∙ ap (λ u. (used front calls u r)) (ap (λ h. e.builtin_call i (map pure_type h) (e.arguments_of (map argument_of v.items))) (sym q0) ∙ ap (λ h. e.builtin_call i (map pure_type types) (e.arguments_of (map argument_of h))) (sym q1)))) whole

module _ (front : Front) (calls : Calls) (keep : CalleesKeep calls) where
  -- ---- places

  pub target_arm : (writes : Bool) (t : Place) (b : Box Term) (p : Term) (x y0 z : RunState) (r0 : Result (Box Tree) Stop) (r1 : Result Standing Stop)
      → t ≡ place.Target b → p ≡ b.value
      → FindsAndCarriesOut tree_in (evaluated front calls (term_of p)) x y0 r0 → GoesOn HasNone tree_in standing_of led r0 y0 z r1
      → FindsAndCarriesOut standing_of (placed front calls (place_of t) writes) x z r1
  target_arm writes t b p x y0 z r0 r1 is q0 first s0 =
      find_same standing_of (placed front calls (place_of t) writes) ((evaluated front calls (term_of p)) >>= led) x z r1 (λ w ready. ap (λ a. a (state_over w x)) (ap (λ u. (placed front calls u writes)) (tree.place_target_at t b is) ∙ ap (λ u. (placed front calls u writes)) (ap (λ h. e.target (term_of h)) (sym q0))) ∙ law.target_is front calls (term_of p) writes (state_over w x))
      (s0.goes x (evaluated front calls (term_of p)) (evaluated_keeps front calls (term_of p) keep) first)

  pub field_arm : (writes : Bool) (t : Place) (b : Box Place) (c : CadType) (n : Name) (p : Place) (x y0 z : RunState) (r0 : Result Standing Stop) (r1 : Result Standing Stop)
      → t ≡ place.Field b c n → p ≡ b.value
      → FindsAndCarriesOut standing_of (placed front calls (place_of p) false) x y0 r0 → GoesOn AnyOne standing_of standing_of (field_at writes n) r0 y0 z r1
      → FindsAndCarriesOut standing_of (placed front calls (place_of t) writes) x z r1
  field_arm writes t b c n p x y0 z r0 r1 is q0 first s0 =
      find_same standing_of (placed front calls (place_of t) writes) ((placed front calls (place_of p) false) >>= (field_at writes n)) x z r1 (λ w ready. ap (λ a. a (state_over w x)) (ap (λ u. (placed front calls u writes)) (tree.place_field_at t b c n is) ∙ ap (λ u. (placed front calls u writes)) (ap (λ h. e.field (place_of h) (pure_type c) n) (sym q0))) ∙ law.field_is front calls (place_of p) (pure_type c) n writes (state_over w x))
      (s0.goes x (placed front calls (place_of p) false) (placed_keeps front calls (place_of p) false keep) first)

  pub element_arm : (writes : Bool) (t : Place) (b : Box Place) (c : CadType) (d : Box Term) (p : Place) (i : Term) (x y0 z : RunState) (r0 : Result Standing Stop) (r1 : Result Standing Stop)
      → t ≡ place.Element b c d → p ≡ b.value → i ≡ d.value
      → FindsAndCarriesOut standing_of (placed front calls (place_of p) false) x y0 r0 → GoesOn AnyOne standing_of standing_of (element_at front calls writes (term_of i)) r0 y0 z r1
      → FindsAndCarriesOut standing_of (placed front calls (place_of t) writes) x z r1
  element_arm writes t b c d p i x y0 z r0 r1 is q0 q1 first s0 =
      find_same standing_of (placed front calls (place_of t) writes) ((placed front calls (place_of p) false) >>= (element_at front calls writes (term_of i))) x z r1 (λ w ready. ap (λ a. a (state_over w x)) (ap (λ u. (placed front calls u writes)) (tree.place_element_at t b c d is) ∙ ap (λ u. (placed front calls u writes)) (ap (λ h. e.element (place_of h) (pure_type c) (term_of d.value)) (sym q0) ∙ ap (λ h. e.element (place_of p) (pure_type c) (term_of h)) (sym q1))) ∙ law.element_is front calls (place_of p) (pure_type c) (term_of i) writes (state_over w x))
      (s0.goes x (placed front calls (place_of p) false) (placed_keeps front calls (place_of p) false keep) first)

  pub content_arm : (writes : Bool) (t : Place) (b : Box Place) (n : Bool) (p : Place) (x y0 z : RunState) (r0 : Result Standing Stop) (r1 : Result Standing Stop)
      → t ≡ place.Content b n → p ≡ b.value
      → FindsAndCarriesOut standing_of (placed front calls (place_of p) false) x y0 r0 → GoesOn AnyOne standing_of standing_of (content_in n) r0 y0 z r1
      → FindsAndCarriesOut standing_of (placed front calls (place_of t) writes) x z r1
  content_arm writes t b n p x y0 z r0 r1 is q0 first s0 =
      find_same standing_of (placed front calls (place_of t) writes) ((placed front calls (place_of p) false) >>= (content_in n)) x z r1 (λ w ready. ap (λ a. a (state_over w x)) (ap (λ u. (placed front calls u writes)) (tree.place_content_at t b n is) ∙ ap (λ u. (placed front calls u writes)) (ap (λ h. e.content (place_of h) n) (sym q0))) ∙ law.content_is front calls (place_of p) n writes (state_over w x))
      (s0.goes x (placed front calls (place_of p) false) (placed_keeps front calls (place_of p) false keep) first)
