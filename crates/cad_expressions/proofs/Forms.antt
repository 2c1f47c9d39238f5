-- Each form as its parts, and what is done with them; and what the parts keep.
use Rattle.std.proofs.Common.{◌≡◌, ℕ, Bool, true, false, List, Option, Some, None, refl}
use Rattle.cad_syntax.specs.Types.{PureType}
use Rattle.cad_syntax.specs.declared.text.Name.{Name}
use Rattle.cad_syntax.specs.declared.type_id.TypeId.{TypeId}
use Rattle.cad_syntax.specs.declared.types.Authorization.{Authorization}
use Rattle.cad_types.specs.declared.builtin.Builtin.{Builtin}
use Rattle.cad_grammar.specs.declared.expression.BinaryOperator.{BinaryOperator}
use Rattle.cad_grammar.specs.declared.expression.UnaryOperator.{UnaryOperator}
use Rattle.cad_grammar.specs.declared.expression.CastKind.{CastKind}
use Rattle.cad_declarations.specs.Typed as e
use Rattle.cad_world.specs.Rows.{Row, Tree}
use Rattle.cad_world.specs.State.{State, Outcome, ok, failed, limit, ill, bind, Action, ◌>>=◌, give, done, guard, choose, by_truth, with_some}
use Rattle.cad_world.specs.Locations.{variable}
use Rattle.cad_world.specs.Receivers.{Receiver, Spot, look_at}
use Rattle.cad_evaluation.specs.Builtins.{may_use}
use Rattle.cad_evaluation.specs.Callees.{Calls, Front}
use Rattle.cad_evaluation.specs.Casts.{cast}
use Rattle.cad_evaluation.specs.Containers.{void_tree}
use Rattle.cad_evaluation.specs.Ending.{destroyed}
use Rattle.cad_evaluation.specs.Numbers.{truth_of}
use Rattle.cad_evaluation.specs.Operators as operators
use Rattle.cad_evaluation.specs.Reading.{copied, read_field}
use Rattle.cad_evaluation.specs.Standing.{here, value_at, taken_from, referred_to, receiver_from, receiver_of_chain}
use Rattle.cad_evaluation.specs.Terms.{eval, eval_place, eval_arguments}
use Rattle.cad_evaluation.specs.Uses.{array_of, callable, dictionary_of, forced, nil_told}
use Rattle.cad_labels.specs.Laws.{AnyOne, CalleesKeep, HasNone, HasNoneInRow, Keeps}
use Rattle.cad_label_runs.proofs.Terms.{eval_keeps, eval_place_keeps, eval_use_keeps, eval_terms_keeps, eval_arguments_keeps, eval_entries_keeps}
use Rattle.cad_label_runs.proofs.Values.{PairsHaveNone}
use Rattle.cad_expression_leaves.specs.Code.Steps.{evaluated, placed, used, elements, arguments, entries, copied_from, nil_told_of, led, field_at, content_in, element_at, element_in, element_with, index_of, index_read, chained_use, constructed, created, called, built_in_called, method_called, member_called, put_aside, taken_down, ended_by, combined_with, coalesced_with, truth_told, chosen}

pub bind_assoc : {A B C : Type 0} (o : Outcome A) (f : A → Action B) (g : B → Action C) → bind (bind o f) g ≡ bind o (λ a s. bind (f a s) g)
bind_assoc (ok a s) f g = refl
bind_assoc (failed n) f g = refl
bind_assoc limit f g = refl
bind_assoc ill f g = refl

-- ---- what the parts keep

pub evaluated_keeps : (front : Front) (calls : Calls) (t : e.TermTree) → CalleesKeep calls → Keeps HasNone (evaluated front calls t)
unfolding evaluated
evaluated_keeps front calls t keep = eval_keeps front calls t keep

pub placed_keeps : (front : Front) (calls : Calls) (p : e.PlaceTree) (writes : Bool) → CalleesKeep calls → Keeps AnyOne (placed front calls p writes)
unfolding placed
placed_keeps front calls p writes keep = eval_place_keeps front calls p writes keep

pub used_keeps : (front : Front) (calls : Calls) (u : e.UseTree) (r : Receiver) → CalleesKeep calls → Keeps HasNone (used front calls u r)
unfolding used
used_keeps front calls u r keep = eval_use_keeps front calls u r keep

pub elements_keep : (front : Front) (calls : Calls) (type : PureType) (es : e.Terms) → CalleesKeep calls → Keeps HasNoneInRow (elements front calls type es)
unfolding elements
elements_keep front calls type es keep = eval_terms_keeps front calls type es keep

pub arguments_keep : (front : Front) (calls : Calls) (all : e.Arguments) → CalleesKeep calls → Keeps HasNoneInRow (arguments front calls all)
unfolding arguments
arguments_keep front calls all keep = eval_arguments_keeps front calls all keep

pub entries_keep : (front : Front) (calls : Calls) (key value : PureType) (es : e.TermEntries) → CalleesKeep calls → Keeps PairsHaveNone (entries front calls key value es)
unfolding entries
entries_keep front calls key value es keep = eval_entries_keeps front calls key value es keep

-- ---- expressions

module _ (front : Front) (calls : Calls) where
  pub copy_is : (p : e.PlaceTree) (s : State) → evaluated front calls (e.copy p) s ≡ (placed front calls p false >>= copied_from) s
  unfolding evaluated placed copied_from
  copy_is p s = bind_assoc (eval_place front calls p false s) value_at copied

  pub take_is : (p : e.PlaceTree) (s : State) → evaluated front calls (e.take p) s ≡ (placed front calls p false >>= taken_from) s
  unfolding evaluated placed
  take_is p s = refl

  pub is_nil_is : (p : e.PlaceTree) (negated : Bool) (s : State) → evaluated front calls (e.is_nil p negated) s ≡ (placed front calls p false >>= nil_told_of negated) s
  unfolding evaluated placed nil_told_of
  is_nil_is p negated s = bind_assoc (eval_place front calls p false s) value_at (nil_told negated)

  pub borrow_is : (p : e.PlaceTree) (a : Authorization) (type : PureType) (one wraps : Bool) (s : State)
      → evaluated front calls (e.borrow p a type one wraps) s ≡ (placed front calls p false >>= referred_to a one wraps) s
  unfolding evaluated placed
  borrow_is p a type one wraps s = refl

  pub array_is : (type : PureType) (es : e.Terms) (s : State) → evaluated front calls (e.array type es) s ≡ (elements front calls type es >>= array_of type) s
  unfolding evaluated elements
  array_is type es s = refl

  pub dictionary_is : (key value : PureType) (es : e.TermEntries) (s : State)
      → evaluated front calls (e.dictionary key value es) s ≡ (entries front calls key value es >>= dictionary_of key value) s
  unfolding evaluated entries
  dictionary_is key value es s = refl

  pub construct_is : (id : TypeId) (all : e.Arguments) (s : State) → evaluated front calls (e.construct id all) s ≡ (arguments front calls all >>= constructed calls id) s
  unfolding evaluated arguments constructed
  construct_is id all s = refl

  pub create_is : (id : TypeId) (all : e.Arguments) (s : State) → evaluated front calls (e.create id all) s ≡ (arguments front calls all >>= created calls id) s
  unfolding evaluated arguments created
  create_is id all s = refl

  pub call_is : (n : Name) (is_view is_never : Bool) (all : e.Arguments) (s : State) → evaluated front calls (e.call n is_view is_never all) s ≡ (arguments front calls all >>= called calls n) s
  unfolding evaluated arguments called
  call_is n is_view is_never all s = refl

  pub builtin_is : (b : Builtin) (types : List PureType) (all : e.Arguments) (s : State)
      → evaluated front calls (e.builtin b types all) s ≡ (arguments front calls all >>= built_in_called b types) s
  unfolding evaluated arguments built_in_called
  builtin_is b types all s = refl

  pub on_is : (p : e.PlaceTree) (u : e.UseTree) (s : State) → evaluated front calls (e.on p u) s ≡ ((placed front calls p false >>= receiver_from) >>= used front calls u) s
  unfolding evaluated placed used
  on_is p u s = refl

  pub chain_is : (p : e.PlaceTree) (u : e.UseTree) (wraps : Bool) (s : State)
      → evaluated front calls (e.chain p u wraps) s ≡ ((placed front calls p false >>= receiver_of_chain) >>= chained_use front calls u wraps) s
  unfolding evaluated placed used chained_use
  chain_is p u wraps s = refl

  pub index_is : (p : e.PlaceTree) (type : PureType) (a : e.TermTree) (s : State)
      → evaluated front calls (e.index p type a) s ≡ ((placed front calls p false >>= receiver_from) >>= index_read front calls a) s
  unfolding evaluated placed index_read index_of
  index_is p type a s = refl

  hold_cases : (o : Outcome Tree) (f : Tree → Action (Unit {0})) (q : Action Tree) (g : Tree → Action Tree)
      → bind o (λ t s. bind (bind (f t s) (λ _. q)) g) ≡ bind (bind (bind o f) (λ _. q)) g
  hold_cases (ok t s) f q g = refl
  hold_cases (failed n) f q g = refl
  hold_cases limit f q g = refl
  hold_cases ill f q g = refl

  pub hold_is : (n : ℕ) (type : PureType) (a rest : e.TermTree) (s : State)
      → evaluated front calls (e.hold n type a rest) s ≡ (((evaluated front calls a >>= put_aside n) >>= (λ _. evaluated front calls rest)) >>= taken_down n) s
  unfolding evaluated put_aside taken_down
  hold_is n type a rest s = hold_cases (eval front calls a s) (put_aside n) (eval front calls rest) (taken_down n)

  pub destroy_is : (a : e.TermTree) (s : State) → evaluated front calls (e.destroy a) s ≡ (evaluated front calls a >>= ended_by calls) s
  unfolding evaluated ended_by
  destroy_is a s = bind_assoc (eval front calls a s) (destroyed calls) (λ _. give void_tree)

  pub unary_is : (o : UnaryOperator) (a : e.TermTree) (s : State) → evaluated front calls (e.unary o a) s ≡ (evaluated front calls a >>= operators.unary o) s
  unfolding evaluated
  unary_is o a s = refl

  pub force_is : (a : e.TermTree) (s : State) → evaluated front calls (e.force a) s ≡ (evaluated front calls a >>= forced) s
  unfolding evaluated
  force_is a s = refl

  pub cast_is : (k : CastKind) (a : e.TermTree) (type : PureType) (s : State) → evaluated front calls (e.cast k a type) s ≡ (evaluated front calls a >>= cast k type) s
  unfolding evaluated
  cast_is k a type s = refl

  pub binary_is : (o : BinaryOperator) (a b : e.TermTree) (s : State) → evaluated front calls (e.binary o a b) s ≡ (evaluated front calls a >>= combined_with front calls o b) s
  unfolding evaluated combined_with
  binary_is o a b s = refl

  pub coalesce_is : (a b : e.TermTree) (takes : Bool) (type : PureType) (s : State)
      → evaluated front calls (e.coalesce a b takes type) s ≡ (evaluated front calls a >>= coalesced_with front calls takes type b) s
  unfolding evaluated coalesced_with
  coalesce_is a b takes type s = refl

  truth_cases : (o : Option Bool) (p q : Action Tree) (s : State) → by_truth o p q s ≡ bind (with_some o give s) (λ b. choose b p q)
  truth_cases (Some true) p q s = refl
  truth_cases (Some false) p q s = refl
  truth_cases None p q s = refl

  test_cases : (o : Outcome Tree) (p q : Action Tree) → bind o (λ x. by_truth (truth_of x) p q) ≡ bind (bind o (λ t. with_some (truth_of t) give)) (λ b. choose b p q)
  test_cases (ok t s) p q = truth_cases (truth_of t) p q s
  test_cases (failed n) p q = refl
  test_cases limit p q = refl
  test_cases ill p q = refl

  pub conditional_is : (a b c : e.TermTree) (s : State)
      → evaluated front calls (e.conditional a b c) s ≡ ((evaluated front calls a >>= truth_told) >>= chosen front calls b c) s
  unfolding evaluated truth_told chosen
  conditional_is a b c s = test_cases (eval front calls a s) (eval front calls b) (eval front calls c)

  -- ---- places

  pub variable_is : (n : ℕ) (writes : Bool) (s : State) → placed front calls (e.variable n) writes s ≡ give (here None (variable n) 0) s
  unfolding placed
  variable_is n writes s = refl

  pub target_is : (a : e.TermTree) (writes : Bool) (s : State) → placed front calls (e.target a) writes s ≡ (evaluated front calls a >>= led) s
  unfolding placed evaluated led
  target_is a writes s = refl

  pub field_is : (p : e.PlaceTree) (type : PureType) (n : Name) (writes : Bool) (s : State)
      → placed front calls (e.field p type n) writes s ≡ (placed front calls p false >>= field_at writes n) s
  unfolding placed field_at
  field_is p type n writes s = refl

  pub element_is : (p : e.PlaceTree) (type : PureType) (a : e.TermTree) (writes : Bool) (s : State)
      → placed front calls (e.element p type a) writes s ≡ (placed front calls p false >>= element_at front calls writes a) s
  unfolding placed evaluated element_at element_in element_with
  element_is p type a writes s = refl

  pub content_is : (p : e.PlaceTree) (forces writes : Bool) (s : State)
      → placed front calls (e.content p forces) writes s ≡ (placed front calls p false >>= content_in forces) s
  unfolding placed content_in
  content_is p forces writes s = refl

  -- ---- uses

  pub get_is : (n : Name) (right : Authorization) (r : Receiver) (s : State) → used front calls (e.get n right) r s ≡ (look_at r >>= read_field n right) s
  unfolding used
  get_is n right r s = refl

  pub method_is : (n : Name) (is_view is_never : Bool) (all : e.Arguments) (r : Receiver) (s : State)
      → used front calls (e.method n is_view is_never all) r s ≡ (((look_at r >>= callable n) >>= (λ _. arguments front calls all)) >>= method_called calls n r) s
  unfolding used arguments method_called
  method_is n is_view is_never all r s = refl

  guard_cases : (test : Bool) (p : Action Row) (g : Row → Action Tree) (s : State) → guard test (p >>= g) s ≡ bind (bind (guard test done s) (λ _. p)) g
  guard_cases true p g s = refl
  guard_cases false p g s = refl

  use_cases : (o : Outcome Spot) (test : Spot → Bool) (p : Action Row) (g : Row → Action Tree)
      → bind o (λ first. guard (test first) (p >>= g)) ≡ bind (bind (bind o (λ first. guard (test first) done)) (λ _. p)) g
  use_cases (ok first s) test p g = guard_cases (test first) p g s
  use_cases (failed n) test p g = refl
  use_cases limit test p g = refl
  use_cases ill test p g = refl

  pub builtin_call_is : (b : Builtin) (types : List PureType) (all : e.Arguments) (r : Receiver) (s : State)
      → used front calls (e.builtin_call b types all) r s
      ≡ (((look_at r >>= (λ first. guard (may_use b first) done)) >>= (λ _. arguments front calls all)) >>= member_called front calls b types r) s
  unfolding used arguments member_called
  builtin_call_is b types all r s = use_cases (look_at r s) (may_use b) (eval_arguments front calls all) (member_called front calls b types r)
