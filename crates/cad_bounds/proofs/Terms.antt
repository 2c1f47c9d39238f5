-- Terms: the same while the units last.
use Rattle.std.specs.Prelude.{Bool, false, [], ◌∷◌, Option, Some, None}
use Rattle.cad_syntax.specs.Types.{PureType}
use Rattle.cad_grammar.specs.declared.expression.BinaryOperator.{BinaryOperator}
use Rattle.cad_grammar.specs.declared.expression.BinaryOperator.TheVariants.{And, Or}
use Rattle.cad_declarations.specs.Typed as e
use Rattle.cad_values.specs.Values as v
use Rattle.cad_world.specs.Rows.{stop, Tree}
use Rattle.cad_world.specs.State.{Action}
use Rattle.cad_world.specs.Trees.{of_plain, nil_tree}
use Rattle.cad_world.specs.Labels.{newest}
use Rattle.cad_world.specs.Locations.{variable, receiver, contract}
use Rattle.cad_world.specs.Receivers.{Receiver}
use Rattle.cad_evaluation.specs.Builtins.{may_use}
use Rattle.cad_evaluation.specs.Callees.{function, Calls}
use Rattle.cad_evaluation.specs.Casts.{type_tree}
use Rattle.cad_evaluation.specs.Containers.{void_tree}
use Rattle.cad_evaluation.specs.Numbers.{truth_of, number_tree}
use Rattle.cad_evaluation.specs.Standing.{here, led_by}
use Rattle.cad_evaluation.specs.Uses.{wrapped_if}
use Rattle.cad_evaluation.specs.Terms.{self_of, own_self, combined, chained, eval_place, eval_use, eval, eval_terms, eval_arguments, eval_entries}
use Rattle.cad_bounds.proofs.Same.{Runs, Same, Near, a_unit_less, same_give, same_some, same_guard, same_by_truth, same_bind, ticks_tick, ticks_bind, same_ticks}
use Rattle.cad_bounds.proofs.Adding.{same_add, same_add_nothing}
use Rattle.cad_bounds.proofs.Builtins.{same_member}
use Rattle.cad_bounds.proofs.Builtins as same_builtins
use Rattle.cad_bounds.proofs.Casts.{same_cast}
use Rattle.cad_bounds.proofs.Ending.{same_destroyed}
use Rattle.cad_bounds.proofs.Making.{same_case_tree, same_construct, same_create}
use Rattle.cad_bounds.proofs.Operators as same_operators
use Rattle.cad_bounds.proofs.Reading.{same_copied, same_read_field, same_read_index}
use Rattle.cad_bounds.proofs.Receivers.{same_look_at}
use Rattle.cad_bounds.proofs.Standing.{same_base_of, same_content_at, same_element_of, same_field_of, same_onward, same_receiver_from, same_receiver_of_chain, same_referred_to, same_taken_from, same_value_at}
use Rattle.cad_bounds.proofs.Transfers.{same_transferred}
use Rattle.cad_bounds.proofs.Uses.{same_array_of, same_before, same_before_value, same_both, same_callable, same_coalesced, same_dictionary_of, same_either, same_forced, same_held, same_invoked, same_nil_told, same_tick_if_called}

pub same_own_self : (R : Runs) → Same R (own_self) (own_self)
same_own_self R = λ s low. (same_some R (self_of (newest s)) _ _ (λ l. (same_give R (here None (receiver l) 0)))) s low

pub same_combined : (R : Runs) (x1 : BinaryOperator) (x2 : Tree) (x3 x3' : Action Tree) → Same R x3 x3' → Same R (combined x1 x2 x3) (combined x1 x2 x3')
same_combined R And a right right' h_right = same_both R a _ _ h_right
same_combined R Or a right right' h_right = same_either R a _ _ h_right
same_combined R operation a right right' h_right = same_bind R _ _ _ _ h_right (λ v1. (same_operators.same_binary R operation a v1))

pub same_chained : (R : Runs) (x1 : Bool) (x2 x2' : Receiver → Action Tree) (x3 : Option Receiver) → ((y0 : Receiver) → Same R (x2 y0) (x2' y0)) → Same R (chained x1 x2 x3) (chained x1 x2' x3)
same_chained R wraps f f' None h_f = same_give R nil_tree
same_chained R wraps f f' (Some r) h_f = same_bind R _ _ _ _ (h_f r) (λ t. (same_give R (wrapped_if wraps t)))

mutual
  pub same_eval_place : (R : Runs) (calls calls' : Calls) (x3 : e.PlaceTree) (x4 : Bool) → Near R calls calls' → Same R (eval_place R.first calls x3 x4) (eval_place R.second calls' x3 x4)
  same_eval_place R calls calls' (e.variable n) writes near = same_give R (here None (variable n) 0)
  same_eval_place R calls calls' e.self writes near = same_own_self R
  same_eval_place R calls calls' (e.contract id) writes near = same_give R (here None (contract id) 0)
  same_eval_place R calls calls' (e.target a) writes near = same_bind R _ _ _ _ (same_eval R calls calls' a near) (λ t. (same_give R (led_by t)))
  same_eval_place R calls calls' (e.field p type n) writes near = same_bind R _ _ _ _ (same_eval_place R calls calls' p false near) (λ v1. (same_onward R _ _ v1 (λ place. (same_bind R _ _ _ _ (same_base_of R place) (λ v2. (same_field_of R writes n v2))))))
  same_eval_place R calls calls' (e.element p type a) writes near = same_bind R _ _ _ _ (same_eval_place R calls calls' p false near) (λ v1. (same_onward R _ _ v1 (λ place. (same_bind R _ _ _ _ (same_receiver_from R place) (λ base. (same_bind R _ _ _ _ (same_eval R calls calls' a near) (λ index. (same_bind R _ _ _ _ (same_look_at R base) (λ v2. (same_element_of R writes index v2))))))))))
  same_eval_place R calls calls' (e.content p forces) writes near = same_bind R _ _ _ _ (same_eval_place R calls calls' p false near) (λ v1. (same_onward R _ _ v1 (λ v2. (same_content_at R forces v2))))

  pub same_eval_use : (R : Runs) (calls calls' : Calls) (x3 : e.UseTree) (x4 : Receiver) → Near R calls calls' → Same R (eval_use R.first calls x3 x4) (eval_use R.second calls' x3 x4)
  same_eval_use R calls calls' (e.get n right) r near = same_bind R _ _ _ _ (same_look_at R r) (λ v1. (same_read_field R n right v1))
  same_eval_use R calls calls' (e.method n is_view is_never all) r near = same_bind R _ _ _ _ (same_bind R _ _ _ _ (same_bind R _ _ _ _ (same_look_at R r) (λ v1. (same_callable R n v1))) (λ u2. (same_eval_arguments R calls calls' all near))) (λ row. (same_ticks R _ _ (ticks_bind R _ _ _ _ (ticks_bind R _ _ _ _ (ticks_tick R) (λ u3. (same_look_at (a_unit_less R) r))) (λ v4. (same_invoked (a_unit_less R) calls calls' n row v4 near.1)))))
  same_eval_use R calls calls' (e.builtin_field b) r near = same_bind R _ _ _ _ (same_look_at R r) (λ spot. (same_guard R (may_use b spot) _ _ (same_member R calls calls' b [] spot stop (λ x. same_add_nothing R calls calls' x))))
  same_eval_use R calls calls' (e.builtin_call b types all) r near = same_bind R _ _ _ _ (same_look_at R r) (λ first. (same_guard R (may_use b first) _ _ (same_bind R _ _ _ _ (same_eval_arguments R calls calls' all near) (λ row. (same_ticks R _ _ (ticks_bind R _ _ _ _ (ticks_bind R _ _ _ _ (ticks_tick R) (λ u1. (same_look_at (a_unit_less R) r))) (λ spot. (same_member (a_unit_less R) calls calls' b types spot row (λ x. same_add (a_unit_less R) calls calls' row x near.1)))))))))

  pub same_eval : (R : Runs) (calls calls' : Calls) (x3 : e.TermTree) → Near R calls calls' → Same R (eval R.first calls x3) (eval R.second calls' x3)
  same_eval R calls calls' (e.number n) near = same_give R (number_tree n)
  same_eval R calls calls' (e.address a) near = same_give R (of_plain (v.address a))
  same_eval R calls calls' (e.bool x) near = same_give R (of_plain (v.bool x))
  same_eval R calls calls' e.nil near = same_give R nil_tree
  same_eval R calls calls' (e.string text) near = same_give R (of_plain (v.string text))
  same_eval R calls calls' (e.character text) near = same_give R (of_plain (v.character text))
  same_eval R calls calls' (e.path p) near = same_give R (of_plain (v.path p))
  same_eval R calls calls' (e.meta type) near = same_ticks R _ _ (ticks_bind R _ _ _ _ (ticks_tick R) (λ u1. (same_give (a_unit_less R) (type_tree type))))
  same_eval R calls calls' (e.case id n) near = same_case_tree R id n
  same_eval R calls calls' (e.copy p) near = same_bind R _ _ _ _ (same_bind R _ _ _ _ (same_eval_place R calls calls' p false near) (λ v1. (same_value_at R v1))) (λ v2. (same_copied R v2))
  same_eval R calls calls' (e.take p) near = same_bind R _ _ _ _ (same_eval_place R calls calls' p false near) (λ v1. (same_taken_from R v1))
  same_eval R calls calls' (e.array type es) near = same_bind R _ _ _ _ (same_eval_terms R calls calls' type es near) (λ v1. (same_array_of R type v1))
  same_eval R calls calls' (e.dictionary key value es) near = same_bind R _ _ _ _ (same_eval_entries R calls calls' key value es near) (λ v1. (same_dictionary_of R key value v1))
  same_eval R calls calls' (e.construct id all) near = same_bind R _ _ _ _ (same_eval_arguments R calls calls' all near) (λ row. (same_ticks R _ _ (ticks_bind R _ _ _ _ (ticks_tick R) (λ u1. (same_construct (a_unit_less R) calls calls' id row near.1)))))
  same_eval R calls calls' (e.create id all) near = same_bind R _ _ _ _ (same_eval_arguments R calls calls' all near) (λ row. (same_ticks R _ _ (ticks_bind R _ _ _ _ (ticks_tick R) (λ u1. (same_create (a_unit_less R) calls calls' id row near.1)))))
  same_eval R calls calls' (e.call n is_view is_never all) near = same_bind R _ _ _ _ (same_eval_arguments R calls calls' all near) (λ row. (same_ticks R _ _ (ticks_bind R _ _ _ _ (ticks_tick R) (λ u1. (near.1 (function n) row)))))
  same_eval R calls calls' (e.builtin b types all) near = same_bind R _ _ _ _ (same_eval_arguments R calls calls' all near) (λ row. (same_bind R _ _ _ _ (same_tick_if_called R b) (λ u1. (same_builtins.same_function R b types row))))
  same_eval R calls calls' (e.on p u) near = same_bind R _ _ _ _ (same_bind R _ _ _ _ (same_eval_place R calls calls' p false near) (λ v1. (same_receiver_from R v1))) (λ v2. (same_eval_use R calls calls' u v2 near))
  same_eval R calls calls' (e.chain p u wraps) near = same_bind R _ _ _ _ (same_bind R _ _ _ _ (same_eval_place R calls calls' p false near) (λ v1. (same_receiver_of_chain R v1))) (λ v2. (same_chained R wraps _ _ v2 (λ v3. (same_eval_use R calls calls' u v3 near))))
  same_eval R calls calls' (e.index p type a) near = same_bind R _ _ _ _ (same_bind R _ _ _ _ (same_eval_place R calls calls' p false near) (λ v1. (same_receiver_from R v1))) (λ base. (same_bind R _ _ _ _ (same_eval R calls calls' a near) (λ index. (same_bind R _ _ _ _ (same_look_at R base) (λ v2. (same_read_index R index v2))))))
  same_eval R calls calls' (e.hold n type a rest) near = same_bind R _ _ _ _ (same_eval R calls calls' a near) (λ t. (same_held R n t _ _ (same_eval R calls calls' rest near)))
  same_eval R calls calls' (e.destroy a) near = same_bind R _ _ _ _ (same_bind R _ _ _ _ (same_eval R calls calls' a near) (λ v1. (same_destroyed R calls calls' v1 near))) (λ u2. (same_give R void_tree))
  same_eval R calls calls' (e.borrow p a type one wraps) near = same_bind R _ _ _ _ (same_eval_place R calls calls' p false near) (λ v1. (same_referred_to R a one wraps v1))
  same_eval R calls calls' (e.unary operation a) near = same_bind R _ _ _ _ (same_eval R calls calls' a near) (λ v1. (same_operators.same_unary R operation v1))
  same_eval R calls calls' (e.force a) near = same_bind R _ _ _ _ (same_eval R calls calls' a near) (λ v1. (same_forced R v1))
  same_eval R calls calls' (e.cast kind a type) near = same_bind R _ _ _ _ (same_eval R calls calls' a near) (λ v1. (same_cast R kind type v1))
  same_eval R calls calls' (e.binary operation a b) near = same_bind R _ _ _ _ (same_eval R calls calls' a near) (λ x. (same_combined R operation x _ _ (same_eval R calls calls' b near)))
  same_eval R calls calls' (e.coalesce a b takes type) near = same_bind R _ _ _ _ (same_eval R calls calls' a near) (λ x. (same_coalesced R takes type x _ _ (same_eval R calls calls' b near)))
  same_eval R calls calls' (e.is_nil p negated) near = same_bind R _ _ _ _ (same_bind R _ _ _ _ (same_eval_place R calls calls' p false near) (λ v1. (same_value_at R v1))) (λ v2. (same_nil_told R negated v2))
  same_eval R calls calls' (e.conditional a b c) near = same_bind R _ _ _ _ (same_eval R calls calls' a near) (λ x. (same_by_truth R (truth_of x) _ _ _ _ (same_eval R calls calls' b near) (same_eval R calls calls' c near)))
  same_eval R calls calls' (e.before n) near = same_before_value R n

  pub same_eval_terms : (R : Runs) (calls calls' : Calls) (x3 : PureType) (x4 : e.Terms) → Near R calls calls' → Same R (eval_terms R.first calls x3 x4) (eval_terms R.second calls' x3 x4)
  same_eval_terms R calls calls' type e.no_terms near = same_give R stop
  same_eval_terms R calls calls' type (e.terms a es) near = same_bind R _ _ _ _ (same_bind R _ _ _ _ (same_eval R calls calls' a near) (λ v1. (same_transferred R type v1))) (λ t. (same_bind R _ _ _ _ (same_eval_terms R calls calls' type es near) (λ v2. (same_before R t v2))))

  pub same_eval_arguments : (R : Runs) (calls calls' : Calls) (x3 : e.Arguments) → Near R calls calls' → Same R (eval_arguments R.first calls x3) (eval_arguments R.second calls' x3)
  same_eval_arguments R calls calls' e.no_arguments near = same_give R stop
  same_eval_arguments R calls calls' (e.arguments a type all) near = same_bind R _ _ _ _ (same_bind R _ _ _ _ (same_eval R calls calls' a near) (λ v1. (same_transferred R type v1))) (λ t. (same_bind R _ _ _ _ (same_eval_arguments R calls calls' all near) (λ v2. (same_before R t v2))))

  pub same_eval_entries : (R : Runs) (calls calls' : Calls) (x3 : PureType) (x4 : PureType) (x5 : e.TermEntries) → Near R calls calls' → Same R (eval_entries R.first calls x3 x4 x5) (eval_entries R.second calls' x3 x4 x5)
  same_eval_entries R calls calls' key value e.no_entries near = same_give R []
  same_eval_entries R calls calls' key value (e.entries a b es) near = same_bind R _ _ _ _ (same_bind R _ _ _ _ (same_eval R calls calls' a near) (λ v1. (same_transferred R key v1))) (λ k. (same_bind R _ _ _ _ (same_bind R _ _ _ _ (same_eval R calls calls' b near) (λ v2. (same_transferred R value v2))) (λ t. (same_bind R _ _ _ _ (same_eval_entries R calls calls' key value es near) (λ ps. (same_give R (record { key = k; value = t } ∷ ps)))))))
