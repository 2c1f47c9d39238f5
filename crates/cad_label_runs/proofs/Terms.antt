-- Terms: labels are kept apart, and values in hand have none.
use Rattle.cad_labels.proofs.Keeping.{gives_follow}
use Rattle.cad_world.specs.State.{State}
use Rattle.cad_evaluation.specs.Standing.{Standing}
use Rattle.cad_syntax.specs.Types.{PureType}
use Rattle.cad_types.specs.declared.builtin.Builtin.{Builtin}
use Rattle.cad_world.specs.Rows.{Row}
use Rattle.cad_world.specs.State.{Outcome, ok, failed, limit, ill, bind, tick, ◌>>=◌, ◌>>◌}
use Rattle.std.specs.Prelude.{List}
use Rattle.cad_world.specs.Receivers.{look_at}
use Rattle.cad_evaluation.specs.Builtins.{member}
use Rattle.cad_labels.specs.Laws.{Gives}
use Rattle.cad_labels.proofs.Keeping.{gives_guard}
use Rattle.cad_label_runs.proofs.Members.{members_keep}
use Rattle.cad_label_runs.proofs.Receivers.{now_bind, look_now}
use Rattle.std.specs.Prelude.{Bool, false, [], ◌∷◌, Option, Some, None}
use Rattle.cad_syntax.specs.Types.{PureType}
use Rattle.cad_grammar.specs.declared.expression.BinaryOperator.{BinaryOperator}
use Rattle.cad_grammar.specs.declared.expression.BinaryOperator.TheVariants.{And, Or}
use Rattle.cad_declarations.specs.Typed as e
use Rattle.cad_values.specs.Values as v
use Rattle.cad_world.specs.Rows.{stop, Tree}
use Rattle.cad_world.specs.State.{Action}
use Rattle.cad_world.specs.Trees.{of_plain, nil_tree}
use Rattle.cad_world.specs.Labels.{newest}
use Rattle.cad_world.specs.Locations.{variable, receiver, contract}
use Rattle.cad_world.specs.Receivers.{Receiver}
use Rattle.cad_evaluation.specs.Builtins.{may_use}
use Rattle.cad_evaluation.specs.Callees.{function, Calls, Front}
use Rattle.cad_evaluation.specs.Casts.{type_tree}
use Rattle.cad_evaluation.specs.Containers.{void_tree}
use Rattle.cad_evaluation.specs.Numbers.{truth_of, number_tree}
use Rattle.cad_evaluation.specs.Standing.{here, led_by}
use Rattle.cad_evaluation.specs.Uses.{wrapped_if}
use Rattle.cad_evaluation.specs.Terms.{self_of, own_self, combined, chained, eval_place, eval_use, eval, eval_terms, eval_arguments, eval_entries}
use Rattle.std.proofs.Common.{refl}
use Rattle.cad_labels.specs.Laws.{HasNone, HasNoneInRow, Keeps, AnyOne, CalleesKeep}
use Rattle.cad_label_runs.proofs.Values.{PairsHaveNone}
use Rattle.cad_world.specs.State.{give}
use Rattle.cad_label_runs.proofs.Builtins.{function_keeps}
use Rattle.cad_label_runs.proofs.Casts.{cast_keeps}
use Rattle.cad_label_runs.proofs.Making.{case_tree_keeps, construct_keeps, create_keeps}
use Rattle.cad_label_runs.proofs.Operators.{binary_keeps, unary_keeps}
use Rattle.cad_label_runs.proofs.Reading.{read_field_keeps, read_index_keeps}
use Rattle.cad_label_runs.proofs.Standing.{base_of_keeps, content_at_keeps, element_of_keeps, field_of_keeps, onward_keeps, receiver_from_keeps, receiver_of_chain_keeps, referred_to_keeps, taken_from_keeps, value_at_keeps}
use Rattle.cad_label_runs.proofs.Uses.{array_of_keeps, before_keeps, before_value_keeps, both_keeps, callable_keeps, coalesced_keeps, dictionary_of_keeps, either_keeps, forced_keeps, held_keeps, invoked_keeps, nil_told_keeps, tick_if_called_keeps}
use Rattle.cad_label_runs.proofs.Values.{wrapped_none}
use Rattle.cad_labels.proofs.Ends.{destroying_keeps}
use Rattle.cad_labels.proofs.Forms.{keeps_by_truth, keeps_give, keeps_guard, keeps_some, keeps_spend, stop_none}
use Rattle.cad_labels.proofs.Keeping.{keeps_bind}
use Rattle.cad_labels.proofs.Members.{copied_keeps}
use Rattle.cad_labels.proofs.Places.{looks_keep, transferred_keeps}

pub own_self_keeps : Keeps AnyOne own_self
own_self_keeps = λ s once. (keeps_some AnyOne (self_of (newest s)) (λ l. give (here None (receiver l) 0)) (λ l. keeps_give {A = Standing} AnyOne (here None (receiver l) 0) tt)) s once

pub combined_keeps : (x1 : BinaryOperator) (x2 : Tree) (x3 : Action Tree) → Keeps HasNone x3 → Keeps HasNone (combined x1 x2 x3)
combined_keeps And a right h_right = both_keeps a _ h_right
combined_keeps Or a right h_right = either_keeps a _ h_right
combined_keeps operation a right h_right = keeps_bind HasNone HasNone _ _ h_right (λ v1 h_v1. binary_keeps operation a v1)

pub chained_keeps : (x1 : Bool) (x2 : Receiver → Action Tree) (x3 : Option Receiver) → ((y0 : Receiver) → Keeps HasNone (x2 y0)) → Keeps HasNone (chained x1 x2 x3)
chained_keeps wraps f None h_f = keeps_give HasNone nil_tree (λ p. refl)
chained_keeps wraps f (Some r) h_f = keeps_bind HasNone HasNone _ (λ t. give (wrapped_if wraps t)) (h_f r) (λ t h_t. keeps_give HasNone (wrapped_if wraps t) (wrapped_none wraps t h_t))

-- a receiver is looked at again, and the member is used on what it is then
looked_member_keeps : (front : Front) (calls : Calls) (b : Builtin) (types : List PureType) (r : Receiver) (row : Row) → CalleesKeep calls → HasNoneInRow row
    → Keeps HasNone (tick >> look_at r >>= (λ spot. member front calls b types spot row))
looked_member_keeps front calls b types r row keep none = λ s once. ticked_member s (tick s) (keeps_spend 1 s once)
  where
    ticked_member : (s : State) (o : Outcome (Unit {0})) → Gives AnyOne s o → Gives HasNone s (bind (bind o (λ u. look_at r)) (λ spot. member front calls b types spot row))
    ticked_member s (ok u w) h = gives_follow HasNone s w (bind (look_at r w) (λ spot. member front calls b types spot row)) h.1
        (now_bind HasNone w (look_at r w) _ (look_now r w h.1.0) (λ spot x now more. members_keep front calls b types spot row x keep none now more))
    ticked_member s (failed e) h = tt
    ticked_member s limit h = tt
    ticked_member s ill h = tt

mutual
  pub eval_place_keeps : (front : Front) (calls : Calls) (x3 : e.PlaceTree) (x4 : Bool) → CalleesKeep calls → Keeps AnyOne (eval_place front calls x3 x4)
  eval_place_keeps front calls (e.variable n) writes keep = keeps_give {A = Standing} AnyOne (here None (variable n) 0) tt
  eval_place_keeps front calls e.self writes keep = own_self_keeps
  eval_place_keeps front calls (e.contract id) writes keep = keeps_give {A = Standing} AnyOne (here None (contract id) 0) tt
  eval_place_keeps front calls (e.target a) writes keep = keeps_bind HasNone AnyOne _ (λ t. give (led_by t)) (eval_keeps front calls a keep) (λ t h_t. keeps_give {A = Standing} AnyOne (led_by t) tt)
  eval_place_keeps front calls (e.field p type n) writes keep = keeps_bind AnyOne AnyOne _ _ (eval_place_keeps front calls p false keep) (λ v1 h_v1. onward_keeps _ v1 (λ place. keeps_bind AnyOne AnyOne _ _ (base_of_keeps place) (λ v2 h_v2. field_of_keeps writes n v2)))
  eval_place_keeps front calls (e.element p type a) writes keep = keeps_bind AnyOne AnyOne _ _ (eval_place_keeps front calls p false keep) (λ v1 h_v1. onward_keeps _ v1 (λ place. keeps_bind AnyOne AnyOne _ _ (receiver_from_keeps place) (λ base h_base. keeps_bind HasNone AnyOne _ _ (eval_keeps front calls a keep) (λ index h_index. keeps_bind AnyOne AnyOne _ _ (looks_keep base) (λ v2 h_v2. element_of_keeps writes index v2)))))
  eval_place_keeps front calls (e.content p forces) writes keep = keeps_bind AnyOne AnyOne _ _ (eval_place_keeps front calls p false keep) (λ v1 h_v1. onward_keeps _ v1 (λ v2. content_at_keeps forces v2))

  pub eval_use_keeps : (front : Front) (calls : Calls) (x3 : e.UseTree) (x4 : Receiver) → CalleesKeep calls → Keeps HasNone (eval_use front calls x3 x4)
  eval_use_keeps front calls (e.get n right) r keep = keeps_bind AnyOne HasNone _ _ (looks_keep r) (λ v1 h_v1. read_field_keeps n right v1)
  eval_use_keeps front calls (e.method n is_view is_never all) r keep = keeps_bind HasNoneInRow HasNone _ _ (keeps_bind AnyOne HasNoneInRow _ _ (keeps_bind AnyOne AnyOne _ _ (looks_keep r) (λ v1 h_v1. callable_keeps n v1)) (λ u2 h_u2. eval_arguments_keeps front calls all keep)) (λ row h_row. keeps_bind AnyOne HasNone _ _ (keeps_bind AnyOne AnyOne _ _ (keeps_spend 1) (λ u3 h_u3. looks_keep r)) (λ v4 h_v4. invoked_keeps calls n row v4 keep h_row))
  eval_use_keeps front calls (e.builtin_field b) r keep = λ s once. now_bind HasNone s (look_at r s) _ (look_now r s once)
      (λ spot w now more. gives_guard HasNone (may_use b spot) (member front calls b [] spot stop) w (members_keep front calls b [] spot stop w keep stop_none now more))
  eval_use_keeps front calls (e.builtin_call b types all) r keep = keeps_bind AnyOne HasNone _ _ (looks_keep r) (λ first h_first. keeps_guard HasNone (may_use b first) _ (keeps_bind HasNoneInRow HasNone _ _ (eval_arguments_keeps front calls all keep) (λ row h_row. looked_member_keeps front calls b types r row keep h_row)))

  pub eval_keeps : (front : Front) (calls : Calls) (x3 : e.TermTree) → CalleesKeep calls → Keeps HasNone (eval front calls x3)
  eval_keeps front calls (e.number n) keep = keeps_give HasNone (number_tree n) (λ p. refl)
  eval_keeps front calls (e.address a) keep = keeps_give HasNone (of_plain (v.address a)) (λ p. refl)
  eval_keeps front calls (e.bool x) keep = keeps_give HasNone (of_plain (v.bool x)) (λ p. refl)
  eval_keeps front calls e.nil keep = keeps_give HasNone nil_tree (λ p. refl)
  eval_keeps front calls (e.string text) keep = keeps_give HasNone (of_plain (v.string text)) (λ p. refl)
  eval_keeps front calls (e.character text) keep = keeps_give HasNone (of_plain (v.character text)) (λ p. refl)
  eval_keeps front calls (e.path p) keep = keeps_give HasNone (of_plain (v.path p)) (λ p. refl)
  eval_keeps front calls (e.meta type) keep = keeps_bind AnyOne HasNone _ _ (keeps_spend 1) (λ u1 h_u1. keeps_give HasNone (type_tree type) (λ p. refl))
  eval_keeps front calls (e.case id n) keep = case_tree_keeps id n
  eval_keeps front calls (e.copy p) keep = keeps_bind AnyOne HasNone _ _ (keeps_bind AnyOne AnyOne _ _ (eval_place_keeps front calls p false keep) (λ v1 h_v1. value_at_keeps v1)) (λ v2 h_v2. copied_keeps v2)
  eval_keeps front calls (e.take p) keep = keeps_bind AnyOne HasNone _ _ (eval_place_keeps front calls p false keep) (λ v1 h_v1. taken_from_keeps v1)
  eval_keeps front calls (e.array type es) keep = keeps_bind HasNoneInRow HasNone _ _ (eval_terms_keeps front calls type es keep) (λ v1 h_v1. array_of_keeps type v1 h_v1)
  eval_keeps front calls (e.dictionary key value es) keep = keeps_bind PairsHaveNone HasNone _ _ (eval_entries_keeps front calls key value es keep) (λ v1 h_v1. dictionary_of_keeps key value v1 h_v1)
  eval_keeps front calls (e.construct id all) keep = keeps_bind HasNoneInRow HasNone _ _ (eval_arguments_keeps front calls all keep) (λ row h_row. keeps_bind AnyOne HasNone _ _ (keeps_spend 1) (λ u1 h_u1. construct_keeps calls id row keep h_row))
  eval_keeps front calls (e.create id all) keep = keeps_bind HasNoneInRow HasNone _ _ (eval_arguments_keeps front calls all keep) (λ row h_row. keeps_bind AnyOne HasNone _ _ (keeps_spend 1) (λ u1 h_u1. create_keeps calls id row keep h_row))
  eval_keeps front calls (e.call n is_view is_never all) keep = keeps_bind HasNoneInRow HasNone _ _ (eval_arguments_keeps front calls all keep) (λ row h_row. keeps_bind AnyOne HasNone _ _ (keeps_spend 1) (λ u1 h_u1. keep (function n) row h_row))
  eval_keeps front calls (e.builtin b types all) keep = keeps_bind HasNoneInRow HasNone _ _ (eval_arguments_keeps front calls all keep) (λ row h_row. keeps_bind AnyOne HasNone _ _ (tick_if_called_keeps b) (λ u1 h_u1. function_keeps b types row))
  eval_keeps front calls (e.on p u) keep = keeps_bind AnyOne HasNone _ _ (keeps_bind AnyOne AnyOne _ _ (eval_place_keeps front calls p false keep) (λ v1 h_v1. receiver_from_keeps v1)) (λ v2 h_v2. eval_use_keeps front calls u v2 keep)
  eval_keeps front calls (e.chain p u wraps) keep = keeps_bind AnyOne HasNone _ _ (keeps_bind AnyOne AnyOne _ _ (eval_place_keeps front calls p false keep) (λ v1 h_v1. receiver_of_chain_keeps v1)) (λ v2 h_v2. chained_keeps wraps _ v2 (λ v3. eval_use_keeps front calls u v3 keep))
  eval_keeps front calls (e.index p type a) keep = keeps_bind AnyOne HasNone _ _ (keeps_bind AnyOne AnyOne _ _ (eval_place_keeps front calls p false keep) (λ v1 h_v1. receiver_from_keeps v1)) (λ base h_base. keeps_bind HasNone HasNone _ _ (eval_keeps front calls a keep) (λ index h_index. keeps_bind AnyOne HasNone _ _ (looks_keep base) (λ v2 h_v2. read_index_keeps index v2)))
  eval_keeps front calls (e.hold n type a rest) keep = keeps_bind HasNone HasNone _ _ (eval_keeps front calls a keep) (λ t h_t. held_keeps n t _ h_t (eval_keeps front calls rest keep))
  eval_keeps front calls (e.destroy a) keep = keeps_bind AnyOne HasNone _ (λ u2. give void_tree) (keeps_bind HasNone AnyOne _ _ (eval_keeps front calls a keep) (λ v1 h_v1. destroying_keeps calls v1 keep h_v1)) (λ u2 h_u2. keeps_give HasNone void_tree (λ p. refl))
  eval_keeps front calls (e.borrow p a type one wraps) keep = keeps_bind AnyOne HasNone _ _ (eval_place_keeps front calls p false keep) (λ v1 h_v1. referred_to_keeps a one wraps v1)
  eval_keeps front calls (e.unary operation a) keep = keeps_bind HasNone HasNone _ _ (eval_keeps front calls a keep) (λ v1 h_v1. unary_keeps operation v1)
  eval_keeps front calls (e.force a) keep = keeps_bind HasNone HasNone _ _ (eval_keeps front calls a keep) (λ v1 h_v1. forced_keeps v1 h_v1)
  eval_keeps front calls (e.cast kind a type) keep = keeps_bind HasNone HasNone _ _ (eval_keeps front calls a keep) (λ v1 h_v1. cast_keeps kind type v1 h_v1)
  eval_keeps front calls (e.binary operation a b) keep = keeps_bind HasNone HasNone _ _ (eval_keeps front calls a keep) (λ x h_x. combined_keeps operation x _ (eval_keeps front calls b keep))
  eval_keeps front calls (e.coalesce a b takes type) keep = keeps_bind HasNone HasNone _ _ (eval_keeps front calls a keep) (λ x h_x. coalesced_keeps takes type x _ h_x (eval_keeps front calls b keep))
  eval_keeps front calls (e.is_nil p negated) keep = keeps_bind AnyOne HasNone _ _ (keeps_bind AnyOne AnyOne _ _ (eval_place_keeps front calls p false keep) (λ v1 h_v1. value_at_keeps v1)) (λ v2 h_v2. nil_told_keeps negated v2)
  eval_keeps front calls (e.conditional a b c) keep = keeps_bind HasNone HasNone _ _ (eval_keeps front calls a keep) (λ x h_x. keeps_by_truth HasNone (truth_of x) _ _ (eval_keeps front calls b keep) (eval_keeps front calls c keep))
  eval_keeps front calls (e.before n) keep = before_value_keeps n

  pub eval_terms_keeps : (front : Front) (calls : Calls) (x3 : PureType) (x4 : e.Terms) → CalleesKeep calls → Keeps HasNoneInRow (eval_terms front calls x3 x4)
  eval_terms_keeps front calls type e.no_terms keep = keeps_give HasNoneInRow stop stop_none
  eval_terms_keeps front calls type (e.terms a es) keep = keeps_bind HasNone HasNoneInRow _ _ (keeps_bind HasNone HasNone _ _ (eval_keeps front calls a keep) (λ v1 h_v1. transferred_keeps type v1 h_v1)) (λ t h_t. keeps_bind HasNoneInRow HasNoneInRow _ _ (eval_terms_keeps front calls type es keep) (λ v2 h_v2. before_keeps t v2 h_t h_v2))

  pub eval_arguments_keeps : (front : Front) (calls : Calls) (x3 : e.Arguments) → CalleesKeep calls → Keeps HasNoneInRow (eval_arguments front calls x3)
  eval_arguments_keeps front calls e.no_arguments keep = keeps_give HasNoneInRow stop stop_none
  eval_arguments_keeps front calls (e.arguments a type all) keep = keeps_bind HasNone HasNoneInRow _ _ (keeps_bind HasNone HasNone _ _ (eval_keeps front calls a keep) (λ v1 h_v1. transferred_keeps type v1 h_v1)) (λ t h_t. keeps_bind HasNoneInRow HasNoneInRow _ _ (eval_arguments_keeps front calls all keep) (λ v2 h_v2. before_keeps t v2 h_t h_v2))

  pub eval_entries_keeps : (front : Front) (calls : Calls) (x3 : PureType) (x4 : PureType) (x5 : e.TermEntries) → CalleesKeep calls → Keeps PairsHaveNone (eval_entries front calls x3 x4 x5)
  eval_entries_keeps front calls key value e.no_entries keep = keeps_give PairsHaveNone [] tt
  eval_entries_keeps front calls key value (e.entries a b es) keep = keeps_bind HasNone PairsHaveNone _ _ (keeps_bind HasNone HasNone _ _ (eval_keeps front calls a keep) (λ v1 h_v1. transferred_keeps key v1 h_v1)) (λ k h_k. keeps_bind HasNone PairsHaveNone _ _ (keeps_bind HasNone HasNone _ _ (eval_keeps front calls b keep) (λ v2 h_v2. transferred_keeps value v2 h_v2)) (λ t h_t. keeps_bind PairsHaveNone PairsHaveNone _ (λ ps. give (record { key = k; value = t } ∷ ps)) (eval_entries_keeps front calls key value es keep) (λ ps h_ps. keeps_give PairsHaveNone (record { key = k; value = t } ∷ ps) (h_t, h_ps))))
