-- Steps of evaluation as the code takes them: forms by names that stay folded, and what goes on from the value of a part.
use Rattle.std.specs.Prelude.{◌≡◌, ℕ, Bool, true, false, List, [], ◌∷◌, ◌++◌, Option, Some, None, Result, Ok, Err}
use Rattle.std.specs.declared.alloc.Global.{Global}
use Rattle.std.specs.declared.boxed.Box.{Box}
use Rattle.cad_syntax.specs.Types.{PureType, pure_type}
use Rattle.cad_syntax.specs.declared.types.CadType.{CadType}
use Rattle.cad_syntax.specs.declared.text.Name.{Name}
use Rattle.cad_syntax.specs.declared.type_id.TypeId.{TypeId}
use Rattle.cad_types.specs.declared.builtin.Builtin.{Builtin}
use Rattle.cad_grammar.specs.declared.expression.BinaryOperator.{BinaryOperator}
use Rattle.cad_declarations.specs.Typed as e
use Rattle.cad_world.specs.Rows.{Row, stop, join, add_last, Tree}
use Rattle.cad_world.specs.State.{Action, ◌>>=◌, ◌>>◌, give, done, guard, choose, tick, with_some}
use Rattle.cad_world.specs.Locations.{variable}
use Rattle.cad_world.specs.Receivers.{Receiver, look_at}
use Rattle.cad_world.specs.Transfers.{rounded, transferred}
use Rattle.cad_evaluation.specs.Builtins.{member, may_use}
use Rattle.cad_evaluation.specs.Builtins as built_in
use Rattle.cad_evaluation.specs.Callees.{function, initializer, Calls, Front}
use Rattle.cad_evaluation.specs.Casts.{type_tree}
use Rattle.cad_evaluation.specs.Changing.{fill}
use Rattle.cad_evaluation.specs.Containers.{void_tree}
use Rattle.cad_evaluation.specs.Ending.{ended, destroyed}
use Rattle.cad_evaluation.specs.Making.{construct, create, draw_identity, finish}
use Rattle.cad_evaluation.specs.Numbers.{truth_of, bool_tree}
use Rattle.cad_evaluation.specs.Operators.{binary}
use Rattle.cad_evaluation.specs.Reading.{composite_id, copied, read_index}
use Rattle.cad_evaluation.specs.Standing.{Standing, led_by, base_of, field_of, element_of, value_at, receiver_from, receiver_of_chain, content_at, onward}
use Rattle.cad_evaluation.specs.Terms.{eval, eval_place, eval_use, eval_terms, eval_arguments, eval_entries, combined, chained}
use Rattle.cad_evaluation.specs.Uses.{Pair, coalesced, invoked, nil_told, tick_if_called, truth_only, wrapped_if}
use Rattle.cad_labels.specs.Laws.{Keeps}
use Rattle.cad_declarations.specs.Typed.{FunctionBody}
pub use Rattle.cad_boxed_trees.specs.Views.{Boxes}
use Rattle.cad_outcomes.specs.declared.stop.Stop.{Stop}
use Rattle.cad_outcomes.specs.declared.stop.Stop.TheVariants.{Memory}
use Rattle.cad_rows.specs.declared.tree.Tree as code
use Rattle.cad_state.specs.Views.{FindsAndCarriesOut}
use Rattle.cad_state.specs.declared.state.RunState.{RunState}

-- ---- what is carried out behind an action

-- A call that goes on from what an action came to: whatever action came to the result, in whatever state it began, that action and
-- this one behind it are carried out. The action keeps labels apart, and its value is as P says.
pub record GoesOn {A B C D : Type 0} (P : A → Type 0) (view : B → A) (out : D → C) (f : A → Action C) (r : Result B Stop) (y z : RunState) (result : Result D Stop) : Type 0 where
  pub goes : (x : RunState) (p : Action A) → Keeps P p → FindsAndCarriesOut view p x y r → FindsAndCarriesOut out (p >>= f) x z result

-- what takes memory alone
abbrev pub CopiesTo : {A B : Type 0} → (B → A) → A → Result B Stop → Type 0
CopiesTo view a (Ok b) = view b ≡ a
CopiesTo view a (Err why) = why ≡ Memory

-- copies of two types
abbrev pub AreTypes : PureType → PureType → Result (CadType × CadType) Stop → Type 0
AreTypes key value (Ok p) = (pure_type p.0 ≡ key) × (pure_type p.1 ≡ value)
AreTypes key value (Err why) = why ≡ Memory

-- ---- the recursion, folded

unfoldable pub evaluated : Front → Calls → e.TermTree → Action Tree
evaluated front calls t = eval front calls t

unfoldable pub placed : Front → Calls → e.PlaceTree → Bool → Action Standing
placed front calls p writes = eval_place front calls p writes

unfoldable pub used : Front → Calls → e.UseTree → Receiver → Action Tree
used front calls u r = eval_use front calls u r

unfoldable pub elements : Front → Calls → PureType → e.Terms → Action Row
elements front calls type es = eval_terms front calls type es

unfoldable pub arguments : Front → Calls → e.Arguments → Action Row
arguments front calls all = eval_arguments front calls all

unfoldable pub entries : Front → Calls → PureType → PureType → e.TermEntries → Action (List Pair)
entries front calls key value es = eval_entries front calls key value es

-- ---- what is done with the value of a part

unfoldable pub copied_from : Standing → Action Tree
copied_from place = value_at place >>= copied

unfoldable pub nil_told_of : Bool → Standing → Action Tree
nil_told_of negated place = value_at place >>= nil_told negated

-- what stands in a place, as what a member is used on; and where an optional on the way may be nil
abbrev pub received : Front → Calls → e.PlaceTree → Action Receiver
received front calls p = placed front calls p false >>= receiver_from

abbrev pub received_in_chain : Front → Calls → e.PlaceTree → Action (Option Receiver)
received_in_chain front calls p = placed front calls p false >>= receiver_of_chain

unfoldable pub led : Tree → Action Standing
led t = give (led_by t)

unfoldable pub field_at : Bool → Name → Standing → Action Standing
field_at writes n place = onward (λ p. base_of p >>= field_of writes n) place

unfoldable pub content_in : Bool → Standing → Action Standing
content_in forces place = onward (content_at forces) place

unfoldable pub element_with : Bool → Receiver → Tree → Action Standing
element_with writes base index = look_at base >>= element_of writes index

unfoldable pub index_of : Receiver → Tree → Action Tree
index_of base index = look_at base >>= read_index index

-- the element of a receiver at an index that is evaluated first
unfoldable pub element_in : Front → Calls → Bool → e.TermTree → Receiver → Action Standing
element_in front calls writes a base = evaluated front calls a >>= element_with writes base

unfoldable pub element_at : Front → Calls → Bool → e.TermTree → Standing → Action Standing
element_at front calls writes a place = onward (λ p. receiver_from p >>= element_in front calls writes a) place

unfoldable pub index_read : Front → Calls → e.TermTree → Receiver → Action Tree
index_read front calls a base = evaluated front calls a >>= index_of base

unfoldable pub chained_use : Front → Calls → e.UseTree → Bool → Option Receiver → Action Tree
chained_use front calls u wraps r = chained wraps (used front calls u) r

unfoldable pub constructed : Calls → TypeId → Row → Action Tree
constructed calls id row = tick >> construct calls id row

unfoldable pub created : Calls → TypeId → Row → Action Tree
created calls id row = tick >> create calls id row

unfoldable pub called : Calls → Name → Row → Action Tree
called calls n row = tick >> calls (function n) row

-- `Type<T>()`
unfoldable pub type_called : PureType → Action Tree
type_called type = tick >> give (type_tree type)

unfoldable pub built_in_called : Builtin → List PureType → Row → Action Tree
built_in_called b types row = tick_if_called b >> built_in.function b types row

unfoldable pub method_called : Calls → Name → Receiver → Row → Action Tree
method_called calls n r row = tick >> look_at r >>= invoked calls n row

unfoldable pub member_called : Front → Calls → Builtin → List PureType → Receiver → Row → Action Tree
member_called front calls b types r row = tick >> look_at r >>= (λ spot. member front calls b types spot row)

unfoldable pub member_read : Front → Calls → Builtin → Receiver → Action Tree
member_read front calls b r = look_at r >>= (λ spot. guard (may_use b spot) (member front calls b [] spot stop))

-- a value comes to a hidden variable
unfoldable pub put_aside : ℕ → Tree → Action (Unit {0})
put_aside n t = fill (variable n) t

unfoldable pub taken_down : ℕ → Tree → Action Tree
taken_down n r = ended n >> give r

unfoldable pub ended_by : Calls → Tree → Action Tree
ended_by calls t = destroyed calls t >> give void_tree

unfoldable pub combined_with : Front → Calls → BinaryOperator → e.TermTree → Tree → Action Tree
combined_with front calls operation b x = combined operation x (evaluated front calls b)

-- the right operand is evaluated, whatever the left one is
unfoldable pub applied : Front → Calls → BinaryOperator → e.TermTree → Tree → Action Tree
applied front calls operation b x = evaluated front calls b >>= binary operation x

unfoldable pub coalesced_with : Front → Calls → Bool → PureType → e.TermTree → Tree → Action Tree
coalesced_with front calls takes type b x = coalesced takes type x (evaluated front calls b)

unfoldable pub truth_told : Tree → Action Bool
truth_told t = with_some (truth_of t) give

unfoldable pub conjoined : Front → Calls → e.TermTree → Bool → Action Tree
conjoined front calls b x = choose x (evaluated front calls b >>= truth_only) (give (bool_tree false))

unfoldable pub disjoined : Front → Calls → e.TermTree → Bool → Action Tree
disjoined front calls b x = choose x (give (bool_tree true)) (evaluated front calls b >>= truth_only)

unfoldable pub chosen : Front → Calls → e.TermTree → e.TermTree → Bool → Action Tree
chosen front calls b c x = choose x (evaluated front calls b) (evaluated front calls c)

unfoldable pub rounded_to : PureType → Tree → Action Tree
rounded_to type t = give (rounded type t)

-- the content that was found, or what comes in place of nil
unfoldable pub filled_by : Front → Calls → PureType → e.TermTree → Option Tree → Action Tree
filled_by front calls type b None = evaluated front calls b >>= rounded_to type
filled_by front calls type b (Some t) = give t

unfoldable pub wrapped_by : Bool → Tree → Action Tree
wrapped_by wraps t = give (wrapped_if wraps t)

unfoldable pub aimed_again : Receiver → Action (TypeId × ℕ)
aimed_again r = tick >> (look_at r >>= (λ spot. with_some (composite_id spot.tree) (λ id. with_some spot.label (λ l. give (id, l)))))

-- ---- what is made

unfoldable pub identity_drawn : Action ℕ
identity_drawn = tick >> draw_identity

abbrev pub is_written : Option FunctionBody → Bool
is_written None = false
is_written (Some body) = true

unfoldable pub fields_set : Calls → TypeId → ℕ → Bool → Row → Action (Unit {0})
fields_set calls id l true row = calls (initializer id l) row >> done
fields_set calls id l false row = done

unfoldable pub made_from : Calls → TypeId → ℕ → Bool → Row → Action Tree
made_from calls id l written row = fields_set calls id l written row >> finish

-- ---- rows that grow

-- what comes behind a row
abbrev pub behind : Row → Action Row → Action Row
behind done p = p >>= (λ r. give (join done r))

-- a value comes to the end of a row, as what comes to a place of a type
unfoldable pub row_with : PureType → Row → Tree → Action Row
row_with type done t = transferred type t >>= (λ own. give (add_last own done))

-- what comes behind pairs
abbrev pub after : List Pair → Action (List Pair) → Action (List Pair)
after pairs p = p >>= (λ ps. give (pairs ++ ps))

-- the value of an expression, as what comes to a place of a type
unfoldable pub typed : Front → Calls → PureType → e.TermTree → Action Tree
typed front calls type t = evaluated front calls t >>= transferred type

unfoldable pub pair_of : Tree → List Pair → Tree → Action (List Pair)
pair_of key pairs value = give (pairs ++ record { key = key; value = value } ∷ [])

unfoldable pub pair_with : Front → Calls → PureType → e.TermTree → List Pair → Tree → Action (List Pair)
pair_with front calls type b pairs key = typed front calls type b >>= pair_of key pairs
