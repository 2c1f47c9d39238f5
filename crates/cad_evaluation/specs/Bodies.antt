-- Functions and initializers: their conditions, those of interfaces among them, and their bodies.
use Rattle.std.specs.Prelude.{ℕ, suc, ◌-◌, Bool, true, false, nat_lt, List, [], ◌∷◌, ◌++◌, length, find, reverse, Option, Some, None, option_map}
use Rattle.std.specs.Prelude.{filter_map}
use Rattle.cad_syntax.specs.Types.{PureType, basic}
use Rattle.cad_syntax.specs.declared.text.Name.{Name}
use Rattle.cad_syntax.specs.declared.type_id.TypeId.{TypeId}
use Rattle.cad_syntax.specs.declared.types.Authorization.TheVariants.{Unauthorized}
use Rattle.cad_syntax.specs.declared.types.Basic.TheVariants as b
use Rattle.cad_types.specs.Declarations.{resource}
use Rattle.cad_declarations.specs.Typed as e
use Rattle.cad_world.specs.Rows.{Row, stop, Tree, Slot, full, alone, slot, add_last, back, named, bare_tree}
use Rattle.cad_world.specs.State.{State, Frame, Action, ok, ◌>>=◌, ◌>>◌, give, done, stuck, fail, guard, require, with_some, by_truth, tick}
use Rattle.cad_world.specs.Declared.{declarations, bodies_of, function_in}
use Rattle.cad_world.specs.Labels.{newest, with_frame}
use Rattle.cad_world.specs.Locations.{variable}
use Rattle.cad_world.specs.Trees.{nil_tree}
use Rattle.cad_evaluation.specs.Access.{interfaces_of}
use Rattle.cad_evaluation.specs.Callees.{Calls, Front}
use Rattle.cad_evaluation.specs.Casts.{link_tree}
use Rattle.cad_evaluation.specs.Changing.{Content, nothing, content_of, fill}
use Rattle.cad_evaluation.specs.Containers.{void_tree}
use Rattle.cad_evaluation.specs.Ending.{ended}
use Rattle.cad_evaluation.specs.Flows.{Flow, next, returned}
use Rattle.cad_evaluation.specs.Numbers.{truth_of}
use Rattle.cad_evaluation.specs.Reading.{copied}
use Rattle.cad_evaluation.specs.Statements.{emits, exec_block}
use Rattle.cad_evaluation.specs.Terms.{eval}

-- ---- which declarations of a function take part

-- a function as one type declares it
pub record Piece : Type 0 where
  pub within : Option TypeId
  pub function : e.FunctionBody

abbrev pub piece_in : TypeId → Name → Option e.TypeBody → Option Piece
piece_in id name None = None
piece_in id name (Some bodies) = option_map (λ m. record { within = Some id; function = m.function }) (function_in bodies.functions name)

abbrev pub own_piece : State → Name → TypeId → Option Piece
own_piece s name id = piece_in id name (bodies_of s id)

-- those of its interfaces, in their order
abbrev pub inherited : State → Name → TypeId → List Piece
inherited s name id = filter_map (own_piece s name) (interfaces_of s id)

abbrev pub listed : Option Piece → List Piece
listed None = []
listed (Some p) = p ∷ []

-- preconditions run in this order: inherited ones first
abbrev pub inward : Option Piece → List Piece → List Piece
inward own others = others ++ listed own

-- postconditions in this: own ones first, and inherited ones in the reverse order
abbrev pub outward : Option Piece → List Piece → List Piece
outward own others = listed own ++ reverse others

abbrev pub has_body : Piece → Bool
has_body p = is_some_block p.function.body
  where
    is_some_block : Option e.BlockTree → Bool
    is_some_block None = false
    is_some_block (Some b) = true

-- the own body, or the first default
abbrev pub running : Option Piece → List Piece → Option Piece
running own others = find has_body (listed own ++ others)

-- ---- calls

abbrev pub most_calls : ℕ
most_calls = 2000

-- a call begins: 124 where too many are in progress
abbrev pub entered : Option TypeId → Option ℕ → Bool → Row → Action (Unit {0})
entered within self initializes arguments = λ s. require 124 (nat_lt s.depth most_calls) (λ s. ok tt (record s {
  frames = record { within = within; self = self; initializes = initializes; variables = arguments; before = stop; result = stop } ∷ s.frames;
  depth = suc s.depth;
})) s

abbrev pub rest_of : List Frame → List Frame
rest_of [] = []
rest_of (f ∷ fs) = fs

-- a call ends: its variables go
abbrev pub left : Action (Unit {0})
left = ended 0 >> (λ s. ok tt (record s { frames = rest_of s.frames; depth = s.depth - 1 }))

-- the code of this type runs
abbrev pub moved_to : Option TypeId → Action (Unit {0})
moved_to within = λ s. ok tt (with_frame (λ f. record f { within = within }) s)

-- ---- conditions

abbrev pub message_of : Front → Calls → Option e.TermTree → Action (Unit {0})
message_of front calls None = done
message_of front calls (Some a) = eval front calls a >> done

-- a condition counts as a statement; where a test fails its message is evaluated, and then that is 108
abbrev pub tested : Front → Calls → e.ConditionBody → Action (Unit {0})
tested front calls (e.test at a message) = tick >> eval front calls a >>= (λ t. by_truth (truth_of t) done (message_of front calls message >> fail 108))
tested front calls (e.emitted at id all) = tick >> emits front calls id all

abbrev pub all_tested : Front → Calls → List e.ConditionBody → Action (Unit {0})
all_tested front calls [] = done
all_tested front calls (c ∷ cs) = tested front calls c >> all_tested front calls cs

abbrev pub preconditions : Front → Calls → List Piece → Action (Unit {0})
preconditions front calls [] = done
preconditions front calls (p ∷ ps) = moved_to p.within >> all_tested front calls p.function.pre >> preconditions front calls ps

-- ---- `before`

abbrev pub kept_before : Tree → Action (Unit {0})
kept_before t = λ s. ok tt (with_frame (λ f. record f { before = add_last t f.before }) s)

abbrev pub values_before : Front → Calls → List e.BeforeTree → Action (Unit {0})
values_before front calls [] = done
values_before front calls (x ∷ xs) = eval front calls x.value >>= kept_before >> values_before front calls xs

-- in the order in which the postconditions will run
abbrev pub all_before : Front → Calls → List Piece → Action (Unit {0})
all_before front calls [] = done
all_before front calls (p ∷ ps) = moved_to p.within >> values_before front calls p.function.before >> all_before front calls ps

-- the values of one declaration aren't wanted any more
abbrev pub passed_before : ℕ → Action (Unit {0})
passed_before n = λ s. ok tt (with_frame (λ f. record f { before = back n f.before }) s)

-- ---- results

-- an end without a result gives Void, where that is the type of the result
abbrev pub is_void : PureType → Bool
is_void (basic b.Void) = true
is_void _ = false

abbrev pub value_of_flow : PureType → Flow → Action Tree
value_of_flow type (returned t) = give t
value_of_flow type next = guard (is_void type) (give void_tree)
value_of_flow type _ = stuck

abbrev pub result_aside : Tree → Action (Unit {0})
result_aside t = λ s. ok tt (with_frame (λ f. record f { result = alone t }) s)

abbrev pub result_row : Option Frame → Row
result_row None = stop
result_row (Some f) = f.result

abbrev pub result_in : Slot → Action Tree
result_in (full t) = λ s. ok (bare_tree t) (with_frame (λ f. record f { result = stop }) s)
result_in _ = stuck

-- the result comes back
abbrev pub result_taken : Action Tree
result_taken = λ s. result_in (slot 0 (result_row (newest s))) s

abbrev pub linked_result : Tree → Action Tree
linked_result t = λ s. ok (record (link_tree Unauthorized s.next_label 0) { optionals = t.optionals })
    (with_frame (λ f. record f { result = named 0 s.next_label f.result }) (record s { next_label = suc s.next_label }))

abbrev pub linked_content : Tree → Content → Action Tree
linked_content t nothing = give nil_tree
linked_content t _ = linked_result t

-- `result`: a copy, or of a resource a reference to it, in its optionals
abbrev pub result_by : Bool → Slot → Action Tree
result_by true (full t) = linked_content t (content_of t)
result_by false (full t) = copied t
result_by linear _ = stuck

abbrev pub result_value : PureType → Action Tree
result_value type = λ s. result_by (resource (declarations s) type) (slot 0 (result_row (newest s))) s

abbrev pub with_result : PureType → Option e.VariableEntry → Action (Unit {0}) → Action (Unit {0})
with_result type None rest = rest
with_result type (Some x) rest = result_value type >>= fill (variable x.number) >> rest >> ended x.number

abbrev pub postconditions : Front → Calls → List Piece → Action (Unit {0})
postconditions front calls [] = done
postconditions front calls (p ∷ ps) =
    moved_to p.within >> with_result p.function.result p.function.result_variable (all_tested front calls p.function.post)
    >> passed_before (length p.function.before) >> postconditions front calls ps

-- ---- bodies

abbrev pub body_run : Front → Calls → ℕ → Piece → Action Tree
body_run front calls n p = moved_to p.within >> with_some p.function.body (exec_block front calls n) >>= value_of_flow p.function.result

-- preconditions, values of `before`, the body, and postconditions
abbrev pub conditioned : Front → Calls → ℕ → Option Piece → List Piece → Action Tree
conditioned front calls n own others =
    preconditions front calls (inward own others) >> all_before front calls (outward own others)
    >> with_some (running own others) (body_run front calls n) >>= result_aside
    >> postconditions front calls (outward own others) >> result_taken
