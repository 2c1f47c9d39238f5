-- Parts of calls, each of which a function carries out.
use Rattle.std.specs.Prelude.{ℕ, Bool, List, length, Option, None}
use Rattle.cad_syntax.specs.Types.{PureType}
use Rattle.cad_syntax.specs.declared.type_id.TypeId.{TypeId}
use Rattle.cad_declarations.specs.Typed as e
use Rattle.cad_evaluation.specs.Bodies.{Piece, inward, outward, running, moved_to, message_of, all_tested, preconditions, kept_before, values_before, all_before, passed_before, result_aside, result_value, with_result, postconditions, body_run, conditioned, entered, left}
use Rattle.cad_evaluation.specs.Callees.{Calls, Front}
use Rattle.cad_evaluation.specs.Ending.{event_of}
use Rattle.cad_evaluation.specs.Evaluation.{defaults, destroyed_body, destroying_nothing, event_made, looked, looking}
use Rattle.cad_evaluation.specs.Changing.{fill}
use Rattle.cad_evaluation.specs.Flows.{Flow}
use Rattle.cad_evaluation.specs.Numbers.{truth_of}
use Rattle.cad_evaluation.specs.Statements.{exec_block}
use Rattle.cad_evaluation.specs.Terms.{eval}
use Rattle.cad_world.specs.Declared.{bodies_of}
use Rattle.cad_world.specs.Locations.{variable}
use Rattle.cad_world.specs.Rows.{Row, Tree}
use Rattle.cad_world.specs.State.{Action, ◌>>=◌, ◌>>◌, give, done, fail, with_some, by_truth, tick}

-- ---- conditions

abbrev pub value_of : Front → Calls → e.TermTree → Action Tree
value_of front calls a = tick >> eval front calls a

abbrev pub failed_test : Front → Calls → Option e.TermTree → Action (Unit {0})
failed_test front calls message = message_of front calls message >> fail 108

abbrev pub judged : Front → Calls → Option e.TermTree → Tree → Action (Unit {0})
judged front calls message t = by_truth (truth_of t) done (failed_test front calls message)

abbrev pub value_kept : Front → Calls → e.TermTree → Action (Unit {0})
value_kept front calls a = eval front calls a >>= kept_before

-- ---- declarations

abbrev pub precondition : Front → Calls → Option TypeId → e.FunctionBody → Action (Unit {0})
precondition front calls within f = moved_to within >> all_tested front calls f.pre

abbrev pub piece_before : Front → Calls → Option TypeId → e.FunctionBody → Action (Unit {0})
piece_before front calls within f = moved_to within >> values_before front calls f.before

abbrev pub result_filled : PureType → e.VariableEntry → Action (Unit {0})
result_filled type x = result_value type >>= fill (variable x.number)

abbrev pub result_tested : Front → Calls → e.FunctionBody → e.VariableEntry → Action (Unit {0})
result_tested front calls f x = result_filled f.result x >> all_tested front calls f.post

abbrev pub after_body : Front → Calls → e.FunctionBody → Action (Unit {0})
after_body front calls f = with_result f.result f.result_variable (all_tested front calls f.post)

abbrev pub moved_after : Front → Calls → Option TypeId → e.FunctionBody → Action (Unit {0})
moved_after front calls within f = moved_to within >> after_body front calls f

abbrev pub postcondition : Front → Calls → Option TypeId → e.FunctionBody → Action (Unit {0})
postcondition front calls within f = moved_after front calls within f >> passed_before (length f.before)

-- ---- bodies

abbrev pub body_flow : Front → Calls → ℕ → Option TypeId → e.FunctionBody → Action Flow
body_flow front calls n within f = moved_to within >> with_some f.body (exec_block front calls n)

abbrev pub prepared : Front → Calls → Option Piece → List Piece → Action (Unit {0})
prepared front calls own others = preconditions front calls (inward own others) >> all_before front calls (outward own others)

abbrev pub given : Front → Calls → ℕ → Option Piece → List Piece → Action Tree
given front calls n own others = prepared front calls own others >> with_some (running own others) (body_run front calls n)

abbrev pub set_aside : Front → Calls → ℕ → Option Piece → List Piece → Action (Unit {0})
set_aside front calls n own others = given front calls n own others >>= result_aside

abbrev pub finished : Front → Calls → ℕ → Option Piece → List Piece → Action (Unit {0})
finished front calls n own others = set_aside front calls n own others >> postconditions front calls (outward own others)

abbrev pub begun : Front → Calls → ℕ → Option ℕ → Bool → Option Piece → List Piece → Row → Action Tree
begun front calls n self initializes own others arguments = entered None self initializes arguments >> conditioned front calls n own others

abbrev pub left_with : Tree → Action Tree
left_with t = left >> give t

-- ---- the event that tells of the end of a resource

abbrev pub event_row : Front → Calls → TypeId → ℕ → e.DestroyedBody → Action Row
event_row front calls id l d = looking id l >> defaults front calls d.arguments

abbrev pub event_inside : Front → Calls → TypeId → ℕ → e.DestroyedBody → Action Tree
event_inside front calls id l d = event_row front calls id l d >>= event_of d.event

abbrev pub looked_with : Tree → Action Tree
looked_with t = looked >> give t

abbrev pub event_told : Front → Calls → TypeId → ℕ → Option e.DestroyedBody → Action Tree
event_told front calls id l o = with_some o (event_made front calls id l)

abbrev pub end_told : Front → Calls → TypeId → ℕ → Action Tree
end_told front calls id l = λ s. event_told front (destroying_nothing calls) id l (destroyed_body (bodies_of s id)) s
