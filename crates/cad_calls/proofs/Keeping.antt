-- Parts of calls keep labels apart.
use Rattle.std.specs.Prelude.{ℕ, List, length, Option}
use Rattle.cad_syntax.specs.Types.{PureType}
use Rattle.cad_syntax.specs.declared.type_id.TypeId.{TypeId}
use Rattle.cad_declarations.specs.Typed as e
use Rattle.cad_calls.specs.Code.Parts as parts
use Rattle.cad_evaluation.specs.Bodies.{Piece, inward, outward, running, moved_to}
use Rattle.cad_evaluation.specs.Callees.{Calls, Front}
use Rattle.cad_labels.specs.Laws.{HasNone, Keeps, AnyOne, CalleesKeep}
use Rattle.cad_labels.proofs.Forms.{keeps_spend, keeps_some}
use Rattle.cad_labels.proofs.Frames.{aside_keeps}
use Rattle.cad_labels.proofs.Keeping.{keeps_bind}
use Rattle.cad_labels.proofs.Places.{filling_keeps}
use Rattle.cad_label_runs.proofs.Bodies.{moved_to_keeps, all_tested_keeps, preconditions_keeps, kept_before_keeps, values_before_keeps, all_before_keeps, passed_before_keeps, result_value_keeps, with_result_keeps, postconditions_keeps, body_run_keeps}
use Rattle.cad_label_runs.proofs.Terms.{eval_keeps}
use Rattle.cad_world.specs.Locations.{variable}

pub value_keeps : (front : Front) (calls : Calls) (a : e.TermTree) → CalleesKeep calls → Keeps HasNone (parts.value_of front calls a)
value_keeps front calls a keep = keeps_bind AnyOne HasNone _ _ (keeps_spend 1) (λ u h. eval_keeps front calls a keep)

pub kept_keeps : (front : Front) (calls : Calls) (a : e.TermTree) → CalleesKeep calls → Keeps AnyOne (parts.value_kept front calls a)
kept_keeps front calls a keep = keeps_bind HasNone AnyOne _ _ (eval_keeps front calls a keep) (λ v h. kept_before_keeps v h)

pub precondition_keeps : (front : Front) (calls : Calls) (within : Option TypeId) (f : e.FunctionBody) → CalleesKeep calls → Keeps AnyOne (parts.precondition front calls within f)
precondition_keeps front calls within f keep = keeps_bind AnyOne AnyOne (moved_to within) _ (moved_to_keeps within) (λ u h. all_tested_keeps front calls f.pre keep)

pub piece_before_keeps : (front : Front) (calls : Calls) (within : Option TypeId) (f : e.FunctionBody) → CalleesKeep calls → Keeps AnyOne (parts.piece_before front calls within f)
piece_before_keeps front calls within f keep = keeps_bind AnyOne AnyOne (moved_to within) _ (moved_to_keeps within) (λ u h. values_before_keeps front calls f.before keep)

pub result_filled_keeps : (type : PureType) (x : e.VariableEntry) → Keeps AnyOne (parts.result_filled type x)
result_filled_keeps type x = keeps_bind HasNone AnyOne _ _ (result_value_keeps type) (λ v h. filling_keeps (variable x.number) v h)

pub moved_after_keeps : (front : Front) (calls : Calls) (within : Option TypeId) (f : e.FunctionBody) → CalleesKeep calls → Keeps AnyOne (parts.moved_after front calls within f)
moved_after_keeps front calls within f keep = keeps_bind AnyOne AnyOne (moved_to within) _ (moved_to_keeps within) (λ u h. with_result_keeps f.result f.result_variable _ (all_tested_keeps front calls f.post keep))

pub postcondition_keeps : (front : Front) (calls : Calls) (within : Option TypeId) (f : e.FunctionBody) → CalleesKeep calls → Keeps AnyOne (parts.postcondition front calls within f)
postcondition_keeps front calls within f keep = keeps_bind AnyOne AnyOne _ _ (moved_after_keeps front calls within f keep) (λ u h. passed_before_keeps (length f.before))

pub prepared_keeps : (front : Front) (calls : Calls) (own : Option Piece) (others : List Piece) → CalleesKeep calls → Keeps AnyOne (parts.prepared front calls own others)
prepared_keeps front calls own others keep = keeps_bind AnyOne AnyOne _ _ (preconditions_keeps front calls (inward own others) keep) (λ u h. all_before_keeps front calls (outward own others) keep)

pub given_keeps : (front : Front) (calls : Calls) (n : ℕ) (own : Option Piece) (others : List Piece) → CalleesKeep calls → Keeps HasNone (parts.given front calls n own others)
given_keeps front calls n own others keep = keeps_bind AnyOne HasNone _ _ (prepared_keeps front calls own others keep) (λ u h. keeps_some HasNone (running own others) _ (λ p. body_run_keeps front calls n p keep))

pub set_aside_keeps : (front : Front) (calls : Calls) (n : ℕ) (own : Option Piece) (others : List Piece) → CalleesKeep calls → Keeps AnyOne (parts.set_aside front calls n own others)
set_aside_keeps front calls n own others keep = keeps_bind HasNone AnyOne _ _ (given_keeps front calls n own others keep) (λ t h. aside_keeps t h)

pub finished_keeps : (front : Front) (calls : Calls) (n : ℕ) (own : Option Piece) (others : List Piece) → CalleesKeep calls → Keeps AnyOne (parts.finished front calls n own others)
finished_keeps front calls n own others keep = keeps_bind AnyOne AnyOne _ _ (set_aside_keeps front calls n own others keep) (λ u h. postconditions_keeps front calls (outward own others) keep)
