-- Evaluation: labels are kept apart, and values in hand have none.
use Rattle.cad_labels.proofs.Forms.{keeps_stuck, keeps_some}
use Rattle.std.proofs.Common.{arith, refl}
use Rattle.cad_labels.proofs.Keeping.{fewer_stand}
use Rattle.cad_labels.proofs.Frames.{rest_total}
use Rattle.cad_evaluation.specs.Evaluation.{frame_of}
use Rattle.cad_evaluation.specs.Bodies.{rest_of}
use Rattle.std.specs.Prelude.{ℕ, zero, suc, Bool, true, false, List, [], ◌∷◌, Option, Some, None}
use Rattle.cad_syntax.specs.declared.type_id.TypeId.{TypeId}
use Rattle.cad_declarations.specs.Typed as e
use Rattle.cad_world.specs.Rows.{Row, stop}
use Rattle.cad_world.specs.Declared.{bodies_of, function_in}
use Rattle.cad_evaluation.specs.Bodies.{Piece, own_piece, inherited}
use Rattle.cad_evaluation.specs.Callees.{method, function, initializer, destroyed_event, Calls, Front}
use Rattle.cad_evaluation.specs.Making.{initializer_of}
use Rattle.std.proofs.Common.{refl}
use Rattle.cad_evaluation.specs.Evaluation.{run, outside, making, defaults, destroyed_body, looking, looked, event_made, destroying_nothing, called, calls_to}
use Rattle.std.proofs.Common.{arith}
use Rattle.cad_labels.specs.Laws.{HasNone, HasNoneInRow, Keeps, AnyOne, CalleesKeep}
use Rattle.cad_world.specs.State.{give}
use Rattle.cad_label_runs.proofs.Bodies.{conditioned_keeps}
use Rattle.cad_label_runs.proofs.Ending.{event_of_keeps}
use Rattle.cad_label_runs.proofs.Terms.{eval_keeps}
use Rattle.cad_label_runs.proofs.Uses.{before_keeps}
use Rattle.cad_labels.proofs.Forms.{keeps_give, stop_none}
use Rattle.cad_labels.proofs.Frames.{enter_keeps, leave_keeps}
use Rattle.cad_labels.proofs.Keeping.{keeps_bind}
use Rattle.cad_labels.proofs.Places.{ending_keeps, transferred_keeps}

pub run_keeps : (front : Front) (calls : Calls) (n : ℕ) (x4 : Option ℕ) (x5 : Bool) (x6 : Option Piece) (x7 : List Piece) (x8 : Row) → CalleesKeep calls → HasNoneInRow x8 → Keeps HasNone (run front calls n x4 x5 x6 x7 x8)
run_keeps front calls n self initializes own others arguments keep n7 = keeps_bind HasNone HasNone _ _ (keeps_bind AnyOne HasNone _ _ (enter_keeps None self initializes arguments n7) (λ u1 h_u1. conditioned_keeps front calls n own others keep)) (λ t h_t. keeps_bind AnyOne HasNone _ (λ u2. give t) leave_keeps (λ u2 h_u2. keeps_give HasNone t h_t))

pub defaults_keeps : (front : Front) (calls : Calls) (x3 : List e.TargetedTerm) → CalleesKeep calls → Keeps HasNoneInRow (defaults front calls x3)
defaults_keeps front calls [] keep = keeps_give HasNoneInRow stop stop_none
defaults_keeps front calls (x ∷ xs) keep = keeps_bind HasNone HasNoneInRow _ _ (keeps_bind HasNone HasNone _ _ (eval_keeps front calls x.value keep) (λ v1 h_v1. transferred_keeps x.target v1 h_v1)) (λ t h_t. keeps_bind HasNoneInRow HasNoneInRow _ _ (defaults_keeps front calls xs keep) (λ v2 h_v2. before_keeps t v2 h_t h_v2))

pub looking_keeps : (x1 : TypeId) (x2 : ℕ) → Keeps AnyOne (looking x1 x2)
looking_keeps id l = λ s once. (tt, fewer_stand s (record s { frames = frame_of id l ∷ s.frames }) refl (λ p. omega arith) once)

pub looked_keeps : Keeps AnyOne looked
looked_keeps = keeps_bind AnyOne AnyOne _ _ (ending_keeps 0) (λ u1 h_u1. λ s once. (tt, fewer_stand s (record s { frames = rest_of s.frames }) refl (λ p. omega (arith, rest_total p s.frames)) once))

pub event_made_keeps : (front : Front) (calls : Calls) (x3 : TypeId) (x4 : ℕ) (x5 : e.DestroyedBody) → CalleesKeep calls → Keeps HasNone (event_made front calls x3 x4 x5)
event_made_keeps front calls id l d keep = keeps_bind HasNone HasNone _ _ (keeps_bind HasNoneInRow HasNone _ _ (keeps_bind AnyOne HasNoneInRow (looking id l) _ (looking_keeps id l) (λ u1 h_u1. defaults_keeps front calls d.arguments keep)) (λ v2 h_v2. event_of_keeps d.event v2 h_v2)) (λ t h_t. keeps_bind AnyOne HasNone _ (λ u3. give t) looked_keeps (λ u3 h_u3. keeps_give HasNone t h_t))

apart_keeps : (calls : Calls) → CalleesKeep calls → CalleesKeep (destroying_nothing calls)
apart_keeps calls keep (method id name l) r none = keep (method id name l) r none
apart_keeps calls keep (function name) r none = keep (function name) r none
apart_keeps calls keep (initializer id l) r none = keep (initializer id l) r none
apart_keeps calls keep (destroyed_event id l) r none = keeps_stuck HasNone

called_keeps : (front : Front) (calls : Calls) (n : ℕ) → CalleesKeep calls → CalleesKeep (called front calls n)
called_keeps front calls n keep (method id name l) r none = λ s once. run_keeps front calls n (Some l) false (own_piece s name id) (inherited s name id) r keep none s once
called_keeps front calls n keep (function name) r none = λ s once. run_keeps front calls n None false (outside (function_in s.program.bodies.functions name)) [] r keep none s once
called_keeps front calls n keep (initializer id l) r none = λ s once. run_keeps front calls n (Some l) true (making id (initializer_of (bodies_of s id))) [] r keep none s once
called_keeps front calls n keep (destroyed_event id l) r none = λ s once. keeps_some HasNone (destroyed_body (bodies_of s id)) _
    (λ d. event_made_keeps front (destroying_nothing calls) id l d (apart_keeps calls keep)) s once

-- by recursion on the bound
pub calls_keep : (front : Front) (n : ℕ) → CalleesKeep (calls_to front n)
calls_keep front zero callee r none = λ s once. tt
calls_keep front (suc n) callee r none = called_keeps front (calls_to front n) n (calls_keep front n) callee r none
