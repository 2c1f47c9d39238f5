-- Making: labels are kept apart, and values in hand have none.
use Rattle.cad_labels.proofs.Keeping.{stays}
use Rattle.std.specs.Prelude.{ℕ, nat_lt, option_and_then}
use Rattle.cad_syntax.specs.declared.type_id.TypeId.{TypeId}
use Rattle.cad_world.specs.Rows.{Row, Tree}
use Rattle.cad_world.specs.Declared.{entry_of, bodies_of}
use Rattle.cad_evaluation.specs.Callees.{Calls}
use Rattle.cad_evaluation.specs.Numbers.{integer_in}
use Rattle.cad_evaluation.specs.Making.{case_of, case_tree, case_at, case_from, field_names, begin, initializer_of, make, last_identity, draw_identity, construct, create}
use Rattle.cad_labels.specs.Laws.{HasNone, HasNoneInRow, Keeps, AnyOne, CalleesKeep}
use Rattle.cad_label_runs.proofs.Values.{case_at_none, case_none, then_within}
use Rattle.cad_labels.proofs.Accounts.{initialized_keeps}
use Rattle.cad_labels.proofs.Forms.{keeps_give, keeps_require, keeps_some, keeps_within}
use Rattle.cad_labels.proofs.Keeping.{keeps_bind}
use Rattle.cad_labels.proofs.Places.{begins_keep, finish_keeps}

pub case_tree_keeps : (x1 : TypeId) (x2 : ℕ) → Keeps HasNone (case_tree x1 x2)
case_tree_keeps id n = λ s once. (keeps_within HasNone HasNone (option_and_then (λ entry. case_of entry n) (entry_of s id)) _ (then_within HasNone (λ entry. case_of entry n) (entry_of s id) (λ entry. case_none entry n)) (λ v1 h_v1. keeps_give HasNone v1 h_v1)) s once

pub case_from_keeps : (x1 : TypeId) (x2 : Tree) → Keeps HasNone (case_from x1 x2)
case_from_keeps id r = λ s once. (keeps_some HasNone (integer_in r) _ (λ z. keeps_within HasNone HasNone (option_and_then (λ entry. case_at entry z) (entry_of s id)) _ (then_within HasNone (λ entry. case_at entry z) (entry_of s id) (λ entry. case_at_none entry z)) (λ v1 h_v1. keeps_give HasNone v1 h_v1))) s once

pub make_keeps : (calls : Calls) (x2 : TypeId) (x3 : ℕ) (x4 : Row) → CalleesKeep calls → HasNoneInRow x4 → Keeps HasNone (make calls x2 x3 x4)
make_keeps calls id identity arguments keep n3 = λ s once. (keeps_some HasNone (entry_of s id) _ (λ entry. keeps_bind AnyOne HasNone (begin id identity (field_names entry.members)) _ (begins_keep id identity (field_names entry.members)) (λ l h_l. keeps_bind AnyOne HasNone _ _ (initialized_keeps calls keep id l arguments (initializer_of (bodies_of s id)) n3) (λ u1 h_u1. finish_keeps)))) s once

pub draw_identity_keeps : Keeps AnyOne draw_identity
draw_identity_keeps = λ s once. (keeps_require AnyOne 128 (nat_lt s.next_identity last_identity) _ (λ s once. (tt, stays s once))) s once

pub construct_keeps : (calls : Calls) (x2 : TypeId) (x3 : Row) → CalleesKeep calls → HasNoneInRow x3 → Keeps HasNone (construct calls x2 x3)
construct_keeps calls id arguments keep n2 = make_keeps calls id 0 arguments keep n2

pub create_keeps : (calls : Calls) (x2 : TypeId) (x3 : Row) → CalleesKeep calls → HasNoneInRow x3 → Keeps HasNone (create calls x2 x3)
create_keeps calls id arguments keep n2 = keeps_bind AnyOne HasNone _ _ draw_identity_keeps (λ identity h_identity. make_keeps calls id identity arguments keep n2)
