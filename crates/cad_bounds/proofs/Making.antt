-- Making: the same while the units last.
use Rattle.std.specs.Prelude.{ℕ, nat_lt, List, Option, Some, None, option_and_then}
use Rattle.cad_syntax.specs.declared.text.Name.{Name}
use Rattle.cad_syntax.specs.declared.type_id.TypeId.{TypeId}
use Rattle.cad_declarations.specs.Typed.{FunctionBody}
use Rattle.cad_world.specs.Rows.{Row, stop, gap, node, Tree, is_full}
use Rattle.cad_world.specs.Declared.{entry_of, bodies_of}
use Rattle.cad_evaluation.specs.Callees.{initializer, Calls}
use Rattle.cad_evaluation.specs.Numbers.{integer_in}
use Rattle.cad_evaluation.specs.Making.{case_of, case_tree, case_at, case_from, field_names, begin, finished, finish, initialized, initializer_of, make, last_identity, draw_identity, construct, create}
use Rattle.cad_bounds.proofs.Same.{Runs, Same, Now, self_units, same_self, same_give, same_stuck, same_done, same_some, same_guard, same_require, same_bind}

pub same_case_tree : (R : Runs) (x1 : TypeId) (x2 : ℕ) → Same R (case_tree x1 x2) (case_tree x1 x2)
same_case_tree R id n = λ s low. (same_some R (option_and_then (λ entry. case_of entry n) (entry_of s id)) _ _ (λ v1. (same_give R v1))) s low

pub same_case_from : (R : Runs) (x1 : TypeId) (x2 : Tree) → Same R (case_from x1 x2) (case_from x1 x2)
same_case_from R id r = λ s low. (same_some R (integer_in r) _ _ (λ z. (same_some R (option_and_then (λ entry. case_at entry z) (entry_of s id)) _ _ (λ v1. (same_give R v1))))) s low

pub same_begin : (R : Runs) (x1 : TypeId) (x2 : ℕ) (x3 : List Name) → Same R (begin x1 x2 x3) (begin x1 x2 x3)
same_begin R id identity names = same_self R _ (λ s. self_units s.units)

pub same_finished : (R : Runs) (x1 : Row) → Same R (finished x1) (finished x1)
same_finished R stop = same_stuck R
same_finished R (gap r) = same_stuck R
same_finished R (node l n shape parts r) = same_guard R (is_full parts) _ _ (same_self R _ (λ s. self_units s.units))

pub same_finish : (R : Runs) → Same R (finish) (finish)
same_finish R = λ s low. (same_finished R s.making) s low

pub same_initialized : (R : Runs) (calls calls' : Calls) (x2 : TypeId) (x3 : ℕ) (x4 : Row) (x5 : Option FunctionBody) → Now R calls calls' → Same R (initialized calls x2 x3 x4 x5) (initialized calls' x2 x3 x4 x5)
same_initialized R calls calls' id l arguments None now = same_done R
same_initialized R calls calls' id l arguments (Some body) now = same_bind R _ _ _ _ (now (initializer id l) arguments) (λ u1. (same_done R))

pub same_make : (R : Runs) (calls calls' : Calls) (x2 : TypeId) (x3 : ℕ) (x4 : Row) → Now R calls calls' → Same R (make calls x2 x3 x4) (make calls' x2 x3 x4)
same_make R calls calls' id identity arguments now = λ s low. (same_some R (entry_of s id) _ _ (λ entry. (same_bind R _ _ _ _ (same_begin R id identity (field_names entry.members)) (λ l. (same_bind R _ _ _ _ (same_initialized R calls calls' id l arguments (initializer_of (bodies_of s id)) now) (λ u1. (same_finish R))))))) s low

pub same_draw_identity : (R : Runs) → Same R (draw_identity) (draw_identity)
same_draw_identity R = λ s low. (same_require R 128 (nat_lt s.next_identity last_identity) _ _ (same_self R _ (λ s. self_units s.units))) s low

pub same_construct : (R : Runs) (calls calls' : Calls) (x2 : TypeId) (x3 : Row) → Now R calls calls' → Same R (construct calls x2 x3) (construct calls' x2 x3)
same_construct R calls calls' id arguments now = same_make R calls calls' id 0 arguments now

pub same_create : (R : Runs) (calls calls' : Calls) (x2 : TypeId) (x3 : Row) → Now R calls calls' → Same R (create calls x2 x3) (create calls' x2 x3)
same_create R calls calls' id arguments now = same_bind R _ _ _ _ (same_draw_identity R) (λ identity. (same_make R calls calls' id identity arguments now))
