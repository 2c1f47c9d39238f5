-- Rows of children at an index, and rows of arguments.
use Rattle.std.specs.Prelude.{ℕ, ◌+◌, ◌<◌, ◌&&◌, true, List, [], ◌∷◌, length, map}
use Rattle.std.specs.List.{list_all}
use Rattle.std.proofs.Common.{◌≡◌, refl, ap, drop, get_or, add-one, drop-cons}
use Rattle.cad_declarations.specs.Typed as tree
use Rattle.cad_declarations.specs.Views.{statement_of, case_of, condition_of, before_of}
use Rattle.cad_declarations.specs.declared.statement.TypedStatement.{TypedStatement}
use Rattle.cad_declarations.specs.declared.statement.TypedCase.{TypedCase}
use Rattle.cad_declarations.specs.declared.body.TypedCondition.{TypedCondition}
use Rattle.cad_declarations.specs.declared.body.TypedBefore.{TypedBefore}
use Rattle.cad_declarations.specs.Tables.{ProgramTables}
use Rattle.cad_paths.specs.Purity.{is_pure, are_pure_arguments}

pub statements_at : (es : List TypedStatement) (i : ℕ) (e : TypedStatement) → i < length es
    → tree.statements_of (map statement_of (drop i es)) ≡ tree.statements (statement_of (get_or es i e)) (tree.statements_of (map statement_of (drop (i + 1) es)))
statements_at es i e h = rw (add-one, drop-cons es i e) refl

pub cases_at : (es : List TypedCase) (i : ℕ) (e : TypedCase) → i < length es
    → tree.cases_of (map case_of (drop i es)) ≡ tree.cases (case_of (get_or es i e)).value (case_of (get_or es i e)).body (tree.cases_of (map case_of (drop (i + 1) es)))
cases_at es i e h = rw (add-one, drop-cons es i e) refl

pub conditions_at : (es : List TypedCondition) (i : ℕ) (e : TypedCondition) → i < length es
    → map condition_of (drop i es) ≡ condition_of (get_or es i e) ∷ map condition_of (drop (i + 1) es)
conditions_at es i e h = rw (add-one, drop-cons es i e) refl

pub befores_at : (es : List TypedBefore) (i : ℕ) (e : TypedBefore) → i < length es
    → map before_of (drop i es) ≡ before_of (get_or es i e) ∷ map before_of (drop (i + 1) es)
befores_at es i e h = rw (add-one, drop-cons es i e) refl

-- arguments are pure where each is
pub all_pure : (tables : ProgramTables) (all : List tree.TargetedTerm) → are_pure_arguments tables (tree.arguments_of all) ≡ list_all (λ a. is_pure tables a.value) all
all_pure tables [] = refl
all_pure tables (a ∷ all) = ap (λ z. is_pure tables a.value && z) (all_pure tables all)
