-- Walks over statements one behind the other, and the first row with a type that isn't there.
use Rattle.std.specs.Prelude.{ℕ, ◌+◌, ◌-◌, ◌^◌, ◌<◌, min, Bool, true, false, not, Option, Some, None, option_map, List, [], ◌∷◌, ◌++◌, drop, get_or, length, map, if◌then◌else◌}
use Rattle.std.specs.List.{position_from}
use Rattle.std.proofs.Common.{◌≡◌, ◌∙◌, refl, ap, sym, arith}
use Rattle.cad_grammar.specs.Trees.{TypeTree, stmts_of, cases_of}
use Rattle.cad_grammar.specs.Views.{stmt_of, case_of}
use Rattle.cad_grammar.specs.declared.statement.Case.{Case}
use Rattle.cad_grammar.specs.declared.statement.Stmt.{Stmt}
use Rattle.cad_declarations.specs.Build.{told, missing_row}
use Rattle.cad_declarations.specs.Points.{types_are_there}
use Rattle.cad_declarations.specs.Scopes.{Scope}
use Rattle.cad_declarations.specs.Written.{rows_of, rows_of_stmts, rows_of_cases, rows_of_body}
use Rattle.cad_stop_points.specs.Code.Walks.{next, stepped, walked, missing}
use Rattle.cad_stop_points.specs.declared.walk.Walk.{Walk}
use Rattle.cad_stop_points.specs.declared.walk.Walk.TheVariants.{Missing, Passed}
use Rattle.cad_stop_points.proofs.Turns.{next_item}

pub walked_on : (scope : Scope) (front back : List (List TypeTree)) (walk : Walk) → walked scope (front ++ back) walk ≡ walked scope back (walked scope front walk)
walked_on scope [] back walk = refl
walked_on scope (row ∷ front) back walk = walked_on scope front back (stepped (types_are_there scope row) walk)

-- a walk that has ended stays where it is
ended : (scope : Scope) (rows : List (List TypeTree)) (at : ℕ) → walked scope rows (Missing at) ≡ Missing at
ended scope [] at = refl
ended scope (row ∷ rows) at = ended scope rows at

next_told : (n : ℕ) → next (told n) ≡ told (n + 1)
next_told n = omega arith

pub walked_from : (scope : Scope) (rows : List (List TypeTree)) (n : ℕ)
    → missing (walked scope rows (Passed (told n))) ≡ option_map told (position_from (λ row. not (types_are_there scope row)) n rows)
walked_from scope [] n = refl
walked_from scope (row ∷ rows) n = by (types_are_there scope row) (walked_from scope rows (n + 1))
  where
    by : (q : Bool) → missing (walked scope rows (Passed (told (n + 1)))) ≡ option_map told (position_from (λ r. not (types_are_there scope r)) (n + 1) rows)
        → missing (walked scope rows (stepped q (Passed (told n)))) ≡ option_map told (if not q then Some n else position_from (λ r. not (types_are_there scope r)) (n + 1) rows)
    by true rest = ap (λ m. missing (walked scope rows (Passed m))) (next_told n) ∙ rest
    by false rest = ap missing (ended scope rows (told n))

-- a walk from the start tells the first
pub walked_all : (scope : Scope) (rows : List (List TypeTree)) → missing (walked scope rows (Passed 0)) ≡ option_map told (missing_row scope rows)
walked_all scope rows = walked_from scope rows 0

-- one more statement
pub statements_step : (scope : Scope) (all : List Stmt) (i : ℕ) (s : Stmt) → i < length all → s ≡ get_or all i s → (behind new whole : Walk)
    → new ≡ walked scope (rows_of (stmt_of s)) behind
    → walked scope (rows_of_stmts (stmts_of (map stmt_of (drop i all)))) behind ≡ whole
    → walked scope (rows_of_stmts (stmts_of (map stmt_of (drop (i + 1) all)))) new ≡ whole
statements_step scope all i s inside is behind new whole e so_far =
    ap (λ w. walked scope (rows_of_stmts (stmts_of (map stmt_of (drop (i + 1) all)))) w) e
    ∙ sym (walked_on scope (rows_of (stmt_of s)) (rows_of_stmts (stmts_of (map stmt_of (drop (i + 1) all)))) behind)
    ∙ ap (λ z. walked scope (rows_of_stmts (stmts_of (map stmt_of z))) behind) (sym (next_item all i s inside is))
    ∙ so_far

-- one more case
pub cases_step : (scope : Scope) (all : List Case) (i : ℕ) (x : Case) → i < length all → x ≡ get_or all i x → (behind new whole : Walk)
    → new ≡ walked scope (rows_of_stmts (stmts_of (case_of x).body)) behind
    → walked scope (rows_of_cases (cases_of (map case_of (drop i all)))) behind ≡ whole
    → walked scope (rows_of_cases (cases_of (map case_of (drop (i + 1) all)))) new ≡ whole
cases_step scope all i x inside is behind new whole e so_far =
    ap (λ w. walked scope (rows_of_cases (cases_of (map case_of (drop (i + 1) all)))) w) e
    ∙ sym (walked_on scope (rows_of_stmts (stmts_of (case_of x).body)) (rows_of_cases (cases_of (map case_of (drop (i + 1) all)))) behind)
    ∙ ap (λ z. walked scope (rows_of_cases (cases_of (map case_of z))) behind) (sym (next_item all i x inside is))
    ∙ so_far

-- one more statement of a body
pub body_step : (scope : Scope) (all : List Stmt) (i : ℕ) (s : Stmt) → i < length all → s ≡ get_or all i s → (behind new whole : Walk)
    → new ≡ walked scope (rows_of (stmt_of s)) behind
    → walked scope (rows_of_body (map stmt_of (drop i all))) behind ≡ whole
    → walked scope (rows_of_body (map stmt_of (drop (i + 1) all))) new ≡ whole
body_step scope all i s inside is behind new whole e so_far =
    ap (λ w. walked scope (rows_of_body (map stmt_of (drop (i + 1) all))) w) e
    ∙ sym (walked_on scope (rows_of (stmt_of s)) (rows_of_body (map stmt_of (drop (i + 1) all))) behind)
    ∙ ap (λ z. walked scope (rows_of_body (map stmt_of z)) behind) (sym (next_item all i s inside is))
    ∙ so_far
