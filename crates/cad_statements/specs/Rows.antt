-- What was typed, before what comes.
use Rattle.std.specs.Prelude.{ℕ, Result, Ok, Err, List, [], ◌∷◌, ◌++◌}
use Rattle.cad_declarations.specs.Typed as e
use Rattle.cad_typing.specs.Statements.{◌>>=◌}

-- these statements before others
abbrev pub statements_before : List e.StatementTree → e.Statements → e.Statements
statements_before [] rest = rest
statements_before (x ∷ xs) rest = e.statements x (statements_before xs rest)

-- what was typed stands before what comes
abbrev pub before : List e.StatementTree → Result e.Statements ℕ → Result e.Statements ℕ
before done more = more >>= (λ xs. Ok (statements_before done xs))

-- the same of a row of trees
abbrev pub row_before : {A : Type 0} → List A → Result (List A) ℕ → Result (List A) ℕ
row_before done more = more >>= (λ xs. Ok (done ++ xs))

-- what was typed, where nothing that comes is ill-typed
abbrev pub row_behind : {A U : Type 0} → List A → Result U ℕ → Result (List A) ℕ
row_behind done (Ok x) = Ok done
row_behind done (Err n) = Err n

-- what was typed beside the number behind it, where nothing is ill-typed
abbrev pub with_number : {A : Type 0} → A → Result ℕ ℕ → Result (A × ℕ) ℕ
with_number x (Ok n) = Ok (x, n)
with_number x (Err n) = Err n
