-- What marks promise beside what cad_paths states of them.
use Rattle.std.specs.Prelude.{◌≡◌, List, [], Option, Some, None, Ok, Bool, true, false}
use Rattle.cad_grammar.specs.Trees.{TransactionTree}
use Rattle.cad_declarations.specs.Tables.{ProgramTables}
use Rattle.cad_declarations.specs.Typed.{FunctionBody, PartBody}
use Rattle.cad_paths.specs.declared.letter.FieldRule.{FieldRule}
use Rattle.cad_paths.specs.declared.letter.Position.{Position}
use Rattle.cad_paths.specs.Paths.{PathBody, loop}
use Rattle.cad_paths.specs.Bodies.{function_letters, transaction_letters, field_letters}
use Rattle.cad_paths.specs.Linear.{Linear}
use Rattle.cad_paths.specs.Initialisation.{Misset}
use Rattle.cad_paths.specs.Marks.{MarkEntry, Leaves, all_say_less, turned, marks}
use Rattle.cad_typing.specs.Functions.{Routine, type_routine}
use Rattle.cad_typing.specs.Transactions.{transaction_body}

-- an elaborated function or initializer whose lives are linear has marks
abbrev pub FunctionsHaveMarks : Type 0
FunctionsHaveMarks = (tables : ProgramTables) (r : Routine) (f : FunctionBody) → type_routine tables r ≡ Ok f → Linear (function_letters f)
    → marks false (function_letters f) [] ≡ None → ⊥

-- and an elaborated transaction
abbrev pub TransactionsHaveMarks : Type 0
TransactionsHaveMarks = (tables : ProgramTables) (x : TransactionTree) → Linear (transaction_letters (transaction_body tables x))
    → marks false (transaction_letters (transaction_body tables x)) [] ≡ None → ⊥

-- what sets its fields on every path, each before it is used and no oftener than it may be, has marks
abbrev pub SetFieldsHaveMarks : Type 0
SetFieldsHaveMarks = (fields : List FieldRule) (body : PartBody) → ((s : Position) → Misset (field_letters fields body) s → ⊥)
    → marks true (field_letters fields body) [] ≡ None → ⊥

-- a turn brings no state that isn't there
abbrev pub IsStable : Option (List MarkEntry) → List MarkEntry → Type 0
IsStable None m = Unit {0}
IsStable (Some n) m = all_say_less n m ≡ true

-- A loop has marks that hold before each turn: they say no less than those before the loop, a turn is allowed from them and
-- brings no others, and what leaves the loop is what leaves such a turn.
abbrev pub LoopsAreStable : Type 0
LoopsAreStable = (fields : Bool) (a : PathBody) (m : List MarkEntry) (l : Leaves) → marks fields (loop a) m ≡ Some l
    → (k : List MarkEntry) × (x : Leaves) × (all_say_less m k ≡ true) × (marks fields a k ≡ Some x) × IsStable x.next k × (l ≡ turned k x)
