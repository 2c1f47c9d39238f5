-- Functions are those of what is in scope in them.
use Rattle.std.proofs.Common.{◌≡◌, refl, sym, ◌∙◌, ap, ℕ, List, [], ◌∷◌}
use Rattle.std.specs.Prelude.{Option, Some, None, Result, Ok, Err, length}
use Rattle.std.specs.Result.{IfOk}
use Rattle.cad_syntax.specs.Types.{PureType}
use Rattle.cad_declarations.specs.Kinds.{kinds_of, scope_of}
use Rattle.cad_declarations.specs.Tables.{ProgramTables}
use Rattle.cad_typing.specs.Environments.{Local}
use Rattle.cad_typing.specs.Functions.{Routine, routine_locals, routine_result, result_local, number_behind, type_parts}
use Rattle.cad_routines.specs.Code.Parts.{parts_at, parts_in, behind}

-- a function with what is in scope in it
pub function_parts : (tables : ProgramTables) (r : Routine) (locals : List Local) (t : PureType)
    → locals ≡ routine_locals (scope_of tables) r → t ≡ routine_result (scope_of tables) r → parts_in tables r locals t ≡ type_parts tables r
function_parts tables r locals t h i =
    ap (λ z. parts_in tables r z t) h ∙ ap (λ z. parts_in tables r (routine_locals (scope_of tables) r) z) i

-- the same with the numbers and the variable of its result
pub numbered_parts : (tables : ProgramTables) (r : Routine) (locals : List Local) (t : PureType) (v : Option Local) (count after : ℕ)
    → v ≡ result_local (kinds_of tables) (length r.parameters) t → count ≡ length r.parameters → after ≡ number_behind count v
    → parts_at tables r (locals ∷ []) locals t v count after ≡ parts_in tables r locals t
numbered_parts tables r locals t v count after j k m =
    ap (λ z. parts_at tables r (locals ∷ []) locals t v count z) m
    ∙ ap (λ z. parts_at tables r (locals ∷ []) locals t v z (number_behind z v)) k
    ∙ ap (λ z. parts_at tables r (locals ∷ []) locals t z (length r.parameters) (number_behind (length r.parameters) z)) j

-- what is there, if there is memory, along an equation
pub along : {A B E : Type 0} (r : Result A E) (view : A → B) (a b : B) → IfOk r (λ o. view o ≡ a) → a ≡ b → IfOk r (λ o. view o ≡ b)
along (Ok o) view a b h e = h ∙ e
along (Err x) view a b h e = tt

-- behind nothing
pub behind_nothing : {Y : Type 0} (more : Option (List Y)) → behind [] more ≡ more
behind_nothing None = refl
behind_nothing (Some ys) = refl
