-- `if let` over a cast: what is made of the place, and then a block.
use Rattle.std.proofs.Common.{◌≡◌, zero, suc, Bool, true, false, Option, Some, None, refl, sym, ◌∙◌}
use Rattle.cad_syntax.specs.Types.{PureType, optional}
use Rattle.cad_declarations.specs.Typed as e
use Rattle.cad_types.specs.Below.{below}
use Rattle.cad_world.specs.Declared.{declarations}
use Rattle.cad_world.specs.Locations.{Location, read}
use Rattle.cad_world.specs.Rows.{Tree}
use Rattle.cad_world.specs.State.{State, Outcome, ok, failed, limit, ill, bind, Action, ◌>>=◌, guard, choose, or_fail, give}
use Rattle.cad_world.specs.OwnTypes.{own_type}
use Rattle.cad_world.specs.Transfers.{transferred}
use Rattle.cad_world.specs.Trees.{wrapped}
use Rattle.cad_evaluation.specs.Changing.{take}
use Rattle.cad_evaluation.specs.Flows.{Flow, if_content, cast_from, if_cast_at}
use Rattle.cad_evaluation.specs.Standing.{Standing, here, led_by, nowhere, is_variable}
use Rattle.cad_standing.proofs.Composing.{bind_bind, bind_same}
use Rattle.cad_standing.specs.CastPlaces.{cast_content, cast_value, cast_place, if_cast}

-- what the block gets
abbrev block : PureType → e.VariableEntry → Action Flow → Action Flow → Tree → Action Flow
block type x body otherwise v = transferred (optional type) (wrapped v) >>= if_content None x body otherwise

-- the value was taken
taken : (type : PureType) (x : e.VariableEntry) (body otherwise : Action Flow) (o : Outcome Tree)
    → bind o (block type x body otherwise) ≡ bind (bind o (cast_content type)) (if_cast x body otherwise)
taken type x body otherwise (ok v s) = sym (bind_bind (transferred (optional type) (wrapped v) s) (λ u. give (Some u)) (if_cast x body otherwise))
taken type x body otherwise (failed n) = refl
taken type x body otherwise limit = refl
taken type x body otherwise ill = refl

-- it is below the type, or it isn't
chosen : (type : PureType) (x : e.VariableEntry) (body otherwise : Action Flow) (p : Action Tree) (b : Bool) (s : State)
    → choose b (p >>= block type x body otherwise) otherwise s ≡ bind (choose b (p >>= cast_content type) (give None) s) (if_cast x body otherwise)
chosen type x body otherwise p true s = taken type x body otherwise (p s)
chosen type x body otherwise p false s = refl

-- it has a type, or leads to what is gone
typed : (type : PureType) (x : e.VariableEntry) (body otherwise : Action Flow) (p : Action Tree) (o : Option PureType) (s : State)
    → or_fail 113 o (λ own s. choose (below (declarations s) own type) (p >>= block type x body otherwise) otherwise s) s
    ≡ bind (or_fail 113 o (λ own s. choose (below (declarations s) own type) (p >>= cast_content type) (give None) s) s) (if_cast x body otherwise)
typed type x body otherwise p None s = refl
typed type x body otherwise p (Some own) s = chosen type x body otherwise p (below (declarations s) own type) s

of_value : (type : PureType) (x : e.VariableEntry) (body otherwise : Action Flow) (place : Location) (t : Option Tree) (s : State)
    → cast_from type place t (block type x body otherwise) otherwise s ≡ (cast_value type place t >>= if_cast x body otherwise) s
of_value type x body otherwise place None s = refl
of_value type x body otherwise place (Some t) s = typed type x body otherwise (take place >>= transferred type) (own_type s t) s

guarded : (type : PureType) (x : e.VariableEntry) (body otherwise : Action Flow) (place : Location) (b : Bool) (s : State)
    → guard b (read place >>= (λ t. cast_from type place t (block type x body otherwise) otherwise)) s
    ≡ bind (guard b (read place >>= cast_value type place) s) (if_cast x body otherwise)
guarded type x body otherwise place true s =
    bind_same (read place s) _ _ (λ t u. of_value type x body otherwise place t u) ∙ sym (bind_bind (read place s) (cast_value type place) (if_cast x body otherwise))
guarded type x body otherwise place false s = refl

pub casts_first : (type : PureType) (x : e.VariableEntry) (body otherwise : Action Flow) (place : Standing) (s : State)
    → if_cast_at type x body otherwise place s ≡ (cast_place type place >>= if_cast x body otherwise) s
casts_first type x body otherwise (here rights place zero) s = guarded type x body otherwise place (is_variable place) s
casts_first type x body otherwise (here rights place (suc n)) s = refl
casts_first type x body otherwise (led_by t) s = refl
casts_first type x body otherwise nowhere s = refl
