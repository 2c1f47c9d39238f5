-- What the function gives is what the relation says.
use Rattle.std.proofs.Common.{◌≡◌, ◌≤◌, Option, Some, None, option_map, sym, ◌∙◌}
use Rattle.std.specs.Prelude.{Result, Ok, Err, IfOk, IfSome}
use Rattle.std.specs.declared.alloc.AllocError.{AllocError}
use Rattle.serde_json.specs.Data.{Data}
use Rattle.cad_syntax.specs.Types.{PureType}
use Rattle.cad_values.specs.Sizes.{height, most_high}
use Rattle.cad_values.specs.Values.{PureValue, pure_value}
use Rattle.cad_values.specs.declared.value.Value.{Value}
use Rattle.cad_json.specs.Read.{Reads}
use Rattle.cad_shapes.specs.Held.{shapes_of}
use Rattle.cad_shapes.specs.declared.shapes.DeclaredShapes.{DeclaredShapes}
use Rattle.cad_json_read.specs.Judged.{known_of}
use Rattle.cad_json_read.specs.Reading.{value_of}
use Rattle.cad_json_read.proofs.Complete.{found_by}
use Rattle.cad_json_read.proofs.Known.{good}
use Rattle.cad_json_read.proofs.Sound.{sound}

abbrev Gives : DeclaredShapes → PureType → Data → Result (Option Value) AllocError → Type 0
Gives shapes want json result = IfOk result (λ o. option_map pure_value o ≡ value_of (known_of shapes) most_high want json)

pub is_found : (shapes : DeclaredShapes) (want : PureType) (json : Data) (result : Result (Option Value) AllocError) → Gives shapes want json result → IfOk result (λ o. IfSome o (λ value. Reads (shapes_of shapes) want json (pure_value value)))
is_found shapes want json (Ok (Some value)) e = (sound (known_of shapes) (good shapes) most_high want json (pure_value value) (sym e)).0
is_found shapes want json (Ok None) e = tt
is_found shapes want json (Err a) e = tt

pub is_low : (shapes : DeclaredShapes) (want : PureType) (json : Data) (result : Result (Option Value) AllocError) → Gives shapes want json result → IfOk result (λ o. IfSome o (λ value. height (pure_value value) ≤ most_high))
is_low shapes want json (Ok (Some value)) e = (sound (known_of shapes) (good shapes) most_high want json (pure_value value) (sym e)).1
is_low shapes want json (Ok None) e = tt
is_low shapes want json (Err a) e = tt

pub is_only : (shapes : DeclaredShapes) (want : PureType) (json : Data) (result : Result (Option Value) AllocError) → Gives shapes want json result
    → (x : PureValue) → Reads (shapes_of shapes) want json x → height x ≤ most_high → IfOk result (λ o. option_map pure_value o ≡ Some x)
is_only shapes want json (Ok o) e x reads low = e ∙ found_by (known_of shapes) (good shapes) reads most_high low
is_only shapes want json (Err a) e x reads low = tt
