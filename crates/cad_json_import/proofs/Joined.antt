-- A value that is read, of its type, is what a JSON stands for.
use Rattle.std.proofs.Common.{◌≡◌, ◌≤◌, List, Bool, true, false, Option, Some, None, option_map, sym, ◌∙◌, subst}
use Rattle.std.specs.Prelude.{IsTrue, ◌↔◌}
use Rattle.serde_json.specs.Data.{Data}
use Rattle.cad_syntax.specs.Types.{PureType}
use Rattle.cad_types.specs.Classes.{Importable}
use Rattle.cad_types.specs.Declarations.{Declaration}
use Rattle.cad_values.specs.Fits.{Fits}
use Rattle.cad_values.specs.Shapes.{Shapes, declarations}
use Rattle.cad_values.specs.Sizes.{height, most_high}
use Rattle.cad_values.specs.Values.{PureValue}
use Rattle.cad_json.specs.Read.{JsonOf, Reads}
use Rattle.cad_shapes.specs.Held.{shapes_of}
use Rattle.cad_shapes.specs.declared.shapes.DeclaredShapes.{DeclaredShapes}
use Rattle.cad_json_read.specs.Judged.{known_of}
use Rattle.cad_json_read.specs.Reading.{value_of}
use Rattle.cad_json_read.proofs.Complete.{found_by}
use Rattle.cad_json_read.proofs.Known.{good}

some_is : {A : Type 0} (a b : A) → Some a ≡ Some b → a ≡ b
some_is a b e = cc

not_so : {P : Type 0} (b : Bool) → (IsTrue b ↔ P) → b ≡ false → P → ⊥
not_so b tells e p = let wrong : true ≡ false = sym (tells.1 p) ∙ e in absurd cc

pub no_type : (k : Shapes) (ds : List Declaration) (want : PureType) (json : Data) (b : Bool) → ds ≡ declarations k → (IsTrue b ↔ Importable ds want) → b ≡ false → (x : PureValue) → JsonOf k want x json → ⊥
no_type k ds want json b same tells e x is = not_so b tells e (subst (λ (w : List Declaration). Importable w want) (sym same) is.importable)

pub importable_so : (k : Shapes) (ds : List Declaration) (want : PureType) (b : Bool) → ds ≡ declarations k → (IsTrue b ↔ Importable ds want) → b ≡ true → Importable (declarations k) want
importable_so k ds want b same tells e = subst (λ (w : List Declaration). Importable w want) same (tells.0 e)

pub no_value : (k : Shapes) (want : PureType) (json : Data) → ((x : PureValue) → Reads k want json x → height x ≤ most_high → None ≡ Some x) → (x : PureValue) → JsonOf k want x json → ⊥
no_value k want json only x is = let wrong = only x is.reads is.low in absurd cc

pub no_fit : (k : Shapes) (want : PureType) (json : Data) (v : PureValue) (b : Bool) → ((x : PureValue) → Reads k want json x → height x ≤ most_high → Some v ≡ Some x) → (IsTrue b ↔ Fits k v want) → b ≡ false → (x : PureValue) → JsonOf k want x json → ⊥
no_fit k want json v b only tells e x is = not_so b tells e (subst (λ (w : PureValue). Fits k w want) (sym (some_is v x (only x is.reads is.low))) is.fits)

pub one : (shapes : DeclaredShapes) (want : PureType) (json : Data) (x y : PureValue) → JsonOf (shapes_of shapes) want x json → JsonOf (shapes_of shapes) want y json → x ≡ y
one shapes want json x y a b = some_is x y (sym (found_by (known_of shapes) (good shapes) a.reads most_high a.low) ∙ found_by (known_of shapes) (good shapes) b.reads most_high b.low)
