-- Which shapes lead to controllers.
use Rattle.std.specs.Prelude.{Bool, true, false}
use Rattle.cad_values.specs.Values.{PureValue}
use Rattle.cad_values.specs.Values as v
use Rattle.cad_values.specs.declared.value.Target.{Target}
use Rattle.cad_values.specs.declared.value.Target.TheVariants as to
use Rattle.cad_world.specs.Rows.{NodeShape, plain}

abbrev pub is_controller : Target → Bool
is_controller (to.Controller a n) = true
is_controller _ = false

-- whether what a reference leads to passes
abbrev pub value_leads : (Target → Bool) → PureValue → Bool
value_leads test (v.reference a t target) = test target
value_leads test _ = false

abbrev pub shape_leads : (Target → Bool) → NodeShape → Bool
shape_leads test (plain x) = value_leads test x
shape_leads test _ = false
