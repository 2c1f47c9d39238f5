-- What a reference of the program is as a value.
use Rattle.std.proofs.Common.{◌≡◌, sym, ap, ◌∙◌}
use Rattle.cad_syntax.specs.Types.{pure_type}
use Rattle.cad_values.specs.Values.{PureValue, PureField, PureEntry, reference, pure_value, value_step, field_step, entry_step}
use Rattle.cad_values.specs.declared.value.Reference.{Reference as Code}
use Rattle.cad_values.specs.declared.value.Value.{Value-F, fold-roll-Value}
use Rattle.cad_values.specs.declared.value.Value.TheVariants as value
use Rattle.cad_values.specs.declared.value.Value.TheVariants.{rolls-Reference}

pub reference_is : (x : Code) → pure_value (value.Reference x) ≡ reference x.authorization (pure_type x.target) x.to
reference_is x = ap pure_value (sym (rolls-Reference x)) ∙ fold-roll-Value PureValue PureField PureEntry value_step field_step entry_step (Value-F.Reference x)
