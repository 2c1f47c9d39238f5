-- Types of parameters and results, by the type on which a member stands and its type argument.
use Rattle.std.specs.Prelude.{ℕ, Option, Some, None, List, [], ◌∷◌}
use Rattle.std.specs.Borrow.{Bor}
use Rattle.cad_syntax.specs.Types.{PureType, basic, optional, array, reference, capability, capability_of}
use Rattle.cad_syntax.specs.declared.types.Authorization.{Authorization}
use Rattle.cad_syntax.specs.declared.types.Authorization.TheVariants as a
use Rattle.cad_types.specs.Declarations.{Declaration}
use Rattle.cad_declarations.specs.Builtins.{BuiltinParameter, fits, any_number_parameter, bytes_type, element_of, key_of, value_of, raw_of, lent_by, own_account}
use Rattle.cad_builtins.specs.declared.forms.TypeForm.{TypeForm}
use Rattle.cad_builtins.specs.declared.forms.TypeForm.TheVariants as form
use Rattle.cad_builtins.specs.declared.forms.ResultForm.{ResultForm}
use Rattle.cad_builtins.specs.declared.forms.ResultForm.TheVariants as outcome
use Rattle.cad_builtins.specs.declared.forms.ParameterRow.{ParameterRow}
use Rattle.cad_builtins.specs.declared.forms.ParameterRows.{ParameterRows}
use Rattle.cad_builtins.specs.declared.forms.ParameterRows.TheVariants as rows

abbrev pub type_by : List Declaration → PureType → PureType → TypeForm → PureType
type_by d on t (form.Plain b) = basic b
type_by d on t form.Bytes = bytes_type
type_by d on t form.On = on
type_by d on t form.Element = element_of on
type_by d on t form.Key = key_of on
type_by d on t form.Value = value_of on
type_by d on t form.Raw = raw_of d on
type_by d on t form.Lent = lent_by on
type_by d on t form.Argument = t
type_by d on t form.Capability = capability

abbrev pub result_by : List Declaration → Authorization → PureType → PureType → ResultForm → PureType
result_by d grant on t (outcome.Bare f) = type_by d on t f
result_by d grant on t (outcome.Optional f) = optional (type_by d on t f)
result_by d grant on t (outcome.ArrayOf f) = array (type_by d on t f)
result_by d grant on t (outcome.CapabilityOf f) = capability_of (type_by d on t f)
result_by d grant on t (outcome.Granted b) = reference grant (basic b)
result_by d grant on t (outcome.Free b) = reference a.Unauthorized (basic b)
result_by d grant on t (outcome.OptionalFree b) = optional (reference a.Unauthorized (basic b))
result_by d grant on t outcome.OwnAccount = own_account

abbrev pub label_of : Option (Bor (List ℕ)) → Option (List ℕ)
label_of None = None
label_of (Some text) = Some text.now

abbrev pub parameter_by : List Declaration → PureType → PureType → ParameterRow → BuiltinParameter
parameter_by d on t row = record { label = label_of row.label; form = fits (type_by d on t row.form) }

abbrev pub parameters_by : List Declaration → PureType → PureType → ParameterRows → List BuiltinParameter
parameters_by d on t rows.NoRow = []
parameters_by d on t rows.AnyNumberRow = any_number_parameter ∷ []
parameters_by d on t (rows.One first) = parameter_by d on t first ∷ []
parameters_by d on t (rows.Two first second) = parameter_by d on t first ∷ parameter_by d on t second ∷ []
