-- What is asked of the type arguments and the arguments of a built-in member, as values of the program are.
use Rattle.std.specs.Prelude.{List, [], ◌∷◌}
use Rattle.cad_syntax.specs.Types.{pure_type}
use Rattle.cad_declarations.specs.Builtins as t
use Rattle.cad_builtins.specs.declared.parameter.BuiltinParameter.{BuiltinParameter}
use Rattle.cad_builtins.specs.declared.parameter.ParameterForm.{ParameterForm}
use Rattle.cad_builtins.specs.declared.parameter.ParameterForm.TheVariants as form
use Rattle.cad_builtins.specs.declared.parameter.BuiltinParameters.{BuiltinParameters}
use Rattle.cad_builtins.specs.declared.parameter.BuiltinParameters.TheVariants as parameters
use Rattle.cad_builtins.specs.declared.rule.TypeRule.{TypeRule}
use Rattle.cad_builtins.specs.declared.rule.TypeRule.TheVariants as rule

abbrev pub rule_of : TypeRule → t.TypeRule
rule_of rule.NoType = t.no_type
rule_of rule.AnyType = t.any_type
rule_of rule.SavedType = t.saved_type
rule_of rule.StorableType = t.storable_type
rule_of rule.CopiedType = t.copied_type
rule_of rule.ReferenceType = t.reference_type

abbrev pub parameter_form_of : ParameterForm → t.ParameterForm
parameter_form_of (form.Fits u) = t.fits (pure_type u)
parameter_form_of form.AnyNumber = t.any_number

abbrev pub builtin_parameter_of : BuiltinParameter → t.BuiltinParameter
builtin_parameter_of p = record { label = p.label; form = parameter_form_of p.form }

abbrev pub builtin_parameters_of : BuiltinParameters → List t.BuiltinParameter
builtin_parameters_of parameters.Nothing = []
builtin_parameters_of (parameters.One p) = builtin_parameter_of p ∷ []
builtin_parameters_of (parameters.Two p q) = builtin_parameter_of p ∷ builtin_parameter_of q ∷ []
