-- Which fields are written once they are set.
use Rattle.std.specs.Prelude.{Bool, false}
use Rattle.cad_declarations.specs.Tables.{MemberForm, field, function}
use Rattle.cad_evaluation.specs.Access.{is_variable}

-- a field that is declared as `var`
abbrev pub is_variable_form : MemberForm → Bool
is_variable_form (field kind type) = is_variable kind
is_variable_form (function signature with_body) = false
