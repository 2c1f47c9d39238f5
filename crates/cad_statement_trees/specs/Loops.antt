-- The variables of a `for`, and the `for` that they make.
use Rattle.std.specs.Prelude.{not, ◌&&◌, Option, Some, option_map}
use Rattle.cad_syntax.specs.Types.{PureType}
use Rattle.cad_syntax.specs.declared.text.Name.{Name}
use Rattle.cad_types.specs.Declarations.{resource}
use Rattle.cad_environment.specs.Views.{local_of}
use Rattle.cad_typing.specs.Environments.{Environment, Local, Typing, kinds, when, ◌>=>◌}
use Rattle.cad_typing.specs.StatementForms.{ForTyping, differs, element_local, index_local}
use Rattle.cad_typing.specs.Types.{element_type}
use Rattle.cad_statement_parts.specs.declared.elements.ForVariables.{ForVariables}

-- the variable of the index, and that of the element
abbrev pub for_variables_of : ForVariables → (Option Local) × Local
for_variables_of x = (option_map local_of x.index, local_of x.element)

-- the variables of a `for` over elements of a type, where it may go over them
abbrev pub variables_over : Environment → Option Name → Name → PureType → Option ((Option Local) × Local)
variables_over env index name t = element_type t >=> (λ u.
    when (differs name index && not (resource (kinds env) u))
    (Some (option_map (index_local env) index, element_local env index name u)))

-- a `for` over a value with these variables
abbrev pub for_with : Typing → (Option Local) × Local → ForTyping
for_with x v = record { index = v.0; element = v.1; array = x.term; type = x.type }
