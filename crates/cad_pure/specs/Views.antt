-- The parts of definitions that values of the program are.
use Rattle.std.specs.Prelude.{Bool, true, false, Option, Some, None}
use Rattle.cad_declarations.specs.Tables.{MemberForm, field, function}
use Rattle.cad_declarations.specs.Views.{tables_of}
use Rattle.cad_paths.specs.Purity as spec
use Rattle.cad_paths.specs.declared.letter.Position.{Position}
use Rattle.cad_moves.specs.declared.misuse.Misuse.{Misuse}
use Rattle.cad_pure.specs.declared.places.ViewBody.{ViewBody}

abbrev pub view_of : ViewBody → spec.ViewBody
view_of v = record { tables = tables_of v.tables.now; own_from = v.own_from; is_initializer = v.is_initializer }

abbrev pub is_field : MemberForm → Bool
is_field (field kind type) = true
is_field (function signature has_body) = false

-- where a field is misused
abbrev pub place_of : Option Misuse → Option Position
place_of None = None
place_of (Some m) = Some m.at
