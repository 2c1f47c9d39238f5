-- What the program's values are to the definitions.
use Rattle.std.specs.Prelude.{Option, Some, None, option_map, option_copied, List, [], ◌∷◌, map}
use Rattle.cad_syntax.specs.Types.{pure_type}
use Rattle.cad_declarations.specs.Views.{tables_of, member_of, place_of, term_of}
use Rattle.cad_typing.specs.Environments as s
use Rattle.cad_typing.specs.Receivers as r
use Rattle.cad_typing.specs.Names as n
use Rattle.cad_environment.specs.declared.local.Local.{Local}
use Rattle.cad_environment.specs.declared.local.Scopes.{Scopes}
use Rattle.cad_environment.specs.declared.local.Scopes as scopes
use Rattle.cad_environment.specs.declared.environment.Part.{Part}
use Rattle.cad_environment.specs.declared.environment.Part.TheVariants as part
use Rattle.cad_environment.specs.declared.environment.Environment.{Environment}
use Rattle.cad_environment.specs.declared.typing.Position.{Position}
use Rattle.cad_environment.specs.declared.typing.Position.TheVariants as position
use Rattle.cad_environment.specs.declared.typing.Typing.{Typing}
use Rattle.cad_environment.specs.declared.base.Hidden.{Hidden}
use Rattle.cad_environment.specs.declared.base.Receiver.{Receiver}
use Rattle.cad_environment.specs.declared.base.Base.{Base}
use Rattle.cad_environment.specs.declared.base.Base.TheVariants as base
use Rattle.cad_environment.specs.declared.names.Head.{Head}
use Rattle.cad_environment.specs.declared.names.Head.TheVariants as head

-- ---- environments

abbrev pub local_of : Local → s.Local
local_of x = record { number = x.number; name = x.name; type = pure_type x.declared; is_var = x.is_var }

-- the variables of each scope, the innermost scope first
abbrev pub scopes_of : Scopes → List (List s.Local)
scopes_of scopes.Empty = []
scopes_of (scopes.Inside' locals p outer) = map local_of locals.now ∷ scopes_of outer

abbrev pub part_of : Part → s.Part
part_of part.FunctionBody = s.function_body
part_of part.InitializerBody = s.initializer_body
part_of part.PrepareBody = s.prepare_body
part_of part.ExecuteBody = s.execute_body
part_of part.Precondition = s.precondition
part_of (part.Postcondition v) = s.postcondition (option_map (λ x. local_of x.now) v)
part_of part.BeforeValue = s.before_value
part_of part.DefaultArgument = s.default_argument

abbrev pub environment_of : Environment → s.Environment
environment_of x = record {
  tables = tables_of x.known.tables.now;
  within = option_copied x.within;
  transaction_fields = option_map (λ fields. map local_of fields.now) x.transaction_fields;
  part = part_of x.part;
  scopes = scopes_of x.scopes;
  in_use = x.in_use;
  befores = x.befores;
}

abbrev pub position_of : Position → s.Position
position_of position.Ordinary = s.ordinary
position_of position.Moved = s.moved

abbrev pub typing_of : Typing → s.Typing
typing_of x = record { term = term_of x.term; type = pure_type x.declared }

-- ---- what stands before `.`

abbrev pub hidden_of : Hidden → r.Hidden
hidden_of x = record { number = x.number; type = pure_type x.declared; value = term_of x.value }

abbrev pub receiver_of : Receiver → r.Receiver
receiver_of x = record {
  hidden = option_map hidden_of x.hidden;
  place = place_of x.place;
  type = pure_type x.declared;
  grant = x.grant;
}

abbrev pub base_of : Base → r.Base
base_of (base.Value x) = r.value (receiver_of x)
base_of (base.Contract id) = r.contract id
base_of (base.TypeName t) = r.type_name (pure_type t)
base_of base.Transaction = r.transaction
base_of (base.Chained x is_wrapped) = r.chained (receiver_of x) is_wrapped

-- ---- names

abbrev pub head_of : Head → n.Head
head_of (head.Local v) = n.local (local_of v.now)
head_of (head.Function f) = n.function (member_of f.now)
head_of (head.Contract id) = n.contract_head id
head_of (head.Type t) = n.type_head (pure_type t)
head_of (head.Builtin b) = n.builtin_head b
