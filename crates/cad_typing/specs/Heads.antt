-- Heads of declarations: fields, events and enums.
use Rattle.std.specs.Prelude.{ℕ, suc, Bool, true, false, not, ◌&&◌, Option, Some, None, List, [], length, map, nat_le}
use Rattle.std.specs.List.{list_all}
use Rattle.cad_syntax.specs.Kinds.{greatest}
use Rattle.cad_syntax.specs.Types.{PureType}
use Rattle.cad_syntax.specs.declared.kind.Kind.{Kind}
use Rattle.cad_syntax.specs.declared.type_id.TypeId.{TypeId}
use Rattle.cad_grammar.specs.Trees as s
use Rattle.cad_grammar.specs.declared.declaration.CompositeKind.{CompositeKind}
use Rattle.cad_grammar.specs.declared.declaration.CompositeKind.TheVariants as c
use Rattle.cad_types.specs.Declarations.{resource}
use Rattle.cad_declarations.specs.Entries.{type_entry, raw_kind}
use Rattle.cad_declarations.specs.Kinds.{kinds_of, scope_of}
use Rattle.cad_declarations.specs.Points.{are_new}
use Rattle.cad_declarations.specs.Scopes.{each_of, inside}
use Rattle.cad_declarations.specs.Tables.{ProgramTables}
use Rattle.cad_declarations.specs.Typed as e
use Rattle.cad_typing.specs.Containers.{targeted}
use Rattle.cad_typing.specs.Environments.{Environment, default_argument, ordinary, kinds, when, ◌>=>◌}
use Rattle.cad_typing.specs.Expressions.{infer}
use Rattle.cad_typing.specs.Functions.{is_annotated}
use Rattle.cad_types.specs.Optionals.{fits}
use Rattle.cad_typing.specs.Types.{is_storable, is_exportable}

-- ---- fields

abbrev pub annotated_type : ProgramTables → s.Annotation → PureType
annotated_type tables annotation = type_entry (scope_of tables) annotation.written

-- what a contract has can be stored
abbrev pub contract_field : ProgramTables → s.FieldTree → Bool
contract_field tables x = is_annotated (scope_of tables) x.annotation && is_storable (kinds_of tables) (annotated_type tables x.annotation)

-- a struct, and an interface of structs, has no resources
abbrev pub may_have : CompositeKind → ProgramTables → PureType → Bool
may_have c.Struct tables t = not (resource (kinds_of tables) t)
may_have c.Resource tables t = true

abbrev pub composite_field : CompositeKind → ProgramTables → s.FieldTree → Bool
composite_field kind tables x = is_annotated (scope_of tables) x.annotation && may_have kind tables (annotated_type tables x.annotation)

abbrev pub contract_member_is_right : ProgramTables → s.ContractMemberTree → Bool
contract_member_is_right tables (s.contract_field x) = contract_field tables x
contract_member_is_right tables _ = true

abbrev pub composite_member_is_right : CompositeKind → ProgramTables → s.CompositeMemberTree → Bool
composite_member_is_right kind tables (s.field x) = composite_field kind tables x
composite_member_is_right kind tables _ = true

abbrev pub interface_member_is_right : CompositeKind → ProgramTables → s.InterfaceMemberTree → Bool
interface_member_is_right kind tables (s.interface_field x) = composite_field kind tables x
interface_member_is_right kind tables (s.interface_function x) = true

-- the fields of a declaration count to it
abbrev pub contract_is_right : ProgramTables → List s.ContractMemberTree → Bool
contract_is_right tables all = list_all (contract_member_is_right tables) all

abbrev pub composite_is_right : ProgramTables → s.CompositeTree → Bool
composite_is_right tables x = list_all (composite_member_is_right x.kind tables) x.members

abbrev pub interface_is_right : ProgramTables → s.InterfaceTree → Bool
interface_is_right tables x = list_all (interface_member_is_right x.kind tables) x.members

-- ---- enums

-- the places of the cases, from 0, are numbers of the kind
abbrev pub holds_cases : ℕ → Option Kind → Bool
holds_cases n None = false
holds_cases n (Some kind) = nat_le n (suc (greatest kind))

abbrev pub enum_is_right : ProgramTables → s.EnumTree → Bool
enum_is_right tables x = holds_cases (length x.cases) (raw_kind (type_entry (scope_of tables) (s.named x.raw s.no_annotations)))

-- ---- events

-- a field of an event can be exported, and is no resource
abbrev pub event_field : ProgramTables → s.ParameterTree → Bool
event_field tables p =
    is_annotated (scope_of tables) p.annotation
    && (is_exportable (kinds_of tables) (annotated_type tables p.annotation) && not (resource (kinds_of tables) (annotated_type tables p.annotation)))

abbrev pub event_is_right : ProgramTables → s.EventTree → Bool
event_is_right tables x =
    list_all (λ p. event_field tables p.parameter) x.parameters && are_new [] (map (λ p. p.parameter.name) x.parameters)

-- where the default arguments of `ResourceDestroyed` stand: `self` is the resource
abbrev pub default_environment : ProgramTables → TypeId → Environment
default_environment tables id = record {
  tables = tables;
  within = Some id;
  transaction_fields = None;
  part = default_argument;
  scopes = [];
  in_use = 0;
  befores = 0;
}

abbrev pub default_value : Environment → PureType → Option s.ExprTree → Option e.TargetedTerm
default_value env t None = None
default_value env t (Some a) = infer env ordinary (Some t) a >=> (λ x. when (fits (kinds env) x.type t) (Some (targeted x t)))

-- The default arguments of a resource's event, each of which fits its field.
abbrev pub default_arguments : ProgramTables → TypeId → s.EventTree → Option (List e.TargetedTerm)
default_arguments tables id x =
    each_of (λ p. default_value (default_environment tables id) (annotated_type tables p.parameter.annotation) p.default_value) x.parameters

-- the event of this resource
abbrev pub destroyed_event : ProgramTables → TypeId → s.EventTree → Option e.DestroyedBody
destroyed_event tables id x =
    when (event_is_right tables x) (default_arguments tables id x >=> (λ all. Some (record { event = inside id x.name; arguments = all })))
