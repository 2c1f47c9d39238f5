-- What is known of declared types where values are judged: of the types that the contracts declare.
use Rattle.std.specs.Prelude.{ℕ, List, [], ◌∷◌, ◌++◌, length, map, filter, filter_map, codes, Option, Some, None, option_map, option_to_list}
use Rattle.std.specs.List.{flat_map}
use Rattle.std.specs.Option.{unwrap_or}
use Rattle.cad_syntax.specs.Types.{PureType}
use Rattle.cad_syntax.specs.declared.kind.Kind.{Kind}
use Rattle.cad_syntax.specs.declared.kind.Kind.TheVariants as k
use Rattle.cad_syntax.specs.declared.text.Name.{Name}
use Rattle.cad_syntax.specs.declared.type_id.TypeId.{TypeId}
use Rattle.cad_declarations.specs.Kinds.{field_type, raw_type}
use Rattle.cad_declarations.specs.Names.{built_in, entitlement_names}
use Rattle.cad_declarations.specs.Tables.{MemberEntry, TypeEntry}
use Rattle.cad_values.specs.Shapes.{Shape, ShapeField, Shapes}
use Rattle.cad_world.specs.State.{Contract}
use Rattle.cad_world.specs.Declared.{is_within, types_of}

-- the one field of a case of an enum
abbrev pub raw_name : Name
raw_name = record { 0 = codes "rawValue" }

abbrev pub shape_field : MemberEntry → Option ShapeField
shape_field m = option_map (λ type. record { name = m.name; is = type }) (field_type m.form)

abbrev pub raw_field : Kind → ShapeField
raw_field kind = record { name = raw_name; is = raw_type kind }

abbrev pub shape_of_entry : TypeEntry → Shape
shape_of_entry entry = record {
  id = entry.id;
  sort = entry.sort;
  fields = filter_map shape_field entry.members ++ map raw_field (option_to_list entry.raw);
  interfaces = entry.interfaces;
  raw = unwrap_or entry.raw k.Int;
  cases = length entry.cases;
}

-- the entitlements that a contract declares
abbrev pub own_entitlements : Contract → List TypeId
own_entitlements c = filter (is_within c.id) c.program.tables.entitlements

-- the declared types, and the entitlements, declared and built in
abbrev pub shapes : List Contract → Shapes
shapes contracts = record {
  types = map shape_of_entry (types_of contracts);
  entitlements = flat_map own_entitlements contracts ++ map built_in entitlement_names;
}
