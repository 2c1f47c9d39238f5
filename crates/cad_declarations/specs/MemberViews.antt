-- The members and declared types that values of the program are.
use Rattle.std.specs.Prelude.{option_map, map}
use Rattle.cad_syntax.specs.Types.{pure_type}
use Rattle.cad_declarations.specs.Tables as t
use Rattle.cad_declarations.specs.declared.member.Parameter.{Parameter}
use Rattle.cad_declarations.specs.declared.member.Signature.{Signature}
use Rattle.cad_declarations.specs.declared.member.Member.{Member}
use Rattle.cad_declarations.specs.declared.member.MemberKind.{MemberKind}
use Rattle.cad_declarations.specs.declared.member.MemberKind.TheVariants as kind
use Rattle.cad_declarations.specs.declared.tables.TypeDeclaration.{TypeDeclaration}
use Rattle.cad_declarations.specs.declared.tables.MappingDeclaration.{MappingDeclaration}

abbrev pub parameter_of : Parameter → t.ParameterType
parameter_of x = record { label = x.label; name = x.name; type = pure_type x.declared }

abbrev pub signature_of : Signature → t.SignatureType
signature_of x = record { is_view = x.is_view; parameters = map parameter_of x.parameters.items; result = pure_type x.result }

abbrev pub form_of : MemberKind → t.MemberForm
form_of (kind.Field k declared) = t.field k (pure_type declared)
form_of (kind.Function signature has_body) = t.function (signature_of signature) has_body

abbrev pub member_of : Member → t.MemberEntry
member_of x = record { name = x.name; access = x.access; declared_by = x.declared_by; form = form_of x.kind }

abbrev pub type_entry_of : TypeDeclaration → t.TypeEntry
type_entry_of x = record {
  id = x.id;
  sort = x.sort;
  parents = x.parents;
  interfaces = x.interfaces;
  members = map member_of x.members.items;
  initializer = option_map signature_of x.initializer;
  cases = x.cases;
  raw = x.raw;
}

abbrev pub mapping_entry_of : MappingDeclaration → t.MappingEntry
mapping_entry_of x = record { id = x.id; mapping = x.mapping }
