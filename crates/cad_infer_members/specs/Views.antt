-- Members, as values of the program are.
use Rattle.cad_syntax.specs.Types.{pure_type}
use Rattle.cad_declarations.specs.Views.{member_of, use_of}
use Rattle.cad_typing.specs.Fields as f
use Rattle.cad_infer_members.specs.declared.found.Found.{Found}
use Rattle.cad_infer_members.specs.declared.found.Found.TheVariants as found
use Rattle.cad_infer_members.specs.declared.found.Reading.{Reading}

abbrev pub found_view : Found → f.Found
found_view (found.Declared m) = f.declared_member (member_of m.now)
found_view (found.BuiltIn b) = f.built_in_member b

abbrev pub reading_view : Reading → f.Reading
reading_view x = record { usage = use_of x.usage; type = pure_type x.declared }
