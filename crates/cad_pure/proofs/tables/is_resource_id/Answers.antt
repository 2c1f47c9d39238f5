use Rattle.std.proofs.Common.{◌≡◌, ◌∙◌, ap, sym}
use Rattle.cad_declarations.specs.Views.{tables_of}
use Rattle.cad_pure.proofs.Lookups.{resource_by, resource_is}
use Rattle.cad_pure.proofs.tables.is_resource_id.Goals as goal

pub returns-in-None : goal.returns-in-None
returns-in-None c = ap resource_by c.in-None.ensures ∙ sym (resource_is (tables_of c.args.tables.now) c.args.id.now)

pub returns-in-Some : goal.returns-in-Some
returns-in-Some c =
    c.is_resource_sort.ensures ∙ ap resource_by c.in-Some.ensures ∙ sym (resource_is (tables_of c.args.tables.now) c.args.id.now)
