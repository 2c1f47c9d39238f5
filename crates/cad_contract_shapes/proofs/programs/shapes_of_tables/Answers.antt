use Rattle.std.proofs.Common.{◌++◌, List, map, ap, sym, ◌∙◌, subst}
use Rattle.cad_declarations.specs.Names.{built_in, entitlement_names}
use Rattle.cad_declarations.specs.Views.{tables_of, type_entry_of}
use Rattle.cad_declarations.specs.declared.tables.TypeDeclaration.{TypeDeclaration}
use Rattle.cad_shapes.specs.Views.{pure_shape}
use Rattle.cad_syntax.specs.declared.type_id.TypeId.{TypeId}
use Rattle.cad_types.specs.Declarations.{IsClosed}
use Rattle.cad_values.specs.Shapes.{declaration}
use Rattle.cad_world.specs.Shapes.{shape_of_entry}
use Rattle.cad_contract_shapes.specs.Arguments.{argument_shapes}
use Rattle.cad_contract_shapes.proofs.Told.{all_declared_so, distinct_so, held_so}
use Rattle.cad_contract_shapes.proofs.programs.shapes_of_tables.Goals as goal

pub judged-requires : goal.judged-requires
judged-requires c =
    let types = c.in_ok-shapes.ensures ∙ ap (λ (all : List TypeDeclaration). map shape_of_entry (map type_entry_of all)) c.as_slice.ensures in
    subst IsClosed (sym (ap (map declaration) types ∙ all_declared_so (map type_entry_of c.args.tables.now.types))) c.args.tables.now.closed

pub returns-clause-shapes : goal.returns-clause-shapes
returns-clause-shapes c =
    let types = c.in_ok-shapes.ensures ∙ ap (λ (all : List TypeDeclaration). map shape_of_entry (map type_entry_of all)) c.as_slice.ensures in
    let ids = c.in_ok-entitlements.ensures ∙ ap (λ (all : List TypeId). all ++ map built_in entitlement_names) c.as_slice-2.ensures in
    held_so c.judged.result (map pure_shape c.in_ok-shapes.shapes.items) c.in_ok-entitlements.entitlements (argument_shapes (tables_of c.args.tables.now)) types ids c.judged.ensures

pub returns-clause-distinct : goal.returns-clause-distinct
returns-clause-distinct c =
    let types = c.in_ok-shapes.ensures ∙ ap (λ (all : List TypeDeclaration). map shape_of_entry (map type_entry_of all)) c.as_slice.ensures in
    let ids = c.in_ok-entitlements.ensures ∙ ap (λ (all : List TypeId). all ++ map built_in entitlement_names) c.as_slice-2.ensures in
    distinct_so c.judged.result (tables_of c.args.tables.now)
    (held_so c.judged.result (map pure_shape c.in_ok-shapes.shapes.items) c.in_ok-entitlements.entitlements (argument_shapes (tables_of c.args.tables.now)) types ids c.judged.ensures)
