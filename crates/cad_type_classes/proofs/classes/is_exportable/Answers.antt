use Rattle.std.proofs.Common.{[], ◌∙◌, sym, ap}
use Rattle.cad_syntax.specs.Types.{pure_type}
use Rattle.cad_types.specs.Views.{declarations}
use Rattle.cad_type_classes.specs.Classes.{is_exportable_beside}
use Rattle.cad_type_classes.proofs.Alone.{exportable_alone}
use Rattle.cad_type_classes.proofs.Exportable.{exportable_is, unexportable}
use Rattle.cad_type_classes.proofs.classes.is_exportable.Goals as goal

pub returns : goal.returns
returns c =
    let d = declarations c.args.types.now in
    let t = pure_type c.args.t.now in
    let nots = c.as_slice.result.now in
    exportable_is d t c.is_exportable_but-2.result nots c.as_slice-2.result.now c.in_ok-ids.ids
    (c.as_slice.ensures ∙ c.in_ok-unimportable.ensures) (c.as_slice-2.ensures ∙ sym c.as_slice.ensures) c.in_ok-ids.ensures
    (c.is_exportable_but-2.ensures ∙ ap (λ ids. is_exportable_beside d c.as_slice-2.result.now ids t) c.as_slice-3.ensures)

pub returns-then-has_no_declared_part : goal.returns-then-has_no_declared_part
returns-then-has_no_declared_part c =
    let alone = sym c.has_no_declared_part.ensures ∙ c.if-has_no_declared_part.true in
    c.is_exportable_but.ensures ∙ exportable_alone (declarations c.args.types.now) [] [] (pure_type c.args.t.now) alone
