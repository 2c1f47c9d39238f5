use Rattle.std.proofs.Common.{List, ap, ◌∙◌}
use Rattle.cad_syntax.specs.Types.{pure_type}
use Rattle.cad_types.specs.Code.Judged.{exportable_by}
use Rattle.cad_types.specs.Views.{declarations}
use Rattle.cad_types.specs.declared.marks.Marks.{Marks}
use Rattle.cad_types.proofs.Judging.{exportable_tells}
use Rattle.cad_types.proofs.declared_types.DeclaredTypes.is_exportable.Goals as goal

pub returns : goal.returns
returns c =
    let declared_types = c.args.self.now in
    let t = pure_type c.args.t.now in
    let answer = c.is_exportable_by.ensures ∙ ap (λ (ms : List Marks). exportable_by (declarations declared_types) ms t) c.as_slice.ensures.value in
    exportable_tells (declarations declared_types) declared_types.marks.items declared_types.judged c.is_exportable_by.result t answer
