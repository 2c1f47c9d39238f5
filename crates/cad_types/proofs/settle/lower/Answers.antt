use Rattle.std.proofs.Common.{◌≡◌, List, get_or, ◌∙◌, ap, arith}
use Rattle.cad_types.specs.Code.Judged.{kept}
use Rattle.cad_types.specs.Code.Views.{listed}
use Rattle.cad_types.specs.Declarations.{declaration_of}
use Rattle.cad_types.specs.declared.declared.Declared.{Declared}
use Rattle.cad_types.specs.declared.marks.Marks.{Marks}
use Rattle.cad_types.proofs.Judging.{lowered_of}
use Rattle.cad_types.proofs.settle.lower.Goals as goal

pub returns : goal.returns
returns c =
    let k = listed c.args.table.now in
    let ds = c.declared-declared.result.now in
    let d = c.index-declared-place.result in
    let old = c.index.result.now in
    let inside = c.if-place-declared.false in
    let here : old ≡ get_or c.args.marks.now.items c.args.place old = c.index.ensures in
    let is =
    c.kept-new.ensures
    ∙ ap (λ (ms : List Marks). kept k ms (declaration_of d) old) c.as_slice.ensures.value
    ∙ ap (λ (x : Declared). kept k c.args.marks.now.items (declaration_of x) old) c.index-declared-place.is
    ∙ ap (λ (m : Marks). kept k c.args.marks.now.items (declaration_of (get_or ds c.args.place d)) m) here in
    lowered_of k ds c.args.marks.now.items c.args.place c.kept-new.result d old c.declared-declared.ensures (omega (arith, inside)) c.requires is
