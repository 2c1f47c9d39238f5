use Rattle.cad_evaluation.specs.Storage.{borrowed_as}
use Rattle.cad_rows.specs.Views.{pure_tree}
use Rattle.cad_state.proofs.Finding.{find_same}
use Rattle.cad_state.specs.Views.{state_over}
use Rattle.cad_storage.proofs.StorageLaws.{borrowed_so}
use Rattle.cad_storage.specs.Code.{at_stored, referred, typed}
use Rattle.cad_syntax.specs.Types.{pure_type, reference}
use Rattle.cad_syntax.specs.declared.types.CadType.{CadType}
use Rattle.cad_world.specs.Labels.{stored_slot}
use Rattle.std.proofs.Common.{ap, sym, ◌∙◌}
use Rattle.cad_storage.proofs.borrows.borrow_at.Goals as goal

pub returns-in-Reference : goal.returns-in-Reference
returns-in-Reference c = let x = c.args.state.now in
    let a = c.args.address in
    let n = c.args.name.now in
    let own = c.in-Reference.own in
    let type = pure_type c.deref.result.now in
    find_same pure_tree (at_stored (borrowed_as a n (pure_type c.args.wanted.now)) a n) (at_stored (typed type (referred a n own type)) a n) x c.refer.new.state c.refer.result
    (λ w ready.
    let s = state_over w x in
    let slot = stored_slot s a.0 n in
    ap (λ (t : CadType). borrowed_as a n (pure_type t) slot s) c.in-Reference.is ∙ ap (λ (t : CadType). borrowed_as a n (reference own (pure_type t)) slot s) (sym c.deref.ensures) ∙ borrowed_so a n own type slot s)
    c.refer.ensures
