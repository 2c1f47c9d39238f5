use Rattle.std.proofs.Common.{ℕ, ap, sym}
use Rattle.cad_receivers.specs.Code.Stored.{depth_in, depth_stored}
use Rattle.cad_rows.specs.Places.{pure_slot}
use Rattle.cad_state.proofs.Finding.{find_same}
use Rattle.cad_state.specs.Views.{state_over}
use Rattle.cad_syntax.specs.Types.{pure_type}
use Rattle.cad_receivers.proofs.stored.depth_stored.Goals as goal

pub returns-in-Ok : goal.returns-in-Ok
returns-in-Ok c =
    let wanted = pure_type c.args.wanted.now in
    let x = c.args.state.now in
    find_same (λ (n : ℕ). n) (depth_stored wanted c.args.address.0 c.args.path.now) (depth_in wanted (pure_slot c.in-Ok.slot)) x x c.depth_in.result
    (λ w ready. ap (λ o. depth_in wanted o (state_over w x)) (sym (c.in-Ok.ensures w))) c.depth_in.ensures
