use Rattle.std.proofs.Common.{refl, ap, arith, reverse, option_map}
use Rattle.std.proofs.lemmas.Option.{slice_get_read, slice_get_past}
use Rattle.cad_rows.specs.Exchanges.{exchanged}
use Rattle.cad_rows.specs.Views.{pure_row, pure_shape}
use Rattle.cad_state.specs.Views.{state_over, frame_of}
use Rattle.cad_state.specs.Ways.{in_before}
use Rattle.cad_state.specs.declared.hints.Root.TheVariants as root
use Rattle.cad_nodes.proofs.Written.{frames_written, frames_kept, swapped, missed}
use Rattle.cad_nodes.proofs.exchange.swap_in_before.Goals as goal

pub returns-then-i-len : goal.returns-then-i-len
returns-then-i-len c =
    let x = c.args.state.now in
    let i = c.args.i in
    let old = c.index_mut.result.now in
    let g = exchanged c.args.down.now (pure_shape c.args.node.now.shape) (pure_row c.args.node.now.parts.items) in
    swapped (root.Before i) c.args.down.now x _ old.before.items c.args.node.now _
    (ap (option_map (λ y. y.before.items)) (slice_get_read x.calls.items c.len.result i old (omega (arith, c.len.ensures, x.calls.ok.0)) c.if-i-len.true c.index_mut.ensures.value))
    (λ w. ap (λ fs. record (state_over w x) { frames = reverse fs })
    (frames_written (in_before g) x.calls.items i old (record old { before = c.swap_node.new.row }) (omega (arith, c.len.ensures, c.if-i-len.true, x.calls.ok.0)) c.index_mut.ensures.value
    (ap (λ r. record (frame_of old) { before = r }) c.swap_node.ensures.row)))
    c.swap_node.ensures.shape c.swap_node.ensures.parts refl

pub returns-else-i-len : goal.returns-else-i-len
returns-else-i-len c =
    let x = c.args.state.now in
    let i = c.args.i in
    let g = exchanged c.args.down.now (pure_shape c.args.node.now.shape) (pure_row c.args.node.now.parts.items) in
    missed (root.Before i) c.args.down.now x c.args.node.now
    (ap (option_map (λ y. y.before.items)) (slice_get_past x.calls.items i (omega (arith, c.len.ensures, c.if-i-len.false, x.calls.ok.0))))
    (λ w. ap (λ fs. record (state_over w x) { frames = reverse fs }) (frames_kept (in_before g) x.calls.items i (omega (arith, c.len.ensures, c.if-i-len.false, x.calls.ok.0))))
