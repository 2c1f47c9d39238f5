use Rattle.std.proofs.Common.{rules, refl, ◌≡◌, ◌≤◌, ◌/◌, ◌-◌, ◌∷◌, length, min, take, replicate, sym, subst, arith, length-take}
use Rattle.cad_host.specs.Disk.{state, overwritten}
use Rattle.cad_host.specs.Code.Replay.{IsReplayed}
use Rattle.cad_host.specs.Record.{event_of}
use Rattle.cad_host.specs.declared.call.Call.TheVariants.{BrokeWrite}
use Rattle.cad_host.proofs.Images.{same_refl_of}
use Rattle.cad_host.proofs.Replayed.{replay_wrote, replay_broke, replay_still}
use Rattle.cad_host.proofs.replay.replay_call.Goals as goal

pub returns-in_ok-overwrite-in-Wrote-2 : goal.returns-in_ok-overwrite-in-Wrote-2
returns-in_ok-overwrite-in-Wrote-2 c = λ m replayed.
    let same : c.in-Wrote.of ≡ c.args.tape = search rules in
    let filling : c.in_ok-filling-in-Wrote.filling.items ≡ replicate (length c.in-Wrote.bytes.items) c.args.fill = search rules in
    let reads : c.overwrite-then-eq.new.held.items ≡ overwritten c.args.reads.now.items (min c.in-Wrote.at (length c.args.reads.now.items)) c.in-Wrote.bytes.items = search rules in
    let image : c.overwrite.new.held.items ≡ overwritten c.args.image.now.items (min c.in-Wrote.at (length c.args.image.now.items)) c.in_ok-filling-in-Wrote.filling.items = search rules in
    subst (λ e. IsReplayed c.args.fill (state c.args.tape (event_of e m ∷ m)) c.overwrite-then-eq.new.held.items c.overwrite.new.held.items) (sym c.in-Wrote.is)
    (replay_wrote c.args.fill c.in-Wrote.of c.args.tape c.in-Wrote.at c.in-Wrote.bytes.items c.in_ok-filling-in-Wrote.filling.items (state c.args.tape m) c.args.reads.now.items c.args.image.now.items _ _
    (same_refl_of c.in-Wrote.of c.args.tape same) replayed filling reads image)

pub returns-in_ok-overwrite-in-BrokeWrite-2 : goal.returns-in_ok-overwrite-in-BrokeWrite-2
returns-in_ok-overwrite-in-BrokeWrite-2 c = λ m replayed.
    let bytes = c.in-BrokeWrite.bytes.items in
    let front = take (length bytes / 2) bytes in
    let same : c.in-BrokeWrite.of ≡ c.args.tape = search rules in
    let few : length front ≤ length bytes = omega (arith, length-take (length bytes / 2) bytes) in
    let reads : c.overwrite-then-eq-2.new.held.items ≡ overwritten c.args.reads.now.items (min c.in-BrokeWrite.at (length c.args.reads.now.items)) front = search rules in
    let filling : c.in_ok-filling-in-BrokeWrite.filling.items ≡ replicate (min (length bytes) (length c.overwrite-then-eq-2.new.held.items - min c.in-BrokeWrite.at (length c.args.reads.now.items))) c.args.fill = search rules in
    let image : c.overwrite-then-eq-2-2.new.held.items ≡ overwritten c.args.image.now.items (min c.in-BrokeWrite.at (length c.args.image.now.items)) c.in_ok-filling-in-BrokeWrite.filling.items = search rules in
    subst (λ e. IsReplayed c.args.fill (state c.args.tape (event_of e m ∷ m)) c.overwrite-then-eq-2.new.held.items c.overwrite-then-eq-2-2.new.held.items) (sym c.in-BrokeWrite.is)
    (subst (λ t. IsReplayed c.args.fill (state t m) c.args.reads.now.items c.args.image.now.items → IsReplayed c.args.fill (state t (event_of (BrokeWrite c.in-BrokeWrite.of c.in-BrokeWrite.at c.in-BrokeWrite.bytes) m ∷ m)) c.overwrite-then-eq-2.new.held.items c.overwrite-then-eq-2-2.new.held.items) same
    (λ r. replay_broke c.args.fill c.in-BrokeWrite.of c.in-BrokeWrite.of c.in-BrokeWrite.at bytes front c.in_ok-filling-in-BrokeWrite.filling.items (state c.in-BrokeWrite.of m) c.args.reads.now.items c.args.image.now.items _ _
    (same_refl_of c.in-BrokeWrite.of c.in-BrokeWrite.of refl) few r reads filling image) replayed)
