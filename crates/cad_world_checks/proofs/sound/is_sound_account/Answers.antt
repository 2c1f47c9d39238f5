use Rattle.std.proofs.Common.{Bool, IsTrue, map, ap, ◌∙◌, arith}
use Rattle.std.specs.Prelude.{◌↔◌}
use Rattle.cad_fits.proofs.Each.{not_so, is_so}
use Rattle.cad_rows.specs.Views.{pure_row}
use Rattle.cad_shapes.specs.Held.{shapes_of}
use Rattle.cad_state.specs.Views.{account_of, controller_of, publication_of}
use Rattle.cad_world.specs.Orders.{rises, name_before}
use Rattle.cad_world.specs.Sound.{AreStored, SoundAccount}
use Rattle.cad_world_checks.proofs.Soundness.{never, refuted, shown, passed, published_known, controlled_known, stored_known, account_sound}
use Rattle.cad_world_checks.proofs.sound.is_sound_account.Goals as goal

pub returns-then-next-lt1 : goal.returns-then-next-lt1
returns-then-next-lt1 c = never {P = SoundAccount (shapes_of c.args.shapes.now) (account_of c.args.account.now)} (λ s. let one = s.from_one in omega (arith, one))

pub returns-then-not-names_rise : goal.returns-then-not-names_rise
returns-then-not-names_rise c =
    let a = account_of c.args.account.now in
    never {P = SoundAccount (shapes_of c.args.shapes.now) a} (λ s. refuted c.names_rise.result (rises name_before a.identifiers) (c.names_rise.ensures ∙ ap (rises name_before) c.as_slice-names.ensures.value) c.if-not-names_rise.true s.identifiers)

pub returns-then-not-is_sound_published : goal.returns-then-not-is_sound_published
returns-then-not-is_sound_published c =
    let a = account_of c.args.account.now in
    let tells = published_known c.is_sound_published.result (shapes_of c.args.shapes.now) (map publication_of c.as_slice-published.result.now) a.published (ap (map publication_of) c.as_slice-published.ensures.value) c.is_sound_published.ensures in
    never {P = SoundAccount (shapes_of c.args.shapes.now) a} (λ s. not_so c.is_sound_published.result tells c.if-not-is_sound_published.true (s.published_rise, s.published))

pub returns-then-not-is_sound_controlled : goal.returns-then-not-is_sound_controlled
returns-then-not-is_sound_controlled c =
    let a = account_of c.args.account.now in
    let tells = controlled_known c.is_sound_controlled.result (shapes_of c.args.shapes.now) a.next_controller (map controller_of c.as_slice-controllers.result.now) a.controllers (ap (map controller_of) c.as_slice-controllers.ensures.value) c.is_sound_controlled.ensures in
    never {P = SoundAccount (shapes_of c.args.shapes.now) a} (λ s. not_so c.is_sound_controlled.result tells c.if-not-is_sound_controlled.true (s.controllers_rise, s.controllers))

pub returns : goal.returns
returns c =
    let a = account_of c.args.account.now in
    let k = shapes_of c.args.shapes.now in
    let published = published_known c.is_sound_published.result k (map publication_of c.as_slice-published.result.now) a.published (ap (map publication_of) c.as_slice-published.ensures.value) c.is_sound_published.ensures in
    let controlled = controlled_known c.is_sound_controlled.result k a.next_controller (map controller_of c.as_slice-controllers.result.now) a.controllers (ap (map controller_of) c.as_slice-controllers.ensures.value) c.is_sound_controlled.ensures in
    passed (λ (b : Bool). IsTrue b ↔ AreStored (shapes_of c.args.shapes.now) c.as_slice-names.result.now (pure_row c.as_slice-places.result.now)) (λ (b : Bool). IsTrue b ↔ SoundAccount (shapes_of c.args.shapes.now) a) c.are_stored.result
    (λ b tells. account_sound b (shapes_of c.args.shapes.now) a (omega arith) (omega arith)
    (shown c.names_rise.result (rises name_before a.identifiers) (c.names_rise.ensures ∙ ap (rises name_before) c.as_slice-names.ensures.value) c.if-not-names_rise.false)
    (is_so c.is_sound_published.result published c.if-not-is_sound_published.false)
    (is_so c.is_sound_controlled.result controlled c.if-not-is_sound_controlled.false)
    (stored_known b (shapes_of c.args.shapes.now) c.as_slice-names.result.now a.identifiers (pure_row c.as_slice-places.result.now) a.stored c.as_slice-names.ensures.value (ap pure_row c.as_slice-places.ensures.value) tells))
    c.are_stored.ensures
