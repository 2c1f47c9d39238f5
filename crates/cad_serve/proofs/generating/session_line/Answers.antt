use Rattle.std.proofs.lemmas.Result.{IfOk-weaker}
use Rattle.cad_world.specs.Begin.{empty_world}
use Rattle.cad_serve.proofs.generating.session_line.Goals as goal

pub add_all-requires-clause-sound : goal.add_all-requires-clause-sound
add_all-requires-clause-sound c = (empty_world, c.in_ok-store.ensures.stands)

pub returns : goal.returns
returns c =
    let h = c.in_ok-counts.ensures.ran empty_world c.in_ok-store.ensures.stands in
    IfOk-weaker c.line.result _ _
    (λ line is. record { answers = h.answers; world = h.world; are = h.are; is = is h.answers h.world h.counted (c.in_ok-live.ensures h.world h.stands) })
    c.line.ensures
