use Rattle.std.proofs.Common.{List, map, ap, ◌∙◌}
use Rattle.cad_state.specs.Views.{contract_of}
use Rattle.cad_state.specs.declared.state.Contract.{Contract}
use Rattle.cad_world.specs.Shapes.{shapes}
use Rattle.cad_serve_parts.proofs.PartLaws.{not_told, stays_so}
use Rattle.cad_serve_parts.proofs.parts.stays_standing.Goals as goal

pub stays_sound-requires : goal.stays_sound-requires
stays_sound-requires c = c.in_ok-shapes.ensures ∙ ap (λ (cs : List Contract). shapes (map contract_of cs)) c.as_slice-contracts.ensures.value

pub returns-then-not-is_sound : goal.returns-then-not-is_sound
returns-then-not-is_sound c = not_told

pub returns : goal.returns
returns c =
    stays_so c.part_has_bytes.result c.args.before.now c.args.after.now c.in_ok-summary.summary c.in_ok-summary.ensures (c.in_ok-is_sound.ensures c.if-not-is_sound.false) c.part_has_bytes.ensures
