use Rattle.std.proofs.Common.{List, ◌++◌, ap, ◌∙◌, add-one, arith}
use Rattle.std.specs.List.{flat_map}
use Rattle.cad_rows.specs.Views.{pure_row}
use Rattle.cad_rows.specs.declared.tree.Place.{Place}
use Rattle.cad_world.specs.Rows.{identities}
use Rattle.cad_worlds.proofs.Sections.{flat_turn, flat_end}
use Rattle.cad_world_checks.specs.Parts.{known_identities}
use Rattle.cad_world_checks.proofs.part_summary.add_known.Goals as goal

pub loop-one-preserved : goal.loop-one-preserved
loop-one-preserved c =
    let all = c.args.found.now ++ flat_map known_identities c.args.known.now in
    rw add-one (flat_turn known_identities c.args.known.now c.loop-one.one-index c.one-item.result c.loop-one.found c.add_row_identities.new.found all (omega arith) c.one-item.is c.loop-one.invariant
    (c.in_ok-add_row_identities.ensures ∙ ap (λ (ps : List Place). c.loop-one.found ++ identities (pure_row ps)) c.as_slice.ensures.value))

pub returns : goal.returns
returns c =
    let all = c.args.found.now ++ flat_map known_identities c.args.known.now in
    flat_end known_identities c.args.known.now c.loop-one.one-index c.loop-one.found all (omega arith) c.loop-one.invariant
