use Rattle.std.proofs.Common.{List, ◌++◌, ap, ◌∙◌, add-one, arith}
use Rattle.std.specs.List.{flat_map}
use Rattle.cad_rows.specs.Views.{pure_row}
use Rattle.cad_rows.specs.declared.tree.Place.{Place}
use Rattle.cad_world.specs.Rows.{identities}
use Rattle.cad_worlds.proofs.Sections.{flat_turn, flat_end}
use Rattle.cad_world_checks.specs.Identities.{stored_identities}
use Rattle.cad_world_checks.proofs.identities.add_stored.Goals as goal

pub loop-account-preserved : goal.loop-account-preserved
loop-account-preserved c =
    let all = c.args.found.now ++ flat_map stored_identities c.args.accounts.now in
    rw add-one (flat_turn stored_identities c.args.accounts.now c.loop-account.account-index c.account-item.result c.loop-account.found c.add_row_identities.new.found all (omega arith) c.account-item.is c.loop-account.invariant
    (c.in_ok-add_row_identities.ensures ∙ ap (λ (ps : List Place). c.loop-account.found ++ identities (pure_row ps)) c.as_slice.ensures.value))

pub returns : goal.returns
returns c =
    let all = c.args.found.now ++ flat_map stored_identities c.args.accounts.now in
    flat_end stored_identities c.args.accounts.now c.loop-account.account-index c.loop-account.found all (omega arith) c.loop-account.invariant
