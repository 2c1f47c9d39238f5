use Rattle.std.proofs.Common.{sym, subst}
use Rattle.cad_store.specs.Stores.{held}
use Rattle.cad_world.specs.State as definition
use Rattle.cad_serve_parts.specs.Code.Worlds.{LeadsOn}
use Rattle.cad_serve_parts.proofs.Results.{if_ok}
use Rattle.cad_serve_parts.proofs.LeftWorlds.{all_left, part_left}
use Rattle.cad_serve_parts.proofs.worlds.run_changes_to.Goals as goal

pub returns-in_ok-changes-in-All : goal.returns-in_ok-changes-in-All
returns-in_ok-changes-in-All c = λ w stands.
    subst (λ (x : definition.World). LeadsOn (held c.args.store.now) x c.in_ok-changes-in-All.changes) (sym (all_left w.accounts c.args.world c.in-All.accounts c.in-All.is)) c.in_ok-changes-in-All.ensures

pub returns-in-Part : goal.returns-in-Part
returns-in-Part c =
    if_ok c.part_changes_to.result
    (λ changes leads w stands. subst (λ (x : definition.World). LeadsOn (held c.args.store.now) x changes) (sym (part_left w.accounts c.args.world c.in-Part.count c.in-Part.known c.in-Part.is)) (leads w stands))
    c.part_changes_to.ensures
