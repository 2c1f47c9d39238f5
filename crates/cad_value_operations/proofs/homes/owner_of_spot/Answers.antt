use Rattle.cad_rows.specs.Views.{pure_tree}
use Rattle.cad_state.specs.Views.{FindsAndCarriesOut}
use Rattle.cad_value_operations.specs.Code.Members.{owner_of}
use Rattle.cad_world.specs.State.{with_some}
use Rattle.std.proofs.Common.{Option, subst, sym, ℕ}
use Rattle.cad_value_operations.proofs.homes.owner_of_spot.Goals as goal

pub returns-in-Some : goal.returns-in-Some
returns-in-Some c =
    subst (λ (o : Option ℕ). FindsAndCarriesOut pure_tree (with_some o owner_of) c.args.state.now c.args.state.now c.owner_of.result) (sym c.in-Some.is) c.owner_of.ensures
