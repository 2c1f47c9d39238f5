use Rattle.std.proofs.Common.{sym, subst}
use Rattle.std.specs.Prelude.{Result}
use Rattle.cad_outcomes.specs.declared.stop.Stop.{Stop}
use Rattle.cad_state.specs.Views.{state_over}
use Rattle.cad_syntax.specs.Types.{pure_type}
use Rattle.cad_containers.specs.Literals.{pure_pair}
use Rattle.cad_containers.specs.Code.Tables.{Adds}
use Rattle.cad_containers.specs.declared.literals.Table.{Table}
use Rattle.cad_containers.proofs.literals.add_next.Goals as goal

pub returns-in-Ok : goal.returns-in-Ok
returns-in-Ok c = λ accounts.
    subst (λ (d : Result Table Stop). Adds (pure_type c.args.t.now) (state_over accounts c.args.state.now) d (pure_pair c.args.pair) c.with_key.result) (sym c.in-Ok.is) (c.with_key.ensures accounts)
