use Rattle.std.proofs.Common.{refl, subst, sym}
use Rattle.std.specs.Prelude.{Result, Err}
use Rattle.std.specs.declared.alloc.Global.{Global}
use Rattle.std.specs.declared.vec.Vec.{Vec}
use Rattle.cad_installations.specs.Code.Steps.{InstallsOn}
use Rattle.cad_outcomes.specs.declared.stop.Stop.{Stop}
use Rattle.cad_rows.specs.declared.tree.Place.{Place}
use Rattle.cad_state.specs.Views.{contract_of}
use Rattle.cad_installations.proofs.adding.install_on.Goals as goal

pub returns-in-Ok : goal.returns-in-Ok
returns-in-Ok g c =
    subst (λ (a : Result (Vec Place Global) Stop). InstallsOn (g.I.Initializers.calls c.args.by.now) (contract_of c.args.contract) a c.args.state.now c.install.new.state c.install.result) (sym c.in-Ok.is) c.install.ensures

pub returns-in-Err : goal.returns-in-Err
returns-in-Err g c =
    subst (λ (a : Result (Vec Place Global) Stop). InstallsOn (g.I.Initializers.calls c.args.by.now) (contract_of c.args.contract) a c.args.state.now c.args.state.now (Err c.in-Err.stop)) (sym c.in-Err.is) refl
