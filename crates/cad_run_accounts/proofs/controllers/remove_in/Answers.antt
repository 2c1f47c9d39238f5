use Rattle.std.proofs.Common.{◌==◌, not, map, ap, ◌∙◌}
use Rattle.std.proofs.lemmas.Fn.{filter_same}
use Rattle.cad_run_accounts.proofs.Orders.{map_filter}
use Rattle.cad_state.specs.Views.{account_of, controller_of}
use Rattle.cad_state.specs.declared.state.Controller.{Controller}
use Rattle.cad_world.specs.State as s
use Rattle.cad_run_accounts.proofs.controllers.remove_in.Goals as goal

pub returns : goal.returns
returns c =
    let n = c.args.n in
    let old = c.args.account.now.controllers.items in
    let is = filter_same _ (λ (x : Controller). not (x.number == n)) _ (λ x b f' called. (called.called.met.1 ∙ ap (λ (y : Controller). not (y.number == n)) called.shows, λ i. record { 0 = called.called.met.0 i })) old c.retain.new.self.items c.retain.ensures.filtered in
    let left = ap (map controller_of) is ∙ map_filter controller_of (λ (x : s.Controller). not (x.number == n)) old in
    λ j. record (account_of c.args.account.now) { controllers = left j }
