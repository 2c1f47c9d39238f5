use Rattle.std.proofs.Common.{not, map, ap, ◌∙◌}
use Rattle.std.proofs.lemmas.Fn.{filter_same}
use Rattle.cad_declarations.specs.Names.{same_name}
use Rattle.cad_run_accounts.proofs.Orders.{map_filter}
use Rattle.cad_state.specs.Views.{account_of, publication_of}
use Rattle.cad_state.specs.declared.state.Publication.{Publication}
use Rattle.cad_world.specs.State as s
use Rattle.cad_run_accounts.proofs.publications.unpublish_in.Goals as goal

pub returns : goal.returns
returns c =
    let name = c.args.name.now in
    let old = c.args.account.now.published.items in
    let is = filter_same _ (λ (x : Publication). not (same_name x.identifier name)) _ (λ x b f' called. (called.called.met.1 ∙ ap (λ (y : Publication). not (same_name y.identifier name)) called.shows, λ i. record { 0 = called.called.met.0 i })) old c.retain.new.self.items c.retain.ensures.filtered in
    let left = ap (map publication_of) is ∙ map_filter publication_of (λ (x : s.Publication). not (same_name x.identifier name)) old in
    λ j. record (account_of c.args.account.now) { published = left j }
