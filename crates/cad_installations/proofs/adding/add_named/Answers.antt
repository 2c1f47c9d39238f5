use Rattle.std.proofs.Common.{◌∙◌, ap, subst, sym}
use Rattle.std.specs.Prelude.{option_and_then}
use Rattle.cad_evaluation.specs.Adding.{add_contract}
use Rattle.cad_evaluation.specs.Arguments.{argument}
use Rattle.cad_evaluation.specs.Texts.{bytes_in}
use Rattle.cad_installations.proofs.Added.{with_code, without_code}
use Rattle.cad_rows.specs.Views.{pure_row, pure_tree}
use Rattle.cad_state.specs.Views.{FindsAndCarriesOut}
use Rattle.cad_world.specs.Rows.{Row}
use Rattle.cad_installations.proofs.adding.add_named.Goals as goal

pub returns-in-Ok-Some : goal.returns-in-Ok-Some
returns-in-Ok-Some g c =
    with_code (g.E.FrontEnd.front c.args.end.now) (g.I.Initializers.calls c.args.by.now) c.args.id (pure_row c.args.arguments.items) c.in-Ok-Some.code c.args.state.now c.add_contract.new.state c.add_contract.result
    (sym c.in-Ok-Some.field-0-is ∙ c.in-Ok-Some.ensures ∙ ap (λ l. option_and_then bytes_in (argument 1 (pure_row l))) c.as_slice.ensures.value)
    (subst (λ (r : Row). FindsAndCarriesOut pure_tree (add_contract (g.E.FrontEnd.front c.args.end.now) (g.I.Initializers.calls c.args.by.now) c.args.id c.in-Ok-Some.code r) c.args.state.now c.add_contract.new.state c.add_contract.result) c.further.ensures c.add_contract.ensures)

pub returns-in-Ok-None : goal.returns-in-Ok-None
returns-in-Ok-None g c =
    without_code (g.E.FrontEnd.front c.args.end.now) (g.I.Initializers.calls c.args.by.now) c.args.id (pure_row c.args.arguments.items) c.args.state.now c.args.state.now
    (sym c.in-Ok-None.field-0-is ∙ c.in-Ok-None.ensures ∙ ap (λ l. option_and_then bytes_in (argument 1 (pure_row l))) c.as_slice.ensures.value)
