use Rattle.std.proofs.Common.{◌∙◌, ap, sym}
use Rattle.std.specs.Prelude.{option_and_then, option_map}
use Rattle.cad_evaluation.specs.Adding.{contract_named}
use Rattle.cad_evaluation.specs.Arguments.{argument}
use Rattle.cad_evaluation.specs.Texts.{text_in}
use Rattle.cad_installations.proofs.Added.{with_name, without_name}
use Rattle.cad_rows.specs.Views.{pure_row}
use Rattle.cad_installations.proofs.adding.add_there.Goals as goal

pub returns-in-Ok-Some : goal.returns-in-Ok-Some
returns-in-Ok-Some g c =
    with_name (g.E.FrontEnd.front c.args.end.now) (g.I.Initializers.calls c.args.by.now) c.args.address (pure_row c.args.arguments.items) c.in-Ok-Some.id c.args.state.now c.add_named.new.state c.add_named.result
    (sym c.in-Ok-Some.field-0-is ∙ c.in-Ok-Some.ensures ∙ ap (λ l. option_map (contract_named c.args.address) (option_and_then text_in (argument 0 (pure_row l)))) c.as_slice.ensures.value) c.add_named.ensures

pub returns-in-Ok-None : goal.returns-in-Ok-None
returns-in-Ok-None g c =
    without_name (g.E.FrontEnd.front c.args.end.now) (g.I.Initializers.calls c.args.by.now) c.args.address (pure_row c.args.arguments.items) c.args.state.now c.args.state.now
    (sym c.in-Ok-None.field-0-is ∙ c.in-Ok-None.ensures ∙ ap (λ l. option_map (contract_named c.args.address) (option_and_then text_in (argument 0 (pure_row l)))) c.as_slice.ensures.value)
