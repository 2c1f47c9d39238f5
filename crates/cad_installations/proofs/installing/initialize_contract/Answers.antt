use Rattle.std.proofs.Common.{◌∙◌, sym}
use Rattle.cad_installations.proofs.Running.{written, unwritten}
use Rattle.cad_rows.specs.Views.{pure_row}
use Rattle.cad_installations.proofs.installing.initialize_contract.Goals as goal

pub returns-then-has_initializer : goal.returns-then-has_initializer
returns-then-has_initializer g c =
    written (g.I.Initializers.calls c.args.by.now) c.args.id.now c.args.label (pure_row c.args.arguments.items) c.args.state.now c.run_initializer.new.state c.run_initializer.result (λ w. sym c.has_initializer.ensures ∙ c.if-has_initializer.true) c.run_initializer.ensures

pub returns : goal.returns
returns g c = unwritten (g.I.Initializers.calls c.args.by.now) c.args.id.now c.args.label (pure_row c.args.arguments.items) c.args.state.now (λ w. sym c.has_initializer.ensures ∙ c.if-has_initializer.false)
