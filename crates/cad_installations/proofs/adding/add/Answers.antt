use Rattle.std.proofs.Common.{◌∙◌}
use Rattle.cad_installations.proofs.Added.{account_nowhere, account_there}
use Rattle.cad_rows.specs.Views.{pure_row}
use Rattle.cad_installations.proofs.adding.add.Goals as goal

pub returns-then-is_account : goal.returns-then-is_account
returns-then-is_account g c =
    account_there (g.E.FrontEnd.front c.args.end.now) (g.I.Initializers.calls c.args.by.now) c.args.address (pure_row c.args.arguments.items) c.args.state.now c.add_there.new.state c.add_there.result
    (λ w. c.is_account.ensures w ∙ c.if-is_account.true) c.add_there.ensures

pub returns : goal.returns
returns g c =
    account_nowhere (g.E.FrontEnd.front c.args.end.now) (g.I.Initializers.calls c.args.by.now) c.args.address (pure_row c.args.arguments.items) c.args.state.now c.args.state.now
    (λ w. c.is_account.ensures w ∙ c.if-is_account.false)
