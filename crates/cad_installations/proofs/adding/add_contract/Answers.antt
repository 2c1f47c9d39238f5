use Rattle.std.proofs.Common.{◌∙◌, ap, sym}
use Rattle.std.specs.Prelude.{map}
use Rattle.cad_evaluation.specs.Adding.{is_taken}
use Rattle.cad_installations.proofs.Added.{name_free, name_taken}
use Rattle.cad_rows.specs.Views.{pure_row}
use Rattle.cad_state.specs.Views.{contract_of}
use Rattle.cad_installations.proofs.adding.add_contract.Goals as goal

pub returns-then-is_taken : goal.returns-then-is_taken
returns-then-is_taken g c =
    name_taken (g.E.FrontEnd.front c.args.end.now) (g.I.Initializers.calls c.args.by.now) c.args.id c.args.code (pure_row c.args.row.items) c.args.state.now c.args.state.now
    (ap (λ l. is_taken (map contract_of l) c.args.id) (sym c.as_slice.ensures.value) ∙ sym c.is_taken.ensures ∙ c.if-is_taken.true)

pub returns : goal.returns
returns g c =
    name_free (g.E.FrontEnd.front c.args.end.now) (g.I.Initializers.calls c.args.by.now) c.args.id c.args.code (pure_row c.args.row.items) c.args.state.now c.install_code.new.state c.install_code.result
    (ap (λ l. is_taken (map contract_of l) c.args.id) (sym c.as_slice.ensures.value) ∙ sym c.is_taken.ensures ∙ c.if-is_taken.false) c.install_code.ensures
