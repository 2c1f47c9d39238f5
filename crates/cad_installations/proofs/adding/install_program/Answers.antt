use Rattle.std.proofs.Common.{◌∙◌, ap, subst, sym}
use Rattle.cad_declarations.specs.declared.program.Checked.{Checked}
use Rattle.cad_evaluation.specs.Adding.{is_contract_of}
use Rattle.cad_installations.proofs.Added.{program_differs, program_fits}
use Rattle.cad_installations.specs.Code.Steps.{installed}
use Rattle.cad_rows.specs.Views.{pure_row, pure_tree}
use Rattle.cad_state.specs.Views.{FindsAndCarriesOut, program_of}
use Rattle.cad_world.specs.State.{Contract}
use Rattle.cad_installations.proofs.adding.install_program.Goals as goal

pub returns-then-not-is_contract_of : goal.returns-then-not-is_contract_of
returns-then-not-is_contract_of g c =
    program_differs (g.I.Initializers.calls c.args.by.now) c.args.id c.args.code (pure_row c.args.row.items) (program_of c.args.checked.value) c.args.state.now c.args.state.now (ap (λ (x : Checked). is_contract_of c.args.id (program_of x)) (sym c.deref.ensures) ∙ sym c.is_contract_of.ensures ∙ c.if-not-is_contract_of.true)

pub returns-in-Ok : goal.returns-in-Ok
returns-in-Ok g c =
    program_fits (g.I.Initializers.calls c.args.by.now) c.args.id c.args.code (pure_row c.args.row.items) (program_of c.args.checked.value) c.args.state.now c.install_contract.new.state c.install_contract.result
    (ap (λ (x : Checked). is_contract_of c.args.id (program_of x)) (sym c.deref.ensures) ∙ sym c.is_contract_of.ensures ∙ c.if-not-is_contract_of.false)
    (subst (λ (d : Contract). FindsAndCarriesOut pure_tree (installed (g.I.Initializers.calls c.args.by.now) d (pure_row c.args.row.items)) c.args.state.now c.install_contract.new.state c.install_contract.result) c.in-Ok.ensures c.install_contract.ensures)
