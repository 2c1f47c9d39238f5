use Rattle.std.specs.Prelude.{Some, None}
use Rattle.cad_installations.proofs.Added.{accepted, code_fails, code_passes}
use Rattle.cad_rows.specs.Views.{pure_row}
use Rattle.cad_state.specs.Views.{program_of}
use Rattle.cad_installations.proofs.adding.install_code.Goals as goal

pub returns-in-Ok-Some : goal.returns-in-Ok-Some
returns-in-Ok-Some g c =
    code_passes (g.E.FrontEnd.front c.args.end.now) (g.I.Initializers.calls c.args.by.now) c.args.id c.args.code (pure_row c.args.row.items) (program_of c.in-Ok-Some.checked.value)
    c.args.state.now c.install_program.new.state c.install_program.result
    (accepted (g.E.FrontEnd.front c.args.end.now) c.args.id c.args.state.now.contracts.items c.as_slice.result.now c.args.code c.as_slice-2.result.now c.in-Ok-Some.field-0 (Some c.in-Ok-Some.checked) c.in-Ok-Some.field-0-is c.as_slice.ensures.value c.as_slice-2.ensures c.in-Ok-Some.ensures)
    c.install_program.ensures

pub returns-in-Ok-None : goal.returns-in-Ok-None
returns-in-Ok-None g c =
    code_fails (g.E.FrontEnd.front c.args.end.now) (g.I.Initializers.calls c.args.by.now) c.args.id c.args.code (pure_row c.args.row.items) c.args.state.now c.args.state.now
    (accepted (g.E.FrontEnd.front c.args.end.now) c.args.id c.args.state.now.contracts.items c.as_slice.result.now c.args.code c.as_slice-2.result.now c.in-Ok-None.field-0 None c.in-Ok-None.field-0-is c.as_slice.ensures.value c.as_slice-2.ensures c.in-Ok-None.ensures)
