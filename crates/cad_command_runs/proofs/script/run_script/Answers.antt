use Rattle.cad_command_runs.proofs.script.run_script.Goals as goal

pub returns-in-Ok : goal.returns-in-Ok
returns-in-Ok g c = c.run_main.ensures c.in-Ok.ensures
