use Rattle.cad_calls.proofs.level.LevelCallees.add.Goals as goal

pub returns : goal.returns
returns g c = c.add_contract.ensures
