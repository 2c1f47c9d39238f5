use Rattle.cad_json_import.proofs.Joined.{one}
use Rattle.cad_json_import.proofs.laws.one_value.Goals as goal

pub returns : goal.returns
returns c = one c.args.shapes.now
