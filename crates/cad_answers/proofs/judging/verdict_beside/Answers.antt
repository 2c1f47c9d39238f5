use Rattle.std.specs.Prelude.{map}
use Rattle.cad_loads.specs.Loads.{entries_of, loaded_of}
use Rattle.cad_state.specs.Views.{contract_of}
use Rattle.cad_answers.proofs.Judgements.{verdict_beside}
use Rattle.cad_answers.proofs.judging.verdict_beside.Goals as goal

pub returns : goal.returns
returns c =
    verdict_beside _ (entries_of (map loaded_of (map contract_of c.args.contracts.now))) c.args.place c.as_bytes.result.now c.args.code.now c.check_text-verdict.result c.in_ok-deployed.ensures c.as_bytes.ensures.value
    c.check_text-verdict.ensures
