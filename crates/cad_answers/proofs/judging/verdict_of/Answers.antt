use Rattle.std.proofs.Common.{List, IfOk, subst}
use Rattle.std.specs.Prelude.{map}
use Rattle.cad_fronts.specs.Passed.{TextVerdict}
use Rattle.cad_loads.specs.Loads.{entries_of, loaded_of}
use Rattle.cad_state.specs.Views.{contract_of}
use Rattle.cad_state.specs.declared.state.Contract.{Contract}
use Rattle.cad_answers.proofs.judging.verdict_of.Goals as goal

-- the contracts that were listed are those of the World (`as_slice`)
pub returns : goal.returns
returns c =
    subst (λ (all : List Contract). IfOk c.verdict_beside.result (λ verdict. TextVerdict (entries_of (map loaded_of (map contract_of all))) c.args.place c.args.code.now verdict)) c.as_slice-contracts.ensures.value c.verdict_beside.ensures
