use Rattle.std.proofs.Common.{List, ap, subst, ◌∙◌}
use Rattle.std.specs.Prelude.{None, map}
use Rattle.cad_fronts.specs.Passed.{TextVerdict}
use Rattle.cad_loads.specs.Loads.{entries_of, loaded_of}
use Rattle.cad_state.specs.Views.{contract_of}
use Rattle.cad_world.specs.State.{Contract, World}
use Rattle.cad_serve_parts.proofs.Results.{if_ok}
use Rattle.cad_answers.proofs.judging.run_verdict.Goals as goal

-- the contracts that were listed are those of the World (`as_slice`)
pub returns : goal.returns
returns c =
    if_ok c.verdict_beside.result
    (λ verdict h w is.
    subst (λ (all : List Contract). TextVerdict (entries_of (map loaded_of all)) None c.args.code.now verdict) (ap (map contract_of) c.as_slice-contracts.ensures.value ∙ ap (λ (v : World). v.contracts) is) h)
    c.verdict_beside.ensures
