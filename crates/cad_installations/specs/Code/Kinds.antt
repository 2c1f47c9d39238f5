-- What is declared by contracts and one more, which is put behind them and taken out again.
use Rattle.std.specs.Prelude.{◌≡◌, ◌++◌, ◌∷◌, [], List, map, Option, Some, None, Result, Ok, Err}
use Rattle.std.specs.declared.alloc.AllocError.{AllocError}
use Rattle.cad_access.specs.RunContracts.{kinds_among}
use Rattle.cad_outcomes.specs.declared.stop.Stop.{Stop}
use Rattle.cad_outcomes.specs.declared.stop.Stop.TheVariants.{Memory}
use Rattle.cad_state.specs.Views.{contract_of, state_over}
use Rattle.cad_state.specs.declared.state.Contract.{Contract}
use Rattle.cad_state.specs.declared.state.RunState.{RunState}
use Rattle.cad_types.specs.Views.{declarations}
use Rattle.cad_types.specs.declared.declared_types.DeclaredTypes.{DeclaredTypes}
use Rattle.cad_world.specs.State as s

-- the contract with the types that were told
abbrev pub Hands : Contract → Result (Option DeclaredTypes) AllocError → Result (Contract × DeclaredTypes) Stop → Type 0
Hands c (Ok (Some kinds)) r = r ≡ Ok (c, kinds)
Hands c (Ok None) r = r ≡ Err Memory
Hands c (Err error) r = r ≡ Err Memory

-- the last of these contracts is taken out of the state, with the types that all of them declare
abbrev pub AreTold : List s.Contract → RunState → RunState → Result (Contract × DeclaredTypes) Stop → Type 0
AreTold all before after (Ok o) =
    (declarations o.1 ≡ kinds_among all) × (all ≡ map contract_of after.contracts.items ++ contract_of o.0 ∷ [])
    × ((accounts : List s.Account) → state_over accounts after ≡ record (state_over accounts before) { contracts = map contract_of after.contracts.items })
AreTold all before after (Err why) = why ≡ Memory
