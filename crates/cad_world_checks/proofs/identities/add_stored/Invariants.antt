use Rattle.std.proofs.Common.{◌≡◌, ◌++◌, drop}
use Rattle.std.specs.List.{flat_map}
use Rattle.cad_world_checks.specs.Identities.{stored_identities}
use Rattle.cad_world_checks.proofs.identities.add_stored.Given as goal

abbrev pub invariant-loop-account : goal.invariant-loop-account
invariant-loop-account l = l.found ++ flat_map stored_identities (drop l.account-index l.accounts) ≡ l.fn.found ++ flat_map stored_identities l.accounts
