use Rattle.cad_run_accounts.proofs.Homes.{NotBefore}
use Rattle.cad_run_accounts.proofs.home_search.home_in_accounts.Given as goal

abbrev pub invariant-loop-n : goal.invariant-loop-n
invariant-loop-n l = NotBefore l.label l.state l.n
