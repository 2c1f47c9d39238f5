use Rattle.std.proofs.Common.{◌≡◌, ◌+◌, drop, map}
use Rattle.cad_run_accounts.specs.Code.Edits.{place_before}
use Rattle.cad_state.specs.Views.{publication_of}
use Rattle.cad_run_accounts.proofs.publications.place_in.Given as goal

abbrev pub invariant-loop-i : goal.invariant-loop-i
invariant-loop-i l = l.i + place_before l.name (map publication_of (drop l.i l.all)) ≡ place_before l.name (map publication_of l.all)
