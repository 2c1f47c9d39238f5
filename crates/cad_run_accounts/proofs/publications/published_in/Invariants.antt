use Rattle.std.proofs.Common.{◌≡◌, drop, map}
use Rattle.std.specs.Prelude.{find}
use Rattle.cad_declarations.specs.Names.{same_name}
use Rattle.cad_state.specs.Views.{publication_of}
use Rattle.cad_run_accounts.proofs.publications.published_in.Given as goal

abbrev pub invariant-loop-publication : goal.invariant-loop-publication
invariant-loop-publication l = find (λ p. same_name p.identifier l.name) (map publication_of (drop l.publication-index l.all)) ≡ find (λ p. same_name p.identifier l.name) (map publication_of l.all)
