use Rattle.std.proofs.Common.{◌↔◌, map, drop}
use Rattle.std.specs.List.{AllByRecursion}
use Rattle.cad_state.specs.Views.{publication_of}
use Rattle.cad_world_checks.specs.Checks.{LentHasBytes}
use Rattle.cad_world_checks.proofs.bytes.publications_have_bytes.Given as goal

abbrev pub invariant-loop-publication : goal.invariant-loop-publication
invariant-loop-publication l = AllByRecursion LentHasBytes (map publication_of (drop l.publication-index l.published)) ↔ AllByRecursion LentHasBytes (map publication_of l.published)
