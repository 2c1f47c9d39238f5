use Rattle.std.proofs.Common.{◌≡◌, ◌++◌, map, drop}
use Rattle.cad_worlds.specs.Sections.{published_of}
use Rattle.cad_worlds.specs.Standing.{register_of}
use Rattle.cad_worlds.proofs.writing.push_published.Given as goal

abbrev pub invariant-loop-publication : goal.invariant-loop-publication
invariant-loop-publication l = map register_of l.rows.items ++ map (published_of l.address) (drop l.publication-index l.published) ≡ map register_of l.fn.rows.items ++ map (published_of l.address) l.published
