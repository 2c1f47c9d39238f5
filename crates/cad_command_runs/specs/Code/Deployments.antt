-- Parts of a deployment, each of which a function carries out.
use Rattle.cad_evaluation.specs.Adding.{install}
use Rattle.cad_evaluation.specs.Callees.{Calls}
use Rattle.cad_evaluation.specs.Ending.{dropped}
use Rattle.cad_world.specs.Rows.{Row, Tree}
use Rattle.cad_world.specs.State.{Contract, Action, ◌>>◌, tick}
use Rattle.cad_world.specs.Storable.{values_last}

-- an entry that is an installation
abbrev pub entered : Calls → Contract → Row → Action Tree
entered calls c r = tick >> install calls c r

-- what was given goes, and what stands in accounts is judged
abbrev pub deploy_ended : Tree → Action (Unit {0})
deploy_ended t = dropped t >> values_last
