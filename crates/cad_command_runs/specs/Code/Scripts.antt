-- Steps of a script, each of which a function carries out.
use Rattle.cad_evaluation.specs.Callees.{function, Calls}
use Rattle.cad_syntax.specs.declared.text.Name.{Name}
use Rattle.cad_world.specs.Rows.{Row, Tree}
use Rattle.cad_world.specs.State.{Action, ◌>>◌, tick}

-- a unit, and the call of a function
unfoldable pub called : Calls → Name → Row → Action Tree
called calls name row = tick >> calls (function name) row
