-- What is made of what a call came to.
use Rattle.std.specs.Global.{Box}
use Rattle.std.specs.Prelude.{Result, Ok, Err}
use Rattle.cad_outcomes.specs.declared.stop.Stop.{Stop}
use Rattle.cad_rows.specs.declared.tree.Tree.{Tree}

-- what was given, out of its box
abbrev pub content_of : Result (Box Tree) Stop → Result Tree Stop
content_of (Ok b) = Ok b.value
content_of (Err stop) = Err stop
