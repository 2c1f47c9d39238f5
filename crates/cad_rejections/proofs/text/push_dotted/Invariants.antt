use Rattle.std.proofs.Common.{◌≡◌, ◌++◌, drop}
use Rattle.cad_rejections.specs.Texts as spec
use Rattle.cad_rejections.proofs.text.push_dotted.Given as goal

abbrev pub invariant-loop-name : goal.invariant-loop-name
invariant-loop-name l = l.text ++ spec.dotted (drop l.name-index l.names) ≡ l.fn.text ++ spec.dotted l.fn.names
