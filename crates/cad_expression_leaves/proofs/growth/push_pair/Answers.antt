use Rattle.std.proofs.Common.{◌∙◌, ap, map}
use Rattle.std.proofs.lemmas.List.{map-append}
use Rattle.cad_members.specs.Passed.{pure_pair}
use Rattle.cad_expression_leaves.specs.Views.{pairs_of}
use Rattle.cad_expression_leaves.proofs.Boxing.{pushed_pair}
use Rattle.cad_expression_leaves.proofs.growth.push_pair.Goals as goal

pub returns-in-Ok : goal.returns-in-Ok
returns-in-Ok c = pushed_pair c.args.key c.args.value c.unboxed-own_key.result c.unboxed-own_value.result (pairs_of c.args.pairs.now) _ c.unboxed-own_key.ensures c.unboxed-own_value.ensures (ap (map pure_pair) c.in-Ok.ensures.items ∙ map-append pure_pair c.args.pairs.now.items _)
