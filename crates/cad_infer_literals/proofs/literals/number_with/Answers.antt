use Rattle.std.proofs.Common.{refl}
use Rattle.cad_syntax.specs.Kinds.{is_kept}
use Rattle.cad_infer_literals.proofs.Numbers.{kept_some}
use Rattle.cad_infer_literals.proofs.literals.number_with.Goals as goal

pub returns-then-is_kept : goal.returns-then-is_kept
returns-then-is_kept c = kept_some c.args.kind c.args.negative c.args.magnitude (is_kept c.args.kind c.args.negative c.args.magnitude) refl _
