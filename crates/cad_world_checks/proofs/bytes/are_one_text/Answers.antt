use Rattle.std.proofs.Common.{subst, arith}
use Rattle.std.specs.Str.{IsUtf8}
use Rattle.cad_worlds.specs.Standing.{AreOneText}
use Rattle.cad_world_checks.proofs.ReadBack.{one_text, text_so}
use Rattle.cad_world_checks.proofs.Soundness.{never}
use Rattle.cad_world_checks.proofs.bytes.are_one_text.Goals as goal

pub returns-in-len1 : goal.returns-in-len1
returns-in-len1 c = text_so c.args.names.now c.name-item.result (omega arith) c.name-item.is (subst IsUtf8 c.as_str-text.ensures c.as_str-text.utf8)

pub returns-in_default : goal.returns-in_default
returns-in_default c = never {P = AreOneText c.args.names.now} (λ t. let one = one_text c.args.names.now t in omega (arith, one))

pub returns-in_default-2 : goal.returns-in_default-2
returns-in_default-2 c = never {P = AreOneText c.args.names.now} (λ t. let one = one_text c.args.names.now t in omega (arith, one, c.in_default.len_at_least))
