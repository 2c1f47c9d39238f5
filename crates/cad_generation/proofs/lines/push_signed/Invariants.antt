use Rattle.std.proofs.Common.{◌≡◌, ◌++◌, drop, map}
use Rattle.cad_generation.specs.Lines as spec
use Rattle.cad_generation.proofs.lines.push_signed.Given as goal

abbrev pub invariant-loop-signer : goal.invariant-loop-signer
invariant-loop-signer l = l.lines ++ map (spec.signed_line l.code) (drop l.signer-index l.signers) ≡ l.fn.lines ++ map (spec.signed_line l.code) l.fn.signers
