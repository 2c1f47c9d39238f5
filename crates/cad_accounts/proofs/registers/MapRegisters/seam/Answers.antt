use Rattle.std.proofs.Common.{◌≡◌, ◌∙◌, ◌⊎◌, true, List, ℕ, ap, subst, sym, arith}
use Rattle.cad_accounts.specs.Memory.{block_at}
use Rattle.cad_accounts.specs.KeyOrder.{before}
use Rattle.cad_accounts.proofs.Blocks.{at_within}
use Rattle.cad_accounts.proofs.registers.MapRegisters.seam.Goals as goal

pub index-requires : goal.index-requires
index-requires c =
    let m = c.args.self.now in
    let is : c.block_of.result ≡ block_at m.blocks.items c.args.key.now.0 = c.block_of.ensures ∙ ap (block_at m.blocks.items) c.as_slice.ensures in
    omega (arith, is, at_within m.blocks.items c.args.key.now.0 c.requires)

pub returns : goal.returns
returns c = subst (λ (k : List ℕ). (before c.args.last.now k ≡ true) ⊎ (k ≡ c.args.key.now.0)) (sym (c.in_ok-bytes.ensures ∙ c.as_slice-2.ensures)) c.in-Some.ensures
