-- The bits of a result are no more than those of its parts.
use Rattle.std.proofs.Common.{ℕ, ◌<◌, subst, sym}
use Rattle.cad_syntax.specs.declared.kind.Kind.{Kind}
use Rattle.cad_num.specs.Numbers.{count_of}
use Rattle.cad_num.specs.declared.bitwise.BitOp.TheVariants.{And, Or, Xor}
use Rattle.cad_num.proofs.Outcomes.{bitwise_small}
use Rattle.cad_operators.proofs.words.bits.Goals as goal
use Rattle.cad_operators.proofs.words.bits.Goals.{in-And, in-Or, in-Xor}

pub from_twos_complement-requires : goal.from_twos_complement-requires
from_twos_complement-requires c =
    let x = c.twos_complement-x.result in
    let y = c.twos_complement-y.result in
    let kind = c.args.a.kind in
    let At : Kind → Type 0 = λ k. y < count_of k in
    let first = c.twos_complement-x.ensures.bound in
    let second = subst At (sym c.requires) c.twos_complement-y.ensures.bound in
    let P : ℕ → Type 0 = λ n. n < count_of kind in
    elim c.match-op.branch [
      | in-And w ↦ subst P (sym w.bits-is) (bitwise_small kind And x y first second)
      | in-Or w ↦ subst P (sym w.bits-is) (bitwise_small kind Or x y first second)
      | in-Xor w ↦ subst P (sym w.bits-is) (bitwise_small kind Xor x y first second)
    ]
