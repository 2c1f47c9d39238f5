use Rattle.std.proofs.Common.{◌+◌, refl, arith}
use Rattle.cad_serve_parts.proofs.PartLaws.{taken_turn, taken_end}
use Rattle.cad_serve_parts.proofs.parts.take_programs.Goals as goal

pub loop-i-init : goal.loop-i-init
loop-i-init c = record { same = c.requires; so_far = refl }

pub loop-i-preserved : goal.loop-i-preserved
loop-i-preserved c =
    taken_turn c.loop-i.i (c.loop-i.i + 1) c.loop-i.contracts.items c.args.contracts.now.items c.args.others.now c.index_mut.result.now c.take_program.new.contract c.index-others-i.result (omega arith)
    (omega (arith, c.loop-i-test.true)) c.loop-i.invariant c.index_mut.ensures.value c.index-others-i.is c.in_ok-take_program.ensures

pub returns : goal.returns
returns c = taken_end c.loop-i.i c.loop-i.contracts.items c.args.contracts.now.items c.args.others.now (omega arith) c.loop-i.invariant
