use Rattle.std.proofs.Common.{ℕ, List, ◌++◌, map, ap, add-one, arith}
use Rattle.cad_world_checks.proofs.KnownAccounts.{index_turn, index_end}
use Rattle.cad_world_checks.specs.Parts.{index_of}
use Rattle.cad_world_checks.proofs.part_summary.indexes_of.Goals as goal

pub loop-one-init : goal.loop-one-init
loop-one-init c = ap (λ (ns : List ℕ). ns ++ map index_of c.args.known.now) c.new-found.ensures

pub loop-one-preserved : goal.loop-one-preserved
loop-one-preserved c = rw add-one (index_turn c.args.known.now c.loop-one.one-index c.one-item.result c.loop-one.found c.push.new.self (omega arith) c.one-item.is c.loop-one.invariant c.in_ok-push.ensures.ok)

pub returns : goal.returns
returns c = index_end c.args.known.now c.loop-one.one-index c.loop-one.found (omega arith) c.loop-one.invariant
