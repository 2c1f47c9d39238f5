use Rattle.std.proofs.Common.{ℕ, arith, subst}
use Rattle.std.proofs.lemmas.List.{get_or_read}
use Rattle.cad_keys.specs.Code.Indices.{IsShifted}
use Rattle.cad_keys.proofs.Changes.{shift_begins, shift_turns, shift_ends}
use Rattle.cad_keys.proofs.index.shift_all.Goals as goal

pub loop-i-init : goal.loop-i-init
loop-i-init c = shift_begins c.args.place c.args.link c.args.numbers.now.items

pub loop-i-preserved : goal.loop-i-preserved
loop-i-preserved c =
    let so_far = c.loop-i.invariant in
    let many = so_far.as_many in
    let read = get_or_read {X = ℕ} c.loop-i.numbers.items c.loop-i.i c.index-number.result.now (omega arith) c.index-number.ensures 0 in
    let one = subst (λ (x : ℕ). IsShifted c.args.place c.args.link x c.shifted.result) read c.shifted.ensures in
    shift_turns c.args.place c.args.link c.loop-i.i c.shifted.result c.args.numbers.now.items c.loop-i.numbers.items (omega arith) so_far one

pub returns : goal.returns
returns c =
    let so_far = c.loop-i.invariant in
    let many = so_far.as_many in
    shift_ends c.args.place c.args.link c.loop-i.i c.args.numbers.now.items c.loop-i.numbers.items (omega arith) so_far
