use Rattle.std.proofs.Common.{◌≡◌, ◌∙◌, ◌+◌, ◌<◌, ◌≤◌, true, List, ℕ, length, ap, subst, sym, arith}
use Rattle.std.specs.List.{insert}
use Rattle.std.proofs.Math.ListN.{set}
use Rattle.std.proofs.lemmas.Grind.{common_steps}
use Rattle.cad_accounts.specs.declared.block.Block.{Block}
use Rattle.cad_accounts.specs.Memory.{block_rows}
use Rattle.cad_accounts.specs.Code.Blocks.{block_from, Cuts}
use Rattle.cad_accounts.specs.KeyOrder.{before}
use Rattle.cad_accounts.proofs.BlockEdits.{same_block}
use Rattle.cad_accounts.proofs.Splitting.{Split, split_so, stored_same, rows_same}
use Rattle.cad_accounts.proofs.Storing.{stored_in}
use Rattle.cad_accounts.proofs.registers.MapRegisters.split_block.Goals as goal

pub split-requires : goal.split-requires
split-requires c =
    let blocks = c.args.self.now.blocks.items in
    let same = same_block blocks c.args.block c.index-then-begins_before.result.now c.index_mut.result.now c.requires.inside c.index-then-begins_before.ensures c.index_mut.ensures.value in
    subst (λ (b : Block). c.cut_at-i.result ≤ length (block_rows b)) same c.cut_at-i.ensures.within

pub overflow_add-block : goal.overflow_add-block
overflow_add-block c = grind (arith, common_steps)

pub insert-requires : goal.insert-requires
insert-requires c = let inside = c.requires.inside in omega (arith, inside, c.args.self.now.blocks.ok.0)

pub returns-in_err-tail-clause-rows : goal.returns-in_err-tail-clause-rows
returns-in_err-tail-clause-rows c =
    rows_same c.args.self.now.blocks.items c.args.block c.index_mut.result.now c.split.new.self c.requires.inside c.index_mut.ensures.value c.split.ensures.from c.in_err-tail.ensures.err

pub invariant_of-self : goal.invariant_of-self
invariant_of-self c =
    let m = c.args.self.now in
    let s = stored_same m.blocks.items c.args.block c.index_mut.result.now c.split.new.self c.requires.inside c.index_mut.ensures.value c.split.ensures.from c.in_err-tail.ensures.err m.count m.size (stored_in m) in
    record { ascending = s.ascending; short = s.short; few = s.few; counted = s.counted; sized = s.sized; parted = s.parted; whole = s.whole }

pub invariant_of-self-then-begins_before : goal.invariant_of-self-then-begins_before
invariant_of-self-then-begins_before c =
    let m = c.args.self.now in
    let blocks = m.blocks.items in
    let b = c.index_mut.result.now in
    let b1 = c.split.new.self in
    let b2 = c.in_ok-tail.tail in
    let first = same_block blocks c.args.block c.index.result.now b c.requires.inside c.index.ensures c.index_mut.ensures.value in
    let second = same_block blocks c.args.block c.index-then-begins_before.result.now b c.requires.inside c.index-then-begins_before.ensures c.index_mut.ensures.value in
    let lt : before (block_from b) c.args.key.0 ≡ true =
    (λ j. before (block_from (sym first j)) (sym c.as_slice.ensures j)) ∙ sym c.begins_before.ensures ∙ c.if-begins_before.true in
    let cuts : Cuts c.args.key.0 (block_rows b) c.cut_at-i.result =
    subst (λ (x : Block). Cuts c.args.key.0 (block_rows x) c.cut_at-i.result) second (subst (λ (k : List ℕ). Cuts k (block_rows c.index-then-begins_before.result.now) c.cut_at-i.result) c.as_slice-then-begins_before.ensures c.cut_at-i.ensures) in
    let new_is : c.insert.new.self.items ≡ insert (set blocks c.args.block b1) (c.args.block + 1) b2 = grind (arith, common_steps) in
    let s : Split blocks c.insert.new.self.items m.count m.size c.args.key.0 =
    split_so blocks c.args.block c.cut_at-i.result m.count m.size b b1 b2 c.args.key.0 (stored_in m) c.requires.inside c.index_mut.ensures.value c.requires.place lt cuts c.split.ensures.from c.in_ok-tail.ensures.front c.in_ok-tail.ensures.start c.in_ok-tail.ensures.back c.in_ok-tail.ensures.room c.insert.new.self.items new_is in
    record { ascending = s.stored.ascending; short = s.stored.short; few = s.stored.few; counted = s.stored.counted; sized = s.stored.sized; parted = s.stored.parted; whole = s.stored.whole }

pub returns-in_ok-tail : goal.returns-in_ok-tail
returns-in_ok-tail c =
    let m = c.args.self.now in
    let blocks = m.blocks.items in
    let b = c.index_mut.result.now in
    let b1 = c.split.new.self in
    let b2 = c.in_ok-tail.tail in
    let first = same_block blocks c.args.block c.index.result.now b c.requires.inside c.index.ensures c.index_mut.ensures.value in
    let second = same_block blocks c.args.block c.index-then-begins_before.result.now b c.requires.inside c.index-then-begins_before.ensures c.index_mut.ensures.value in
    let lt : before (block_from b) c.args.key.0 ≡ true =
    (λ j. before (block_from (sym first j)) (sym c.as_slice.ensures j)) ∙ sym c.begins_before.ensures ∙ c.if-begins_before.true in
    let cuts : Cuts c.args.key.0 (block_rows b) c.cut_at-i.result =
    subst (λ (x : Block). Cuts c.args.key.0 (block_rows x) c.cut_at-i.result) second (subst (λ (k : List ℕ). Cuts k (block_rows c.index-then-begins_before.result.now) c.cut_at-i.result) c.as_slice-then-begins_before.ensures c.cut_at-i.ensures) in
    let new_is : c.insert.new.self.items ≡ insert (set blocks c.args.block b1) (c.args.block + 1) b2 = grind (arith, common_steps) in
    let s : Split blocks c.insert.new.self.items m.count m.size c.args.key.0 =
    split_so blocks c.args.block c.cut_at-i.result m.count m.size b b1 b2 c.args.key.0 (stored_in m) c.requires.inside c.index_mut.ensures.value c.requires.place lt cuts c.split.ensures.from c.in_ok-tail.ensures.front c.in_ok-tail.ensures.start c.in_ok-tail.ensures.back c.in_ok-tail.ensures.room c.insert.new.self.items new_is in
    record { rows = s.rows; some = s.some; ok = s.keeps }
