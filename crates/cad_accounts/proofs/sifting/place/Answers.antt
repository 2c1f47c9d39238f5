use Rattle.std.proofs.Common.{◌≡◌, ◌-◌, suc, length, arith}
use Rattle.std.proofs.lemmas.Bool.Decides.{nat_tests}
use Rattle.cad_accounts.specs.Code.Places.{entry_key}
use Rattle.cad_accounts.proofs.EntryPlaces.{rising}
use Rattle.cad_accounts.proofs.Order.{behind_last, stands_at}
use Rattle.cad_accounts.proofs.sifting.place.Goals as goal

pub returns-in-Less : goal.returns-in-Less
returns-in-Less c =
    let es = c.args.entries.now in
    let last : suc (length es - 1) ≡ length es = grind (arith, nat_tests) in
    behind_last entry_key es c.args.key.now c.as_slice.result.now (length es - 1) c.index-entries-count.result c.cmp.result (rising es c.requires) last c.as_slice.ensures c.cmp.ensures c.in-Less.is

pub returns-in-Equal : goal.returns-in-Equal
returns-in-Equal c =
    let es = c.args.entries.now in
    stands_at entry_key es c.args.key.now c.as_slice.result.now (length es - 1) c.index-entries-count.result c.cmp.result (grind (arith, nat_tests)) c.as_slice.ensures c.cmp.ensures c.in-Equal.is
