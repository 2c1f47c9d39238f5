use Rattle.std.proofs.Common.{rules}
use Rattle.std.specs.Ordering.{nat_cmp}
use Rattle.std.specs.Cmp.Lexicographic.{slice_cmp}
use Rattle.std.proofs.lemmas.Fn.{always_returns_same}
use Rattle.cad_accounts.specs.Code.Places.{entry_key}
use Rattle.cad_accounts.proofs.EntryPlaces.{rising}
use Rattle.cad_accounts.proofs.Order.{placed}
use Rattle.cad_accounts.proofs.sifting.search.Goals as goal

pub returns : goal.returns
returns c =
    let answers = c.binary_search_by.ensures.position (λ e. slice_cmp nat_cmp e.key.0 c.args.key.now) (always_returns_same _ _ _ (λ a r f called. search rules)) in
    placed entry_key c.args.key.now c.args.entries.now c.binary_search_by.result (rising c.args.entries.now c.requires) c.binary_search_by.ensures.bound answers
