use Rattle.std.proofs.Common.{◌≡◌, ap, rules, Result, Ok, Err}
use Rattle.std.specs.Prelude.{OnOk}
use Rattle.std.specs.Ordering.{nat_cmp, is_lt}
use Rattle.std.specs.Cmp.Lexicographic.{slice_cmp}
use Rattle.std.proofs.lemmas.Cmp.{nat_list_cmp_total}
use Rattle.std.proofs.lemmas.List.MinMax.{ranks_by}
use Rattle.std.proofs.lemmas.List.Sorted.{answers_always}
use Rattle.cad_wire.specs.declared.entry.Entry.{Entry}
use Rattle.cad_accounts.proofs.OneByOne.{by_key, sorted_same}
use Rattle.cad_accounts.proofs.sifting.sort_by_keys.Goals as goal

whenever : {A E P : Type 0} (r : Result A E) → P → OnOk r P
whenever (Ok x) p = p
whenever (Err e) p = tt

pub returns : goal.returns
returns c =
    let stable = c.sort_by.ensures.stable by_key (ranks_by nat_list_cmp_total (λ (e : Entry). e.key.0)) (answers_always _ _ _ (λ f a r g k. let h : r ≡ slice_cmp nat_cmp a.0.now.key.0 a.1.0.now.key.0 = search rules in ap is_lt h)) in
    whenever c.sort_by.result (sorted_same c.args.entries.now.items c.sort_by.new.self.items stable)
