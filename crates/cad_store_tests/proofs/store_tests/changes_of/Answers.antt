use Rattle.std.proofs.Common.{◌≢◌, List, refl, subst}
use Rattle.std.specs.List.{AllByRecursion}
use Rattle.std.proofs.lemmas.List.Elements.{All-from_recursion}
use Rattle.cad_wire.specs.declared.entry.Entry.{Entry}
use Rattle.cad_accounts.specs.Registers.{applied}
use Rattle.cad_store.specs.Stores.{held}
use Rattle.cad_store_tests.proofs.store_tests.changes_of.Goals as goal

pub returns : goal.returns
returns c =
    let old = held c.args.store.now in
    let all = c.are_two_changes.ensures c.if-not-are_two_changes.false in
    let differ = subst (λ (entries : List Entry). AllByRecursion (λ (e : Entry). old e.key.0 ≢ e.value) entries) c.as_slice.ensures all in (
      applied c.in-Ok.changes old,
      record {
        ascending = c.in-Ok.ensures.found.0.ascending;
        is = λ key. refl;
        differ = All-from_recursion (λ (e : Entry). old e.key.0 ≢ e.value) c.in-Ok.changes differ;
      },
    )
