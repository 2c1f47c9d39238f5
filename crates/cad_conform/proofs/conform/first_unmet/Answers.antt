use Rattle.std.proofs.Common.{rules, arith, ◌≡◌, ◌∙◌, ap, sym, true, ◌+◌, ◌∷◌, ◌++◌, length, map, take, drop, get_or}
use Rattle.std.proofs.lemmas.List.{take-append-drop, drop_more}
use Rattle.cad_types.specs.Views.{declarations}
use Rattle.cad_declarations.specs.Meets.{Meets, is_own, own_types}
use Rattle.cad_declarations.specs.Views.{type_entry_of}
use Rattle.cad_conform.proofs.Split.{split_at}
use Rattle.cad_conform.proofs.conform.first_unmet.Goals as goal

pub returns-then-not-meets-clause-some : goal.returns-then-not-meets-clause-some
returns-then-not-meets-clause-some c =
    let all = c.args.tables.now.types in
    let i = c.loop-t.t-index in
    let same : length c.as_slice-t-items.result.now ≡ length all = ap length c.as_slice-t-items.ensures in
    let item : c.t-item.result ≡ get_or all i c.t-item.result = search rules in
    let next : drop i all ≡ c.t-item.result ∷ drop (i + 1) all = drop_more all i c.t-item.result (omega (arith, same)) ∙ ap (λ t. t ∷ drop (i + 1) all) (sym item) in
    let parts : all ≡ take i all ++ c.t-item.result ∷ drop (i + 1) all = sym (take-append-drop i all) ∙ ap (λ back. take i all ++ back) next in
    let own : is_own c.args.tables.now.contract (type_entry_of c.t-item.result).id ≡ true = search rules in
    let unmet : Meets (declarations c.args.types.now) (map type_entry_of all) (type_entry_of c.t-item.result) → ⊥ = search rules in
    record {
      before = own_types c.args.tables.now.contract (map type_entry_of (take i all));
      after = own_types c.args.tables.now.contract (map type_entry_of (drop (i + 1) all));
      split = split_at type_entry_of c.args.tables.now.contract all (take i all) (drop (i + 1) all) c.t-item.result parts own;
      met = c.loop-t.invariant;
      unmet = unmet;
    }
