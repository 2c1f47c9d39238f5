use Rattle.std.proofs.Common.{List, ap, refl, sym, ◌∙◌}
use Rattle.std.specs.List.{remove}
use Rattle.cad_values.specs.declared.value.Value.{Value}
use Rattle.cad_keys.proofs.Kept.{kept_as}
use Rattle.cad_keys.proofs.keys.Keys.remove.Goals as goal

pub without-requires : goal.without-requires
without-requires c = record {
  place = rw (c.as_slice.ensures.value, c.self.view_is) c.requires;
  kept = kept_as c.self.inside.index c.take.result c.self.inside.rows.items c.as_slice.result.now c.self.invariant c.take.ensures.value c.as_slice.ensures.value;
}

pub invariant_of-self : goal.invariant_of-self
invariant_of-self c =
    kept_as c.without.result c.without.result (remove c.as_slice.result.now c.args.place) _ c.without.ensures refl
    (c.remove.ensures.items ∙ ap (λ (xs : List Value). remove xs c.args.place) (sym c.as_slice.ensures.value))
