use Rattle.std.proofs.Common.{List, [], ◌∷◌, ◌++◌, ap, refl, sym, ◌∙◌}
use Rattle.cad_values.specs.declared.value.Value.{Value}
use Rattle.cad_keys.proofs.Kept.{kept_as, kept_none}
use Rattle.cad_keys.proofs.keys.Keys.push.Goals as goal

pub grown-requires : goal.grown-requires
grown-requires c = kept_as c.self.inside.index c.take.result c.self.inside.rows.items c.as_slice.result.now c.self.invariant c.take.ensures.value c.as_slice.ensures.value

pub invariant_of-self : goal.invariant_of-self
invariant_of-self c = kept_none _ c.self.inside.rows.items c.take.ensures.after

pub invariant_of-self-in_err-push : goal.invariant_of-self-in_err-push
invariant_of-self-in_err-push c = kept_none _ _ c.take.ensures.after

pub invariant_of-self-2 : goal.invariant_of-self-2
invariant_of-self-2 c =
    kept_as c.in-Ok.index c.in-Ok.index (c.as_slice.result.now ++ c.args.key ∷ []) _ c.in-Ok.ensures refl
    (c.in_ok-push.ensures.items ∙ ap (λ (xs : List Value). xs ++ c.args.key ∷ []) (sym c.as_slice.ensures.value))
