-- A deployment comes to one outcome at most.
use Rattle.std.proofs.Common.{◌≡◌, ℕ, Bool, true, false, List, refl, sym, ◌∙◌, subst}
use Rattle.serde_json.specs.Data.{Data}
use Rattle.cad_contract_shapes.specs.Arguments.{argument_shapes}
use Rattle.cad_command_runs.specs.Passed.{initializer_types, is_contract_of, new_contract}
use Rattle.cad_run_worlds.proofs.Uniqueness.{one_row}
use Rattle.cad_syntax.specs.declared.type_id.TypeId.{TypeId}
use Rattle.cad_run_outcomes.specs.Outcomes.{Outcome}
use Rattle.cad_world.specs.Fronts.{Front}
use Rattle.cad_world.specs.Rows.{Row}
use Rattle.cad_world.specs.State.{Contract, Program, World}
use Rattle.cad_replies.specs.Deployments.{Comes, Ran, OneOutcome, misnamed, unfit, runs}

not_both : (b : Bool) → b ≡ true → b ≡ false → ⊥
not_both b h k = let o : true ≡ false = sym h ∙ k in cc o

module _ (front : Front) (w : World) (p : Program) (id : TypeId) (code : List ℕ) (all : List Data) (units : ℕ) where
  one_run : (c : Contract) (r q : Row) (x y : Outcome) → r ≡ q → Ran front w p c r units x → Ran front w p c q units y → x ≡ y
  one_run c r q x y rows a b = sym (subst (λ (row : Row). Ran front w p c row units x) rows a) ∙ b

  one : (x y : Outcome) → Comes front w p id code all units x → Comes front w p id code all units y → x ≡ y
  one x y (misnamed e) (misnamed f) = refl
  one x y (misnamed e) (unfit f h) = absurd (not_both (is_contract_of id p) f e)
  one x y (misnamed e) (runs f d h r) = absurd (not_both (is_contract_of id p) f e)
  one x y (unfit e h) (misnamed f) = absurd (not_both (is_contract_of id p) e f)
  one x y (unfit e h) (unfit f k) = refl
  one x y (unfit e h) (runs {r = row} f d k r) = absurd (h row k)
  one x y (runs e d h r) (misnamed f) = absurd (not_both (is_contract_of id p) e f)
  one x y (runs {r = row} e d h r) (unfit f k) = absurd (k row h)
  one x y (runs {r = row} e d h r) (runs {r = row'} f d' k q) = one_run (new_contract id code p) row row' x y (one_row (argument_shapes p.tables) d (initializer_types id p) all row row' h k) r q

pub one_outcome : OneOutcome
one_outcome front w p id code all units = one front w p id code all units
