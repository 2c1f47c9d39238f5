-- A script has one answer at most.
use Rattle.std.proofs.Common.{◌≡◌, ℕ, List, length, Some, None, refl, sym, ap, ◌∙◌, subst}
use Rattle.std.proofs.lemmas.List.{length-map}
use Rattle.serde_json.specs.Data.{Data}
use Rattle.cad_contract_shapes.specs.Arguments.{argument_shapes}
use Rattle.cad_declarations.specs.Typed.{FunctionBody}
use Rattle.cad_values.specs.Shapes.{Shapes}
use Rattle.cad_runs.specs.Commands.{Reply, main_of, types_of}
use Rattle.cad_world.specs.Fronts.{Front}
use Rattle.cad_world.specs.Rows.{Row}
use Rattle.cad_world.specs.State.{Program, World}
use Rattle.cad_run_worlds.specs.Replies.{AreArguments}
use Rattle.cad_replies.proofs.ScriptRuns.{some_is}
use Rattle.cad_replies.specs.Scripts.{Ran, OneAnswer, no_main, miscounted, unfit, ran}
use Rattle.cad_run_worlds.proofs.Uniqueness.{one_row}
use Rattle.cad_run_worlds.proofs.Turns.{as_many}

-- ---- one answer

one_reply : (front : Front) (w : World) (p : Program) (r q : Row) (units : ℕ) (x y : Reply Data) → r ≡ q → Ran front w p r units x → Ran front w p q units y → x ≡ y
one_reply front w p r q units x y same a b = sym (subst (λ (row : Row). Ran front w p row units x) same a) ∙ b

pub counted : (k : Shapes) (main : FunctionBody) (all : List Data) (r : Row) → AreArguments k (types_of main.parameters) all r → length all ≡ length main.parameters
counted k main all r h = as_many k (types_of main.parameters) all r h ∙ length-map main.parameters (λ x. x.type)

not_both : (p : Program) (main : FunctionBody) → main_of p ≡ None → main_of p ≡ Some main → ⊥
not_both p main e f = absurd cc

same_main : (p : Program) (main other : FunctionBody) → main_of p ≡ Some main → main_of p ≡ Some other → main ≡ other
same_main p main other e f = some_is main other (sym e ∙ f)

-- arguments for one `main` of a program are those for another
rows_as : (p : Program) (main other : FunctionBody) (all : List Data) (r : Row) → main_of p ≡ Some main → main_of p ≡ Some other
    → AreArguments (argument_shapes p.tables) (types_of main.parameters) all r → AreArguments (argument_shapes p.tables) (types_of other.parameters) all r
rows_as p main other all r e f = subst (λ (b : FunctionBody). AreArguments (argument_shapes p.tables) (types_of b.parameters) all r) (same_main p main other e f)

pub one_answer : OneAnswer
one_answer front w p all units x y (no_main e) (no_main f) = refl
one_answer front w p all units x y (no_main e) (miscounted {main = main} f n) = absurd (not_both p main e f)
one_answer front w p all units x y (no_main e) (unfit {main = main} f n h) = absurd (not_both p main e f)
one_answer front w p all units x y (no_main e) (ran {main = main} f d h r) = absurd (not_both p main e f)
one_answer front w p all units x y (miscounted {main = main} f n) (no_main e) = absurd (not_both p main e f)
one_answer front w p all units x y (miscounted f n) (miscounted g m) = refl
one_answer front w p all units x y (miscounted {main = main} f n) (unfit {main = other} g m h) = absurd (n (m ∙ ap (λ b. length b.parameters) (same_main p other main g f)))
one_answer front w p all units x y (miscounted {main = main} f n) (ran {main = other} {r = row} g d h r) =
    absurd (n (counted (argument_shapes p.tables) other all row h ∙ ap (λ b. length b.parameters) (same_main p other main g f)))
one_answer front w p all units x y (unfit {main = main} f n h) (no_main e) = absurd (not_both p main e f)
one_answer front w p all units x y (unfit {main = main} f n h) (miscounted {main = other} g m) = absurd (m (n ∙ ap (λ b. length b.parameters) (same_main p main other f g)))
one_answer front w p all units x y (unfit f n h) (unfit g m k) = refl
one_answer front w p all units x y (unfit {main = main} f n h) (ran {main = other} {r = row} g d k r) = absurd (h row (rows_as p other main all row g f k))
one_answer front w p all units x y (ran {main = main} f d h r) (no_main e) = absurd (not_both p main e f)
one_answer front w p all units x y (ran {main = main} {r = row} f d h r) (miscounted {main = other} g m) =
    absurd (m (counted (argument_shapes p.tables) main all row h ∙ ap (λ b. length b.parameters) (same_main p main other f g)))
one_answer front w p all units x y (ran {main = main} {r = row} f d h r) (unfit {main = other} g m k) = absurd (k row (rows_as p main other all row f g h))
one_answer front w p all units x y (ran {main = main} {r = row} f d h r) (ran {main = other} {r = row'} g d' k q) =
    one_reply front w p row row' units x y (one_row (argument_shapes p.tables) d (types_of other.parameters) all row row' (rows_as p main other all row f g h) k) r q
