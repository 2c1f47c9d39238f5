-- What is told of an answer, and where a condition leaves an environment.
use Rattle.std.proofs.Common.{◌≡◌, ◌∙◌, ℕ, ◌+◌, length, ap, sym, add_assoc}
use Rattle.std.specs.Prelude.{Option, Result, Ok, Err, IfOk}
use Rattle.std.specs.declared.alloc.AllocError.{AllocError}
use Rattle.std.proofs.lemmas.List.{length-append}
use Rattle.cad_grammar.specs.Trees as t
use Rattle.cad_typing.specs.Befores.{befores, behind}
use Rattle.cad_typing.specs.Conditions.{befores_of_message, behind_condition}
use Rattle.cad_typing.specs.Environments.{Environment}

-- what is known of an answer, told in another way
pub on_ok : {A : Type 0} {P Q : A → Type 0} (result : Result A AllocError) → ((o : A) → P o → Q o) → IfOk result P → IfOk result Q
on_ok (Ok o) f h = f o h
on_ok (Err k) f h = tt

-- behind a test and its message
pub behind_both : (a : t.ExprTree) (m : Option t.ExprTree) (env middle last : Environment) → middle ≡ behind a env
    → last ≡ record middle { befores = middle.befores + length (befores_of_message m) } → last ≡ behind_condition (t.test a m) env
behind_both a m env middle last first second =
    second
    ∙ ap (λ (z : Environment). record z { befores = z.befores + length (befores_of_message m) }) first
    ∙ ap (λ n. record env { befores = n }) (added env.befores (length (befores a)) (length (befores_of_message m)) ∙ ap (λ n. env.befores + n) (sym (length-append (befores a) (befores_of_message m))))
  where
    added : (x y z : ℕ) → x + y + z ≡ x + (y + z)
    added x y z = add_assoc x y z
