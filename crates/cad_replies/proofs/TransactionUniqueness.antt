-- A transaction comes to one outcome at most.
use Rattle.std.proofs.Common.{◌≡◌, ℕ, true, false, List, length, Bool, Some, None, refl, sym, ap, ◌∙◌, subst}
use Rattle.std.proofs.lemmas.List.{length-map}
use Rattle.serde_json.specs.Data.{Data}
use Rattle.cad_contract_shapes.specs.Arguments.{argument_shapes}
use Rattle.cad_syntax.specs.declared.address.Address.{Address}
use Rattle.cad_declarations.specs.Typed.{TransactionBody}
use Rattle.cad_runs.specs.Commands.{are_signers, types_of}
use Rattle.cad_run_worlds.proofs.Turns.{as_many}
use Rattle.cad_run_worlds.proofs.Uniqueness.{one_row}
use Rattle.cad_run_worlds.specs.Replies.{AreArguments}
use Rattle.cad_values.specs.Shapes.{Shapes}
use Rattle.cad_world.specs.Fronts.{Front}
use Rattle.cad_world.specs.Rows.{Row}
use Rattle.cad_world.specs.State.{Program, World}
use Rattle.cad_run_outcomes.specs.Outcomes.{Outcome}
use Rattle.cad_replies.specs.Transactions.{Comes, Ran, OneOutcome, no_transaction, unsigned, miscounted, unfit, runs}

not_both : (p : Program) (t : TransactionBody) → p.bodies.transaction ≡ None → p.bodies.transaction ≡ Some t → ⊥
not_both p t e f = absurd cc

same_body : (p : Program) (t u : TransactionBody) → p.bodies.transaction ≡ Some t → p.bodies.transaction ≡ Some u → t ≡ u
same_body p t u e f = let o : Some t ≡ Some u = sym e ∙ f in cc o

either_way : (b c : Bool) → b ≡ c → b ≡ true → c ≡ false → ⊥
either_way b c same h k = let o : true ≡ false = sym h ∙ same ∙ k in cc o

counted : (k : Shapes) (t : TransactionBody) (all : List Data) (r : Row) → AreArguments k (types_of t.parameters) all r → length all ≡ length t.parameters
counted k t all r h = as_many k (types_of t.parameters) all r h ∙ length-map t.parameters (λ x. x.type)

module _ (front : Front) (w : World) (p : Program) (all : List Data) (signers : List Address) (units : ℕ) where
  signed_apart : (t u : TransactionBody) → p.bodies.transaction ≡ Some t → p.bodies.transaction ≡ Some u → are_signers w t signers ≡ true → are_signers w u signers ≡ false → ⊥
  signed_apart t u e f = either_way (are_signers w t signers) (are_signers w u signers) (ap (λ b. are_signers w b signers) (same_body p t u e f))

  counts_apart : (t u : TransactionBody) → p.bodies.transaction ≡ Some t → p.bodies.transaction ≡ Some u → length all ≡ length t.parameters → (length all ≡ length u.parameters → ⊥) → ⊥
  counts_apart t u e f n m = m (n ∙ ap (λ b. length b.parameters) (same_body p t u e f))

  rows_as : (t u : TransactionBody) (r : Row) → p.bodies.transaction ≡ Some t → p.bodies.transaction ≡ Some u → AreArguments (argument_shapes p.tables) (types_of t.parameters) all r → AreArguments (argument_shapes p.tables) (types_of u.parameters) all r
  rows_as t u r e f = subst (λ (b : TransactionBody). AreArguments (argument_shapes p.tables) (types_of b.parameters) all r) (same_body p t u e f)

  one_run : (t u : TransactionBody) (r q : Row) (x y : Outcome) → t ≡ u → r ≡ q → Ran front w p t r signers units x → Ran front w p u q signers units y → x ≡ y
  one_run t u r q x y same rows a b = sym (subst (λ (row : Row). Ran front w p u row signers units x) rows (subst (λ (c : TransactionBody). Ran front w p c r signers units x) same a)) ∙ b

  one : (x y : Outcome) → Comes front w p all signers units x → Comes front w p all signers units y → x ≡ y
  one x y (no_transaction e) (no_transaction f) = refl
  one x y (no_transaction e) (unsigned {t = t} f k) = absurd (not_both p t e f)
  one x y (no_transaction e) (miscounted {t = t} f k n) = absurd (not_both p t e f)
  one x y (no_transaction e) (unfit {t = t} f k n h) = absurd (not_both p t e f)
  one x y (no_transaction e) (runs {t = t} f k d h r) = absurd (not_both p t e f)
  one x y (unsigned {t = t} f k) (no_transaction e) = absurd (not_both p t e f)
  one x y (unsigned f k) (unsigned g l) = refl
  one x y (unsigned {t = t} f k) (miscounted {t = u} g l m) = absurd (signed_apart u t g f l k)
  one x y (unsigned {t = t} f k) (unfit {t = u} g l m h) = absurd (signed_apart u t g f l k)
  one x y (unsigned {t = t} f k) (runs {t = u} g l d h r) = absurd (signed_apart u t g f l k)
  one x y (miscounted {t = t} f k n) (no_transaction e) = absurd (not_both p t e f)
  one x y (miscounted {t = t} f k n) (unsigned {t = u} g l) = absurd (signed_apart t u f g k l)
  one x y (miscounted f k n) (miscounted g l m) = refl
  one x y (miscounted {t = t} f k n) (unfit {t = u} g l m h) = absurd (counts_apart u t g f m n)
  one x y (miscounted {t = t} f k n) (runs {t = u} {r = row} g l d h r) = absurd (counts_apart u t g f (counted (argument_shapes p.tables) u all row h) n)
  one x y (unfit {t = t} f k n h) (no_transaction e) = absurd (not_both p t e f)
  one x y (unfit {t = t} f k n h) (unsigned {t = u} g l) = absurd (signed_apart t u f g k l)
  one x y (unfit {t = t} f k n h) (miscounted {t = u} g l m) = absurd (counts_apart t u f g n m)
  one x y (unfit f k n h) (unfit g l m j) = refl
  one x y (unfit {t = t} f k n h) (runs {t = u} {r = row} g l d j r) = absurd (h row (rows_as u t row g f j))
  one x y (runs {t = t} f k d h r) (no_transaction e) = absurd (not_both p t e f)
  one x y (runs {t = t} f k d h r) (unsigned {t = u} g l) = absurd (signed_apart t u f g k l)
  one x y (runs {t = t} {r = row} f k d h r) (miscounted {t = u} g l m) = absurd (counts_apart t u f g (counted (argument_shapes p.tables) t all row h) m)
  one x y (runs {t = t} {r = row} f k d h r) (unfit {t = u} g l m j) = absurd (j row (rows_as t u row f g h))
  one x y (runs {t = t} {r = row} f k d h r) (runs {t = u} {r = row'} g l d' j q) =
      one_run t u row row' x y (same_body p t u f g) (one_row (argument_shapes p.tables) d (types_of u.parameters) all row row' (rows_as t u row f g h) j) r q

pub one_outcome : OneOutcome
one_outcome front w p all signers units = one front w p all signers units
