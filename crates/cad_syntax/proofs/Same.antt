-- The derived tests of equality tell whether two values are the same.
use Rattle.std.proofs.Common.{◌≡◌, ℕ, Bool, true, false, ◌==◌, ◌↔◌, IsTrue, Contains, List, [], ◌∷◌, refl, ap, sym, ◌∙◌}
use Rattle.std.proofs.lemmas.Bool.{false≢true, eqb-true, eq-eqb}
use Rattle.std.specs.Cmp.Lexicographic.{pointwise}
use Rattle.cad_syntax.specs.TypeIds.{same_id, has}
use Rattle.cad_syntax.specs.declared.text.Name.{Name}
use Rattle.cad_syntax.specs.declared.type_id.TypeId.{TypeId}
use Rattle.cad_syntax.proofs.Members.{and_both, some_passes, passes_some}

-- a test that tells whether two values are the same
abbrev pub Tells : {A : Type 0} → (A → A → Bool) → Type 0
Tells {A} eq = (x y : A) → (eq x y ≡ true → x ≡ y) × (x ≡ y → eq x y ≡ true)

pub lists_tell : {A : Type 0} (eq : A → A → Bool) → Tells eq → Tells (pointwise eq)
lists_tell eq tells [] [] = (λ _. refl, λ _. refl)
lists_tell eq tells [] (y ∷ ys) = (λ e. absurd (false≢true e), λ e. cc)
lists_tell eq tells (x ∷ xs) [] = (λ e. absurd (false≢true e), λ e. cc)
lists_tell eq tells (x ∷ xs) (y ∷ ys) = (
  λ e. let both = and_both (eq x y) (pointwise eq xs ys) e in
      let head = (tells x y).0 both.0 in
      let tail = (lists_tell eq tells xs ys).0 both.1 in
      cc,
  λ e. let head : x ≡ y = cc in
      let tail : xs ≡ ys = cc in
      rw ((tells x y).1 head, (lists_tell eq tells xs ys).1 tail) refl,
)

pub numbers_tell : Tells ◌==◌
numbers_tell x y = (eqb-true x y, eq-eqb x y)

pub names_tell : Tells (λ (a b : Name). pointwise ◌==◌ a.0 b.0)
names_tell a b = (λ e. ap (λ t. record { 0 = t }) ((lists_tell ◌==◌ numbers_tell a.0 b.0).0 e), λ e. (lists_tell ◌==◌ numbers_tell a.0 b.0).1 (ap (λ (n : Name). n.0) e))

pub ids_tell : Tells same_id
ids_tell a b = (
  λ e. let both = and_both (a.address.0 == b.address.0) (pointwise (λ (m n : Name). pointwise ◌==◌ m.0 n.0) a.names b.names) e in
      let address = eqb-true a.address.0 b.address.0 both.0 in
      let names = (lists_tell (λ (m n : Name). pointwise ◌==◌ m.0 n.0) names_tell a.names b.names).0 both.1 in
      ap (λ (n : ℕ). record { address = record { 0 = n }; names = a.names }) address ∙ ap (λ (names : List Name). record { address = b.address; names = names }) names,
  λ e. let address = ap (λ (i : TypeId). i.address.0) e in
      let names = ap (λ (i : TypeId). i.names) e in
      rw (eq-eqb a.address.0 b.address.0 address, (lists_tell (λ (m n : Name). pointwise ◌==◌ m.0 n.0) names_tell a.names b.names).1 names) refl,
)

-- the answer of a test
pub answer_tells : {A : Type 0} (eq : A → A → Bool) → Tells eq → (r : Bool) (x y : A) → r ≡ eq x y → (IsTrue r ↔ (x ≡ y))
answer_tells eq tells true x y e = (λ _. (tells x y).0 (sym e), λ _. refl)
answer_tells eq tells false x y e = (λ h. absurd (false≢true h), λ same. e ∙ (tells x y).1 same)

-- the test of membership tells whether the list has the identifier
pub has_tells : (r : Bool) (ids : List TypeId) (id : TypeId) → r ≡ has ids id → (IsTrue r ↔ Contains ids id)
has_tells r ids id e = (
  λ yes. let found = some_passes (λ other. same_id other id) ids (sym e ∙ yes) in
      let same = (ids_tell found.0 id).0 found.2 in
      rw same at found.1,
  λ there. e ∙ passes_some (λ other. same_id other id) ids id there ((ids_tell id id).1 refl),
)
