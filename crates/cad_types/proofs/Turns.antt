-- The loops of judging.
use Rattle.std.proofs.Common.{◌≡◌, ℕ, zero, suc, ◌+◌, ◌<◌, Bool, true, false, cond, ◌&&◌, ◌||◌, Option, Some, None, option_map, subst, List, [], ◌∷◌, length, map, drop, get_or, refl, ap, sym, ◌∙◌, add-one, arith}
use Rattle.std.proofs.lemmas.Bool.{false≢true}
use mathlib.Core.Bool.{beq}
use Rattle.std.specs.List.{list_any}
use Rattle.cad_syntax.specs.TypeIds.{same_id, has}
use Rattle.cad_syntax.proofs.Members.{and_both}
use Rattle.cad_syntax.proofs.Same.{Tells}
use Rattle.cad_syntax.specs.declared.type_id.TypeId.{TypeId}
use Rattle.cad_types.specs.Declarations.{Declaration, declaration_of, interfaces_of}
use Rattle.cad_types.specs.Below.{has_interface}
use Rattle.cad_types.specs.Code.Declarations.{place_of}
use Rattle.cad_types.specs.Code.Judged.{marked, marks_at, unmarked}
use Rattle.cad_types.specs.declared.declared.Declared.{Declared}
use Rattle.cad_types.specs.declared.marks.Marks.{Marks}

marked_nothing : (ds : List Declaration) (id : TypeId) → marked ds [] id ≡ unmarked
marked_nothing [] id = refl
marked_nothing (d ∷ ds) id = refl

-- past a declaration of another identifier
marked_step : (ds : List Declared) (ms : List Marks) (id : TypeId) (i : ℕ) (default : Declared) → i < length ds → same_id (get_or ds i default).id id ≡ false → marked (map declaration_of (drop (suc i) ds)) (drop (suc i) ms) id ≡ marked (map declaration_of (drop i ds)) (drop i ms) id
marked_step [] ms id i default below other = absurd (omega arith)
marked_step (d ∷ ds) [] id zero default below other = marked_nothing (map declaration_of ds) id
marked_step (d ∷ ds) [] id (suc i) default below other = marked_nothing (map declaration_of (drop (suc i) ds)) id ∙ sym (marked_nothing (map declaration_of (drop i ds)) id)
marked_step (d ∷ ds) (m ∷ ms) id zero default below other = rw other refl
marked_step (d ∷ ds) (m ∷ ms) id (suc i) default below other = marked_step ds ms id i default (omega arith) other

pub marked_more : (ds : List Declared) (ms : List Marks) (id : TypeId) (i : ℕ) (default : Declared) → i < length ds → same_id (get_or ds i default).id id ≡ false → marked (map declaration_of (drop i ds)) (drop i ms) id ≡ marked (map declaration_of ds) ms id → marked (map declaration_of (drop (i + 1) ds)) (drop (i + 1) ms) id ≡ marked (map declaration_of ds) ms id
marked_more ds ms id i default below other before = rw add-one (marked_step ds ms id i default below other ∙ before)

-- the derived test of marks
abbrev pub same_mark : Marks → Marks → Bool
same_mark a b = beq a.storable b.storable && (beq a.importable b.importable && beq a.carried b.carried)

flags_tell : (a b : Bool) → (beq a b ≡ true → a ≡ b) × (a ≡ b → beq a b ≡ true)
flags_tell true true = (λ _. refl, λ _. refl)
flags_tell true false = (λ e. absurd (false≢true e), λ e. absurd (false≢true (sym e)))
flags_tell false true = (λ e. absurd (false≢true e), λ e. absurd (false≢true e))
flags_tell false false = (λ _. refl, λ _. refl)

pub marks_tell : Tells same_mark
marks_tell a b = (
  λ e. let first = and_both (beq a.storable b.storable) (beq a.importable b.importable && beq a.carried b.carried) e in
      let second = and_both (beq a.importable b.importable) (beq a.carried b.carried) first.1 in
      ap (λ x. record { storable = x; importable = a.importable; carried = a.carried }) ((flags_tell a.storable b.storable).0 first.0)
      ∙ ap (λ x. record { storable = b.storable; importable = x; carried = a.carried }) ((flags_tell a.importable b.importable).0 second.0)
      ∙ ap (λ x. record { storable = b.storable; importable = b.importable; carried = x }) ((flags_tell a.carried b.carried).0 second.1),
  λ e. rw ((flags_tell a.storable b.storable).1 (ap (λ (m : Marks). m.storable) e), (flags_tell a.importable b.importable).1 (ap (λ (m : Marks). m.importable) e), (flags_tell a.carried b.carried).1 (ap (λ (m : Marks). m.carried) e)) refl,
)

or_true : (c : Bool) → (c || true) ≡ true
or_true true = refl
or_true false = refl

or_of_two : (a b c d : Bool) → ((a || c) || (b || d)) ≡ ((a || b) || (c || d))
or_of_two true b c d = refl
or_of_two false true c true = or_true c
or_of_two false true true false = refl
or_of_two false true false false = refl
or_of_two false false c d = refl

-- some member passes one of two tests
pub some_of_two : {A : Type 0} (p q : A → Bool) (xs : List A) → list_any (λ x. p x || q x) xs ≡ (list_any p xs || list_any q xs)
some_of_two p q [] = refl
some_of_two p q (x ∷ xs) = ap (λ r. (p x || q x) || r) (some_of_two p q xs) ∙ or_of_two (p x) (list_any p xs) (q x) (list_any q xs)

-- an interface is had where it is there itself or one of those there has it
pub interface_by : (k : List Declaration) (ids : List TypeId) (id : TypeId) → has_interface k ids id ≡ (has ids id || list_any (λ i. has (interfaces_of k i) id) ids)
interface_by k ids id = some_of_two (λ i. same_id i id) (λ i. has (interfaces_of k i) id) ids

-- the marks of an identifier are those at the place of its first declaration
pub marked_nowhere : (k : List Declaration) (marks : List Marks) (id : TypeId) → place_of k id ≡ None → marked k marks id ≡ unmarked
marked_nowhere [] marks id e = refl
marked_nowhere (d ∷ ds) [] id e = refl
marked_nowhere (d ∷ ds) (m ∷ ms) id e = go (same_id d.id id) (place_of ds id) (marked_nowhere ds ms id) e
  where
    go : (b : Bool) (o : Option ℕ) → (o ≡ None → marked ds ms id ≡ unmarked) → cond b (Some 0) (option_map suc o) ≡ None → cond b m (marked ds ms id) ≡ unmarked
    go true o rest e = cc
    go false None rest e = rest refl
    go false (Some p) rest e = cc

pub marked_there : (k : List Declaration) (marks : List Marks) (id : TypeId) (place : ℕ) → place_of k id ≡ Some place → marked k marks id ≡ marks_at marks place
marked_there [] marks id place e = cc
marked_there (d ∷ ds) [] id place e = sym (nothing_at place)
  where
    nothing_at : (place : ℕ) → marks_at [] place ≡ unmarked
    nothing_at zero = refl
    nothing_at (suc place) = refl
marked_there (d ∷ ds) (m ∷ ms) id place e = go (same_id d.id id) (place_of ds id) (marked_there ds ms id) e
  where
    go : (b : Bool) (o : Option ℕ) → ((p : ℕ) → o ≡ Some p → marked ds ms id ≡ marks_at ms p) → cond b (Some 0) (option_map suc o) ≡ Some place → cond b m (marked ds ms id) ≡ marks_at (m ∷ ms) place
    go true o rest e = let z : 0 ≡ place = cc in subst (λ (p : ℕ). m ≡ marks_at (m ∷ ms) p) z refl
    go false None rest e = cc
    go false (Some p) rest e = let z : suc p ≡ place = cc in subst (λ (q : ℕ). marked ds ms id ≡ marks_at (m ∷ ms) q) z (rest p refl)
