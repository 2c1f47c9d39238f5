-- What is read of arrays and dictionaries, where their arguments are known.
use Rattle.std.proofs.Common.{◌≡◌, ℕ, ℤ, pos, ◌-◌, Bool, true, false, List, Option, Some, sym, ap, ◌∙◌, subst}
use Rattle.std.specs.Prelude.{Result, unsigned_abs}
use Rattle.cad_syntax.specs.Types.{PureType}
use Rattle.cad_types.specs.declared.builtin.Builtin.{Builtin}
use Rattle.cad_values.specs.Values.{PureValue}
use Rattle.cad_world.specs.Rows as rows
use Rattle.cad_world.specs.State.{State, Action, failed, require, with_some}
use Rattle.cad_evaluation.specs.Containers.{array_slice, array_copy, are_places}
use Rattle.cad_evaluation.specs.Builtins.{by_array, by_dictionary}
use Rattle.cad_evaluation.specs.Numbers.{integer_in}
use Rattle.cad_outcomes.specs.Outcomes.{Gives}
use Rattle.cad_outcomes.specs.declared.stop.Stop.{Stop}
use Rattle.cad_rows.specs.Views.{pure_tree}
use Rattle.cad_rows.specs.declared.tree.Tree.{Tree}
use Rattle.cad_containers.specs.Code.Members.{array_read, dictionary_read}

-- the action of the member that it is
pub array_member : (m n : Builtin) (r : rows.Row) (type : PureType) (parts : rows.Row) (x : Result Tree Stop) → m ≡ n → Gives pure_tree (array_read n r type parts) x → Gives pure_tree (array_read m r type parts) x
array_member m n r type parts x e h = subst (λ (b : Builtin). Gives pure_tree (array_read b r type parts) x) (sym e) h

abbrev cut_at : PureType → rows.Row → ℤ → ℤ → Action rows.Tree
cut_at type row i j = array_copy type (rows.front (unsigned_abs j - unsigned_abs i) (rows.back (unsigned_abs i) row))

abbrev by_places : PureType → rows.Row → Option ℤ → Option ℤ → Action rows.Tree
by_places type row a b = with_some a (λ i. with_some b (λ j. require 105 (are_places i j (rows.count_places row)) (cut_at type row i j)))

pub out_of_order : (x y : ℤ) (n : ℕ) (type : PureType) (row : rows.Row) (from up_to : rows.Tree) (s : State) → Some x ≡ integer_in from → Some y ≡ integer_in up_to → n ≡ rows.count_places row
    → are_places x y n ≡ false → array_slice type row from up_to s ≡ failed 105
out_of_order x y n type row from up_to s e f c h =
    ap (λ a. by_places type row a (integer_in up_to) s) (sym e) ∙ ap (λ b. by_places type row (Some x) b s) (sym f)
    ∙ ap (λ t. require 105 t (cut_at type row x y) s) (ap (are_places x y) (sym c) ∙ h)

pub sliced : (x y : ℤ) (i j n : ℕ) (type : PureType) (row : rows.Row) (from up_to : rows.Tree) (r : Result Tree Stop) → Some x ≡ integer_in from → Some y ≡ integer_in up_to → n ≡ rows.count_places row
    → are_places x y n ≡ true → x ≡ pos i → y ≡ pos j → Gives pure_tree (array_copy type (rows.front (j - i) (rows.back i row))) r → Gives pure_tree (array_slice type row from up_to) r
sliced x y i j n type row from up_to r e f c h at_i at_j given =
    subst (λ (a : Option ℤ). Gives pure_tree (by_places type row a (integer_in up_to)) r) e
    (subst (λ (b : Option ℤ). Gives pure_tree (by_places type row (Some x) b) r) f
    (subst (λ (t : Bool). Gives pure_tree (require 105 t (cut_at type row x y)) r) (sym h ∙ ap (are_places x y) c)
    (subst (λ (z : ℤ). Gives pure_tree (cut_at type row z y) r) (sym at_i)
    (subst (λ (z : ℤ). Gives pure_tree (cut_at type row (pos i) z) r) (sym at_j) given))))

pub dictionary_member : (m n : Builtin) (r : rows.Row) (key value : PureType) (ks : List PureValue) (parts : rows.Row) (x : Result Tree Stop) → m ≡ n
    → Gives pure_tree (dictionary_read n r key value ks parts) x → Gives pure_tree (dictionary_read m r key value ks parts) x
dictionary_member m n r key value ks parts x e h = subst (λ (b : Builtin). Gives pure_tree (dictionary_read b r key value ks parts) x) (sym e) h

-- ---- by what the container is

pub by_elements : (n : ℕ) (shape : rows.NodeShape) (parts q : rows.Row) (type : PureType) (f : PureType → rows.Row → Action rows.Tree) (x : Result Tree Stop) → n ≡ 0 → shape ≡ rows.array type → parts ≡ q
    → Gives pure_tree (f type q) x → Gives pure_tree (by_array n shape parts f) x
by_elements n shape parts q type f x e g h given =
    subst (λ (k : ℕ). Gives pure_tree (by_array k shape parts f) x) (sym e)
    (subst (λ (k : rows.NodeShape). Gives pure_tree (by_array 0 k parts f) x) (sym g) (subst (λ (k : rows.Row). Gives pure_tree (f type k) x) (sym h) given))

pub by_entries : (n : ℕ) (shape : rows.NodeShape) (parts q : rows.Row) (key value : PureType) (ks : List PureValue) (f : PureType → PureType → List PureValue → rows.Row → Action rows.Tree) (x : Result Tree Stop)
    → n ≡ 0 → shape ≡ rows.dictionary key value ks → parts ≡ q → Gives pure_tree (f key value ks q) x → Gives pure_tree (by_dictionary n shape parts f) x
by_entries n shape parts q key value ks f x e g h given =
    subst (λ (k : ℕ). Gives pure_tree (by_dictionary k shape parts f) x) (sym e)
    (subst (λ (k : rows.NodeShape). Gives pure_tree (by_dictionary 0 k parts f) x) (sym g) (subst (λ (k : rows.Row). Gives pure_tree (f key value ks k) x) (sym h) given))
