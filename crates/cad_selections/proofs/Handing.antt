-- What is read of a place, once it is known whether that is a reference.
use Rattle.std.proofs.Common.{◌≡◌, List, [], ◌∷◌, length, ◌<◌, ◌≤◌, ℕ, zero, suc, ℤ, pos, neg_ℤ, Bool, true, false, ◌&&◌, Option, Some, None, refl, sym, subst, ◌∙◌, ap, arith}
use Rattle.std.proofs.lemmas.Bool.{false≢true}
use Rattle.std.specs.Prelude.{Result}
use Rattle.cad_outcomes.specs.declared.stop.Stop.{Stop}
use Rattle.cad_num.specs.Numbers.{value_of}
use Rattle.cad_selections.proofs.Passing.{here_leaves}
use Rattle.cad_selections.specs.Code.Indices.{read_at_integer}
use Rattle.cad_selections.specs.Code.Readings.{Leaves, reading_of, is_whole, lends, read_as, read_inside}
use Rattle.cad_selections.specs.declared.readings.Reading.{Reading}
use Rattle.cad_rows.specs.Views.{PlaceView, vacant, taken, before, pure_place, pure_row}
use Rattle.cad_rows.specs.declared.tree.Place.{Place}
use Rattle.cad_syntax.specs.Kinds.{is_kept, signed}
use Rattle.cad_syntax.specs.Types.{PureType}
use Rattle.cad_syntax.specs.declared.kind.Kind.{Kind}
use Rattle.cad_syntax.specs.declared.num.Num.{Num}
use Rattle.cad_syntax.specs.declared.types.Authorization.{Authorization}
use Rattle.cad_syntax.specs.declared.types.Authorization.TheVariants.{Unauthorized}
use Rattle.cad_types.specs.Optionals.{gives_reference}
use Rattle.cad_world.specs.Locations.{Location, element, element_slot, name, or_out_of_bounds}
use Rattle.cad_world.specs.Rows.{NodeShape, plain, link, array, dictionary, composite, Row, stop, Tree, Slot, out, full, slot}
use Rattle.cad_world.specs.State.{State, Outcome, ok, failed, limit, ill, bind, Action, choose, give}
use Rattle.cad_world.specs.Trees.{wrapped}
use Rattle.cad_evaluation.specs.Reading.{copied, lent_shape, handed, read_part, read_element, read_entry}

lent_as : (a : Authorization) (x : Location) (t : Tree) (b : Bool) (shape : NodeShape) → choose b (lent_shape a x t shape) (copied t) ≡ read_as (b && is_whole shape) a x t
lent_as a x t false shape = refl
lent_as a x t true (plain v) = refl
lent_as a x t true (link b l n) = refl
lent_as a x t true (array type) = refl
lent_as a x t true (dictionary k v ks) = refl
lent_as a x t true (composite id i names) = refl

handed_as : (rights : Option Authorization) (a : Authorization) (type : PureType) (x : Location) (t : Tree) → handed rights a type x t ≡ read_as (lends rights type t.shape) a x t
handed_as None a type x t = refl
handed_as (Some own) a type x t = lent_as a x t (gives_reference type) t.shape

-- of a part in which a value stands
pub part_full : (rights : Option Authorization) (a : Authorization) (type : PureType) (x : Location) (o : Slot) (t : Tree) (is : Bool) (s : State) (r : Result Reading Stop)
    → full t ≡ o → is ≡ lends rights type t.shape → Leaves reading_of (read_as is a x t) s r → Leaves reading_of (read_part rights a type x o) s r
part_full rights a type x o t is s r there told h =
    subst (λ y. Leaves reading_of (read_part rights a type x y) s r) there
    (subst (λ (p : Action Tree). Leaves reading_of p s r) (ap (λ b. read_as b a x t) told ∙ sym (handed_as rights a type x t)) h)

-- ---- under a key

bind_wrapped : (o : Outcome ℕ) (a : Authorization) (n : ℕ)
    → bind (bind o (λ l. give {A = Tree} (record { optionals = n; shape = link a l 0; parts = stop }))) (λ v. give (wrapped v))
    ≡ bind o (λ l. give (record { optionals = suc n; shape = link a l 0; parts = stop }))
bind_wrapped (ok l s) a n = refl
bind_wrapped (failed e) a n = refl
bind_wrapped limit a n = refl
bind_wrapped ill a n = refl

inside_as : (b : Bool) (a : Authorization) (x : Location) (t : Tree) (s : State) → bind (read_as b a x t s) (λ v. give (wrapped v)) ≡ read_inside b a x t s
inside_as true a x t s = bind_wrapped (name x s) a t.optionals
inside_as false a x t s = refl

-- of an entry in which a value stands
pub entry_full : (rights : Option Authorization) (type : PureType) (x : Location) (t : Tree) (is : Bool) (s : State) (r : Result Reading Stop)
    → is ≡ lends rights type t.shape → Leaves reading_of (read_inside is Unauthorized x t) s r → Leaves reading_of (read_entry rights type x (full t)) s r
entry_full rights type x t is s r told h = here_leaves reading_of (read_entry rights type x (full t)) (read_inside is Unauthorized x t) s r
    (ap (λ (p : Action Tree). bind (p s) (λ v. give (wrapped v))) (handed_as rights Unauthorized type x t ∙ ap (λ b. read_as b Unauthorized x t) (sym told)) ∙ inside_as is Unauthorized x t s) h

-- ---- of an array

-- of an element that stands there
pub element_full : (rights : Option Authorization) (type : PureType) (l : ℕ) (i : ℤ) (row : Row) (t : Tree) (is : Bool) (s : State) (r : Result Reading Stop)
    → full t ≡ element_slot i row → is ≡ lends rights type t.shape → Leaves reading_of (read_as is Unauthorized (element l i) t) s r
    → Leaves reading_of (read_at_integer rights type l i row) s r
element_full rights type l i row t is s r there told h = here_leaves reading_of (read_at_integer rights type l i row) (read_as is Unauthorized (element l i) t) s r
    (ap (λ o. bind (or_out_of_bounds o s) (read_element rights type (element l i))) (sym there)
    ∙ ap (λ (p : Action Tree). p s) (handed_as rights Unauthorized type (element l i) t ∙ ap (λ b. read_as b Unauthorized (element l i) t) (sym told))) h

-- no element stands before the first
below_first : (m : ℕ) (r : Row) → 0 < m → element_slot (neg_ℤ (pos m)) r ≡ out
below_first zero r h = absurd (omega (arith, h))
below_first (suc m) r h = refl

pub below_all : (x : Num) (r : Row) → x.negative ≡ true → out ≡ element_slot (value_of x) r
below_all x r below = sym (ap (λ n. element_slot (signed n x.magnitude) r) below ∙ below_first x.magnitude r (is_kept_below x.kind x.magnitude (subst (λ n. is_kept x.kind n x.magnitude ≡ true) below x.kept)))
  where
    is_kept_below : (kind : Kind) (m : ℕ) → is_kept kind true m ≡ true → 0 < m
    is_kept_below kind zero h = absurd (false≢true h)
    is_kept_below kind (suc m) h = omega arith

slot_behind : (i : ℕ) (p : PlaceView) (r : Row) → slot (suc i) (before p r) ≡ slot i r
slot_behind i vacant r = refl
slot_behind i (taken l t) r = refl

slot_nowhere : (i : ℕ) (ps : List Place) → length ps ≤ i → slot i (pure_row ps) ≡ out
slot_nowhere i [] outside = refl
slot_nowhere zero (q ∷ ps) outside = absurd (omega (arith, outside))
slot_nowhere (suc i) (q ∷ ps) outside = slot_behind i (pure_place q) (pure_row ps) ∙ slot_nowhere i ps (omega (arith, outside))

-- nor at the end or behind it
pub beyond_all : (x : Num) (ps : List Place) → x.negative ≡ false → length ps ≤ x.magnitude → out ≡ element_slot (value_of x) (pure_row ps)
beyond_all x ps above outside = sym (ap (λ n. element_slot (signed n x.magnitude) (pure_row ps)) above ∙ slot_nowhere x.magnitude ps outside)
