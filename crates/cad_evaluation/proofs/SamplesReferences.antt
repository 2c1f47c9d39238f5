-- References, what is looked at again, and swaps.
use Rattle.std.specs.Prelude.{true, false, [], ◌∷◌, Some, None, ◌≡◌, refl, codes}
use Rattle.cad_syntax.specs.Types.{basic, optional, array, declared, reference}
use Rattle.cad_syntax.specs.declared.types.Authorization.TheVariants.{Unauthorized, All, Any}
use Rattle.cad_syntax.specs.declared.types.Basic.TheVariants as b
use Rattle.cad_grammar.specs.declared.expression.UnaryOperator.TheVariants as u
use Rattle.cad_grammar.specs.declared.expression.CastKind.TheVariants as c
use Rattle.cad_types.specs.declared.builtin.Builtin.TheVariants as m
use Rattle.cad_num.specs.Numbers as n
use Rattle.cad_declarations.specs.Typed as e
use Rattle.cad_values.specs.Values as v
use Rattle.cad_evaluation.proofs.SampleParts.{int, literal, int_type, gave, failed_with}
use Rattle.cad_evaluation.proofs.SampleForms.{bool_type, void_type, any_type, ints, link, r_type, copy, take, giving, list, calls, reads, refer, fails, new_r, declares, does, gives, gives_beside, array_of}
use Rattle.cad_syntax.specs.declared.type_id.TypeId.{TypeId}
use Rattle.cad_declarations.specs.declared.member.MemberAccess.TheVariants as access
use Rattle.cad_evaluation.specs.Access.{is_served}
use Rattle.cad_evaluation.proofs.SampleContract.{inside, s_id, n_name, tie_name, right}
use Rattle.cad_evaluation.proofs.SamplesPlaces.{mutate}

abbrev x_id : TypeId
x_id = inside (codes "X")

abbrev y_id : TypeId
y_id = inside (codes "Y")

-- a reference to a temporary: its place has ended, 113
temporary : gives int_type (declares 0 (link ints) (e.hold 0 ints (list (literal 1 ∷ [])) (refer (e.variable 0) ints)) ∷ []) (reads (e.target (copy 0)) m.ArrayLength) ≡ failed_with 113
unfolding n.outcome
temporary = refl

-- what is read through a reference is copied where it is no composite or container: a reference to that is 113
copied_field : gives_beside int_type (declares 0 (declared s_id) (e.construct s_id (e.arguments_of (giving (literal 5) int_type ∷ []))) ∷ declares 1 (link (declared s_id)) (refer (e.variable 0) (declared s_id)) ∷ declares 2 (link int_type) (e.hold 2 int_type (e.on (e.target (copy 1)) (e.get n_name Unauthorized)) (refer (e.variable 2) int_type)) ∷ []) (e.unary u.Dereference (copy 2)) ≡ failed_with 113
unfolding n.outcome
copied_field = refl

-- a reference sees the optionals that were seen when it was made
sees_optional : gives bool_type (declares 0 (optional int_type) (literal 1) ∷ declares 1 any_type (copy 0) ∷ declares 2 (link any_type) (refer (e.variable 1) any_type) ∷ []) (calls (e.target (copy 2)) m.IsInstance (giving (e.meta (optional int_type)) (basic b.Meta) ∷ [])) ≡ gave (v.bool true) 24
unfolding n.outcome
sees_optional = refl

sees_content : gives bool_type (declares 0 (optional int_type) (literal 1) ∷ declares 1 any_type (copy 0) ∷ declares 2 (link any_type) (e.borrow (e.variable 1) Unauthorized any_type true false) ∷ []) (calls (e.target (copy 2)) m.IsInstance (giving (e.meta int_type) (basic b.Meta) ∷ [])) ≡ gave (v.bool true) 24
unfolding n.outcome
sees_content = refl

-- getType of an AnyStruct that is a reference is that of its node
type_through : gives (basic b.Meta) (declares 0 int_type (literal 5) ∷ declares 1 any_type (refer (e.variable 0) int_type) ∷ []) (calls (e.variable 1) m.GetType []) ≡ gave (v.meta int_type) 26
unfolding n.outcome
type_through = refl

-- and 113 where that is gone
type_of_nothing : gives (basic b.Meta) (declares 0 int_type (literal 5) ∷ declares 1 any_type (refer (e.variable 0) int_type) ∷ e.assign 0 (e.variable 0) (literal 6) int_type ∷ []) (calls (e.variable 1) m.GetType []) ≡ failed_with 113
unfolding n.outcome
type_of_nothing = refl

-- of an optional of a reference it is its own
type_of_optional : gives (basic b.Meta) (declares 0 int_type (literal 5) ∷ declares 1 (optional (link int_type)) (refer (e.variable 0) int_type) ∷ []) (calls (e.variable 1) m.GetType []) ≡ gave (v.meta (optional (link int_type))) 26
unfolding n.outcome
type_of_optional = refl

-- ---- references to what is gone

-- a transfer is no use
handed_on : gives int_type (declares 0 int_type (literal 5) ∷ declares 1 (link int_type) (refer (e.variable 0) int_type) ∷ e.assign 0 (e.variable 0) (literal 6) int_type ∷ declares 2 (link int_type) (copy 1) ∷ []) (literal 0) ≡ gave (int 0) 25
unfolding n.outcome
handed_on = refl

-- nor does it ask for the own type where an optional is put round it
wrapped : gives bool_type (declares 0 int_type (literal 5) ∷ declares 1 (link int_type) (refer (e.variable 0) int_type) ∷ e.assign 0 (e.variable 0) (literal 6) int_type ∷ declares 2 (optional (link int_type)) (copy 1) ∷ []) (e.is_nil (e.variable 2) false) ≡ gave (v.bool false) 25
unfolding n.outcome
wrapped = refl

-- a cast to AnyStruct asks for it: 113
cast_of_nothing : gives any_type (declares 0 int_type (literal 5) ∷ declares 1 (link int_type) (refer (e.variable 0) int_type) ∷ e.assign 0 (e.variable 0) (literal 6) int_type ∷ []) (e.cast c.Static (copy 1) any_type) ≡ failed_with 113
unfolding n.outcome
cast_of_nothing = refl

-- and so does a container that it comes to: 113
appended_nothing : gives void_type (declares 0 int_type (literal 5) ∷ declares 1 (link int_type) (refer (e.variable 0) int_type) ∷ e.assign 0 (e.variable 0) (literal 6) int_type ∷ declares 2 (array (link int_type)) (e.array (link int_type) e.no_terms) ∷ []) (calls (e.variable 2) m.ArrayAppend (giving (copy 1) (link int_type) ∷ [])) ≡ failed_with 113
unfolding n.outcome
appended_nothing = refl

-- ---- what is looked at again, and when

-- a reference as a receiver is looked at before the arguments: 113, not 103
looked_at_first : gives void_type (declares 0 ints (list []) ∷ declares 1 (link ints) (refer (e.variable 0) ints) ∷ e.assign 0 (e.variable 0) (list []) ints ∷ []) (calls (e.target (copy 1)) m.ArrayAppend (giving fails int_type ∷ [])) ≡ failed_with 113
unfolding n.outcome
looked_at_first = refl

-- what an index is of is looked at after the index: 113
base_after_index : gives int_type (declares 0 (array ints) (e.array ints (e.terms_of (list (literal 1 ∷ literal 2 ∷ []) ∷ []))) ∷ []) (e.index (e.element (e.variable 0) (array ints) (literal 0)) ints (e.hold 1 ints (calls (e.variable 0) m.ArrayRemove (giving (literal 0) int_type ∷ [])) (reads (e.variable 1) m.ArrayLength))) ≡ failed_with 113
unfolding n.outcome
base_after_index = refl

-- a receiver is looked at again after the arguments, also a number: 113
receiver_again : gives int_type (declares 0 ints (list (literal 1 ∷ literal 2 ∷ [])) ∷ []) (calls (e.element (e.variable 0) ints (literal 0)) m.SaturatingAdd (giving (calls (e.variable 0) m.ArrayRemove (giving (literal 0) int_type ∷ [])) int_type ∷ [])) ≡ failed_with 113
unfolding n.outcome
receiver_again = refl

-- operands are values: what was read stays, whatever comes after it
operands_stay : gives ints (declares 0 ints (list (literal 1 ∷ [])) ∷ []) (e.array int_type (e.terms_of (e.index (e.variable 0) ints (literal 0) ∷ calls (e.variable 0) m.ArrayRemove (giving (literal 0) int_type ∷ []) ∷ []))) ≡ gave (array_of int_type (int 1 ∷ int 1 ∷ [])) 24
unfolding n.outcome
operands_stay = refl

-- a[5][0] = 1 / 0: what the place is in comes before the value, 104
part_before_value : gives int_type (declares 0 (array ints) (e.array ints e.no_terms) ∷ e.assign 0 (e.element (e.element (e.variable 0) (array ints) (literal 5)) ints (literal 0)) fails int_type ∷ []) (literal 0) ≡ failed_with 104
unfolding n.outcome
part_before_value = refl

-- ---- swaps

-- a[5] <-> a[5] of one element: 104
swapped_nothing : gives int_type (declares 0 ints (list (literal 1 ∷ [])) ∷ e.swap 0 (e.element (e.variable 0) ints (literal 5)) int_type (e.element (e.variable 0) ints (literal 5)) int_type ∷ []) (literal 0) ≡ failed_with 104
unfolding n.outcome
swapped_nothing = refl

-- outer[0] <-> r[0] where r names outer[0]: 113
swapped_with_its_content : gives int_type (declares 0 (array (array any_type)) (e.array (array any_type) (e.terms_of (e.array any_type (e.terms_of (literal 1 ∷ [])) ∷ []))) ∷ declares 1 (reference mutate (array any_type)) (e.borrow (e.element (e.variable 0) (array (array any_type)) (literal 0)) mutate (array any_type) false false) ∷ e.swap 0 (e.element (e.variable 0) (array (array any_type)) (literal 0)) (array any_type) (e.element (e.target (copy 1)) (array any_type) (literal 0)) any_type ∷ []) (literal 0) ≡ failed_with 113
unfolding n.outcome
swapped_with_its_content = refl

-- a swap brings a value that isn't of the array's own type: 129
swapped_other : gives int_type (declares 0 (array any_type) (list (literal 1 ∷ [])) ∷ declares 1 any_type (e.bool true) ∷ e.swap 0 (e.element (e.variable 0) (array any_type) (literal 0)) any_type (e.variable 1) any_type ∷ []) (literal 0) ≡ failed_with 129
unfolding n.outcome
swapped_other = refl

-- a.tie(<-b) with `r.kid <-! r`: the place is in what has left, 113
tied : gives_beside int_type (declares 0 r_type (new_r 1 e.nil) ∷ declares 1 r_type (new_r 2 e.nil) ∷ does (e.on (e.variable 0) (e.method tie_name false false (e.arguments_of (giving (take 1) r_type ∷ [])))) ∷ does (e.destroy (take 0)) ∷ []) (literal 0) ≡ failed_with 113
unfolding n.outcome
tied = refl

-- ---- rights

-- a reference has the rights of the place that it comes to, and doesn't get them back: 107
rights_are_lost : gives_beside r_type (declares 0 r_type (new_r 1 e.nil) ∷ declares 1 (reference right r_type) (e.borrow (e.variable 0) right r_type false false) ∷ declares 2 (link r_type) (copy 1) ∷ []) (e.cast c.Forced (copy 2) (reference right r_type)) ≡ failed_with 107
unfolding n.outcome
rights_are_lost = refl

-- of one of two rights a member that needs either is served, and none that needs the first
either_right : is_served (access.Entitled (Any (x_id ∷ y_id ∷ []))) [] None (Some (Any (x_id ∷ y_id ∷ []))) ≡ true
either_right = refl

first_right : is_served (access.Entitled (All (x_id ∷ []))) [] None (Some (Any (x_id ∷ y_id ∷ []))) ≡ false
first_right = refl
