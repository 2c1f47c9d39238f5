-- Standing: the same while the units last.
use Rattle.std.specs.Prelude.{ℕ, zero, suc, Bool, true, false, ◌&&◌, ◌==◌, Option, Some, None}
use Rattle.cad_syntax.specs.declared.text.Name.{Name}
use Rattle.cad_syntax.specs.declared.types.Authorization.{Authorization}
use Rattle.cad_world.specs.Rows.{NodeShape, array, dictionary, Tree}
use Rattle.cad_world.specs.State.{Action}
use Rattle.cad_world.specs.Trees.{value_of}
use Rattle.cad_world.specs.Labels.{position_of}
use Rattle.cad_world.specs.Locations.{Location, part, element, entry}
use Rattle.cad_world.specs.Receivers.{through, Spot, is_reference}
use Rattle.cad_evaluation.specs.Access.{own_member}
use Rattle.cad_evaluation.specs.Changing.{Content, nothing, content, no_optional, content_of}
use Rattle.cad_evaluation.specs.Numbers.{integer_in}
use Rattle.cad_evaluation.specs.Reading.{composite_id, field_names}
use Rattle.cad_evaluation.specs.Standing.{Standing, here, led_by, nowhere, without, onward, nil_at, content_with, or_nil, content_at, named_spot, base_of, inner_rights, may_meet, field_of, may_replace, element_at, element_of, value_at, location_of, is_variable, taken_from, is_owned, referred_to, receiver_from, receiver_of_chain}
use Rattle.cad_bounds.proofs.Same.{Runs, Same, same_give, same_fail, same_stuck, same_some, same_guard, same_bind}
use Rattle.cad_bounds.proofs.Casts.{same_borrowed}
use Rattle.cad_bounds.proofs.Changing.{same_take}
use Rattle.cad_bounds.proofs.Locations.{same_name, same_read}
use Rattle.cad_bounds.proofs.Receivers.{same_deref, same_receiver_with}

pub same_onward : (R : Runs) (x1 x1' : Standing → Action Standing) (x2 : Standing) → ((y0 : Standing) → Same R (x1 y0) (x1' y0)) → Same R (onward x1 x2) (onward x1' x2)
same_onward R f f' nowhere h_f = same_give R nowhere
same_onward R f f' place h_f = h_f place

pub same_nil_at : (R : Runs) (x1 : Bool) → Same R (nil_at x1) (nil_at x1)
same_nil_at R true = same_fail R 106
same_nil_at R false = same_give R nowhere

pub same_content_with : (R : Runs) (x1 : Bool) (x2 : Option Authorization) (x3 : Location) (x4 : ℕ) (x5 : Content) → Same R (content_with x1 x2 x3 x4 x5) (content_with x1 x2 x3 x4 x5)
same_content_with R forces rights x n nothing = same_nil_at R forces
same_content_with R forces rights x n (content t) = same_give R (here rights x (suc n))
same_content_with R forces rights x n no_optional = same_stuck R

pub same_content_at : (R : Runs) (x1 : Bool) (x2 : Standing) → Same R (content_at x1 x2) (content_at x1 x2)
same_content_at R forces (here rights x n) = same_bind R _ _ _ _ (same_read R x) (λ t. (same_content_with R forces rights x n (content_of (or_nil (without n t)))))
same_content_at R forces place = same_stuck R

pub same_named_spot : (R : Runs) (x1 : Option Authorization) (x2 : Location) (x3 : Option Tree) → Same R (named_spot x1 x2 x3) (named_spot x1 x2 x3)
same_named_spot R rights x None = same_stuck R
same_named_spot R rights x (Some t) = same_bind R _ _ _ _ (same_name R x) (λ l. (same_give R (record { rights = rights; label = Some l; tree = t })))

pub same_base_of : (R : Runs) (x1 : Standing) → Same R (base_of x1) (base_of x1)
same_base_of R (here rights x n) = same_bind R _ _ _ _ (same_read R x) (λ t. (same_named_spot R rights x (without n t)))
same_base_of R (led_by t) = same_guard R (is_reference t) _ _ (same_deref R t.shape)
same_base_of R nowhere = same_stuck R

pub same_field_of : (R : Runs) (x1 : Bool) (x2 : Name) (x3 : Spot) → Same R (field_of x1 x2 x3) (field_of x1 x2 x3)
same_field_of R writes n spot = λ s low. (same_some R (composite_id spot.tree) _ _ (λ id. (same_some R (own_member s n id) _ _ (λ m. (same_some R spot.label _ _ (λ l. (same_some R (position_of n (field_names spot.tree.shape)) _ _ (λ i. (same_guard R (may_meet s writes id m l spot.rights) _ _ (same_give R (here (inner_rights spot.rights) (part l i) 0))))))))))) s low

pub same_element_at : (R : Runs) (x1 : Tree) (x2 : ℕ) (x3 : NodeShape) → Same R (element_at x1 x2 x3) (element_at x1 x2 x3)
same_element_at R index l (array type) = same_some R (integer_in index) _ _ (λ i. (same_give R (element l i)))
same_element_at R index l (dictionary key value ks) = same_give R (entry l (value_of index))
same_element_at R index l shape = same_stuck R

pub same_element_of : (R : Runs) (x1 : Bool) (x2 : Tree) (x3 : Spot) → Same R (element_of x1 x2 x3) (element_of x1 x2 x3)
same_element_of R writes index spot = same_guard R (may_replace writes spot.rights && (spot.tree.optionals == 0)) _ _ (same_some R spot.label _ _ (λ l. (same_bind R _ _ _ _ (same_element_at R index l spot.tree.shape) (λ x. (same_give R (here (inner_rights spot.rights) x 0))))))

pub same_value_at : (R : Runs) (x1 : Standing) → Same R (value_at x1) (value_at x1)
same_value_at R (here rights x n) = same_bind R _ _ _ _ (same_read R x) (λ t. (same_give R (or_nil (without n t))))
same_value_at R (led_by t) = same_guard R (is_reference t) _ _ (same_bind R _ _ _ _ (same_deref R t.shape) (λ spot. (same_give R spot.tree)))
same_value_at R nowhere = same_stuck R

pub same_location_of : (R : Runs) (x1 : Standing) → Same R (location_of x1) (location_of x1)
same_location_of R (here rights x zero) = same_give R x
same_location_of R _ = same_stuck R

pub same_taken_from : (R : Runs) (x1 : Standing) → Same R (taken_from x1) (taken_from x1)
same_taken_from R (here rights x zero) = same_guard R (is_variable x) _ _ (same_take R x)
same_taken_from R _ = same_stuck R

pub same_referred_to : (R : Runs) (x1 : Authorization) (x2 : Bool) (x3 : Bool) (x4 : Standing) → Same R (referred_to x1 x2 x3 x4) (referred_to x1 x2 x3 x4)
same_referred_to R a one wraps (here rights x n) = same_guard R (is_owned rights) _ _ (same_bind R _ _ _ _ (same_read R x) (λ t. (same_borrowed R a x one wraps (without n t))))
same_referred_to R a one wraps _ = same_stuck R

pub same_receiver_from : (R : Runs) (x1 : Standing) → Same R (receiver_from x1) (receiver_from x1)
same_receiver_from R (here rights x n) = same_bind R _ _ _ _ (same_read R x) (λ t. (same_receiver_with R rights x (without n t)))
same_receiver_from R (led_by t) = same_guard R (is_reference t) _ _ (same_give R (through t.shape))
same_receiver_from R nowhere = same_stuck R

pub same_receiver_of_chain : (R : Runs) (x1 : Standing) → Same R (receiver_of_chain x1) (receiver_of_chain x1)
same_receiver_of_chain R nowhere = same_give R None
same_receiver_of_chain R place = same_bind R _ _ _ _ (same_receiver_from R place) (λ r. (same_give R (Some r)))
