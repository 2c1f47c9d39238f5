-- Which references lead to accounts and their parts.
use Rattle.std.proofs.Common.{◌≡◌, Bool, true, false, refl, sym}
use Rattle.std.specs.Prelude.{Option, Some, None, if◌then◌else◌}
use Rattle.cad_evaluation.specs.Accounts.{account_in_value}
use Rattle.cad_services.specs.Code.Services.{address_in_target, is_part}
use Rattle.cad_syntax.specs.Types.{PureType, basic, optional, array, dictionary, intersection, declared, reference, capability, capability_of}
use Rattle.cad_syntax.specs.declared.types.Authorization.{Authorization}
use Rattle.cad_syntax.specs.declared.types.Basic.{Basic}
use Rattle.cad_types.specs.Basics.{same_basic}
use Rattle.cad_values.specs.Values as v
use Rattle.cad_values.specs.declared.value.Target.{Target}
use Rattle.cad_values.specs.declared.value.Target.TheVariants as to

either : {A : Type 0} (b : Bool) (x : A) → (if b then x else x) ≡ x
either true x = refl
either false x = refl

-- by the type first, then by what it leads to
pub account_named : (part : Basic) (a : Authorization) (t : PureType) (target : Target) → account_in_value part (v.reference a t target) ≡ (if is_part part t then address_in_target target else None)
account_named part a (basic t) (to.Account x) = refl
account_named part a (basic t) (to.Node l) = sym (either (same_basic t part) None)
account_named part a (basic t) (to.Stored x n) = sym (either (same_basic t part) None)
account_named part a (basic t) (to.Controller x n) = sym (either (same_basic t part) None)
account_named part a (optional t) target = refl
account_named part a (array t) target = refl
account_named part a (dictionary t u) target = refl
account_named part a (intersection ids) target = refl
account_named part a (declared id) target = refl
account_named part a (reference b t) target = refl
account_named part a capability target = refl
account_named part a (capability_of t) target = refl
