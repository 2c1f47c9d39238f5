-- A place that is cast: labels are kept apart, and the value in hand has none.
use Rattle.std.proofs.Common.{zero, suc, Option, Some, None}
use Rattle.cad_labels.specs.Laws.{HasNone, Keeps, AnyOne}
use Rattle.cad_labels.proofs.Accounts.{type_keeps}
use Rattle.cad_labels.proofs.Forms.{keeps_choose, keeps_give, keeps_guard, keeps_stuck}
use Rattle.cad_labels.proofs.Keeping.{keeps_bind}
use Rattle.cad_labels.proofs.Places.{read_keeps, taking_keeps, transferred_keeps}
use Rattle.cad_syntax.specs.Types.{PureType, optional}
use Rattle.cad_types.specs.Below.{below}
use Rattle.cad_evaluation.specs.Standing.{Standing, here, led_by, nowhere, is_variable}
use Rattle.cad_world.specs.Declared.{declarations}
use Rattle.cad_world.specs.Locations.{Location}
use Rattle.cad_world.specs.Rows.{Tree}
use Rattle.cad_world.specs.State.{give}
use Rattle.cad_world.specs.Trees.{wrapped}
use Rattle.cad_standing.specs.CastPlaces.{cast_content, cast_value, cast_place}

-- the value, where there is one
abbrev pub HasNoneIfAny : Option Tree → Type 0
HasNoneIfAny None = Unit {0}
HasNoneIfAny (Some t) = HasNone t

content_keeps : (type : PureType) (t : Tree) → HasNone t → Keeps HasNoneIfAny (cast_content type t)
content_keeps type t none =
    keeps_bind HasNone HasNoneIfAny _ (λ v. give (Some v)) (transferred_keeps (optional type) (wrapped t) none) (λ v h_v. keeps_give HasNoneIfAny (Some v) h_v)

value_keeps : (type : PureType) (x : Location) (t : Option Tree) → Keeps HasNoneIfAny (cast_value type x t)
value_keeps type x None = keeps_stuck HasNoneIfAny
value_keeps type x (Some t) = type_keeps HasNoneIfAny t _ (λ own. λ s once. keeps_choose HasNoneIfAny (below (declarations s) own type) _ _
    (keeps_bind HasNone HasNoneIfAny _ _ (keeps_bind HasNone HasNone _ _ (taking_keeps x) (λ v h_v. transferred_keeps type v h_v)) (λ v h_v. content_keeps type v h_v))
    (keeps_give HasNoneIfAny None tt) s once)

pub cast_place_keeps : (type : PureType) (place : Standing) → Keeps HasNoneIfAny (cast_place type place)
cast_place_keeps type (here rights x zero) = keeps_guard HasNoneIfAny (is_variable x) _ (keeps_bind AnyOne HasNoneIfAny _ _ (read_keeps x) (λ t h_t. value_keeps type x t))
cast_place_keeps type (here rights x (suc n)) = keeps_stuck HasNoneIfAny
cast_place_keeps type (led_by t) = keeps_stuck HasNoneIfAny
cast_place_keeps type nowhere = keeps_stuck HasNoneIfAny
