-- Builtins: labels are kept apart, and values in hand have none.
use Rattle.std.specs.Prelude.{ℕ, zero, ◌+◌, ◌-◌, List, [], ◌∷◌, option_map}
use Rattle.cad_syntax.specs.Types.{PureType, declared}
use Rattle.cad_syntax.specs.declared.address.Address.{Address}
use Rattle.cad_types.specs.declared.builtin.Builtin.{Builtin}
use Rattle.cad_types.specs.declared.builtin.Builtin.TheVariants as m
use Rattle.cad_declarations.specs.Builtins.{own_account}
use Rattle.cad_values.specs.Values as v
use Rattle.cad_world.specs.Rows.{NodeShape, Row, Tree}
use Rattle.cad_world.specs.Rows as rows
use Rattle.cad_world.specs.State.{Action}
use Rattle.cad_world.specs.Trees.{tree_weight}
use Rattle.cad_world.specs.Receivers.{Spot}
use Rattle.cad_evaluation.specs.Accounts.{account_reference, any_account}
use Rattle.cad_evaluation.specs.Arguments.{argument}
use Rattle.cad_evaluation.specs.Numbers.{truth_of}
use Rattle.cad_evaluation.specs.Reading.{composite_id}
use Rattle.cad_evaluation.specs.Texts.{in_tree, text_in, character_in_value, address_in_value, text_tree}
use Rattle.cad_evaluation.specs.Texts as texts
use Rattle.cad_evaluation.specs.Containers.{void_tree}
use Rattle.cad_evaluation.specs.Builtins.{by_array, on_array, by_dictionary, on_dictionary, on_text, on_address, raw_value, type_member, paid_for, home, read_owner, read_account, asserted, account_got, function, member}
use Rattle.std.proofs.Common.{refl}
use Rattle.cad_labels.specs.Laws.{HasNone, Keeps, AnyOne}
use Rattle.cad_world.specs.State.{give, fail}
use Rattle.cad_label_runs.proofs.Making.{case_from_keeps}
use Rattle.cad_label_runs.proofs.Numbers.{converted_keeps, greatest_tree_keeps, least_tree_keeps}
use Rattle.cad_label_runs.proofs.Texts.{number_read_keeps, text_encoded_keeps, text_from_bytes_keeps}
use Rattle.cad_label_runs.proofs.Values.{account_none}
use Rattle.cad_labels.proofs.Forms.{keeps_by_truth, keeps_fail, keeps_give, keeps_some, keeps_spend, keeps_stuck, mapped_within, optional_none}
use Rattle.cad_labels.proofs.Keeping.{keeps_bind}
use Rattle.cad_labels.proofs.Members.{copied_keeps}

pub by_array_keeps : (x1 : ℕ) (x2 : NodeShape) (x3 : Row) (x4 : PureType → Row → Action Tree) → ((y0 : PureType) (y1 : Row) → Keeps HasNone (x4 y0 y1)) → Keeps HasNone (by_array x1 x2 x3 x4)
by_array_keeps zero (rows.array type) r f h_f = h_f type r
by_array_keeps n shape r f h_f = keeps_stuck HasNone

pub on_array_keeps : (x1 : Spot) (x2 : PureType → Row → Action Tree) → ((y0 : PureType) (y1 : Row) → Keeps HasNone (x2 y0 y1)) → Keeps HasNone (on_array x1 x2)
on_array_keeps spot f h_f = by_array_keeps spot.tree.optionals spot.tree.shape spot.tree.parts _ (λ w1 w2. h_f w1 w2)

pub by_dictionary_keeps : (x1 : ℕ) (x2 : NodeShape) (x3 : Row) (x4 : PureType → PureType → List v.PureValue → Row → Action Tree) → ((y0 : PureType) (y1 : PureType) (y2 : List v.PureValue) (y3 : Row) → Keeps HasNone (x4 y0 y1 y2 y3)) → Keeps HasNone (by_dictionary x1 x2 x3 x4)
by_dictionary_keeps zero (rows.dictionary key value ks) r f h_f = h_f key value ks r
by_dictionary_keeps n shape r f h_f = keeps_stuck HasNone

pub on_dictionary_keeps : (x1 : Spot) (x2 : PureType → PureType → List v.PureValue → Row → Action Tree) → ((y0 : PureType) (y1 : PureType) (y2 : List v.PureValue) (y3 : Row) → Keeps HasNone (x2 y0 y1 y2 y3)) → Keeps HasNone (on_dictionary x1 x2)
on_dictionary_keeps spot f h_f = by_dictionary_keeps spot.tree.optionals spot.tree.shape spot.tree.parts _ (λ w3 w4 w5 w6. h_f w3 w4 w5 w6)

pub on_text_keeps : (x1 : Spot) (x2 : List ℕ → Action Tree) → ((y0 : List ℕ) → Keeps HasNone (x2 y0)) → Keeps HasNone (on_text x1 x2)
on_text_keeps spot f h_f = keeps_some HasNone (text_in spot.tree) _ (λ w7. h_f w7)

pub on_address_keeps : (x1 : Spot) (x2 : Address → Action Tree) → ((y0 : Address) → Keeps HasNone (x2 y0)) → Keeps HasNone (on_address x1 x2)
on_address_keeps spot f h_f = keeps_some HasNone (in_tree address_in_value spot.tree) _ (λ w8. h_f w8)

pub raw_value_keeps : (x1 : Spot) → Keeps HasNone (raw_value x1)
raw_value_keeps spot = keeps_some HasNone (composite_id spot.tree) _ (λ id. keeps_some HasNone (argument 0 spot.tree.parts) _ (λ v1. copied_keeps v1))

pub type_member_keeps : (x1 : Builtin) (x2 : List PureType) (x3 : Row) → Keeps HasNone (type_member x1 x2 x3)
type_member_keeps m.StringEncodeHex types r = keeps_some HasNone (argument 0 r) _ (λ v1. text_encoded_keeps v1)
type_member_keeps m.StringFromUtf8 types r = keeps_some HasNone (argument 0 r) _ (λ v1. text_from_bytes_keeps v1)
type_member_keeps (m.NumberConvert kind) types r = keeps_some HasNone (argument 0 r) _ (λ v1. converted_keeps kind v1)
type_member_keeps (m.NumberFromString kind) types r = keeps_some HasNone (argument 0 r) _ (λ v1. number_read_keeps kind v1)
type_member_keeps (m.NumberMin kind) types r = least_tree_keeps kind
type_member_keeps (m.NumberMax kind) types r = greatest_tree_keeps kind
type_member_keeps m.EnumFromRawValue (declared id ∷ []) r = keeps_some HasNone (argument 0 r) _ (λ v1. case_from_keeps id v1)
type_member_keeps _ types r = keeps_stuck HasNone

pub paid_for_keeps : (x1 : ℕ) (x2 : Action Tree) → Keeps HasNone x2 → Keeps HasNone (paid_for x1 x2)
paid_for_keeps n p h_p = keeps_bind HasNone HasNone _ _ h_p (λ t h_t. keeps_bind AnyOne HasNone _ (λ u1. give t) (keeps_spend ((tree_weight t - 1) + n)) (λ u1 h_u1. keeps_give HasNone t h_t))

pub read_owner_keeps : (x1 : Spot) → Keeps HasNone (read_owner x1)
read_owner_keeps spot = keeps_some HasNone spot.label _ (λ l. λ s once. (keeps_give HasNone (texts.optional_tree (option_map any_account (home s l))) (optional_none (option_map any_account (home s l)) (mapped_within HasNone any_account (home s l) (λ a p. refl)))) s once)

pub read_account_keeps : (x1 : Spot) → Keeps HasNone (read_account x1)
read_account_keeps spot = keeps_some HasNone (composite_id spot.tree) (λ id. give (account_reference own_account id.address)) (λ id. keeps_give HasNone (account_reference own_account id.address) (account_none own_account id.address))

pub asserted_keeps : (x1 : Row) → Keeps HasNone (asserted x1)
asserted_keeps r = keeps_some HasNone (argument 0 r) _ (λ t. keeps_by_truth HasNone (truth_of t) (give void_tree) (fail 110) (keeps_give HasNone void_tree (λ p. refl)) (keeps_fail HasNone 110))

pub account_got_keeps : (x1 : Row) → Keeps HasNone (account_got x1)
account_got_keeps r = keeps_some HasNone (argument 0 r) _ (λ t. keeps_some HasNone (in_tree address_in_value t) (λ a. give (any_account a)) (λ a. keeps_give HasNone (any_account a) (λ p. refl)))

pub function_keeps : (x1 : Builtin) (x2 : List PureType) (x3 : Row) → Keeps HasNone (function x1 x2 x3)
function_keeps m.Panic types r = keeps_fail HasNone 109
function_keeps m.Assert types r = asserted_keeps r
function_keeps m.Log types r = keeps_give HasNone void_tree (λ p. refl)
function_keeps m.GetAccount types r = account_got_keeps r
function_keeps member types r = paid_for_keeps 0 (type_member member types r) (type_member_keeps member types r)
