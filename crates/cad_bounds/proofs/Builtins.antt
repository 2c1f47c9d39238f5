-- Builtins: the same while the units last.
use Rattle.std.specs.Prelude.{ℕ, zero, ◌+◌, ◌-◌, List, [], ◌∷◌, length, option_map}
use Rattle.cad_syntax.specs.Types.{PureType, declared}
use Rattle.cad_syntax.specs.declared.address.Address.{Address}
use Rattle.cad_num.specs.declared.saturation.Op.TheVariants.{Add, Sub, Mul, Div}
use Rattle.cad_types.specs.declared.builtin.Builtin.{Builtin}
use Rattle.cad_types.specs.declared.builtin.Builtin.TheVariants as m
use Rattle.cad_declarations.specs.Builtins.{own_account}
use Rattle.cad_values.specs.Values as v
use Rattle.cad_world.specs.Rows.{NodeShape, Row, Tree}
use Rattle.cad_world.specs.Rows as rows
use Rattle.cad_world.specs.State.{Action}
use Rattle.cad_world.specs.Trees.{tree_weight}
use Rattle.cad_world.specs.Receivers.{Spot}
use Rattle.cad_evaluation.specs.Accounts.{account_reference, any_account}
use Rattle.cad_evaluation.specs.Arguments.{argument}
use Rattle.cad_evaluation.specs.Callees.{Calls}
use Rattle.cad_evaluation.specs.Numbers.{truth_of, saturating}
use Rattle.cad_evaluation.specs.Reading.{composite_id}
use Rattle.cad_evaluation.specs.TypeTexts.{identifier}
use Rattle.cad_evaluation.specs.Texts.{in_tree, text_in, character_in_value, address_in_value, text_tree}
use Rattle.cad_evaluation.specs.Texts as texts
use Rattle.cad_evaluation.specs.Containers.{void_tree}
use Rattle.cad_evaluation.specs.Casts.{type_in_value}
use Rattle.cad_evaluation.specs.Builtins.{by_array, on_array, on_array_at, by_dictionary, on_dictionary, on_dictionary_at, on_text, on_address, raw_value, plain_member, type_member, paid_for, search_cost, home, read_owner, read_account, asserted, account_got, function, is_service, member_of_value, member}
use Rattle.cad_bounds.proofs.Same.{Runs, Same, same_give, same_fail, same_stuck, same_spend, same_some, same_choose, same_by_truth, same_bind}
use Rattle.cad_bounds.proofs.Arguments.{same_with_argument, same_with_arguments}
use Rattle.cad_bounds.proofs.Casts.{same_instance_told, same_type_told}
use Rattle.cad_bounds.proofs.Containers.{same_array_append, same_array_append_all, same_array_concat, same_array_contains, same_array_copy, same_array_first_index, same_array_insert, same_array_remove, same_array_remove_first, same_array_remove_last, same_array_reverse, same_array_slice, same_contains_key, same_dictionary_insert, same_dictionary_keys, same_dictionary_remove}
use Rattle.cad_bounds.proofs.Making.{same_case_from}
use Rattle.cad_bounds.proofs.Numbers.{same_converted, same_greatest_tree, same_least_tree, same_on_numbers}
use Rattle.cad_bounds.proofs.Reading.{same_copied, same_read_uuid}
use Rattle.cad_bounds.proofs.Services.{same_service}
use Rattle.cad_bounds.proofs.Texts.{same_address_bytes, same_address_told, same_given_int, same_number_bytes, same_number_read, same_number_text, same_text_decoded, same_text_encoded, same_text_from_bytes, same_text_joined, same_text_length, same_text_slice}
use Rattle.cad_bounds.proofs.Texts as same_texts
use Rattle.cad_evaluation.specs.Adding.{add}

pub same_by_array : (R : Runs) (x1 : ℕ) (x2 : NodeShape) (x3 : Row) (x4 x4' : PureType → Row → Action Tree) → ((y0 : PureType) (y1 : Row) → Same R (x4 y0 y1) (x4' y0 y1)) → Same R (by_array x1 x2 x3 x4) (by_array x1 x2 x3 x4')
same_by_array R zero (rows.array type) r f f' h_f = h_f type r
same_by_array R n shape r f f' h_f = same_stuck R

pub same_on_array : (R : Runs) (x1 : Spot) (x2 x2' : PureType → Row → Action Tree) → ((y0 : PureType) (y1 : Row) → Same R (x2 y0 y1) (x2' y0 y1)) → Same R (on_array x1 x2) (on_array x1 x2')
same_on_array R spot f f' h_f = same_by_array R spot.tree.optionals spot.tree.shape spot.tree.parts _ _ h_f

pub same_on_array_at : (R : Runs) (x1 : Spot) (x2 x2' : ℕ → PureType → Row → Action Tree) → ((y0 : ℕ) (y1 : PureType) (y2 : Row) → Same R (x2 y0 y1 y2) (x2' y0 y1 y2)) → Same R (on_array_at x1 x2) (on_array_at x1 x2')
same_on_array_at R spot f f' h_f = same_some R spot.label _ _ (λ l. (same_on_array R spot _ _ (λ v1 v2. (h_f l v1 v2))))

pub same_by_dictionary : (R : Runs) (x1 : ℕ) (x2 : NodeShape) (x3 : Row) (x4 x4' : PureType → PureType → List v.PureValue → Row → Action Tree) → ((y0 : PureType) (y1 : PureType) (y2 : List v.PureValue) (y3 : Row) → Same R (x4 y0 y1 y2 y3) (x4' y0 y1 y2 y3)) → Same R (by_dictionary x1 x2 x3 x4) (by_dictionary x1 x2 x3 x4')
same_by_dictionary R zero (rows.dictionary key value ks) r f f' h_f = h_f key value ks r
same_by_dictionary R n shape r f f' h_f = same_stuck R

pub same_on_dictionary : (R : Runs) (x1 : Spot) (x2 x2' : PureType → PureType → List v.PureValue → Row → Action Tree) → ((y0 : PureType) (y1 : PureType) (y2 : List v.PureValue) (y3 : Row) → Same R (x2 y0 y1 y2 y3) (x2' y0 y1 y2 y3)) → Same R (on_dictionary x1 x2) (on_dictionary x1 x2')
same_on_dictionary R spot f f' h_f = same_by_dictionary R spot.tree.optionals spot.tree.shape spot.tree.parts _ _ h_f

pub same_on_dictionary_at : (R : Runs) (x1 : Spot) (x2 x2' : ℕ → PureType → PureType → List v.PureValue → Row → Action Tree) → ((y0 : ℕ) (y1 : PureType) (y2 : PureType) (y3 : List v.PureValue) (y4 : Row) → Same R (x2 y0 y1 y2 y3 y4) (x2' y0 y1 y2 y3 y4)) → Same R (on_dictionary_at x1 x2) (on_dictionary_at x1 x2')
same_on_dictionary_at R spot f f' h_f = same_some R spot.label _ _ (λ l. (same_on_dictionary R spot _ _ (λ v1 v2 v3 v4. (h_f l v1 v2 v3 v4))))

pub same_on_text : (R : Runs) (x1 : Spot) (x2 x2' : List ℕ → Action Tree) → ((y0 : List ℕ) → Same R (x2 y0) (x2' y0)) → Same R (on_text x1 x2) (on_text x1 x2')
same_on_text R spot f f' h_f = same_some R (text_in spot.tree) _ _ h_f

pub same_on_address : (R : Runs) (x1 : Spot) (x2 x2' : Address → Action Tree) → ((y0 : Address) → Same R (x2 y0) (x2' y0)) → Same R (on_address x1 x2) (on_address x1 x2')
same_on_address R spot f f' h_f = same_some R (in_tree address_in_value spot.tree) _ _ h_f

pub same_raw_value : (R : Runs) (x1 : Spot) → Same R (raw_value x1) (raw_value x1)
same_raw_value R spot = same_some R (composite_id spot.tree) _ _ (λ id. (same_some R (argument 0 spot.tree.parts) _ _ (λ v1. (same_copied R v1))))

pub same_plain_member : (R : Runs) (x1 : Builtin) (x2 : Spot) (x3 : Row) → Same R (plain_member x1 x2 x3) (plain_member x1 x2 x3)
same_plain_member R m.ArrayLength spot r = same_on_array R spot _ _ (λ type parts. (same_given_int R (rows.count_places parts)))
same_plain_member R m.ArrayContains spot r = same_on_array R spot _ _ (λ type parts. (same_with_argument R r _ _ (λ v1. (same_array_contains R parts v1))))
same_plain_member R m.ArrayFirstIndex spot r = same_on_array R spot _ _ (λ type parts. (same_with_argument R r _ _ (λ v1. (same_array_first_index R parts v1))))
same_plain_member R m.ArrayConcat spot r = same_on_array R spot _ _ (λ type parts. (same_with_argument R r _ _ (λ v1. (same_array_concat R type parts v1))))
same_plain_member R m.ArraySlice spot r = same_on_array R spot _ _ (λ type parts. (same_with_arguments R r _ _ (λ v1 v2. (same_array_slice R type parts v1 v2))))
same_plain_member R m.ArrayReverse spot r = same_on_array R spot _ _ (λ v1 v2. (same_array_reverse R v1 v2))
same_plain_member R m.ArrayAppend spot r = same_on_array_at R spot _ _ (λ l type parts. (same_with_argument R r _ _ (λ v1. (same_array_append R l type parts v1))))
same_plain_member R m.ArrayAppendAll spot r = same_on_array_at R spot _ _ (λ l type parts. (same_with_argument R r _ _ (λ v1. (same_array_append_all R l type parts v1))))
same_plain_member R m.ArrayInsert spot r = same_on_array_at R spot _ _ (λ l type parts. (same_with_arguments R r _ _ (λ v1 v2. (same_array_insert R l type parts v1 v2))))
same_plain_member R m.ArrayRemove spot r = same_on_array_at R spot _ _ (λ l type parts. (same_with_argument R r _ _ (λ v1. (same_array_remove R l type parts v1))))
same_plain_member R m.ArrayRemoveFirst spot r = same_on_array_at R spot _ _ (λ v1 v2 v3. (same_array_remove_first R v1 v2 v3))
same_plain_member R m.ArrayRemoveLast spot r = same_on_array_at R spot _ _ (λ v1 v2 v3. (same_array_remove_last R v1 v2 v3))
same_plain_member R m.DictionaryLength spot r = same_on_dictionary R spot _ _ (λ key value ks parts. (same_given_int R (length ks)))
same_plain_member R m.DictionaryKeys spot r = same_on_dictionary R spot _ _ (λ key value ks parts. (same_dictionary_keys R key ks))
same_plain_member R m.DictionaryValues spot r = same_on_dictionary R spot _ _ (λ key value ks parts. (same_array_copy R value parts))
same_plain_member R m.DictionaryContainsKey spot r = same_on_dictionary R spot _ _ (λ key value ks parts. (same_with_argument R r _ _ (λ v1. (same_contains_key R ks v1))))
same_plain_member R m.DictionaryInsert spot r = same_on_dictionary_at R spot _ _ (λ l key value ks parts. (same_with_arguments R r _ _ (λ v1 v2. (same_dictionary_insert R l key value ks parts v1 v2))))
same_plain_member R m.DictionaryRemove spot r = same_on_dictionary_at R spot _ _ (λ l key value ks parts. (same_with_argument R r _ _ (λ v1. (same_dictionary_remove R l key value ks parts v1))))
same_plain_member R m.StringLength spot r = same_on_text R spot _ _ (λ v1. (same_text_length R v1))
same_plain_member R m.StringUtf8 spot r = same_on_text R spot _ _ (λ v1. (same_texts.same_bytes_tree R v1))
same_plain_member R m.StringConcat spot r = same_on_text R spot _ _ (λ text. (same_with_argument R r _ _ (λ v1. (same_text_joined R text v1))))
same_plain_member R m.StringSlice spot r = same_on_text R spot _ _ (λ text. (same_with_arguments R r _ _ (λ v1 v2. (same_text_slice R text v1 v2))))
same_plain_member R m.StringDecodeHex spot r = same_on_text R spot _ _ (λ v1. (same_text_decoded R v1))
same_plain_member R m.CharacterToString spot r = same_some R (in_tree character_in_value spot.tree) _ _ (λ text. (same_give R (text_tree text)))
same_plain_member R m.NumberToString spot r = same_number_text R spot.tree
same_plain_member R m.NumberToBigEndianBytes spot r = same_number_bytes R spot.tree
same_plain_member R m.SaturatingAdd spot r = same_with_argument R r _ _ (λ v1. (same_on_numbers R (saturating Add) spot.tree v1))
same_plain_member R m.SaturatingSubtract spot r = same_with_argument R r _ _ (λ v1. (same_on_numbers R (saturating Sub) spot.tree v1))
same_plain_member R m.SaturatingMultiply spot r = same_with_argument R r _ _ (λ v1. (same_on_numbers R (saturating Mul) spot.tree v1))
same_plain_member R m.SaturatingDivide spot r = same_with_argument R r _ _ (λ v1. (same_on_numbers R (saturating Div) spot.tree v1))
same_plain_member R m.AddressToString spot r = same_on_address R spot _ _ (λ v1. (same_address_told R v1))
same_plain_member R m.AddressToBytes spot r = same_on_address R spot _ _ (λ v1. (same_address_bytes R v1))
same_plain_member R m.GetType spot r = same_type_told R spot
same_plain_member R m.IsInstance spot r = same_with_argument R r _ _ (λ v1. (same_instance_told R spot v1))
same_plain_member R m.TypeIdentifier spot r = same_some R (in_tree type_in_value spot.tree) _ _ (λ type. (same_give R (text_tree (identifier type))))
same_plain_member R m.EnumRawValue spot r = same_raw_value R spot
same_plain_member R _ spot r = same_stuck R

pub same_type_member : (R : Runs) (x1 : Builtin) (x2 : List PureType) (x3 : Row) → Same R (type_member x1 x2 x3) (type_member x1 x2 x3)
same_type_member R m.StringEncodeHex types r = same_with_argument R r _ _ (λ v1. (same_text_encoded R v1))
same_type_member R m.StringFromUtf8 types r = same_with_argument R r _ _ (λ v1. (same_text_from_bytes R v1))
same_type_member R (m.NumberConvert kind) types r = same_with_argument R r _ _ (λ v1. (same_converted R kind v1))
same_type_member R (m.NumberFromString kind) types r = same_with_argument R r _ _ (λ v1. (same_number_read R kind v1))
same_type_member R (m.NumberMin kind) types r = same_least_tree R kind
same_type_member R (m.NumberMax kind) types r = same_greatest_tree R kind
same_type_member R m.EnumFromRawValue (declared id ∷ []) r = same_with_argument R r _ _ (λ v1. (same_case_from R id v1))
same_type_member R _ types r = same_stuck R

pub same_paid_for : (R : Runs) (x1 : ℕ) (x2 x2' : Action Tree) → Same R x2 x2' → Same R (paid_for x1 x2) (paid_for x1 x2')
same_paid_for R n p p' h_p = same_bind R _ _ _ _ h_p (λ t. (same_bind R _ _ _ _ (same_spend R ((tree_weight t - 1) + n)) (λ u1. (same_give R t))))

pub same_read_owner : (R : Runs) (x1 : Spot) → Same R (read_owner x1) (read_owner x1)
same_read_owner R spot = same_some R spot.label _ _ (λ l. (λ s low. (same_give R (texts.optional_tree (option_map any_account (home s l)))) s low))

pub same_read_account : (R : Runs) (x1 : Spot) → Same R (read_account x1) (read_account x1)
same_read_account R spot = same_some R (composite_id spot.tree) _ _ (λ id. (same_give R (account_reference own_account id.address)))

pub same_asserted : (R : Runs) (x1 : Row) → Same R (asserted x1) (asserted x1)
same_asserted R r = same_with_argument R r _ _ (λ t. (same_by_truth R (truth_of t) _ _ _ _ (same_give R void_tree) (same_fail R 110)))

pub same_account_got : (R : Runs) (x1 : Row) → Same R (account_got x1) (account_got x1)
same_account_got R r = same_with_argument R r _ _ (λ t. (same_some R (in_tree address_in_value t) _ _ (λ a. (same_give R (any_account a)))))

pub same_function : (R : Runs) (x1 : Builtin) (x2 : List PureType) (x3 : Row) → Same R (function x1 x2 x3) (function x1 x2 x3)
same_function R m.Panic types r = same_fail R 109
same_function R m.Assert types r = same_asserted R r
same_function R m.Log types r = same_give R void_tree
same_function R m.GetAccount types r = same_account_got R r
same_function R member types r = same_paid_for R 0 _ _ (same_type_member R member types r)

pub same_member_of_value : (R : Runs) (x1 : Builtin) (x2 : Spot) (x3 : Row) → Same R (member_of_value x1 x2 x3) (member_of_value x1 x2 x3)
same_member_of_value R m.ResourceUuid spot r = same_read_uuid R spot
same_member_of_value R m.ResourceOwner spot r = same_read_owner R spot
same_member_of_value R m.ContractAccount spot r = same_read_account R spot
same_member_of_value R member spot r = same_paid_for R (search_cost member spot) _ _ (same_plain_member R member spot r)

pub same_member : (R : Runs) (calls calls' : Calls) (x3 : Builtin) (x4 : List PureType) (x5 : Spot) (x6 : Row) → ((x : Address) → Same R (add R.first calls x6 x) (add R.second calls' x6 x)) → Same R (member R.first calls x3 x4 x5 x6) (member R.second calls' x3 x4 x5 x6)
same_member R calls calls' b types spot r adds = same_choose R (is_service b) _ _ _ _ (same_service R calls calls' b types spot r adds) (same_member_of_value R b spot r)
