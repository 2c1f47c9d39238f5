-- Built-in members: labels are kept apart, where the receiver is as it stands now.
use Rattle.cad_evaluation.specs.Services.{service}
use Rattle.std.specs.Prelude.{ℕ, zero, ◌+◌, ◌-◌, List, length}
use Rattle.cad_syntax.specs.Types.{PureType}
use Rattle.cad_num.specs.declared.saturation.Op.TheVariants.{Add, Sub, Mul, Div}
use Rattle.cad_types.specs.declared.builtin.Builtin.{Builtin}
use Rattle.cad_types.specs.declared.builtin.Builtin.TheVariants as m
use Rattle.cad_values.specs.Values as v
use Rattle.cad_world.specs.Rows.{NodeShape, Row, Tree}
use Rattle.cad_world.specs.Rows as rows
use Rattle.cad_world.specs.State.{Action}
use Rattle.cad_world.specs.Trees.{tree_weight}
use Rattle.cad_world.specs.Receivers.{Spot}
use Rattle.cad_evaluation.specs.Arguments.{argument}
use Rattle.cad_evaluation.specs.Numbers.{saturating}
use Rattle.cad_evaluation.specs.TypeTexts.{identifier}
use Rattle.cad_evaluation.specs.Texts.{in_tree, character_in_value, text_tree}
use Rattle.cad_evaluation.specs.Casts.{type_in_value}
use Rattle.cad_evaluation.specs.Builtins.{by_array, on_array_at, by_dictionary, on_dictionary_at, plain_member, paid_for, search_cost, is_service, member_of_value}
use Rattle.std.proofs.Common.{refl}
use Rattle.cad_labels.specs.Laws.{HasNone, HasNoneInRow, AnyOne}
use Rattle.cad_world.specs.State.{give}
use Rattle.cad_label_runs.proofs.Arguments.{with_arguments_keeps}
use Rattle.cad_label_runs.proofs.Casts.{instance_told_keeps, type_told_keeps}
use Rattle.cad_label_runs.proofs.Numbers.{on_numbers_keeps}
use Rattle.cad_label_runs.proofs.Reading.{read_uuid_keeps}
use Rattle.cad_label_runs.proofs.Services.{service_keeps}
use Rattle.cad_label_runs.proofs.Texts.{address_bytes_keeps, address_told_keeps, bytes_tree_keeps, given_int_keeps, number_bytes_keeps, number_text_keeps, text_decoded_keeps, text_joined_keeps, text_length_keeps, text_slice_keeps}
use Rattle.cad_labels.proofs.Forms.{keeps_give, keeps_some, keeps_spend}
use Rattle.cad_labels.proofs.Keeping.{keeps_bind}
use Rattle.cad_labels.proofs.Members.{array_copy_keeps}
use Rattle.std.proofs.Common.{◌≡◌, Option, Some, None, refl, subst}
use Rattle.cad_world.specs.Labels.{at}
use Rattle.cad_world.specs.Marks.{AreGivenOnce}
use Rattle.cad_world.specs.Rows.{Found}
use Rattle.cad_world.specs.State.{State, with_some}
use Rattle.cad_evaluation.specs.Arguments.{with_argument, with_arguments}
use Rattle.cad_labels.specs.Laws.{Gives}
use Rattle.cad_labels.proofs.Keeping.{gives_bind, gives_choose}
use Rattle.cad_labels.proofs.Forms.{argument_none, Within}
use Rattle.cad_labels.proofs.Members.{arrays_keep, dictionaries_keep, concat_keeps, slice_keeps, reverse_keeps, keys_have_none}
use Rattle.cad_label_runs.specs.Laws.{StandsNow, MembersKeepLabels}
use Rattle.cad_label_runs.proofs.Containers.{array_contains_keeps, array_first_index_keeps, contains_key_keeps}
use Rattle.cad_label_runs.proofs.Builtins.{on_array_keeps, on_dictionary_keeps, on_text_keeps, on_address_keeps, raw_value_keeps, read_owner_keeps, read_account_keeps}

-- ---- arguments

within_gives : {A : Type 0} (P : A → Type 0) (o : Option A) (f : A → Action Tree) (s : State) → Within P o → ((a : A) → P a → Gives HasNone s (f a s)) → Gives HasNone s (with_some o f s)
within_gives P None f s h k = tt
within_gives P (Some a) f s h k = k a h

argument_gives : (r : Row) (f : Tree → Action Tree) (s : State) → HasNoneInRow r → ((t : Tree) → HasNone t → Gives HasNone s (f t s)) → Gives HasNone s (with_argument r f s)
argument_gives r f s none h = within_gives HasNone (argument 0 r) f s (argument_none 0 r none) h

arguments_give : (r : Row) (f : Tree → Tree → Action Tree) (s : State) → HasNoneInRow r → ((a b : Tree) → HasNone b → Gives HasNone s (f a b s)) → Gives HasNone s (with_arguments r f s)
arguments_give r f s none h = within_gives HasNone (argument 0 r) _ s (argument_none 0 r none)
    (λ a h_a. within_gives HasNone (argument 1 r) (f a) s (argument_none 1 r none) (λ b h_b. h a b h_b))

-- ---- the node with the receiver's label

array_gives : (o : Option ℕ) (n : ℕ) (shape : NodeShape) (r : Row) (f : ℕ → PureType → Row → Action Tree) (s : State) → StandsNow o r s
    → ((l : ℕ) (x : Found) (type : PureType) → at l s ≡ Some x → Gives HasNone s (f l type x.tree.parts s)) → Gives HasNone s (with_some o (λ l. by_array n shape r (f l)) s)
array_gives None n shape r f s now h = tt
array_gives (Some l) zero (rows.array type) r f s now h = subst (λ (q : Row). Gives HasNone s (f l type q s)) now.2 (h l now.0 type now.1)
array_gives (Some l) n shape r f s now h = tt

at_array_gives : (spot : Spot) (f : ℕ → PureType → Row → Action Tree) (s : State) → StandsNow spot.label spot.tree.parts s
    → ((l : ℕ) (x : Found) (type : PureType) → at l s ≡ Some x → Gives HasNone s (f l type x.tree.parts s)) → Gives HasNone s (on_array_at spot f s)
at_array_gives spot f s now h = array_gives spot.label spot.tree.optionals spot.tree.shape spot.tree.parts f s now h

dictionary_gives : (o : Option ℕ) (n : ℕ) (shape : NodeShape) (r : Row) (f : ℕ → PureType → PureType → List v.PureValue → Row → Action Tree) (s : State) → StandsNow o r s
    → ((l : ℕ) (x : Found) (key value : PureType) (ks : List v.PureValue) → at l s ≡ Some x → Gives HasNone s (f l key value ks x.tree.parts s))
    → Gives HasNone s (with_some o (λ l. by_dictionary n shape r (f l)) s)
dictionary_gives None n shape r f s now h = tt
dictionary_gives (Some l) zero (rows.dictionary key value ks) r f s now h = subst (λ (q : Row). Gives HasNone s (f l key value ks q s)) now.2 (h l now.0 key value ks now.1)
dictionary_gives (Some l) n shape r f s now h = tt

at_dictionary_gives : (spot : Spot) (f : ℕ → PureType → PureType → List v.PureValue → Row → Action Tree) (s : State) → StandsNow spot.label spot.tree.parts s
    → ((l : ℕ) (x : Found) (key value : PureType) (ks : List v.PureValue) → at l s ≡ Some x → Gives HasNone s (f l key value ks x.tree.parts s)) → Gives HasNone s (on_dictionary_at spot f s)
at_dictionary_gives spot f s now h = dictionary_gives spot.label spot.tree.optionals spot.tree.shape spot.tree.parts f s now h

-- ---- members

plain_member_gives : (b : Builtin) (spot : Spot) (r : Row) (s : State) → StandsNow spot.label spot.tree.parts s → HasNoneInRow r → AreGivenOnce s → Gives HasNone s (plain_member b spot r s)
plain_member_gives m.ArrayLength spot r s now none once = (on_array_keeps spot _ (λ type parts. given_int_keeps (rows.count_places parts))) s once
plain_member_gives m.ArrayContains spot r s now none once = (on_array_keeps spot _ (λ type parts. keeps_some HasNone (argument 0 r) _ (λ v1. array_contains_keeps parts v1))) s once
plain_member_gives m.ArrayFirstIndex spot r s now none once = (on_array_keeps spot _ (λ type parts. keeps_some HasNone (argument 0 r) _ (λ v1. array_first_index_keeps parts v1))) s once
plain_member_gives m.ArrayConcat spot r s now none once = (on_array_keeps spot _ (λ type parts. keeps_some HasNone (argument 0 r) _ (λ v1. concat_keeps type parts v1))) s once
plain_member_gives m.ArraySlice spot r s now none once = (on_array_keeps spot _ (λ type parts. with_arguments_keeps r _ none (λ v1 v2 h_v1 h_v2. slice_keeps type parts v1 v2))) s once
plain_member_gives m.ArrayReverse spot r s now none once = (on_array_keeps spot _ (λ v1 v2. reverse_keeps v1 v2)) s once
plain_member_gives m.ArrayAppend spot r s now none once = at_array_gives spot _ s now (λ l x type e. argument_gives r _ s none (λ t h. (arrays_keep l x type s e once).0 t h))
plain_member_gives m.ArrayAppendAll spot r s now none once = at_array_gives spot _ s now (λ l x type e. argument_gives r _ s none (λ t h. (arrays_keep l x type s e once).1 t h))
plain_member_gives m.ArrayInsert spot r s now none once = at_array_gives spot _ s now (λ l x type e. arguments_give r _ s none (λ i t h. (arrays_keep l x type s e once).2 i t h))
plain_member_gives m.ArrayRemove spot r s now none once = at_array_gives spot _ s now (λ l x type e. argument_gives r _ s none (λ i h. (arrays_keep l x type s e once).3 i))
plain_member_gives m.ArrayRemoveFirst spot r s now none once = at_array_gives spot _ s now (λ l x type e. (arrays_keep l x type s e once).4)
plain_member_gives m.ArrayRemoveLast spot r s now none once = at_array_gives spot _ s now (λ l x type e. (arrays_keep l x type s e once).5)
plain_member_gives m.DictionaryLength spot r s now none once = (on_dictionary_keeps spot _ (λ key value ks parts. given_int_keeps (length ks))) s once
plain_member_gives m.DictionaryKeys spot r s now none once = (on_dictionary_keeps spot _ (λ key value ks parts. keys_have_none key ks)) s once
plain_member_gives m.DictionaryValues spot r s now none once = (on_dictionary_keeps spot _ (λ key value ks parts. array_copy_keeps value parts)) s once
plain_member_gives m.DictionaryContainsKey spot r s now none once = (on_dictionary_keeps spot _ (λ key value ks parts. keeps_some HasNone (argument 0 r) _ (λ v1. contains_key_keeps ks v1))) s once
plain_member_gives m.DictionaryInsert spot r s now none once = at_dictionary_gives spot _ s now (λ l x key value ks e. arguments_give r _ s none (λ k t h. (dictionaries_keep l x key value ks s e once).0 k t h))
plain_member_gives m.DictionaryRemove spot r s now none once = at_dictionary_gives spot _ s now (λ l x key value ks e. argument_gives r _ s none (λ k h. (dictionaries_keep l x key value ks s e once).1 k))
plain_member_gives m.StringLength spot r s now none once = (on_text_keeps spot _ (λ v1. text_length_keeps v1)) s once
plain_member_gives m.StringUtf8 spot r s now none once = (on_text_keeps spot _ (λ v1. bytes_tree_keeps v1)) s once
plain_member_gives m.StringConcat spot r s now none once = (on_text_keeps spot _ (λ text. keeps_some HasNone (argument 0 r) _ (λ v1. text_joined_keeps text v1))) s once
plain_member_gives m.StringSlice spot r s now none once = (on_text_keeps spot _ (λ text. with_arguments_keeps r _ none (λ v1 v2 h_v1 h_v2. text_slice_keeps text v1 v2))) s once
plain_member_gives m.StringDecodeHex spot r s now none once = (on_text_keeps spot _ (λ v1. text_decoded_keeps v1)) s once
plain_member_gives m.CharacterToString spot r s now none once = (keeps_some HasNone (in_tree character_in_value spot.tree) (λ text. give (text_tree text)) (λ text. keeps_give HasNone (text_tree text) (λ p. refl))) s once
plain_member_gives m.NumberToString spot r s now none once = (number_text_keeps spot.tree) s once
plain_member_gives m.NumberToBigEndianBytes spot r s now none once = (number_bytes_keeps spot.tree) s once
plain_member_gives m.SaturatingAdd spot r s now none once = (keeps_some HasNone (argument 0 r) _ (λ v1. on_numbers_keeps (saturating Add) spot.tree v1)) s once
plain_member_gives m.SaturatingSubtract spot r s now none once = (keeps_some HasNone (argument 0 r) _ (λ v1. on_numbers_keeps (saturating Sub) spot.tree v1)) s once
plain_member_gives m.SaturatingMultiply spot r s now none once = (keeps_some HasNone (argument 0 r) _ (λ v1. on_numbers_keeps (saturating Mul) spot.tree v1)) s once
plain_member_gives m.SaturatingDivide spot r s now none once = (keeps_some HasNone (argument 0 r) _ (λ v1. on_numbers_keeps (saturating Div) spot.tree v1)) s once
plain_member_gives m.AddressToString spot r s now none once = (on_address_keeps spot _ (λ v1. address_told_keeps v1)) s once
plain_member_gives m.AddressToBytes spot r s now none once = (on_address_keeps spot _ (λ v1. address_bytes_keeps v1)) s once
plain_member_gives m.GetType spot r s now none once = (type_told_keeps spot) s once
plain_member_gives m.IsInstance spot r s now none once = (keeps_some HasNone (argument 0 r) _ (λ v1. instance_told_keeps spot v1)) s once
plain_member_gives m.TypeIdentifier spot r s now none once = (keeps_some HasNone (in_tree type_in_value spot.tree) (λ type. give (text_tree (identifier type))) (λ type. keeps_give HasNone (text_tree (identifier type)) (λ p. refl))) s once
plain_member_gives m.EnumRawValue spot r s now none once = (raw_value_keeps spot) s once
plain_member_gives _ spot r s now none once = tt

paid_gives : (n : ℕ) (p : Action Tree) (s : State) → Gives HasNone s (p s) → Gives HasNone s (paid_for n p s)
paid_gives n p s h = gives_bind HasNone HasNone s (p s) _ h (λ t h_t. keeps_bind AnyOne HasNone _ (λ u. give t) (keeps_spend ((tree_weight t - 1) + n)) (λ u w. keeps_give HasNone t h_t))

member_of_value_gives : (b : Builtin) (spot : Spot) (r : Row) (s : State) → StandsNow spot.label spot.tree.parts s → HasNoneInRow r → AreGivenOnce s → Gives HasNone s (member_of_value b spot r s)
member_of_value_gives m.ResourceUuid spot r s now none once = read_uuid_keeps spot s once
member_of_value_gives m.ResourceOwner spot r s now none once = read_owner_keeps spot s once
member_of_value_gives m.ContractAccount spot r s now none once = read_account_keeps spot s once
member_of_value_gives b spot r s now none once = paid_gives (search_cost b spot) (plain_member b spot r) s (plain_member_gives b spot r s now none once)

pub members_keep : MembersKeepLabels
members_keep front calls b types spot r s keep none now once = gives_choose HasNone (is_service b) (service front calls b types spot r) (member_of_value b spot r) s
    (service_keeps front calls b types spot r keep none s once) (member_of_value_gives b spot r s now none once)
