-- Texts: labels are kept apart, and values in hand have none.
use Rattle.std.specs.Prelude.{ℕ, ◌+◌, ◌*◌, nat_le, List, ◌++◌, length, option_map, option_and_then, Result, Ok, Err}
use Rattle.std.specs.Prelude.{unsigned_abs}
use Rattle.hex.specs.Hex.{decode_of, encode_lower}
use Rattle.cad_syntax.specs.Addresses.{address_text}
use Rattle.cad_syntax.specs.declared.address.Address.{Address}
use Rattle.cad_syntax.specs.declared.kind.Kind.{Kind}
use Rattle.cad_text.specs.Texts.{most_bytes, characters, part, are_places, is_hex}
use Rattle.cad_num.specs.Numbers.{value_of, twos_complement}
use Rattle.cad_num.specs.Decimal.{read_of, written}
use Rattle.cad_values.specs.Fits.{most_elements}
use Rattle.cad_world.specs.Rows.{Tree}
use Rattle.cad_world.specs.Rows as rows
use Rattle.cad_world.specs.Trees.{whole}
use Rattle.cad_evaluation.specs.Numbers.{number_from, number_tree, number_in, integer_in}
use Rattle.std.proofs.Common.{refl}
use Rattle.cad_evaluation.specs.Texts.{text_in, text_tree, int_tree, given_int, optional_tree, byte_type, bytes_row, bytes_tree, bytes_in, text_length, text_joined, text_slice, decoded, text_decoded, text_encoded, text_of_bytes, text_from_bytes, number_text, number_read, width, big_endian, number_bytes, address_bytes, address_told}
use Rattle.std.proofs.Common.{refl}
use Rattle.cad_labels.specs.Laws.{HasNone, HasNoneInRow, Keeps}
use Rattle.cad_world.specs.State.{give}
use Rattle.cad_label_runs.proofs.Values.{bytes_none, int_none, text_none}
use Rattle.cad_labels.proofs.Forms.{keeps_give, keeps_require, keeps_some, keeps_within, mapped_within, optional_none}

pub given_int_keeps : (x1 : ℕ) → Keeps HasNone (given_int x1)
given_int_keeps n = keeps_within HasNone HasNone (int_tree n) _ (int_none n) (λ v1 h_v1. keeps_give HasNone v1 h_v1)

pub bytes_tree_keeps : (x1 : List ℕ) → Keeps HasNone (bytes_tree x1)
bytes_tree_keeps bytes = keeps_require HasNone 123 (nat_le (length bytes) most_elements) _ (keeps_within HasNoneInRow HasNone (bytes_row bytes) _ (bytes_none bytes) (λ r h_r. keeps_give HasNone (whole (rows.array byte_type) r) h_r))

pub text_length_keeps : (x1 : List ℕ) → Keeps HasNone (text_length x1)
text_length_keeps text = given_int_keeps (length (characters text))

pub text_joined_keeps : (x1 : List ℕ) (x2 : Tree) → Keeps HasNone (text_joined x1 x2)
text_joined_keeps text other = keeps_some HasNone (text_in other) _ (λ o. keeps_require HasNone 123 (nat_le (length text + length o) most_bytes) (give (text_tree (text ++ o))) (keeps_give HasNone (text_tree (text ++ o)) (λ p. refl)))

pub text_slice_keeps : (x1 : List ℕ) (x2 : Tree) (x3 : Tree) → Keeps HasNone (text_slice x1 x2 x3)
text_slice_keeps text from up_to = keeps_some HasNone (integer_in from) _ (λ i. keeps_some HasNone (integer_in up_to) _ (λ j. keeps_require HasNone 105 (are_places text i j) (give (text_tree (part text (unsigned_abs i) (unsigned_abs j)))) (keeps_give HasNone (text_tree (part text (unsigned_abs i) (unsigned_abs j))) (λ p. refl))))

pub decoded_keeps : {E : Type 0} (x1 : Result (List ℕ) E) → Keeps HasNone (decoded x1)
decoded_keeps (Ok bytes) = bytes_tree_keeps bytes
decoded_keeps (Err e) = λ s once. tt

pub text_decoded_keeps : (x1 : List ℕ) → Keeps HasNone (text_decoded x1)
text_decoded_keeps text = keeps_require HasNone 122 (is_hex text) _ (decoded_keeps (decode_of text))

pub text_encoded_keeps : (x1 : Tree) → Keeps HasNone (text_encoded x1)
text_encoded_keeps bytes = keeps_some HasNone (bytes_in bytes) _ (λ xs. keeps_require HasNone 123 (nat_le (2 * length xs) most_bytes) (give (text_tree (encode_lower xs))) (keeps_give HasNone (text_tree (encode_lower xs)) (λ p. refl)))

pub text_from_bytes_keeps : (x1 : Tree) → Keeps HasNone (text_from_bytes x1)
text_from_bytes_keeps bytes = keeps_some HasNone (bytes_in bytes) (λ xs. give (text_of_bytes xs)) (λ xs. keeps_give HasNone (text_of_bytes xs) (text_none xs))

pub number_text_keeps : (x1 : Tree) → Keeps HasNone (number_text x1)
number_text_keeps t = keeps_some HasNone (number_in t) (λ x. give (text_tree (written x))) (λ x. keeps_give HasNone (text_tree (written x)) (λ p. refl))

pub number_read_keeps : (x1 : Kind) (x2 : Tree) → Keeps HasNone (number_read x1 x2)
number_read_keeps kind t = keeps_some HasNone (text_in t) (λ text. give (optional_tree (option_map number_tree (option_and_then (number_from kind) (read_of kind text))))) (λ text. keeps_give HasNone (optional_tree (option_map number_tree (option_and_then (number_from kind) (read_of kind text)))) (optional_none (option_map number_tree (option_and_then (number_from kind) (read_of kind text))) (mapped_within HasNone number_tree (option_and_then (number_from kind) (read_of kind text)) (λ x p. refl))))

pub number_bytes_keeps : (x1 : Tree) → Keeps HasNone (number_bytes x1)
number_bytes_keeps t = keeps_some HasNone (number_in t) _ (λ x. keeps_some HasNone (width x.kind) _ (λ n. bytes_tree_keeps (big_endian n (twos_complement x.kind (value_of x)))))

pub address_bytes_keeps : (x1 : Address) → Keeps HasNone (address_bytes x1)
address_bytes_keeps a = bytes_tree_keeps (big_endian 8 a.0)

pub address_told_keeps : (x1 : Address) → Keeps HasNone (address_told x1)
address_told_keeps a = keeps_give HasNone (text_tree (address_text a.0)) (λ p. refl)
