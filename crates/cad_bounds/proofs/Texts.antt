-- Texts: the same while the units last.
use Rattle.std.specs.Prelude.{ℕ, ◌+◌, ◌*◌, nat_le, List, ◌++◌, length, option_map, option_and_then, Result, Ok, Err}
use Rattle.std.specs.Prelude.{unsigned_abs}
use Rattle.hex.specs.Hex.{decode_of, encode_lower}
use Rattle.cad_syntax.specs.Addresses.{address_text}
use Rattle.cad_syntax.specs.declared.address.Address.{Address}
use Rattle.cad_syntax.specs.declared.kind.Kind.{Kind}
use Rattle.cad_text.specs.Texts.{most_bytes, characters, part, are_places, is_hex}
use Rattle.cad_num.specs.Numbers.{value_of, twos_complement}
use Rattle.cad_num.specs.Decimal.{read_of, written}
use Rattle.cad_values.specs.Fits.{most_elements}
use Rattle.cad_world.specs.Rows.{Tree}
use Rattle.cad_world.specs.Rows as rows
use Rattle.cad_world.specs.Trees.{whole}
use Rattle.cad_evaluation.specs.Numbers.{number_from, number_tree, number_in, integer_in}
use Rattle.cad_evaluation.specs.Texts.{text_in, text_tree, int_tree, given_int, optional_tree, byte_type, bytes_row, bytes_tree, bytes_in, text_length, text_joined, text_slice, decoded, text_decoded, text_encoded, text_of_bytes, text_from_bytes, number_text, number_read, width, big_endian, number_bytes, address_bytes, address_told}
use Rattle.cad_bounds.proofs.Same.{Runs, Same, same_self, same_give, same_some, same_require}

pub same_given_int : (R : Runs) (x1 : ℕ) → Same R (given_int x1) (given_int x1)
same_given_int R n = same_some R (int_tree n) _ _ (λ v1. (same_give R v1))

pub same_bytes_tree : (R : Runs) (x1 : List ℕ) → Same R (bytes_tree x1) (bytes_tree x1)
same_bytes_tree R bytes = same_require R 123 (nat_le (length bytes) most_elements) _ _ (same_some R (bytes_row bytes) _ _ (λ r. (same_give R (whole (rows.array byte_type) r))))

pub same_text_length : (R : Runs) (x1 : List ℕ) → Same R (text_length x1) (text_length x1)
same_text_length R text = same_given_int R (length (characters text))

pub same_text_joined : (R : Runs) (x1 : List ℕ) (x2 : Tree) → Same R (text_joined x1 x2) (text_joined x1 x2)
same_text_joined R text other = same_some R (text_in other) _ _ (λ o. (same_require R 123 (nat_le (length text + length o) most_bytes) _ _ (same_give R (text_tree (text ++ o)))))

pub same_text_slice : (R : Runs) (x1 : List ℕ) (x2 : Tree) (x3 : Tree) → Same R (text_slice x1 x2 x3) (text_slice x1 x2 x3)
same_text_slice R text from up_to = same_some R (integer_in from) _ _ (λ i. (same_some R (integer_in up_to) _ _ (λ j. (same_require R 105 (are_places text i j) _ _ (same_give R (text_tree (part text (unsigned_abs i) (unsigned_abs j))))))))

pub same_decoded : {E : Type 0} (R : Runs) (x1 : Result (List ℕ) E) → Same R (decoded x1) (decoded x1)
same_decoded R (Ok bytes) = same_bytes_tree R bytes
same_decoded R (Err e) = same_self R _ (λ s. tt)

pub same_text_decoded : (R : Runs) (x1 : List ℕ) → Same R (text_decoded x1) (text_decoded x1)
same_text_decoded R text = same_require R 122 (is_hex text) _ _ (same_decoded R (decode_of text))

pub same_text_encoded : (R : Runs) (x1 : Tree) → Same R (text_encoded x1) (text_encoded x1)
same_text_encoded R bytes = same_some R (bytes_in bytes) _ _ (λ xs. (same_require R 123 (nat_le (2 * length xs) most_bytes) _ _ (same_give R (text_tree (encode_lower xs)))))

pub same_text_from_bytes : (R : Runs) (x1 : Tree) → Same R (text_from_bytes x1) (text_from_bytes x1)
same_text_from_bytes R bytes = same_some R (bytes_in bytes) _ _ (λ xs. (same_give R (text_of_bytes xs)))

pub same_number_text : (R : Runs) (x1 : Tree) → Same R (number_text x1) (number_text x1)
same_number_text R t = same_some R (number_in t) _ _ (λ x. (same_give R (text_tree (written x))))

pub same_number_read : (R : Runs) (x1 : Kind) (x2 : Tree) → Same R (number_read x1 x2) (number_read x1 x2)
same_number_read R kind t = same_some R (text_in t) _ _ (λ text. (same_give R (optional_tree (option_map number_tree (option_and_then (number_from kind) (read_of kind text))))))

pub same_number_bytes : (R : Runs) (x1 : Tree) → Same R (number_bytes x1) (number_bytes x1)
same_number_bytes R t = same_some R (number_in t) _ _ (λ x. (same_some R (width x.kind) _ _ (λ n. (same_bytes_tree R (big_endian n (twos_complement x.kind (value_of x)))))))

pub same_address_bytes : (R : Runs) (x1 : Address) → Same R (address_bytes x1) (address_bytes x1)
same_address_bytes R a = same_bytes_tree R (big_endian 8 a.0)

pub same_address_told : (R : Runs) (x1 : Address) → Same R (address_told x1) (address_told x1)
same_address_told R a = same_give R (text_tree (address_text a.0))
