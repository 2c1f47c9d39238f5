-- Members of texts, characters, addresses, types and enums.
use Rattle.std.specs.Prelude.{[], ◌∷◌, ◌≡◌, refl, codes}
use Rattle.cad_syntax.specs.Types.{basic, optional, array, declared}
use Rattle.cad_syntax.specs.declared.kind.Kind.TheVariants as k
use Rattle.cad_syntax.specs.declared.types.Basic.TheVariants as b
use Rattle.cad_types.specs.declared.builtin.Builtin.TheVariants as m
use Rattle.cad_num.specs.Numbers as n
use Rattle.cad_declarations.specs.Typed as e
use Rattle.cad_values.specs.Values as v
use Rattle.cad_evaluation.proofs.SampleParts.{int, literal, int_type, gave, failed_with}
use Rattle.cad_evaluation.proofs.SampleForms.{text_type, void_type, any_type, of_kind, text, giving, calls_on, reads_on, of_type, gives, gives_beside, of, array_of}
use Rattle.cad_syntax.specs.Addresses as addresses
use Rattle.cad_world.specs.Shapes.{raw_name}
use Rattle.cad_evaluation.proofs.SampleContract.{enum_id}
use Rattle.cad_evaluation.proofs.SampleAccount.{first_address}

-- "ab".utf8: no call, but its bytes
bytes : gives (array (of_kind k.UInt8)) [] (reads_on text_type (text (codes "ab")) m.StringUtf8) ≡ gave (array_of (of_kind k.UInt8) (of k.UInt8 97 ∷ of k.UInt8 98 ∷ [])) 25
unfolding n.outcome
bytes = refl

-- "a".concat("b"): the argument, the call, the result, and its transfer
joined : gives text_type [] (calls_on text_type (text (codes "a")) m.StringConcat (giving (text (codes "b")) text_type ∷ [])) ≡ gave (v.string (codes "ab")) 25
unfolding n.outcome
joined = refl

-- "zz".decodeHex(): 122
no_hex : gives (array (of_kind k.UInt8)) [] (calls_on text_type (text (codes "zz")) m.StringDecodeHex []) ≡ failed_with 122
unfolding n.outcome
no_hex = refl

-- a Character as a text
character_text : gives text_type [] (calls_on (basic b.Character) (e.character (codes "a")) m.CharacterToString []) ≡ gave (v.string (codes "a")) 26
unfolding n.outcome
character_text = refl

-- ---- addresses, types and enums

-- (0x1).toString(): one unit for the text
address_text : gives text_type [] (calls_on (of_kind k.Address) (e.address first_address) m.AddressToString []) ≡ gave (v.string (codes "0x0000000000000001")) 26
unfolding n.outcome addresses.hex_digits
address_text = refl

-- toBytes(): eight
address_bytes : gives (array (of_kind k.UInt8)) [] (calls_on (of_kind k.Address) (e.address first_address) m.AddressToBytes []) ≡ gave (array_of (of_kind k.UInt8) (of k.UInt8 0 ∷ of k.UInt8 0 ∷ of k.UInt8 0 ∷ of k.UInt8 0 ∷ of k.UInt8 0 ∷ of k.UInt8 0 ∷ of k.UInt8 0 ∷ of k.UInt8 1 ∷ [])) 12
unfolding n.outcome
address_bytes = refl

-- (1).getType()
type_of_number : gives (basic b.Meta) [] (calls_on int_type (literal 1) m.GetType []) ≡ gave (v.meta int_type) 28
unfolding n.outcome
type_of_number = refl

-- K(rawValue: 1): a unit for the case
case_found : gives_beside (optional (declared enum_id)) [] (e.builtin m.EnumFromRawValue (declared enum_id ∷ []) (e.arguments_of (giving (literal 1) int_type ∷ []))) ≡ gave (v.some (v.composite enum_id 0 (v.fields raw_name (int 1) v.no_fields))) 56
unfolding n.outcome
case_found = refl

-- log gives nothing, and takes the units of its argument and of a call
logged : gives void_type [] (of_type m.Log (giving (text (codes "x")) any_type ∷ [])) ≡ gave (v.void) 27
unfolding n.outcome
logged = refl
