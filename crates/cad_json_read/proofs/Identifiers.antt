-- Identifiers by their texts, and which of them arguments can have.
use Rattle.std.proofs.Common.{◌≡◌, ◌<◌, ◌^◌, ℕ, Bool, true, false, List, [], ◌∷◌, length, Option, Some, None, refl, sym, ap, ◌∙◌, subst, arith, rules}
use Rattle.std.specs.Prelude.{IsTrue, ◌↔◌, MatchOption, IfSome, ◌==◌, ◌&&◌, codes, if◌then◌else◌}
use Rattle.std.specs.Char.{is_digit, digit_value}
use Rattle.std.specs.List.{list_all, slice_split}
use Rattle.std.specs.Cmp.Lexicographic.{pointwise}
use Rattle.std.specs.Str.Parse.{digits_value, AllDigits}
use Rattle.std.proofs.lemmas.Bool.{and_parts, eqb-true}
use Rattle.std.proofs.lemmas.Int.Digits.{digits_value-lt}
use Rattle.cad_syntax.specs.Addresses.{hex_number}
use Rattle.cad_syntax.specs.Code.TypeIds.{id_of, id_from, full_number, names_of, is_lower_digit}
use Rattle.cad_syntax.specs.TypeIds.{Spells}
use Rattle.cad_syntax.specs.Types.{PureType}
use Rattle.cad_syntax.specs.declared.text.Name.{Name}
use Rattle.cad_syntax.specs.declared.type_id.TypeId.{TypeId}
use Rattle.cad_syntax.proofs.DottedTexts.{found, type_text_injective}
use Rattle.cad_types.specs.Classes.{Importable}
use Rattle.cad_types.specs.Code.Judged.{importable_by}
use Rattle.cad_types.specs.Views.{declarations}
use Rattle.cad_types.specs.declared.declared_types.DeclaredTypes.{DeclaredTypes}
use Rattle.cad_types.proofs.Judging.{importable_tells}
use Rattle.cad_json_read.specs.Judged.{is_importable_in}
use Rattle.cad_json_read.specs.Reading.{id_at}

-- an address by 16 digits has 64 bits
picked : {A : Type 0} (test : Bool) (o : Option A) (x : A) → (if test then o else None) ≡ Some x → (test ≡ true) × (o ≡ Some x)
picked true o x e = (refl, e)
picked false o x e = absurd cc

all_digits : (digits : List ℕ) → list_all (λ c. is_digit c 16) digits ≡ true → AllDigits 16 digits
all_digits [] e = tt
all_digits (c ∷ digits) e =
    let parts = and_parts (is_digit c 16) (list_all (λ x. is_digit x 16) digits) e in
    (digit_small c parts.0, all_digits digits parts.1)
  where
    digit_small : (c : ℕ) → is_digit c 16 ≡ true → digit_value c < 16
    digit_small c h = search (rules, h)

same_number : (a b : ℕ) → Some a ≡ Some b → a ≡ b
same_number a b e = cc

hex_low : (digits : List ℕ) (n : ℕ) → length digits ≡ 16 → hex_number digits ≡ Some n → n < 2 ^ 64
hex_low digits n len e =
    let p = picked (list_all (λ c. is_digit c 16) digits) (Some (digits_value 16 digits)) n e in
    let bound : digits_value 16 digits < 16 ^ length digits = digits_value-lt 16 digits (all_digits digits p.0) in
    let small : digits_value 16 digits < 16 ^ 16 = subst (λ (k : ℕ). digits_value 16 digits < 16 ^ k) len bound in
    subst (λ (k : ℕ). k < 2 ^ 64) (same_number (digits_value 16 digits) n p.1) small

full_low : (digits : List ℕ) (n : ℕ) → full_number digits ≡ Some n → n < 2 ^ 64
full_low digits n e =
    let p = picked (length digits == 16 && list_all is_lower_digit digits) (hex_number digits) n e in
    hex_low digits n (eqb-true (length digits) 16 (and_parts (length digits == 16) (list_all is_lower_digit digits) p.0).0) p.1

ids_number : (o : Option ℕ) (p : Option (List Name)) (id : TypeId) → id_from o p ≡ Some id → o ≡ Some id.address.0
ids_number (Some number) (Some names) id e =
    let same : record { address = record { 0 = number }; names = names } ≡ id = cc in
    ap (λ (i : TypeId). Some i.address.0) same
ids_number (Some number) None id e = cc
ids_number None p id e = cc

parts_low : (parts : List (List ℕ)) (id : TypeId) → id_of parts ≡ Some id → id.address.0 < 2 ^ 64
parts_low [] id e = absurd cc
parts_low (letter ∷ []) id e = absurd cc
parts_low (letter ∷ digits ∷ texts) id e =
    let outer = picked (pointwise ◌==◌ letter (codes "A")) (id_from (full_number digits) (names_of texts)) id e in
    full_low digits id.address.0 (ids_number (full_number digits) (names_of texts) id outer.1)

pub id_low : (text : List ℕ) (id : TypeId) → id_at text ≡ Some id → id.address.0 < 2 ^ 64
unfolding id_at
id_low text id e = parts_low (slice_split (λ c. c == 46) text) id e

pub spelled : (text : List ℕ) (id : TypeId) → id_at text ≡ Some id → Spells text id
unfolding id_at
spelled text id e = found text (Some id) (sym e)

by_look : (text : List ℕ) (a : TypeId) → a.address.0 < 2 ^ 64 → Spells text a → (o : Option TypeId) → id_at text ≡ o → id_at text ≡ Some a
unfolding id_at
by_look text a low s None e = absurd (found text None (sym e) a s)
by_look text a low s (Some b) e = e ∙ ap (λ (x : TypeId). Some x) (type_text_injective text b a (id_low text b e) low (spelled text b e) s)

pub spells_found : (text : List ℕ) (a : TypeId) → a.address.0 < 2 ^ 64 → Spells text a → id_at text ≡ Some a
spells_found text a low s = by_look text a low s (id_at text) refl

none_by_look : (text : List ℕ) → ((other : TypeId) → ¬ (Spells text other)) → (o : Option TypeId) → id_at text ≡ o → None ≡ id_at text
none_by_look text none None e = sym e
none_by_look text none (Some b) e = absurd (none b (spelled text b e))

pub none_found : (text : List ℕ) → ((other : TypeId) → ¬ (Spells text other)) → None ≡ id_at text
none_found text none = none_by_look text none (id_at text) refl

both_tell : (P : Type 0) (x y : Bool) → (IsTrue x ↔ P) → (IsTrue y ↔ P) → x ≡ y
both_tell P true true left right = refl
both_tell P true false left right = sym (right.1 (left.0 refl))
both_tell P false true left right = left.1 (right.0 refl)
both_tell P false false left right = refl

pub importable_is : (types : DeclaredTypes) (b : Bool) (t : PureType) → (IsTrue b ↔ Importable (declarations types) t) → b ≡ is_importable_in types t
unfolding is_importable_in
importable_is types b t tells = both_tell (Importable (declarations types) t) b (importable_by (declarations types) types.marks.items t) tells (importable_tells (declarations types) types.marks.items types.judged (importable_by (declarations types) types.marks.items t) t refl)

pub importable_tells_so : (types : DeclaredTypes) (t : PureType) → (is_importable_in types t ≡ true) ↔ Importable (declarations types) t
unfolding is_importable_in
importable_tells_so types t = importable_tells (declarations types) types.marks.items types.judged (importable_by (declarations types) types.marks.items t) t refl
