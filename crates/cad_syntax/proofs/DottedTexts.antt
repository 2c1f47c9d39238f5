-- The parts of an identifier's text between its dots.
use Rattle.std.proofs.Common.{◌≡◌, ℕ, zero, suc, ◌+◌, ◌*◌, ◌/◌, ◌%◌, ◌^◌, ◌<◌, ◌≤◌, Bool, true, false, ◌&&◌, ◌==◌, not, cond, Option, Some, None, MatchOption, List, [], ◌∷◌, ◌++◌, length, map, get_or, take, refl, ap, sym, ◌∙◌, arith, append_assoc, append-nil, zero-add}
use Rattle.std.proofs.lemmas.Bool.{false≢true, eqb-true}
use Rattle.std.proofs.lemmas.Bool.Decides.{nat_tests}
use Rattle.std.proofs.lemmas.List.{take_all}
use Rattle.std.proofs.lemmas.List.Elements.{All-weaker}
use Rattle.std.proofs.lemmas.List.Folds.{list_all_at, list_all-map, list_all-append}
use Rattle.std.proofs.lemmas.List.Splits.{slice_split_at, slice_split_none, join_with_byte-slice_split}
use Rattle.std.proofs.lemmas.List.Sums.{AllPass-from_list_all}
use Rattle.std.specs.Borrow.{Bor}
use Rattle.std.specs.Prelude.{codes}
use Rattle.std.specs.Char.{digit_value, digit_char, is_digit}
use Rattle.std.specs.Cmp.Lexicographic.{pointwise, same_text}
use Rattle.std.specs.List.{flat_map, list_all, slice_split, join_with_byte, All}
use Rattle.std.specs.Str.Parse.{digits_value, digits_value_after}
use Rattle.cad_syntax.specs.Addresses.{hex_digits, hex_number}
use Rattle.cad_syntax.specs.Names.{is_name_text, is_word, is_first_of_name, is_part_of_name, is_keyword}
use Rattle.cad_syntax.specs.TypeIds.{dotted, type_text, HasNames, Spells}
use Rattle.cad_syntax.specs.Code.TypeIds.{is_lower_digit, full_number, names_of, id_from, id_of}
use Rattle.cad_syntax.specs.declared.text.Name.{Name}
use Rattle.cad_syntax.specs.declared.type_id.TypeId.{TypeId}
use Rattle.cad_syntax.proofs.Hex.{length_hex_digits, value_hex_digits, all_hex_digits, hex_digits_none}

and_parts : (a b : Bool) → (a && b) ≡ true → (a ≡ true) × (b ≡ true)
and_parts true b e = (refl, e)
and_parts false b e = absurd (false≢true e)

-- what is there under a test passed it
picked : {A : Type 0} (b : Bool) (o : Option A) (x : A) → cond b o None ≡ Some x → (b ≡ true) × (o ≡ Some x)
picked true o x e = (refl, e)
picked false o x e = cc

none≢some : {A : Type 0} {x : A} → None ≡ Some x → ⊥
none≢some e = cc

same_some : {A : Type 0} {x y : A} → Some x ≡ Some y → x ≡ y
same_some e = cc

-- one of the texts is no name
pub names_stop : (texts : List (Bor (List ℕ))) (i : ℕ) (d : Bor (List ℕ)) → i < length texts → is_name_text (get_or texts i d).now ≡ false → None ≡ names_of (map (λ text. text.now) texts)
names_stop texts i d below other =
    rw (list_all-map is_name_text (λ (text : Bor (List ℕ)). text.now) texts, list_all_at (λ (text : Bor (List ℕ)). is_name_text text.now) texts i d below other) refl

map_names : (texts : List (Bor (List ℕ))) → map (λ (text : Bor (List ℕ)). let name : Name = record { 0 = text.now } in name) texts ≡ map (λ text. record { 0 = text }) (map (λ text. text.now) texts)
map_names [] = refl
map_names (t ∷ ts) = ap (λ names. record { 0 = t.now } ∷ names) (map_names ts)

-- all of the texts are names
pub names_end : (texts : List (Bor (List ℕ))) (i : ℕ) (names : List Name) → length texts ≤ i → list_all (λ (text : Bor (List ℕ)). is_name_text text.now) (take i texts) ≡ true → names ≡ map (λ (text : Bor (List ℕ)). record { 0 = text.now }) (take i texts) → Some names ≡ names_of (map (λ text. text.now) texts)
names_end texts i names past good so_far =
    let whole = take_all i texts past in
    let good' = rw whole at good in
    let so_far' = rw whole at so_far in
    rw (list_all-map is_name_text (λ (text : Bor (List ℕ)). text.now) texts, good') (ap Some (so_far' ∙ map_names texts))

-- a digit in lower case is the one that its value writes
lower_value : (c : ℕ) → is_lower_digit c ≡ true → digit_value c < 16
lower_value c lower = grind (arith, nat_tests)

lower_char : (c : ℕ) → is_lower_digit c ≡ true → digit_char (digit_value c) ≡ c
lower_char c lower = grind (arith, nat_tests)

lower_of_char : (d : ℕ) → d < 16 → is_lower_digit (digit_char d) ≡ true
lower_of_char d small = grind (arith, nat_tests)

all_lower : (k n : ℕ) → list_all is_lower_digit (hex_digits k n) ≡ true
unfolding hex_digits
all_lower zero n = refl
all_lower (suc k) n =
    let small : n % 16 < 16 = omega arith in
    rw (list_all-append is_lower_digit (hex_digits k (n / 16)) (digit_char (n % 16) ∷ []), all_lower k (n / 16), lower_of_char (n % 16) small) refl

-- one digit more at the end
hex_digits_suc : (k n d : ℕ) → d < 16 → hex_digits (suc k) (n * 16 + d) ≡ hex_digits k n ++ digit_char d ∷ []
unfolding hex_digits
hex_digits_suc k n d small =
    let front : (n * 16 + d) / 16 ≡ n = omega arith in
    let last : (n * 16 + d) % 16 ≡ d = omega arith in
    rw (front, last) refl

-- digits in lower case are those of the number that they write
hex_digits_after : (ds : List ℕ) (k n : ℕ) → list_all is_lower_digit ds ≡ true → hex_digits (length ds + k) (digits_value_after 16 n ds) ≡ hex_digits k n ++ ds
hex_digits_after [] k n lower = rw (zero-add, append-nil) refl
hex_digits_after (c ∷ cs) k n lower =
    let both = and_parts (is_lower_digit c) (list_all is_lower_digit cs) lower in
    let more = hex_digits_after cs (suc k) (n * 16 + digit_value c) both.1 in
    let shift : suc (length cs) + k ≡ length cs + suc k = omega arith in
    rw (shift, more, hex_digits_suc k n (digit_value c) (lower_value c both.0), lower_char c both.0, append_assoc) refl

-- 16 digits in lower case are the digits of the number that is read
full_number_text : (ds : List ℕ) (n : ℕ) → full_number ds ≡ Some n → hex_digits 16 n ≡ ds
full_number_text ds n e =
    let outer = picked (length ds == 16 && list_all is_lower_digit ds) (hex_number ds) n e in
    let both = and_parts (length ds == 16) (list_all is_lower_digit ds) outer.0 in
    let inner = picked (list_all (λ c. is_digit c 16) ds) (Some (digits_value 16 ds)) n outer.1 in
    let value : digits_value 16 ds ≡ n = cc in
    let size : length ds + 0 ≡ 16 = omega (arith, eqb-true (length ds) 16 both.0) in
    let digits = hex_digits_after ds 0 0 both.1 in
    let digits' = rw (hex_digits_none 0, size, value) at digits in
    digits'

full_number_digits : (n : ℕ) → full_number (hex_digits 16 n) ≡ Some (digits_value 16 (hex_digits 16 n))
full_number_digits n = rw (length_hex_digits 16 n, all_lower 16 n, all_hex_digits 16 n) refl

-- the parts joined by dots
join_dots : (first : List ℕ) (texts : List (List ℕ)) → join_with_byte 46 (first ∷ texts) ≡ first ++ flat_map dotted (map (λ text. record { 0 = text }) texts)
join_dots first [] = rw append-nil refl
join_dots first (t ∷ ts) = rw (join_dots t ts) refl

ids_parts : (o : Option ℕ) (p : Option (List Name)) (id : TypeId) → id_from o p ≡ Some id → (o ≡ Some id.address.0) × (p ≡ Some id.names)
ids_parts (Some number) (Some names) id e =
    let same : record { address = record { 0 = number }; names = names } ≡ id = cc in
    (ap (λ (i : TypeId). Some i.address.0) same, ap (λ (i : TypeId). Some i.names) same)
ids_parts (Some number) None id e = cc
ids_parts None p id e = cc

-- an identifier that is found has the text
pub id_of_text : (parts : List (List ℕ)) (id : TypeId) → id_of parts ≡ Some id → (type_text id ≡ join_with_byte 46 parts) × HasNames id
id_of_text [] id e = cc
id_of_text (letter ∷ []) id e = cc
id_of_text (letter ∷ digits ∷ texts) id e =
    let outer = picked (pointwise ◌==◌ letter (codes "A")) (id_from (full_number digits) (names_of texts)) id e in
    let parts = ids_parts (full_number digits) (names_of texts) id outer.1 in
    let inner = picked (list_all is_name_text texts) (Some (map (λ text. record { 0 = text }) texts)) id.names parts.1 in
    let names : map (λ text. record { 0 = text }) texts ≡ id.names = cc in
    let is_letter = same_text letter (codes "A") (sym outer.0) in
    let good : list_all (λ name. is_name_text name.0) (map (λ text. record { 0 = text }) texts) ≡ true = rw (list_all-map (λ (name : Name). is_name_text name.0) (λ text. record { 0 = text }) texts) inner.0 in
    (rw (is_letter, join_dots digits texts, full_number_text digits id.address.0 parts.0, names) refl, rw (← names) good)

part_of_name : (b : ℕ) → is_first_of_name b ≡ true → is_part_of_name b ≡ true
part_of_name b first = grind (arith, nat_tests)

no_dot_of_part : (b : ℕ) → is_part_of_name b ≡ true → (b == 46) ≡ false
no_dot_of_part b part = grind (arith, nat_tests)

no_dot_of_lower : (b : ℕ) → is_lower_digit b ≡ true → (b == 46) ≡ false
no_dot_of_lower b lower = grind (arith, nat_tests)

word_parts : (text : List ℕ) → is_word text ≡ true → list_all is_part_of_name text ≡ true
word_parts [] word = absurd (false≢true word)
word_parts (b ∷ bs) word =
    let both = and_parts (is_first_of_name b) (list_all is_part_of_name bs) word in
    rw (part_of_name b both.0, both.1) refl

-- a name has no dot
name_undotted : (text : List ℕ) → is_name_text text ≡ true → All (λ b. (b == 46) ≡ false) text
name_undotted text name =
    let both = and_parts (is_word text) (not (is_keyword text)) name in
    All-weaker (λ b. is_part_of_name b ≡ true) (λ b. (b == 46) ≡ false) no_dot_of_part text (AllPass-from_list_all is_part_of_name text (word_parts text both.0))

digits_undotted : (k n : ℕ) → All (λ b. (b == 46) ≡ false) (hex_digits k n)
digits_undotted k n =
    All-weaker (λ b. is_lower_digit b ≡ true) (λ b. (b == 46) ≡ false) no_dot_of_lower (hex_digits k n) (AllPass-from_list_all is_lower_digit (hex_digits k n) (all_lower k n))

-- the parts of a part without dots, and names with dots before them
split_names : (first : List ℕ) (names : List Name) → All (λ b. (b == 46) ≡ false) first → list_all (λ name. is_name_text name.0) names ≡ true → slice_split (λ b. b == 46) (first ++ flat_map dotted names) ≡ first ∷ map (λ name. name.0) names
split_names first [] undotted good = rw append-nil (slice_split_none (λ b. b == 46) first undotted)
split_names first (name ∷ names) undotted good =
    let both = and_parts (is_name_text name.0) (list_all (λ name. is_name_text name.0) names) good in
    rw (slice_split_at (λ b. b == 46) first 46 (name.0 ++ flat_map dotted names) undotted refl, split_names name.0 names (name_undotted name.0 both.0) both.1) refl

names_of_names : (names : List Name) → list_all (λ name. is_name_text name.0) names ≡ true → names_of (map (λ name. name.0) names) ≡ Some names
names_of_names names good = rw (list_all-map is_name_text (λ (name : Name). name.0) names, good) (ap Some (map_back names))
  where
    map_back : (names : List Name) → map (λ text. record { 0 = text }) (map (λ (name : Name). name.0) names) ≡ names
    map_back [] = refl
    map_back (name ∷ names) = ap (λ names. name ∷ names) (map_back names)

-- the text of an identifier is read
id_of_type_text : (id : TypeId) → HasNames id → id_of (slice_split (λ b. b == 46) (type_text id)) ≡ Some (record { address = record { 0 = digits_value 16 (hex_digits 16 id.address.0) }; names = id.names })
id_of_type_text id good =
    let rest = split_names (hex_digits 16 id.address.0) id.names (digits_undotted 16 id.address.0) good in
    rw (rest, full_number_digits id.address.0, names_of_names id.names good) refl

id_of_spelled : (text : List ℕ) (id : TypeId) → Spells text id → id_of (slice_split (λ b. b == 46) text) ≡ Some (record { address = record { 0 = digits_value 16 (hex_digits 16 id.address.0) }; names = id.names })
id_of_spelled text id spelled =
    ap (λ (t : List ℕ). id_of (slice_split (λ b. b == 46) t)) (sym spelled.is_text) ∙ id_of_type_text id spelled.has_names

-- the same at an address of 64 bits
id_of_small : (text : List ℕ) (id : TypeId) → id.address.0 < 2 ^ 64 → Spells text id → id_of (slice_split (λ b. b == 46) text) ≡ Some id
id_of_small text id small spelled =
    id_of_spelled text id spelled ∙ ap (λ (n : ℕ). Some (record { address = record { 0 = n }; names = id.names })) (value_hex_digits 16 id.address.0 small)

-- what is found has the text, and where nothing is found nothing has it
pub found : (text : List ℕ) (id : Option TypeId) → id ≡ id_of (slice_split (λ b. b == 46) text) → MatchOption id ((other : TypeId) → ¬ (Spells text other)) (Spells text)
found text None e = λ other spelled. none≢some (e ∙ id_of_spelled text other spelled)
found text (Some id) e =
    let parts = id_of_text (slice_split (λ b. b == 46) text) id (sym e) in
    record { is_text = parts.0 ∙ join_with_byte-slice_split 46 text; has_names = parts.1 }

-- a text is that of one identifier at most
pub type_text_injective : (text : List ℕ) (a b : TypeId) → a.address.0 < 2 ^ 64 → b.address.0 < 2 ^ 64 → Spells text a → Spells text b → a ≡ b
type_text_injective text a b small_a small_b spells_a spells_b =
    same_some (sym (id_of_small text a small_a spells_a) ∙ id_of_small text b small_b spells_b)
