-- What the texts of values are made of, form by form.
use Rattle.std.proofs.Common.{◌≡◌, ◌≢◌, ℕ, Bool, true, false, List, [], ◌∷◌, ◌++◌, refl, sym, ap, ◌∙◌, arith, append_assoc}
use Rattle.std.specs.Prelude.{codes, decimal, Option, Some, None}
use Rattle.json.specs.Print.{quoted, token_text, escape_byte}
use Rattle.json.specs.Token as token
use Rattle.serde_json.specs.Data.{Data, null, boolean, string, array, Items, no_items, item}
use Rattle.serde_json.specs.Written.{compact_text, items_text, comma_if}
use Rattle.cad_num.specs.Decimal.{written}
use Rattle.cad_syntax.specs.Addresses.{address_text}
use Rattle.cad_syntax.specs.TypeIds.{type_text}
use Rattle.cad_syntax.specs.Types.{PureType}
use Rattle.cad_syntax.specs.declared.address.Address.{Address}
use Rattle.cad_syntax.specs.declared.address.Path.{Path}
use Rattle.cad_syntax.specs.declared.address.Domain.{Domain}
use Rattle.cad_syntax.specs.declared.address.Domain.TheVariants as dom
use Rattle.cad_syntax.specs.declared.kind.Kind.{Kind}
use Rattle.cad_syntax.specs.declared.kind.Kind.TheVariants as k
use Rattle.cad_syntax.specs.declared.num.Num.{Num}
use Rattle.cad_syntax.specs.declared.text.Name.{Name}
use Rattle.cad_syntax.specs.declared.type_id.TypeId.{TypeId}
use Rattle.cad_types.specs.Declarations.{Declaration, found}
use Rattle.cad_types.specs.declared.declared.Sort.{Sort}
use Rattle.cad_types.specs.declared.declared.Sort.TheVariants as s
use Rattle.cad_values.specs.Values as v
use Rattle.cad_values.specs.Values.{PureValue, Values, no_values, values, Entries, no_entries, entries, Fields, no_fields, fields}
use Rattle.cad_json.specs.Told.{told, told_values, told_entries, told_fields, with_uuid, composite_of}
use Rattle.cad_json.specs.Words.{kind_word, domain_word, sort_word, typed, is_address, number_json, path_json, entry_json, field_json, composite_json}
use Rattle.cad_json_export.specs.Texts.{is_plain, quotation, head, close, text_value, value_text, values_text, entries_text, fields_text, entry_text, field_text, is_resource, identity_text, before_fields, behind_fields}
use Rattle.cad_json_export.proofs.Plain.{plain_escape, plain_quoted}

-- a text that is plain by computation, between quotes
plain : (text : List ℕ) → is_plain text ≡ true → quoted text ≡ 34 ∷ (text ++ 34 ∷ [])
plain text e = rw (plain_escape text e) refl

-- a value with a plain word
content : (word : List ℕ) (d : Data) → is_plain word ≡ true → compact_text (typed word d) ≡ head word ++ (compact_text d ++ close)
unfolding head escape_byte
content word d e = rw (plain_escape word e, append_assoc word (34 ∷ []) (codes ",\"value\":" ++ (compact_text d ++ close)), append_assoc word (codes "\",\"value\":") (compact_text d ++ close)) refl

pub kind_plain : (kind : Kind) → is_plain (kind_word kind) ≡ true
kind_plain k.Int = refl
kind_plain k.Int8 = refl
kind_plain k.Int16 = refl
kind_plain k.Int32 = refl
kind_plain k.Int64 = refl
kind_plain k.Int128 = refl
kind_plain k.UInt = refl
kind_plain k.UInt8 = refl
kind_plain k.UInt16 = refl
kind_plain k.UInt32 = refl
kind_plain k.UInt64 = refl
kind_plain k.UInt128 = refl
kind_plain k.Word8 = refl
kind_plain k.Word16 = refl
kind_plain k.Word32 = refl
kind_plain k.Word64 = refl
kind_plain k.Word128 = refl
kind_plain k.Fix64 = refl
kind_plain k.UFix64 = refl
kind_plain k.Address = refl

sort_plain : (sort : Sort) → is_plain (sort_word sort) ≡ true
sort_plain s.Contract = refl
sort_plain s.Struct = refl
sort_plain s.Resource = refl
sort_plain s.Enum = refl
sort_plain s.Event = refl
sort_plain s.StructInterface = refl
sort_plain s.ResourceInterface = refl

domain_plain : (domain : Domain) → is_plain (domain_word domain) ≡ true
domain_plain dom.Storage = refl
domain_plain dom.Public = refl

pub void_text : (declared : List Declaration) → value_text declared v.void ≡ codes "{\"type\":\"Void\"}"
unfolding value_text escape_byte
void_text declared = refl

pub nil_text : (declared : List Declaration) → value_text declared v.nil ≡ codes "{\"type\":\"Optional\",\"value\":null}"
unfolding value_text escape_byte
nil_text declared = refl

pub some_text : (declared : List Declaration) (x : PureValue) → value_text declared (v.some x) ≡ head (codes "Optional") ++ (value_text declared x ++ close)
unfolding value_text
some_text declared x = content (codes "Optional") (told declared x) refl

pub true_text : (declared : List Declaration) → value_text declared (v.bool true) ≡ head (codes "Bool") ++ codes "true}"
unfolding value_text
true_text declared = content (codes "Bool") (boolean true) refl

pub false_text : (declared : List Declaration) → value_text declared (v.bool false) ≡ head (codes "Bool") ++ codes "false}"
unfolding value_text
false_text declared = content (codes "Bool") (boolean false) refl

of_text : (word text : List ℕ) → is_plain word ≡ true → compact_text (typed word (string text)) ≡ text_value word text
unfolding quotation
of_text word text e = content word (string text) e

pub string_text : (declared : List Declaration) (text : List ℕ) → value_text declared (v.string text) ≡ text_value (codes "String") text
unfolding value_text
string_text declared text = of_text (codes "String") text refl

pub character_text : (declared : List Declaration) (text : List ℕ) → value_text declared (v.character text) ≡ text_value (codes "Character") text
unfolding value_text
character_text declared text = of_text (codes "Character") text refl

pub address_value_text : (declared : List Declaration) (a : Address) → value_text declared (v.address a) ≡ text_value (codes "Address") (address_text a.0)
unfolding value_text
address_value_text declared a = of_text (codes "Address") (address_text a.0) refl

by_kind : (kind : Kind) (text : List ℕ) → kind ≢ k.Address → number_json kind text ≡ typed (kind_word kind) (string text)
by_kind k.Int text other = refl
by_kind k.Int8 text other = refl
by_kind k.Int16 text other = refl
by_kind k.Int32 text other = refl
by_kind k.Int64 text other = refl
by_kind k.Int128 text other = refl
by_kind k.UInt text other = refl
by_kind k.UInt8 text other = refl
by_kind k.UInt16 text other = refl
by_kind k.UInt32 text other = refl
by_kind k.UInt64 text other = refl
by_kind k.UInt128 text other = refl
by_kind k.Word8 text other = refl
by_kind k.Word16 text other = refl
by_kind k.Word32 text other = refl
by_kind k.Word64 text other = refl
by_kind k.Word128 text other = refl
by_kind k.Fix64 text other = refl
by_kind k.UFix64 text other = refl
by_kind k.Address text other = absurd (other refl)

pub number_text : (declared : List Declaration) (n : Num) → n.kind ≢ k.Address → value_text declared (v.number n) ≡ text_value (kind_word n.kind) (written n)
unfolding value_text
number_text declared n other = ap compact_text (by_kind n.kind (written n) other) ∙ of_text (kind_word n.kind) (written n) (kind_plain n.kind)

pub no_number_text : (declared : List Declaration) (n : Num) → n.kind ≡ k.Address → value_text declared (v.number n) ≡ codes "null"
unfolding value_text
no_number_text declared n same = ap (λ (kind : Kind). compact_text (number_json kind (written n))) same

behind_four : (a b c d e f : List ℕ) → (a ++ (b ++ (c ++ (d ++ e)))) ++ f ≡ a ++ (b ++ (c ++ (d ++ (e ++ f))))
behind_four a b c d e f = simp append_assoc refl

of_path : (domain identifier : List ℕ) → is_plain domain ≡ true → compact_text (path_json domain identifier) ≡ codes "{\"domain\":\"" ++ (domain ++ (codes "\",\"identifier\":" ++ (quotation identifier ++ close)))
unfolding quotation escape_byte
of_path domain identifier e = rw (plain_escape domain e, append_assoc domain (34 ∷ []) (codes ",\"identifier\":" ++ (quotation identifier ++ close))) refl

pub path_text : (declared : List Declaration) (p : Path) → value_text declared (v.path p) ≡ head (codes "Path") ++ (codes "{\"domain\":\"" ++ (domain_word p.domain ++ (codes "\",\"identifier\":" ++ (quotation p.identifier.0 ++ codes "}}"))))
unfolding value_text
path_text declared p =
    let domain = domain_word p.domain in
    content (codes "Path") (path_json domain p.identifier.0) refl
    ∙ (ap (λ (w : List ℕ). head (codes "Path") ++ (w ++ close)) (of_path domain p.identifier.0 (domain_plain p.domain))
    ∙ ap (λ (w : List ℕ). head (codes "Path") ++ w) (behind_four (codes "{\"domain\":\"") domain (codes "\",\"identifier\":") (quotation p.identifier.0) close close))

pub array_text : (declared : List Declaration) (t : PureType) (vs : Values) → value_text declared (v.array t vs) ≡ head (codes "Array") ++ (91 ∷ values_text declared false vs ++ close)
unfolding value_text values_text
array_text declared t vs = content (codes "Array") (array (told_values declared vs)) refl

pub dictionary_text : (declared : List Declaration) (key t : PureType) (es : Entries) → value_text declared (v.dictionary key t es) ≡ head (codes "Dictionary") ++ (91 ∷ entries_text declared false es ++ close)
unfolding value_text entries_text
dictionary_text declared key t es = content (codes "Dictionary") (array (told_entries declared es)) refl

pub no_values_text : (declared : List Declaration) (later : Bool) → values_text declared later no_values ≡ 93 ∷ []
unfolding values_text
no_values_text declared later = refl

pub more_values_text : (declared : List Declaration) (later : Bool) (x : PureValue) (vs : Values) → values_text declared later (values x vs) ≡ comma_if later ++ (value_text declared x ++ values_text declared true vs)
unfolding values_text value_text
more_values_text declared later x vs = refl

pub no_entries_text : (declared : List Declaration) (later : Bool) → entries_text declared later no_entries ≡ 93 ∷ []
unfolding entries_text
no_entries_text declared later = refl

pub more_entries_text : (declared : List Declaration) (later : Bool) (key x : PureValue) (es : Entries) → entries_text declared later (entries key x es) ≡ comma_if later ++ (entry_text declared key x ++ entries_text declared true es)
unfolding entries_text entry_text
more_entries_text declared later key x es = refl

pub no_fields_text : (declared : List Declaration) (later : Bool) → fields_text declared later no_fields ≡ 93 ∷ []
unfolding fields_text
no_fields_text declared later = refl

pub more_fields_text : (declared : List Declaration) (later : Bool) (n : Name) (x : PureValue) (fs : Fields) → fields_text declared later (fields n x fs) ≡ comma_if later ++ (field_text declared n x ++ fields_text declared true fs)
unfolding fields_text field_text
more_fields_text declared later n x fs = refl

pub entry_is : (declared : List Declaration) (key x : PureValue) → entry_text declared key x ≡ codes "{\"key\":" ++ (value_text declared key ++ (codes ",\"value\":" ++ (value_text declared x ++ close)))
unfolding entry_text value_text escape_byte
entry_is declared key x = refl

pub field_is : (declared : List Declaration) (n : Name) (x : PureValue) → field_text declared n x ≡ codes "{\"name\":" ++ (quotation n.0 ++ (codes ",\"value\":" ++ (value_text declared x ++ close)))
unfolding field_text value_text quotation escape_byte
field_is declared n x = refl

with_identity : (sort : Sort) (identity : ℕ) (all : Items) → items_text false (with_uuid sort identity all) ≡ identity_text sort identity ++ items_text (is_resource sort) all
unfolding quotation escape_byte
with_identity s.Contract identity all = refl
with_identity s.Struct identity all = refl
with_identity s.Resource identity all = simp append_assoc refl
with_identity s.Enum identity all = refl
with_identity s.Event identity all = refl
with_identity s.StructInterface identity all = refl
with_identity s.ResourceInterface identity all = refl

of_composite : (all : Items) (id : List ℕ) → compact_text (composite_json (array all) id) ≡ codes "{\"fields\":[" ++ (items_text false all ++ (codes ",\"id\":" ++ (quotation id ++ close)))
unfolding quotation escape_byte
of_composite all id = refl

regrouped : (h o i fs n q c : List ℕ) → h ++ ((o ++ ((i ++ fs) ++ (n ++ (q ++ c)))) ++ c) ≡ (h ++ (o ++ i)) ++ (fs ++ (n ++ (q ++ (c ++ c))))
regrouped h o i fs n q c = simp append_assoc refl

pub composite_text : (declared : List Declaration) (d : Declaration) (id : TypeId) (n : ℕ) (fs : Fields) → found declared id ≡ Some d
    → value_text declared (v.composite id n fs) ≡ before_fields d.sort n ++ (fields_text declared (is_resource d.sort) fs ++ behind_fields id)
unfolding value_text fields_text before_fields behind_fields
composite_text declared d id n fs e =
    let all = with_uuid d.sort n (told_fields declared fs) in
    let start = head (sort_word d.sort) in
    let open_list = codes "{\"fields\":[" in
    let behind = codes ",\"id\":" ++ (quotation (type_text id) ++ close) in
    ap (λ (o : Option Declaration). compact_text (composite_of o (type_text id) n (told_fields declared fs))) e
    ∙ (content (sort_word d.sort) (composite_json (array all) (type_text id)) (sort_plain d.sort)
    ∙ (ap (λ (w : List ℕ). start ++ (w ++ close)) (of_composite all (type_text id))
    ∙ (ap (λ (w : List ℕ). start ++ ((open_list ++ (w ++ behind)) ++ close)) (with_identity d.sort n (told_fields declared fs))
    ∙ regrouped start open_list (identity_text d.sort n) (items_text (is_resource d.sort) (told_fields declared fs)) (codes ",\"id\":") (quotation (type_text id)) close)))

pub no_composite_text : (declared : List Declaration) (id : TypeId) (n : ℕ) (fs : Fields) → found declared id ≡ None → value_text declared (v.composite id n fs) ≡ codes "null"
unfolding value_text
no_composite_text declared id n fs e = ap (λ (o : Option Declaration). compact_text (composite_of o (type_text id) n (told_fields declared fs))) e

pub before_fields_is : (sort : Sort) (n : ℕ) → before_fields sort n ≡ head (sort_word sort) ++ (codes "{\"fields\":[" ++ identity_text sort n)
unfolding before_fields
before_fields_is sort n = refl
