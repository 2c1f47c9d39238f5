-- The text of what a value is told as is read as that.
use Rattle.std.proofs.Common.{◌≡◌, ◌≤◌, ℕ, suc, max, Bool, true, false, List, [], ◌∷◌, ◌++◌, Option, Some, None, option_map, option_and_then, Ordering, Greater, nat_cmp, cond, refl, sym, ap, ◌∙◌, subst, arith, append-nil}
use Rattle.std.specs.Prelude.{codes, decimal}
use Rattle.std.specs.Ordering.{match_ordering}
use Rattle.std.specs.Cmp.Lexicographic.{slice_cmp}
use Rattle.json.specs.Json as json
use Rattle.json.specs.Lex.{tokens}
use Rattle.json.specs.Token.{Token}
use Rattle.json.specs.Tree as tree
use Rattle.json.specs.Tree.{json_tokens, HasNumbers, ItemsHaveNumbers, MembersHaveNumbers}
use Rattle.json.proofs.Printed.Tokens.{tokens-print}
use Rattle.json.proofs.Printed.Trees.{ArePrintable-json_tokens, value-json_tokens}
use Rattle.serde_json.specs.Data.{Data, null, boolean, number, string, array, object, Items, no_items, item, Members, no_members, member, depth, items_depth, members_depth}
use Rattle.serde_json.specs.Read.{of_json, of_items, of_members, read, max_depth}
use Rattle.serde_json.specs.Written.{outline, items_outline, members_outline, compact_text}
use Rattle.serde_json.proofs.Texts.{print-outline}
use Rattle.cad_num.specs.Decimal.{written}
use Rattle.cad_syntax.specs.Addresses.{address_text}
use Rattle.cad_syntax.specs.TypeIds.{type_text}
use Rattle.cad_syntax.specs.declared.kind.Kind.TheVariants as k
use Rattle.cad_types.specs.Declarations.{Declaration, found}
use Rattle.cad_types.specs.declared.declared.Sort.{Sort}
use Rattle.cad_types.specs.declared.declared.Sort.TheVariants as s
use Rattle.cad_values.specs.Values as v
use Rattle.cad_values.specs.Values.{PureValue, Values, no_values, values, Entries, no_entries, entries, Fields, no_fields, fields}
use Rattle.cad_json.specs.Told.{told, told_values, told_entries, told_fields, composite_of, with_uuid}
use Rattle.cad_json.specs.Words.{kind_word, domain_word, sort_word, two, typed, is_address, number_json, bare, path_json, entry_json, field_json, composite_json}

-- ---- data without numbers

abbrev mutual
  NoNumbers : Data → Type 0
  NoNumbers (number n) = ⊥
  NoNumbers (array ds) = NoneInItems ds
  NoNumbers (object ms) = NoneInMembers ms
  NoNumbers _ = Unit {0}

  NoneInItems : Items → Type 0
  NoneInItems no_items = Unit {0}
  NoneInItems (item d ds) = NoNumbers d × NoneInItems ds

  NoneInMembers : Members → Type 0
  NoneInMembers no_members = Unit {0}
  NoneInMembers (member key d ms) = NoNumbers d × NoneInMembers ms

mutual
  outline_numbers : (d : Data) → NoNumbers d → HasNumbers (outline d)
  outline_numbers null none = tt
  outline_numbers (boolean b) none = tt
  outline_numbers (number n) none = absurd none
  outline_numbers (string text) none = tt
  outline_numbers (array ds) none = items_numbers ds none
  outline_numbers (object ms) none = members_numbers ms none

  items_numbers : (ds : Items) → NoneInItems ds → ItemsHaveNumbers (items_outline ds)
  items_numbers no_items none = tt
  items_numbers (item d ds) none = (outline_numbers d none.0, items_numbers ds none.1)

  members_numbers : (ms : Members) → NoneInMembers ms → MembersHaveNumbers (members_outline ms)
  members_numbers no_members none = tt
  members_numbers (member key d ms) none = (outline_numbers d none.0, members_numbers ms none.1)

mutual
  outline_depth : (d : Data) → tree.depth (outline d) ≡ depth d
  outline_depth null = refl
  outline_depth (boolean b) = refl
  outline_depth (number n) = refl
  outline_depth (string text) = refl
  outline_depth (array ds) = ap suc (items_outline_depth ds)
  outline_depth (object ms) = ap suc (members_outline_depth ms)

  items_outline_depth : (ds : Items) → tree.items_depth (items_outline ds) ≡ items_depth ds
  items_outline_depth no_items = refl
  items_outline_depth (item d ds) = λ i. max (outline_depth d i) (items_outline_depth ds i)

  members_outline_depth : (ms : Members) → tree.members_depth (members_outline ms) ≡ members_depth ms
  members_outline_depth no_members = refl
  members_outline_depth (member key d ms) = λ i. max (outline_depth d i) (members_outline_depth ms i)

-- Again d: the outline of the data, which has no numbers, is read as the data.
record Again (d : Data) : Type 0 where
  none : NoNumbers d
  same : of_json (outline d) ≡ Some d

record AllAgain (ds : Items) : Type 0 where
  none : NoneInItems ds
  same : of_items (items_outline ds) ≡ Some ds

whole : Option (json.Json × List Token) → Option Data
whole o = option_and_then of_json (option_and_then (λ p. json.if_last p.0 p.1) o)

-- what is read from the text of such data
text_again : (d : Data) → Again d → depth d ≤ max_depth → read (compact_text d) ≡ Some d
unfolding whole
text_again d again shallow =
    let its = json_tokens (outline d) in
    let written : tokens (compact_text d) ≡ its = sym (ap tokens (print-outline d)) ∙ tokens-print its (ArePrintable-json_tokens (outline d) (outline_numbers d again.none)) in
    let small : tree.depth (outline d) ≤ max_depth = subst (λ (n : ℕ). n ≤ max_depth) (sym (outline_depth d)) shallow in
    ap whole (ap (json.value max_depth) (written ∙ sym (append-nil its)) ∙ value-json_tokens (outline d) max_depth [] small) ∙ again.same

two_again : (first second : List ℕ) (a c : Data) → slice_cmp nat_cmp second first ≡ Greater → Again a → Again c → Again (two first a second c)
two_again first second a c order left right = record {
  none = (left.none, (right.none, tt));
  same = rw (left.same, right.same, order) refl;
}

array_again : (ds : Items) → AllAgain ds → Again (array ds)
array_again ds again = record { none = again.none; same = ap (option_map array) again.same }

string_again : (text : List ℕ) → Again (string text)
string_again text = record { none = tt; same = refl }

null_again : Again null
null_again = record { none = tt; same = refl }

none_again : AllAgain no_items
none_again = record { none = tt; same = refl }

item_again : (d : Data) (ds : Items) → Again d → AllAgain ds → AllAgain (item d ds)
item_again d ds first rest = record {
  none = (first.none, rest.none);
  same = rw (first.same, rest.same) refl;
}

typed_again : (word : List ℕ) (content : Data) → Again content → Again (typed word content)
typed_again word content again = two_again (codes "type") (codes "value") (string word) content refl (string_again word) again

text_value : (word text : List ℕ) → Again (typed word (string text))
text_value word text = typed_again word (string text) (string_again text)

field_again : (name : List ℕ) (content : Data) → Again content → Again (field_json name content)
field_again name content again = two_again (codes "name") (codes "value") (string name) content refl (string_again name) again

entry_again : (key content : Data) → Again key → Again content → Again (entry_json key content)
entry_again key content first second = two_again (codes "key") (codes "value") key content refl first second

number_again : (address : Bool) (word text : List ℕ) → Again (cond address null (typed word (string text)))
number_again true word text = null_again
number_again false word text = text_value word text

uuid_again : (sort : Sort) (n : ℕ) (ds : Items) → AllAgain ds → AllAgain (with_uuid sort n ds)
uuid_again s.Resource n ds again = item_again (field_json (codes "uuid") (typed (kind_word k.UInt64) (string (decimal n)))) ds (field_again (codes "uuid") (typed (kind_word k.UInt64) (string (decimal n))) (text_value (kind_word k.UInt64) (decimal n))) again
uuid_again _ n ds again = again

composite_again : (o : Option Declaration) (id : List ℕ) (n : ℕ) (ds : Items) → AllAgain ds → Again (composite_of o id n ds)
composite_again None id n ds again = null_again
composite_again (Some d) id n ds again =
    typed_again (sort_word d.sort) (composite_json (array (with_uuid d.sort n ds)) id)
    (two_again (codes "fields") (codes "id") (array (with_uuid d.sort n ds)) (string id) refl (array_again (with_uuid d.sort n ds) (uuid_again d.sort n ds again)) (string_again id))

mutual
  told_again : (ds : List Declaration) (x : PureValue) → Again (told ds x)
  told_again ds v.void = record { none = (tt, tt); same = refl }
  told_again ds v.nil = typed_again (codes "Optional") null null_again
  told_again ds (v.some x) = typed_again (codes "Optional") (told ds x) (told_again ds x)
  told_again ds (v.bool b) = typed_again (codes "Bool") (boolean b) (record { none = tt; same = refl })
  told_again ds (v.number n) = number_again (is_address n.kind) (kind_word n.kind) (written n)
  told_again ds (v.string text) = text_value (codes "String") text
  told_again ds (v.character text) = text_value (codes "Character") text
  told_again ds (v.address a) = text_value (codes "Address") (address_text a.0)
  told_again ds (v.path p) = typed_again (codes "Path") (path_json (domain_word p.domain) p.identifier.0) (two_again (codes "domain") (codes "identifier") (string (domain_word p.domain)) (string p.identifier.0) refl (string_again (domain_word p.domain)) (string_again p.identifier.0))
  told_again ds (v.meta t) = null_again
  told_again ds (v.capability a n t) = null_again
  told_again ds (v.array t vs) = typed_again (codes "Array") (array (told_values ds vs)) (array_again (told_values ds vs) (values_again ds vs))
  told_again ds (v.dictionary key value es) = typed_again (codes "Dictionary") (array (told_entries ds es)) (array_again (told_entries ds es) (entries_again ds es))
  told_again ds (v.composite id n fs) = composite_again (found ds id) (type_text id) n (told_fields ds fs) (fields_again ds fs)
  told_again ds (v.reference a t to) = null_again

  values_again : (ds : List Declaration) (vs : Values) → AllAgain (told_values ds vs)
  values_again ds no_values = none_again
  values_again ds (values x vs) = item_again (told ds x) (told_values ds vs) (told_again ds x) (values_again ds vs)

  entries_again : (ds : List Declaration) (es : Entries) → AllAgain (told_entries ds es)
  entries_again ds no_entries = none_again
  entries_again ds (entries key x es) = item_again (entry_json (told ds key) (told ds x)) (told_entries ds es) (entry_again (told ds key) (told ds x) (told_again ds key) (told_again ds x)) (entries_again ds es)

  fields_again : (ds : List Declaration) (fs : Fields) → AllAgain (told_fields ds fs)
  fields_again ds no_fields = none_again
  fields_again ds (fields n x fs) = item_again (field_json n.0 (told ds x)) (told_fields ds fs) (field_again n.0 (told ds x) (told_again ds x)) (fields_again ds fs)

pub told_text : (ds : List Declaration) (x : PureValue) → depth (told ds x) ≤ max_depth → read (compact_text (told ds x)) ≡ Some (told ds x)
told_text ds x shallow = text_again (told ds x) (told_again ds x) shallow

some_is : (a b : Data) → Some a ≡ Some b → a ≡ b
some_is a b e = cc

-- a JSON that is read from that text is what the value is told as
pub read_told : (ds : List Declaration) (x : PureValue) (text : List ℕ) (json : Data) → depth (told ds x) ≤ max_depth → text ≡ compact_text (told ds x) → read text ≡ Some json → json ≡ told ds x
read_told ds x text json shallow same is = some_is json (told ds x) (sym is ∙ (ap read same ∙ told_text ds x shallow))

pub no_text : (ds : List Declaration) (x : PureValue) (text : List ℕ) → depth (told ds x) ≤ max_depth → text ≡ compact_text (told ds x) → read text ≡ None → ⊥
no_text ds x text shallow same none = let wrong : None ≡ Some (told ds x) = sym none ∙ (ap read same ∙ told_text ds x shallow) in absurd cc
