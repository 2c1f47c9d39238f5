-- What is read is read by the relation.
use Rattle.std.proofs.Common.{◌≡◌, ◌≢◌, ◌≤◌, ◌+◌, ℕ, zero, suc, max, Bool, true, false, List, [], ◌∷◌, length, Option, Some, None, option_map, ℤ, pos, negsuc, refl, sym, ap, ◌∙◌, subst, arith, ◌⊎◌, inl, inr}
use Rattle.std.proofs.lemmas.Bool.{and_parts, eqb-true}
use Rattle.std.specs.Prelude.{codes, if◌then◌else◌, ◌&&◌, ◌==◌}
use Rattle.serde_json.specs.Data.{Data, null, boolean, string, array, Items, no_items, item}
use Rattle.serde_json.specs.Find.{as_null, as_bool, as_str}
use Rattle.serde_json.specs.View.{items_of}
use Rattle.cad_num.specs.Decimal.{read_of}
use Rattle.cad_num.specs.Numbers.{value_of as integer_of}
use Rattle.cad_syntax.specs.Addresses.{address_of}
use Rattle.cad_syntax.specs.Kinds.{is_kept, signed}
use Rattle.cad_syntax.specs.Types.{PureType, basic, optional, dictionary, intersection, declared, reference, capability, capability_of}
use Rattle.cad_syntax.specs.Types as t
use Rattle.cad_syntax.specs.declared.address.Domain.{Domain}
use Rattle.cad_syntax.specs.declared.address.Domain.TheVariants as d
use Rattle.cad_syntax.specs.declared.kind.Kind.{Kind}
use Rattle.cad_syntax.specs.declared.kind.Kind.TheVariants as k
use Rattle.cad_syntax.specs.declared.num.Num.{Num}
use Rattle.cad_syntax.specs.declared.type_id.TypeId.{TypeId}
use Rattle.cad_syntax.specs.declared.types.Basic.{Basic}
use Rattle.cad_syntax.specs.declared.types.Basic.TheVariants as b
use Rattle.cad_types.specs.Classes.{is_data_sort}
use Rattle.cad_types.specs.declared.declared.Sort.{Sort}
use Rattle.cad_types.specs.declared.declared.Sort.TheVariants as s
use Rattle.cad_values.specs.Shapes.{Shape, Shapes, shape_of}
use Rattle.cad_values.specs.Sizes.{height, values_height, entries_height, fields_height}
use Rattle.cad_values.specs.Values as v
use Rattle.cad_values.specs.Values.{PureValue, PureEntry, PureField, values_of, entries_of, fields_of}
use Rattle.cad_json.specs.Read as r
use Rattle.cad_json.specs.Read.{any_struct, Reads, ReadsAll, ReadsEntries, ReadsFields}
use Rattle.cad_text.specs.Texts.{characters}
use Rattle.cad_json.specs.Words.{two, kind_word, domain_word, sort_word, typed, is_address, path_json, entry_json, composite_json}
use Rattle.cad_json_read.specs.Forms.{same_text, form_word}
use Rattle.cad_json_read.specs.Reading.{Known, ◌>>=◌, pair_of, typed_of, is_cluster, kept_num, num_at, number_of, domain_of, domain_at, path_of, character_of, address_value, number_value, any_part, optional_part, array_part, dictionary_parts, each, list_of, id_at, is_of_sort, shape_at, fields_at, field_of, declared_at, composite_at, unless_null, optional_at, array_at, entry_at, dictionary_at, of_form, value_of}
use Rattle.cad_json_read.specs.declared.form.Form.{Form}
use Rattle.cad_json_read.specs.declared.form.Form.TheVariants as f
use Rattle.cad_json_read.proofs.FieldLaws.{fields_sound, FieldsRead}
use Rattle.cad_json_read.proofs.Forming.{typed_is}
use Rattle.cad_json_read.proofs.Identifiers.{spelled, id_low}
use Rattle.cad_json_read.proofs.Known.{Good}
use Rattle.cad_json_read.proofs.Options.{bind_some, map_some, picked, some_is, text_is, str_is, bool_is, null_is, list_is, pair_is}

abbrev pub Done : Known → ℕ → PureType → Data → PureValue → Type 0
Done k n want json x = Reads k.shapes want json x × (height x ≤ n)

abbrev pub Inside : Known → ℕ → Type 0
Inside k n = (want : PureType) (json : Data) (x : PureValue) → value_of k n want json ≡ Some x → Done k n want json x

placed : (k : Known) (n : ℕ) (want : PureType) (json other : Data) (x y : PureValue) → other ≡ json → x ≡ y → Done k n want json x → Done k n want other y
placed k n want json other x y e same done = subst (λ w. Done k n want other w) same (subst (λ w. Done k n want w x) (sym e) done)

-- ---- numbers and paths

pub record IsNumber (kind : Kind) (text : List ℕ) (n : Num) : Type 0 where
  pub same : n.kind ≡ kind
  pub other : n.kind ≢ k.Address
  pub reads : read_of n.kind text ≡ Some (integer_of n)

record IsKept (kind : Kind) (negative : Bool) (magnitude : ℕ) (n : Num) : Type 0 where
  kind_is : n.kind ≡ kind
  sign_is : n.negative ≡ negative
  magnitude_is : n.magnitude ≡ magnitude

kept_is : (kind : Kind) (negative : Bool) (magnitude : ℕ) (kept : Bool) (e : is_kept kind negative magnitude ≡ kept) (n : Num) → kept_num kind negative magnitude kept e ≡ Some n → IsKept kind negative magnitude n
kept_is kind negative magnitude true e n h =
    let is = some_is (record { kind = kind; negative = negative; magnitude = magnitude; kept = e }) n h in
    record { kind_is = ap (λ (w : Num). w.kind) (sym is); sign_is = ap (λ (w : Num). w.negative) (sym is); magnitude_is = ap (λ (w : Num). w.magnitude) (sym is) }
kept_is kind negative magnitude false e n h = absurd cc

num_is : (kind : Kind) (z : ℤ) (n : Num) → num_at kind z ≡ Some n → (n.kind ≡ kind) × (z ≡ integer_of n)
num_is kind (pos m) n e =
    let q = kept_is kind false m (is_kept kind false m) refl n e in
    (q.kind_is, sym (λ i. signed (q.sign_is i) (q.magnitude_is i)))
num_is kind (negsuc m) n e =
    let q = kept_is kind true (suc m) (is_kept kind true (suc m)) refl n e in
    (q.kind_is, sym (λ i. signed (q.sign_is i) (q.magnitude_is i)))

no_address : (kind : Kind) → is_address kind ≡ false → kind ≢ k.Address
no_address kind e same = let wrong : true ≡ false = sym (ap is_address same) ∙ e in absurd cc

number_is : (kind : Kind) (text : List ℕ) (n : Num) → number_of kind text ≡ Some n → IsNumber kind text n
unfolding number_of
number_is kind text n e = go (is_address kind) refl e
  where
    go : (b : Bool) → is_address kind ≡ b → (if b then None else read_of kind text >>= num_at kind) ≡ Some n → IsNumber kind text n
    go true h e = absurd cc
    go false h e =
        let c = bind_some (read_of kind text) (num_at kind) n e in
        let q = num_is kind c.0 n c.2 in
        record { same = q.0; other = λ is. no_address kind h (sym q.0 ∙ is); reads = ap (λ (w : Kind). read_of w text) q.0 ∙ (c.1 ∙ ap (λ (z : ℤ). Some z) q.1) }

domain_is : (text : List ℕ) (domain : Domain) → domain_of text ≡ Some domain → text ≡ domain_word domain
domain_is text domain e = go (same_text text (codes "storage")) (same_text text (codes "public")) refl refl e
  where
    go : (x y : Bool) → same_text text (codes "storage") ≡ x → same_text text (codes "public") ≡ y → (if x then Some d.Storage else if y then Some d.Public else None) ≡ Some domain → text ≡ domain_word domain
    go true y h l e = text_is text (codes "storage") h ∙ ap domain_word (some_is d.Storage domain e)
    go false true h l e = text_is text (codes "public") l ∙ ap domain_word (some_is d.Public domain e)
    go false false h l e = absurd cc

-- ---- parts

any_is : (basic_type : Basic) (part : PureType) → any_part basic_type ≡ Some part → (basic basic_type ≡ any_struct) × (part ≡ any_struct)
any_is b.AnyStruct part e = (refl, sym (some_is any_struct part e))
any_is _ part e = absurd cc

optional_is : (want part : PureType) → optional_part want ≡ Some part → (want ≡ optional part) ⊎ ((want ≡ any_struct) × (part ≡ any_struct))
optional_is (optional w) part e = inl (ap optional (some_is w part e))
optional_is (basic w) part e = inr (any_is w part e)
optional_is (t.array w) part e = absurd cc
optional_is (dictionary key w) part e = absurd cc
optional_is (intersection ids) part e = absurd cc
optional_is (declared id) part e = absurd cc
optional_is (reference a w) part e = absurd cc
optional_is capability part e = absurd cc
optional_is (capability_of w) part e = absurd cc

array_is : (want part : PureType) → array_part want ≡ Some part → (want ≡ t.array part) ⊎ ((want ≡ any_struct) × (part ≡ any_struct))
array_is (t.array w) part e = inl (ap t.array (some_is w part e))
array_is (basic w) part e = inr (any_is w part e)
array_is (optional w) part e = absurd cc
array_is (dictionary key w) part e = absurd cc
array_is (intersection ids) part e = absurd cc
array_is (declared id) part e = absurd cc
array_is (reference a w) part e = absurd cc
array_is capability part e = absurd cc
array_is (capability_of w) part e = absurd cc

dictionary_is : (want : PureType) (p : PureType × PureType) → dictionary_parts want ≡ Some p → want ≡ dictionary p.0 p.1
dictionary_is (dictionary key w) p e = ap (λ (q : PureType × PureType). dictionary q.0 q.1) (some_is (key, w) p e)
dictionary_is (optional w) p e = absurd cc
dictionary_is (basic w) p e = absurd cc
dictionary_is (t.array w) p e = absurd cc
dictionary_is (intersection ids) p e = absurd cc
dictionary_is (declared id) p e = absurd cc
dictionary_is (reference a w) p e = absurd cc
dictionary_is capability p e = absurd cc
dictionary_is (capability_of w) p e = absurd cc

-- ---- lists

values_sound : (k : Known) (n : ℕ) → Inside k n → (want : PureType) (all : List Data) (vs : List PureValue) → each (value_of k n want) all ≡ Some vs → ReadsAll k.shapes want (items_of all) (values_of vs) × (values_height (values_of vs) ≤ n)
values_sound k n inside want [] vs e = subst (λ (w : List PureValue). ReadsAll k.shapes want no_items (values_of w) × (values_height (values_of w) ≤ n)) (some_is [] vs e) (r.no_element, omega arith)
values_sound k n inside want (json ∷ all) vs e =
    let first = bind_some (value_of k n want json) (λ y. each (value_of k n want) all >>= λ ys. Some (y ∷ ys)) vs e in
    let later = bind_some (each (value_of k n want) all) (λ ys. Some (first.0 ∷ ys)) vs first.2 in
    let head = inside want json first.0 first.1 in
    let tail = values_sound k n inside want all later.0 later.1 in
    subst (λ (w : List PureValue). ReadsAll k.shapes want (item json (items_of all)) (values_of w) × (values_height (values_of w) ≤ n)) (some_is (first.0 ∷ later.0) vs later.2) (r.element head.0 tail.0, omega (arith, head.1, tail.1))

record EntryRead (k : Known) (n : ℕ) (key want : PureType) (json : Data) (e : PureEntry) : Type 0 where
  first : Data
  second : Data
  is : json ≡ entry_json first second
  key_reads : Done k n key first e.key
  value_reads : Done k n want second e.value

entry_sound : (k : Known) (n : ℕ) → Inside k n → (key want : PureType) (json : Data) (entry : PureEntry) → entry_at (value_of k n) key want json ≡ Some entry → EntryRead k n key want json entry
entry_sound k n inside key want json entry e =
    let p = bind_some (pair_of (codes "key") (codes "value") json) (λ p. value_of k n key p.0 >>= λ x. value_of k n want p.1 >>= λ y. Some (record { key = x; value = y })) entry e in
    let x = bind_some (value_of k n key p.0.0) (λ x. value_of k n want p.0.1 >>= λ y. Some (record { key = x; value = y })) entry p.2 in
    let y = bind_some (value_of k n want p.0.1) (λ y. Some (record { key = x.0; value = y })) entry x.2 in
    let made : EntryRead k n key want json (record { key = x.0; value = y.0 }) = record {
      first = p.0.0;
      second = p.0.1;
      is = pair_is (codes "key") (codes "value") json p.0 p.1;
      key_reads = inside key p.0.0 x.0 x.1;
      value_reads = inside want p.0.1 y.0 y.1;
    } in
    subst (EntryRead k n key want json) (some_is (record { key = x.0; value = y.0 }) entry y.2) made

entries_sound : (k : Known) (n : ℕ) → Inside k n → (key want : PureType) (all : List Data) (es : List PureEntry) → each (entry_at (value_of k n) key want) all ≡ Some es
    → ReadsEntries k.shapes key want (items_of all) (entries_of es) × (entries_height (entries_of es) ≤ n)
entries_sound k n inside key want [] es e = subst (λ (w : List PureEntry). ReadsEntries k.shapes key want no_items (entries_of w) × (entries_height (entries_of w) ≤ n)) (some_is [] es e) (r.no_entry, omega arith)
entries_sound k n inside key want (json ∷ all) es e =
    let first = bind_some (entry_at (value_of k n) key want json) (λ y. each (entry_at (value_of k n) key want) all >>= λ ys. Some (y ∷ ys)) es e in
    let later = bind_some (each (entry_at (value_of k n) key want) all) (λ ys. Some (first.0 ∷ ys)) es first.2 in
    let head = entry_sound k n inside key want json first.0 first.1 in
    let tail = entries_sound k n inside key want all later.0 later.1 in
    let whole : ReadsEntries k.shapes key want (item (entry_json head.first head.second) (items_of all)) (entries_of (first.0 ∷ later.0)) = r.entry head.key_reads.0 head.value_reads.0 tail.0 in
    let low : entries_height (entries_of (first.0 ∷ later.0)) ≤ n = omega (arith, head.key_reads.1, head.value_reads.1, tail.1) in
    subst (λ (w : List PureEntry). ReadsEntries k.shapes key want (item json (items_of all)) (entries_of w) × (entries_height (entries_of w) ≤ n)) (some_is (first.0 ∷ later.0) es later.2)
    (subst (λ (w : Data). ReadsEntries k.shapes key want (item w (items_of all)) (entries_of (first.0 ∷ later.0))) (sym head.is) whole, low)

-- ---- composites

sort_is : (form : Form) (sort : Sort) → is_of_sort form sort ≡ true → (form_word form ≡ sort_word sort) × (is_data_sort sort ≡ true)
sort_is f.Struct s.Struct e = (refl, refl)
sort_is f.Enum s.Enum e = (refl, refl)
sort_is _ _ e = absurd cc

composite_sound : (k : Known) → Good k → (n : ℕ) → Inside k n → (want : PureType) (form : Form) (content : Data) (x : PureValue) → composite_at k (value_of k n) form content ≡ Some x → Done k (suc n) want (typed (form_word form) content) x
composite_sound k good n inside want form content x e =
    let p = bind_some (pair_of (codes "fields") (codes "id") content) (λ p. as_str p.1 >>= λ text. id_at text >>= λ id. declared_at k (value_of k n) form p.0 id) x e in
    let text = bind_some (as_str p.0.1) (λ text. id_at text >>= λ id. declared_at k (value_of k n) form p.0.0 id) x p.2 in
    let id = bind_some (id_at text.0) (λ id. declared_at k (value_of k n) form p.0.0 id) x text.2 in
    let shape = bind_some (shape_at k form id.0) (λ shape. list_of p.0.0 >>= λ all. fields_at (value_of k n) shape.fields all >>= λ fs. Some (v.composite id.0 0 (fields_of fs))) x id.2 in
    let all = bind_some (list_of p.0.0) (λ all. fields_at (value_of k n) shape.0.fields all >>= λ fs. Some (v.composite id.0 0 (fields_of fs))) x shape.2 in
    let fs = bind_some (fields_at (value_of k n) shape.0.fields all.0) (λ fs. Some (v.composite id.0 0 (fields_of fs))) x all.2 in
    let there = bind_some (shape_of k.shapes id.0) (λ shape. if is_of_sort form shape.sort && k.importable id.0 then Some shape else None) shape.0 shape.1 in
    let test = picked (is_of_sort form there.0.sort && k.importable id.0) (Some there.0) shape.0 there.2 in
    let same : there.0 ≡ shape.0 = some_is there.0 shape.0 test.1 in
    let is_there : shape_of k.shapes id.0 ≡ Some shape.0 = there.1 ∙ ap (λ (w : Shape). Some w) same in
    let tests = and_parts (is_of_sort form there.0.sort) (k.importable id.0) test.0 in
    let sort = sort_is form shape.0.sort (sym (ap (λ (w : Shape). is_of_sort form w.sort) same) ∙ tests.0) in
    let counted = picked (length all.0 == length shape.0.fields) (each (field_of (value_of k n) all.0) shape.0.fields) fs.0 fs.1 in
    let read = fields_sound k.shapes n (value_of k n) inside shape.0.fields (good.named id.0 shape.0 is_there) all.0 fs.0 (eqb-true (length all.0) (length shape.0.fields) counted.0) counted.1 in
    let content_is : content ≡ composite_json (array (items_of all.0)) text.0 =
    pair_is (codes "fields") (codes "id") content p.0 p.1 ∙ (λ i. composite_made (list_is p.0.0 all.0 all.1 i) (str_is p.0.1 text.0 text.1 i)) in
    let json_is : typed (form_word form) content ≡ typed (sort_word shape.0.sort) (composite_json (array (items_of all.0)) text.0) = λ i. typed (sort.0 i) (content_is i) in
    placed k (suc n) want (typed (sort_word shape.0.sort) (composite_json (array (items_of all.0)) text.0)) (typed (form_word form) content) (v.composite id.0 0 (fields_of fs.0)) x json_is
    (some_is (v.composite id.0 0 (fields_of fs.0)) x fs.2)
    (r.composite (spelled text.0 id.0 id.1) (id_low text.0 id.0 id.1) is_there sort.1 ((good.tied id.0).0 tests.1) read.reads, omega (arith, read.low))
  where
    composite_made : Data → Data → Data
    composite_made list id = two (codes "fields") list (codes "id") id

-- ---- optionals, arrays and dictionaries

optional_sound : (k : Known) (n : ℕ) → Inside k n → (want : PureType) (content : Data) (x : PureValue) → optional_at (value_of k n) want content ≡ Some x → Done k (suc n) want (typed (codes "Optional") content) x
optional_sound k n inside want content x e =
    let p = bind_some (optional_part want) (λ part. unless_null (as_null content) (value_of k n part content)) x e in
    go (as_null content) refl p.0 (optional_is want p.0 p.1) p.2
  where
    nil_of : (part : PureType) → (want ≡ optional part) ⊎ ((want ≡ any_struct) × (part ≡ any_struct)) → Reads k.shapes want (typed (codes "Optional") null) v.nil
    nil_of part (inl is) = subst (λ w. Reads k.shapes w (typed (codes "Optional") null) v.nil) (sym is) r.nil
    nil_of part (inr is) = subst (λ w. Reads k.shapes w (typed (codes "Optional") null) v.nil) (sym is.0) r.any_nil

    some_of : (part : PureType) (y : PureValue) → (want ≡ optional part) ⊎ ((want ≡ any_struct) × (part ≡ any_struct)) → Reads k.shapes part content y → Reads k.shapes want (typed (codes "Optional") content) (v.some y)
    some_of part y (inl is) reads = subst (λ w. Reads k.shapes w (typed (codes "Optional") content) (v.some y)) (sym is) (r.some reads)
    some_of part y (inr is) reads = subst (λ w. Reads k.shapes w (typed (codes "Optional") content) (v.some y)) (sym is.0) (r.any_some (subst (λ w. Reads k.shapes w content y) is.1 reads))

    go : (o : Option (Unit {0})) → as_null content ≡ o → (part : PureType) → (want ≡ optional part) ⊎ ((want ≡ any_struct) × (part ≡ any_struct)) → unless_null o (value_of k n part content) ≡ Some x → Done k (suc n) want (typed (codes "Optional") content) x
    go (Some u) is part way h = placed k (suc n) want (typed (codes "Optional") null) (typed (codes "Optional") content) v.nil x (ap (typed (codes "Optional")) (null_is content u is)) (some_is v.nil x h) (nil_of part way, omega arith)
    go None is part way h =
        let m = map_some v.some (value_of k n part content) x h in
        let read = inside part content m.0 m.1 in
        placed k (suc n) want (typed (codes "Optional") content) (typed (codes "Optional") content) (v.some m.0) x refl m.2 (some_of part m.0 way read.0, omega (arith, read.1))

array_sound : (k : Known) (n : ℕ) → Inside k n → (want : PureType) (content : Data) (x : PureValue) → array_at (value_of k n) want content ≡ Some x → Done k (suc n) want (typed (codes "Array") content) x
array_sound k n inside want content x e =
    let p = bind_some (array_part want) (λ part. list_of content >>= λ all. each (value_of k n part) all >>= λ vs. Some (v.array part (values_of vs))) x e in
    let all = bind_some (list_of content) (λ all. each (value_of k n p.0) all >>= λ vs. Some (v.array p.0 (values_of vs))) x p.2 in
    let vs = bind_some (each (value_of k n p.0) all.0) (λ vs. Some (v.array p.0 (values_of vs))) x all.2 in
    let read = values_sound k n inside p.0 all.0 vs.0 vs.1 in
    placed k (suc n) want (typed (codes "Array") (array (items_of all.0))) (typed (codes "Array") content) (v.array p.0 (values_of vs.0)) x (ap (typed (codes "Array")) (list_is content all.0 all.1)) (some_is (v.array p.0 (values_of vs.0)) x vs.2)
    (array_of p.0 (items_of all.0) (values_of vs.0) (array_is want p.0 p.1) read.0, omega (arith, read.1))
  where
    array_of : (part : PureType) (all : Items) (vs : v.Values) → (want ≡ t.array part) ⊎ ((want ≡ any_struct) × (part ≡ any_struct)) → ReadsAll k.shapes part all vs → Reads k.shapes want (typed (codes "Array") (array all)) (v.array part vs)
    array_of part all vs (inl is) reads = subst (λ w. Reads k.shapes w (typed (codes "Array") (array all)) (v.array part vs)) (sym is) (r.array_of reads)
    array_of part all vs (inr is) reads =
        subst (λ w. Reads k.shapes w (typed (codes "Array") (array all)) (v.array part vs)) (sym is.0)
        (subst (λ w. Reads k.shapes any_struct (typed (codes "Array") (array all)) (v.array w vs)) (sym is.1) (r.any_array (subst (λ w. ReadsAll k.shapes w all vs) is.1 reads)))

dictionary_sound : (k : Known) (n : ℕ) → Inside k n → (want : PureType) (content : Data) (x : PureValue) → dictionary_at (value_of k n) want content ≡ Some x → Done k (suc n) want (typed (codes "Dictionary") content) x
dictionary_sound k n inside want content x e =
    let p = bind_some (dictionary_parts want) (λ parts. list_of content >>= λ all. each (entry_at (value_of k n) parts.0 parts.1) all >>= λ es. Some (v.dictionary parts.0 parts.1 (entries_of es))) x e in
    let all = bind_some (list_of content) (λ all. each (entry_at (value_of k n) p.0.0 p.0.1) all >>= λ es. Some (v.dictionary p.0.0 p.0.1 (entries_of es))) x p.2 in
    let es = bind_some (each (entry_at (value_of k n) p.0.0 p.0.1) all.0) (λ es. Some (v.dictionary p.0.0 p.0.1 (entries_of es))) x all.2 in
    let read = entries_sound k n inside p.0.0 p.0.1 all.0 es.0 es.1 in
    subst (λ w. Done k (suc n) w (typed (codes "Dictionary") content) x) (sym (dictionary_is want p.0 p.1))
    (placed k (suc n) (dictionary p.0.0 p.0.1) (typed (codes "Dictionary") (array (items_of all.0))) (typed (codes "Dictionary") content) (v.dictionary p.0.0 p.0.1 (entries_of es.0)) x (ap (typed (codes "Dictionary")) (list_is content all.0 all.1)) (some_is (v.dictionary p.0.0 p.0.1 (entries_of es.0)) x es.2)
    (r.dictionary_of read.0, omega (arith, read.1)))

-- ---- values without parts

path_sound : (k : Known) (n : ℕ) (want : PureType) (content : Data) (x : PureValue) → path_of content ≡ Some x → Done k (suc n) want (typed (codes "Path") content) x
path_sound k n want content x e =
    let p = bind_some (pair_of (codes "domain") (codes "identifier") content) (λ p. domain_at p.0 >>= λ domain. as_str p.1 >>= λ identifier. Some (v.path (record { domain = domain; identifier = record { 0 = identifier } }))) x e in
    let domain = bind_some (domain_at p.0.0) (λ domain. as_str p.0.1 >>= λ identifier. Some (v.path (record { domain = domain; identifier = record { 0 = identifier } }))) x p.2 in
    let word = bind_some (as_str p.0.0) domain_of domain.0 domain.1 in
    let name = bind_some (as_str p.0.1) (λ identifier. Some (v.path (record { domain = domain.0; identifier = record { 0 = identifier } }))) x domain.2 in
    let first : p.0.0 ≡ string (domain_word domain.0) = str_is p.0.0 word.0 word.1 ∙ ap string (domain_is word.0 domain.0 word.2) in
    let content_is : content ≡ path_json (domain_word domain.0) name.0 = pair_is (codes "domain") (codes "identifier") content p.0 p.1 ∙ (λ i. path_made (first i) (str_is p.0.1 name.0 name.1 i)) in
    placed k (suc n) want (typed (codes "Path") (path_json (domain_word domain.0) name.0)) (typed (codes "Path") content) (v.path (record { domain = domain.0; identifier = record { 0 = name.0 } })) x (ap (typed (codes "Path")) content_is)
    (some_is (v.path (record { domain = domain.0; identifier = record { 0 = name.0 } })) x name.2) (r.plain (r.path (record { domain = domain.0; identifier = record { 0 = name.0 } })), omega arith)
  where
    path_made : Data → Data → Data
    path_made domain identifier = two (codes "domain") domain (codes "identifier") identifier

number_sound : (k : Known) (n : ℕ) (want : PureType) (kind : Kind) (content : Data) (x : PureValue) → (as_str content >>= number_value kind) ≡ Some x → Done k (suc n) want (typed (kind_word kind) content) x
number_sound k n want kind content x e =
    let text = bind_some (as_str content) (number_value kind) x e in
    let m = map_some v.number (number_of kind text.0) x text.2 in
    let is = number_is kind text.0 m.0 m.1 in
    placed k (suc n) want (typed (kind_word m.0.kind) (string text.0)) (typed (kind_word kind) content) (v.number m.0) x (λ i. typed (kind_word (sym is.same i)) (str_is content text.0 text.1 i)) m.2 (r.plain (r.number is.other is.reads), omega arith)

-- ---- values

form_sound : (k : Known) → Good k → (n : ℕ) → Inside k n → (want : PureType) (form : Form) (content : Data) (x : PureValue) → of_form k (value_of k n) want form content ≡ Some x → Done k (suc n) want (typed (form_word form) content) x
form_sound k good n inside want f.String content x e =
    let m = map_some v.string (as_str content) x e in
    placed k (suc n) want (typed (codes "String") (string m.0)) (typed (codes "String") content) (v.string m.0) x (ap (typed (codes "String")) (str_is content m.0 m.1)) m.2 (r.plain (r.string_of m.0), omega arith)
form_sound k good n inside want f.Optional content x e = optional_sound k n inside want content x e
form_sound k good n inside want f.Array content x e = array_sound k n inside want content x e
form_sound k good n inside want f.Struct content x e = composite_sound k good n inside want f.Struct content x e
form_sound k good n inside want f.Bool content x e =
    let m = map_some v.bool (as_bool content) x e in
    placed k (suc n) want (typed (codes "Bool") (boolean m.0)) (typed (codes "Bool") content) (v.bool m.0) x (ap (typed (codes "Bool")) (bool_is content m.0 m.1)) m.2 (r.plain (r.bool m.0), omega arith)
form_sound k good n inside want f.Address content x e =
    let text = bind_some (as_str content) address_value x e in
    let m = map_some (λ a. v.address (record { 0 = a })) (address_of text.0) x text.2 in
    placed k (suc n) want (typed (codes "Address") (string text.0)) (typed (codes "Address") content) (v.address (record { 0 = m.0 })) x (ap (typed (codes "Address")) (str_is content text.0 text.1)) m.2 (r.plain (r.address m.1), omega arith)
form_sound k good n inside want f.Character content x e =
    let text = bind_some (as_str content) character_of x e in
    let q = picked (is_cluster text.0) (Some (v.character text.0)) x text.2 in
    placed k (suc n) want (typed (codes "Character") (string text.0)) (typed (codes "Character") content) (v.character text.0) x (ap (typed (codes "Character")) (str_is content text.0 text.1)) (some_is (v.character text.0) x q.1) (r.plain (r.character (eqb-true (length (characters text.0)) 1 q.0)), omega arith)
form_sound k good n inside want f.Dictionary content x e = dictionary_sound k n inside want content x e
form_sound k good n inside want f.Path content x e = path_sound k n want content x e
form_sound k good n inside want f.Enum content x e = composite_sound k good n inside want f.Enum content x e
form_sound k good n inside want (f.Number kind) content x e = number_sound k n want kind content x e

pub sound : (k : Known) → Good k → (n : ℕ) → Inside k n
unfolding value_of
sound k good zero want json x e = absurd cc
sound k good (suc n) want json x e =
    let p = bind_some (typed_of json) (λ p. of_form k (value_of k n) want p.0 p.1) x e in
    placed k (suc n) want (typed (form_word p.0.0) p.0.1) json x x (typed_is json p.0.0 p.0.1 p.1) refl (form_sound k good n (sound k good n) want p.0.0 p.0.1 x p.2)
