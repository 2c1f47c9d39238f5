-- A form by its word, and a value's form and content.
use Rattle.std.proofs.Common.{◌≡◌, ◌≢◌, ℕ, Bool, true, false, List, [], ◌∷◌, Option, Some, None, find, refl, sym, ap, ◌∙◌}
use Rattle.std.specs.Prelude.{cond, codes}
use Rattle.serde_json.specs.Data.{Data, string}
use Rattle.serde_json.specs.Find.{as_str}
use Rattle.cad_syntax.specs.declared.kind.Kind.{Kind}
use Rattle.cad_syntax.specs.declared.kind.Kind.TheVariants as k
use Rattle.cad_json.specs.Words.{kind_word, typed, two}
use Rattle.cad_json_read.specs.Forms.{same_text, form_word, form_of, found_in, first_of, part_forms, signed_forms, unsigned_forms}
use Rattle.cad_json_read.specs.Reading.{◌>>=◌, pair_of, form_at, typed_of}
use Rattle.cad_json_read.specs.declared.form.Form.{Form}
use Rattle.cad_json_read.specs.declared.form.Form.TheVariants as f
use Rattle.cad_json_read.proofs.Options.{bind_some, some_is, text_is, str_is, pair_is, pair_again}

found_word : (forms : List Form) (text : List ℕ) (form : Form) → found_in forms text ≡ Some form → text ≡ form_word form
found_word [] text form e = absurd cc
found_word (g ∷ forms) text form e = go (same_text text (form_word g)) refl e (found_word forms text form)
  where
    go : (b : Bool) → same_text text (form_word g) ≡ b → cond b (Some g) (found_in forms text) ≡ Some form → (found_in forms text ≡ Some form → text ≡ form_word form) → text ≡ form_word form
    go true s h rest = text_is text (form_word g) s ∙ ap form_word (some_is g form h)
    go false s h rest = rest h

first_word : (a b : Option Form) (text : List ℕ) (form : Form) → ((g : Form) → a ≡ Some g → text ≡ form_word g) → ((g : Form) → b ≡ Some g → text ≡ form_word g) → first_of a b ≡ Some form → text ≡ form_word form
first_word None b text form l r e = r form e
first_word (Some g) b text form l r e = l form e

pub word_is : (text : List ℕ) (form : Form) → form_of text ≡ Some form → text ≡ form_word form
unfolding form_of
word_is text form e = first_word (found_in part_forms text) (first_of (found_in signed_forms text) (found_in unsigned_forms text)) text form (found_word part_forms text)
    (λ g h. first_word (found_in signed_forms text) (found_in unsigned_forms text) text g (found_word signed_forms text) (found_word unsigned_forms text) h) e

pub string_found : form_of (codes "String") ≡ Some f.String
unfolding form_of
string_found = refl

pub optional_found : form_of (codes "Optional") ≡ Some f.Optional
unfolding form_of
optional_found = refl

pub array_found : form_of (codes "Array") ≡ Some f.Array
unfolding form_of
array_found = refl

pub struct_found : form_of (codes "Struct") ≡ Some f.Struct
unfolding form_of
struct_found = refl

pub bool_found : form_of (codes "Bool") ≡ Some f.Bool
unfolding form_of
bool_found = refl

pub address_found : form_of (codes "Address") ≡ Some f.Address
unfolding form_of
address_found = refl

pub character_found : form_of (codes "Character") ≡ Some f.Character
unfolding form_of
character_found = refl

pub dictionary_found : form_of (codes "Dictionary") ≡ Some f.Dictionary
unfolding form_of
dictionary_found = refl

pub path_found : form_of (codes "Path") ≡ Some f.Path
unfolding form_of
path_found = refl

pub enum_found : form_of (codes "Enum") ≡ Some f.Enum
unfolding form_of
enum_found = refl

pub kind_found : (kind : Kind) → kind ≢ k.Address → form_of (kind_word kind) ≡ Some (f.Number kind)
unfolding form_of
kind_found k.Int h = refl
kind_found k.Int8 h = refl
kind_found k.Int16 h = refl
kind_found k.Int32 h = refl
kind_found k.Int64 h = refl
kind_found k.Int128 h = refl
kind_found k.UInt h = refl
kind_found k.UInt8 h = refl
kind_found k.UInt16 h = refl
kind_found k.UInt32 h = refl
kind_found k.UInt64 h = refl
kind_found k.UInt128 h = refl
kind_found k.Word8 h = refl
kind_found k.Word16 h = refl
kind_found k.Word32 h = refl
kind_found k.Word64 h = refl
kind_found k.Word128 h = refl
kind_found k.Fix64 h = refl
kind_found k.UFix64 h = refl
kind_found k.Address h = absurd (h refl)

pub typed_is : (json : Data) (form : Form) (content : Data) → typed_of json ≡ Some (form, content) → json ≡ typed (form_word form) content
unfolding typed_of
typed_is json form content e =
    let b = bind_some (pair_of (codes "type") (codes "value") json) (λ p. form_at p.0 >>= λ g. Some (g, p.1)) (form, content) e in
    let c = bind_some (form_at b.0.0) (λ g. Some (g, b.0.1)) (form, content) b.2 in
    let d = bind_some (as_str b.0.0) form_of c.0 c.1 in
    let same : (c.0, b.0.1) ≡ (form, content) = some_is (c.0, b.0.1) (form, content) c.2 in
    let word : b.0.0 ≡ string (form_word form) = str_is b.0.0 d.0 d.1 ∙ ap string (word_is d.0 c.0 d.2 ∙ ap (λ (p : Form × Data). form_word p.0) same) in
    pair_is (codes "type") (codes "value") json b.0 b.1 ∙ (λ i. two (codes "type") (word i) (codes "value") (same i).1)

pub typed_again : (word : List ℕ) (form : Form) (content : Data) → form_of word ≡ Some form → typed_of (typed word content) ≡ Some (form, content)
unfolding typed_of
typed_again word form content e = rw (pair_again (codes "type") (codes "value") (string word) content, e) refl
