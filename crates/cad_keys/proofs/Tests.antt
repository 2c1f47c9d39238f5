-- Tests of sameness tell whether two are the same.
use Rattle.std.proofs.Common.{◌≤◌, length, map, arith, ◌≡◌, ℕ, Bool, true, false, ◌==◌, ◌&&◌, ◌↔◌, IsTrue, List, [], ◌∷◌, None, encode_utf8_all, refl, ap, sym, ◌∙◌}
use Rattle.std.proofs.lemmas.Bool.{false≢true}
use Rattle.std.proofs.lemmas.Str.{IsUtf8-from_ascii, chars-IsAscii, encodes-chars}
use Rattle.std.proofs.lemmas.Str.Ascii.{All-from_ascii}
use Rattle.std.specs.Str.{IsAscii}
use Rattle.unicode_normalization.proofs.FormsLemmas.{normalize-ascii}
use Rattle.unicode_normalization.specs.Forms.{nfc}
use Rattle.cad_text.specs.Texts.{normal_form}
use Rattle.cad_syntax.specs.TypeIds.{same_id}
use Rattle.cad_syntax.specs.Types.{PureType}
use Rattle.cad_syntax.specs.Types as t
use Rattle.cad_syntax.specs.declared.type_id.TypeId.{TypeId}
use Rattle.cad_syntax.specs.declared.types.Authorization.TheVariants as a
use Rattle.cad_syntax.proofs.Members.{and_both}
use Rattle.cad_syntax.proofs.Same.{Tells, lists_tell, numbers_tell, ids_tell}
use Rattle.cad_types.proofs.Decision.{basics_tell}
use Rattle.cad_values.specs.Values.{PureValue, Fields, no_fields, fields, fields_of, pure_field}
use Rattle.cad_values.specs.declared.value.CompositeField.{CompositeField}
use Rattle.cad_values.specs.Values as v
use Rattle.cad_world.specs.Same.{same_text, same_ids, same_authorization, same_type, same_key}
use Rattle.cad_keys.specs.Sameness.{case_number, same_case, same_as_case}

same_ids_tell : Tells same_ids
same_ids_tell x y = lists_tell same_id ids_tell x y

authorizations_tell : Tells same_authorization
authorizations_tell a.Unauthorized a.Unauthorized = (λ _. refl, λ _. refl)
authorizations_tell (a.All x) (a.All y) = (λ e. ap a.All ((same_ids_tell x y).0 e), λ e. (same_ids_tell x y).1 cc)
authorizations_tell (a.Any x) (a.Any y) = (λ e. ap a.Any ((same_ids_tell x y).0 e), λ e. (same_ids_tell x y).1 cc)
authorizations_tell _ _ = (λ e. absurd (false≢true e), λ e. cc)

both_true : (x y : Bool) → x ≡ true → y ≡ true → (x && y) ≡ true
both_true true y e f = f
both_true false y e f = cc

types_tell : Tells same_type
types_tell (t.basic x) (t.basic y) = (λ e. ap t.basic ((basics_tell x y).0 e), λ e. (basics_tell x y).1 cc)
types_tell (t.optional x) (t.optional y) = (λ e. ap t.optional ((types_tell x y).0 e), λ e. (types_tell x y).1 cc)
types_tell (t.array x) (t.array y) = (λ e. ap t.array ((types_tell x y).0 e), λ e. (types_tell x y).1 cc)
types_tell (t.dictionary x v) (t.dictionary y w) = (
  λ e. let both = and_both (same_type x y) (same_type v w) e in
      let first = (types_tell x y).0 both.0 in
      let second = (types_tell v w).0 both.1 in
      cc,
  λ e. both_true _ _ ((types_tell x y).1 cc) ((types_tell v w).1 cc),
)
types_tell (t.intersection x) (t.intersection y) = (λ e. ap t.intersection ((same_ids_tell x y).0 e), λ e. (same_ids_tell x y).1 cc)
types_tell (t.declared x) (t.declared y) = (λ e. ap t.declared ((ids_tell x y).0 e), λ e. (ids_tell x y).1 cc)
types_tell (t.reference b x) (t.reference c y) = (
  λ e. let both = and_both (same_authorization b c) (same_type x y) e in
      let first = (authorizations_tell b c).0 both.0 in
      let second = (types_tell x y).0 both.1 in
      cc,
  λ e. both_true _ _ ((authorizations_tell b c).1 cc) ((types_tell x y).1 cc),
)
types_tell t.capability t.capability = (λ _. refl, λ _. refl)
types_tell (t.capability_of x) (t.capability_of y) = (λ e. ap t.capability_of ((types_tell x y).0 e), λ e. (types_tell x y).1 cc)
types_tell _ _ = (λ e. absurd (false≢true e), λ e. cc)

-- a truth that tells the same as a test is its answer
answer_by : {A : Type 0} (eq : A → A → Bool) → Tells eq → (r : Bool) (x y : A) → (IsTrue r ↔ (x ≡ y)) → r ≡ eq x y
answer_by eq tells true x y h = sym ((tells x y).1 (h.0 refl))
answer_by eq tells false x y h = refused (eq x y) (λ e. false≢true (h.1 ((tells x y).0 e)))
  where
    refused : (q : Bool) → (q ≡ true → ⊥) → false ≡ q
    refused true apart = absurd (apart refl)
    refused false apart = refl

pub types_by : (r : Bool) (x y : PureType) → (IsTrue r ↔ (x ≡ y)) → r ≡ same_type x y
types_by r x y h = answer_by same_type types_tell r x y h

pub texts_by : (r : Bool) (x y : List ℕ) → (IsTrue r ↔ (x ≡ y)) → r ≡ same_text x y
texts_by r x y h = answer_by same_text (lists_tell ◌==◌ numbers_tell) r x y h

-- a text of ASCII letters alone is its own NFC form
pub ascii_form : (bs : List ℕ) → IsAscii bs → normal_form bs ≡ bs
ascii_form bs h =
    let spelled = chars-IsAscii bs h in
    ap encode_utf8_all (ap nfc spelled ∙ normalize-ascii _ bs (All-from_ascii bs h) ∙ sym spelled) ∙ encodes-chars bs (IsUtf8-from_ascii bs h)

pub two_composites : (x y : TypeId) (i j : ℕ) (f g : Fields) → same_key (v.composite x i f) (v.composite y j g) ≡ same_case x (case_number f) y (case_number g)
two_composites x y i j (fields n (v.number p) no_fields) (fields m (v.number q) no_fields) = refl
two_composites x y i j (fields n (v.number p) no_fields) (fields m q no_fields) = refl
two_composites x y i j (fields n (v.number p) no_fields) (fields m (v.number q) (fields k u r)) = refl
two_composites x y i j (fields n (v.number p) no_fields) (fields m q (fields k u r)) = refl
two_composites x y i j (fields n (v.number p) no_fields) no_fields = refl
two_composites x y i j (fields n p no_fields) g = refl
two_composites x y i j (fields n (v.number p) (fields k u r)) g = refl
two_composites x y i j (fields n p (fields k u r)) g = refl
two_composites x y i j no_fields g = refl

-- composites as keys are cases by their numbers
pub composite_key : (x : TypeId) (i : ℕ) (f : Fields) (b : PureValue) → same_key (v.composite x i f) b ≡ same_as_case x (case_number f) b
composite_key x i f (v.composite y j g) = two_composites x y i j f g
composite_key x i (fields n (v.number p) no_fields) _ = refl
composite_key x i (fields n p no_fields) _ = refl
composite_key x i (fields n (v.number p) (fields k u r)) _ = refl
composite_key x i (fields n p (fields k u r)) _ = refl
composite_key x i no_fields _ = refl

-- of more than one field it is no case
pub case_of_more : (fs : List CompositeField) → 2 ≤ length fs → None ≡ case_number (fields_of (map pure_field fs))
case_of_more [] h = absurd (omega arith)
case_of_more (f ∷ []) h = absurd (omega arith)
case_of_more (f ∷ g ∷ fs) h = refl
