-- What an item tells is read again as that item, and items of a World make it again.
use Rattle.std.proofs.Common.{◌≡◌, ℕ, ◌^◌, ◌<◌, Bool, true, false, cond, List, [], ◌∷◌, ◌++◌, map, Option, Some, None, Result, Ok, Err, refl, sym, ap, ◌∙◌, append-nil}
use Rattle.std.specs.Prelude.{IfOk}
use Rattle.std.specs.List.{AllByRecursion}
use Rattle.std.specs.Str.{IsUtf8, is_utf8}
use Rattle.std.proofs.lemmas.Bool.{eq-eqb}
use Rattle.std.proofs.lemmas.Str.{IsUtf8-from_is_utf8, is_utf8-from_IsUtf8}
use Rattle.cad_codec.proofs.Decoded.{all_again, all_take}
use Rattle.cad_codec.proofs.Formats.{IsFormat}
use Rattle.cad_codec.proofs.TypeFormats.{whole_types}
use Rattle.cad_codec.proofs.ValueFormats.{values_with_bytes}
use Rattle.cad_codec.specs.Answers.{GivesAs}
use Rattle.cad_codec.specs.Code.Fields.{At, name_of}
use Rattle.cad_codec.specs.Code.Values.{whole}
use Rattle.cad_codec.specs.Forms.{HasBytes, TypeHasBytes}
use Rattle.cad_codec.specs.Ranges.{TextInRange}
use Rattle.cad_codec.specs.TypeBytes.{type_bytes}
use Rattle.cad_codec.specs.ValueBytes.{value_bytes}
use Rattle.cad_declarations.specs.Imports.{contract_id}
use Rattle.cad_syntax.specs.Types.{PureType, pure_type}
use Rattle.cad_syntax.specs.declared.address.Address.{Address}
use Rattle.cad_syntax.specs.declared.text.Name.{Name}
use Rattle.cad_syntax.specs.declared.type_id.TypeId.{TypeId}
use Rattle.cad_syntax.specs.declared.types.CadType.{CadType}
use Rattle.cad_values.specs.Values.{PureValue, pure_value, capability}
use Rattle.cad_values.specs.declared.value.Value.{Value}
use Rattle.cad_wire.proofs.FieldLaws.{number_again, bytes_again}
use Rattle.cad_wire.specs.Fields.{◌>>=◌, AreBytes, number_field, bytes_field, number_at, bytes_at}
use Rattle.cad_wire.specs.declared.error.DecodeError.{DecodeError}
use Rattle.cad_wire.specs.declared.error.DecodeError.TheVariants.{Damaged, Memory}
use Rattle.cad_world.specs.Orders.{contract_name}
use Rattle.cad_world.specs.State.{Publication, Controller}
use Rattle.cad_worlds.specs.Items.{Item, head, next, code, fields, stored, published, controlled, told, IsTold, Draft, put, put_all}
use Rattle.cad_worlds.specs.Standing.{AreOneText}
use Rattle.cad_world_registers.specs.Told.{number_in, name_in, value_in, type_in, lent_by, lent_in, contract_at, head_in, next_in, code_in, fields_in, stored_in, published_in, controller_in, controlled_in, item_in, made, all_made}

-- a step that gives something, and what is done with it
pub then_is : {A B : Type 0} {o : Option A} {a : A} {r : Option B} → o ≡ Some a → (f : A → Option B) → f a ≡ r → (o >>= f) ≡ r
then_is {A} e f h = ap (λ (x : Option A). x >>= f) e ∙ h

-- ---- what all of the bytes are

number_all : (n : ℕ) → n < 2 ^ 64 → number_in (number_field n) ≡ Some n
number_all n lt = ap (λ (l : List ℕ). whole (number_at l)) (sym (append-nil (number_field n))) ∙ ap whole (number_again n [] lt)

name_all : (i : Name) → IsUtf8 i.0 → name_in i.0 ≡ Some i
name_all i text = rw (is_utf8-from_IsUtf8 i.0 text) refl

value_all : (v : PureValue) → HasBytes v → value_in (value_bytes v) ≡ Some v
unfolding value_in
value_all v has = all_again values_with_bytes v has

type_all : (t : PureType) → TypeHasBytes t → type_in (type_bytes t) ≡ Some t
unfolding type_in
type_all t has = all_again whole_types t has

-- ---- what a reader gives that gives what is spelled, and nothing else

gives_all : {X A : Type 0} {field : A → List ℕ} {V : A → Type 0} {at : At A} (view : X → A) → IsFormat field V at → (bytes : List ℕ) (r : Result X DecodeError) → AreBytes bytes
    → IfOk r (λ x. V (view x) × (bytes ≡ field (view x))) → ((a : A) → V a → bytes ≡ field a → GivesAs view r (Some a)) → GivesAs view r (whole (at bytes))
gives_all {X} {A} {field} {V} {at} view item bytes (Ok x) fits found only = ap (λ (l : List ℕ). whole (at l)) found.1 ∙ all_again item (view x) found.0
gives_all {X} {A} {field} {V} {at} view item bytes (Err Damaged) fits found only = none (whole (at bytes)) refl
  where
    none : (o : Option A) → whole (at bytes) ≡ o → o ≡ None
    none None e = refl
    none (Some a) e = let t = all_take item bytes a fits e in only a t.0 t.1
gives_all view item bytes (Err Memory) fits found only = tt

pub value_gives : (bytes : List ℕ) (r : Result Value DecodeError) → AreBytes bytes → IfOk r (λ x. HasBytes (pure_value x) × (bytes ≡ value_bytes (pure_value x))) → ((v : PureValue) → HasBytes v → bytes ≡ value_bytes v → GivesAs pure_value r (Some v)) → GivesAs pure_value r (value_in bytes)
unfolding value_in
value_gives bytes r fits found only = gives_all pure_value values_with_bytes bytes r fits found only

pub type_gives : (bytes : List ℕ) (r : Result CadType DecodeError) → AreBytes bytes → IfOk r (λ x. TypeHasBytes (pure_type x) × (bytes ≡ type_bytes (pure_type x))) → ((t : PureType) → TypeHasBytes t → bytes ≡ type_bytes t → GivesAs pure_type r (Some t)) → GivesAs pure_type r (type_in bytes)
unfolding type_in
type_gives bytes r fits found only = gives_all pure_type whole_types bytes r fits found only

-- ---- a name

pub name_found : (bytes text : List ℕ) → IsUtf8 bytes → text ≡ bytes → name_in bytes ≡ Some (name_of text)
name_found bytes text utf8 same = rw (is_utf8-from_IsUtf8 bytes utf8) (ap (λ (t : List ℕ). Some (name_of t)) (sym same))

no_text : (bytes : List ℕ) (b : Bool) → is_utf8 bytes ≡ b → (IsUtf8 bytes → ⊥) → is_utf8 bytes ≡ false
no_text bytes true e none = absurd (none (IsUtf8-from_is_utf8 bytes e))
no_text bytes false e none = e

pub name_none : (bytes : List ℕ) → (IsUtf8 bytes → ⊥) → name_in bytes ≡ None
name_none bytes none = rw (no_text bytes (is_utf8 bytes) refl none) refl

-- ---- items

head_again : (count identity : ℕ) → count < 2 ^ 64 → identity < 2 ^ 64 → head_in (number_field count ++ number_field identity) ≡ Some (head count identity)
head_again count identity a b =
    then_is (number_again count (number_field identity) a) (λ c. number_in c.1 >>= λ i. Some (head c.0 i))
    (then_is (number_all identity b) (λ i. Some (head count i)) refl)

next_again : (n number : ℕ) → n < 2 ^ 64 → number < 2 ^ 64 → next_in (number_field n) (number_field number) ≡ Some (next n number)
next_again n number a b =
    then_is (number_all n a) (λ m. number_in (number_field number) >>= λ i. Some (next m i))
    (then_is (number_all number b) (λ i. Some (next n i)) refl)

named_again : (address : Address) (names : List Name) → address.0 < 2 ^ 64 → AreOneText names → contract_at (number_field address.0 ++ contract_name (record { address = address; names = names })) ≡ Some (record { address = address; names = names })
named_again address [] a text = absurd text
named_again address (n ∷ []) a text =
    ap (λ (l : List ℕ). contract_at (number_field address.0 ++ l)) (append-nil n.0)
    ∙ then_is (number_again address.0 n.0 a) (λ m. name_in m.1 >>= λ i. Some (contract_id m.0 i))
    (then_is (name_all n text) (λ i. Some (contract_id address.0 i)) refl)
named_again address (n ∷ m ∷ names) a text = absurd text

contract_again : (id : TypeId) → id.address.0 < 2 ^ 64 → AreOneText id.names → contract_at (number_field id.address.0 ++ contract_name id) ≡ Some id
contract_again id a text = named_again id.address id.names a text

code_again : (id : TypeId) (bytes : List ℕ) → id.address.0 < 2 ^ 64 → AreOneText id.names → code_in (number_field id.address.0 ++ contract_name id) bytes ≡ Some (code id bytes)
code_again id bytes a text = then_is (contract_again id a text) (λ c. Some (code c bytes)) refl

fields_again : (id : TypeId) (v : PureValue) → id.address.0 < 2 ^ 64 → AreOneText id.names → HasBytes v → fields_in (number_field id.address.0 ++ contract_name id) (value_bytes v) ≡ Some (fields id v)
fields_again id v a text has =
    then_is (contract_again id a text) (λ c. value_in (value_bytes v) >>= λ x. Some (fields c x))
    (then_is (value_all v has) (λ x. Some (fields id x)) refl)

stored_again : (n : ℕ) (i : Name) (v : PureValue) → n < 2 ^ 64 → IsUtf8 i.0 → HasBytes v → stored_in (number_field n ++ i.0) (value_bytes v) ≡ Some (stored n i v)
stored_again n i v a text has =
    then_is (number_again n i.0 a) (λ m. name_in m.1 >>= λ j. value_in (value_bytes v) >>= λ x. Some (stored m.0 j x))
    (then_is (name_all i text) (λ j. value_in (value_bytes v) >>= λ x. Some (stored n j x))
    (then_is (value_all v has) (λ x. Some (stored n i x)) refl))

lent_again : (n : ℕ) (p : Publication) → HasBytes (capability (record { 0 = n }) p.number p.lent) → lent_in n (value_bytes (capability (record { 0 = n }) p.number p.lent)) ≡ Some (p.number, p.lent)
lent_again n p has = then_is (value_all (capability (record { 0 = n }) p.number p.lent) has) (lent_by n) (ap (λ (b : Bool). cond b (Some (p.number, p.lent)) None) (eq-eqb n n refl))

published_again : (n : ℕ) (p : Publication) → n < 2 ^ 64 → IsUtf8 p.identifier.0 → HasBytes (capability (record { 0 = n }) p.number p.lent) → published_in (number_field n ++ p.identifier.0) (value_bytes (capability (record { 0 = n }) p.number p.lent)) ≡ Some (published n p)
published_again n p a text has =
    let bytes = value_bytes (capability (record { 0 = n }) p.number p.lent) in
    then_is (number_again n p.identifier.0 a) (λ m. name_in m.1 >>= λ j. lent_in m.0 bytes >>= λ l. Some (published m.0 (record { identifier = j; number = l.0; lent = l.1 })))
    (then_is (name_all p.identifier text) (λ j. lent_in n bytes >>= λ l. Some (published n (record { identifier = j; number = l.0; lent = l.1 })))
    (then_is (lent_again n p has) (λ l. Some (published n (record { identifier = p.identifier; number = l.0; lent = l.1 }))) refl))

controller_again : (c : Controller) → TextInRange c.target.0 → TextInRange c.tag → TypeHasBytes c.borrow → controller_in c.number (bytes_field c.target.0 ++ (bytes_field c.tag ++ type_bytes c.borrow)) ≡ Some c
controller_again c target tag has =
    then_is (bytes_again c.target.0 (bytes_field c.tag ++ type_bytes c.borrow) target.1) (λ a. bytes_at a.1 >>= λ b. name_in a.0 >>= λ i. type_in b.1 >>= λ t. Some (record { number = c.number; borrow = t; tag = b.0; target = i }))
    (then_is (bytes_again c.tag (type_bytes c.borrow) tag.1) (λ b. name_in c.target.0 >>= λ i. type_in b.1 >>= λ t. Some (record { number = c.number; borrow = t; tag = b.0; target = i }))
    (then_is (name_all c.target target.0) (λ i. type_in (type_bytes c.borrow) >>= λ t. Some (record { number = c.number; borrow = t; tag = c.tag; target = i }))
    (then_is (type_all c.borrow has) (λ t. Some (record { number = c.number; borrow = t; tag = c.tag; target = c.target })) refl)))

controlled_again : (n : ℕ) (c : Controller) → n < 2 ^ 64 → c.number < 2 ^ 64 → TextInRange c.target.0 → TextInRange c.tag → TypeHasBytes c.borrow
    → controlled_in (number_field n ++ number_field c.number) (bytes_field c.target.0 ++ (bytes_field c.tag ++ type_bytes c.borrow)) ≡ Some (controlled n c)
controlled_again n c a b target tag has =
    let bytes = bytes_field c.target.0 ++ (bytes_field c.tag ++ type_bytes c.borrow) in
    then_is (number_again n (number_field c.number) a) (λ m. number_in m.1 >>= λ number. controller_in number bytes >>= λ x. Some (controlled m.0 x))
    (then_is (number_all c.number b) (λ number. controller_in number bytes >>= λ x. Some (controlled n x))
    (then_is (controller_again c target tag has) (λ x. Some (controlled n x)) refl))

pub again : (x : Item) → IsTold x → item_in (told x).key (told x).bytes ≡ Some x
again (head count identity) t = head_again count identity t.0 t.1
again (next n number) t = next_again n number t.0 t.1
again (code id bytes) t = code_again id bytes t.0 t.1
again (fields id v) t = fields_again id v t.0 t.1 t.2
again (stored n i v) t = stored_again n i v t.0 t.1 t.2
again (published n p) t = published_again n p t.0 t.1 t.2
again (controlled n c) t = controlled_again n c t.0 t.1 t.2 t.3 t.4

-- ---- all of them

pub made_again : (xs : List Item) (d : Draft) → AllByRecursion IsTold xs → all_made (map told xs) d ≡ Some (put_all xs d)
made_again [] d t = refl
made_again (x ∷ xs) d t = then_is (ap (λ o. made o d) (again x t.0)) (λ e. all_made (map told xs) e) (made_again xs (put x d) t.1)
