-- What is read of a register is what it says, and it says nothing else.
use Rattle.std.proofs.Common.{◌≡◌, ℕ, ◌^◌, ◌<◌, Bool, true, false, cond, List, [], ◌∷◌, ◌++◌, length, Option, Some, None, refl, sym, ap, subst, ◌∙◌, append-nil, inl, inr}
use Rattle.std.specs.Prelude.{◌==◌, ◌⊎◌}
use Rattle.std.specs.Str.{IsUtf8, is_utf8}
use Rattle.std.proofs.lemmas.Bool.{eqb-true}
use Rattle.std.proofs.lemmas.Str.{IsUtf8-from_is_utf8}
use Rattle.cad_codec.proofs.Decoded.{all_take}
use Rattle.cad_codec.proofs.TypeFormats.{whole_types}
use Rattle.cad_codec.proofs.ValueFormats.{values_with_bytes}
use Rattle.cad_codec.specs.Code.Fields.{name_of}
use Rattle.cad_codec.specs.Code.Values.{whole}
use Rattle.cad_codec.specs.Forms.{HasBytes, TypeHasBytes}
use Rattle.cad_codec.specs.TypeBytes.{type_bytes}
use Rattle.cad_codec.specs.ValueBytes.{value_bytes}
use Rattle.cad_declarations.specs.Imports.{contract_id}
use Rattle.cad_syntax.specs.Types.{PureType}
use Rattle.cad_syntax.specs.declared.text.Name.{Name}
use Rattle.cad_syntax.specs.declared.type_id.TypeId.{TypeId}
use Rattle.cad_values.specs.Values.{PureValue, capability}
use Rattle.cad_wire.proofs.FieldLaws.{bind_some, some_is, AreBytes-tail, number_takes, bytes_take}
use Rattle.cad_wire.specs.Fields.{◌>>=◌, AreBytes, number_field, bytes_field, number_at, bytes_at}
use Rattle.cad_world.specs.Registers.{Register, register}
use Rattle.cad_world.specs.State.{Publication, Controller}
use Rattle.cad_worlds.specs.Items.{Item, head, next, code, fields, stored, published, controlled, told}
use Rattle.cad_worlds.specs.Standing.{AreOneText}
use Rattle.cad_world_registers.specs.Exact.{IsSaid}
use Rattle.cad_world_registers.specs.Told.{number_in, name_in, value_in, type_in, lent_by, lent_in, contract_at, head_in, next_in, code_in, fields_in, stored_in, published_in, controller_in, controlled_in, item_in}

-- ---- what all of the bytes are

ends : {A : Type 0} (o : Option (A × List ℕ)) (a : A) → whole o ≡ Some a → o ≡ Some (a, [])
ends None a e = absurd cc
ends {A} (Some (x, [])) a e = ap (λ (y : A). Some (y, [])) (some_is x a e)
ends (Some (x, (b ∷ bytes))) a e = absurd cc

number_whole : (bytes : List ℕ) (n : ℕ) → AreBytes bytes → number_in bytes ≡ Some n → bytes ≡ number_field n
number_whole bytes n fits e = (number_takes bytes n [] fits (ends (number_at bytes) n e)).0.parts ∙ append-nil (number_field n)

named : (b : Bool) (i j : Name) → cond b (Some i) None ≡ Some j → (b ≡ true) × (i ≡ j)
named true i j e = (refl, some_is i j e)
named false i j e = absurd cc

name_whole : (bytes : List ℕ) (i : Name) → name_in bytes ≡ Some i → (bytes ≡ i.0) × IsUtf8 i.0
name_whole bytes i e =
    let n = named (is_utf8 bytes) (name_of bytes) i e in
    let same : bytes ≡ i.0 = ap (λ (j : Name). j.0) n.1 in
    (same, subst IsUtf8 same (IsUtf8-from_is_utf8 bytes n.0))

value_whole : (bytes : List ℕ) (v : PureValue) → AreBytes bytes → value_in bytes ≡ Some v → HasBytes v × (bytes ≡ value_bytes v)
unfolding value_in
value_whole bytes v fits e = all_take values_with_bytes bytes v fits e

type_whole : (bytes : List ℕ) (t : PureType) → AreBytes bytes → type_in bytes ≡ Some t → TypeHasBytes t × (bytes ≡ type_bytes t)
unfolding type_in
type_whole bytes t fits e = all_take whole_types bytes t fits e

-- a place in a key: an address, and a name behind it
record Placed (place : List ℕ) (n : ℕ) (i : Name) : Type 0 where
  pub is : place ≡ number_field n ++ i.0
  pub text : IsUtf8 i.0

placed : (place : List ℕ) (n : ℕ × List ℕ) (i : Name) → AreBytes place → number_at place ≡ Some n → name_in n.1 ≡ Some i → Placed place n.0 i
placed place n i fits front name =
    let t = number_takes place n.0 n.1 fits front in
    let x = name_whole n.1 i name in
    record { is = t.0.parts ∙ ap (λ (l : List ℕ). number_field n.0 ++ l) x.0; text = x.1 }

one_text : (place : List ℕ) (id : TypeId) → contract_at place ≡ Some id → AreOneText id.names
one_text place id e =
    let n = bind_some (number_at place) (λ n. name_in n.1 >>= λ i. Some (contract_id n.0 i)) id e in
    let i = bind_some (name_in n.0.1) (λ i. Some (contract_id n.0.0 i)) id n.2 in
    subst (λ (x : TypeId). AreOneText x.names) (some_is (contract_id n.0.0 i.0) id i.2) (name_whole n.0.1 i.0 i.1).1

-- ---- the capability of a publication

if_own : (b : Bool) (x y : ℕ × PureType) → cond b (Some x) None ≡ Some y → (b ≡ true) × (x ≡ y)
if_own true x y e = (refl, some_is x y e)
if_own false x y e = absurd cc

lent_is : (n : ℕ) (v : PureValue) (l : ℕ × PureType) → lent_by n v ≡ Some l → v ≡ capability (record { 0 = n }) l.0 l.1
lent_is n (capability a m t) l e =
    let x = if_own (a.0 == n) (m, t) l e in
    let own : a.0 ≡ n = eqb-true a.0 n x.0 in
    λ i. capability (record { 0 = own i }) (x.1 i).0 (x.1 i).1
lent_is n _ l e = absurd cc

lent_type : (n : ℕ) (l : ℕ × PureType) → HasBytes (capability (record { 0 = n }) l.0 l.1) → TypeHasBytes l.1
lent_type n l h = (h.0.2, h.1.0)

-- ---- registers of each kind

abbrev numbered : ℕ → List ℕ → Name → PureType → Controller
numbered number tag i t = record { number = number; borrow = t; tag = tag; target = i }

-- these bytes are those of a controller of a number, and no other has them
record ControllerSaid (number : ℕ) (bytes : List ℕ) (c : Controller) : Type 0 where
  pub number_is : number ≡ c.number
  pub is : bytes ≡ bytes_field c.target.0 ++ (bytes_field c.tag ++ type_bytes c.borrow)
  pub type : TypeHasBytes c.borrow
  pub short : length c.target.0 < 2 ^ 32

-- what a register of this key and these bytes is, where this item is read of it
module _ (place bytes : List ℕ) (fits : AreBytes place) (within : AreBytes bytes) where
  abbrev of : ℕ → Register
  of kind = register (kind ∷ place) bytes

  head_said : (x : Item) → head_in bytes ≡ Some x → IsSaid (of 0) x
  head_said x e =
      let a = bind_some (number_at bytes) (λ c. number_in c.1 >>= λ i. Some (head c.0 i)) x e in
      let b = bind_some (number_in a.0.1) (λ i. Some (head a.0.0 i)) x a.2 in
      subst (IsSaid (of 0)) (some_is (head a.0.0 b.0) x b.2) tt

  next_said : (x : Item) → next_in place bytes ≡ Some x → IsSaid (of 1) x
  next_said x e =
      let a = bind_some (number_in place) (λ n. number_in bytes >>= λ number. Some (next n number)) x e in
      let b = bind_some (number_in bytes) (λ number. Some (next a.0 number)) x a.2 in
      subst (IsSaid (of 1)) (some_is (next a.0 b.0) x b.2) tt

  code_said : (x : Item) → code_in place bytes ≡ Some x → IsSaid (of 2) x
  code_said x e =
      let a = bind_some (contract_at place) (λ id. Some (code id bytes)) x e in
      subst (IsSaid (of 2)) (some_is (code a.0 bytes) x a.2) (one_text place a.0 a.1)

  fields_said : (x : Item) → fields_in place bytes ≡ Some x → IsSaid (of 3) x
  fields_said x e =
      let a = bind_some (contract_at place) (λ id. value_in bytes >>= λ v. Some (fields id v)) x e in
      let b = bind_some (value_in bytes) (λ v. Some (fields a.0 v)) x a.2 in
      subst (IsSaid (of 3)) (some_is (fields a.0 b.0) x b.2) (value_whole bytes b.0 within b.1).0

  stored_said : (x : Item) → stored_in place bytes ≡ Some x → IsSaid (of 4) x
  stored_said x e =
      let a = bind_some (number_at place) (λ n. name_in n.1 >>= λ i. value_in bytes >>= λ v. Some (stored n.0 i v)) x e in
      let b = bind_some (name_in a.0.1) (λ i. value_in bytes >>= λ v. Some (stored a.0.0 i v)) x a.2 in
      let c = bind_some (value_in bytes) (λ v. Some (stored a.0.0 b.0 v)) x b.2 in
      let p = placed place a.0 b.0 fits a.1 b.1 in
      let v = value_whole bytes c.0 within c.1 in
      let same : of 4 ≡ told (stored a.0.0 b.0 c.0) = λ j. register (4 ∷ p.is j) (v.1 j) in
      subst (IsSaid (of 4)) (some_is (stored a.0.0 b.0 c.0) x c.2) (same, v.0)

  published_said : (x : Item) → published_in place bytes ≡ Some x → IsSaid (of 5) x
  published_said x e =
      let a = bind_some (number_at place) (λ n. name_in n.1 >>= λ i. lent_in n.0 bytes >>= λ l. Some (published n.0 (record { identifier = i; number = l.0; lent = l.1 }))) x e in
      let b = bind_some (name_in a.0.1) (λ i. lent_in a.0.0 bytes >>= λ l. Some (published a.0.0 (record { identifier = i; number = l.0; lent = l.1 }))) x a.2 in
      let c = bind_some (lent_in a.0.0 bytes) (λ l. Some (published a.0.0 (record { identifier = b.0; number = l.0; lent = l.1 }))) x b.2 in
      let d = bind_some (value_in bytes) (lent_by a.0.0) c.0 c.1 in
      let p = placed place a.0 b.0 fits a.1 b.1 in
      let v = value_whole bytes d.0 within d.1 in
      let own = lent_is a.0.0 d.0 c.0 d.2 in
      let y : Publication = record { identifier = b.0; number = c.0.0; lent = c.0.1 } in
      let same : of 5 ≡ told (published a.0.0 y) = λ j. register (5 ∷ p.is j) ((v.1 ∙ ap value_bytes own) j) in
      let said : IsSaid (of 5) (published a.0.0 y) = (same, lent_type a.0.0 c.0 (subst HasBytes own v.0)) in
      subst (IsSaid (of 5)) (some_is (published a.0.0 y) x c.2) said

  controlled_said : (x : Item) → controlled_in place bytes ≡ Some x → IsSaid (of 6) x
  controlled_said x e =
      let a = bind_some (number_at place) (λ n. number_in n.1 >>= λ number. controller_in number bytes >>= λ c. Some (controlled n.0 c)) x e in
      let b = bind_some (number_in a.0.1) (λ number. controller_in number bytes >>= λ c. Some (controlled a.0.0 c)) x a.2 in
      let c = bind_some (controller_in b.0 bytes) (λ c. Some (controlled a.0.0 c)) x b.2 in
      let front = number_takes place a.0.0 a.0.1 fits a.1 in
      let own = controller_said b.0 c.0 c.1 in
      let key : place ≡ number_field a.0.0 ++ number_field c.0.number = front.0.parts ∙ (λ j. number_field a.0.0 ++ (number_whole a.0.1 b.0 front.0.rest_fits b.1 ∙ ap number_field own.number_is) j) in
      let same : of 6 ≡ told (controlled a.0.0 c.0) = λ j. register (6 ∷ key j) (own.is j) in
      subst (IsSaid (of 6)) (some_is (controlled a.0.0 c.0) x c.2) (same, own.type, own.short)
    where
      controller_said : (number : ℕ) (c : Controller) → controller_in number bytes ≡ Some c
          → ControllerSaid number bytes c
      controller_said number c e =
          let a = bind_some (bytes_at bytes) (λ a. bytes_at a.1 >>= λ b. name_in a.0 >>= λ i. type_in b.1 >>= λ t. Some (numbered number b.0 i t)) c e in
          let b = bind_some (bytes_at a.0.1) (λ b. name_in a.0.0 >>= λ i. type_in b.1 >>= λ t. Some (numbered number b.0 i t)) c a.2 in
          let i = bind_some (name_in a.0.0) (λ i. type_in b.0.1 >>= λ t. Some (numbered number b.0.0 i t)) c b.2 in
          let t = bind_some (type_in b.0.1) (λ t. Some (numbered number b.0.0 i.0 t)) c i.2 in
          let x = bytes_take bytes a.0.0 a.0.1 within a.1 in
          let y = bytes_take a.0.1 b.0.0 b.0.1 x.0.rest_fits b.1 in
          let n = name_whole a.0.0 i.0 i.1 in
          let z = type_whole b.0.1 t.0 y.0.rest_fits t.1 in
          let parts : bytes ≡ bytes_field i.0.0 ++ (bytes_field b.0.0 ++ type_bytes t.0) =
          x.0.parts ∙ (λ j. bytes_field (n.0 j) ++ (y.0.parts ∙ ap (λ (l : List ℕ). bytes_field b.0.0 ++ l) z.1) j) in
          let short : length i.0.0 < 2 ^ 32 = subst (λ (l : List ℕ). length l < 2 ^ 32) n.0 x.1 in
          let said : ControllerSaid number bytes (numbered number b.0.0 i.0 t.0) = record { number_is = refl; is = parts; type = z.0; short = short } in
          subst (ControllerSaid number bytes) (some_is (numbered number b.0.0 i.0 t.0) c t.2) said

-- ---- all kinds

-- which way a test went
which : {A : Type 0} (b : Bool) (x y z : A) → cond b x y ≡ z → ((b ≡ true) × (x ≡ z)) ⊎ ((b ≡ false) × (y ≡ z))
which true x y z e = inl (refl, e)
which false x y z e = inr (refl, e)

-- the reader of one kind, or of those behind it
kind_said : (kind k : ℕ) (place bytes : List ℕ) (here behind : Option Item) (x : Item) → (here ≡ Some x → IsSaid (register (k ∷ place) bytes) x) → (behind ≡ Some x → IsSaid (register (kind ∷ place) bytes) x)
    → cond (kind == k) here behind ≡ Some x → IsSaid (register (kind ∷ place) bytes) x
kind_said kind k place bytes here behind x one others e =
    elim (which (kind == k) here behind (Some x) e) [
      | inl h ↦ subst (λ (m : ℕ). IsSaid (register (m ∷ place) bytes) x) (sym (eqb-true kind k h.0)) (one h.1)
      | inr h ↦ others h.1
    ]

no_item : (x : Item) {P : Type 0} → None ≡ Some x → P
no_item x e = absurd cc

pub exact : (key bytes : List ℕ) (x : Item) → AreBytes key → AreBytes bytes → item_in key bytes ≡ Some x → IsSaid (register key bytes) x
exact [] bytes x a b e = absurd cc
exact (kind ∷ place) bytes x a b e =
    let fits = AreBytes-tail kind place a in
    kind_said kind 0 place bytes (head_in bytes) _ x (head_said place bytes fits b x)
    (kind_said kind 1 place bytes (next_in place bytes) _ x (next_said place bytes fits b x)
    (kind_said kind 2 place bytes (code_in place bytes) _ x (code_said place bytes fits b x)
    (kind_said kind 3 place bytes (fields_in place bytes) _ x (fields_said place bytes fits b x)
    (kind_said kind 4 place bytes (stored_in place bytes) _ x (stored_said place bytes fits b x)
    (kind_said kind 5 place bytes (published_in place bytes) _ x (published_said place bytes fits b x)
    (kind_said kind 6 place bytes (controlled_in place bytes) None x (controlled_said place bytes fits b x) (no_item x))))))) e
