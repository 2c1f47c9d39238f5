-- Types are read from their bytes, and from no others.
use Rattle.std.proofs.Common.{◌≡◌, ◌≢◌, ℕ, zero, suc, ◌+◌, ◌^◌, ◌<◌, ◌≤◌, max, Bool, true, false, List, [], ◌∷◌, ◌++◌, length, Option, Some, None, refl, sym, ap, subst, ◌∙◌, arith}
use Rattle.std.specs.Prelude.{slice_get}
use Rattle.std.specs.List.{AllByRecursion}
use Rattle.cad_syntax.specs.Types.{PureType, basic, optional, array, dictionary, intersection, declared, reference, capability, capability_of, nesting}
use Rattle.cad_syntax.specs.declared.kind.Kind.TheVariants as k
use Rattle.cad_syntax.specs.declared.type_id.TypeId.{TypeId}
use Rattle.cad_syntax.specs.declared.types.Authorization.{Authorization}
use Rattle.cad_syntax.specs.declared.types.Authorization.TheVariants as a
use Rattle.cad_syntax.specs.declared.types.Basic.{Basic}
use Rattle.cad_syntax.specs.declared.types.Basic.TheVariants as b
use Rattle.cad_wire.specs.Fields.{◌>>=◌, byte_at, AreBytes}
use Rattle.cad_wire.proofs.FieldLaws.{bind_some, some_is, Takes, byte_takes}
use Rattle.cad_codec.specs.TypeBytes.{basic_byte, id_bytes, ids_field, authorization_bytes, type_bytes}
use Rattle.cad_codec.specs.Ranges.{IdInRange, IdsInRange, AuthorizationInRange, TypeInRange}
use Rattle.cad_codec.specs.Forms.{NoneIsEmpty, TypeHasBytes, most_nesting}
use Rattle.cad_codec.specs.Code.Fields.{At, then_at, made_at, found_at, tested_at, list_at, id_at}
use Rattle.cad_codec.specs.Code.Types.{basics, type_forms, basic_at, authorization_of, authorization_at, is_some_list, type_after, type_at}
use Rattle.cad_codec.specs.declared.form.TypeForm.{TypeForm}
use Rattle.cad_codec.specs.declared.form.TypeForm.TheVariants as f
use Rattle.cad_codec.proofs.Formats.{IsFormat, pairs, tested, found, ids_one, id_lists}
use Rattle.cad_codec.proofs.Tables.{Numbered, at_place}

abbrev pub Any : {A : Type 0} → A → Type 0
Any x = Unit {0}

abbrev pub one_byte : ℕ → List ℕ
one_byte n = n ∷ []

pub bytes_one : IsFormat one_byte Any byte_at
bytes_one = record {
  again = λ n rest valid. refl;
  take = λ bytes n rest fits e. (byte_takes bytes n rest fits e, tt);
}

-- ---- what is made of a format's things, behind a byte

pub tagged : {A B : Type 0} {field : A → List ℕ} {V : A → Type 0} {at : At A} (g : B → List ℕ) (W : B → Type 0) (make : A → B) (tag : ℕ) → ((x : A) → V x → W (make x) × (tag ∷ field x ≡ g (make x))) → IsFormat field V at
    → (bytes : List ℕ) (y : B) (rest : List ℕ) → AreBytes bytes → made_at at make bytes ≡ Some (y, rest) → Takes (tag ∷ bytes) (g y) rest × W y
tagged {A} {B} {field} {V} {at} g W make tag forth item bytes y rest fits e =
    let x = bind_some (at bytes) (λ x. Some (make x.0, x.1)) (y, rest) e in
    let t = item.take bytes x.0.0 x.0.1 fits x.1 in
    let q = forth x.0.0 t.1 in
    let all : Takes (tag ∷ bytes) (tag ∷ field x.0.0) x.0.1 = record { parts = ap (λ (w : List ℕ). tag ∷ w) t.0.parts; rest_fits = t.0.rest_fits } in
    subst (λ (z : B × List ℕ). Takes (tag ∷ bytes) (g z.0) z.1 × W z.0) (some_is (make x.0.0, x.0.1) (y, rest) x.2) (subst (λ (w : List ℕ). Takes (tag ∷ bytes) w x.0.1) q.1 all, q.0)

pub made_again : {A B : Type 0} (at : At A) (make : A → B) (bytes rest : List ℕ) (x : A) → at bytes ≡ Some (x, rest) → made_at at make bytes ≡ Some (make x, rest)
made_again at make bytes rest x e = rw e refl

-- a form's byte, and what follows it
pub form_takes : {F : Type 0} (forms : List F) (number : F → ℕ) → Numbered number 0 forms → (bytes : List ℕ) (form : F) (more : List ℕ) → AreBytes bytes → found_at byte_at (slice_get forms) bytes ≡ Some (form, more)
    → Takes bytes (number form ∷ []) more
form_takes {F} forms number numbered bytes form more fits e =
    let x = bind_some (byte_at bytes) (λ x. slice_get forms x.0 >>= λ y. Some (y, x.1)) (form, more) e in
    let y = bind_some (slice_get forms x.0.0) (λ y. Some (y, x.0.1)) (form, more) x.2 in
    let t = byte_takes bytes x.0.0 x.0.1 fits x.1 in
    let is : x.0.0 ≡ number y.0 = sym (at_place number forms 0 x.0.0 y.0 numbered y.1 ∙ omega arith) in
    subst (λ (z : F × List ℕ). Takes bytes (number z.0 ∷ []) z.1) (some_is (y.0, x.0.1) (form, more) y.2) (subst (λ (n : ℕ). Takes bytes (n ∷ []) x.0.1) is t)

-- ---- basic types and authorizations

basic_found : (t : Basic) → slice_get basics (basic_byte t) ≡ Some t
basic_found (b.Number k.Int) = refl
basic_found (b.Number k.Int8) = refl
basic_found (b.Number k.Int16) = refl
basic_found (b.Number k.Int32) = refl
basic_found (b.Number k.Int64) = refl
basic_found (b.Number k.Int128) = refl
basic_found (b.Number k.UInt) = refl
basic_found (b.Number k.UInt8) = refl
basic_found (b.Number k.UInt16) = refl
basic_found (b.Number k.UInt32) = refl
basic_found (b.Number k.UInt64) = refl
basic_found (b.Number k.UInt128) = refl
basic_found (b.Number k.Word8) = refl
basic_found (b.Number k.Word16) = refl
basic_found (b.Number k.Word32) = refl
basic_found (b.Number k.Word64) = refl
basic_found (b.Number k.Word128) = refl
basic_found (b.Number k.Fix64) = refl
basic_found (b.Number k.UFix64) = refl
basic_found (b.Number k.Address) = refl
basic_found b.Void = refl
basic_found b.Never = refl
basic_found b.Bool = refl
basic_found b.Character = refl
basic_found b.String = refl
basic_found b.Path = refl
basic_found b.StoragePath = refl
basic_found b.PublicPath = refl
basic_found b.Meta = refl
basic_found b.AnyStruct = refl
basic_found b.AnyResource = refl
basic_found b.Account = refl
basic_found b.AccountStorage = refl
basic_found b.AccountContracts = refl
basic_found b.AccountCapabilities = refl
basic_found b.AccountStorageCapabilities = refl
basic_found b.StorageCapabilityController = refl

basics_numbered : Numbered basic_byte 0 basics
basics_numbered = (refl, (refl, (refl, (refl, (refl, (refl, (refl, (refl, (refl, (refl, (refl, (refl, (refl, (refl, (refl, (refl, (refl, (refl, (refl, (refl, (refl, (refl, (refl, (refl, (refl, (refl, (refl, (refl, (refl, (refl, (refl, (refl, (refl, (refl, (refl, (refl, (refl, tt)))))))))))))))))))))))))))))))))))))

abbrev basic_field : Basic → List ℕ
basic_field t = basic_byte t ∷ []

basic_format : IsFormat basic_field Any basic_at
basic_format = found basic_field Any (slice_get basics) basic_byte (λ t valid. (tt, refl, basic_found t)) (λ n t valid e. (tt, ap one_byte (sym (at_place basic_byte basics 0 n t basics_numbered e ∙ omega arith)))) bytes_one

abbrev parts_of : Authorization → ℕ × List TypeId
parts_of a.Unauthorized = (0, [])
parts_of (a.All ids) = (1, ids)
parts_of (a.Any ids) = (2, ids)

abbrev parts_field : ℕ × List TypeId → List ℕ
parts_field p = one_byte p.0 ++ ids_field p.1

abbrev PartsInRange : ℕ × List TypeId → Type 0
PartsInRange p = Any p.0 × IdsInRange p.1

authorization_back : (x : Authorization) → AuthorizationInRange x → PartsInRange (parts_of x) × (parts_field (parts_of x) ≡ authorization_bytes x) × (authorization_of (parts_of x) ≡ Some x)
authorization_back a.Unauthorized valid = ((tt, (omega arith, tt)), refl, refl)
authorization_back (a.All ids) valid = ((tt, valid), refl, refl)
authorization_back (a.Any ids) valid = ((tt, valid), refl, refl)

abbrev MadeOf : ℕ × List TypeId → Authorization → Type 0
MadeOf p x = AuthorizationInRange x × (parts_field p ≡ authorization_bytes x)

authorization_forth : (n : ℕ) (ids : List TypeId) (x : Authorization) → IdsInRange ids → authorization_of (n, ids) ≡ Some x → MadeOf (n, ids) x
authorization_forth zero [] x valid e = subst (MadeOf (0, [])) (some_is a.Unauthorized x e) (tt, refl)
authorization_forth zero (id ∷ ids) x valid e = absurd cc
authorization_forth (suc zero) ids x valid e = subst (MadeOf (1, ids)) (some_is (a.All ids) x e) (valid, refl)
authorization_forth (suc (suc zero)) ids x valid e = subst (MadeOf (2, ids)) (some_is (a.Any ids) x e) (valid, refl)
authorization_forth (suc (suc (suc n))) ids x valid e = absurd cc

authorization_format : IsFormat authorization_bytes AuthorizationInRange authorization_at
authorization_format = found authorization_bytes AuthorizationInRange authorization_of parts_of authorization_back (λ p x valid e. authorization_forth p.0 p.1 x valid.1 e) (pairs bytes_one id_lists)

-- ---- types

-- a type that is read where so many levels are left
abbrev pub TypeOk : ℕ → PureType → Type 0
TypeOk n t = TypeInRange t × NoneIsEmpty t × (nesting t < n)

abbrev type_number : TypeForm → ℕ
type_number f.Basic = 0
type_number f.Optional = 1
type_number f.Array = 2
type_number f.Dictionary = 3
type_number f.Declared = 4
type_number f.Intersection = 5
type_number f.Reference = 6
type_number f.CapabilityOf = 7
type_number f.Capability = 8

forms_numbered : Numbered type_number 0 type_forms
forms_numbered = (refl, (refl, (refl, (refl, (refl, (refl, (refl, (refl, (refl, tt)))))))))

not_empty : (ids : List TypeId) → ids ≢ [] → is_some_list ids ≡ true
not_empty [] h = absurd (h refl)
not_empty (id ∷ ids) h = refl

is_not_empty : (ids : List TypeId) → is_some_list ids ≡ true → ids ≢ []
is_not_empty ids h e = let wrong : true ≡ false = sym h ∙ ap is_some_list e in absurd cc

interfaces_format : IsFormat ids_field (λ ids. IdsInRange ids × (is_some_list ids ≡ true)) (tested_at (list_at id_at) is_some_list)
interfaces_format = tested is_some_list id_lists

type_again : (n : ℕ) → IsFormat type_bytes (TypeOk n) (type_at n) → (t : PureType) (rest : List ℕ) → TypeOk (suc n) t → type_at (suc n) (type_bytes t ++ rest) ≡ Some (t, rest)
unfolding type_at
type_again n inner (basic t) rest ok = made_again basic_at basic (basic_byte t ∷ rest) rest t (basic_format.again t rest tt)
type_again n inner (optional t) rest ok = made_again (type_at n) optional (type_bytes t ++ rest) rest t (inner.again t rest (ok.0, ok.1, omega (arith, ok.2)))
type_again n inner (array t) rest ok = made_again (type_at n) array (type_bytes t ++ rest) rest t (inner.again t rest (ok.0, ok.1, omega (arith, ok.2)))
type_again n inner (dictionary p t) rest ok =
    made_again (then_at (type_at n) (type_at n)) (λ x. dictionary x.0 x.1) ((type_bytes p ++ type_bytes t) ++ rest) rest (p, t)
    ((pairs inner inner).again (p, t) rest ((ok.0.0, ok.1.0, omega (arith, ok.2)), (ok.0.1, ok.1.1, omega (arith, ok.2))))
type_again n inner (declared id) rest ok = made_again id_at declared (id_bytes id ++ rest) rest id (ids_one.again id rest ok.0)
type_again n inner (intersection ids) rest ok = made_again (tested_at (list_at id_at) is_some_list) intersection (ids_field ids ++ rest) rest ids (interfaces_format.again ids rest (ok.0, not_empty ids ok.1))
type_again n inner (reference x t) rest ok =
    made_again (then_at authorization_at (type_at n)) (λ p. reference p.0 p.1) ((authorization_bytes x ++ type_bytes t) ++ rest) rest (x, t)
    ((pairs authorization_format inner).again (x, t) rest (ok.0.0, (ok.0.1, ok.1, omega (arith, ok.2))))
type_again n inner (capability_of t) rest ok = made_again (type_at n) capability_of (type_bytes t ++ rest) rest t (inner.again t rest (ok.0, ok.1, omega (arith, ok.2)))
type_again n inner capability rest ok = refl

abbrev Taken : ℕ → List ℕ → PureType → List ℕ → Type 0
Taken n bytes t rest = Takes bytes (type_bytes t) rest × TypeOk (suc n) t

type_after_takes : (n : ℕ) → IsFormat type_bytes (TypeOk n) (type_at n) → (form : TypeForm) (more : List ℕ) (t : PureType) (rest : List ℕ) → AreBytes more → type_after (type_at n) form more ≡ Some (t, rest)
    → Taken n (type_number form ∷ more) t rest
type_after_takes n inner f.Basic more t rest fits e = tagged type_bytes (TypeOk (suc n)) basic 0 (λ x valid. ((tt, tt, omega arith), refl)) basic_format more t rest fits e
type_after_takes n inner f.Optional more t rest fits e = tagged type_bytes (TypeOk (suc n)) optional 1 (λ x valid. ((valid.0, valid.1, omega (arith, valid.2)), refl)) inner more t rest fits e
type_after_takes n inner f.Array more t rest fits e = tagged type_bytes (TypeOk (suc n)) array 2 (λ x valid. ((valid.0, valid.1, omega (arith, valid.2)), refl)) inner more t rest fits e
type_after_takes n inner f.Dictionary more t rest fits e =
    tagged type_bytes (TypeOk (suc n)) (λ x. dictionary x.0 x.1) 3 (λ x valid. (((valid.0.0, valid.1.0), (valid.0.1, valid.1.1), omega (arith, valid.0.2, valid.1.2)), refl)) (pairs inner inner) more t rest fits e
type_after_takes n inner f.Declared more t rest fits e = tagged type_bytes (TypeOk (suc n)) declared 4 (λ x valid. ((valid, tt, omega arith), refl)) ids_one more t rest fits e
type_after_takes n inner f.Intersection more t rest fits e = tagged type_bytes (TypeOk (suc n)) intersection 5 (λ x valid. ((valid.0, is_not_empty x valid.1, omega arith), refl)) interfaces_format more t rest fits e
type_after_takes n inner f.Reference more t rest fits e =
    tagged type_bytes (TypeOk (suc n)) (λ x. reference x.0 x.1) 6 (λ x valid. (((valid.0, valid.1.0), valid.1.1, omega (arith, valid.1.2)), refl)) (pairs authorization_format inner) more t rest fits e
type_after_takes n inner f.CapabilityOf more t rest fits e = tagged type_bytes (TypeOk (suc n)) capability_of 7 (λ x valid. ((valid.0, valid.1, omega (arith, valid.2)), refl)) inner more t rest fits e
type_after_takes n inner f.Capability more t rest fits e =
    subst (λ (z : PureType × List ℕ). Taken n (8 ∷ more) z.0 z.1) (some_is (capability, more) (t, rest) e) (record { parts = refl; rest_fits = fits }, (tt, tt, omega arith))

type_take : (n : ℕ) → IsFormat type_bytes (TypeOk n) (type_at n) → (bytes : List ℕ) (t : PureType) (rest : List ℕ) → AreBytes bytes → type_at (suc n) bytes ≡ Some (t, rest) → Taken n bytes t rest
unfolding type_at
type_take n inner bytes t rest fits e =
    let x = bind_some (found_at byte_at (slice_get type_forms) bytes) (λ form. type_after (type_at n) form.0 form.1) (t, rest) e in
    let head = form_takes type_forms type_number forms_numbered bytes x.0.0 x.0.1 fits x.1 in
    subst (λ (w : List ℕ). Taken n w t rest) (sym head.parts) (type_after_takes n inner x.0.0 x.0.1 t rest head.rest_fits x.2)

no_level : (bytes : List ℕ) (t : PureType) (rest : List ℕ) → type_at 0 bytes ≡ Some (t, rest) → ⊥
unfolding type_at
no_level bytes t rest e = cc

pub types : (n : ℕ) → IsFormat type_bytes (TypeOk n) (type_at n)
types zero = record { again = λ t rest ok. absurd (omega (arith, ok.2)); take = λ bytes t rest fits e. absurd (no_level bytes t rest e) }
types (suc n) = record { again = type_again n (types n); take = type_take n (types n) }

pub whole_types : IsFormat type_bytes TypeHasBytes (type_at (suc most_nesting))
whole_types =
    let all = types (suc most_nesting) in
    record {
      again = λ t rest has. all.again t rest (has.0, has.1.0, omega (arith, has.1.1));
      take = λ bytes t rest fits e.
          let x = all.take bytes t rest fits e in
          (x.0, (x.1.0, (x.1.1, omega (arith, x.1.2))));
    }
