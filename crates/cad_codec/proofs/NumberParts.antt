-- The number with some parts of its bytes, as a function of them.
use Rattle.std.proofs.Common.{◌≡◌, ◌≢◌, ℕ, zero, suc, ◌+◌, ◌*◌, ◌/◌, ◌%◌, ◌^◌, ◌<◌, Bool, true, false, Option, Some, None, refl, sym, ap, ◌∙◌, arith}
use Rattle.std.specs.Prelude.{slice_get, IfSome, IfNone}
use Rattle.cad_syntax.specs.declared.kind.Kind.{Kind}
use Rattle.cad_syntax.specs.declared.kind.Kind.TheVariants.{Int, Int8, Int16, Int32, Int64, Int128, UInt, UInt8, UInt16, UInt32, UInt64, UInt128, Word8, Word16, Word32, Word64, Word128, Fix64, UFix64, Address}
use Rattle.cad_syntax.specs.declared.num.Num.{Num}
use Rattle.cad_syntax.specs.Kinds.{is_kept}
use Rattle.cad_number_codec.proofs.Nums.{same_num}
use Rattle.cad_number_codec.specs.Parts.{HasParts}
use Rattle.cad_number_codec.specs.Spelling.{kind_byte, sign_byte}
use Rattle.cad_wire.specs.Fields.{◌>>=◌}
use Rattle.cad_wire.proofs.FieldLaws.{bind_some, some_is}
use Rattle.cad_codec.specs.Code.Values.{kinds, bool_of, kept_num, number_of}
use Rattle.cad_codec.proofs.Tables.{Numbered, at_place}

pub kind_found : (k : Kind) → k ≢ Address → slice_get kinds (kind_byte k) ≡ Some k
kind_found Int h = refl
kind_found Int8 h = refl
kind_found Int16 h = refl
kind_found Int32 h = refl
kind_found Int64 h = refl
kind_found Int128 h = refl
kind_found UInt h = refl
kind_found UInt8 h = refl
kind_found UInt16 h = refl
kind_found UInt32 h = refl
kind_found UInt64 h = refl
kind_found UInt128 h = refl
kind_found Word8 h = refl
kind_found Word16 h = refl
kind_found Word32 h = refl
kind_found Word64 h = refl
kind_found Word128 h = refl
kind_found Fix64 h = refl
kind_found UFix64 h = refl
kind_found Address h = absurd (h refl)

kinds_numbered : Numbered kind_byte 0 kinds
kinds_numbered = (refl, (refl, (refl, (refl, (refl, (refl, (refl, (refl, (refl, (refl, (refl, (refl, (refl, (refl, (refl, (refl, (refl, (refl, (refl, tt)))))))))))))))))))

pub kind_at : (b : ℕ) (k : Kind) → slice_get kinds b ≡ Some k → b ≡ kind_byte k
kind_at b k e = sym (at_place kind_byte kinds 0 b k kinds_numbered e ∙ omega arith)

pub truth : (b : ℕ) (x : Bool) → bool_of b ≡ Some x → b ≡ sign_byte x
truth zero false e = refl
truth zero true e = absurd cc
truth (suc zero) false e = absurd cc
truth (suc zero) true e = refl
truth (suc (suc b)) x e = absurd cc

pub truth_found : (x : Bool) → bool_of (sign_byte x) ≡ Some x
truth_found true = refl
truth_found false = refl

kept_is : (k : Kind) (s : Bool) (m : ℕ) (kept : Bool) (e : is_kept k s m ≡ kept) (n : Num) → n.kind ≡ k → n.negative ≡ s → n.magnitude ≡ m → kept_num k s m kept e ≡ Some n
kept_is k s m true e n kind sign magnitude = ap (λ (x : Num). Some x) (same_num (record { kind = k; negative = s; magnitude = m; kept = e }) n (sym kind) (sym sign) (sym magnitude))
kept_is k s m false e n kind sign magnitude =
    let wrong : true ≡ false = sym n.kept ∙ (λ i. is_kept (kind i) (sign i) (magnitude i)) ∙ e in
    absurd cc

-- a number is found from its parts
pub number_found : (n : Num) (k s u l : ℕ) → HasParts n k s u l → number_of (k, s, u, l) ≡ Some n
number_found n k s u l has =
    let kind : slice_get kinds k ≡ Some n.kind = ap (slice_get kinds) has.kind_is ∙ kind_found n.kind has.a_number in
    let sign : bool_of s ≡ Some n.negative = ap bool_of has.sign_is ∙ truth_found n.negative in
    let magnitude : n.magnitude ≡ u * 2 ^ 64 + l = omega (arith, has.upper_is, has.lower_is) in
    rw (kind, sign) (kept_is n.kind n.negative (u * 2 ^ 64 + l) (is_kept n.kind n.negative (u * 2 ^ 64 + l)) refl n refl refl magnitude)

abbrev some_num : Num → Option Num
some_num n = Some n

kept_parts : (k : Kind) (s : Bool) (m : ℕ) (kept : Bool) (e : is_kept k s m ≡ kept) (n : Num) → kept_num k s m kept e ≡ Some n → (n.kind ≡ k) × (n.negative ≡ s) × (n.magnitude ≡ m)
kept_parts k s m true e n h =
    let same : record { kind = k; negative = s; magnitude = m; kept = e } ≡ n = some_is (record { kind = k; negative = s; magnitude = m; kept = e }) n h in
    (ap (λ (x : Num). x.kind) (sym same), ap (λ (x : Num). x.negative) (sym same), ap (λ (x : Num). x.magnitude) (sym same))
kept_parts k s m false e n h = absurd cc

no_address : (b : ℕ) (k : Kind) → slice_get kinds b ≡ Some k → k ≢ Address
no_address b k e same =
    let at : b ≡ 19 = kind_at b k e ∙ ap kind_byte same in
    let wrong : None ≡ Some k = sym (ap (slice_get kinds) at) ∙ e in
    absurd cc

-- and has the parts from which it is found
pub number_has : (n : Num) (k s u l : ℕ) → l < 2 ^ 64 → number_of (k, s, u, l) ≡ Some n → HasParts n k s u l
number_has n k s u l fits e =
    let a = bind_some (slice_get kinds k) (λ kind. bool_of s >>= λ negative. kept_num kind negative (u * 2 ^ 64 + l) (is_kept kind negative (u * 2 ^ 64 + l)) refl) n e in
    let b = bind_some (bool_of s) (λ negative. kept_num a.0 negative (u * 2 ^ 64 + l) (is_kept a.0 negative (u * 2 ^ 64 + l)) refl) n a.2 in
    let p = kept_parts a.0 b.0 (u * 2 ^ 64 + l) (is_kept a.0 b.0 (u * 2 ^ 64 + l)) refl n b.2 in
    record {
      a_number = λ h. no_address k a.0 a.1 (sym p.0 ∙ h);
      kind_is = kind_at k a.0 a.1 ∙ ap kind_byte (sym p.0);
      sign_is = truth s b.0 b.1 ∙ ap sign_byte (sym p.1);
      upper_is = omega (arith, p.2, fits);
      lower_is = omega (arith, p.2, fits);
    }

none_there : (o : Option Num) → ((n : Num) → o ≡ Some n → ⊥) → None ≡ o
none_there None h = refl
none_there (Some n) h = absurd (h n refl)

pub exact : (r : Option Num) (k s u l : ℕ) → l < 2 ^ 64 → IfSome r (λ n. HasParts n k s u l) → IfNone r ((n : Num) → HasParts n k s u l → ⊥) → r ≡ number_of (k, s, u, l)
exact (Some n) k s u l fits has none = sym (number_found n k s u l has)
exact None k s u l fits has none = none_there (number_of (k, s, u, l)) (λ n e. none n (number_has n k s u l fits e))
