-- What the bytes of a value give, part by part.
use Rattle.std.proofs.Common.{◌≡◌, ◌≢◌, ℕ, ◌/◌, ◌%◌, ◌^◌, ◌<◌, List, [], ◌∷◌, ◌++◌, Some, None, Ok, Err, refl, sym, ap, subst, ◌∙◌, append_assoc, arith}
use Rattle.std.proofs.lemmas.List.{append-nil}
use Rattle.cad_syntax.specs.declared.kind.Kind.TheVariants.{Address}
use Rattle.cad_syntax.specs.declared.num.Num.{Num}
use Rattle.cad_number_codec.specs.declared.value.Value.{Value}
use Rattle.cad_number_codec.specs.declared.value.Value.TheVariants.{Number, Other}
use Rattle.cad_wire.specs.declared.error.DecodeError.{DecodeError}
use Rattle.cad_wire.specs.declared.error.DecodeError.TheVariants.{Damaged, Memory}
use Rattle.cad_wire.specs.Fields.{number_field, ◌>>=◌, byte_at, number_at, AreBytes}
use Rattle.cad_wire.specs.Reading.{Gives, Reads}
use Rattle.cad_wire.proofs.FieldLaws.{bind_some, some_is, byte_takes, number_takes, number_again}
use Rattle.cad_number_codec.specs.Spelling.{kind_byte, sign_byte, number_bytes, value_bytes, HasBytes}
use Rattle.cad_number_codec.specs.Parts.{HasParts, parts_at}
use Rattle.cad_number_codec.proofs.Numbers.{magnitude_below, same_number}

parts_again : (k s u l : ℕ) (rest : List ℕ) → u < 2 ^ 64 → l < 2 ^ 64 → parts_at (k ∷ s ∷ (number_field u ++ (number_field l ++ rest))) ≡ Some ((k, s, u, l), rest)
unfolding parts_at
parts_again k s u l rest u-fits l-fits =
    ap (λ o. o >>= λ upper. number_at upper.1 >>= λ lower. Some ((k, s, upper.0, lower.0), lower.1)) (number_again u (number_field l ++ rest) u-fits)
    ∙ ap (λ o. o >>= λ lower. Some ((k, s, u, lower.0), lower.1)) (number_again l rest l-fits)

pub record Parted (bytes : List ℕ) (k s u l : ℕ) (rest : List ℕ) : Type 0 where
  pub is : bytes ≡ k ∷ s ∷ (number_field u ++ (number_field l ++ rest))

parts_take : (bytes : List ℕ) (k s u l : ℕ) (rest : List ℕ) → AreBytes bytes → parts_at bytes ≡ Some ((k, s, u, l), rest) → Parted bytes k s u l rest
unfolding parts_at
parts_take bytes k s u l rest fits e =
    let a = bind_some (byte_at bytes) (λ kind. byte_at kind.1 >>= λ sign. number_at sign.1 >>= λ upper. number_at upper.1 >>= λ lower. Some ((kind.0, sign.0, upper.0, lower.0), lower.1)) ((k, s, u, l), rest) e in
    let b = bind_some (byte_at a.0.1) (λ sign. number_at sign.1 >>= λ upper. number_at upper.1 >>= λ lower. Some ((a.0.0, sign.0, upper.0, lower.0), lower.1)) ((k, s, u, l), rest) a.2 in
    let c = bind_some (number_at b.0.1) (λ upper. number_at upper.1 >>= λ lower. Some ((a.0.0, b.0.0, upper.0, lower.0), lower.1)) ((k, s, u, l), rest) b.2 in
    let d = bind_some (number_at c.0.1) (λ lower. Some ((a.0.0, b.0.0, c.0.0, lower.0), lower.1)) ((k, s, u, l), rest) c.2 in
    let ta = byte_takes bytes a.0.0 a.0.1 fits a.1 in
    let tb = byte_takes a.0.1 b.0.0 b.0.1 ta.rest_fits b.1 in
    let tc = number_takes b.0.1 c.0.0 c.0.1 tb.rest_fits c.1 in
    let td = number_takes c.0.1 d.0.0 d.0.1 tc.0.rest_fits d.1 in
    let whole : bytes ≡ a.0.0 ∷ b.0.0 ∷ (number_field c.0.0 ++ (number_field d.0.0 ++ d.0.1)) =
    ta.parts ∙ ap (λ (r : List ℕ). a.0.0 ∷ r) tb.parts ∙ ap (λ (r : List ℕ). a.0.0 ∷ b.0.0 ∷ r) tc.0.parts ∙ ap (λ (r : List ℕ). a.0.0 ∷ b.0.0 ∷ (number_field c.0.0 ++ r)) td.0.parts in
    subst (λ (x : (ℕ × ℕ × ℕ × ℕ) × List ℕ). Parted bytes x.0.0 x.0.1 x.0.2 x.0.3 x.1) (some_is ((a.0.0, b.0.0, c.0.0, d.0.0), d.0.1) ((k, s, u, l), rest) d.2) (record { is = whole })

-- a number with these parts stands at the front
pub found : (bytes tail rest : List ℕ) (b : ℕ) (n : Num) (k s u l : ℕ) → AreBytes bytes → byte_at bytes ≡ Some (b, tail) → b ≡ 4 → parts_at tail ≡ Some ((k, s, u, l), rest) → HasParts n k s u l
    → HasBytes (Number n) × (bytes ≡ value_bytes (Number n) ++ rest)
found bytes tail rest b n k s u l fits first tag parts has =
    let t = byte_takes bytes b tail fits first in
    let p = parts_take tail k s u l rest t.rest_fits parts in
    let upper : number_field u ++ (number_field l ++ rest) ≡ number_field (n.magnitude / 2 ^ 64) ++ (number_field (n.magnitude % 2 ^ 64) ++ rest) = λ i. number_field (has.upper_is i) ++ (number_field (has.lower_is i) ++ rest) in
    (has.a_number, t.parts ∙ (λ i. tag i ∷ p.is i) ∙ (λ i. 4 ∷ has.kind_is i ∷ has.sign_is i ∷ upper i))

-- a value at the front shows its parts
pub record Shows (tail : List ℕ) (v : Value) (rest : List ℕ) : Type 0 where
  pub n : Num
  pub is : v ≡ Number n
  pub a_number : n.kind ≢ Address
  pub parts : parts_at tail ≡ Some ((kind_byte n.kind, sign_byte n.negative, n.magnitude / 2 ^ 64, n.magnitude % 2 ^ 64), rest)

number_shows : (n : Num) (bytes tail rest : List ℕ) (b : ℕ) → n.kind ≢ Address → byte_at bytes ≡ Some (b, tail) → bytes ≡ number_bytes n ++ rest → (b ≡ 4) × Shows tail (Number n) rest
number_shows n bytes tail rest b a_number first e =
    let after : List ℕ = kind_byte n.kind ∷ sign_byte n.negative ∷ (number_field (n.magnitude / 2 ^ 64) ++ (number_field (n.magnitude % 2 ^ 64) ++ rest)) in
    let is : (b, tail) ≡ (4, after) = some_is (b, tail) (4, after) (sym first ∙ ap byte_at e) in
    let upper : n.magnitude / 2 ^ 64 < 2 ^ 64 = omega (arith, magnitude_below n) in
    let lower : n.magnitude % 2 ^ 64 < 2 ^ 64 = omega arith in
    let again = parts_again (kind_byte n.kind) (sign_byte n.negative) (n.magnitude / 2 ^ 64) (n.magnitude % 2 ^ 64) rest upper lower in
    (ap (λ (p : ℕ × List ℕ). p.0) is, record { n = n; is = refl; a_number = a_number; parts = ap parts_at (ap (λ (p : ℕ × List ℕ). p.1) is) ∙ again })

pub shows : (v : Value) (bytes tail rest : List ℕ) (b : ℕ) → HasBytes v → byte_at bytes ≡ Some (b, tail) → bytes ≡ value_bytes v ++ rest → (b ≡ 4) × Shows tail v rest
shows (Number n) bytes tail rest b has first e = number_shows n bytes tail rest b has first e
shows (Other none) bytes tail rest b has first e = absurd has

parts_of : {v : Value} {tail rest : List ℕ} (x : Shows tail v rest) (k s u l : ℕ) (now : List ℕ) → parts_at tail ≡ Some ((k, s, u, l), now) → HasParts x.n k s u l × (now ≡ rest)
parts_of {v} {tail} {rest} x k s u l now read =
    let same = some_is ((k, s, u, l), now) ((kind_byte x.n.kind, sign_byte x.n.negative, x.n.magnitude / 2 ^ 64, x.n.magnitude % 2 ^ 64), rest) (sym read ∙ x.parts) in (
      record {
        a_number = x.a_number;
        kind_is = ap (λ (p : (ℕ × ℕ × ℕ × ℕ) × List ℕ). p.0.0) same;
        sign_is = ap (λ (p : (ℕ × ℕ × ℕ × ℕ) × List ℕ). p.0.1) same;
        upper_is = ap (λ (p : (ℕ × ℕ × ℕ × ℕ) × List ℕ). p.0.2) same;
        lower_is = ap (λ (p : (ℕ × ℕ × ℕ × ℕ) × List ℕ). p.0.3) same;
      },
      ap (λ (p : (ℕ × ℕ × ℕ × ℕ) × List ℕ). p.1) same,
    )

pub not_short : (v : Value) (bytes tail rest : List ℕ) (b : ℕ) → HasBytes v → byte_at bytes ≡ Some (b, tail) → bytes ≡ value_bytes v ++ rest → parts_at tail ≡ None → ⊥
not_short v bytes tail rest b has first e none =
    let x = (shows v bytes tail rest b has first e).1 in
    let wrong = sym none ∙ x.parts in
    cc

pub not_none : (v : Value) (bytes tail rest : List ℕ) (b k s u l : ℕ) (now : List ℕ) → HasBytes v → byte_at bytes ≡ Some (b, tail) → bytes ≡ value_bytes v ++ rest → parts_at tail ≡ Some ((k, s, u, l), now)
    → ((n : Num) → HasParts n k s u l → ⊥) → ⊥
not_none v bytes tail rest b k s u l now has first e read none =
    let x = (shows v bytes tail rest b has first e).1 in
    none x.n (parts_of x k s u l now read).0

pub the_one : (v : Value) (bytes tail rest : List ℕ) (b : ℕ) (n : Num) (k s u l : ℕ) (now : List ℕ) → HasBytes v → byte_at bytes ≡ Some (b, tail) → bytes ≡ value_bytes v ++ rest → parts_at tail ≡ Some ((k, s, u, l), now)
    → HasParts n k s u l → Reads (Ok (Number n)) (Some (v, rest)) now
the_one v bytes tail rest b n k s u l now has first e read parts =
    let x = (shows v bytes tail rest b has first e).1 in
    let p = parts_of x k s u l now read in
    let same = x.is ∙ ap Number (same_number x.n n k s u l p.0 parts) in
    λ i. Some (same i, sym p.1 i)

-- what is said of the whole bytes, from what is said of their front
pub err_whole : (e : DecodeError) (v : Value) (now : List ℕ) → Reads (Err e) (Some (v, [])) now → Gives (Err e) (Some v)
err_whole Damaged v now h = absurd (cc h)
err_whole Memory v now h = tt

pub to_front : (v : Value) (bytes : List ℕ) → bytes ≡ value_bytes v → bytes ≡ value_bytes v ++ []
to_front v bytes e = e ∙ sym (append-nil (value_bytes v))

own_parts : (n : Num) → parts_at (kind_byte n.kind ∷ sign_byte n.negative ∷ (number_field (n.magnitude / 2 ^ 64) ++ (number_field (n.magnitude % 2 ^ 64) ++ []))) ≡ Some ((kind_byte n.kind, sign_byte n.negative, n.magnitude / 2 ^ 64, n.magnitude % 2 ^ 64), [])
own_parts n =
    let upper : n.magnitude / 2 ^ 64 < 2 ^ 64 = omega (arith, magnitude_below n) in
    let lower : n.magnitude % 2 ^ 64 < 2 ^ 64 = omega arith in
    parts_again (kind_byte n.kind) (sign_byte n.negative) (n.magnitude / 2 ^ 64) (n.magnitude % 2 ^ 64) [] upper lower

-- no two values have the same bytes
pub one : (v w : Value) → HasBytes v → HasBytes w → value_bytes v ≡ value_bytes w → v ≡ w
one (Number n) (Number m) has-n has-m e =
    let rest : (o : Num) → List ℕ = λ o. kind_byte o.kind ∷ sign_byte o.negative ∷ (number_field (o.magnitude / 2 ^ 64) ++ (number_field (o.magnitude % 2 ^ 64) ++ [])) in
    let b = number_shows m (number_bytes n) (rest n) [] 4 has-m refl e in
    let parts : parts_at (rest n) ≡ Some ((kind_byte n.kind, sign_byte n.negative, n.magnitude / 2 ^ 64, n.magnitude % 2 ^ 64), []) = own_parts n in
    let p = parts_of b.1 (kind_byte n.kind) (sign_byte n.negative) (n.magnitude / 2 ^ 64) (n.magnitude % 2 ^ 64) [] parts in
    ap Number (same_number n b.1.n (kind_byte n.kind) (sign_byte n.negative) (n.magnitude / 2 ^ 64) (n.magnitude % 2 ^ 64) (record { a_number = has-n; kind_is = refl; sign_is = refl; upper_is = refl; lower_is = refl }) p.0) ∙ sym b.1.is
one (Number n) (Other none) has-n has-w e = absurd has-w
one (Other none) w has-v has-w e = absurd has-v

-- the bytes that are written one after the other
pub written : (w w1 w2 w3 new xs : List ℕ) (a b d b1 d1 : ℕ) → w1 ≡ w ++ a ∷ [] → w2 ≡ w1 ++ b1 ∷ [] → b1 ≡ b → w3 ≡ w2 ++ d1 ∷ [] → d1 ≡ d → new ≡ w3 ++ xs → new ≡ w ++ a ∷ b ∷ d ∷ xs
written w w1 w2 w3 new xs a b d b1 d1 e1 e2 bb e3 dd e =
    e ∙ ap (λ (l : List ℕ). l ++ xs) (e3 ∙ (λ i. (e2 ∙ (λ j. e1 j ++ bb j ∷ [])) i ++ dd i ∷ [])) ∙ regroup
  where
    regroup : ((((w ++ a ∷ []) ++ b ∷ []) ++ d ∷ []) ++ xs) ≡ w ++ a ∷ b ∷ d ∷ xs
    regroup = simp append_assoc

pub written_two : (w w1 new xs ys : List ℕ) → w1 ≡ w ++ xs → new ≡ w1 ++ ys → new ≡ w ++ (xs ++ ys)
written_two w w1 new xs ys e1 e = e ∙ ap (λ (l : List ℕ). l ++ ys) e1 ∙ append_assoc w xs ys
