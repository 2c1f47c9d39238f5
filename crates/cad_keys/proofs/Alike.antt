-- Keys that are the same have one hash.
use Rattle.std.proofs.Common.{◌≡◌, Bool, true, false, ◌&&◌, ◌==◌, Option, Some, None, refl, ap, ◌∙◌, sym}
use Rattle.std.proofs.lemmas.Bool.{false≢true}
use Rattle.std.specs.Cmp.Lexicographic.{pointwise}
use Rattle.cad_syntax.proofs.Members.{and_both}
use Rattle.cad_syntax.proofs.Same.{lists_tell, numbers_tell}
use Rattle.cad_syntax.specs.TypeIds.{same_id}
use Rattle.cad_syntax.specs.declared.address.Path.{Path}
use Rattle.cad_syntax.specs.declared.num.Num.{Num}
use Rattle.cad_syntax.specs.declared.type_id.TypeId.{TypeId}
use Rattle.cad_text.specs.Texts.{normal_form}
use Rattle.cad_types.specs.Basics.{kind_number}
use Rattle.cad_values.specs.Values.{PureValue}
use Rattle.cad_values.specs.Values as v
use Rattle.cad_world.specs.Same.{same_truth, same_number, same_path, same_domain, same_key}
use Rattle.cad_keys.specs.Code.Hashes.{with_bytes, magnitude_hash, truth_hash, case_hash, raw_hash, key_hash, spread}
use Rattle.cad_keys.specs.Sameness.{case_number, same_case, same_as_case}
use Rattle.cad_keys.proofs.Tests.{composite_key}

truths_alike : (x y : Bool) → same_truth x y ≡ true → truth_hash x ≡ truth_hash y
truths_alike true true e = refl
truths_alike false false e = refl
truths_alike true false e = absurd (false≢true e)
truths_alike false true e = absurd (false≢true e)

third : (a b c : Bool) → (a && b && c) ≡ true → c ≡ true
third true true c e = e
third true false c e = absurd (false≢true e)
third false b c e = absurd (false≢true e)

magnitudes_same : (x y : Num) → same_number x y ≡ true → x.magnitude ≡ y.magnitude
magnitudes_same x y e = (numbers_tell x.magnitude y.magnitude).0 (third (kind_number x.kind == kind_number y.kind) (same_truth x.negative y.negative) (x.magnitude == y.magnitude) e)

names_same : (x y : Path) → same_path x y ≡ true → x.identifier.0 ≡ y.identifier.0
names_same x y e = (lists_tell ◌==◌ numbers_tell x.identifier.0 y.identifier.0).0 (and_both (same_domain x.domain y.domain) (pointwise ◌==◌ x.identifier.0 y.identifier.0) e).1

numbers_alike : (x y : TypeId) (n : Num) (m : Option Num) → same_case x (Some n) y m ≡ true → magnitude_hash n.magnitude ≡ case_hash m
numbers_alike x y n None e = absurd (false≢true e)
numbers_alike x y n (Some m) e = ap magnitude_hash (magnitudes_same n m (and_both (same_id x y) (same_number n m) e).1)

cases_alike : (x : TypeId) (n : Option Num) (b : PureValue) → same_as_case x n b ≡ true → case_hash n ≡ raw_hash b
cases_alike x None (v.composite y j g) e = absurd (false≢true e)
cases_alike x (Some n) (v.composite y j g) e = numbers_alike x y n (case_number g) e
cases_alike x n _ e = absurd (false≢true e)

raw_alike : (a b : PureValue) → same_key a b ≡ true → raw_hash a ≡ raw_hash b
raw_alike (v.bool x) (v.bool y) e = truths_alike x y e
raw_alike (v.number x) (v.number y) e = ap magnitude_hash (magnitudes_same x y e)
raw_alike (v.string x) (v.string y) e = ap (with_bytes 0) ((lists_tell ◌==◌ numbers_tell (normal_form x) (normal_form y)).0 e)
raw_alike (v.character x) (v.character y) e = ap (with_bytes 0) ((lists_tell ◌==◌ numbers_tell (normal_form x) (normal_form y)).0 e)
raw_alike (v.address x) (v.address y) e = (numbers_tell x.0 y.0).0 e
raw_alike (v.path x) (v.path y) e = ap (with_bytes 0) (names_same x y e)
raw_alike (v.meta x) (v.meta y) e = refl
raw_alike (v.composite x i f) b e = cases_alike x (case_number f) b (sym (composite_key x i f b) ∙ e)
raw_alike _ _ e = absurd (false≢true e)

pub hashes_alike : (a b : PureValue) → same_key a b ≡ true → key_hash a ≡ key_hash b
hashes_alike a b e = ap spread (raw_alike a b e)
