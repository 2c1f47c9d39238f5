-- What follows from an option that is something.
use Rattle.std.proofs.Common.{◌≡◌, ℕ, Bool, true, false, not, List, [], ◌∷◌, Option, Some, None, option_map, refl, sym, ap, ◌∙◌}
use Rattle.std.specs.Prelude.{if◌then◌else◌, ◌==◌, ◌&&◌}
use Rattle.serde_json.specs.Data.{Data, null, boolean, number, string, array, object, Items, no_items, item, Members, no_members, member}
use Rattle.serde_json.specs.Find.{as_null, as_bool, as_str, as_array, as_object}
use Rattle.serde_json.specs.View.{items_of}
use Rattle.cad_syntax.proofs.Same.{lists_tell, numbers_tell}
use Rattle.cad_json.specs.Words.{two}
use Rattle.cad_json_read.specs.Forms.{same_text}
use Rattle.cad_json_read.specs.Reading.{◌>>=◌, pair_in, pair_of, item_list, list_of}
use Rattle.cad_json_read.proofs.Lists.{items_back}

pub bind_some : {A B : Type 0} (o : Option A) (f : A → Option B) (y : B) → (o >>= f) ≡ Some y → (x : A) × (o ≡ Some x) × (f x ≡ Some y)
bind_some (Some x) f y e = (x, refl, e)
bind_some None f y e = absurd cc

pub map_some : {A B : Type 0} (f : A → B) (o : Option A) (y : B) → option_map f o ≡ Some y → (x : A) × (o ≡ Some x) × (f x ≡ y)
map_some f (Some x) y e = (x, refl, cc)
map_some f None y e = absurd cc

pub picked : {A : Type 0} (test : Bool) (o : Option A) (x : A) → (if test then o else None) ≡ Some x → (test ≡ true) × (o ≡ Some x)
picked true o x e = (refl, e)
picked false o x e = absurd cc

pub some_is : {A : Type 0} (a b : A) → Some a ≡ Some b → a ≡ b
some_is a b e = cc

pub text_is : (a b : List ℕ) → same_text a b ≡ true → a ≡ b
text_is a b e = (lists_tell ◌==◌ numbers_tell a b).0 e

pub text_same : (a b : List ℕ) → a ≡ b → same_text a b ≡ true
text_same a b e = (lists_tell ◌==◌ numbers_tell a b).1 e

flip_at : (a b : List ℕ) (x : Bool) → same_text a b ≡ false → same_text b a ≡ x → same_text b a ≡ false
flip_at a b true other e = let wrong : true ≡ false = sym (text_same a b (sym (text_is b a e))) ∙ other in absurd cc
flip_at a b false other e = e

pub flip : (a b : List ℕ) → same_text a b ≡ false → same_text b a ≡ false
flip a b other = flip_at a b (same_text b a) other refl

-- ---- what a JSON is

pub str_is : (d : Data) (text : List ℕ) → as_str d ≡ Some text → d ≡ string text
str_is null text e = absurd cc
str_is (boolean b) text e = absurd cc
str_is (number n) text e = absurd cc
str_is (string s) text e = ap string (some_is s text e)
str_is (array ds) text e = absurd cc
str_is (object ms) text e = absurd cc

pub bool_is : (d : Data) (x : Bool) → as_bool d ≡ Some x → d ≡ boolean x
bool_is null x e = absurd cc
bool_is (boolean b) x e = ap boolean (some_is b x e)
bool_is (number n) x e = absurd cc
bool_is (string s) x e = absurd cc
bool_is (array ds) x e = absurd cc
bool_is (object ms) x e = absurd cc

pub null_is : (d : Data) (u : Unit {0}) → as_null d ≡ Some u → d ≡ null
null_is null u e = refl
null_is (boolean b) u e = absurd cc
null_is (number n) u e = absurd cc
null_is (string s) u e = absurd cc
null_is (array ds) u e = absurd cc
null_is (object ms) u e = absurd cc

array_is : (d : Data) (ds : Items) → as_array d ≡ Some ds → d ≡ array ds
array_is null ds e = absurd cc
array_is (boolean b) ds e = absurd cc
array_is (number n) ds e = absurd cc
array_is (string s) ds e = absurd cc
array_is (array xs) ds e = ap array (some_is xs ds e)
array_is (object ms) ds e = absurd cc

object_is : (d : Data) (ms : Members) → as_object d ≡ Some ms → d ≡ object ms
object_is null ms e = absurd cc
object_is (boolean b) ms e = absurd cc
object_is (number n) ms e = absurd cc
object_is (string s) ms e = absurd cc
object_is (array xs) ms e = absurd cc
object_is (object xs) ms e = ap object (some_is xs ms e)

items_again : (ds : Items) → items_of (item_list ds) ≡ ds
items_again no_items = refl
items_again (item d ds) = ap (item d) (items_again ds)

pub list_is : (d : Data) (all : List Data) → list_of d ≡ Some all → d ≡ array (items_of all)
list_is d all e =
    let m = map_some item_list (as_array d) all e in
    array_is d m.0 m.1 ∙ ap array (sym (items_again m.0) ∙ ap items_of m.2)

pair_in_is : (first second : List ℕ) (ms : Members) (p : Data × Data) → pair_in first second ms ≡ Some p → ms ≡ member first p.0 (member second p.1 no_members)
pair_in_is first second no_members p e = absurd cc
pair_in_is first second (member a x no_members) p e = absurd cc
pair_in_is first second (member a x (member c y (member b z ms))) p e = absurd cc
pair_in_is first second (member a x (member c y no_members)) p e = go (same_text a first) (same_text c second) refl refl e
  where
    go : (s t : Bool) → same_text a first ≡ s → same_text c second ≡ t → (if s && t then Some (x, y) else None) ≡ Some p → member a x (member c y no_members) ≡ member first p.0 (member second p.1 no_members)
    go true true es et h =
        let is : (x, y) ≡ p = some_is (x, y) p h in
        let one = text_is a first es in
        let other = text_is c second et in
        λ i. member (one i) (is i).0 (member (other i) (is i).1 no_members)
    go true false es et h = absurd cc
    go false t es et h = absurd cc

pub pair_is : (first second : List ℕ) (d : Data) (p : Data × Data) → pair_of first second d ≡ Some p → d ≡ two first p.0 second p.1
unfolding pair_of
pair_is first second d p e =
    let b = bind_some (as_object d) (pair_in first second) p e in
    object_is d b.0 b.1 ∙ ap object (pair_in_is first second b.0 p b.2)

pub pair_again : (first second : List ℕ) (x y : Data) → pair_of first second (two first x second y) ≡ Some (x, y)
unfolding pair_of
pair_again first second x y = rw (text_same first first refl, text_same second second refl) refl
