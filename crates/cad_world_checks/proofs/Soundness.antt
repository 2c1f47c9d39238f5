-- What a sound account stores, publishes and controls, part by part.
use Rattle.std.proofs.Common.{◌≡◌, ◌↔◌, ◌≤◌, ℕ, ◌<◌, ◌^◌, Bool, true, false, IsTrue, List, [], ◌∷◌, All, refl, sym, subst, ◌∙◌}
use Rattle.std.specs.List.{AllByRecursion}
use Rattle.std.specs.Prelude.{Result, Ok, Err, IfOk, IsUtf8}
use Rattle.std.proofs.lemmas.Bool.{false≢true}
use Rattle.std.proofs.lemmas.List.Elements.{recursion_from_All, All-from_recursion}
use Rattle.cad_rows.specs.Views.{PlaceView, vacant, taken, before}
use Rattle.cad_syntax.specs.declared.text.Name.{Name}
use Rattle.cad_syntax.specs.declared.type_id.TypeId.{TypeId}
use Rattle.cad_values.specs.Fits as of
use Rattle.cad_values.specs.Shapes.{Shapes, is_type, is_reference_type}
use Rattle.cad_values.specs.Values.{PureValue}
use Rattle.cad_world.specs.Fits.{FitsItself, Lasts}
use Rattle.cad_world.specs.Orders.{rises, name_before}
use Rattle.cad_world.specs.Rows.{Row, Tree}
use Rattle.cad_world.specs.Sound.{AreStored, SoundPublication, SoundController, SoundAccount, most_next}
use Rattle.cad_world.specs.State.{Account, Publication, Controller}
use Rattle.cad_world.specs.Trees.{value_of}
use Rattle.cad_world_checks.specs.Checks.{CanStand, LastsAs, LastsOf, IsKept, IsTag, SoundPublished, SoundControlled}

-- ---- one tree

pub kept_tree : (b : Bool) (k : Shapes) (t : Tree) (x : PureValue) → x ≡ value_of t → CanStand k t → (IsTrue b ↔ LastsAs k x) → IsTrue b ↔ (FitsItself k t × Lasts k t)
kept_tree b k t x e stands tells = (
  (λ h. let l : LastsAs k (value_of t) = subst (LastsAs k) e (tells.0 h) in (
    (stands.0, l.1),
    record { of_value = stands.0; storable = l.0.0; low = l.0.1; identities = stands.1 },
  )),
  (λ p. tells.1 (subst (LastsAs k) (sym e) ((p.1.storable, p.1.low), p.0.1))),
)

pub contract_tree : (b : Bool) (k : Shapes) (id : TypeId) (t : Tree) (x : PureValue) → x ≡ value_of t → CanStand k t → (IsTrue b ↔ LastsOf k id x) → IsTrue b ↔ (of.FitsContract k (value_of t) id × Lasts k t)
contract_tree b k id t x e stands tells = (
  (λ h. let l : LastsOf k id (value_of t) = subst (LastsOf k id) e (tells.0 h) in (
    l.1,
    record { of_value = stands.0; storable = l.0.0; low = l.0.1; identities = stands.1 },
  )),
  (λ p. tells.1 (subst (LastsOf k id) (sym e) ((p.1.storable, p.1.low), p.0))),
)

-- it stands where it lasts
pub lasts_stands : (k : Shapes) (t : Tree) → Lasts k t → CanStand k t
lasts_stands k t l = (l.of_value, l.identities)

pub kept_place : (b : Bool) (k : Shapes) (name : Name) (l : List ℕ) (t : Tree) → l ≡ [] → IsUtf8 name.0 → (IsTrue b ↔ (FitsItself k t × Lasts k t)) → IsTrue b ↔ IsKept k name (taken l t)
kept_place b k name l t bare text tells = ((λ h. let f = tells.0 h in (bare, text, f.0, f.1)), (λ kept. tells.1 (kept.2, kept.3)))

-- ---- all places

pub one_kept : (k : Shapes) (name : Name) (names : List Name) (v : PlaceView) (rest : Row) → AreStored k (name ∷ names) (before v rest) ↔ (IsKept k name v × AreStored k names rest)
one_kept k name names vacant rest = ((λ h. absurd h), (λ p. absurd p.0))
one_kept k name names (taken [] t) rest = ((λ h. ((refl, h.0, h.1, h.2), h.3)), (λ p. (p.0.1, p.0.2, p.0.3, p.1)))
one_kept k name names (taken (l ∷ ls) t) rest = ((λ h. absurd h), (λ p. let wrong : (l ∷ ls) ≡ [] = p.0.0 in absurd cc))

-- ---- an account

pub never : {P : Type 0} → (P → ⊥) → IsTrue false ↔ P
never refuses = ((λ h. absurd (false≢true h)), (λ p. absurd (refuses p)))

pub all_of : {A : Type 0} (P : A → Type 0) (b : Bool) (xs : List A) → (IsTrue b ↔ AllByRecursion P xs) → IsTrue b ↔ All P xs
all_of P b xs tells = ((λ h. All-from_recursion P xs (tells.0 h)), (λ all. tells.1 (recursion_from_All P xs all)))

-- what a call tells, passed on
pub passed : {B E : Type 0} (P Q : B → Type 0) (r : Result B E) → ((b : B) → P b → Q b) → IfOk r P → IfOk r Q
passed P Q (Ok b) h p = h b p
passed P Q (Err e) h p = tt

pub both_so : {P Q : Type 0} (b : Bool) → P → (IsTrue b ↔ Q) → IsTrue b ↔ (P × Q)
both_so b p tells = ((λ h. (p, tells.0 h)), (λ pq. tells.1 pq.1))

pub published_sound : (b : Bool) (k : Shapes) (p : Publication) → IsUtf8 p.identifier.0 → 1 ≤ p.number → p.number < 2 ^ 64 → is_reference_type p.lent ≡ true → b ≡ is_type k p.lent → IsTrue b ↔ SoundPublication k p
published_sound b k p text one low lent is = ((λ h. record { identifier = text; from_one = one; number = low; lent = lent; type = sym is ∙ h }), (λ sound. is ∙ sound.type))

pub controlled_sound : (b : Bool) (k : Shapes) (next : ℕ) (c : Controller) → IsUtf8 c.target.0 → 1 ≤ c.number → c.number < next → is_reference_type c.borrow ≡ true → is_type k c.borrow ≡ true
    → (IsTrue b ↔ IsTag c.tag) → IsTrue b ↔ SoundController k next c
controlled_sound b k next c text one low lent type_is tells = (
  (λ h. let tag = tells.0 h in record { from_one = one; number = low; borrow = lent; type = type_is; tag = tag.0; short = tag.1; target = text }),
  (λ sound. tells.1 (sound.tag, sound.short)),
)

-- what was found false isn't true
pub refuted : (b r : Bool) → b ≡ r → b ≡ false → r ≡ true → ⊥
refuted b r e refuses holds = false≢true (sym refuses ∙ e ∙ holds)

pub shown : (b r : Bool) → b ≡ r → b ≡ true → r ≡ true
shown b r e holds = sym e ∙ holds

-- the same of other lists
pub published_known : (b : Bool) (k : Shapes) (ps qs : List Publication) → ps ≡ qs → (IsTrue b ↔ SoundPublished k ps) → IsTrue b ↔ SoundPublished k qs
published_known b k ps qs same tells = subst (λ (rs : List Publication). IsTrue b ↔ SoundPublished k rs) same tells

pub controlled_known : (b : Bool) (k : Shapes) (next : ℕ) (cs ds : List Controller) → cs ≡ ds → (IsTrue b ↔ SoundControlled k next cs) → IsTrue b ↔ SoundControlled k next ds
controlled_known b k next cs ds same tells = subst (λ (es : List Controller). IsTrue b ↔ SoundControlled k next es) same tells

pub stored_known : (b : Bool) (k : Shapes) (is js : List Name) (r q : Row) → is ≡ js → r ≡ q → (IsTrue b ↔ AreStored k is r) → IsTrue b ↔ AreStored k js q
stored_known b k is js r q same row tells = subst (λ (p : Row). IsTrue b ↔ AreStored k js p) row (subst (λ (ns : List Name). IsTrue b ↔ AreStored k ns r) same tells)

pub account_sound : (b : Bool) (k : Shapes) (a : Account) → 1 ≤ a.next_controller → a.next_controller ≤ most_next → rises name_before a.identifiers ≡ true → SoundPublished k a.published → SoundControlled k a.next_controller a.controllers
    → (IsTrue b ↔ AreStored k a.identifiers a.stored) → IsTrue b ↔ SoundAccount k a
account_sound b k a one low names published controlled tells = (
  (λ h. record {
    identifiers = names;
    stored = tells.0 h;
    published_rise = published.0;
    published = published.1;
    controllers_rise = controlled.0;
    controllers = controlled.1;
    from_one = one;
    next = low;
  }),
  (λ s. tells.1 s.stored),
)
