-- Lists and options of any production: what is read is spelled, and what is spelled is read.
use Rattle.std.proofs.Common.{◌≡◌, ℕ, zero, suc, ◌<◌, ◌≤◌, List, [], ◌∷◌, ◌++◌, length, Option, Some, refl, sym, ap, ◌∙◌, subst, arith, append-nil, append_assoc}
use Rattle.cad_grammar.specs.declared.token.Sign.{Sign}
use Rattle.cad_grammar.specs.declared.token.Sign.TheVariants as s
use Rattle.cad_grammar.specs.Spots.{Spot, after, resumed}
use Rattle.cad_grammar.specs.Lists.{Listed, Maybe}
use Rattle.cad_grammar.specs.Lists as l
use Rattle.cad_parse_type.specs.Code.Reading.{Reader, listed, maybe}
use Rattle.cad_parse_type.proofs.Heads.{none_of, after_shorter, after_left, after_ends, resumed_is, resumed_left, resumed_shorter, resumed_ends, not_resumed, resumed_head, Ends, ends_same, ends_trans}
use Rattle.cad_parse_type.proofs.Climbs.{then_is, either_is, either_not, IfFound, then_found, either_found, found_is, found_weaker}

-- what a reader reads is spelled
abbrev pub IsSound : {A : Type 0} → (Spot → A → Spot → Type 0) → Reader A → Type 0
IsSound {A} Item item = (p : Spot) (x : A × Spot) → item p ≡ Some x → Item p x.0 x.1

-- it is read there, with this end
abbrev pub IsRead : {A : Type 0} → Reader A → Spot → A → Spot → Type 0
IsRead item p a q = item p ≡ Some (a, q)

-- ---- lists

-- what the reader of a list gives, behind those that were found before
abbrev pub ListedAs : {A : Type 0} → (Spot → A → Spot → Type 0) → Sign → List A → Spot → List A × Spot → Type 0
ListedAs {A} Item closing found p x = (all : List A) × (x.0 ≡ found ++ all) × Listed Item closing p all x.1

module _ {A : Type 0} (Item : Spot → A → Spot → Type 0) (item : Reader A) (closing : Sign) where
  listed_found : IsSound Item item → (turns : ℕ) (found : List A) (p : Spot) → IfFound (ListedAs Item closing found p) (listed item closing turns found p)
  unfolding listed
  listed_found h zero found p = tt
  listed_found h (suc turns) found p =
      let P = ListedAs Item closing found p in
      either_found P (after closing p) _ _ (λ q e. ([], sym (append-nil found), l.none e)) (λ _.
      then_found P (item p) _ (λ x e1. either_found P (resumed s.Comma p x.1) _ _
      (λ q e2. found_weaker (ListedAs Item closing (found ++ x.0 ∷ []) q) P _ (λ y w. (x.0 ∷ w.0, w.1 ∙ append_assoc found (x.0 ∷ []) w.0, l.more (h p x e1) e2 w.2))
      (listed_found h turns (found ++ x.0 ∷ []) q))
      (λ _. then_found P (resumed closing p x.1) _ (λ q e3. (x.0 ∷ [], refl, l.last (h p x e1) e3)))))

  -- a list that is read is spelled
  pub listed_sound : IsSound Item item → (turns : ℕ) (p : Spot) (x : List A × Spot) → listed item closing turns [] p ≡ Some x → Listed Item closing p x.0 x.1
  listed_sound h turns p x e =
      let w = found_is (ListedAs Item closing [] p) _ x (listed_found h turns [] p) e in
      subst (λ all. Listed Item closing p all x.1) (sym w.1) w.2

abbrev pub AllShorter : {A : Type 0} → (Spot → A → Spot → Type 0) → Type 0
AllShorter {A} Item = (p q : Spot) (a : A) → Item p a q → length q.tokens < length p.tokens

abbrev pub AllEnd : {A : Type 0} → (Spot → A → Spot → Type 0) → Type 0
AllEnd {A} Item = (p q : Spot) (a : A) → Item p a q → Ends p q

-- a list takes a token, and leaves as many nestings as there were
pub listed_shorter : {A : Type 0} {Item : Spot → A → Spot → Type 0} {closing : Sign} {p q : Spot} {all : List A} → AllShorter Item → Listed Item closing p all q → length q.tokens < length p.tokens
listed_shorter h (l.none {p} {q} e) = after_shorter _ p q e
listed_shorter h (l.last {p} {q} {r} {a} d e) = omega (arith, h p q a d, resumed_shorter _ p q r e)
listed_shorter h (l.more {p} {q} {r} {t} {a} d e w) = omega (arith, h p q a d, resumed_shorter _ p q r e, listed_shorter h w)

pub listed_left : {A : Type 0} {Item : Spot → A → Spot → Type 0} {closing : Sign} {p q : Spot} {all : List A} → Listed Item closing p all q → q.left ≡ p.left
listed_left (l.none {p} {q} e) = after_left _ p q e
listed_left (l.last {p} {q} {r} d e) = resumed_left _ p q r e
listed_left (l.more {p} {q} {r} d e w) = listed_left w ∙ resumed_left _ p q r e

pub listed_ends : {A : Type 0} {Item : Spot → A → Spot → Type 0} {closing : Sign} {p q : Spot} {all : List A} → AllEnd Item → Listed Item closing p all q → Ends p q
listed_ends h (l.none {p} {q} e) = after_ends _ p q e
listed_ends h (l.last {p} {q} {r} {a} d e) = ends_trans p q r (h p q a d) (resumed_ends _ p q r e)
listed_ends h (l.more {p} {q} {r} {t} {a} d e w) = ends_trans p q t (h p q a d) (ends_trans q r t (resumed_ends _ p q r e) (listed_ends h w))

-- a list of what is spelled is one of what is read, where each item is read exactly before a comma and before the closing sign
abbrev pub ReadBefore : {A : Type 0} → (Spot → A → Spot → Type 0) → Reader A → Sign → Type 0
ReadBefore {A} Item item sign = (p q r : Spot) (a : A) → Item p a q → after sign q ≡ Some r → item p ≡ Some (a, q)

pub listed_read : {A : Type 0} {Item : Spot → A → Spot → Type 0} {item : Reader A} {closing : Sign} {p q : Spot} {all : List A}
    → ReadBefore Item item s.Comma → ReadBefore Item item closing → Listed Item closing p all q → Listed (IsRead item) closing p all q
listed_read h g (l.none e) = l.none e
listed_read h g (l.last {p} {q} {r} {a} d e) = let w = resumed_is _ p q r e in l.last (g p q w.0 a d w.1) e
listed_read h g (l.more {p} {q} {r} {t} {a} d e w) = let v = resumed_is _ p q r e in l.more (h p q v.0 a d v.1) e (listed_read h g w)

module _ {A : Type 0} (item : Reader A) (closing : Sign) where
  -- an item takes a token
  abbrev pub Takes : Type 0
  Takes = (p : Spot) (x : A × Spot) → item p ≡ Some x → length x.1.tokens < length p.tokens

  -- no item begins with the closing sign
  abbrev pub BeginsOtherwise : Type 0
  BeginsOtherwise = (p q : Spot) (x : A × Spot) → after closing p ≡ Some q → item p ≡ Some x → ⊥

  -- a list of items that are read is read, behind those that were found before
  pub listed_exact : (s.Comma ≡ closing → ⊥) → BeginsOtherwise → Takes → {p q : Spot} {all : List A} → Listed (IsRead item) closing p all q
      → (turns : ℕ) → length p.tokens ≤ turns → (found : List A) → listed item closing turns found p ≡ Some (found ++ all, q)
  unfolding listed
  listed_exact ne begins takes (l.none {p} {q} e) zero le found = let never : ⊥ = omega (arith, after_shorter closing p q e) in absurd never
  listed_exact ne begins takes (l.none {p} {q} e) (suc turns) le found =
      either_is (after closing p) _ _ q e ∙ ap (λ z. Some (z, q)) (sym (append-nil found))
  listed_exact ne begins takes (l.last {p} {q} {r} {a} d e) zero le found = let never : ⊥ = omega (arith, takes p (a, q) d) in absurd never
  listed_exact ne begins takes (l.last {p} {q} {r} {a} d e) (suc turns) le found =
      either_not (after closing p) _ _ (none_of (after closing p) (λ t f. begins p t (a, q) f d)) ∙ then_is (item p) _ (a, q) d
      ∙ either_not (resumed s.Comma p q) _ _ (not_resumed closing s.Comma p q (λ f. ne (sym f)) (resumed_head closing p q r e)) ∙ then_is (resumed closing p q) _ r e
  listed_exact ne begins takes (l.more {p} {q} {r} {t} {a} {all} d e w) zero le found = let never : ⊥ = omega (arith, takes p (a, q) d) in absurd never
  listed_exact ne begins takes (l.more {p} {q} {r} {t} {a} {all} d e w) (suc turns) le found =
      either_not (after closing p) _ _ (none_of (after closing p) (λ u f. begins p u (a, q) f d)) ∙ then_is (item p) _ (a, q) d
      ∙ either_is (resumed s.Comma p q) _ _ r e
      ∙ listed_exact ne begins takes w turns (omega (arith, takes p (a, q) d, resumed_shorter s.Comma p q r e)) (found ++ a ∷ [])
      ∙ ap (λ z. Some (z, t)) (append_assoc found (a ∷ []) all)

-- ---- options

abbrev pub MaybeAs : {A : Type 0} → (Spot → Option Spot) → (Spot → A → Spot → Type 0) → Spot → Option A × Spot → Type 0
MaybeAs begins Item p x = Maybe begins Item p x.0 x.1

module _ {A : Type 0} (begins : Spot → Option Spot) (item : Reader A) where
  maybe_found : (Item : Spot → A → Spot → Type 0) → IsSound Item item → (p : Spot) → IfFound (MaybeAs begins Item p) (maybe begins item p)
  unfolding maybe
  maybe_found Item h p =
      let P = MaybeAs begins Item p in
      either_found P (begins p) _ _ (λ q e. then_found P (item q) _ (λ x e1. l.present e (h q x e1))) (λ e. l.absent e)

  pub maybe_sound : (Item : Spot → A → Spot → Type 0) → IsSound Item item → (p : Spot) (x : Option A × Spot) → maybe begins item p ≡ Some x → Maybe begins Item p x.0 x.1
  maybe_sound Item h p x e = found_is (MaybeAs begins Item p) _ x (maybe_found Item h p) e

  pub maybe_exact : {p q : Spot} {a : Option A} → Maybe begins (IsRead item) p a q → maybe begins item p ≡ Some (a, q)
  unfolding maybe
  maybe_exact (l.absent {p} e) = either_not (begins p) _ _ e
  maybe_exact (l.present {p} {q} {r} {a} e d) = either_is (begins p) _ _ q e ∙ then_is (item q) _ (a, r) d

pub maybe_falls : {A : Type 0} {begins : Spot → Option Spot} {Item : Spot → A → Spot → Type 0} {p q : Spot} {a : Option A}
    → ((p q : Spot) → begins p ≡ Some q → q.left ≤ p.left) → ((p q : Spot) (a : A) → Item p a q → q.left ≤ p.left) → Maybe begins Item p a q → q.left ≤ p.left
maybe_falls b h (l.absent e) = omega arith
maybe_falls b h (l.present {p} {q} {r} {a} e d) = omega (arith, b p q e, h q r a d)

pub maybe_left : {A : Type 0} {begins : Spot → Option Spot} {Item : Spot → A → Spot → Type 0} {p q : Spot} {a : Option A}
    → ((p q : Spot) → begins p ≡ Some q → q.left ≡ p.left) → ((p q : Spot) (a : A) → Item p a q → q.left ≡ p.left) → Maybe begins Item p a q → q.left ≡ p.left
maybe_left b h (l.absent e) = refl
maybe_left b h (l.present {p} {q} {r} {a} e d) = h q r a d ∙ b p q e

pub maybe_short : {A : Type 0} {begins : Spot → Option Spot} {Item : Spot → A → Spot → Type 0} {p q : Spot} {a : Option A}
    → ((p q : Spot) → begins p ≡ Some q → length q.tokens ≤ length p.tokens) → ((p q : Spot) (a : A) → Item p a q → length q.tokens ≤ length p.tokens)
    → Maybe begins Item p a q → length q.tokens ≤ length p.tokens
maybe_short b h (l.absent e) = omega arith
maybe_short b h (l.present {p} {q} {r} {a} e d) = omega (arith, b p q e, h q r a d)

pub maybe_ends : {A : Type 0} {begins : Spot → Option Spot} {Item : Spot → A → Spot → Type 0} {p q : Spot} {a : Option A}
    → ((p q : Spot) → begins p ≡ Some q → Ends p q) → ((p q : Spot) (a : A) → Item p a q → Ends p q) → Maybe begins Item p a q → Ends p q
maybe_ends b h (l.absent {p} e) = ends_same p
maybe_ends b h (l.present {p} {q} {r} {a} e d) = ends_trans p q r (b p q e) (h q r a d)
