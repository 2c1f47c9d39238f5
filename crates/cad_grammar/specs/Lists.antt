-- Lists and options of any production, by the relation of what stands in them.
use Rattle.std.specs.Prelude.{◌≡◌, List, [], ◌∷◌, Option, Some, None}
use Rattle.cad_grammar.specs.declared.token.Sign.{Sign}
use Rattle.cad_grammar.specs.declared.token.Sign.TheVariants as s
use Rattle.cad_grammar.specs.Spots.{Spot, after, resumed}

-- items with commas between them, up to the closing sign; one more comma may stand before it
pub data Listed {A : Type 0} (Item : Spot → A → Spot → Type 0) (closing : Sign) : Spot → List A → Spot → Type 0 where
  none : {p q : Spot} → after closing p ≡ Some q → Listed Item closing p [] q
  last : {p q r : Spot} {a : A} → Item p a q → resumed closing p q ≡ Some r → Listed Item closing p (a ∷ []) r
  more : {p q r t : Spot} {a : A} {all : List A} → Item p a q → resumed s.Comma p q ≡ Some r → Listed Item closing r all t → Listed Item closing p (a ∷ all) t

-- items one after another, up to the closing sign
pub data Repeated {A : Type 0} (Item : Spot → A → Spot → Type 0) (closing : Sign) : Spot → List A → Spot → Type 0 where
  done : {p q : Spot} → after closing p ≡ Some q → Repeated Item closing p [] q
  again : {p q r : Spot} {a : A} {all : List A} → Item p a q → Repeated Item closing q all r → Repeated Item closing p (a ∷ all) r

-- an item, where what stands before it comes next
pub data Maybe {A : Type 0} (begins : Spot → Option Spot) (Item : Spot → A → Spot → Type 0) : Spot → Option A → Spot → Type 0 where
  absent : {p : Spot} → begins p ≡ None → Maybe begins Item p None p
  present : {p q r : Spot} {a : A} → begins p ≡ Some q → Item q a r → Maybe begins Item p (Some a) r
