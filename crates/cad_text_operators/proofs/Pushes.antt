-- Texts that are appended one behind the other.
use Rattle.std.proofs.Common.{◌≡◌, ◌-◌, ◌≤◌, ℕ, List, [], ◌∷◌, ◌++◌, length, get_or, take, drop, Result, Ok, Err, OnOk, ap, sym, ◌∙◌, arith, append_assoc, append-nil}
use Rattle.std.proofs.lemmas.List.{take_rest}
use Rattle.cad_syntax.specs.TypeIds.{type_text}
use Rattle.cad_syntax.specs.declared.type_id.TypeId.{TypeId}
use Rattle.cad_evaluation.specs.TypeTexts.{listed}
use Rattle.cad_text_operators.specs.Identifiers.{more}

pub two_pushed : (old middle new a b : List ℕ) → middle ≡ old ++ a → new ≡ middle ++ b → new ≡ old ++ (a ++ b)
two_pushed old middle new a b e f = f ∙ ap (λ (x : List ℕ). x ++ b) e ∙ append_assoc old a b

pub three_pushed : (old first second new a b c : List ℕ) → first ≡ old ++ a → second ≡ first ++ b → new ≡ second ++ c → new ≡ old ++ (a ++ b ++ c)
three_pushed old first second new a b c e f g = two_pushed old second new (a ++ b) c (two_pushed old first second a b e f) g

pub listed_more : (separator : List ℕ) (id : TypeId) (ids : List TypeId) → listed separator (id ∷ ids) ≡ type_text id ++ more separator ids
listed_more separator id [] = sym (append-nil (type_text id))
listed_more separator id (other ∷ ids) =
    ap (λ (x : List ℕ). (type_text id ++ separator) ++ x) (listed_more separator other ids)
    ∙ append_assoc (type_text id) separator (type_text other ++ more separator ids)
    ∙ ap (λ (x : List ℕ). type_text id ++ x) (sym (append_assoc separator (type_text other) (more separator ids)))

pub pushed_more : (text new : List ℕ) (separator : List ℕ) (id : TypeId) (ids : List TypeId) (all : List ℕ) → new ≡ text ++ (separator ++ type_text id) → text ++ more separator (id ∷ ids) ≡ all → new ++ more separator ids ≡ all
pushed_more text new separator id ids all e h = ap (λ (x : List ℕ). x ++ more separator ids) e ∙ append_assoc text (separator ++ type_text id) (more separator ids) ∙ h

listed_split : (separator : List ℕ) (ids : List TypeId) (x : TypeId) → 1 ≤ length ids → x ≡ get_or ids 0 x → listed separator ids ≡ type_text x ++ more separator (take (length ids - 1) (drop 1 ids))
listed_split separator [] x h e = absurd (omega arith)
listed_split separator (y ∷ ys) x h e =
    listed_more separator y ys ∙ ap (λ (z : TypeId). type_text z ++ more separator ys) (sym e)
    ∙ ap (λ (zs : List TypeId). type_text x ++ more separator zs) (sym (take_rest (y ∷ ys) 1))

-- the first identifier is written, and then the others
pub listed_pushed : {A E : Type 0} (r : Result A E) (old middle new separator : List ℕ) (ids : List TypeId) (x : TypeId) → 1 ≤ length ids → x ≡ get_or ids 0 x → middle ≡ old ++ type_text x
    → OnOk r (new ≡ middle ++ more separator (take (length ids - 1) (drop 1 ids))) → OnOk r (new ≡ old ++ listed separator ids)
listed_pushed (Err error) old middle new separator ids x h e f g = g
listed_pushed (Ok a) old middle new separator ids x h e f g =
    two_pushed old middle new (type_text x) (more separator (take (length ids - 1) (drop 1 ids))) f g ∙ ap (λ (z : List ℕ). old ++ z) (sym (listed_split separator ids x h e))
