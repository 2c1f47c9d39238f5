-- What the machine answers of fields, and rows of fields that are to be set.
use Rattle.std.specs.Prelude.{ℕ, ◌+◌, ◌<◌, Option, Some, None, option_map, List, [], ◌∷◌, length}
use Rattle.std.proofs.Common.{◌≡◌, ◌∙◌, refl, sym, ap, subst, drop, get_or, add-one, drop-cons}
use Rattle.cad_paths.specs.declared.letter.FieldRule.{FieldRule}
use Rattle.cad_paths.specs.declared.letter.Position.{Position}
use Rattle.cad_paths.specs.Paths.{PathBody, scope}
use Rattle.cad_paths.specs.Bodies.{unset_fields}
use Rattle.cad_paths.specs.Initialisation.{InitialisationOf}
use Rattle.cad_moves.specs.declared.misuse.Misuse.{Misuse}
use Rattle.cad_moves.specs.declared.state.Rules.TheVariants.{Fields}
use Rattle.cad_moves.specs.Code.Firsts.{first_of}
use Rattle.cad_moves.specs.Code.Machine.{Verdict}
use Rattle.cad_moves.specs.Code.Rows.{row_over}
use Rattle.cad_moves.specs.Views.{PathItem, named, offence_of}
use Rattle.cad_moves.proofs.Firsts.{exact}
use Rattle.cad_moves.proofs.Settings.{initialisation_by}
use Rattle.cad_pure.specs.Views.{place_of}

judged : (b : PathBody) (m : Option Misuse) → Verdict Fields b (option_map offence_of m) → InitialisationOf b (place_of m)
judged b None v = initialisation_by b None v
judged b (Some m) v = initialisation_by b (Some (offence_of m)) v

-- what the search finds is the first position
pub answer_is : (b c : PathBody) (m : Option Misuse) (at : Option Position) → b ≡ c → option_map offence_of m ≡ first_of Fields b → at ≡ place_of m → InitialisationOf c at
answer_is b c m at e d p =
    subst (λ z. InitialisationOf z at) e
    (subst (InitialisationOf b) (sym p)
    (judged b m (subst (Verdict Fields b) (sym d) (exact Fields b))))

-- one more field is declared
pub unset_step : (fs : List FieldRule) (i : ℕ) (f : FieldRule) (at : Position) (inner : PathBody) → i < length fs → f ≡ get_or fs i f → (row : List PathItem) (whole : PathBody)
    → row_over row (unset_fields i (drop i fs) at inner) ≡ whole → row_over row (scope (named i f.name) at (unset_fields (i + 1) (drop (i + 1) fs) at inner)) ≡ whole
unset_step fs i f at inner h is row whole k =
    let split : drop i fs ≡ f ∷ drop (i + 1) fs = (let p : drop i fs ≡ get_or fs i f ∷ drop (i + 1) fs = rw (add-one, drop-cons fs i f) refl in p) ∙ ap (λ z. z ∷ drop (i + 1) fs) (sym is) in
    ap (λ z. row_over row (unset_fields i z at inner)) (sym split) ∙ k
