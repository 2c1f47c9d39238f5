-- What is found in sources.
use Rattle.std.proofs.Common.{◌≡◌, refl, sym, ap, ◌∙◌, subst, true, false, Option, Some, None, MatchOption, List, [], ◌∷◌, ◌++◌, filter_map, option_to_list}
use Rattle.std.proofs.lemmas.Bool.{false≢true}
use Rattle.std.specs.Option.{option_or, is_some}
use Rattle.std.specs.List.{cons_option}
use Rattle.cad_declarations.specs.Typed.{TypeBody}
use Rattle.cad_evaluation.specs.Bodies as spec
use Rattle.cad_function_sources.specs.Sources as view
use Rattle.cad_function_sources.specs.declared.sources.Source.{Source}
use Rattle.cad_syntax.specs.declared.text.Name.{Name}
use Rattle.cad_syntax.specs.declared.type_id.TypeId.{TypeId}

-- the first of several that is there

pub there : {A : Type 0} (o rest whole : Option A) → is_some o ≡ true → option_or o rest ≡ whole → o ≡ whole
there (Some a) rest whole is e = e
there None rest whole is e = absurd (false≢true is)

pub further : {A : Type 0} (o rest whole : Option A) → is_some o ≡ false → option_or o rest ≡ whole → rest ≡ whole
further None rest whole is e = e
further (Some a) rest whole is e = absurd (false≢true (sym is))

-- what one more item adds
pub added : {A B : Type 0} (f : A → Option B) (xs : List A) (x : A) (o : Option B) → f x ≡ o → filter_map f (xs ++ x ∷ []) ≡ filter_map f xs ++ option_to_list o
added f [] x None is = rw is refl
added f [] x (Some y) is = rw is refl
added {A = A} {B = B} f (z ∷ zs) x o is =
    elim (f z) as (λ p. cons_option p (filter_map f (zs ++ x ∷ [])) ≡ cons_option p (filter_map f zs) ++ option_to_list o)
    [ None ↦ added f zs x o is | Some y ↦ ap (λ l. y ∷ l) (added f zs x o is) ]

-- a source has what the state has
pub own_of : (name : Name) (id : TypeId) (o : Option Source) (bodies : Option TypeBody) (x : Source) → o ≡ Some x
    → MatchOption o (bodies ≡ None) (λ y. (y.id ≡ id) × (view.bodies_in y ≡ bodies)) → spec.piece_in x.id name (view.bodies_in x) ≡ spec.piece_in id name bodies
own_of name id o bodies x is found =
    let h = subst (λ (p : Option Source). MatchOption p (bodies ≡ None) (λ y. (y.id ≡ id) × (view.bodies_in y ≡ bodies))) is found in
    ap (λ i. spec.piece_in i name (view.bodies_in x)) h.0 ∙ ap (λ b. spec.piece_in id name b) h.1
