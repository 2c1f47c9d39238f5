-- Cases with their blocks, one more each turn.
use Rattle.std.proofs.Common.{◌≡◌, ◌∙◌, List, [], ◌∷◌, ◌++◌, refl, ap, sym}
use Rattle.cad_declarations.specs.Typed as e
use Rattle.cad_typing.specs.StatementForms.{cases_with}

-- cases before others
abbrev pub cases_before : List e.TypedCaseTree → e.TypedCases → e.TypedCases
cases_before [] rest = rest
cases_before (c ∷ cs) rest = e.cases c.value c.body (cases_before cs rest)

cases_go_on : (done : List e.TypedCaseTree) (x : e.TypedCaseTree) (more : e.TypedCases) → cases_before done (e.cases x.value x.body more) ≡ cases_before (done ++ x ∷ []) more
cases_go_on [] x more = refl
cases_go_on (d ∷ done) x more = ap (e.cases d.value d.body) (cases_go_on done x more)

all_cases : (done : List e.TypedCaseTree) → cases_before done e.no_cases ≡ e.cases_of done
all_cases [] = refl
all_cases (d ∷ done) = ap (e.cases d.value d.body) (all_cases done)

pub case_turn : (values left : List e.TermTree) (bodies rest : List e.BlockTree) (done more : List e.TypedCaseTree) (x : e.TypedCaseTree) (whole : e.TypedCases)
    → values ≡ x.value ∷ left → bodies ≡ x.body ∷ rest → more ≡ done ++ x ∷ [] → cases_before done (cases_with values bodies) ≡ whole
    → cases_before more (cases_with left rest) ≡ whole
case_turn values left bodies rest done more x whole v b d so_far =
    ap (λ z. cases_before z (cases_with left rest)) d
    ∙ sym (cases_go_on done x (cases_with left rest))
    ∙ ap (λ z. cases_before done (cases_with (x.value ∷ left) z)) (sym b)
    ∙ ap (λ z. cases_before done (cases_with z bodies)) (sym v)
    ∙ so_far

-- no value, or no block, is left
pub no_value : (values : List e.TermTree) (bodies : List e.BlockTree) (done : List e.TypedCaseTree) (whole : e.TypedCases)
    → values ≡ [] → cases_before done (cases_with values bodies) ≡ whole → e.cases_of done ≡ whole
no_value values bodies done whole v so_far = sym (all_cases done) ∙ ap (λ z. cases_before done (cases_with z bodies)) (sym v) ∙ so_far

pub no_body : (x : e.TermTree) (values left : List e.TermTree) (bodies : List e.BlockTree) (done : List e.TypedCaseTree) (whole : e.TypedCases)
    → values ≡ x ∷ left → bodies ≡ [] → cases_before done (cases_with values bodies) ≡ whole → e.cases_of done ≡ whole
no_body x values left bodies done whole v b so_far =
    sym (all_cases done)
    ∙ ap (λ z. cases_before done (cases_with (x ∷ left) z)) (sym b)
    ∙ ap (λ z. cases_before done (cases_with z bodies)) (sym v)
    ∙ so_far
