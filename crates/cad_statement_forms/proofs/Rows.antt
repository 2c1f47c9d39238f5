-- Turns over the values of cases.
use Rattle.std.proofs.Common.{◌≡◌, ◌∙◌, ℕ, ◌+◌, ◌<◌, ◌≤◌, List, [], ◌∷◌, ◌++◌, length, drop, get_or, map, refl, ap, sym, append_assoc}
use Rattle.std.specs.Prelude.{Option, Some, None, option_map}
use Rattle.std.proofs.lemmas.List.{append-nil, drop_all}
use Rattle.cad_syntax.specs.Types.{PureType}
use Rattle.cad_grammar.specs.Trees as t
use Rattle.cad_grammar.specs.Views.{case_of}
use Rattle.cad_grammar.specs.declared.statement.Case.{Case}
use Rattle.cad_declarations.specs.Typed as e
use Rattle.cad_typing.specs.Environments.{Environment, Typing, ◌>=>◌}
use Rattle.cad_typing.specs.StatementForms.{infer_case, infer_cases}
use Rattle.cad_statement_parts.proofs.Sums.{cases_at}
use Rattle.cad_statement_forms.specs.Views.{terms_before}

abbrev pub cases_from : List Case → ℕ → t.Cases
cases_from cs i = t.cases_of (map case_of (drop i cs))

terms_go_on : (done : List e.TermTree) (x : e.TermTree) (more : Option (List e.TermTree)) → terms_before done (more >=> (λ ys. Some (x ∷ ys))) ≡ terms_before (done ++ x ∷ []) more
terms_go_on done x None = refl
terms_go_on done x (Some ys) = ap Some (sym (append_assoc done (x ∷ []) ys))

pub no_terms_before : (done : List e.TermTree) (r : Option (List e.TermTree)) → done ≡ [] → terms_before done r ≡ r
no_terms_before done None none = refl
no_terms_before done (Some xs) none = ap (λ z. Some (z ++ xs)) none

pub value_turn : (env : Environment) (a : t.ExprTree) (u : PureType) (cs : List Case) (i : ℕ) (c : Case) → i < length cs → c ≡ get_or cs i c
    → (y : Typing) (done more : List e.TermTree) (whole : Option (List e.TermTree))
    → Some y ≡ infer_case env a u (case_of c).value → more ≡ done ++ y.term ∷ []
    → terms_before done (infer_cases env a u (cases_from cs i)) ≡ whole → terms_before more (infer_cases env a u (cases_from cs (i + 1))) ≡ whole
value_turn env a u cs i c h at y done more whole is d so_far =
    ap (λ z. terms_before z (infer_cases env a u (cases_from cs (i + 1)))) d
    ∙ sym (terms_go_on done y.term (infer_cases env a u (cases_from cs (i + 1))))
    ∙ ap (λ o. terms_before done (o >=> (λ z. infer_cases env a u (cases_from cs (i + 1)) >=> (λ zs. Some (z.term ∷ zs))))) is
    ∙ ap (λ z. terms_before done (infer_cases env a u z)) (sym (cases_at cs i c h at))
    ∙ so_far

pub value_stops : (env : Environment) (a : t.ExprTree) (u : PureType) (cs : List Case) (i : ℕ) (c : Case) → i < length cs → c ≡ get_or cs i c
    → (done : List e.TermTree) (whole : Option (List e.TermTree))
    → None ≡ infer_case env a u (case_of c).value → terms_before done (infer_cases env a u (cases_from cs i)) ≡ whole → None ≡ whole
value_stops env a u cs i c h at done whole is so_far =
    ap (λ o. terms_before done (o >=> (λ z. infer_cases env a u (cases_from cs (i + 1)) >=> (λ zs. Some (z.term ∷ zs))))) is
    ∙ ap (λ z. terms_before done (infer_cases env a u z)) (sym (cases_at cs i c h at))
    ∙ so_far

pub values_end : (env : Environment) (a : t.ExprTree) (u : PureType) (cs : List Case) (i : ℕ) (done : List e.TermTree) (whole : Option (List e.TermTree))
    → length cs ≤ i → terms_before done (infer_cases env a u (cases_from cs i)) ≡ whole → Some done ≡ whole
values_end env a u cs i done whole h so_far =
    ap Some (sym (append-nil done))
    ∙ ap (λ z. terms_before done (infer_cases env a u (t.cases_of (map case_of z)))) (sym (drop_all i cs h))
    ∙ so_far

-- ---- the content of a part

pub made_of_part : {A B C : Type 0} (m : Option A) (f : A → B) (g : B → C) (y : B) → Some y ≡ option_map f m → Some (g y) ≡ (m >=> (λ t. Some (g (f t))))
made_of_part None f g y is = cc
made_of_part (Some t) f g y is = ap (option_map g) is

pub none_of_part : {A B C : Type 0} (m : Option A) (f : A → B) (g : B → C) → None ≡ option_map f m → None ≡ (m >=> (λ t. Some (g (f t))))
none_of_part None f g is = refl
none_of_part (Some t) f g is = cc
