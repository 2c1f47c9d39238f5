-- Turns of the loops that make rows.
use Rattle.std.proofs.Common.{◌≡◌, ℕ, ◌+◌, ◌<◌, List, [], ◌∷◌, ◌++◌, length, drop, get_or, refl, sym, ◌∙◌, ap, map, arith, if◌then◌else◌, Bool, true, add-one, drop-cons}
use Rattle.cad_declarations.specs.Typed.{VariableEntry, terms_of, arguments_of, entries_of, statements_of, cases_of}
use Rattle.cad_declarations.specs.Views.{term_of, argument_of, pair_of, statement_of, case_of, condition_of, before_of, variable_of}
use Rattle.cad_declarations.specs.declared.body.TypedCondition.{TypedCondition}
use Rattle.cad_declarations.specs.declared.body.TypedBefore.{TypedBefore}
use Rattle.cad_declarations.specs.declared.statement.Variable.{Variable}
use Rattle.cad_declarations.specs.declared.term.Term.{Term}
use Rattle.cad_declarations.specs.declared.term.Argument.{Argument}
use Rattle.cad_declarations.specs.declared.term.TermEntry.{TermEntry}
use Rattle.cad_declarations.specs.declared.statement.TypedStatement.{TypedStatement}
use Rattle.cad_declarations.specs.declared.statement.TypedCase.{TypedCase}
use Rattle.cad_paths.specs.declared.letter.BodyPart.{BodyPart}
use Rattle.cad_paths.specs.declared.letter.FieldRule.{FieldRule}
use Rattle.cad_paths.specs.declared.letter.Letter.TheVariants.{Need}
use Rattle.cad_paths.specs.declared.letter.Position.{Position}
use Rattle.cad_paths.specs.Paths.{PathBody, spell, seq, either, scope}
use Rattle.cad_paths.specs.Letters.{Reading, resources, all_needed, term_letters, terms_letters, arguments_letters, entries_letters}
use Rattle.cad_paths.specs.Bodies.{position, path_variable, is_scope, declared, statement_letters, statements_letters, scope_behind, block_letters, cases_letters, condition_letters, conditions_letters, before_value, before_letters, from_start}
use Rattle.cad_moves.specs.Views.{PathItem, placed, item_of}
use Rattle.cad_moves.specs.Code.Rows.{row_over}
use Rattle.cad_moves.specs.declared.body.Item.{Item}
use Rattle.cad_moves.proofs.Rows.{over_push}

-- what stands at an index, before the rest
cons_at : {A : Type 0} (es : List A) (i : ℕ) (e : A) → i < length es → e ≡ get_or es i e → drop i es ≡ e ∷ drop (i + 1) es
cons_at es i e h is = (let p : drop i es ≡ get_or es i e ∷ drop (i + 1) es = rw (add-one, drop-cons es i e) refl in p) ∙ ap (λ z. z ∷ drop (i + 1) es) (sym is)

pub push_step : (old new : List Item) (x : Item) (p : PathItem) (rest : PathBody) → new ≡ old ++ (x ∷ []) → item_of x ≡ p → row_over (map item_of new) rest ≡ row_over (map item_of old) (placed p rest)
push_step old new x p rest e d = ap (λ z. row_over (map item_of z) rest) e ∙ over_push old x rest ∙ ap (λ z. row_over (map item_of old) (placed z rest)) d

field_at : (fs : List FieldRule) (i : ℕ) → i < length fs → (e : FieldRule) × (drop i fs ≡ e ∷ drop (i + 1) fs)
field_at [] i h = absurd (omega arith)
field_at (f ∷ fs) i h = (get_or (f ∷ fs) i f, rw (add-one, drop-cons (f ∷ fs) i f) refl)

pub scope_step : (r : Reading) (v : VariableEntry) (at : Position) (rest : PathBody) → is_scope r v ≡ true → scope (path_variable v) at rest ≡ declared r v at rest
scope_step r v at rest e = ap (λ b. if b then scope (path_variable v) at rest else rest) (sym e)

pub needed_step : (fs : List FieldRule) (i : ℕ) (at : Position) → i < length fs → (row : List PathItem) (b whole : PathBody) → b ≡ spell i Need at
    → row_over row (all_needed i (drop i fs) at) ≡ whole → row_over row (seq b (all_needed (i + 1) (drop (i + 1) fs) at)) ≡ whole
needed_step fs i at h row b whole d k =
    ap (λ z. row_over row (seq z (all_needed (i + 1) (drop (i + 1) fs) at))) d ∙ ap (row_over row) (sym (ap (λ z. all_needed i z at) (field_at fs i h).1)) ∙ k

pub terms_step : (r : Reading) (at : Position) (es : List Term) (i : ℕ) (e : Term) → i < length es → e ≡ get_or es i e → (row : List PathItem) (b whole : PathBody) → b ≡ term_letters r at (term_of e)
    → row_over row (terms_letters r at (terms_of (map term_of (drop i es)))) ≡ whole → row_over row (seq b (terms_letters r at (terms_of (map term_of (drop (i + 1) es))))) ≡ whole
terms_step r at es i e h is row b whole d k =
    ap (λ z. row_over row (seq z (terms_letters r at (terms_of (map term_of (drop (i + 1) es)))))) d
    ∙ ap (λ z. row_over row (terms_letters r at (terms_of (map term_of z)))) (sym (cons_at es i e h is)) ∙ k

pub arguments_step : (r : Reading) (at : Position) (es : List Argument) (i : ℕ) (e : Argument) → i < length es → e ≡ get_or es i e → (row : List PathItem) (b whole : PathBody) → b ≡ term_letters r at (argument_of e).value
    → row_over row (arguments_letters r at (arguments_of (map argument_of (drop i es)))) ≡ whole → row_over row (seq b (arguments_letters r at (arguments_of (map argument_of (drop (i + 1) es))))) ≡ whole
arguments_step r at es i e h is row b whole d k =
    ap (λ z. row_over row (seq z (arguments_letters r at (arguments_of (map argument_of (drop (i + 1) es)))))) d
    ∙ ap (λ z. row_over row (arguments_letters r at (arguments_of (map argument_of z)))) (sym (cons_at es i e h is)) ∙ k

pub entries_step : (r : Reading) (at : Position) (es : List TermEntry) (i : ℕ) (e : TermEntry) → i < length es → e ≡ get_or es i e → (row : List PathItem) (a b whole : PathBody)
    → a ≡ term_letters r at (pair_of e).key → b ≡ term_letters r at (pair_of e).value
    → row_over row (entries_letters r at (entries_of (map pair_of (drop i es)))) ≡ whole → row_over row (seq a (seq b (entries_letters r at (entries_of (map pair_of (drop (i + 1) es)))))) ≡ whole
entries_step r at es i e h is row a b whole c d k =
    ap (λ z. row_over row (seq z (seq b (entries_letters r at (entries_of (map pair_of (drop (i + 1) es))))))) c
    ∙ ap (λ z. row_over row (seq (term_letters r at (pair_of e).key) (seq z (entries_letters r at (entries_of (map pair_of (drop (i + 1) es))))))) d
    ∙ ap (λ z. row_over row (entries_letters r at (entries_of (map pair_of z)))) (sym (cons_at es i e h is)) ∙ k

pub statements_step : (r : Reading) (part : BodyPart) (es : List TypedStatement) (i : ℕ) (e : TypedStatement) → i < length es → e ≡ get_or es i e → (row : List PathItem) (b whole : PathBody)
    → b ≡ statement_letters r part (statement_of e)
    → row_over row (statements_letters r part (statements_of (map statement_of (drop i es)))) ≡ whole
    → row_over row (seq b (scope_behind r part (statement_of e) (statements_letters r part (statements_of (map statement_of (drop (i + 1) es)))))) ≡ whole
statements_step r part es i e h is row b whole d k =
    ap (λ z. row_over row (seq z (scope_behind r part (statement_of e) (statements_letters r part (statements_of (map statement_of (drop (i + 1) es))))))) d
    ∙ ap (λ z. row_over row (statements_letters r part (statements_of (map statement_of z)))) (sym (cons_at es i e h is)) ∙ k

pub cases_step : (r : Reading) (part : BodyPart) (n : ℕ) (es : List TypedCase) (otherwise : PathBody) (i : ℕ) (e : TypedCase) → i < length es → e ≡ get_or es i e → (row : List PathItem) (a b whole : PathBody)
    → a ≡ term_letters r (position part n) (case_of e).value → b ≡ block_letters r part (case_of e).body
    → row_over row (cases_letters r part n (cases_of (map case_of (drop i es))) otherwise) ≡ whole
    → row_over row (seq a (either b (cases_letters r part n (cases_of (map case_of (drop (i + 1) es))) otherwise))) ≡ whole
cases_step r part n es otherwise i e h is row a b whole c d k =
    ap (λ z. row_over row (seq z (either b (cases_letters r part n (cases_of (map case_of (drop (i + 1) es))) otherwise)))) c
    ∙ ap (λ z. row_over row (seq (term_letters r (position part n) (case_of e).value) (either z (cases_letters r part n (cases_of (map case_of (drop (i + 1) es))) otherwise)))) d
    ∙ ap (λ z. row_over row (cases_letters r part n (cases_of (map case_of z)) otherwise)) (sym (cons_at es i e h is)) ∙ k

pub conditions_step : (r : Reading) (part : BodyPart) (es : List TypedCondition) (i : ℕ) (e : TypedCondition) → i < length es → e ≡ get_or es i e → (row : List PathItem) (b whole : PathBody)
    → b ≡ condition_letters r part (condition_of e)
    → row_over row (conditions_letters r part (map condition_of (drop i es))) ≡ whole → row_over row (seq b (conditions_letters r part (map condition_of (drop (i + 1) es)))) ≡ whole
conditions_step r part es i e h is row b whole d k =
    ap (λ z. row_over row (seq z (conditions_letters r part (map condition_of (drop (i + 1) es))))) d
    ∙ ap (λ z. row_over row (conditions_letters r part (map condition_of z))) (sym (cons_at es i e h is)) ∙ k

pub before_step : (r : Reading) (part : BodyPart) (es : List TypedBefore) (i : ℕ) (e : TypedBefore) → i < length es → e ≡ get_or es i e → (row : List PathItem) (b whole : PathBody)
    → b ≡ before_value r part (before_of e)
    → row_over row (before_letters r part (map before_of (drop i es))) ≡ whole → row_over row (seq b (before_letters r part (map before_of (drop (i + 1) es)))) ≡ whole
before_step r part es i e h is row b whole d k =
    ap (λ z. row_over row (seq z (before_letters r part (map before_of (drop (i + 1) es))))) d
    ∙ ap (λ z. row_over row (before_letters r part (map before_of z))) (sym (cons_at es i e h is)) ∙ k

pub start_step : (es : List Variable) (at : Position) (a : PathBody) (i : ℕ) (e : Variable) → i < length es → e ≡ get_or es i e → (row : List PathItem) (whole : PathBody)
    → row_over row (from_start (map variable_of (drop i es)) at a) ≡ whole
    → row_over row (declared resources (variable_of e) at (from_start (map variable_of (drop (i + 1) es)) at a)) ≡ whole
start_step es at a i e h is row whole k = ap (λ z. row_over row (from_start (map variable_of z) at a)) (sym (cons_at es i e h is)) ∙ k

pub start_on : (row : List PathItem) (q : Reading) (v : VariableEntry) (at : Position) (rest : PathBody) → q ≡ resources → row_over row (declared q v at rest) ≡ row_over row (declared resources v at rest)
start_on row q v at rest e = ap (λ z. row_over row (declared z v at rest)) e
