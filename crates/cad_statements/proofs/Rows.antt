-- Turns over conditions and over what stands under `before`.
use Rattle.std.proofs.Common.{◌≡◌, ◌∙◌, ℕ, suc, ◌+◌, ◌<◌, ◌≤◌, List, [], ◌∷◌, ◌++◌, length, drop, get_or, map, refl, ap, sym, add-one, append_assoc, drop-cons}
use Rattle.std.specs.Borrow.{Bor}
use Rattle.std.specs.Prelude.{Option, Some, None, Result, Ok, Err, ok_or}
use Rattle.std.specs.List.{cons_option, filter_map}
use Rattle.std.proofs.lemmas.List.{append-nil, drop_all}
use Rattle.cad_grammar.specs.Views.{condition_of, expr_of}
use Rattle.cad_grammar.specs.declared.expression.Expr.{Expr}
use Rattle.cad_grammar.specs.declared.declaration.Condition.{Condition}
use Rattle.cad_declarations.specs.Typed as e
use Rattle.cad_typing.specs.Conditions.{befores_of_condition, behind_condition, condition, type_conditions, value_at_entry, values_at_entry}
use Rattle.cad_typing.specs.Environments.{Environment}
use Rattle.cad_typing.specs.Statements.{◌>>=◌}
use Rattle.cad_statement_parts.proofs.Rows.{cons_at}
use Rattle.cad_statements.specs.Rows.{row_before}
use Rattle.cad_statements.proofs.Turns.{row_goes_on}

-- ---- conditions

pub condition_turn : (env : Environment) (n : ℕ) (cs : List Condition) (i : ℕ) (c : Condition) → i < length cs → c ≡ get_or cs i c
    → (x : e.ConditionBody) (done more : List e.ConditionBody) (behind : Environment) (next : ℕ) (whole : Result (List e.ConditionBody) ℕ)
    → Some x ≡ condition env n (condition_of c) → more ≡ done ++ x ∷ [] → behind ≡ behind_condition (condition_of c) env → next ≡ suc n
    → row_before done (type_conditions env n (map condition_of (drop i cs))) ≡ whole
    → row_before more (type_conditions behind next (map condition_of (drop (i + 1) cs))) ≡ whole
condition_turn env n cs i c h at x done more behind next whole is d g m so_far =
    ap (λ z. row_before z (type_conditions behind next (map condition_of (drop (i + 1) cs)))) d
    ∙ ap (λ z. row_before (done ++ x ∷ []) (type_conditions z next (map condition_of (drop (i + 1) cs)))) g
    ∙ ap (λ z. row_before (done ++ x ∷ []) (type_conditions (behind_condition (condition_of c) env) z (map condition_of (drop (i + 1) cs)))) m
    ∙ sym (row_goes_on done x (type_conditions (behind_condition (condition_of c) env) (suc n) (map condition_of (drop (i + 1) cs))))
    ∙ ap (λ o. row_before done (ok_or o n >>= (λ y. type_conditions (behind_condition (condition_of c) env) (suc n) (map condition_of (drop (i + 1) cs)) >>= (λ ys. Ok (y ∷ ys))))) is
    ∙ ap (λ z. row_before done (type_conditions env n (map condition_of z))) (sym (cons_at cs i c h at))
    ∙ so_far

pub condition_stops : (env : Environment) (n : ℕ) (cs : List Condition) (i : ℕ) (c : Condition) → i < length cs → c ≡ get_or cs i c
    → (done : List e.ConditionBody) (whole : Result (List e.ConditionBody) ℕ)
    → None ≡ condition env n (condition_of c) → row_before done (type_conditions env n (map condition_of (drop i cs))) ≡ whole → Err n ≡ whole
condition_stops env n cs i c h at done whole is so_far =
    ap (λ o. row_before done (ok_or o n >>= (λ y. type_conditions (behind_condition (condition_of c) env) (suc n) (map condition_of (drop (i + 1) cs)) >>= (λ ys. Ok (y ∷ ys))))) is
    ∙ ap (λ z. row_before done (type_conditions env n (map condition_of z))) (sym (cons_at cs i c h at))
    ∙ so_far

pub conditions_end : (env : Environment) (n : ℕ) (cs : List Condition) (i : ℕ) (done : List e.ConditionBody) (whole : Result (List e.ConditionBody) ℕ)
    → length cs ≤ i → row_before done (type_conditions env n (map condition_of (drop i cs))) ≡ whole → Ok done ≡ whole
conditions_end env n cs i done whole h so_far =
    ap Ok (sym (append-nil done))
    ∙ ap (λ z. row_before done (type_conditions env n (map condition_of z))) (sym (drop_all i cs h))
    ∙ so_far

-- ---- values at entry

one_found : (done : List e.BeforeTree) (o : Option e.BeforeTree) (rest : List e.BeforeTree) → (done ++ cons_option o []) ++ rest ≡ done ++ cons_option o rest
one_found done None rest = ap (λ z. z ++ rest) (append-nil done)
one_found done (Some x) rest = append_assoc done (x ∷ []) rest

pub found_turn : (env : Environment) (n : ℕ) (es : List (Bor Expr)) (i : ℕ) (d : Bor Expr) → i < length es
    → (done more whole : List e.BeforeTree)
    → more ≡ done ++ filter_map (value_at_entry env n) (expr_of (get_or es i d).now ∷ [])
    → done ++ filter_map (value_at_entry env n) (map (λ z. expr_of z.now) (drop i es)) ≡ whole
    → more ++ filter_map (value_at_entry env n) (map (λ z. expr_of z.now) (drop (i + 1) es)) ≡ whole
found_turn env n es i d h done more whole push so_far =
    let split : drop i es ≡ get_or es i d ∷ drop (i + 1) es = rw (add-one, drop-cons es i d) refl in
    ap (λ z. z ++ filter_map (value_at_entry env n) (map (λ z. expr_of z.now) (drop (i + 1) es))) push
    ∙ one_found done (value_at_entry env n (expr_of (get_or es i d).now)) (filter_map (value_at_entry env n) (map (λ z. expr_of z.now) (drop (i + 1) es)))
    ∙ ap (λ z. done ++ filter_map (value_at_entry env n) (map (λ z. expr_of z.now) z)) (sym split)
    ∙ so_far

pub found_end : (env : Environment) (n : ℕ) (es : List (Bor Expr)) (i : ℕ) (done whole : List e.BeforeTree)
    → length es ≤ i → done ++ filter_map (value_at_entry env n) (map (λ z. expr_of z.now) (drop i es)) ≡ whole → done ≡ whole
found_end env n es i done whole h so_far =
    sym (append-nil done) ∙ ap (λ z. done ++ filter_map (value_at_entry env n) (map (λ z. expr_of z.now) z)) (sym (drop_all i es h)) ∙ so_far

pub entry_turn : (env : Environment) (n : ℕ) (cs : List Condition) (i : ℕ) (c : Condition) → i < length cs → c ≡ get_or cs i c
    → (done more : List e.BeforeTree) (next : ℕ) (whole : List e.BeforeTree)
    → more ≡ done ++ filter_map (value_at_entry env n) (befores_of_condition (condition_of c)) → next ≡ suc n
    → done ++ values_at_entry env n (map condition_of (drop i cs)) ≡ whole → more ++ values_at_entry env next (map condition_of (drop (i + 1) cs)) ≡ whole
entry_turn env n cs i c h at done more next whole d m so_far =
    ap (λ z. z ++ values_at_entry env next (map condition_of (drop (i + 1) cs))) d
    ∙ ap (λ z. (done ++ filter_map (value_at_entry env n) (befores_of_condition (condition_of c))) ++ values_at_entry env z (map condition_of (drop (i + 1) cs))) m
    ∙ append_assoc done (filter_map (value_at_entry env n) (befores_of_condition (condition_of c))) (values_at_entry env (suc n) (map condition_of (drop (i + 1) cs)))
    ∙ ap (λ z. done ++ values_at_entry env n (map condition_of z)) (sym (cons_at cs i c h at))
    ∙ so_far

pub entries_end : (env : Environment) (n : ℕ) (cs : List Condition) (i : ℕ) (done whole : List e.BeforeTree)
    → length cs ≤ i → done ++ values_at_entry env n (map condition_of (drop i cs)) ≡ whole → done ≡ whole
entries_end env n cs i done whole h so_far =
    sym (append-nil done) ∙ ap (λ z. done ++ values_at_entry env n (map condition_of z)) (sym (drop_all i cs h)) ∙ so_far
