-- Turns over the fields of a transaction.
use Rattle.std.proofs.Common.{◌≡◌, ◌∙◌, ℕ, suc, ◌+◌, ◌<◌, ◌≤◌, List, [], ◌∷◌, ◌++◌, length, drop, get_or, map, refl, ap, sym, append_assoc, add-one, drop-cons, arith}
use Rattle.std.proofs.lemmas.List.{append-nil, drop_all}
use Rattle.cad_grammar.specs.Views.{transaction_field_of}
use Rattle.cad_grammar.specs.declared.declaration.TransactionField.{TransactionField}
use Rattle.cad_declarations.specs.Entries.{type_entry}
use Rattle.cad_declarations.specs.Scopes.{Scope}
use Rattle.cad_environment.specs.Views.{local_of}
use Rattle.cad_environment.specs.declared.local.Local.{Local as Variable_in_scope}
use Rattle.cad_typing.specs.Environments.{Local}
use Rattle.cad_typing.specs.Locals.{is_var_word}
use Rattle.cad_typing.specs.Transactions.{field_locals}

-- what stands at an index, before the rest
cons_at : {A : Type 0} (es : List A) (i : ℕ) (x : A) → i < length es → x ≡ get_or es i x → drop i es ≡ x ∷ drop (i + 1) es
cons_at es i x h is = (let p : drop i es ≡ get_or es i x ∷ drop (i + 1) es = rw (add-one, drop-cons es i x) refl in p) ∙ ap (λ z. z ∷ drop (i + 1) es) (sym is)

-- one more in front of what comes
one_more : {A : Type 0} (done more : List A) (x : A) (rest all whole : List A) → more ≡ done ++ x ∷ [] → all ≡ x ∷ rest → done ++ all ≡ whole → more ++ rest ≡ whole
one_more done more x rest all whole d split so_far =
    ap (λ z. z ++ rest) d ∙ append_assoc done (x ∷ []) rest ∙ ap (λ z. done ++ z) (sym split) ∙ so_far

-- what was pushed, as the definitions see it
pushed : {X A : Type 0} (view : X → A) (old new : List X) (x : X) → new ≡ old ++ x ∷ [] → map view new ≡ map view old ++ view x ∷ []
pushed {X = X} view old new x is = ap (map view) is ∙ mapped old
  where
    mapped : (xs : List X) → map view (xs ++ x ∷ []) ≡ map view xs ++ view x ∷ []
    mapped [] = refl
    mapped (y ∷ ys) = ap (λ z. view y ∷ z) (mapped ys)

pub field_turn : (scope : Scope) (fs : List TransactionField) (i : ℕ) (f : TransactionField) → i < length fs → f ≡ get_or fs i f
    → (old new : List Variable_in_scope) (v : Variable_in_scope) (n next : ℕ) (whole : List Local)
    → new ≡ old ++ v ∷ []
    → local_of v ≡ record { number = n; name = (transaction_field_of f).name; type = type_entry scope (transaction_field_of f).annotation.written; is_var = is_var_word (transaction_field_of f).kind }
    → next ≡ n + 1
    → map local_of old ++ field_locals scope n (map transaction_field_of (drop i fs)) ≡ whole
    → map local_of new ++ field_locals scope next (map transaction_field_of (drop (i + 1) fs)) ≡ whole
field_turn scope fs i f h is old new v n next whole push made more so_far =
    ap (λ z. map local_of new ++ field_locals scope z (map transaction_field_of (drop (i + 1) fs))) (let one : next ≡ suc n = omega arith in one)
    ∙ one_more (map local_of old) (map local_of new) (local_of v) (field_locals scope (suc n) (map transaction_field_of (drop (i + 1) fs))) (field_locals scope n (map transaction_field_of (drop i fs))) whole
    (pushed local_of old new v push)
    (ap (λ z. field_locals scope n (map transaction_field_of z)) (cons_at fs i f h is) ∙ ap (λ z. z ∷ field_locals scope (suc n) (map transaction_field_of (drop (i + 1) fs))) (sym made)) so_far

pub fields_end : (scope : Scope) (fs : List TransactionField) (i n : ℕ) (done whole : List Local) → length fs ≤ i
    → done ++ field_locals scope n (map transaction_field_of (drop i fs)) ≡ whole → done ≡ whole
fields_end scope fs i n done whole h so_far =
    sym (append-nil done) ∙ ap (λ z. done ++ z) (sym (ap (λ z. field_locals scope n (map transaction_field_of z)) (drop_all i fs h))) ∙ so_far
