-- Turns over rows.
use Rattle.std.proofs.Common.{◌≡◌, ◌∙◌, ℕ, suc, ◌+◌, ◌<◌, ◌≤◌, Bool, true, false, List, [], ◌∷◌, ◌++◌, length, drop, get_or, map, refl, ap, sym, append_assoc, add-one, drop-cons, arith}
use Rattle.std.proofs.lemmas.List.{append-nil, drop_all}
use Rattle.std.specs.List.{list_any}
use Rattle.std.specs.Prelude.{◌||◌}
use Rattle.cad_syntax.specs.declared.text.Name.{Name}
use Rattle.cad_declarations.specs.Names.{same_name}
use Rattle.cad_declarations.specs.Typed as e
use Rattle.cad_declarations.specs.Views.{parameter_of, variable_of}
use Rattle.cad_declarations.specs.declared.statement.Variable.{Variable}
use Rattle.cad_declarations.specs.declared.member.Parameter.{Parameter}
use Rattle.cad_environment.specs.Views.{local_of}
use Rattle.cad_environment.specs.declared.local.Local.{Local as Variable_in_scope}
use Rattle.cad_typing.specs.Environments.{Environment, Local}
use Rattle.cad_typing.specs.Locals.{entry_of, locals_from}

-- what stands at an index, before the rest
pub cons_at : {A : Type 0} (es : List A) (i : ℕ) (x : A) → i < length es → x ≡ get_or es i x → drop i es ≡ x ∷ drop (i + 1) es
cons_at es i x h is = (let p : drop i es ≡ get_or es i x ∷ drop (i + 1) es = rw (add-one, drop-cons es i x) refl in p) ∙ ap (λ z. z ∷ drop (i + 1) es) (sym is)

-- one more in front of what comes
pub one_more : {A : Type 0} (done more : List A) (x : A) (rest all whole : List A) → more ≡ done ++ x ∷ [] → all ≡ x ∷ rest → done ++ all ≡ whole → more ++ rest ≡ whole
one_more done more x rest all whole d split so_far =
    ap (λ z. z ++ rest) d ∙ append_assoc done (x ∷ []) rest ∙ ap (λ z. done ++ z) (sym split) ∙ so_far

-- nothing comes any more
pub no_more : {A : Type 0} (done all whole : List A) → all ≡ [] → done ++ all ≡ whole → done ≡ whole
no_more done all whole none so_far = sym (append-nil done) ∙ ap (λ z. done ++ z) (sym none) ∙ so_far

-- ---- variables

-- what was pushed, as the definitions see it
pub pushed : {X A : Type 0} (view : X → A) (old new : List X) (x : X) → new ≡ old ++ x ∷ [] → map view new ≡ map view old ++ view x ∷ []
pushed {X = X} view old new x is = ap (map view) is ∙ mapped old
  where
    mapped : (xs : List X) → map view (xs ++ x ∷ []) ≡ map view xs ++ view x ∷ []
    mapped [] = refl
    mapped (y ∷ ys) = ap (λ z. view y ∷ z) (mapped ys)

pub entry_turn : (env : Environment) (vs : List Variable_in_scope) (i : ℕ) (v : Variable_in_scope) → i < length vs → v ≡ get_or vs i v
    → (old new : List Variable) (x : Variable) (whole : List e.VariableEntry) → new ≡ old ++ x ∷ [] → variable_of x ≡ entry_of env (local_of v)
    → map variable_of old ++ map (entry_of env) (map local_of (drop i vs)) ≡ whole
    → map variable_of new ++ map (entry_of env) (map local_of (drop (i + 1) vs)) ≡ whole
entry_turn env vs i v h is old new x whole push made so_far =
    one_more (map variable_of old) (map variable_of new) (variable_of x) (map (entry_of env) (map local_of (drop (i + 1) vs))) (map (entry_of env) (map local_of (drop i vs))) whole
    (pushed variable_of old new x push)
    (ap (λ z. map (entry_of env) (map local_of z)) (cons_at vs i v h is) ∙ ap (λ z. z ∷ map (entry_of env) (map local_of (drop (i + 1) vs))) (sym made)) so_far

pub entries_end : (env : Environment) (vs : List Variable_in_scope) (i : ℕ) (done whole : List e.VariableEntry) → length vs ≤ i
    → done ++ map (entry_of env) (map local_of (drop i vs)) ≡ whole → done ≡ whole
entries_end env vs i done whole h so_far = no_more done (map (entry_of env) (map local_of (drop i vs))) whole (ap (λ z. map (entry_of env) (map local_of z)) (drop_all i vs h)) so_far

pub parameter_turn : (ps : List Parameter) (i : ℕ) (p : Parameter) → i < length ps → p ≡ get_or ps i p
    → (old new : List Variable_in_scope) (v : Variable_in_scope) (n next : ℕ) (whole : List Local)
    → new ≡ old ++ v ∷ [] → local_of v ≡ record { number = n; name = (parameter_of p).name; type = (parameter_of p).type; is_var = false } → next ≡ n + 1
    → map local_of old ++ locals_from n (map parameter_of (drop i ps)) ≡ whole
    → map local_of new ++ locals_from next (map parameter_of (drop (i + 1) ps)) ≡ whole
parameter_turn ps i p h is old new v n next whole push made more so_far =
    ap (λ z. map local_of new ++ locals_from z (map parameter_of (drop (i + 1) ps))) (let one : next ≡ suc n = omega arith in one)
    ∙ one_more (map local_of old) (map local_of new) (local_of v) (locals_from (suc n) (map parameter_of (drop (i + 1) ps))) (locals_from n (map parameter_of (drop i ps))) whole
    (pushed local_of old new v push)
    (ap (λ z. locals_from n (map parameter_of z)) (cons_at ps i p h is) ∙ ap (λ z. z ∷ locals_from (suc n) (map parameter_of (drop (i + 1) ps))) (sym made)) so_far

pub parameters_end : (ps : List Parameter) (i n : ℕ) (done whole : List Local) → length ps ≤ i
    → done ++ locals_from n (map parameter_of (drop i ps)) ≡ whole → done ≡ whole
parameters_end ps i n done whole h so_far = no_more done (locals_from n (map parameter_of (drop i ps))) whole (ap (λ z. locals_from n (map parameter_of z)) (drop_all i ps h)) so_far

-- whether one of the variables has a name
pub name_there : (vs : List Variable_in_scope) (i : ℕ) (v : Variable_in_scope) (name : Name) → i < length vs → v ≡ get_or vs i v → (whole : Bool)
    → same_name v.name name ≡ true → list_any (λ x. same_name x.name name) (map local_of (drop i vs)) ≡ whole → true ≡ whole
name_there vs i v name h is whole same so_far =
    sym (ap (λ b. b || list_any (λ x. same_name x.name name) (map local_of (drop (i + 1) vs))) same)
    ∙ sym (ap (λ z. list_any (λ x. same_name x.name name) (map local_of z)) (cons_at vs i v h is)) ∙ so_far

pub name_differs : (vs : List Variable_in_scope) (i : ℕ) (v : Variable_in_scope) (name : Name) → i < length vs → v ≡ get_or vs i v → (whole : Bool)
    → same_name v.name name ≡ false → list_any (λ x. same_name x.name name) (map local_of (drop i vs)) ≡ whole
    → list_any (λ x. same_name x.name name) (map local_of (drop (i + 1) vs)) ≡ whole
name_differs vs i v name h is whole other so_far =
    sym (ap (λ b. b || list_any (λ x. same_name x.name name) (map local_of (drop (i + 1) vs))) other)
    ∙ sym (ap (λ z. list_any (λ x. same_name x.name name) (map local_of z)) (cons_at vs i v h is)) ∙ so_far
