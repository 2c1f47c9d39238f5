-- Turns of the loops that infer elements, entries and arguments.
use Rattle.std.proofs.Common.{◌≡◌, ℕ, ◌+◌, ◌<◌, ◌≤◌, Bool, true, false, List, [], ◌∷◌, ◌++◌, Option, Some, None, length, drop, get_or, map, refl, sym, ◌∙◌, ap, add-one, drop-cons, append_assoc}
use Rattle.std.proofs.lemmas.List.{append-nil, drop_all, map-append}
use Rattle.cad_syntax.specs.Types.{PureType}
use Rattle.cad_grammar.specs.Trees as s
use Rattle.cad_grammar.specs.Views.{expr_of, argument_of, entry_of}
use Rattle.cad_grammar.specs.declared.expression.Expr.{Expr}
use Rattle.cad_grammar.specs.declared.expression.Argument.{Argument}
use Rattle.cad_grammar.specs.declared.expression.Entry.{Entry}
use Rattle.cad_declarations.specs.Typed as tree
use Rattle.cad_declarations.specs.Views as views
use Rattle.cad_declarations.specs.declared.term.Argument as transferred
use Rattle.cad_environment.specs.Views.{typing_of}
use Rattle.cad_environment.specs.declared.typing.Typing as code
use Rattle.cad_infer_containers.specs.Views.{typings_of}
use Rattle.cad_typing.specs.Befores.{behind}
use Rattle.cad_typing.specs.Calls.{Count, Parameter}
use Rattle.cad_typing.specs.Containers.{element, Next, next_parameter, may_end}
use Rattle.cad_typing.specs.Environments.{Environment, ordinary, Typing, when, ◌>=>◌}
use Rattle.cad_typing.specs.Expressions.{infer, infer_elements, infer_entries, infer_arguments}
use Rattle.cad_infer_parts.specs.Code.Rows.{before_rest, in_front, before_arguments, behind_entry}
use Rattle.cad_infer_parts.specs.Code.Rows as rows
use Rattle.cad_infer_parts.specs.Code.Steps.{elements, entries, arguments, element_typed, entry_typed, argument_typed}

-- what stands at an index, before the rest
cons_at : {A : Type 0} (es : List A) (i : ℕ) (e : A) → i < length es → e ≡ get_or es i e → drop i es ≡ e ∷ drop (i + 1) es
cons_at es i e h is = (let p : drop i es ≡ get_or es i e ∷ drop (i + 1) es = rw (add-one, drop-cons es i e) refl in p) ∙ ap (λ z. z ∷ drop (i + 1) es) (sym is)

more_before : {A : Type 0} (done : List A) (x : A) (o : Option (List A)) → before_rest done (o >=> (λ xs. Some (x ∷ xs))) ≡ before_rest (done ++ x ∷ []) o
more_before done x None = refl
more_before done x (Some rest) = ap Some (sym (append_assoc done (x ∷ []) rest))

pub first_before : {A : Type 0} (o : Option (List A)) → before_rest [] o ≡ o
first_before None = refl
first_before (Some rest) = refl

last_before : {A : Type 0} (done : List A) → before_rest done (Some []) ≡ Some done
last_before done = ap Some (append-nil done)

-- ---- elements

pub elements_last : (env : Environment) (t : Option PureType) (es : List Expr) (i : ℕ) → length es ≤ i → (done : List Typing) (whole : Option (List Typing))
    → before_rest done (elements env t (s.exprs_of (map expr_of (drop i es)))) ≡ whole → Some done ≡ whole
unfolding elements
elements_last env t es i h done whole k =
    sym (last_before done) ∙ ap (λ z. before_rest done (infer_elements env t (s.exprs_of (map expr_of z)))) (sym (drop_all i es h)) ∙ k

elements_step : (env next : Environment) (t : Option PureType) (es : List Expr) (i : ℕ) (e : Expr) → i < length es → e ≡ get_or es i e
    → (done : List Typing) (x : Typing) (whole : Option (List Typing))
    → Some x ≡ element_typed env t (expr_of e) → next ≡ behind (expr_of e) env
    → before_rest done (elements env t (s.exprs_of (map expr_of (drop i es)))) ≡ whole
    → before_rest (done ++ x ∷ []) (elements next t (s.exprs_of (map expr_of (drop (i + 1) es)))) ≡ whole
unfolding elements element_typed
elements_step env next t es i e h is done x whole some to k =
    sym (more_before done x (infer_elements next t (s.exprs_of (map expr_of (drop (i + 1) es)))))
    ∙ ap (λ v. before_rest done (infer_elements v t (s.exprs_of (map expr_of (drop (i + 1) es))) >=> (λ xs. Some (x ∷ xs)))) to
    ∙ ap (λ o. before_rest done (o >=> (λ y. infer_elements (behind (expr_of e) env) t (s.exprs_of (map expr_of (drop (i + 1) es))) >=> (λ xs. Some (y ∷ xs))))) some
    ∙ ap (λ z. before_rest done (infer_elements env t (s.exprs_of (map expr_of z)))) (sym (cons_at es i e h is)) ∙ k

pub elements_turn : (env next : Environment) (t : Option PureType) (es : List Expr) (i : ℕ) (e : Expr) → i < length es → e ≡ get_or es i e
    → (items new : List code.Typing) (x : code.Typing) (whole : Option (List Typing))
    → new ≡ items ++ x ∷ [] → Some (typing_of x) ≡ element_typed env t (expr_of e) → next ≡ behind (expr_of e) env
    → before_rest (map typing_of items) (elements env t (s.exprs_of (map expr_of (drop i es)))) ≡ whole
    → before_rest (map typing_of new) (elements next t (s.exprs_of (map expr_of (drop (i + 1) es)))) ≡ whole
elements_turn env next t es i e h is items new x whole more some to k =
    ap (λ ys. before_rest (map typing_of ys) (elements next t (s.exprs_of (map expr_of (drop (i + 1) es))))) more
    ∙ ap (λ zs. before_rest zs (elements next t (s.exprs_of (map expr_of (drop (i + 1) es))))) (map-append typing_of items (x ∷ []))
    ∙ elements_step env next t es i e h is (map typing_of items) (typing_of x) whole some to k

pub elements_stop : (env : Environment) (t : Option PureType) (es : List Expr) (i : ℕ) (e : Expr) → i < length es → e ≡ get_or es i e
    → (done : List Typing) (whole : Option (List Typing))
    → None ≡ element_typed env t (expr_of e)
    → before_rest done (elements env t (s.exprs_of (map expr_of (drop i es)))) ≡ whole → None ≡ whole
unfolding elements element_typed
elements_stop env t es i e h is done whole none k =
    ap (λ o. before_rest done (o >=> (λ y. infer_elements (behind (expr_of e) env) t (s.exprs_of (map expr_of (drop (i + 1) es))) >=> (λ xs. Some (y ∷ xs))))) none
    ∙ ap (λ z. before_rest done (infer_elements env t (s.exprs_of (map expr_of z)))) (sym (cons_at es i e h is)) ∙ k

-- ---- entries

pub entries_last : (env : Environment) (key value : Option PureType) (es : List Entry) (i : ℕ) → length es ≤ i → (done : List (Typing × Typing)) (whole : Option (List (Typing × Typing)))
    → before_rest done (entries env key value (s.entries_of (map entry_of (drop i es)))) ≡ whole → Some done ≡ whole
unfolding entries
entries_last env key value es i h done whole k =
    sym (last_before done) ∙ ap (λ z. before_rest done (infer_entries env key value (s.entries_of (map entry_of z)))) (sym (drop_all i es h)) ∙ k

-- what stands behind both parts
pair_then : {A B : Type 0} (m n : Option A) (f : A × A → Option B) → ((m >=> (λ x. n >=> (λ y. Some (x, y)))) >=> f) ≡ (m >=> (λ x. n >=> (λ y. f (x, y))))
pair_then None n f = refl
pair_then (Some x) None f = refl
pair_then (Some x) (Some y) f = refl

entries_step : (env next : Environment) (key value : Option PureType) (es : List Entry) (i : ℕ) (e : Entry) → i < length es → e ≡ get_or es i e
    → (done : List (Typing × Typing)) (x : Typing × Typing) (whole : Option (List (Typing × Typing)))
    → Some x ≡ entry_typed env key value (entry_of e) → next ≡ behind_entry (entry_of e) env
    → before_rest done (entries env key value (s.entries_of (map entry_of (drop i es)))) ≡ whole
    → before_rest (done ++ x ∷ []) (entries next key value (s.entries_of (map entry_of (drop (i + 1) es)))) ≡ whole
unfolding entries entry_typed
entries_step env next key value es i e h is done x whole some to k =
    sym (more_before done x (infer_entries next key value (s.entries_of (map entry_of (drop (i + 1) es)))))
    ∙ ap (λ v. before_rest done (infer_entries v key value (s.entries_of (map entry_of (drop (i + 1) es))) >=> (λ xs. Some (x ∷ xs)))) to
    ∙ ap (λ o. before_rest done (o >=> (λ y. infer_entries (behind_entry (entry_of e) env) key value (s.entries_of (map entry_of (drop (i + 1) es))) >=> (λ xs. Some (y ∷ xs))))) some
    ∙ ap (before_rest done) (pair_then (infer env ordinary key (entry_of e).key >=> element env key (entry_of e).key) (infer (behind (entry_of e).key env) ordinary value (entry_of e).value >=> element env value (entry_of e).value) (λ y. infer_entries (behind_entry (entry_of e) env) key value (s.entries_of (map entry_of (drop (i + 1) es))) >=> (λ xs. Some (y ∷ xs))))
    ∙ ap (λ z. before_rest done (infer_entries env key value (s.entries_of (map entry_of z)))) (sym (cons_at es i e h is)) ∙ k

pub entries_turn : (env next : Environment) (key value : Option PureType) (es : List Entry) (i : ℕ) (e : Entry) → i < length es → e ≡ get_or es i e
    → (items new : List (code.Typing × code.Typing)) (x : code.Typing × code.Typing) (whole : Option (List (Typing × Typing)))
    → new ≡ items ++ x ∷ [] → Some (typings_of x) ≡ entry_typed env key value (entry_of e) → next ≡ behind_entry (entry_of e) env
    → before_rest (map typings_of items) (entries env key value (s.entries_of (map entry_of (drop i es)))) ≡ whole
    → before_rest (map typings_of new) (entries next key value (s.entries_of (map entry_of (drop (i + 1) es)))) ≡ whole
entries_turn env next key value es i e h is items new x whole more some to k =
    ap (λ ys. before_rest (map typings_of ys) (entries next key value (s.entries_of (map entry_of (drop (i + 1) es))))) more
    ∙ ap (λ zs. before_rest zs (entries next key value (s.entries_of (map entry_of (drop (i + 1) es))))) (map-append typings_of items (x ∷ []))
    ∙ entries_step env next key value es i e h is (map typings_of items) (typings_of x) whole some to k

pub entries_stop : (env : Environment) (key value : Option PureType) (es : List Entry) (i : ℕ) (e : Entry) → i < length es → e ≡ get_or es i e
    → (done : List (Typing × Typing)) (whole : Option (List (Typing × Typing)))
    → None ≡ entry_typed env key value (entry_of e)
    → before_rest done (entries env key value (s.entries_of (map entry_of (drop i es)))) ≡ whole → None ≡ whole
unfolding entries entry_typed
entries_stop env key value es i e h is done whole none k =
    ap (λ o. before_rest done (o >=> (λ y. infer_entries (behind_entry (entry_of e) env) key value (s.entries_of (map entry_of (drop (i + 1) es))) >=> (λ xs. Some (y ∷ xs))))) none
    ∙ ap (before_rest done) (pair_then (infer env ordinary key (entry_of e).key >=> element env key (entry_of e).key) (infer (behind (entry_of e).key env) ordinary value (entry_of e).value >=> element env value (entry_of e).value) (λ y. infer_entries (behind_entry (entry_of e) env) key value (s.entries_of (map entry_of (drop (i + 1) es))) >=> (λ xs. Some (y ∷ xs))))
    ∙ ap (λ z. before_rest done (infer_entries env key value (s.entries_of (map entry_of z)))) (sym (cons_at es i e h is)) ∙ k

-- ---- arguments

more_arguments : (done : List tree.TargetedTerm) (x : tree.TargetedTerm) (rest : tree.Arguments) → in_front done (tree.arguments x.value x.target rest) ≡ in_front (done ++ x ∷ []) rest
more_arguments [] x rest = refl
more_arguments (y ∷ done) x rest = ap (tree.arguments y.value y.target) (more_arguments done x rest)

more_arguments_before : (done : List tree.TargetedTerm) (x : tree.TargetedTerm) (o : Option tree.Arguments)
    → before_arguments done (o >=> (λ xs. Some (tree.arguments x.value x.target xs))) ≡ before_arguments (done ++ x ∷ []) o
more_arguments_before done x None = refl
more_arguments_before done x (Some rest) = ap Some (more_arguments done x rest)

pub first_argument_before : (o : Option tree.Arguments) → before_arguments [] o ≡ o
first_argument_before None = refl
first_argument_before (Some rest) = refl

last_argument : (done : List tree.TargetedTerm) → in_front done tree.no_arguments ≡ tree.arguments_of done
last_argument [] = refl
last_argument (x ∷ done) = ap (tree.arguments x.value x.target) (last_argument done)

last_argument_before : (done : List tree.TargetedTerm) (may : Bool) → before_arguments done (when may (Some tree.no_arguments)) ≡ when may (Some (tree.arguments_of done))
last_argument_before done true = ap Some (last_argument done)
last_argument_before done false = refl

pub arguments_last : (env : Environment) (count : Count) (ps : List Parameter) (es : List Argument) (i : ℕ) → length es ≤ i
    → (done : List tree.TargetedTerm) (whole : Option tree.Arguments)
    → before_arguments done (arguments env count ps (s.arguments_of (map argument_of (drop i es)))) ≡ whole
    → when (may_end count ps) (Some (tree.arguments_of done)) ≡ whole
unfolding arguments
arguments_last env count ps es i h done whole k =
    sym (last_argument_before done (may_end count ps))
    ∙ ap (λ z. before_arguments done (infer_arguments env count ps (s.arguments_of (map argument_of z)))) (sym (drop_all i es h)) ∙ k

arguments_step : (env next : Environment) (count : Count) (ps : List Parameter) (p : Next) (es : List Argument) (i : ℕ) (e : Argument) → i < length es → e ≡ get_or es i e
    → (done : List tree.TargetedTerm) (x : tree.TargetedTerm) (whole : Option tree.Arguments)
    → Some p ≡ next_parameter count ps (argument_of e).label
    → Some x ≡ argument_typed env p.takes (argument_of e).value → next ≡ behind (argument_of e).value env
    → before_arguments done (arguments env count ps (s.arguments_of (map argument_of (drop i es)))) ≡ whole
    → before_arguments (done ++ x ∷ []) (arguments next count p.others (s.arguments_of (map argument_of (drop (i + 1) es)))) ≡ whole
unfolding arguments argument_typed
arguments_step env next count ps p es i e h is done x whole there some to k =
    sym (more_arguments_before done x (infer_arguments next count p.others (s.arguments_of (map argument_of (drop (i + 1) es)))))
    ∙ ap (λ v. before_arguments done (infer_arguments v count p.others (s.arguments_of (map argument_of (drop (i + 1) es))) >=> (λ xs. Some (tree.arguments x.value x.target xs)))) to
    ∙ ap (λ o. before_arguments done (o >=> (λ y. infer_arguments (behind (argument_of e).value env) count p.others (s.arguments_of (map argument_of (drop (i + 1) es))) >=> (λ xs. Some (tree.arguments y.value y.target xs))))) some
    ∙ ap (λ o. before_arguments done (o >=> (λ q. rows.argument_typed env q.takes (argument_of e).value >=> (λ y. infer_arguments (behind (argument_of e).value env) count q.others (s.arguments_of (map argument_of (drop (i + 1) es))) >=> (λ xs. Some (tree.arguments y.value y.target xs)))))) there
    ∙ ap (λ z. before_arguments done (infer_arguments env count ps (s.arguments_of (map argument_of z)))) (sym (cons_at es i e h is)) ∙ k

pub arguments_turn : (env next : Environment) (count : Count) (ps : List Parameter) (p : Next) (es : List Argument) (i : ℕ) (e : Argument) → i < length es → e ≡ get_or es i e
    → (items new : List transferred.Argument) (x : transferred.Argument) (whole : Option tree.Arguments)
    → new ≡ items ++ x ∷ [] → Some p ≡ next_parameter count ps (argument_of e).label
    → Some (views.argument_of x) ≡ argument_typed env p.takes (argument_of e).value → next ≡ behind (argument_of e).value env
    → before_arguments (map views.argument_of items) (arguments env count ps (s.arguments_of (map argument_of (drop i es)))) ≡ whole
    → before_arguments (map views.argument_of new) (arguments next count p.others (s.arguments_of (map argument_of (drop (i + 1) es)))) ≡ whole
arguments_turn env next count ps p es i e h is items new x whole more there some to k =
    ap (λ ys. before_arguments (map views.argument_of ys) (arguments next count p.others (s.arguments_of (map argument_of (drop (i + 1) es))))) more
    ∙ ap (λ zs. before_arguments zs (arguments next count p.others (s.arguments_of (map argument_of (drop (i + 1) es))))) (map-append views.argument_of items (x ∷ []))
    ∙ arguments_step env next count ps p es i e h is (map views.argument_of items) (views.argument_of x) whole there some to k

-- no parameter is there for it
pub arguments_end : (env : Environment) (count : Count) (ps : List Parameter) (es : List Argument) (i : ℕ) (e : Argument) → i < length es → e ≡ get_or es i e
    → (done : List tree.TargetedTerm) (whole : Option tree.Arguments)
    → None ≡ next_parameter count ps (argument_of e).label
    → before_arguments done (arguments env count ps (s.arguments_of (map argument_of (drop i es)))) ≡ whole → None ≡ whole
unfolding arguments
arguments_end env count ps es i e h is done whole none k =
    ap (λ o. before_arguments done (o >=> (λ q. rows.argument_typed env q.takes (argument_of e).value >=> (λ y. infer_arguments (behind (argument_of e).value env) count q.others (s.arguments_of (map argument_of (drop (i + 1) es))) >=> (λ xs. Some (tree.arguments y.value y.target xs)))))) none
    ∙ ap (λ z. before_arguments done (infer_arguments env count ps (s.arguments_of (map argument_of z)))) (sym (cons_at es i e h is)) ∙ k

pub arguments_stop : (env : Environment) (count : Count) (ps : List Parameter) (p : Next) (es : List Argument) (i : ℕ) (e : Argument) → i < length es → e ≡ get_or es i e
    → (done : List tree.TargetedTerm) (whole : Option tree.Arguments)
    → Some p ≡ next_parameter count ps (argument_of e).label
    → None ≡ argument_typed env p.takes (argument_of e).value
    → before_arguments done (arguments env count ps (s.arguments_of (map argument_of (drop i es)))) ≡ whole → None ≡ whole
unfolding arguments argument_typed
arguments_stop env count ps p es i e h is done whole there none k =
    ap (λ o. before_arguments done (o >=> (λ y. infer_arguments (behind (argument_of e).value env) count p.others (s.arguments_of (map argument_of (drop (i + 1) es))) >=> (λ xs. Some (tree.arguments y.value y.target xs))))) none
    ∙ ap (λ o. before_arguments done (o >=> (λ q. rows.argument_typed env q.takes (argument_of e).value >=> (λ y. infer_arguments (behind (argument_of e).value env) count q.others (s.arguments_of (map argument_of (drop (i + 1) es))) >=> (λ xs. Some (tree.arguments y.value y.target xs)))))) there
    ∙ ap (λ z. before_arguments done (infer_arguments env count ps (s.arguments_of (map argument_of z)))) (sym (cons_at es i e h is)) ∙ k
