-- In an elaborated function no variable is declared in the scope of one with its number.
use Rattle.std.proofs.Common.{◌≡◌, refl, sym, ◌∙◌, ap, subst, ◌⊎◌, inl, inr, ℕ, ◌+◌, ◌<◌, ◌≤◌, suc, arith, Bool, true, false, not, ◌&&◌, List, [], ◌∷◌, length, nat_eq, eqb-true, if◌then◌else◌}
use Rattle.std.proofs.lemmas.Bool.{and_from, or_cases}
use Rattle.std.specs.Prelude.{Option, Some, None, Result, Ok, Err, ok_or, map}
use Rattle.cad_syntax.specs.Types.{PureType, optional}
use Rattle.cad_syntax.specs.declared.text.Name.{Name}
use Rattle.cad_grammar.specs.Trees as s
use Rattle.cad_grammar.specs.declared.expression.CastKind.TheVariants as cast
use Rattle.cad_grammar.specs.declared.statement.Transfer.{Transfer}
use Rattle.cad_grammar.specs.declared.statement.Transfer.TheVariants as sign
use Rattle.cad_grammar.specs.declared.statement.VariableKind.{VariableKind}
use Rattle.cad_types.specs.Classes.{is_void}
use Rattle.cad_types.specs.Declarations.{resource}
use Rattle.cad_types.specs.Optionals.{fits}
use Rattle.cad_declarations.specs.Formed.{resolved_annotation}
use Rattle.cad_declarations.specs.Kinds.{scope_of}
use Rattle.cad_declarations.specs.Tables.{ProgramTables, ParameterType}
use Rattle.cad_declarations.specs.Typed as e
use Rattle.cad_paths.specs.declared.letter.Letter.TheVariants.{Spend, Empty}
use Rattle.cad_paths.specs.declared.letter.BodyPart.{BodyPart}
use Rattle.cad_paths.specs.declared.letter.BodyPart.TheVariants.{Whole}
use Rattle.cad_paths.specs.declared.letter.Position.{Position}
use Rattle.cad_paths.specs.Paths.{PathBody, seq, either, loop, scope, skip}
use Rattle.cad_paths.specs.Letters.{resources, variable_letters, term_letters, place_letters, ending, take_letters}
use Rattle.cad_paths.specs.Bodies.{position, path_variable, target_letters, set_letters, fill_letters, taken_variable, if_let_letters, return_letters, scope_behind, statement_letters, block_letters, statements_letters, cases_letters, conditions_letters, before_letters, part_letters, has_no_block, inner_letters, from_start, function_letters}
use Rattle.cad_paths.specs.Bodies as b
use Rattle.cad_paths.specs.Marks.{among, declares_anew}
use Rattle.cad_typing.specs.Environments.{Environment, Local, Typing, ordinary, kinds, when, ◌>=>◌}
use Rattle.cad_typing.specs.Environments as environment
use Rattle.cad_typing.specs.Expressions.{infer}
use Rattle.cad_typing.specs.Locals.{next_local, entry_of, entries_of, is_free, locals_from}
use Rattle.cad_typing.specs.Places.{Target, infer_target, infer_variable, infer_moved, infer_declared, infer_returned, infer_event}
use Rattle.cad_typing.specs.References.{may_be_cast}
use Rattle.cad_typing.specs.Types.{content, is_optional_type}
use Rattle.cad_typing.specs.StatementForms.{StatementTyping, alone, beside_variable, declared_value, declaration, exchange, exchanged, type_for, may_declare, is_move_sign, TestTyping, plain_test, content_test, cast_test, test_locals, test_tree, infer_test, content_of_value, cast_of_variable, cast_or_content, bound_value, test_typing, ForTyping, for_locals, for_tree, for_typing, SwitchTyping, cases_with, switch_typing, assignment_to, assignment, swap, returned, evaluated}
use Rattle.cad_typing.specs.StatementForms as form
use Rattle.cad_typing.specs.Statements.{◌>>=◌, Surroundings, behind_statement, in_block, in_loop, in_switch, block_in, empty_block, count, count_all, count_cases, single, emitted, type_statement, type_statements, type_otherwise, type_cases, type_default}
use Rattle.cad_typing.specs.Functions.{Routine, head_is_right, type_body, type_optional_body, parameter_types, routine_body, before_environment, after_environment, body_surroundings, count_conditions, type_parts, type_routine}
use Rattle.cad_typing.specs.Conditions.{type_conditions}
use Rattle.cad_mark_laws.specs.Laws.{FunctionsHaveMarks}
use Rattle.cad_mark_laws.proofs.Linear.{linear_marked}
use Rattle.cad_mark_laws.proofs.Plain.{Plain, plain_anew, take_plain, ending_plain, place_plain, term_plain, arguments_plain, target_plain, set_plain, fill_plain, return_plain, conditions_plain, before_plain, AreBelow, not_among, none_below}

-- ---- what an option or a result holds

abbrev pub Each : {A : Type 0} → (A → Type 0) → Option A → Type 0
Each P None = Unit {0}
Each P (Some x) = P x

abbrev pub Every : {A : Type 0} → (A → Type 0) → Result A ℕ → Type 0
Every P (Err n) = Unit {0}
Every P (Ok x) = P x

each_bind : {A B : Type 0} (P : B → Type 0) (o : Option A) (f : A → Option B) → ((x : A) → Each P (f x)) → Each P (o >=> f)
each_bind P None f g = tt
each_bind P (Some x) f g = g x

each_when : {A : Type 0} (P : A → Type 0) (c : Bool) (o : Option A) → Each P o → Each P (when c o)
each_when P true o h = h
each_when P false o h = tt

every_bind : {A B : Type 0} (P : A → Type 0) (Q : B → Type 0) (r : Result A ℕ) (f : A → Result B ℕ) → Every P r → ((x : A) → P x → Every Q (f x)) → Every Q (r >>= f)
every_bind P Q (Err n) f h g = tt
every_bind P Q (Ok x) f h g = g x h

every_or : {A : Type 0} (P : A → Type 0) (o : Option A) (n : ℕ) → Each P o → Every P (ok_or o n)
every_or P None n h = tt
every_or P (Some x) n h = h

every_map : {A : Type 0} (P Q : A → Type 0) (r : Result A ℕ) → ((x : A) → P x → Q x) → Every P r → Every Q r
every_map P Q (Err n) f h = tt
every_map P Q (Ok x) f h = f x h

pub every_ok : {A : Type 0} (P : A → Type 0) (r : Result A ℕ) (x : A) → r ≡ Ok x → Every P r → P x
every_ok P r x e h = subst (λ z. Every P z) e h

anything : {A : Type 0} (o : Option A) → Each (λ x. Unit {0}) o
anything None = tt
anything (Some x) = tt

all_right : {A : Type 0} (r : Result A ℕ) → Every (λ x. Unit {0}) r
all_right (Err n) = tt
all_right (Ok x) = tt

pub suc_in : (n k : ℕ) → suc n + k ≡ n + suc k
suc_in n k = omega arith

count_is : {A : Type 0} (xs : List A) (n : ℕ) → length xs ≡ n → 0 + length xs ≡ n
count_is xs n e = let p : 0 + length xs ≡ length xs = omega arith in p ∙ e

-- ---- numbers in use

abbrev pub Anew : List ℕ → PathBody → Type 0
Anew us a = declares_anew us a ≡ true

pub below_more : (us : List ℕ) (n k : ℕ) → n ≤ k → AreBelow us n → AreBelow us k
below_more us n k h f u i = let p = f u i in omega arith

below_next : (us : List ℕ) (n k : ℕ) → n < k → AreBelow us n → AreBelow (n ∷ us) k
below_next us n k h f u i = pick (or_cases (nat_eq n u) (among us u) i)
  where
    pick : (nat_eq n u ≡ true) ⊎ (among us u ≡ true) → u < k
    pick (inl j) = let p = eqb-true n u j in omega arith
    pick (inr j) = let p = f u j in omega arith

-- a variable with the next number, and its scope
scope_by : (c : Bool) (v : e.VariableEntry) (at : Position) (n k : ℕ) (us : List ℕ) (a : PathBody) → v.number ≡ n → n < k → AreBelow us n → ((vs : List ℕ) → AreBelow vs k → Anew vs a) → Anew us (if c then scope (path_variable v) at a else a)
scope_by true v at n k us a e h f g =
    and_from (not (among us v.number)) (declares_anew (v.number ∷ us) a) (subst (λ z. not (among us z) ≡ true) (sym e) (not_among us n f))
    (g (v.number ∷ us) (subst (λ z. AreBelow (z ∷ us) k) (sym e) (below_next us n k h f)))
scope_by false v at n k us a e h f g = g us (below_more us n k (omega arith) f)

pub scope_anew : (v : e.VariableEntry) (at : Position) (n k : ℕ) (us : List ℕ) (a : PathBody) → v.number ≡ n → n < k → AreBelow us n → ((vs : List ℕ) → AreBelow vs k → Anew vs a) → Anew us (b.declared resources v at a)
scope_anew v at n k us a e h f g = scope_by v.is_resource v at n k us a e h f g

-- ---- statements

abbrev pub AreFine : BodyPart → ℕ → e.Statements → Type 0
AreFine part n all = (us : List ℕ) → AreBelow us n → Anew us (statements_letters resources part all)

abbrev pub BlockFine : BodyPart → ℕ → e.BlockTree → Type 0
BlockFine part n a = (us : List ℕ) → AreBelow us n → Anew us (block_letters resources part a)

-- what stands behind the statement may declare from this number on
abbrev pub Fine : BodyPart → Surroundings → StatementTyping → Type 0
Fine part w y = ((us : List ℕ) → AreBelow us w.env.in_use → Anew us (statement_letters resources part y.tree))
    × ((us : List ℕ) (rest : PathBody) → AreBelow us w.env.in_use → ((vs : List ℕ) → AreBelow vs (behind_statement y w).env.in_use → Anew vs rest) → Anew us (scope_behind resources part y.tree rest))

-- one that declares nothing
abbrev pub Bare : BodyPart → e.StatementTree → Type 0
Bare part t = Plain resources (statement_letters resources part t) × ((rest : PathBody) → scope_behind resources part t rest ≡ rest)

bare_fine : (part : BodyPart) (w : Surroundings) (t : e.StatementTree) → Bare part t → Fine part w (alone t)
bare_fine part w t h = (λ us f. plain_anew resources us (statement_letters resources part t) h.0, λ us rest f g. subst (λ z. Anew us z) (sym (h.1 rest)) (g us f))

single_fine : (part : BodyPart) (w : Surroundings) (n : ℕ) (o : Option e.StatementTree) → Each (Bare part) o → Every (Fine part w) (single n o)
single_fine part w n None h = tt
single_fine part w n (Some t) h = bare_fine part w t h

plain_both : (x y : PathBody) → Plain resources x → Plain resources y → Plain resources (seq x y)
plain_both x y h i = and_from _ _ h i

plain_three : (x y z : PathBody) → Plain resources x → Plain resources y → Plain resources z → Plain resources (seq x (seq y z))
plain_three x y z h i j = plain_both x (seq y z) h (plain_both y z i j)

-- ---- statements without statements in them

emitted_bare : (part : BodyPart) (env : Environment) (n : ℕ) (a : s.ExprTree) → Each (Bare part) (emitted env n a)
emitted_bare part env n a = each_bind (Bare part) (infer_event env a) (λ x. Some (e.emit n x.event x.arguments)) (λ x. (arguments_plain resources (position part n) x.arguments, λ rest. refl))

returned_bare : (part : BodyPart) (env : Environment) (result : PureType) (n : ℕ) (o : Option s.ExprTree) → Each (Bare part) (returned env result n o)
returned_bare part env result n None = each_when (Bare part) (is_void result) (Some (e.return_nothing n)) (return_plain resources (position part n) None, λ rest. refl)
returned_bare part env result n (Some a) =
    each_bind (Bare part) (infer_returned env result a) (λ x. Some (e.return_value n x.term result)) (λ x. (return_plain resources (position part n) (Some x.term), λ rest. refl))

evaluated_bare : (part : BodyPart) (env : Environment) (n : ℕ) (a : s.ExprTree) → Each (Bare part) (evaluated env n a)
evaluated_bare part env n a =
    each_bind (Bare part) (infer env ordinary None a) (λ x. when (not (resource (kinds env) x.type)) (Some (e.expression n x.term)))
    (λ x. each_when (Bare part) (not (resource (kinds env) x.type)) (Some (e.expression n x.term)) (term_plain resources (position part n) x.term, λ rest. refl))

assign_bare : (part : BodyPart) (n : ℕ) (p : Target) (x : Typing) → Bare part (e.assign n p.place x.term p.type)
assign_bare part n p x = (
  plain_three (target_letters resources (position part n) p.place) (term_letters resources (position part n) x.term) (set_letters resources (position part n) p.place)
      (target_plain resources (position part n) p.place) (term_plain resources (position part n) x.term) (set_plain resources (position part n) p.place),
  λ rest. refl,
)

force_bare : (part : BodyPart) (n : ℕ) (p : Target) (x : Typing) → Bare part (e.force_assign n p.place x.term p.type)
force_bare part n p x = (
  plain_three (target_letters resources (position part n) p.place) (term_letters resources (position part n) x.term) (fill_letters resources (position part n) p.place)
      (target_plain resources (position part n) p.place) (term_plain resources (position part n) x.term) (fill_plain resources (position part n) p.place),
  λ rest. refl,
)

assigned_bare : (part : BodyPart) (env : Environment) (n : ℕ) (by : Transfer) (a : s.ExprTree) (p : Target) → Each (Bare part) (assignment_to env n by a p)
assigned_bare part env n sign.Copy a p = each_bind (Bare part) (infer_moved env sign.Copy p.type a) (λ x. Some (e.assign n p.place x.term p.type)) (λ x. assign_bare part n p x)
assigned_bare part env n sign.Move a p =
    each_when (Bare part) p.is_own_field (infer_moved env sign.Move p.type a >=> (λ x. Some (e.assign n p.place x.term p.type)))
    (each_bind (Bare part) (infer_moved env sign.Move p.type a) (λ x. Some (e.assign n p.place x.term p.type)) (λ x. assign_bare part n p x))
assigned_bare part env n sign.ForceMove a p =
    each_when (Bare part) (is_optional_type p.type) (infer_moved env sign.ForceMove p.type a >=> (λ x. Some (e.force_assign n p.place x.term p.type)))
    (each_bind (Bare part) (infer_moved env sign.ForceMove p.type a) (λ x. Some (e.force_assign n p.place x.term p.type)) (λ x. force_bare part n p x))

assignment_bare : (part : BodyPart) (env : Environment) (n : ℕ) (place : s.ExprTree) (by : Transfer) (a : s.ExprTree) → Each (Bare part) (assignment env n place by a)
assignment_bare part env n place by a = each_bind (Bare part) (infer_target env place) (assignment_to env n by a) (λ p. assigned_bare part env n by a p)

swap_tree : (part : BodyPart) (n : ℕ) (p q : Target) → Bare part (e.swap n p.place p.type q.place q.type)
swap_tree part n p q = (
  plain_three (target_letters resources (position part n) p.place) (target_letters resources (position part n) q.place)
      (seq (fill_letters resources (position part n) p.place) (fill_letters resources (position part n) q.place))
      (target_plain resources (position part n) p.place) (target_plain resources (position part n) q.place)
      (plain_both (fill_letters resources (position part n) p.place) (fill_letters resources (position part n) q.place)
      (fill_plain resources (position part n) p.place) (fill_plain resources (position part n) q.place)),
  λ rest. refl,
)

swap_bare : (part : BodyPart) (env : Environment) (n : ℕ) (a c : s.ExprTree) → Each (Bare part) (swap env n a c)
swap_bare part env n a c =
    each_bind (Bare part) (infer_target env a)
    (λ p. infer_target env c >=> (λ q. when (fits (kinds env) p.type q.type && fits (kinds env) q.type p.type) (Some (e.swap n p.place p.type q.place q.type))))
    (λ p. each_bind (Bare part) (infer_target env c)
    (λ q. when (fits (kinds env) p.type q.type && fits (kinds env) q.type p.type) (Some (e.swap n p.place p.type q.place q.type)))
    (λ q. each_when (Bare part) (fits (kinds env) p.type q.type && fits (kinds env) q.type p.type) (Some (e.swap n p.place p.type q.place q.type)) (swap_tree part n p q)))

-- ---- declarations

next_is : (n : ℕ) → n < n + 1
next_is n = omega arith

declared_fine : (part : BodyPart) (w : Surroundings) (n : ℕ) (kind : VariableKind) (name : Name) (x : e.TargetedTerm) → Fine part w (form.declared w.env n kind name x)
declared_fine part w n kind name x = (
  λ us f. plain_anew resources us (term_letters resources (position part n) x.value) (term_plain resources (position part n) x.value),
  λ us rest f g. scope_anew (entry_of w.env (next_local w.env kind name x.target)) (position part n) w.env.in_use (w.env.in_use + 1) us rest refl (next_is w.env.in_use) f g,
)

exchanged_fine : (part : BodyPart) (w : Surroundings) (n : ℕ) (kind : VariableKind) (name : Name) (p : Target) (t : PureType) (x : Typing) → Fine part w (exchanged w.env n kind name p t x)
exchanged_fine part w n kind name p t x = (
  λ us f. plain_anew resources us (statement_letters resources part (e.exchange n (entry_of w.env (next_local w.env kind name t)) p.place p.type x.term))
      (plain_three (target_letters resources (position part n) p.place) (term_letters resources (position part n) x.term) (fill_letters resources (position part n) p.place)
      (target_plain resources (position part n) p.place) (term_plain resources (position part n) x.term) (fill_plain resources (position part n) p.place)),
  λ us rest f g. scope_anew (entry_of w.env (next_local w.env kind name t)) (position part n) w.env.in_use (w.env.in_use + 1) us rest refl (next_is w.env.in_use) f g,
)

exchange_fine : (part : BodyPart) (w : Surroundings) (n : ℕ) (kind : VariableKind) (name : Name) (written : Option s.Annotation) (place a : s.ExprTree) → Each (Fine part w) (exchange w.env n kind name written place a)
exchange_fine part w n kind name written place a =
    each_bind (Fine part w) (infer_target w.env place)
    (λ p. type_for w.env written p.type >=> (λ t. infer_moved w.env sign.Move p.type a >=> (λ x. Some (exchanged w.env n kind name p t x))))
    (λ p. each_bind (Fine part w) (type_for w.env written p.type) (λ t. infer_moved w.env sign.Move p.type a >=> (λ x. Some (exchanged w.env n kind name p t x)))
    (λ t. each_bind (Fine part w) (infer_moved w.env sign.Move p.type a) (λ x. Some (exchanged w.env n kind name p t x)) (λ x. exchanged_fine part w n kind name p t x)))

declaration_fine : (part : BodyPart) (w : Surroundings) (n : ℕ) (kind : VariableKind) (name : Name) (written : Option s.Annotation) (by : Transfer) (a : s.ExprTree) (second : Option s.SecondTree)
    → Each (Fine part w) (declaration w.env n kind name written by a second)
declaration_fine part w n kind name written by a None =
    each_when (Fine part w) (may_declare by && is_free w.env name) (declared_value w.env by written a >=> (λ x. Some (form.declared w.env n kind name x)))
    (each_bind (Fine part w) (declared_value w.env by written a) (λ x. Some (form.declared w.env n kind name x)) (λ x. declared_fine part w n kind name x))
declaration_fine part w n kind name written by a (Some second) =
    each_when (Fine part w) (is_move_sign by && (is_move_sign second.transfer && is_free w.env name)) (exchange w.env n kind name written a second.value)
    (exchange_fine part w n kind name written a second.value)

-- ---- tests

-- a test's variable has the next number
abbrev pub Next : Environment → TestTyping → Type 0
Next env (plain_test x) = Unit {0}
Next env (content_test v x t) = v.number ≡ env.in_use
Next env (cast_test v p t) = v.number ≡ env.in_use

content_next : (env : Environment) (kind : VariableKind) (name : Name) (written : Option s.Annotation) (by : Transfer) (a : s.ExprTree) → Each (Next env) (content_of_value env kind name written by a)
content_next env kind name None by a =
    each_bind (Next env) (infer_declared env by a) (λ x. content x.type >=> (λ t. Some (content_test (next_local env kind name t) x.term x.type)))
    (λ x. each_bind (Next env) (content x.type) (λ t. Some (content_test (next_local env kind name t) x.term x.type)) (λ t. refl))
content_next env kind name (Some written) by a =
    each_bind (Next env) (resolved_annotation (environment.scope env) written)
    (λ t. infer_moved env by (optional t) a >=> (λ x. when (is_optional_type x.type) (Some (content_test (next_local env kind name t) x.term (optional t)))))
    (λ t. each_bind (Next env) (infer_moved env by (optional t) a) (λ x. when (is_optional_type x.type) (Some (content_test (next_local env kind name t) x.term (optional t))))
    (λ x. each_when (Next env) (is_optional_type x.type) (Some (content_test (next_local env kind name t) x.term (optional t))) refl))

variable_next : (env : Environment) (kind : VariableKind) (name : Name) (written : Option s.Annotation) (a : s.ExprTree) (t : PureType) → Each (Next env) (cast_of_variable env kind name written a t)
variable_next env kind name written a t =
    each_bind (Next env) (infer_variable env a)
    (λ v. when (may_be_cast (kinds env) v.type t) (type_for env written t >=> (λ u. Some (cast_test (next_local env kind name u) (e.variable v.number) t))))
    (λ v. each_when (Next env) (may_be_cast (kinds env) v.type t) (type_for env written t >=> (λ u. Some (cast_test (next_local env kind name u) (e.variable v.number) t)))
    (each_bind (Next env) (type_for env written t) (λ u. Some (cast_test (next_local env kind name u) (e.variable v.number) t)) (λ u. refl)))

each_if : {A : Type 0} (P : A → Type 0) (c : Bool) (o p : Option A) → Each P o → Each P p → Each P (if c then o else p)
each_if P true o p h i = h
each_if P false o p h i = i

cast_next : (env : Environment) (kind : VariableKind) (name : Name) (written : Option s.Annotation) (by : Transfer) (a : s.ExprTree) (to : s.Annotation) (t : PureType)
    → Each (Next env) (cast_or_content env kind name written by a to t)
cast_next env kind name written by a to t =
    each_if (Next env) (resource (kinds env) t) (when (is_move_sign by) (cast_of_variable env kind name written a t)) (content_of_value env kind name written by (s.cast cast.Failable a to))
    (each_when (Next env) (is_move_sign by) (cast_of_variable env kind name written a t) (variable_next env kind name written a t))
    (content_next env kind name written by (s.cast cast.Failable a to))

bound_next : (env : Environment) (kind : VariableKind) (name : Name) (written : Option s.Annotation) (by : Transfer) (a : s.ExprTree) → Each (Next env) (bound_value env kind name written by a)
bound_next env kind name written by (s.cast cast.Failable a to) =
    each_bind (Next env) (resolved_annotation (environment.scope env) to) (cast_or_content env kind name written by a to) (λ t. cast_next env kind name written by a to t)
bound_next env kind name written by a = content_next env kind name written by a

test_next : (env : Environment) (x : s.TestTree) → Each (Next env) (test_typing env x)
test_next env (s.expression_test a) = each_bind (Next env) (infer_test env a) (λ x. Some (plain_test x.term)) (λ x. tt)
test_next env (s.binding kind name written by a) = each_when (Next env) (may_declare by) (bound_value env kind name written by a) (bound_next env kind name written by a)

-- ---- forms with statements in them

pub seq_anew : (us : List ℕ) (x y : PathBody) → Anew us x → Anew us y → Anew us (seq x y)
seq_anew us x y h i = and_from (declares_anew us x) (declares_anew us y) h i

either_anew : (us : List ℕ) (x y : PathBody) → Anew us x → Anew us y → Anew us (either x y)
either_anew us x y h i = and_from (declares_anew us x) (declares_anew us y) h i

term_anew : (us : List ℕ) (part : BodyPart) (n : ℕ) (x : e.TermTree) → Anew us (term_letters resources (position part n) x)
term_anew us part n x = plain_anew resources us (term_letters resources (position part n) x) (term_plain resources (position part n) x)

if_let_anew : (us : List ℕ) (at : Position) (o : Option ℕ) (x a c : PathBody) → Anew us x → Anew us a → Anew us c → Anew us (if_let_letters resources at o x a c)
if_let_anew us at None x a c h i j = seq_anew us x (either a c) h (either_anew us a c i j)
if_let_anew us at (Some v) x a c h i j =
    either_anew us (seq (variable_letters resources Spend at v) a) (seq (variable_letters resources Empty at v) c)
    (seq_anew us (variable_letters resources Spend at v) a refl i) (seq_anew us (variable_letters resources Empty at v) c refl j)

-- what a statement with blocks owes: it declares nothing behind it
abbrev pub BlocksFine : BodyPart → ℕ → e.StatementTree → Type 0
BlocksFine part m t = ((us : List ℕ) → AreBelow us m → Anew us (statement_letters resources part t)) × ((rest : PathBody) → scope_behind resources part t rest ≡ rest)

blocks_fine : (part : BodyPart) (w : Surroundings) (t : e.StatementTree) → BlocksFine part w.env.in_use t → Fine part w (alone t)
blocks_fine part w t h = (h.0, λ us rest f g. subst (λ z. Anew us z) (sym (h.1 rest)) (g us f))

-- a block that begins with more variables in use
pub inner : (part : BodyPart) (m k : ℕ) (a : e.BlockTree) → m ≤ k → BlockFine part k a → BlockFine part m a
inner part m k a h f us g = f us (below_more us m k h g)

if_fine : (part : BodyPart) (env : Environment) (n k j : ℕ) (x : TestTyping) (a c : e.BlockTree) → Next env x → env.in_use + length (test_locals x) ≤ k → env.in_use ≤ j → BlockFine part k a → BlockFine part j c → BlocksFine part env.in_use (test_tree env n x a c)
if_fine part env n k j (plain_test x) a c h i l f g = (
  λ us d. seq_anew us (term_letters resources (position part n) x) (either (block_letters resources part a) (block_letters resources part c)) (term_anew us part n x)
      (either_anew us (block_letters resources part a) (block_letters resources part c) (inner part env.in_use k a (omega arith) f us d) (inner part env.in_use j c l g us d)),
  λ rest. refl,
)
if_fine part env n k j (content_test v x t) a c h i l f g = (
  λ us d. if_let_anew us (position part n) (taken_variable x) (term_letters resources (position part n) x) (b.declared resources (entry_of env v) (position part n) (block_letters resources part a)) (block_letters resources part c)
      (term_anew us part n x) (scope_anew (entry_of env v) (position part n) env.in_use k us (block_letters resources part a) h (omega arith) d (λ vs y. f vs y)) (inner part env.in_use j c l g us d),
  λ rest. refl,
)
if_fine part env n k j (cast_test v p t) a c h i l f g = (
  λ us d. either_anew us (seq (take_letters resources (position part n) p (place_letters resources (position part n) p)) (b.declared resources (entry_of env v) (position part n) (block_letters resources part a)))
      (seq (place_letters resources (position part n) p) (block_letters resources part c))
      (seq_anew us (take_letters resources (position part n) p (place_letters resources (position part n) p)) (b.declared resources (entry_of env v) (position part n) (block_letters resources part a))
      (plain_anew resources us (take_letters resources (position part n) p (place_letters resources (position part n) p)) (take_plain resources (position part n) p (place_letters resources (position part n) p) (place_plain resources (position part n) p)))
      (scope_anew (entry_of env v) (position part n) env.in_use k us (block_letters resources part a) h (omega arith) d (λ vs y. f vs y)))
      (seq_anew us (place_letters resources (position part n) p) (block_letters resources part c) (plain_anew resources us (place_letters resources (position part n) p) (place_plain resources (position part n) p)) (inner part env.in_use j c l g us d)),
  λ rest. refl,
)

while_fine : (part : BodyPart) (n m k : ℕ) (x : e.TermTree) (a : e.BlockTree) → m ≤ k → BlockFine part k a → BlocksFine part m (e.while_loop n x a)
while_fine part n m k x a h f = (
  λ us d. seq_anew us (term_letters resources (position part n) x) (loop (seq (block_letters resources part a) (term_letters resources (position part n) x))) (term_anew us part n x)
      (seq_anew us (block_letters resources part a) (term_letters resources (position part n) x) (inner part m k a h f us d) (term_anew us part n x)),
  λ rest. refl,
)

for_fine : (part : BodyPart) (env : Environment) (n k : ℕ) (x : ForTyping) (a : e.BlockTree) → env.in_use ≤ k → BlockFine part k a → BlocksFine part env.in_use (for_tree env n x a)
for_fine part env n k x a h f =
    (λ us d. seq_anew us (term_letters resources (position part n) x.array) (block_letters resources part a) (term_anew us part n x.array) (inner part env.in_use k a h f us d), λ rest. refl)

-- blocks of cases
abbrev pub AllFine : BodyPart → ℕ → List e.BlockTree → Type 0
AllFine part m [] = Unit {0}
AllFine part m (a ∷ all) = BlockFine part m a × AllFine part m all

cases_anew : (part : BodyPart) (m n : ℕ) (us : List ℕ) (xs : List e.TermTree) (all : List e.BlockTree) (otherwise : PathBody) → AreBelow us m → AllFine part m all → Anew us otherwise
    → Anew us (cases_letters resources part n (cases_with xs all) otherwise)
cases_anew part m n us [] all otherwise d f h = h
cases_anew part m n us (x ∷ xs) [] otherwise d f h = h
cases_anew part m n us (x ∷ xs) (a ∷ all) otherwise d f h =
    seq_anew us (term_letters resources (position part n) x) (either (block_letters resources part a) (cases_letters resources part n (cases_with xs all) otherwise)) (term_anew us part n x)
    (either_anew us (block_letters resources part a) (cases_letters resources part n (cases_with xs all) otherwise) (f.0 us d) (cases_anew part m n us xs all otherwise d f.1 h))

switch_fine : (part : BodyPart) (m n : ℕ) (x : SwitchTyping) (all : List e.BlockTree) (c : e.BlockTree) → AllFine part m all → BlockFine part m c → BlocksFine part m (e.switch n x.value (cases_with x.cases all) c)
switch_fine part m n x all c f g = (
  λ us d. seq_anew us (term_letters resources (position part n) x.value) (cases_letters resources part n (cases_with x.cases all) (block_letters resources part c)) (term_anew us part n x.value)
      (cases_anew part m n us x.cases all (block_letters resources part c) d f (g us d)),
  λ rest. refl,
)

-- ---- all statements

-- a block in a scope of its own begins with as many in use as there are outside it, and its variables
abbrev pub begins_at : List Local → Surroundings → ℕ
begins_at locals w = (in_block locals w).env.in_use

pub block_fine : (part : BodyPart) (locals : List Local) (w : Surroundings) (all : Surroundings → Result e.Statements ℕ) → Every (AreFine part (begins_at locals w)) (all (in_block locals w)) → Every (BlockFine part (begins_at locals w)) (block_in locals w all)
block_fine part locals w all h = every_bind (AreFine part (begins_at locals w)) (BlockFine part (begins_at locals w)) (all (in_block locals w)) (λ xs. Ok (e.block (in_block locals w).env.in_use xs)) h (λ xs f. f)

pub no_less : (m : ℕ) (locals : List Local) (w : Surroundings) → m ≡ w.env.in_use → m ≤ begins_at locals w
no_less m locals w e = omega arith

as_many : (locals : List Local) (w : Surroundings) → w.env.in_use + length locals ≤ begins_at locals w
as_many locals w = omega arith

mutual
  statement_fine : (part : BodyPart) (w : Surroundings) (n : ℕ) (x : s.StmtTree) → Every (Fine part w) (type_statement w n x)
  statement_fine part w n (s.variable kind name written by a second) =
      every_or (Fine part w) (declaration w.env n kind name written by a second) n (declaration_fine part w n kind name written by a second)
  statement_fine part w n (s.if_else test body otherwise) =
      every_bind (Next w.env) (Fine part w) (ok_or (test_typing w.env test) n) _ (every_or (Next w.env) (test_typing w.env test) n (test_next w.env test))
      (λ x h. every_bind (BlockFine part (begins_at (test_locals x) w)) (Fine part w) (block_in (test_locals x) w (λ v. type_statements v (suc n) body)) _
      (block_fine part (test_locals x) w (λ v. type_statements v (suc n) body) (statements_fine part (in_block (test_locals x) w) (suc n) body))
      (λ a f. every_bind (BlockFine part (begins_at [] w)) (Fine part w) (type_otherwise w (suc n + count_all body) otherwise) _ (otherwise_fine part w (suc n + count_all body) otherwise)
      (λ c g. blocks_fine part w (test_tree w.env n x a c) (if_fine part w.env n (begins_at (test_locals x) w) (begins_at [] w) x a c h (as_many (test_locals x) w) (no_less w.env.in_use [] w refl) f g))))
  statement_fine part w n (s.while_loop test body) =
      every_bind (λ (x : Typing). Unit {0}) (Fine part w) (ok_or (infer_test w.env test) n) _ (every_or (λ (x : Typing). Unit {0}) (infer_test w.env test) n (anything (infer_test w.env test)))
      (λ x h. every_bind (BlockFine part (begins_at [] (in_loop w))) (Fine part w) (block_in [] (in_loop w) (λ v. type_statements v (suc n) body)) _
      (block_fine part [] (in_loop w) (λ v. type_statements v (suc n) body) (statements_fine part (in_block [] (in_loop w)) (suc n) body))
      (λ a f. blocks_fine part w (e.while_loop n x.term a) (while_fine part n w.env.in_use (begins_at [] (in_loop w)) x.term a (no_less w.env.in_use [] (in_loop w) refl) f)))
  statement_fine part w n (s.for_loop index name a body) =
      every_bind (λ (x : ForTyping). Unit {0}) (Fine part w) (ok_or (for_typing w.env index name a) n) _ (every_or (λ (x : ForTyping). Unit {0}) (for_typing w.env index name a) n (anything (for_typing w.env index name a)))
      (λ x h. every_bind (BlockFine part (begins_at (for_locals x) (in_loop w))) (Fine part w) (block_in (for_locals x) (in_loop w) (λ v. type_statements v (suc n) body)) _
      (block_fine part (for_locals x) (in_loop w) (λ v. type_statements v (suc n) body) (statements_fine part (in_block (for_locals x) (in_loop w)) (suc n) body))
      (λ c f. blocks_fine part w (for_tree w.env n x c) (for_fine part w.env n (begins_at (for_locals x) (in_loop w)) x c (no_less w.env.in_use (for_locals x) (in_loop w) refl) f)))
  statement_fine part w n (s.switch a all otherwise) =
      every_bind (λ (x : SwitchTyping). Unit {0}) (Fine part w) (ok_or (switch_typing w.env a all) n) _ (every_or (λ (x : SwitchTyping). Unit {0}) (switch_typing w.env a all) n (anything (switch_typing w.env a all)))
      (λ x h. every_bind (AllFine part w.env.in_use) (Fine part w) (type_cases (in_switch w) (suc n) all) _ (cases_fine part (in_switch w) (suc n) all)
      (λ bs f. every_bind (BlockFine part w.env.in_use) (Fine part w) (type_default (in_switch w) (suc n + count_cases all) otherwise) _ (default_fine part (in_switch w) (suc n + count_cases all) otherwise)
      (λ c g. blocks_fine part w (e.switch n x.value (cases_with x.cases bs) c) (switch_fine part w.env.in_use n x bs c f g))))
  statement_fine part w n s.break_loop = single_fine part w n (when w.may_break (Some (e.break_loop n))) (each_when (Bare part) w.may_break (Some (e.break_loop n)) (refl, λ rest. refl))
  statement_fine part w n s.continue_loop = single_fine part w n (when w.may_continue (Some (e.continue_loop n))) (each_when (Bare part) w.may_continue (Some (e.continue_loop n)) (refl, λ rest. refl))
  statement_fine part w n (s.return_value a) = single_fine part w n (returned w.env w.result n a) (returned_bare part w.env w.result n a)
  statement_fine part w n (s.emit a) = single_fine part w n (emitted w.env n a) (emitted_bare part w.env n a)
  statement_fine part w n (s.assignment place by a) = single_fine part w n (assignment w.env n place by a) (assignment_bare part w.env n place by a)
  statement_fine part w n (s.swap a c) = single_fine part w n (swap w.env n a c) (swap_bare part w.env n a c)
  statement_fine part w n (s.expression a) = single_fine part w n (evaluated w.env n a) (evaluated_bare part w.env n a)

  pub statements_fine : (part : BodyPart) (w : Surroundings) (n : ℕ) (all : s.Stmts) → Every (AreFine part w.env.in_use) (type_statements w n all)
  statements_fine part w n s.no_stmts = λ us f. refl
  statements_fine part w n (s.stmts x all) =
      every_bind (Fine part w) (AreFine part w.env.in_use) (type_statement w n x) _ (statement_fine part w n x)
      (λ y f. every_bind (AreFine part (behind_statement y w).env.in_use) (AreFine part w.env.in_use) (type_statements (behind_statement y w) (n + count x) all) _
      (statements_fine part (behind_statement y w) (n + count x) all)
      (λ ys g us d. seq_anew us (statement_letters resources part y.tree) (scope_behind resources part y.tree (statements_letters resources part ys)) (f.0 us d) (f.1 us (statements_letters resources part ys) d g)))

  otherwise_fine : (part : BodyPart) (w : Surroundings) (n : ℕ) (x : s.OtherwiseTree) → Every (BlockFine part (begins_at [] w)) (type_otherwise w n x)
  otherwise_fine part w n s.nothing = block_fine part [] w (λ v. Ok e.no_statements) (λ us f. refl)
  otherwise_fine part w n (s.else_block body) = block_fine part [] w (λ v. type_statements v n body) (statements_fine part (in_block [] w) n body)
  otherwise_fine part w n (s.else_if x) =
      block_fine part [] w (λ v. type_statement v n x >>= (λ y. Ok (e.statements y.tree e.no_statements)))
      (every_bind (Fine part (in_block [] w)) (AreFine part (begins_at [] w)) (type_statement (in_block [] w) n x) (λ y. Ok (e.statements y.tree e.no_statements)) (statement_fine part (in_block [] w) n x)
      (λ y f us d. seq_anew us (statement_letters resources part y.tree) (scope_behind resources part y.tree skip) (f.0 us d) (f.1 us skip d (λ vs g. refl))))

  cases_fine : (part : BodyPart) (w : Surroundings) (n : ℕ) (all : s.Cases) → Every (AllFine part w.env.in_use) (type_cases w n all)
  cases_fine part w n s.no_cases = tt
  cases_fine part w n (s.cases a body all) =
      every_bind (BlockFine part (begins_at [] w)) (AllFine part w.env.in_use) (block_in [] w (λ v. type_statements v n body)) _
      (block_fine part [] w (λ v. type_statements v n body) (statements_fine part (in_block [] w) n body))
      (λ c f. every_bind (AllFine part w.env.in_use) (AllFine part w.env.in_use) (type_cases w (n + count_all body) all) _ (cases_fine part w (n + count_all body) all)
      (λ bs g. (inner part w.env.in_use (begins_at [] w) c (no_less w.env.in_use [] w refl) f, g)))

  default_fine : (part : BodyPart) (w : Surroundings) (n : ℕ) (x : s.Default) → Every (BlockFine part w.env.in_use) (type_default w n x)
  default_fine part w n s.no_default =
      every_map (BlockFine part (begins_at [] w)) (BlockFine part w.env.in_use) (empty_block w) (λ c f. inner part w.env.in_use (begins_at [] w) c (no_less w.env.in_use [] w refl) f)
      (block_fine part [] w (λ v. Ok e.no_statements) (λ us f. refl))
  default_fine part w n (s.default body) =
      every_map (BlockFine part (begins_at [] w)) (BlockFine part w.env.in_use) (block_in [] w (λ v. type_statements v n body)) (λ c f. inner part w.env.in_use (begins_at [] w) c (no_less w.env.in_use [] w refl) f)
      (block_fine part [] w (λ v. type_statements v n body) (statements_fine part (in_block [] w) n body))

-- ---- functions

from_start_anew : (env : Environment) (at : Position) (n : ℕ) (ps : List ParameterType) (us : List ℕ) (a : PathBody) → AreBelow us n → ((vs : List ℕ) → AreBelow vs (n + length ps) → Anew vs a)
    → Anew us (from_start (entries_of env (locals_from n ps)) at a)
from_start_anew env at n [] us a f g = g us (below_more us n (n + length {A = ParameterType} []) (omega arith) f)
from_start_anew env at n (p ∷ ps) us a f g =
    scope_anew (entry_of env (record { number = n; name = p.name; type = p.type; is_var = false })) at n (suc n) us (from_start (entries_of env (locals_from (suc n) ps)) at a) refl (omega arith) f
    (λ vs h. from_start_anew env at (suc n) ps vs a h (λ ks i. g ks (subst (λ z. AreBelow ks z) (suc_in n (length ps)) i)))

optional_fine : (w : Surroundings) (n : ℕ) (o : Option (List s.StmtTree)) → Every (λ x. (us : List ℕ) → AreBelow us w.env.in_use → Anew us (part_letters resources Whole x)) (type_optional_body w n o)
optional_fine w n None = λ us f. refl
optional_fine w n (Some all) =
    every_bind (BlockFine Whole (begins_at [] w)) (λ x. (us : List ℕ) → AreBelow us w.env.in_use → Anew us (part_letters resources Whole x)) (type_body w n all) (λ x. Ok (Some x))
    (block_fine Whole [] w (λ v. type_statements v n (s.stmts_of all)) (statements_fine Whole (in_block [] w) n (s.stmts_of all)))
    (λ x f us g. inner Whole w.env.in_use (begins_at [] w) x (no_less w.env.in_use [] w refl) f us g)

inner_anew : (us : List ℕ) (f : e.FunctionBody) → Anew us (part_letters resources Whole f.body) → Anew us (inner_letters resources f)
inner_anew us f h =
    seq_anew us (before_letters resources Whole f.before) (seq (conditions_letters resources Whole f.pre) (seq (part_letters resources Whole f.body) (seq (conditions_letters resources Whole f.post) (ending (has_no_block f.body)))))
    (plain_anew resources us (before_letters resources Whole f.before) (before_plain resources Whole f.before))
    (seq_anew us (conditions_letters resources Whole f.pre) (seq (part_letters resources Whole f.body) (seq (conditions_letters resources Whole f.post) (ending (has_no_block f.body))))
    (plain_anew resources us (conditions_letters resources Whole f.pre) (conditions_plain resources Whole f.pre))
    (seq_anew us (part_letters resources Whole f.body) (seq (conditions_letters resources Whole f.post) (ending (has_no_block f.body))) h
    (plain_anew resources us (seq (conditions_letters resources Whole f.post) (ending (has_no_block f.body)))
    (plain_both (conditions_letters resources Whole f.post) (ending (has_no_block f.body)) (conditions_plain resources Whole f.post) (ending_plain resources (has_no_block f.body))))))

length_map : {A B : Type 0} (f : A → B) (xs : List A) → length (map f xs) ≡ length xs
length_map f [] = refl
length_map f (x ∷ xs) = ap suc (length_map f xs)

-- the parameters of a routine are numbered from 0, and its statements begin behind them
routine_anew : (tables : ProgramTables) (r : Routine) (pre post : List e.ConditionBody) (body : Option e.BlockTree)
    → ((us : List ℕ) → AreBelow us (body_surroundings tables r).env.in_use → Anew us (part_letters resources Whole body)) → Anew [] (function_letters (routine_body tables r pre post body))
routine_anew tables r pre post body h =
    from_start_anew (before_environment tables r) (position Whole (routine_body tables r pre post body).statements) 0 (parameter_types (scope_of tables) r.parameters) []
    (inner_letters resources (routine_body tables r pre post body)) (none_below 0)
    (λ us f. inner_anew us (routine_body tables r pre post body) (h us (subst (λ z. AreBelow us z) (count_is (parameter_types (scope_of tables) r.parameters) (length r.parameters) (length_map _ r.parameters)) f)))

function_anew : (tables : ProgramTables) (r : Routine) → Every (λ f. Anew [] (function_letters f)) (type_routine tables r)
function_anew tables r = by_head (head_is_right (scope_of tables) r)
  where
    parts : Every (λ f. Anew [] (function_letters f)) (type_parts tables r)
    parts =
        every_bind (λ (x : List e.ConditionBody). Unit {0}) (λ f. Anew [] (function_letters f)) (type_conditions (before_environment tables r) 0 r.pre) _ (all_right (type_conditions (before_environment tables r) 0 r.pre))
        (λ pre h. every_bind (λ (x : List e.ConditionBody). Unit {0}) (λ f. Anew [] (function_letters f)) (type_conditions (after_environment tables r) (length r.pre) r.post) _ (all_right (type_conditions (after_environment tables r) (length r.pre) r.post))
        (λ post i. every_bind (λ x. (us : List ℕ) → AreBelow us (body_surroundings tables r).env.in_use → Anew us (part_letters resources Whole x)) (λ f. Anew [] (function_letters f))
        (type_optional_body (body_surroundings tables r) (count_conditions r) r.body) (λ body. Ok (routine_body tables r pre post body)) (optional_fine (body_surroundings tables r) (count_conditions r) r.body)
        (λ body j. routine_anew tables r pre post body j)))

    by_head : (c : Bool) → Every (λ f. Anew [] (function_letters f)) (if c then type_parts tables r else Err 0)
    by_head true = parts
    by_head false = tt

pub functions_marked : FunctionsHaveMarks
functions_marked tables r f e l h = linear_marked (function_letters f) (every_ok (λ f. Anew [] (function_letters f)) (type_routine tables r) f e (function_anew tables r)) l h
