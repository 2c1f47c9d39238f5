-- Calls, by what is called.
use Rattle.std.proofs.Common.{◌≡◌, refl, sym, ap, ◌∙◌, subst}
use Rattle.std.specs.Global.{Box}
use Rattle.std.specs.Prelude.{ℕ, suc, Bool, true, false, List, [], map, Option, Some, None, Result, Ok, Err, MatchOption}
use Rattle.cad_calls.specs.Code.Results.{content_of}
use Rattle.cad_calls.specs.Pieces.{own_of, initializer_in}
use Rattle.cad_declarations.specs.Typed.{TypeBody}
use Rattle.cad_declarations.specs.Views.{member_body_of}
use Rattle.cad_declarations.specs.declared.program.Checked.{Checked}
use Rattle.cad_world.specs.Declared.{bodies_of, function_in}
use Rattle.cad_evaluation.specs.Bodies as spec
use Rattle.cad_evaluation.specs.Callees.{Callee, method, function, initializer, Calls, Front}
use Rattle.cad_evaluation.specs.Evaluation.{run, outside, making, called, calls_to}
use Rattle.cad_evaluation.specs.Making.{initializer_of}
use Rattle.cad_execution.specs.Passed.{tree_in}
use Rattle.cad_function_sources.specs.Sources.{bodies_in}
use Rattle.cad_function_sources.specs.declared.sources.Source.{Source}
use Rattle.cad_outcomes.specs.declared.stop.Stop.{Stop}
use Rattle.cad_rows.specs.Views.{pure_tree}
use Rattle.cad_rows.specs.declared.tree.Tree.{Tree}
use Rattle.cad_state.proofs.Finding.{find_same}
use Rattle.cad_state.specs.Views.{FindsAndCarriesOut}
use Rattle.cad_state.specs.declared.state.RunState.{RunState}
use Rattle.cad_access.specs.RunContracts.{run_of}
use Rattle.cad_syntax.specs.declared.text.Name.{Name}
use Rattle.cad_syntax.specs.declared.type_id.TypeId.{TypeId}
use Rattle.cad_world.specs.Rows as rows
use Rattle.cad_world.specs.Rows.{Row}
use Rattle.cad_world.specs.State.{Action}

-- a source has what the state has
pub found_own : (name : Name) (id : TypeId) (o : Option Source) (bodies : Option TypeBody)
    → MatchOption o (bodies ≡ None) (λ x. (x.id ≡ id) × (bodies_in x ≡ bodies)) → own_of name o ≡ spec.piece_in id name bodies
found_own name id None bodies is = ap (λ b. spec.piece_in id name b) (sym is)
found_own name id (Some x) bodies is = ap (λ i. spec.piece_in i name (bodies_in x)) is.0 ∙ ap (λ b. spec.piece_in id name b) is.1

-- the same declarations run the same way
pub run_as : (front : Front) (calls : Calls) (n : ℕ) (self : Option ℕ) (initializes : Bool) (a b : Option spec.Piece) (ps qs : List spec.Piece) (row : Row) (x z : RunState) (r : Result (Box Tree) Stop)
    → a ≡ b → ps ≡ qs → FindsAndCarriesOut tree_in (run front calls n self initializes a ps row) x z r → FindsAndCarriesOut tree_in (run front calls n self initializes b qs row) x z r
run_as front calls n self initializes a b ps qs row x z r own others h =
    subst (λ (o : Option spec.Piece). FindsAndCarriesOut tree_in (run front calls n self initializes o qs row) x z r) own
    (subst (λ (l : List spec.Piece). FindsAndCarriesOut tree_in (run front calls n self initializes a l row) x z r) others h)

pub method_called : (front : Front) (calls : Calls) (n : ℕ) (id : TypeId) (name : Name) (l : ℕ) (own : Option spec.Piece) (row : Row) (x z : RunState) (r : Result (Box Tree) Stop)
    → own ≡ spec.own_piece (run_of x) name id → FindsAndCarriesOut tree_in (run front calls n (Some l) false own (spec.inherited (run_of x) name id) row) x z r
    → FindsAndCarriesOut tree_in (called front calls n (method id name l) row) x z r
method_called front calls n id name l own row x z r is h =
    find_same tree_in (called front calls n (method id name l) row) (run front calls n (Some l) false (spec.own_piece (run_of x) name id) (spec.inherited (run_of x) name id) row) x z r (λ w ready. refl)
    (subst (λ (o : Option spec.Piece). FindsAndCarriesOut tree_in (run front calls n (Some l) false o (spec.inherited (run_of x) name id) row) x z r) is h)

pub found_initializer : (id : TypeId) (o : Option Source) (bodies : Option TypeBody)
    → MatchOption o (bodies ≡ None) (λ x. (x.id ≡ id) × (bodies_in x ≡ bodies)) → initializer_in o ≡ making id (initializer_of bodies)
found_initializer id None bodies is = ap (λ b. making id (initializer_of b)) (sym is)
found_initializer id (Some x) bodies is = ap (λ i. making i (initializer_of (bodies_in x))) is.0 ∙ ap (λ b. making id (initializer_of b)) is.1

pub initializer_called : (front : Front) (calls : Calls) (n : ℕ) (id : TypeId) (l : ℕ) (own : Option spec.Piece) (row : Row) (x z : RunState) (r : Result (Box Tree) Stop)
    → own ≡ making id (initializer_of (bodies_of (run_of x) id)) → FindsAndCarriesOut tree_in (run front calls n (Some l) true own [] row) x z r
    → FindsAndCarriesOut tree_in (called front calls n (initializer id l) row) x z r
initializer_called front calls n id l own row x z r is h =
    find_same tree_in (called front calls n (initializer id l) row) (run front calls n (Some l) true (making id (initializer_of (bodies_of (run_of x) id))) [] row) x z r (λ w ready. refl)
    (subst (λ (o : Option spec.Piece). FindsAndCarriesOut tree_in (run front calls n (Some l) true o [] row) x z r) is h)

-- what was given, out of its box
pub content_found : (p : Action rows.Tree) (x y : RunState) (given : Result (Box Tree) Stop) (r : Result Tree Stop) → r ≡ content_of given
    → FindsAndCarriesOut tree_in p x y given → FindsAndCarriesOut pure_tree p x y r
content_found p x y (Ok b) r is h = subst (λ (q : Result Tree Stop). FindsAndCarriesOut pure_tree p x y q) (sym is) h
content_found p x y (Err stop) r is h = subst (λ (q : Result Tree Stop). FindsAndCarriesOut pure_tree p x y q) (sym is) h

pub level_below : (front : Front) (n fuel : ℕ) (callee : Callee) (row : Row) (x z : RunState) (r : Result (Box Tree) Stop) → fuel ≡ suc n
    → FindsAndCarriesOut tree_in (called front (calls_to front n) n callee row) x z r → FindsAndCarriesOut tree_in (calls_to front fuel callee row) x z r
level_below front n fuel callee row x z r is h = subst (λ (k : ℕ). FindsAndCarriesOut tree_in (calls_to front k callee row) x z r) (sym is) h

pub function_called : (front : Front) (calls : Calls) (n : ℕ) (name : Name) (held : Checked) (row : Row) (x z : RunState) (r : Result (Box Tree) Stop) → held ≡ x.checked.value
    → FindsAndCarriesOut tree_in (run front calls n None false (outside (function_in (map member_body_of held.bodies.functions.items) name)) [] row) x z r
    → FindsAndCarriesOut tree_in (called front calls n (function name) row) x z r
function_called front calls n name held row x z r is h =
    find_same tree_in (called front calls n (function name) row) (run front calls n None false (outside (function_in (map member_body_of x.checked.value.bodies.functions.items) name)) [] row) x z r (λ w ready. refl)
    (subst (λ (k : Checked). FindsAndCarriesOut tree_in (run front calls n None false (outside (function_in (map member_body_of k.bodies.functions.items) name)) [] row) x z r) is h)
