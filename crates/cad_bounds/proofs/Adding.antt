-- Adding: the same while the units last.
use Rattle.std.specs.Prelude.{ℕ, not, ◌==◌, List, [], ◌∷◌, length, option_and_then}
use Rattle.cad_syntax.specs.Types.{PureType}
use Rattle.cad_syntax.specs.declared.address.Address.{Address}
use Rattle.cad_syntax.specs.declared.type_id.TypeId.{TypeId}
use Rattle.cad_types.specs.Declarations.{Declaration}
use Rattle.cad_types.specs.Optionals.{fits}
use Rattle.cad_world.specs.Declared.{bodies_of}
use Rattle.cad_world.specs.Fronts.{Verdict, accepted, refused, unknown, judged}
use Rattle.cad_world.specs.Labels.{value_in}
use Rattle.cad_world.specs.Rows.{Row, stop, node, first, back, count_places}
use Rattle.cad_world.specs.State.{Contract, Program, Action, fail}
use Rattle.cad_world.specs.Transfers.{come_to}
use Rattle.cad_evaluation.specs.Arguments.{argument}
use Rattle.cad_evaluation.specs.Callees.{Calls}
use Rattle.cad_evaluation.specs.Making.{initializer_of}
use Rattle.cad_evaluation.specs.Texts.{text_in, bytes_in}
use Rattle.std.proofs.Common.{◌≡◌, ◌≢◌, refl, ap, subst}
use Rattle.cad_evaluation.specs.Adding.{contract_named, is_taken, standing, is_contract_of, new_contract, declarations_with, initializer_types, all_fitted, fitted, begin_contract, is_whole, finish_contract, initialize_contract, install, install_program, add_contract, add}
use Rattle.cad_bounds.proofs.Same.{Runs, Same, Now, self_units, same_self, same_give, same_fail, same_stuck, same_some, same_guard, same_require, same_bind}
use Rattle.cad_bounds.proofs.Accounts.{same_there}
use Rattle.cad_bounds.proofs.Casts.{same_with_type}
use Rattle.cad_bounds.proofs.Making.{same_initialized}

pub same_all_fitted : (R : Runs) (x1 : List Declaration) (x2 : List PureType) (x3 : Row) → Same R (all_fitted x1 x2 x3) (all_fitted x1 x2 x3)
same_all_fitted R k [] stop = same_give R stop
same_all_fitted R k (type ∷ types) (node l n s parts r) = same_with_type R (record { optionals = n; shape = s; parts = parts }) _ _ (λ own. (same_require R 125 (fits k own type) _ _ (same_bind R _ _ _ _ (same_all_fitted R k types r) (λ rest. (same_give R (first (come_to type (record { optionals = n; shape = s; parts = parts })) rest))))))
same_all_fitted R k types r = same_fail R 125

pub same_fitted : (R : Runs) (x1 : List Declaration) (x2 : List PureType) (x3 : Row) → Same R (fitted x1 x2 x3) (fitted x1 x2 x3)
same_fitted R k types r = same_require R 125 (count_places r == length types) _ _ (same_all_fitted R k types r)

pub same_begin_contract : (R : Runs) (x1 : Contract) → Same R (begin_contract x1) (begin_contract x1)
same_begin_contract R c = same_self R _ (λ s. self_units s.units)

pub same_finish_contract : (R : Runs) (x1 : TypeId) → Same R (finish_contract x1) (finish_contract x1)
same_finish_contract R id = λ s low. (same_guard R (is_whole (value_in s.contracts id)) _ _ (same_self R _ (λ s. self_units s.units))) s low

pub same_initialize_contract : (R : Runs) (calls calls' : Calls) (x2 : TypeId) (x3 : Row) (x4 : ℕ) → Now R calls calls' → Same R (initialize_contract calls x2 x3 x4) (initialize_contract calls' x2 x3 x4)
same_initialize_contract R calls calls' id r l now = λ s low. (same_initialized R calls calls' id l r (initializer_of (bodies_of s id)) now) s low

pub same_install : (R : Runs) (calls calls' : Calls) (x2 : Contract) (x3 : Row) → Now R calls calls' → Same R (install calls x2 x3) (install calls' x2 x3)
same_install R calls calls' c r now = same_bind R _ _ _ _ (same_bind R _ _ _ _ (same_begin_contract R c) (λ v1. (same_initialize_contract R calls calls' c.id r v1 now))) (λ u2. (same_finish_contract R c.id))

pub same_install_program : (R : Runs) (calls calls' : Calls) (x2 : TypeId) (x3 : List ℕ) (x4 : Row) (x5 : Program) → Now R calls calls' → Same R (install_program calls x2 x3 x4 x5) (install_program calls' x2 x3 x4 x5)
same_install_program R calls calls' id code r program now = λ s low. (same_require R 120 (is_contract_of id program) _ _ (same_bind R _ _ _ _ (same_fitted R (declarations_with (new_contract id code program) s.contracts) (initializer_types id program) r) (λ v1. (same_install R calls calls' (new_contract id code program) v1 now)))) s low

pub accepted_said : (p : Program) → accepted p ≡ unknown → ⊥
accepted_said p e = cc

pub refused_said : refused ≡ unknown → ⊥
refused_said e = cc

-- the verdicts are the same, where the first says something or has to
pub same_judged : {A : Type 0} (R : Runs) (e : ℕ) (v v' : Verdict) (f g : Program → Action A) → ((R.Free → v ≢ unknown) → v ≡ v') → ((p : Program) → Same R (f p) (g p))
    → Same R (judged e v f) (judged e v' g)
same_judged R e (accepted p) v' f g is h = subst (λ (x : Verdict). Same R (f p) (judged e x g)) (is (λ free said. accepted_said p said)) (h p)
same_judged R e refused v' f g is h = subst (λ (x : Verdict). Same R (fail e) (judged e x g)) (is (λ free said. refused_said said)) (same_fail R e)
same_judged R e unknown v' f g is h = λ s low. ((λ w. ap (λ (x : Verdict). judged e x g s) (is (λ free said. w free refl))), tt)

pub same_add_contract : (R : Runs) (calls calls' : Calls) (x3 : TypeId) (x4 : List ℕ) (x5 : Row) → Now R calls calls' → Same R (add_contract R.first calls x3 x4 x5) (add_contract R.second calls' x3 x4 x5)
same_add_contract R calls calls' id code r now = λ s low. (same_require R 118 (not (is_taken s.contracts id)) _ _ (same_judged R 119 (R.first (standing s.contracts) id.address code) (R.second (standing s.contracts) id.address code) _ _ (R.reaches (standing s.contracts) id.address code) (λ v1. (same_install_program R calls calls' id code r v1 now)))) s low

pub same_add : (R : Runs) (calls calls' : Calls) (x3 : Row) (x4 : Address) → Now R calls calls' → Same R (add R.first calls x3 x4) (add R.second calls' x3 x4)
same_add R calls calls' r a now = same_there R a _ _ (same_some R (option_and_then text_in (argument 0 r)) _ _ (λ name. (same_some R (option_and_then bytes_in (argument 1 r)) _ _ (λ code. (same_add_contract R calls calls' (contract_named a name) code (back 2 r) now)))))

-- without arguments nothing is added
pub same_add_nothing : (R : Runs) (calls calls' : Calls) (a : Address) → Same R (add R.first calls stop a) (add R.second calls' stop a)
same_add_nothing R calls calls' a = same_there R a _ _ (same_stuck R)
