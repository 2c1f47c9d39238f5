-- Adding: labels are kept apart, and values in hand have none.
use Rattle.std.specs.Prelude.{ℕ, not, ◌==◌, List, [], ◌∷◌, length, option_and_then}
use Rattle.cad_syntax.specs.Types.{PureType}
use Rattle.cad_syntax.specs.declared.address.Address.{Address}
use Rattle.cad_syntax.specs.declared.type_id.TypeId.{TypeId}
use Rattle.cad_types.specs.Declarations.{Declaration}
use Rattle.cad_types.specs.Optionals.{fits}
use Rattle.cad_world.specs.Fronts.{Front, Verdict, accepted, refused, unknown, judged}
use Rattle.cad_world.specs.Rows.{Row, stop, node, first, back, count_places}
use Rattle.cad_world.specs.State.{Program, Action}
use Rattle.cad_world.specs.Transfers.{come_to}
use Rattle.cad_evaluation.specs.Arguments.{argument}
use Rattle.cad_evaluation.specs.Callees.{Calls}
use Rattle.cad_evaluation.specs.Texts.{text_in, bytes_in}
use Rattle.cad_evaluation.specs.Adding.{contract_named, is_taken, standing, is_contract_of, new_contract, declarations_with, initializer_types, all_fitted, fitted, install_program, add_contract, add}
use Rattle.cad_labels.specs.Laws.{HasNone, HasNoneInRow, Keeps, CalleesKeep}
use Rattle.cad_world.specs.State.{give}
use Rattle.cad_labels.proofs.Accounts.{installing_keeps, there_keeps, type_keeps}
use Rattle.cad_labels.proofs.Forms.{back_none, first_none, keeps_fail, keeps_give, keeps_require, keeps_some, node_none, rest_none}
use Rattle.cad_labels.proofs.Keeping.{keeps_bind}

pub all_fitted_keeps : (x1 : List Declaration) (x2 : List PureType) (x3 : Row) → HasNoneInRow x3 → Keeps HasNoneInRow (all_fitted x1 x2 x3)
all_fitted_keeps k [] stop n2 = keeps_give HasNoneInRow stop n2
all_fitted_keeps k (type ∷ types) (node l n s parts r) n2 = type_keeps HasNoneInRow (record { optionals = n; shape = s; parts = parts }) _ (λ own. keeps_require HasNoneInRow 125 (fits k own type) _ (keeps_bind HasNoneInRow HasNoneInRow _ (λ rest. give (first (come_to type (record { optionals = n; shape = s; parts = parts })) rest)) (all_fitted_keeps k types r (rest_none l n s parts r n2)) (λ rest h_rest. keeps_give HasNoneInRow (first (come_to type (record { optionals = n; shape = s; parts = parts })) rest) (first_none (come_to type (record { optionals = n; shape = s; parts = parts })) rest (node_none l n s parts r n2) h_rest))))
all_fitted_keeps k types r n2 = keeps_fail HasNoneInRow 125

pub fitted_keeps : (x1 : List Declaration) (x2 : List PureType) (x3 : Row) → HasNoneInRow x3 → Keeps HasNoneInRow (fitted x1 x2 x3)
fitted_keeps k types r n2 = keeps_require HasNoneInRow 125 (count_places r == length types) _ (all_fitted_keeps k types r n2)

pub install_program_keeps : (calls : Calls) (x2 : TypeId) (x3 : List ℕ) (x4 : Row) (x5 : Program) → CalleesKeep calls → HasNoneInRow x4 → Keeps HasNone (install_program calls x2 x3 x4 x5)
install_program_keeps calls id code r program keep n3 = λ s once. (keeps_require HasNone 120 (is_contract_of id program) _ (keeps_bind HasNoneInRow HasNone _ _ (fitted_keeps (declarations_with (new_contract id code program) s.contracts) (initializer_types id program) r n3) (λ v1 h_v1. installing_keeps calls (new_contract id code program) v1 keep h_v1))) s once

pub keeps_judged : {A : Type 0} (P : A → Type 0) (e : ℕ) (v : Verdict) (f : Program → Action A) → ((p : Program) → Keeps P (f p)) → Keeps P (judged e v f)
keeps_judged P e (accepted p) f h = h p
keeps_judged P e refused f h = keeps_fail P e
keeps_judged P e unknown f h = keeps_fail P 0

pub add_contract_keeps : (front : Front) (calls : Calls) (x3 : TypeId) (x4 : List ℕ) (x5 : Row) → CalleesKeep calls → HasNoneInRow x5 → Keeps HasNone (add_contract front calls x3 x4 x5)
add_contract_keeps front calls id code r keep n4 = λ s once. (keeps_require HasNone 118 (not (is_taken s.contracts id)) _ (keeps_judged HasNone 119 (front (standing s.contracts) id.address code) _ (λ v1. install_program_keeps calls id code r v1 keep n4))) s once

pub add_keeps : (front : Front) (calls : Calls) (x3 : Row) (x4 : Address) → CalleesKeep calls → HasNoneInRow x3 → Keeps HasNone (add front calls x3 x4)
add_keeps front calls r a keep n2 = there_keeps a _ (keeps_some HasNone (option_and_then text_in (argument 0 r)) _ (λ name. keeps_some HasNone (option_and_then bytes_in (argument 1 r)) _ (λ code. add_contract_keeps front calls (contract_named a name) code (back 2 r) keep (back_none 2 r n2))))

-- without arguments nothing is added
