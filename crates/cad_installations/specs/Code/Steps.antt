-- Steps of `contracts.add`, each of which a function carries out.
use Rattle.std.specs.Prelude.{◌≡◌, ℕ, List, Result, Ok, Err, option_and_then}
use Rattle.std.specs.declared.alloc.Global.{Global}
use Rattle.std.specs.declared.vec.Vec.{Vec}
use Rattle.cad_evaluation.specs.Adding.{contract_named, standing, declarations_with, initializer_types, fitted, begin_contract, initialize_contract, install, install_program, add_contract}
use Rattle.cad_evaluation.specs.Arguments.{argument}
use Rattle.cad_evaluation.specs.Callees.{Calls, Front, initializer}
use Rattle.cad_evaluation.specs.Texts.{text_in, bytes_in}
use Rattle.cad_outcomes.specs.declared.stop.Stop.{Stop}
use Rattle.cad_rows.specs.Views.{pure_row, pure_tree}
use Rattle.cad_rows.specs.declared.tree.Place.{Place}
use Rattle.cad_rows.specs.declared.tree.Tree.{Tree as CodeTree}
use Rattle.cad_state.specs.Views.{FindsAndCarriesOut}
use Rattle.cad_state.specs.declared.state.RunState.{RunState}
use Rattle.cad_syntax.specs.declared.address.Address.{Address}
use Rattle.cad_syntax.specs.declared.type_id.TypeId.{TypeId}
use Rattle.cad_world.specs.Fronts.{judged}
use Rattle.cad_world.specs.Rows.{Row, Tree, back}
use Rattle.cad_world.specs.State.{Contract, Action, ◌>>=◌, ◌>>◌, done, with_some}

-- ---- the installation

-- a written initializer runs
abbrev pub initializer_run : Calls → TypeId → ℕ → Row → Action (Unit {0})
initializer_run calls id l r = calls (initializer id l) r >> done

-- a contract begins, and its initializer runs
abbrev pub begun_and_run : Calls → Contract → Row → Action (Unit {0})
begun_and_run calls c r = begin_contract c >>= initialize_contract calls c.id r

-- on arguments that fit, by what is declared once the contract is there
abbrev pub installed : Calls → Contract → Row → Action Tree
installed calls c r = λ s. (fitted (declarations_with c s.contracts) (initializer_types c.id c.program) r >>= install calls c) s

-- on arguments that came to its parameters, or why they didn't
abbrev pub InstallsOn : Calls → Contract → Result (Vec Place Global) Stop → RunState → RunState → Result CodeTree Stop → Type 0
InstallsOn calls c (Ok row) before after result = FindsAndCarriesOut pure_tree (install calls c (pure_row row.items)) before after result
InstallsOn calls c (Err why) before after result = result ≡ Err why

-- ---- what is added

abbrev pub code_installed : Front → Calls → TypeId → List ℕ → Row → Action Tree
code_installed front calls id code r = λ s. judged 119 (front (standing s.contracts) id.address code) (install_program calls id code r) s

-- the code that is the second argument
abbrev pub named_added : Front → Calls → TypeId → Row → Action Tree
named_added front calls id r = with_some (option_and_then bytes_in (argument 1 r)) (λ code. add_contract front calls id code (back 2 r))

-- to an account that is there
abbrev pub there_added : Front → Calls → Row → Address → Action Tree
there_added front calls r a = with_some (option_and_then text_in (argument 0 r)) (λ name. named_added front calls (contract_named a name) r)
