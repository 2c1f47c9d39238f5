-- Small programs and states, of which samples are made, and what is seen of an outcome.
use Rattle.std.specs.Prelude.{ℕ, suc, ◌+◌, true, false, List, [], ◌∷◌, Option, Some, None, refl, codes}
use Rattle.cad_syntax.specs.Types.{PureType, basic}
use Rattle.cad_syntax.specs.declared.kind.Kind.{Kind}
use Rattle.cad_syntax.specs.declared.kind.Kind.TheVariants as k
use Rattle.cad_syntax.specs.declared.num.Num.{Num}
use Rattle.cad_syntax.specs.declared.text.Name.{Name}
use Rattle.cad_syntax.specs.declared.types.Basic.TheVariants as b
use Rattle.cad_declarations.specs.Tables.{ProgramTables}
use Rattle.cad_declarations.specs.Typed as e
use Rattle.cad_values.specs.Values.{PureValue}
use Rattle.cad_values.specs.Values as v
use Rattle.cad_world.specs.Fronts as fronts
use Rattle.cad_world.specs.Rows.{stop, Tree}
use Rattle.cad_world.specs.State.{State, Account, Program, Contract, Outcome, ok, failed, limit, ill}
use Rattle.cad_world.specs.Trees.{value_of}
use Rattle.cad_evaluation.specs.Callees.{function, Front}
use Rattle.cad_evaluation.specs.Evaluation.{calls_to}
use Rattle.cad_evaluation.specs.Numbers.{number_of}

-- ---- numbers and names

abbrev pub nought : Num
nought = record { kind = k.Int; negative = false; magnitude = 0; kept = refl }

abbrev pub or_nought : Option Num → Num
or_nought None = nought
or_nought (Some x) = x

abbrev pub num : Kind → ℕ → Num
num kind n = or_nought (number_of kind false n)

abbrev pub minus : Kind → ℕ → Num
minus kind n = or_nought (number_of kind true n)

abbrev pub int : ℕ → PureValue
int n = v.number (num k.Int n)

abbrev pub literal : ℕ → e.TermTree
literal n = e.number (num k.Int n)

abbrev pub int_type : PureType
int_type = basic (b.Number k.Int)

abbrev pub named : List ℕ → Name
named text = record { 0 = text }

-- ---- blocks

abbrev pub block : ℕ → List e.StatementTree → e.BlockTree
block n all = e.block n (e.statements_of all)

abbrev pub variable : ℕ → PureType → e.VariableEntry
variable n type = record { number = n; name = named (codes "x"); type = type; is_resource = false }

abbrev pub body : List e.VariableEntry → PureType → List e.StatementTree → e.FunctionBody
body parameters result all = record {
  inside = [];
  is_view = false;
  parameters = parameters;
  result = result;
  result_variable = None;
  pre = [];
  before = [];
  post = [];
  body = Some (block 0 all);
  statements = 0;
}

abbrev pub main : Name
main = named (codes "main")

abbrev pub function_named : Name → e.FunctionBody → e.MemberBody
function_named name f = record { name = name; function = f }

-- ---- programs and states

abbrev pub no_tables : ProgramTables
no_tables = record { place = None; contract = None; imports = []; types = []; entitlements = []; mappings = []; functions = [] }

abbrev pub script : List e.MemberBody → Program
script functions = record { tables = no_tables; bodies = record { types = []; functions = functions; transaction = None } }

abbrev pub state : List Account → List Contract → Program → ℕ → State
state accounts contracts program units = record {
  frames = [];
  making = stop;
  accounts = accounts;
  contracts = contracts;
  program = program;
  events = [];
  made = [];
  destroyed = [];
  added = [];
  next_label = 0;
  next_identity = 1;
  units = units;
  depth = 0;
}

abbrev pub no_front : Front
no_front contracts address code = fronts.refused

-- ---- what is seen

pub data Seen : Type 0 where
  -- the value, and the units left
  gave : PureValue → ℕ → Seen
  failed_with : ℕ → Seen
  without_units : Seen
  ill_typed : Seen

abbrev pub seen : Outcome Tree → Seen
seen (ok t s) = gave (value_of t) s.units
seen (failed n) = failed_with n
seen limit = without_units
seen ill = ill_typed

-- `main` without arguments, in a state with as many units
abbrev pub runs : State → Outcome Tree
runs s = calls_to no_front (suc s.units + suc s.units) (function main) stop s

-- a script whose `main` has these statements and this result
abbrev pub alone : PureType → List e.StatementTree → ℕ → Seen
alone result all units = seen (runs (state [] [] (script (function_named main (body [] result all) ∷ [])) units))
