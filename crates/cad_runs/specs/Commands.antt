-- Commands and their replies, and what is asked of a program and its arguments before it runs.
use Rattle.std.specs.Prelude.{ℕ, zero, suc, Bool, true, false, not, ◌&&◌, ◌==◌, List, [], ◌∷◌, length, map, find, Option, Some, None, option_map, option_and_then}
use Rattle.std.specs.List.{list_all}
use Rattle.std.specs.Option.{is_some}
use Rattle.cad_syntax.specs.Types.{PureType}
use Rattle.cad_syntax.specs.declared.address.Address.{Address}
use Rattle.cad_syntax.specs.declared.type_id.TypeId.{TypeId}
use Rattle.cad_declarations.specs.Names.{same_name}
use Rattle.cad_declarations.specs.Tables.{MemberEntry, ProgramTables}
use Rattle.cad_declarations.specs.Typed as e
use Rattle.cad_declarations.specs.declared.member.MemberAccess.{MemberAccess}
use Rattle.cad_declarations.specs.declared.member.MemberAccess.TheVariants as access
use Rattle.cad_declarations.specs.declared.stop.Rejected.{Rejected}
use Rattle.cad_world.specs.Declared.{function_in}
use Rattle.cad_world.specs.Labels.{account_at}
use Rattle.cad_world.specs.Rows.{Row, stop, first}
use Rattle.cad_world.specs.State.{Program, World}
use Rattle.cad_world.specs.Trees.{tree_of}
use Rattle.cad_runs.specs.Run.{main_name}
use Rattle.cad_runs.specs.Surroundings.{Surroundings}

pub data Command (Json : Type 0) : Type 0 where
  account : Command Json
  -- the address, the name, the code, the arguments, and the units
  deploy : Address → List ℕ → List ℕ → List Json → ℕ → Command Json
  -- the code, the arguments, the signers, and the units
  transaction : List ℕ → List Json → List Address → ℕ → Command Json
  -- the code, the arguments, and the units
  script : List ℕ → List Json → ℕ → Command Json
  -- a line that asks for nothing that can run: the number of its refusal
  refused : ℕ → Command Json

pub data Reply (Json : Type 0) : Type 0 where
  account_made : ℕ → Reply Json
  result : Json → Reply Json
  -- the identities that were made and destroyed, and the events
  ran : List ℕ → List ℕ → List Json → Reply Json
  rejected : Rejected → Reply Json
  failed : ℕ → Reply Json
  limit : Reply Json
  bad : ℕ → Reply Json
  -- a value wasn't of the type that it should have
  ill : Reply Json

-- everything went as it was asked for
abbrev pub is_ok : {Json : Type 0} → Reply Json → Bool
is_ok (account_made n) = true
is_ok (result x) = true
is_ok (ran made destroyed events) = true
is_ok _ = false

-- ---- what a program is

abbrev pub is_free : MemberAccess → Bool
is_free access.All = true
is_free _ = false

-- a function with this name that everybody may call
abbrev pub is_main : MemberEntry → Bool
is_main m = same_name m.name main_name && is_free m.access

-- `main` of a script: the program is functions, with one `access(all) fun main`
abbrev pub main_if : Bool → List e.MemberBody → Option e.FunctionBody
main_if true functions = option_map (λ m. m.function) (function_in functions main_name)
main_if false functions = None

abbrev pub main_of : Program → Option e.FunctionBody
main_of p = main_if (not (is_some p.bodies.transaction) && is_some (find is_main p.tables.functions)) p.bodies.functions

-- ---- signers and arguments

abbrev pub is_account : World → Address → Bool
is_account w a = is_some (account_at w.accounts a.0)

-- each signer has an account, and there is one for each parameter of `prepare`
abbrev pub are_signers : World → e.TransactionBody → List Address → Bool
are_signers w x signers = list_all (is_account w) signers && (length signers == length x.signers)

abbrev pub types_of : List e.VariableEntry → List PureType
types_of xs = map (λ x. x.type) xs

-- the values of the arguments, each of the type of its parameter
abbrev pub argument_row : {Json : Type 0} → Surroundings Json → ProgramTables → List PureType → List Json → Option Row
argument_row x tables [] [] = Some stop
argument_row x tables (type ∷ types) (j ∷ js) =
    option_and_then (λ v. option_map (first (tree_of v)) (argument_row x tables types js)) (x.value_of_json tables type j)
argument_row x tables _ _ = None
