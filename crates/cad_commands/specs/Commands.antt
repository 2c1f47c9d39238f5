-- The command that a line asks for, or the number of its refusal: of 21, 22 for the kind, 23, 22 for another field, and 28, the
-- first that is due.
use Rattle.std.specs.Prelude.{ℕ, Bool, ◌&&◌, ◌==◌, List, codes, Option, Some, None, Result, Ok, Err, nat_le, if◌then◌else◌}
use Rattle.std.specs.Cmp.Lexicographic.{pointwise}
use Rattle.std.specs.Str.{is_utf8}
use Rattle.serde_json.specs.Data.{Data}
use Rattle.serde_json.specs.Read.{read}
use Rattle.cad_request.specs.Fields.{text_at}
use Rattle.cad_runs.specs.Commands.{Command, account, deploy, transaction, script, refused}
use Rattle.cad_commands.specs.Fields.{address_at, signers_of, arguments_of, limit_of}

-- the code, the arguments and the units of a run
pub record Run : Type 0 where
  pub code : List ℕ
  pub arguments : List Data
  pub limit : ℕ

-- 22 where a needed field isn't there, or a field isn't of its form
abbrev pub needed : {A : Type 0} → (A → Command Data) → Option A → Command Data
needed asked None = refused 22
needed asked (Some x) = asked x

-- ---- runs of code

abbrev pub run_with : Option (List ℕ) → Option (List Data) → Option ℕ → Option Run
run_with (Some code) (Some arguments) (Some limit) = Some (record { code = code; arguments = arguments; limit = limit })
run_with _ _ _ = None

abbrev pub run_of : Data → Option Run
run_of request = run_with (text_at (codes "code") request) (arguments_of request) (limit_of request)

abbrev pub is_within : ℕ → Bool
is_within limit = nat_le 1 limit && nat_le limit 1000000

-- 22 where a field isn't there or isn't of its form, 28 where the limit isn't from 1 to 1,000,000
abbrev pub bounded : Option Run → Result Run ℕ
bounded None = Err 22
bounded (Some run) = if is_within run.limit then Ok run else Err 28

abbrev pub running : (Run → Command Data) → Result Run ℕ → Command Data
running asked (Err n) = refused n
running asked (Ok run) = asked run

-- ---- the kinds

abbrev pub deploy_of : Data → Command Data
deploy_of request = needed (λ address. needed (λ name. running (λ run. deploy address name run.code run.arguments run.limit) (bounded (run_of request)))
    (text_at (codes "name") request)) (address_at (codes "address") request)

abbrev pub transaction_of : Data → Command Data
transaction_of request = needed (λ signers. running (λ run. transaction run.code run.arguments signers run.limit) (bounded (run_of request))) (signers_of request)

abbrev pub script_of : Data → Command Data
script_of request = running (λ run. script run.code run.arguments run.limit) (bounded (run_of request))

abbrev pub is_kind : List ℕ → List ℕ → Bool
is_kind name kind = pointwise ◌==◌ kind name

-- 23 where the kind is none of the four
abbrev pub of_kind : Data → List ℕ → Command Data
of_kind request kind =
    if is_kind (codes "account") kind then account
    else if is_kind (codes "deploy") kind then deploy_of request
    else if is_kind (codes "transaction") kind then transaction_of request
    else if is_kind (codes "script") kind then script_of request
    else refused 23

-- ---- lines

-- 22 where the value is no object, or its kind isn't there or is no text
abbrev pub of_request : Data → Command Data
of_request request = needed (of_kind request) (text_at (codes "kind") request)

-- 21 where the line is no JSON in UTF-8
abbrev pub of_json : Option Data → Command Data
of_json None = refused 21
of_json (Some request) = of_request request

unfoldable pub json_of : List ℕ → Option Data
json_of line = if is_utf8 line then read line else None

abbrev pub command_of : List ℕ → Command Data
command_of line = of_json (json_of line)
