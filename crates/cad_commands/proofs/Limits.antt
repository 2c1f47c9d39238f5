-- The limits of commands, form by form.
use Rattle.std.proofs.Common.{◌≡◌, ◌≤◌, ◌∙◌, ℕ, List, Bool, true, false, Option, Some, None, Result, Ok, Err, refl, sym, ap, subst, arith, rules, codes, if◌then◌else◌}
use Rattle.serde_json.specs.Data.{Data}
use Rattle.cad_request.specs.Fields.{text_at}
use Rattle.cad_runs.specs.Commands.{Command, account, deploy, transaction, script, refused}
use Rattle.cad_commands.specs.Fields.{address_at, signers_of}
use Rattle.cad_commands.specs.Commands.{Run, needed, run_of, is_within, bounded, running, deploy_of, transaction_of, script_of, is_kind, of_kind, of_request, of_json, json_of, command_of}
use Rattle.cad_commands.specs.Bounds.{units_of, IsBounded, LimitsAreBounded}

no_units : (c : Command Data) → units_of c ≡ None → IsBounded c
no_units c none limit e = absurd (cc)

if_needed : {A : Type 0} (asked : A → Command Data) (o : Option A) → ((x : A) → IsBounded (asked x)) → IsBounded (needed asked o)
if_needed asked None each = no_units (refused 22) refl
if_needed asked (Some x) each = each x

within : (limit : ℕ) → is_within limit ≡ true → (1 ≤ limit) × (limit ≤ 1000000)
within limit e = search (rules, e)

if_within : (asked : Run → Command Data) (run : Run) (b : Bool) → is_within run.limit ≡ b → units_of (asked run) ≡ Some run.limit
    → IsBounded (running asked (if b then Ok run else Err 28))
if_within asked run false is units = no_units (refused 28) refl
if_within asked run true is units = λ limit e.
    let same : run.limit ≡ limit = cc in
    subst (λ (n : ℕ). (1 ≤ n) × (n ≤ 1000000)) same (within run.limit is)

runs : (asked : Run → Command Data) (o : Option Run) → ((run : Run) → units_of (asked run) ≡ Some run.limit) → IsBounded (running asked (bounded o))
runs asked None units = no_units (refused 22) refl
runs asked (Some run) units = if_within asked run (is_within run.limit) refl (units run)

either : (b : Bool) (c d : Command Data) → IsBounded c → IsBounded d → IsBounded (if b then c else d)
either true c d left right = left
either false c d left right = right

deploys : (request : Data) → IsBounded (deploy_of request)
deploys request = if_needed _ (address_at (codes "address") request) (λ address. if_needed _ (text_at (codes "name") request)
    (λ name. runs (λ run. deploy address name run.code run.arguments run.limit) (run_of request) (λ run. refl)))

transactions : (request : Data) → IsBounded (transaction_of request)
transactions request = if_needed _ (signers_of request) (λ signers. runs (λ run. transaction run.code run.arguments signers run.limit) (run_of request) (λ run. refl))

scripts : (request : Data) → IsBounded (script_of request)
scripts request = runs (λ run. script run.code run.arguments run.limit) (run_of request) (λ run. refl)

kinds : (request : Data) (kind : List ℕ) → IsBounded (of_kind request kind)
kinds request kind =
    either (is_kind (codes "account") kind) _ _ (no_units account refl)
    (either (is_kind (codes "deploy") kind) _ _ (deploys request)
    (either (is_kind (codes "transaction") kind) _ _ (transactions request)
    (either (is_kind (codes "script") kind) _ _ (scripts request) (no_units (refused 23) refl))))

of_any : (json : Option Data) → IsBounded (of_json json)
of_any None = no_units (refused 21) refl
of_any (Some request) = if_needed (of_kind request) (text_at (codes "kind") request) (kinds request)

pub limits : LimitsAreBounded
limits line = of_any (json_of line)
