-- What a command comes to: the reply, the World that it leaves, and the line of the reply. The order of refusals is that of
-- cad_runs' Batch.
use Rattle.std.specs.Prelude.{◌≡◌, ◌≢◌, ℕ, suc, ◌≤◌, ◌<◌, ◌^◌, true, false, List, [], ◌∷◌, ◌++◌, length, map, codes, Some, None}
use Rattle.std.specs.Fmt.{decimal}
use Rattle.serde_json.specs.Data.{Data, array, string, Items, no_items, item}
use Rattle.serde_json.specs.Written.{compact_text}
use Rattle.cad_syntax.specs.Addresses.{address_text}
use Rattle.cad_syntax.specs.declared.address.Address.{Address}
use Rattle.cad_syntax.specs.declared.type_id.TypeId.{TypeId}
use Rattle.cad_acceptance.specs.Acceptance.{CheckedProgram, AcceptsText}
use Rattle.cad_acceptance.specs.Stops.{FirstStop}
use Rattle.cad_declarations.specs.Imports.{ContractEntry}
use Rattle.cad_declarations.specs.declared.stop.Rejected.{Rejected}
use Rattle.cad_rejections.specs.Texts.{rejected_text}
use Rattle.cad_commands.specs.Commands.{command_of}
use Rattle.cad_replies.specs.Passed.{contract_named, is_taken}
use Rattle.cad_replies.specs.Deployments as deployment
use Rattle.cad_loads.specs.Fronts.{IsRight}
use Rattle.cad_loads.specs.Loads.{entries_of, loaded_of, program_in}
use Rattle.cad_runs.specs.Commands as command
use Rattle.cad_runs.specs.Commands.{Command, Reply, account_made, result, ran, rejected, failed, limit, bad, ill, is_account}
use Rattle.cad_replies.specs.Scripts as script
use Rattle.cad_replies.specs.Transactions as transaction
use Rattle.cad_run_outcomes.specs.Outcomes.{Outcome, stays, leads}
use Rattle.cad_run_outcomes.specs.Views.{event_items}
use Rattle.cad_world.specs.Begin.{new_account}
use Rattle.cad_world.specs.Fronts.{Front}
use Rattle.cad_world.specs.Registers.{size}
use Rattle.cad_world.specs.Sound.{most_accounts}
use Rattle.cad_world.specs.State.{World}
use Rattle.cad_worlds.specs.Standing.{coding, Becomes}
use Rattle.cad_serve_parts.specs.Held.{longest}

-- ---- code, which is checked beside the contracts of the World

abbrev pub beside : World → List ContractEntry
beside w = entries_of (map loaded_of w.contracts)

-- A run may add contracts, whose codes a front end judges. Each run is told under one that is right of whatever code it says
-- something, and that says something of each code of which the run asks it: where it says nothing, the run fails by 0, which
-- is no error's number. Whichever front end that is, the reply is the same (the law `one_reply`).

-- a script: rejected; 26, 25, 24 or what its run comes to
pub data RunsScript (w : World) (code : List ℕ) (arguments : List Data) (units : ℕ) : Reply Data → Type 0 where
  refused_script : {r : Rejected} → FirstStop (beside w) None code r → RunsScript w code arguments units (rejected r)
  replies : {x : CheckedProgram} {front : Front} {reply : Reply Data} → AcceptsText (beside w) None code x → IsRight front
      → script.Answers front w (program_in x) arguments units reply → reply ≢ failed 0 → RunsScript w code arguments units reply

-- a transaction: rejected; 26, 25, 24 or what its run comes to
pub data RunsTransaction (w : World) (code : List ℕ) (arguments : List Data) (signers : List Address) (units : ℕ) : Outcome → Type 0 where
  refused_transaction : {r : Rejected} → FirstStop (beside w) None code r → RunsTransaction w code arguments signers units (stays (rejected r))
  comes : {x : CheckedProgram} {front : Front} {outcome : Outcome} → AcceptsText (beside w) None code x → IsRight front
      → transaction.Comes front w (program_in x) arguments signers units outcome → outcome ≢ stays (failed 0) → RunsTransaction w code arguments signers units outcome

-- a contract that is deployed: 118 where its name is taken; rejected; 120, 125 or what the run of its initializer comes to
pub data RunsDeploy (w : World) (id : TypeId) (code : List ℕ) (arguments : List Data) (units : ℕ) : Outcome → Type 0 where
  name_taken : is_taken w.contracts id ≡ true → RunsDeploy w id code arguments units (stays (failed 118))
  refused_deploy : {r : Rejected} → is_taken w.contracts id ≡ false → FirstStop (beside w) (Some id.address) code r → RunsDeploy w id code arguments units (stays (rejected r))
  installs : {x : CheckedProgram} {front : Front} {outcome : Outcome} → is_taken w.contracts id ≡ false → AcceptsText (beside w) (Some id.address) code x → IsRight front
      → deployment.Comes front w (program_in x) id code arguments units outcome → outcome ≢ stays (failed 0) → RunsDeploy w id code arguments units outcome

-- ---- commands

abbrev pub one_more : World → World
one_more w = record w { accounts = w.accounts ++ new_account ∷ [] }

-- What a command comes to. An account: 127 where there are as many as may be. A contract: 26 where its account isn't there.
pub data Does (w : World) : Command Data → Outcome → Type 0 where
  unread : {n : ℕ} → Does w (command.refused n) (stays (bad n))
  spent : most_accounts ≤ length w.accounts → Does w command.account (stays (failed 127))
  made : length w.accounts < most_accounts → Does w command.account (leads (account_made (suc (length w.accounts))) (one_more w))
  nowhere : {place : Address} {name code : List ℕ} {arguments : List Data} {units : ℕ} → is_account w place ≡ false
      → Does w (command.deploy place name code arguments units) (stays (bad 26))
  deploys : {place : Address} {name code : List ℕ} {arguments : List Data} {units : ℕ} {outcome : Outcome} → is_account w place ≡ true
      → RunsDeploy w (contract_named place name) code arguments units outcome → Does w (command.deploy place name code arguments units) outcome
  transacts : {code : List ℕ} {arguments : List Data} {signers : List Address} {units : ℕ} {outcome : Outcome}
      → RunsTransaction w code arguments signers units outcome → Does w (command.transaction code arguments signers units) outcome
  runs : {code : List ℕ} {arguments : List Data} {units : ℕ} {a : Reply Data} → RunsScript w code arguments units a → Does w (command.script code arguments units) (stays a)

-- how many bytes a World may have
abbrev pub most_bytes : ℕ
most_bytes = 2 ^ 30

-- What a run leaves becomes the sound World of its registers. That takes the place of the old one where it isn't too large; else 130.
pub data Commits (w : World) : Outcome → Reply Data → World → Type 0 where
  unchanged : {a : Reply Data} → Commits w (stays a) a w
  fits : {a : Reply Data} {v u : World} → Becomes v u → size coding u ≤ most_bytes → Commits w (leads a v) a u
  full : {a : Reply Data} {v u : World} → Becomes v u → most_bytes < size coding u → Commits w (leads a v) (failed 130) w

-- what is answered to a line, and the World then: 27 where the line is too long
pub data Answers (w : World) (line : List ℕ) : Reply Data → World → Type 0 where
  too_long : longest < length line → Answers w line (bad 27) w
  answered : {outcome : Outcome} {a : Reply Data} {v : World} → length line ≤ longest → Does w (command_of line) outcome → Commits w outcome a v → Answers w line a v

-- ---- lines

-- numbers are told as texts
abbrev pub number_items : List ℕ → Items
number_items [] = no_items
number_items (n ∷ ns) = item (string (decimal n)) (number_items ns)

abbrev pub error_line : ℕ → List ℕ
error_line n = codes "{\"error\":\"" ++ decimal n ++ codes "\",\"reply\":\"failed\"}" ++ 10 ∷ []

-- A value that isn't of its type is a fault of the checker, told as an error of its own.
abbrev pub ill_typed : ℕ
ill_typed = 199

-- the reply's line
abbrev pub answer_line : Reply Data → List ℕ
answer_line (account_made n) = codes "{\"address\":\"" ++ address_text n ++ codes "\",\"reply\":\"ok\"}" ++ 10 ∷ []
answer_line (result json) = codes "{\"reply\":\"ok\",\"result\":" ++ compact_text json ++ codes "}" ++ 10 ∷ []
answer_line (ran born gone events) =
    codes "{\"destroyed\":" ++ compact_text (array (number_items gone)) ++ codes ",\"events\":" ++ compact_text (array (event_items events))
    ++ codes ",\"made\":" ++ compact_text (array (number_items born)) ++ codes ",\"reply\":\"ok\"}" ++ 10 ∷ []
answer_line (rejected r) = rejected_text None r ++ 10 ∷ []
answer_line (failed n) = error_line n
answer_line limit = codes "{\"reply\":\"limit\"}" ++ 10 ∷ []
answer_line (bad n) = codes "{\"error\":\"" ++ decimal n ++ codes "\",\"reply\":\"bad\"}" ++ 10 ∷ []
answer_line ill = error_line ill_typed
