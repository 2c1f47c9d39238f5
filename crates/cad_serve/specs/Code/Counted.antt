-- What was counted of answers, and how far a generated session has come.
use Rattle.std.specs.Prelude.{◌≡◌, ℕ, List, length, filter}
use Rattle.std.specs.List.{flat_map}
use Rattle.serde_json.specs.Data.{Data}
use Rattle.cad_runs.specs.Commands as command
use Rattle.cad_runs.specs.Commands.{is_ok}
use Rattle.cad_store.specs.declared.store.Store.{Store}
use Rattle.cad_store.specs.Stores.{held}
use Rattle.cad_world.specs.State.{World}
use Rattle.cad_worlds.specs.Standing.{StandsFor}
use Rattle.cad_serve.specs.Generated.{made_by, destroyed_by, is_failed}
use Rattle.cad_serve.specs.Served.{AnswersAll}
use Rattle.cad_serve.specs.declared.counting.Counts.{Counts}
use Rattle.cad_answers.specs.declared.reply.Reply.{Reply}
use Rattle.cad_answers.specs.declared.reply.Reply.TheVariants as reply

-- what a reply of the program adds to each count
abbrev pub made_in : Reply → ℕ
made_in (reply.Ran receipt) = length receipt.made
made_in _ = 0

abbrev pub destroyed_in : Reply → ℕ
destroyed_in (reply.Ran receipt) = length receipt.destroyed
destroyed_in _ = 0

abbrev pub ok_in : Reply → ℕ
ok_in (reply.Result text) = 1
ok_in (reply.Account n) = 1
ok_in (reply.Ran receipt) = 1
ok_in _ = 0

abbrev pub failed_in : Reply → ℕ
failed_in (reply.Failed n) = 1
failed_in reply.IllTyped = 1
failed_in _ = 0

pub record IsCounted (counts : Counts) (answers : List (command.Reply Data)) : Type 0 where
  pub lines : counts.lines ≡ length answers
  pub ok : counts.ok ≡ length (filter is_ok answers)
  pub failed : counts.failed ≡ length (filter is_failed answers)
  pub made : counts.made ≡ length (flat_map made_by answers)
  pub destroyed : counts.destroyed ≡ length (flat_map destroyed_by answers)

-- these lines were run from a World on and counted, and the store holds what they lead to
pub record HasRunAll (w : World) (lines : List (List ℕ)) (counts : Counts) (store : Store) : Type 0 where
  pub answers : List (command.Reply Data)
  pub world : World
  pub are : AnswersAll w lines answers world
  pub counted : IsCounted counts answers
  pub stands : StandsFor (held store) world
