-- What a run has read and said, and the World that it leaves.
use Rattle.std.specs.Prelude.{◌≡◌, ℕ, suc, ◌≤◌, List, [], ◌∷◌, ◌++◌, length, take}
use Rattle.std.specs.List.{flat_map}
use Rattle.cad_host.specs.Disk.{Event, output}
use Rattle.cad_world.specs.State.{World}
use Rattle.cad_serve_parts.specs.Lines.{lines, commands_among}
use Rattle.serde_json.specs.Data.{Data}
use Rattle.cad_runs.specs.Commands.{Reply}
use Rattle.cad_answers.specs.Answer.{Answers, answer_line}
use Rattle.cad_serve.specs.Writing.{Wrote}

-- each command has its reply, over the World that those before it left
abbrev pub AnswersAll : World → List (List ℕ) → List (Reply Data) → World → Type 0
AnswersAll w [] [] v = v ≡ w
AnswersAll w [] (a ∷ answers) v = ⊥
AnswersAll w (line ∷ lines) [] v = ⊥
AnswersAll w (line ∷ lines) (a ∷ answers) v = (u : World) × Answers w line a u × AnswersAll u lines answers v

abbrev pub answer_lines : List (Reply Data) → List ℕ
answer_lines = flat_map answer_line

-- The output grew by the lines of the answers to all these commands, in order, and they lead to this World.
pub record Served (w : World) (commands : List (List ℕ)) (output_old output_new : List ℕ) (v : World) : Type 0 where
  pub answers : List (Reply Data)
  pub are : AnswersAll w commands answers v
  pub output : output_new ≡ output_old ++ answer_lines answers

-- It grew by the lines of the answers to the first of these commands.
pub record ServedSome (w : World) (commands : List (List ℕ)) (output_old output_new : List ℕ) (v : World) : Type 0 where
  pub count : ℕ
  pub within : count ≤ length commands
  pub served : Served w (take count commands) output_old output_new v

-- It grew by the lines of the answers to the first of these commands and some bytes of the next one's, which took effect.
pub record Broken (w : World) (commands : List (List ℕ)) (output_old output_new : List ℕ) (v : World) : Type 0 where
  pub count : ℕ
  pub within : suc count ≤ length commands
  pub answers : List (Reply Data)
  pub next : Reply Data
  pub bytes : ℕ
  pub are : AnswersAll w (take (suc count) commands) (answers ++ next ∷ []) v
  pub output : output_new ≡ output_old ++ (answer_lines answers ++ take bytes (answer_line next))

-- It grew by a prefix of the bytes of the lines of the answers to the first of these commands.
pub record Begun (w : World) (commands : List (List ℕ)) (output_old output_new : List ℕ) : Type 0 where
  pub count : ℕ
  pub answers : List (Reply Data)
  pub world : World
  pub bytes : ℕ
  pub are : AnswersAll w (take count commands) answers world
  pub output : output_new ≡ output_old ++ take bytes (answer_lines answers)

-- Of the bytes that were taken, the commands that a line feed ends have their answers, and an unfinished line has none.
pub record Finished (base : List Event) (w : World) (taken : List ℕ) (old new : List Event) (v : World) : Type 0 where
  pub whole : List (List ℕ)
  pub unfinished : List ℕ
  pub lines_are : lines taken ≡ whole ++ unfinished ∷ []
  pub served : Served w (commands_among whole) (output old) (output new) v
  pub wrote : Wrote base w (commands_among whole) old new v
