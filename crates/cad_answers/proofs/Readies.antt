-- What is ready in answer to a line.
use Rattle.std.proofs.Common.{◌≡◌, ℕ, ◌≤◌, ◌<◌, true, false, ltb, List, [], length, Result, Ok, Err, IfOk, sym, ◌∙◌, subst}
use Rattle.std.proofs.lemmas.List.{take_all}
use Rattle.std.proofs.lemmas.Bool.Decides.{nat_tests}
use Rattle.std.proofs.Common.{arith}
use Rattle.cad_wire.specs.declared.entry.Entry.{Entry}
use Rattle.cad_accounts.specs.declared.row.Row.{Row}
use Rattle.cad_accounts.specs.Registers.{Map, at, applied, are_rising, size_of, Leads}
use Rattle.cad_world.specs.Registers.{size}
use Rattle.cad_world.specs.State.{World}
use Rattle.cad_worlds.specs.Standing.{StandsFor, Becomes, coding}
use Rattle.cad_worlds.proofs.OneWorld.{rows_are_registers_lem}
use Rattle.cad_accounts.proofs.Existing.{rows_exist}
use Rattle.cad_commands.specs.Commands.{command_of}
use Rattle.cad_runs.specs.Commands.{Command, Reply, failed, bad}
use Rattle.cad_run_outcomes.specs.Outcomes as spec
use Rattle.serde_json.specs.Data.{Data}
use Rattle.cad_store.specs.declared.store.Store.{Store}
use Rattle.cad_answers.specs.Answer.{Answers, too_long, answered, Does, Commits, unchanged, fits, full, most_bytes}
use Rattle.cad_serve_parts.specs.Held.{longest}
use Rattle.cad_serve_parts.specs.Code.Held.{Holds}
use Rattle.cad_answers.specs.Code.Outcomes.{Comes, IsReady, IsSettled, RunsTo}
use Rattle.cad_answers.specs.Code.Views.{Tells}
use Rattle.cad_serve_parts.specs.declared.line.Line.{Line}
use Rattle.cad_answers.specs.declared.reply.Reply as own
use Rattle.cad_answers.specs.declared.outcome.Outcome.{Outcome}
use Rattle.cad_answers.specs.declared.outcome.Outcome.TheVariants.{Stays as Staying, Leads as Leading}
use Rattle.cad_answers.specs.declared.ready.Prepared.{Prepared}
use Rattle.cad_answers.specs.declared.ready.Prepared.TheVariants as prepared
use Rattle.cad_answers.specs.declared.settling.Settled.{Settled}
use Rattle.cad_answers.specs.declared.settling.Settled.TheVariants as settled

-- what leads to a map gives it
leads_to : (old new : Map) (changes : List Entry) → Leads old new changes → new ≡ applied changes old
leads_to old new changes h = λ i key. h.is key i

sized : (u : World) (old new : Map) (changes : List Entry) (rows : List Row) → Leads old new changes → StandsFor new u → are_rising rows ≡ true → ((key : List ℕ) → at rows key ≡ applied changes old key) → size_of rows ≡ size coding u
sized u old new changes rows h stands rises same =
    (rows_are_registers_lem rows u rises (subst (λ m. StandsFor m u) (leads_to old new changes h ∙ (λ i key. sym (same key) i)) stands)).size_is

module _ (w v u : World) (a : Reply Data) (changes : List Entry) (new : Map) (before : List Row) (rises : are_rising before ≡ true) (h : Leads (at before) new changes) (stands : StandsFor new u) (becomes : Becomes v u) (room : ℕ) (is : room ≡ most_bytes) where
  pub commits_fit : ((rows : List Row) → are_rising rows ≡ true → ((key : List ℕ) → at rows key ≡ applied changes (at before) key) → size_of rows ≤ room) → Commits w (spec.leads a v) a u
  commits_fit small =
      let r = rows_exist before changes rises in
      fits becomes (subst (λ n. n ≤ most_bytes) (sized u (at before) new changes r.0 h stands r.1 r.2) (subst (λ n. size_of r.0 ≤ n) is (small r.0 r.1 r.2)))

  pub commits_full : ((rows : List Row) → are_rising rows ≡ true → ((key : List ℕ) → at rows key ≡ applied changes (at before) key) → room < size_of rows) → Commits w (spec.leads a v) (failed 130) w
  commits_full large =
      let r = rows_exist before changes rises in
      full becomes (subst (λ n. most_bytes < n) (sized u (at before) new changes r.0 h stands r.1 r.2) (subst (λ n. n < size_of r.0) is (large r.0 r.1 r.2)))

  pub stands_applied : StandsFor (applied changes (at before)) u
  stands_applied = subst (λ m. StandsFor m u) (leads_to (at before) new changes h) stands

-- changes that lead to a map lead to what they make
pub leads_applied : (old new : Map) (changes : List Entry) → Leads old new changes → Leads old (applied changes old) changes
leads_applied old new changes h = subst (λ m. Leads old m changes) (leads_to old new changes h) h

-- no change leaves the map
pub stands_unchanged : (v : World) (old new : Map) (changes : List Entry) → changes ≡ [] → Leads old new changes → StandsFor new v → StandsFor old v
stands_unchanged v old new changes none h stands = subst (λ es. StandsFor (applied es old) v) none (subst (λ m. StandsFor m v) (leads_to old new changes h) stands)

-- what is ready may be allowed by more
pub ready_as : {P Q : Reply Data → World → Type 0} (p : Prepared) (store : Store) → ((a : Reply Data) (v : World) → P a v → Q a v) → IsReady p store P → IsReady p store Q
ready_as (prepared.Reply text) store f h = (h.0, h.1, f h.0 h.1 h.2, h.3, h.4)
ready_as (prepared.Commit commit text) store f h = (h.0, h.1, h.2, f h.0 h.1 h.3, h.4, h.5, h.6, h.7, h.8)

pub settled_as : {P Q : Reply Data → World → Type 0} (s : Settled) (store : Store) → ((a : Reply Data) (v : World) → P a v → Q a v) → IsSettled s store P → IsSettled s store Q
settled_as (settled.Reply reply) store f h = (h.0, h.1, f h.0 h.1 h.2, h.3, h.4)
settled_as (settled.Commit commit reply) store f h = (h.0, h.1, h.2, f h.0 h.1 h.3, h.4, h.5, h.6, h.7, h.8)

-- a line that is held
test_long : (n m : ℕ) → ltb n m ≡ true → n < m
test_long n m e = grind (arith, nat_tests)

test_short : (n m : ℕ) → ltb n m ≡ false → m ≤ n
test_short n m e = grind (arith, nat_tests)

pub long_line : (w : World) (line : Line) (pending : List ℕ) → line.long ≡ true → Holds line pending → Answers w pending (bad 27) w
long_line w line pending long h = too_long (test_long longest (length pending) (sym h.long ∙ long))

pub short_line : (line : Line) (pending : List ℕ) → line.long ≡ false → Holds line pending → length pending ≤ longest
short_line line pending short h = test_short longest (length pending) (sym h.long ∙ short)

pub held_line : (line : Line) (pending : List ℕ) → line.long ≡ false → Holds line pending → line.held.items ≡ pending
held_line line pending short h = h.held ∙ take_all longest pending (short_line line pending short h)

-- what the command of a line that isn't too long is answered
pub answers_line : (w : World) (line : List ℕ) (a : Reply Data) (v : World) → length line ≤ longest → RunsTo w line a v → Answers w line a v
answers_line w line a v short done = answered short done.1 done.2

pub with_command : (w : World) (line : Line) (a : Reply Data) (v : World) → line.long ≡ false → RunsTo w line.held.items a v → (pending : List ℕ) → Holds line pending → Answers w pending a v
with_command w line a v short done pending h =
    answered (short_line line pending short h) (subst (λ (l : List ℕ). Does w (command_of l) done.0) (held_line line pending short h) done.1) done.2

-- what a command comes to, which stays
pub settled_stays : (old : Map) (outcome : Outcome) (reply : own.Reply) → outcome ≡ Staying reply
    → (w : World) (command : Command Data) → StandsFor old w → Comes outcome old w command
    → (a : Reply Data) × (v : World) × ((o : spec.Outcome) × Does w command o × Commits w o a v) × Tells reply a × StandsFor old v
settled_stays old outcome reply is w command is_w comes =
    let h = subst (λ o. Comes o old w command) is comes in
    (h.0, w, (spec.stays h.0, h.2, unchanged), h.1, is_w)

pub settled_leads : {E : Type 0} (r : Result Settled E) (old : Map) (store : Store) (outcome : Outcome) (reply : own.Reply) (changes : List Entry) → outcome ≡ Leading reply changes
    → IfOk r (λ s. (a : Reply Data) (w v u : World) (new : Map) → Tells reply a → StandsFor old w → Leads old new changes → StandsFor new u → Becomes v u → IsSettled s store (Commits w (spec.leads a v)))
    → IfOk r (λ s. (w : World) (command : Command Data) → StandsFor old w → Comes outcome old w command → IsSettled s store (λ a v. (o : spec.Outcome) × Does w command o × Commits w o a v))
settled_leads (Ok s) old store outcome reply changes is f = λ w command is_w comes.
    let h = subst (λ o. Comes o old w command) is comes in
    settled_as s store (λ a u c. (spec.leads h.0 h.2, h.4, c)) (f h.0 w h.2 h.6 h.3 h.1 is_w h.5 h.7 h.8)
settled_leads (Err e) old store outcome reply changes is f = tt

pub settled_command : {E : Type 0} (r : Result Settled E) (old : Map) (store : Store) (line : List ℕ) (outcome : Outcome) (command : Command Data) → command ≡ command_of line
    → ((w : World) → StandsFor old w → Comes outcome old w command)
    → IfOk r (λ s. (w : World) (command : Command Data) → StandsFor old w → Comes outcome old w command → IsSettled s store (λ a v. (o : spec.Outcome) × Does w command o × Commits w o a v))
    → IfOk r (λ s. (w : World) → StandsFor old w → IsSettled s store (RunsTo w line))
settled_command (Ok s) old store line outcome command is comes f = λ w is_w.
    settled_as s store (λ a v done. subst (λ (c : Command Data). (o : spec.Outcome) × Does w c o × Commits w o a v) is done) (f w command is_w (comes w is_w))
settled_command (Err e) old store line outcome command is comes f = tt

-- the line of what is settled
pub ready_line : {E : Type 0} (r : Result Prepared E) (old : Map) (settled : Settled) (before store : Store) (line : Line) → line.long ≡ false
    → ((w : World) → StandsFor old w → IsSettled settled before (RunsTo w line.held.items))
    → IfOk r (λ p. (w : World) (l : List ℕ) → IsSettled settled before (RunsTo w l) → IsReady p store (RunsTo w l))
    → IfOk r (λ p. (w : World) → StandsFor old w → IsReady p store (λ a v. (pending : List ℕ) → Holds line pending → Answers w pending a v))
ready_line (Ok p) old settled before store line short is f = λ w is_w.
    ready_as p store (λ a v done pending h. with_command w line a v short done pending h) (f w line.held.items (is w is_w))
ready_line (Err e) old settled before store line short is f = tt
