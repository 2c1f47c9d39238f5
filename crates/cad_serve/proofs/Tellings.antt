-- A command is answered, or answering stops.
use Rattle.std.proofs.Common.{◌≡◌, ◌≢◌, ℕ, List, [], ◌∷◌, Bool, true, false, cond, not, Result, Ok, Err, OnOk, IfErr, sym, ◌∙◌, ap, subst}
use Rattle.cad_host.specs.Disk.{Event, put, output, Puts, Ran, BreaksPut}
use Rattle.cad_wire.specs.declared.entry.Entry.{Entry}
use Rattle.cad_wire.specs.Body.{body_bytes}
use Rattle.cad_accounts.specs.Registers.{Map, applied, Leads}
use Rattle.cad_world.specs.State.{World}
use Rattle.cad_worlds.specs.Standing.{StandsFor}
use Rattle.serde_json.specs.Data.{Data}
use Rattle.cad_runs.specs.Commands.{Reply}
use Rattle.cad_serve_parts.specs.Code.Worlds.{AreSound}
use Rattle.cad_store.specs.declared.store.Store.{Store}
use Rattle.cad_store.specs.Stores.{held, IsOn, Keeps, recorded}
use Rattle.cad_answers.specs.Answer.{Answers, answer_line}
use Rattle.cad_serve.specs.Writing.{Written, one_record}
use Rattle.cad_serve.specs.Code.Progress.{Said, Halted}
use Rattle.cad_serve.specs.declared.status.Status.{Status}
use Rattle.cad_serve.specs.declared.status.Status.TheVariants.{WriteFault}
use Rattle.cad_serve_parts.specs.Lines.{is_command}
use Rattle.cad_serve_parts.specs.Code.Held.{Holds}
use Rattle.cad_serve_parts.specs.declared.line.Line.{Line}
use Rattle.cad_serve.proofs.Saids.{said_none, commit_said, commit_told}

-- the reply was put, or it broke
pub told_said : {T E : Type 0} (r : Result T E) (X : Type 0) (text : List ℕ) (mid new : List Event) → Puts text r mid new → (new ≡ put text ∷ mid → X) → OnOk r X
told_said (Ok t) X text mid new puts f = f puts
told_said (Err e) X text mid new puts f = tt

pub told_stops : {T : Type 0} (r : Result T Status) (R : Type 0) (P : Status → Type 0) (text : List ℕ) (mid new : List Event) → IfErr r (λ s. (s ≡ WriteFault) × R) → Puts text r mid new → (BreaksPut text mid new → P WriteFault) → IfErr r P
told_stops (Ok t) R P text mid new cause puts f = tt
told_stops (Err s) R P text mid new cause puts f = subst P (sym cause.0) (f puts)

-- a map that is equal at each key
same_map : (m n : Map) → ((key : List ℕ) → m key ≡ n key) → m ≡ n
same_map m n h = λ i key. h key i

pub sound_as : (m n : Map) (v : World) → ((key : List ℕ) → m key ≡ n key) → StandsFor n v → AreSound m
sound_as m n v h stands = (v, subst (λ x. StandsFor x v) (sym (same_map m n h)) stands)

module _ (base : List Event) (w v : World) (c : List ℕ) (a : Reply Data) (answers : Answers w c a v) (old mid : List Event) (before : Map) (changes : List Entry) (store : Store)
    (same : output mid ≡ output old) (is_w : StandsFor before w) (is_v : StandsFor (applied changes before) v)
    (holds : (key : List ℕ) → held store key ≡ applied changes before key)
    (moments : Ran old mid (Keeps old before (applied changes before))) (on : IsOn mid store)
    (leads : Leads before (applied changes before) changes) (some : changes ≢ []) (order : mid ≡ recorded (body_bytes changes) old) where
  stands : StandsFor (held store) v
  stands = subst (λ m. StandsFor m v) (sym (same_map (held store) (applied changes before) holds)) is_v

  ran : Ran old mid (Keeps old before (held store))
  ran = subst (λ m. Ran old mid (Keeps old before m)) (sym (same_map (held store) (applied changes before) holds)) moments

  written : Written w v old mid
  written = one_record is_w is_v leads some order

  pub wrote_said : (text : List ℕ) (new : List Event) → text ≡ answer_line a → new ≡ put text ∷ mid → Said base w (c ∷ []) old new store
  wrote_said text new is made = commit_said base w v c a answers old before mid new text store same is_w stands ran on written is made

  pub wrote_broke : (text : List ℕ) (new : List Event) → text ≡ answer_line a → BreaksPut text mid new → Halted WriteFault base w (c ∷ []) old new
  wrote_broke text new is broke = commit_told base w v c a answers old before mid new text store same is_w stands ran on written is broke

pub on_ok : {T E : Type 0} (r : Result T E) (X : Type 0) → X → OnOk r X
on_ok (Ok t) X x = x
on_ok (Err e) X x = tt

pub on_map : {T E : Type 0} (r : Result T E) (X Y : Type 0) → (X → Y) → OnOk r X → OnOk r Y
on_map (Ok t) X Y f x = f x
on_map (Err e) X Y f x = tt

-- a line that is blank
pub is_blank_line : (line : Line) (pending : List ℕ) → Holds line pending → line.blank ≡ true → is_command pending ≡ false
is_blank_line line pending h blank = ap not (sym h.blank ∙ blank)

pub is_command_line : (line : Line) (pending : List ℕ) → Holds line pending → line.blank ≡ false → is_command pending ≡ true
is_command_line line pending h command = ap not (sym h.blank ∙ command)

pub blank_said : (base : List Event) (b : Bool) (w : World) (pending : List ℕ) (m : List Event) (store : Store) → b ≡ false → StandsFor (held store) w → IsOn m store → Said base w (cond b (pending ∷ []) []) m m store
blank_said base b w pending m store blank stands on = subst (λ c. Said base w (cond c (pending ∷ []) []) m m store) (sym blank) (said_none base w m store stands on)

pub command_said : {T E : Type 0} (r : Result T E) (base : List Event) (b : Bool) (w : World) (pending : List ℕ) (old new : List Event) (store : Store) → b ≡ true → OnOk r (Said base w (pending ∷ []) old new store) → OnOk r (Said base w (cond b (pending ∷ []) []) old new store)
command_said r base b w pending old new store command h = subst (λ c. OnOk r (Said base w (cond c (pending ∷ []) []) old new store)) (sym command) h

pub command_stops : {T : Type 0} (r : Result T Status) (base : List Event) (b : Bool) (w : World) (pending : List ℕ) (old new : List Event) → b ≡ true → IfErr r (λ s. Halted s base w (pending ∷ []) old new) → IfErr r (λ s. Halted s base w (cond b (pending ∷ []) []) old new)
command_stops r base b w pending old new command h = subst (λ c. IfErr r (λ s. Halted s base w (cond c (pending ∷ []) []) old new)) (sym command) h
