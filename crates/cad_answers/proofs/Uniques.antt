-- A command has one reply at most, and leads to one World.
use Rattle.std.proofs.Common.{◌≡◌, ◌≢◌, ℕ, ◌≤◌, ◌<◌, Bool, true, false, List, Some, None, refl, sym, ◌∙◌, ap, subst, arith}
use Rattle.serde_json.specs.Data.{Data}
use Rattle.cad_syntax.specs.declared.address.Address.{Address}
use Rattle.cad_syntax.specs.declared.type_id.TypeId.{TypeId}
use Rattle.cad_acceptance.specs.Acceptance.{CheckedProgram, AcceptsText}
use Rattle.cad_fronts.specs.Passed.{OneFirstStop, OneAcceptance, AcceptedTextsHaveNoStop}
use Rattle.cad_commands.specs.Commands.{command_of}
use Rattle.cad_replies.specs.Passed.{contract_named, is_taken}
use Rattle.cad_replies.specs.Deployments as deployment
use Rattle.cad_fronts.specs.Laws.{OneVerdict}
use Rattle.cad_bounds.specs.Fronts.{join}
use Rattle.cad_loads.specs.Fronts.{IsRight}
use Rattle.cad_loads.specs.Loads.{program_in}
use Rattle.cad_runs.specs.Commands.{Command, Reply, failed, rejected, is_account}
use Rattle.cad_replies.specs.Scripts as script
use Rattle.cad_replies.specs.Scripts.{OneAnswer, AnswersExtend}
use Rattle.cad_replies.specs.Transactions as transaction
use Rattle.cad_run_outcomes.specs.Outcomes.{Outcome, stays}
use Rattle.cad_replies.specs.Transactions.{OneOutcome, OutcomesExtend}
use Rattle.cad_world.specs.Fronts.{Front}
use Rattle.cad_world.specs.Registers.{map_of, size}
use Rattle.cad_world.specs.State.{World}
use Rattle.cad_serve_parts.specs.Passed.{OneWorld}
use Rattle.cad_worlds.specs.Standing.{coding, Becomes}
use Rattle.cad_answers.specs.Answer.{beside, RunsScript, refused_script, replies, RunsTransaction, refused_transaction, comes, RunsDeploy, name_taken, refused_deploy, installs, Does, unread, spent, made, nowhere, deploys, transacts, runs, most_bytes, Commits, unchanged, fits, full, Answers, too_long, answered}

apart : (a b : ℕ) → a ≤ b → b < a → ⊥
apart a b h k = omega (arith, h, k)

one_bool : (b : Bool) → b ≡ true → b ≡ false → ⊥
one_bool b h k = let o : true ≡ false = sym h ∙ k in cc o

module _ (one_stop : OneFirstStop) (one_acceptance : OneAcceptance) (no_stop : AcceptedTextsHaveNoStop) (one_verdict : OneVerdict) (one_world : OneWorld) where
  -- ---- what is accepted comes to one thing, by whichever right front ends it is told

  module _ (one_answer : OneAnswer) (extend : AnswersExtend) where
    one_script : (w : World) (code : List ℕ) (arguments : List Data) (units : ℕ) (x y : CheckedProgram) (f g : Front) (a b : Reply Data)
        → AcceptsText (beside w) None code x → IsRight f → script.Answers f w (program_in x) arguments units a → a ≢ failed 0
        → AcceptsText (beside w) None code y → IsRight g → script.Answers g w (program_in y) arguments units b → b ≢ failed 0 → a ≡ b
    one_script w code arguments units x y f g a b h right p told k left q said =
        let same = one_verdict f g right left in
        one_answer (join f g) w (program_in y) arguments units a b
        (extend f (join f g) w (program_in y) arguments units a same.0
        (subst (λ (c : CheckedProgram). script.Answers f w (program_in c) arguments units a) (one_acceptance (beside w) None code x y h k) p) told)
        (extend g (join f g) w (program_in y) arguments units b same.1 q said)

    same_script : (w : World) (code : List ℕ) (arguments : List Data) (units : ℕ) (a b : Reply Data) → RunsScript w code arguments units a → RunsScript w code arguments units b → a ≡ b
    same_script w code arguments units a b (refused_script {r = x} h) (refused_script {r = y} k) = ap rejected (one_stop (beside w) None code x y h k)
    same_script w code arguments units a b (refused_script {r = r} h) (replies {x = y} k right q told) = absurd (no_stop (beside w) None code y r k h)
    same_script w code arguments units a b (replies {x = x} h right q told) (refused_script {r = r} k) = absurd (no_stop (beside w) None code x r h k)
    same_script w code arguments units a b (replies {x = x} {front = f} {reply = r} h right p told) (replies {x = y} {front = g} {reply = i} k left q said) =
        one_script w code arguments units x y f g r i h right p told k left q said

  module _ (one_outcome : OneOutcome) (extend : OutcomesExtend) where
    one_transaction : (w : World) (code : List ℕ) (arguments : List Data) (signers : List Address) (units : ℕ) (x y : CheckedProgram) (f g : Front) (a b : Outcome)
        → AcceptsText (beside w) None code x → IsRight f → transaction.Comes f w (program_in x) arguments signers units a → a ≢ stays (failed 0)
        → AcceptsText (beside w) None code y → IsRight g → transaction.Comes g w (program_in y) arguments signers units b → b ≢ stays (failed 0) → a ≡ b
    one_transaction w code arguments signers units x y f g a b h right p told k left q said =
        let same = one_verdict f g right left in
        one_outcome (join f g) w (program_in y) arguments signers units a b
        (extend f (join f g) w (program_in y) arguments signers units a same.0
        (subst (λ (c : CheckedProgram). transaction.Comes f w (program_in c) arguments signers units a) (one_acceptance (beside w) None code x y h k) p) told)
        (extend g (join f g) w (program_in y) arguments signers units b same.1 q said)

    same_transaction : (w : World) (code : List ℕ) (arguments : List Data) (signers : List Address) (units : ℕ) (o p : Outcome)
        → RunsTransaction w code arguments signers units o → RunsTransaction w code arguments signers units p → o ≡ p
    same_transaction w code arguments signers units o p (refused_transaction {r = x} h) (refused_transaction {r = y} k) = ap (λ r. stays (rejected r)) (one_stop (beside w) None code x y h k)
    same_transaction w code arguments signers units o p (refused_transaction {r = r} h) (comes {x = y} k right q told) = absurd (no_stop (beside w) None code y r k h)
    same_transaction w code arguments signers units o p (comes {x = x} h right q told) (refused_transaction {r = r} k) = absurd (no_stop (beside w) None code x r h k)
    same_transaction w code arguments signers units o p (comes {x = x} {front = f} {outcome = r} h right q told) (comes {x = y} {front = g} {outcome = i} k left z said) =
        one_transaction w code arguments signers units x y f g r i h right q told k left z said

  module _ (one_deployment : deployment.OneOutcome) (extend : deployment.OutcomesExtend) where
    one_deploy : (w : World) (id : TypeId) (code : List ℕ) (arguments : List Data) (units : ℕ) (x y : CheckedProgram) (f g : Front) (a b : Outcome)
        → AcceptsText (beside w) (Some id.address) code x → IsRight f → deployment.Comes f w (program_in x) id code arguments units a → a ≢ stays (failed 0)
        → AcceptsText (beside w) (Some id.address) code y → IsRight g → deployment.Comes g w (program_in y) id code arguments units b → b ≢ stays (failed 0) → a ≡ b
    one_deploy w id code arguments units x y f g a b h right p told k left q said =
        let same = one_verdict f g right left in
        one_deployment (join f g) w (program_in y) id code arguments units a b
        (extend f (join f g) w (program_in y) id code arguments units a same.0
        (subst (λ (c : CheckedProgram). deployment.Comes f w (program_in c) id code arguments units a) (one_acceptance (beside w) (Some id.address) code x y h k) p) told)
        (extend g (join f g) w (program_in y) id code arguments units b same.1 q said)

    same_deploy : (w : World) (id : TypeId) (code : List ℕ) (arguments : List Data) (units : ℕ) (o p : Outcome) → RunsDeploy w id code arguments units o → RunsDeploy w id code arguments units p → o ≡ p
    same_deploy w id code arguments units o p (name_taken h) (name_taken k) = refl
    same_deploy w id code arguments units o p (name_taken h) (refused_deploy f k) = absurd (one_bool (is_taken w.contracts id) h f)
    same_deploy w id code arguments units o p (name_taken h) (installs f k right q told) = absurd (one_bool (is_taken w.contracts id) h f)
    same_deploy w id code arguments units o p (refused_deploy f h) (name_taken k) = absurd (one_bool (is_taken w.contracts id) k f)
    same_deploy w id code arguments units o p (refused_deploy {r = x} f h) (refused_deploy {r = y} g k) = ap (λ r. stays (rejected r)) (one_stop (beside w) (Some id.address) code x y h k)
    same_deploy w id code arguments units o p (refused_deploy {r = r} f h) (installs {x = y} g k right q told) = absurd (no_stop (beside w) (Some id.address) code y r k h)
    same_deploy w id code arguments units o p (installs f h right q told) (name_taken k) = absurd (one_bool (is_taken w.contracts id) k f)
    same_deploy w id code arguments units o p (installs {x = x} f h right q told) (refused_deploy {r = r} g k) = absurd (no_stop (beside w) (Some id.address) code x r h k)
    same_deploy w id code arguments units o p (installs {x = x} {front = f} {outcome = r} free h right q told) (installs {x = y} {front = g} {outcome = i} clear k left z said) =
        one_deploy w id code arguments units x y f g r i h right q told k left z said

  -- ---- commands

  module _ (one_answer : OneAnswer) (answers : AnswersExtend) (one_outcome : OneOutcome) (outcomes : OutcomesExtend)
      (one_deployment : deployment.OneOutcome) (deployments : deployment.OutcomesExtend) where
    same_does : (w : World) (c : Command Data) (o p : Outcome) → Does w c o → Does w c p → o ≡ p
    same_does w c o p unread unread = refl
    same_does w c o p (spent h) (spent k) = refl
    same_does w c o p (spent h) (made k) = absurd (apart _ _ h k)
    same_does w c o p (made h) (spent k) = absurd (apart _ _ k h)
    same_does w c o p (made h) (made k) = refl
    same_does w c o p (nowhere h) (nowhere k) = refl
    same_does w c o p (nowhere {place = place} h) (deploys k t) = absurd (one_bool (is_account w place) k h)
    same_does w c o p (deploys {place = place} h t) (nowhere k) = absurd (one_bool (is_account w place) h k)
    same_does w c o p (deploys {place = place} {name = name} {code = code} {arguments = all} {units = n} {outcome = q} h t) (deploys {outcome = r} k z) = same_deploy one_deployment deployments w (contract_named place name) code all n q r t z
    same_does w c o p (transacts {code = code} {arguments = all} {signers = ss} {units = n} h) (transacts k) = same_transaction one_outcome outcomes w code all ss n o p h k
    same_does w c o p (runs {code = code} {arguments = all} {units = n} {a = a} h) (runs {a = b} k) = ap stays (same_script one_answer answers w code all n a b h k)

    -- what a World becomes is too large, or it isn't
    large_or_not : (v x y : World) → Becomes v x → Becomes v y → size coding x ≤ most_bytes → most_bytes < size coding y → ⊥
    large_or_not v x y h k small large = apart (size coding x) most_bytes small (subst (λ (z : World). most_bytes < size coding z) (one_world (map_of coding v) y x k h) large)

    same_commits : (w : World) (o : Outcome) (a b : Reply Data) (x y : World) → Commits w o a x → Commits w o b y → (a ≡ b) × (x ≡ y)
    same_commits w o a b x y unchanged unchanged = (refl, refl)
    same_commits w o a b x y (fits {v = v} {u = p} h s) (fits {u = q} k t) = (refl, one_world (map_of coding v) p q h k)
    same_commits w o a b x y (fits {v = v} {u = p} h s) (full {u = q} k l) = absurd (large_or_not v p q h k s l)
    same_commits w o a b x y (full {v = v} {u = p} h l) (fits {u = q} k s) = absurd (large_or_not v q p k h s l)
    same_commits w o a b x y (full h l) (full k t) = (refl, refl)

    pub same_answer : (w : World) (line : List ℕ) (a b : Reply Data) (u v : World) → Answers w line a u → Answers w line b v → (a ≡ b) × (u ≡ v)
    same_answer w line a b u v (too_long h) (too_long k) = (refl, refl)
    same_answer w line a b u v (too_long h) (answered k d c) = absurd (apart _ _ k h)
    same_answer w line a b u v (answered h d c) (too_long k) = absurd (apart _ _ h k)
    same_answer w line a b u v (answered {outcome = o} h d c) (answered {outcome = p} k e t) =
        same_commits w p a b u v (subst (λ (x : Outcome). Commits w x a u) (same_does w (command_of line) o p d e) c) t
