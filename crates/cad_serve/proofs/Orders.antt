-- A reply that is put before its commit.
use Rattle.std.proofs.Common.{◌≡◌, ◌≢◌, ℕ, ◌+◌, List, [], ◌∷◌, ◌++◌, take, ◌∙◌, ap, subst, arith}
use Rattle.cad_host.specs.declared.host.Tape.TheVariants.{Pick}
use Rattle.cad_host.specs.Disk.{Event, put, synced, output, reads}
use Rattle.cad_host.specs.Crash.{IsSettled}
use Rattle.cad_host.proofs.Ran.{ran_inside}
use Rattle.cad_host.proofs.Kept.{settled_synced, reads_disk}
use Rattle.cad_world.specs.State.{World}
use Rattle.cad_serve_parts.specs.Passed.{OneWorld}
use Rattle.cad_store.specs.Opening.{in_use, opened, IsOpening}
use Rattle.cad_store.proofs.Beginning.{opened_reads}
use Rattle.serde_json.specs.Data.{Data}
use Rattle.cad_runs.specs.Commands.{Reply}
use Rattle.cad_answers.specs.Answer.{Answers, answer_line}
use Rattle.cad_serve.specs.Replied.{line_feeds, acknowledged}
use Rattle.cad_serve.specs.Served.{AnswersAll}
use Rattle.cad_serve.specs.Crashes.{DiskStands, HasPrefix, IsPrefix, Survives, in_opening, after_opening}
use Rattle.cad_serve.proofs.Feeds.{feeds_append}
use Rattle.cad_serve.proofs.Lines_of.{one_feed}
use Rattle.cad_serve.proofs.Openings.{stands_both}

-- one command has one answer
one_answer : (w v u : World) (command : List ℕ) (a : Reply Data) (answers : List (Reply Data)) → ((b : Reply Data) (x : World) → Answers w command b x → x ≡ v) → AnswersAll w (command ∷ []) answers u → u ≡ v
one_answer w v u command a [] only h = elim h [ ]
one_answer w v u command a (b ∷ []) only h = h.2 ∙ only b h.0 h.1
one_answer w v u command a (b ∷ c ∷ answers) only h = elim h.2 [ ]

module _ (one_world : OneWorld) (w v : World) (command : List ℕ) (a : Reply Data) (old later : List Event) (only : (b : Reply Data) (x : World) → Answers w command b x → x ≡ v) (changes : v ≢ w) (settled : IsSettled old) (stands : DiskStands (reads old) w) where
  abbrev told : List Event
  told = put (answer_line a) ∷ opened old

  feeds : line_feeds (output told) ≡ line_feeds (output old) + 1
  feeds = feeds_append (output old) (answer_line a) ∙ ap (λ n. line_feeds (output old) + n) (one_feed a)

  all_settled : IsSettled told
  all_settled t = settled_synced (in_use old) (synced Pick ∷ old) (settled_synced Pick old settled) t

  -- the image stands for the accounts from before
  no_prefix : HasPrefix w (command ∷ []) (acknowledged (opened old) told) (reads told) → ⊥
  no_prefix p =
      let one : p.count ≡ 1 = omega (arith, p.within, p.each_known, feeds) in
      let all : AnswersAll w (command ∷ []) p.answers p.world = subst (λ n. AnswersAll w (take n (command ∷ [])) p.answers p.world) one p.are in
      let is : p.world ≡ v = one_answer w v p.world command a p.answers only all in
      let there : DiskStands (reads old) v = subst (λ x. DiskStands (reads old) x) is (subst (λ r. DiskStands r p.world) (opened_reads old) p.stands) in
      changes (stands_both one_world (reads old) v w there stands)

  pub too_early : Survives w (command ∷ []) old (later ++ told) → ⊥
  too_early (in_opening ran) =
      let same = (ran_inside (IsOpening old) old (put (answer_line a) ∷ synced (in_use old) ∷ synced Pick ∷ []) later ran).output in
      omega (arith, ap line_feeds same, feeds)
  too_early (after_opening before ran) =
      let here = ran_inside (IsPrefix w (command ∷ []) (opened old)) (opened old) (put (answer_line a) ∷ []) later ran in
      no_prefix (here.disk (reads told) (reads_disk told all_settled))
