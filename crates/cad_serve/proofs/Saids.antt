-- One command, and commands in turn: what is said, and what a crash leaves.
use Rattle.std.proofs.Common.{◌≡◌, ◌≢◌, ◌⊎◌, inl, inr, ℕ, List, [], ◌∷◌, ◌++◌, length, take, Result, Ok, Err, OnOk, refl, sym, ◌∙◌, ap, subst, arith}
use Rattle.std.proofs.lemmas.List.{append-nil}
use Rattle.std.proofs.Math.Seq.{take-length}
use Rattle.cad_host.specs.declared.host.Tape.{Tape}
use Rattle.cad_host.specs.Disk.{Event, put, put_part, took, output, reads, IsDisk, Ran, Puts, BreaksPut}
use Rattle.cad_host.proofs.Ran.{ran_as, ran_on, ran_none, ran_one, ran_end}
use Rattle.cad_wire.specs.declared.entry.Entry.{Entry}
use Rattle.cad_wire.specs.Body.{body_bytes}
use Rattle.cad_accounts.specs.Registers.{Map, Leads}
use Rattle.cad_world.specs.State.{World}
use Rattle.cad_worlds.specs.Standing.{StandsFor}
use Rattle.cad_serve_parts.specs.Passed.{OneWorld}
use Rattle.cad_store.specs.declared.store.Store.{Store}
use Rattle.cad_store.specs.declared.place.Place.{Place}
use Rattle.cad_store.specs.declared.place.Place.TheVariants.{Behind, Onto}
use Rattle.cad_store.specs.Stores.{DiskHolds, held, IsAt, IsOn, Keeps, BreaksRecord}
use Rattle.serde_json.specs.Data.{Data}
use Rattle.cad_runs.specs.Commands.{Reply}
use Rattle.cad_answers.specs.Answer.{Answers, answer_line}
use Rattle.cad_serve.specs.Served.{Served, Broken}
use Rattle.cad_serve.specs.Writing.{Written, nothing, Wrote, WroteBroken, WroteStopped, writing}
use Rattle.cad_serve.specs.Crashes.{DiskStands, HasPrefix, IsPrefix, KeepsPrefix}
use Rattle.cad_serve.specs.Replied.{line_feeds, acknowledged, HasReplied}
use Rattle.cad_serve.specs.Code.Progress.{Said, Halts, Halted}
use Rattle.cad_serve.specs.declared.status.Status.{Status}
use Rattle.cad_serve.specs.declared.status.Status.TheVariants.{Done, Usage, ReadFault, WriteFault, DiskFault, Memory, BadStore, InputBound}
use Rattle.cad_serve.proofs.Batches.{served_none, served_then, some_then, some_more, broken_then, broken_more}
use Rattle.cad_serve.proofs.Writings.{takes_none, wrote_none, wrote_then, wrote_took, some_none, wrote_some_then, wrote_some_more, wrote_broken_then, wrote_broken_more, wrote_stopped_then, wrote_stopped_more}
use Rattle.cad_serve.proofs.Feeds.{feeds_append, feeds_front}
use Rattle.cad_serve.proofs.Lines_of.{one_feed}
use Rattle.cad_serve.proofs.Prefixes.{quiet_stands, prefix_none, survives_more, survives_then, survives_took}

-- what is put leaves the tapes
place_put : (bytes : List ℕ) (m : List Event) (place : Place) → IsAt m place → IsAt (put bytes ∷ m) place
place_put bytes m (Behind tape at) h = record { used = h.used; ends = h.ends; fits = h.fits }
place_put bytes m (Onto tape) h = (record { not_used = h.0.not_used; not_pick = h.0.not_pick; whole = h.0.whole }, h.1)

on_put : (bytes : List ℕ) (m : List Event) (store : Store) → IsOn m store → IsOn (put bytes ∷ m) store
on_put bytes m store h = record { holds = h.holds; place = place_put bytes m store.place h.place; quiet = record { clean = h.quiet.clean; clean_pick = h.quiet.clean_pick } }

-- and so does what is taken
place_took : (bytes : List ℕ) (m : List Event) (place : Place) → IsAt m place → IsAt (took bytes ∷ m) place
place_took bytes m (Behind tape at) h = record { used = h.used; ends = h.ends; fits = h.fits }
place_took bytes m (Onto tape) h = (record { not_used = h.0.not_used; not_pick = h.0.not_pick; whole = h.0.whole }, h.1)

pub on_took : (bytes : List ℕ) (m : List Event) (store : Store) → IsOn m store → IsOn (took bytes ∷ m) store
on_took bytes m store h = record { holds = h.holds; place = place_took bytes m store.place h.place; quiet = record { clean = h.quiet.clean; clean_pick = h.quiet.clean_pick } }

-- a store on its tapes, which stand for the accounts that it holds
pub on_stands : (m : List Event) (store : Store) (w : World) → IsOn m store → StandsFor (held store) w → DiskStands (reads m) w
on_stands m store w on stands = record { map = held store; holds = on.holds; stands = stands }

-- each image stands for these accounts too
pub images : (m : List Event) (store : Store) (w : World) → IsOn m store → StandsFor (held store) w → (disk : Tape → List ℕ) → IsDisk m disk → DiskStands disk w
images m store w on stands disk image = quiet_stands m disk w on.quiet image (on_stands m store w on stands)

pub survives_none : (w : World) (cs : List (List ℕ)) (m : List Event) → ((disk : Tape → List ℕ) → IsDisk m disk → DiskStands disk w) → KeepsPrefix w cs m m
survives_none w cs m stands = ran_none (IsPrefix w cs m) m (prefix_none w cs m stands)

pub said_none : (base : List Event) (w : World) (m : List Event) (store : Store) → StandsFor (held store) w → IsOn m store → Said base w [] m m store
said_none base w m store stands on = record {
  world = w;
  served = served_none w (output m);
  wrote = wrote_none base w m;
  stands = stands;
  on = on;
  survives = survives_none w [] m (images m store w on stands);
}

pub said_then : (base : List Event) (w : World) (xs ys : List (List ℕ)) (old mid new : List Event) (s t : Store) (h : Said base w xs old mid s) → Said base h.world ys mid new t → Said base w (xs ++ ys) old new t
said_then base w xs ys old mid new s t h k = record {
  world = k.world;
  served = served_then w h.world k.world xs ys (output old) (output mid) (output new) h.served k.served;
  wrote = wrote_then base w h.world k.world xs ys old mid new h.wrote k.wrote;
  stands = k.stands;
  on = k.on;
  survives = survives_then w h.world xs ys old mid new h.served h.survives k.survives;
}

-- and then more is taken
pub said_took : (base : List Event) (w : World) (cs : List (List ℕ)) (old m : List Event) (store : Store) (bytes : List ℕ) → Said base w cs old m store → HasReplied base m → Said base w cs old (took bytes ∷ m) store
said_took base w cs old m store bytes h replied = record {
  world = h.world;
  served = h.served;
  wrote = wrote_took base w h.world cs old m bytes h.wrote replied;
  stands = h.stands;
  on = on_took bytes m store h.on;
  survives = survives_took w cs old m bytes h.survives;
}

halts_then : (base : List Event) (status : Status) (w u : World) (xs ys : List (List ℕ)) (old mid new : List Event) → Served w xs (output old) (output mid) u → Wrote base w xs old mid u → Halts status base u ys mid new → Halts status base w (xs ++ ys) old new
halts_then base Done w u xs ys old mid new s r h = absurd h
halts_then base Usage w u xs ys old mid new s r h = absurd h
halts_then base ReadFault w u xs ys old mid new s r h = absurd h
halts_then base WriteFault w u xs ys old mid new s r h = (h.0, broken_then w u h.0 xs ys (output old) (output mid) (output new) s h.1, h.2, wrote_broken_then base w u h.0 xs ys old mid new r h.3)
halts_then base DiskFault w u xs ys old mid new s r h = (h.0, some_then w u h.0 xs ys (output old) (output mid) (output new) s h.1, wrote_stopped_then base w u h.0 xs ys old mid new r h.2)
halts_then base Memory w u xs ys old mid new s r h = (h.0, some_then w u h.0 xs ys (output old) (output mid) (output new) s h.1, h.2, wrote_some_then base w u h.0 xs ys old mid new r h.3)
halts_then base BadStore w u xs ys old mid new s r h = absurd h
halts_then base InputBound w u xs ys old mid new s r h = absurd h

pub halted_then : (base : List Event) (status : Status) (w : World) (xs ys : List (List ℕ)) (old mid new : List Event) (s : Store) (h : Said base w xs old mid s) → Halted status base h.world ys mid new → Halted status base w (xs ++ ys) old new
halted_then base status w xs ys old mid new s h k = record {
  halts = halts_then base status w h.world xs ys old mid new h.served h.wrote k.halts;
  survives = survives_then w h.world xs ys old mid new h.served h.survives k.survives;
}

halts_more : (base : List Event) (status : Status) (w : World) (xs ys : List (List ℕ)) (old new : List Event) → Halts status base w xs old new → Halts status base w (xs ++ ys) old new
halts_more base Done w xs ys old new h = absurd h
halts_more base Usage w xs ys old new h = absurd h
halts_more base ReadFault w xs ys old new h = absurd h
halts_more base WriteFault w xs ys old new h = (h.0, broken_more w h.0 xs ys (output old) (output new) h.1, h.2, wrote_broken_more base w h.0 xs ys old new h.3)
halts_more base DiskFault w xs ys old new h = (h.0, some_more w h.0 xs ys (output old) (output new) h.1, wrote_stopped_more base w h.0 xs ys old new h.2)
halts_more base Memory w xs ys old new h = (h.0, some_more w h.0 xs ys (output old) (output new) h.1, h.2, wrote_some_more base w h.0 xs ys old new h.3)
halts_more base BadStore w xs ys old new h = absurd h
halts_more base InputBound w xs ys old new h = absurd h

-- whatever commands follow
pub halted_more : (base : List Event) (status : Status) (w : World) (xs ys : List (List ℕ)) (old new : List Event) → Halted status base w xs old new → Halted status base w (xs ++ ys) old new
halted_more base status w xs ys old new h = record { halts = halts_more base status w xs ys old new h.halts; survives = survives_more w xs ys old new h.survives }

-- want of memory between commands
pub memory_here : (base : List Event) (w : World) (cs : List (List ℕ)) (m : List Event) (store : Store) → IsOn m store → StandsFor (held store) w → Halted Memory base w cs m m
memory_here base w cs m store on stands = record {
  halts = (w, record { count = 0; within = omega arith; served = served_none w (output m) }, on_stands m store w on stands, some_none base w cs m);
  survives = survives_none w cs m (images m store w on stands);
}

module _ (base : List Event) (w v : World) (c : List ℕ) (a : Reply Data) (answers : Answers w c a v) (old : List Event) where
  -- nothing is put yet: the accounts are those from before, or the new ones
  held_back : (m : List Event) → output m ≡ output old → ((disk : Tape → List ℕ) → IsDisk m disk → DiskStands disk w ⊎ DiskStands disk v) → IsPrefix w (c ∷ []) old m
  held_back m same stands = record {
    grown = omega (arith, ap line_feeds same);
    disk = λ disk image. by disk (stands disk image);
  }
    where
      by : (disk : Tape → List ℕ) → DiskStands disk w ⊎ DiskStands disk v → HasPrefix w (c ∷ []) (acknowledged old m) disk
      by disk (inl h) = record { count = 0; within = omega arith; each_known = omega (arith, ap line_feeds same); one_more = omega arith; answers = []; world = w; are = refl; stands = h }
      by disk (inr h) = record { count = 1; within = omega arith; each_known = omega (arith, ap line_feeds same); one_more = omega (arith, ap line_feeds same); answers = a ∷ []; world = v; are = (v, answers, refl); stands = h }

  -- some bytes of the reply were put, or all
  told : (m : List Event) (bytes : ℕ) → output m ≡ output old ++ take bytes (answer_line a) → ((disk : Tape → List ℕ) → IsDisk m disk → DiskStands disk v) → IsPrefix w (c ∷ []) old m
  told m bytes is stands =
      let by = ap line_feeds is ∙ feeds_append (output old) (take bytes (answer_line a)) in
      let most = feeds_front bytes (answer_line a) in
      let one = one_feed a in
      record {
        grown = omega (arith, by);
        disk = λ disk image. record { count = 1; within = omega arith; each_known = omega (arith, by, most, one); one_more = omega arith; answers = a ∷ []; world = v; are = (v, answers, refl); stands = stands disk image };
      }

  all_told : (m : List Event) → output m ≡ output old ++ answer_line a → ((disk : Tape → List ℕ) → IsDisk m disk → DiskStands disk v) → IsPrefix w (c ∷ []) old m
  all_told m is stands = told m (length (answer_line a)) (is ∙ ap (λ l. output old ++ l) (sym (take-length (answer_line a)))) stands

  one_served : (p : List ℕ) → p ≡ output old ++ answer_line a → Served w (c ∷ []) (output old) p v
  one_served p is = record { answers = a ∷ []; are = (v, answers, refl); output = is ∙ ap (λ l. output old ++ l) (sym (append-nil (answer_line a))) }

  one_broken : (p : List ℕ) (bytes : ℕ) → p ≡ output old ++ take bytes (answer_line a) → Broken w (c ∷ []) (output old) p v
  one_broken p bytes is = record { count = 0; within = omega arith; answers = []; next = a; bytes = bytes; are = (v, answers, refl); output = is }

  -- up to here the command took effect, and its reply isn't put
  module _ (mid : List Event) (same : output mid ≡ output old) (ran : KeepsPrefix w (c ∷ []) old mid) (stands : DiskStands (reads mid) v) (all : (disk : Tape → List ℕ) → IsDisk mid disk → DiskStands disk v)
      (written : Written w v old mid) where
    put_survives : (text : List ℕ) (new : List Event) → text ≡ answer_line a → new ≡ put text ∷ mid → KeepsPrefix w (c ∷ []) old new
    put_survives text new is made = ran_on (IsPrefix w (c ∷ []) old) old mid new ran
        (ran_one (IsPrefix w (c ∷ []) old) (put text) mid new (ran_end (IsPrefix w (c ∷ []) old) old mid ran)
        (all_told (put text ∷ mid) (ap (λ o. o ++ text) same ∙ ap (λ t. output old ++ t) is) all) made)

    part_survives : (text : List ℕ) (n : ℕ) (new : List Event) → text ≡ answer_line a → new ≡ put_part (take n text) ∷ mid → KeepsPrefix w (c ∷ []) old new
    part_survives text n new is made = ran_on (IsPrefix w (c ∷ []) old) old mid new ran
        (ran_one (IsPrefix w (c ∷ []) old) (put_part (take n text)) mid new (ran_end (IsPrefix w (c ∷ []) old) old mid ran)
        (told (put_part (take n text) ∷ mid) n (ap (λ o. o ++ take n text) same ∙ ap (λ t. output old ++ take n t) is) all) made)

    pub put_said : (text : List ℕ) (new : List Event) (store : Store) → text ≡ answer_line a → new ≡ put text ∷ mid → StandsFor (held store) v → IsOn mid store → Said base w (c ∷ []) old new store
    put_said text new store is made holds on = record {
      world = v;
      served = one_served (output new) (ap output made ∙ ap (λ o. o ++ text) same ∙ ap (λ t. output old ++ t) is);
      wrote = (a, v, old, mid, takes_none base old, answers, written, (refl, ([], made ∙ ap (λ t. put t ∷ mid) is)));
      stands = holds;
      on = subst (λ m. IsOn m store) (sym made) (on_put text mid store on);
      survives = put_survives text new is made;
    }

    wrote_broken : (text : List ℕ) (new : List Event) → text ≡ answer_line a → BreaksPut text mid new → WroteBroken base w (c ∷ []) old new v
    wrote_broken text new is broken = record {
      first = [];
      next = c;
      rest = [];
      are = refl;
      world = w;
      told = old;
      wrote = wrote_none base w old;
      answer = a;
      answers = answers;
      behind = mid;
      written = written;
      broke = subst (λ t. BreaksPut t mid new) is broken;
    }

    pub put_broke : (text : List ℕ) (new : List Event) → text ≡ answer_line a → BreaksPut text mid new → Halted WriteFault base w (c ∷ []) old new
    put_broke text new is (inl made) = record {
      halts = (v, one_broken (output new) 0 (ap output made ∙ same ∙ sym (append-nil (output old))), subst (λ m. DiskStands (reads m) v) (sym made) stands, wrote_broken text new is (inl made));
      survives = subst (λ m. KeepsPrefix w (c ∷ []) old m) (sym made) ran;
    }
    put_broke text new is (inr broke) = record {
      halts = (v, one_broken (output new) broke.0 (ap output broke.2 ∙ ap (λ o. o ++ take broke.0 text) same ∙ ap (λ t. output old ++ take broke.0 t) is), subst (λ m. DiskStands (reads m) v) (sym broke.2) stands, wrote_broken text new is (inr broke));
      survives = part_survives text broke.0 new is broke.2;
    }

  -- a command that writes nothing
  stays_ran : (store : Store) → IsOn old store → StandsFor (held store) w → KeepsPrefix w (c ∷ []) old old
  stays_ran store on is_w = survives_none w (c ∷ []) old (images old store w on is_w)

  -- while its commit is written
  commit_ran : (before behind : Map) (new : List Event) → StandsFor before w → StandsFor behind v → Ran old new (Keeps old before behind) → KeepsPrefix w (c ∷ []) old new
  commit_ran before behind new is_w is_v ran = ran_as (Keeps old before behind) (IsPrefix w (c ∷ []) old) old new (λ m k. held_back m k.output (λ disk image. by disk (k.disk disk image))) ran
    where
      by : (disk : Tape → List ℕ) → DiskHolds disk before ⊎ DiskHolds disk behind → DiskStands disk w ⊎ DiskStands disk v
      by disk (inl h) = inl (record { map = before; holds = h; stands = is_w })
      by disk (inr h) = inr (record { map = behind; holds = h; stands = is_v })

  commit_stopped : (before behind : Map) (changes : List Entry) (new : List Event) → StandsFor before w → StandsFor behind v → Leads before behind changes → changes ≢ [] → BreaksRecord (body_bytes changes) old new
      → WroteStopped base w (c ∷ []) old new w
  commit_stopped before behind changes new is_w is_v leads some broken = record {
    first = [];
    rest = c ∷ [];
    are = refl;
    told = old;
    wrote = wrote_none base w old;
    stopped = writing answers is_w is_v leads some broken;
  }

  pub commit_broke : (before behind : Map) (changes : List Entry) (new : List Event) → output new ≡ output old → StandsFor before w → StandsFor behind v → Ran old new (Keeps old before behind)
      → Leads before behind changes → changes ≢ [] → BreaksRecord (body_bytes changes) old new → Halted DiskFault base w (c ∷ []) old new
  commit_broke before behind changes new same is_w is_v ran leads some broken = record {
    halts = (w, record { count = 0; within = omega arith; served = record { answers = []; are = refl; output = same ∙ sym (append-nil (output old)) } }, commit_stopped before behind changes new is_w is_v leads some broken);
    survives = commit_ran before behind new is_w is_v ran;
  }

  -- a command that writes nothing
  pub stays_said : OneWorld → (text : List ℕ) (new : List Event) (store : Store) → text ≡ answer_line a → new ≡ put text ∷ old → StandsFor (held store) w → StandsFor (held store) v → IsOn old store → Said base w (c ∷ []) old new store
  stays_said one_world text new store is made is_w is_v on = put_said old refl (stays_ran store on is_w) (on_stands old store v on is_v) (images old store v on is_v)
      (nothing (one_world (held store) v w is_v is_w) refl) text new store is made is_v on

  pub stays_broke : OneWorld → (text : List ℕ) (new : List Event) (store : Store) → text ≡ answer_line a → BreaksPut text old new → StandsFor (held store) w → StandsFor (held store) v → IsOn old store → Halted WriteFault base w (c ∷ []) old new
  stays_broke one_world text new store is made is_w is_v on = put_broke old refl (stays_ran store on is_w) (on_stands old store v on is_v) (images old store v on is_v)
      (nothing (one_world (held store) v w is_v is_w) refl) text new is made

  -- a command whose commit was written
  pub commit_said : (before : Map) (mid new : List Event) (text : List ℕ) (store : Store) → output mid ≡ output old → StandsFor before w → StandsFor (held store) v → Ran old mid (Keeps old before (held store))
      → IsOn mid store → Written w v old mid → text ≡ answer_line a → new ≡ put text ∷ mid → Said base w (c ∷ []) old new store
  commit_said before mid new text store same is_w is_v ran on written is made = put_said mid same (commit_ran before (held store) mid is_w is_v ran) (on_stands mid store v on is_v) (images mid store v on is_v) written text new store is made is_v on

  pub commit_told : (before : Map) (mid new : List Event) (text : List ℕ) (store : Store) → output mid ≡ output old → StandsFor before w → StandsFor (held store) v → Ran old mid (Keeps old before (held store))
      → IsOn mid store → Written w v old mid → text ≡ answer_line a → BreaksPut text mid new → Halted WriteFault base w (c ∷ []) old new
  commit_told before mid new text store same is_w is_v ran on written is made = put_broke mid same (commit_ran before (held store) mid is_w is_v ran) (on_stands mid store v on is_v) (images mid store v on is_v) written text new is made

-- the store is still on its tapes
pub on_told : {T E Tells : Type 0} (r : Result T E) (text : List ℕ) (store : Store) (mid new : List Event) → (Tells → Puts text r mid new) → (Tells → IsOn mid store) → OnOk r (Tells → IsOn new store)
on_told (Ok t) text store mid new puts on = λ tell. subst (λ m. IsOn m store) (sym (puts tell)) (on_put text mid store (on tell))
on_told (Err e) text store mid new puts on = tt
