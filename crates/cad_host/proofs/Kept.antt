-- What each call leaves as it was.
use Rattle.std.proofs.Common.{◌≡◌, ◌⊎◌, inl, inr, ⊎_elim, ℕ, ◌≤◌, ◌/◌, List, [], ◌∷◌, length, take, refl, sym, ap, subst, arith}
use Rattle.cad_host.specs.declared.host.Tape.{Tape}
use Rattle.cad_host.specs.Disk.{Event, wrote, synced, broke, filled, put, took, TapeState, state, reads, IsImage, IsDisk, overwritten, output, BreaksWrite, BreaksSync, BreaksPut, FailsTake, FailsLook}
use Rattle.cad_host.specs.Crash.{IsSettled}
use Rattle.cad_host.proofs.Images.{each_tape, clean_only, state_wrote, state_synced, state_broke, state_filled, other_wrote, other_synced, other_broke, other_filled}
use Rattle.cad_host.proofs.Inside_write.{front_within}
use Rattle.cad_host.proofs.Lists.{long_over}
use Rattle.cad_host.specs.declared.call.Call.{Call}
use Rattle.cad_host.specs.declared.call.Call.TheVariants.{Wrote, BrokeWrite, Synced, BrokeSync, Filled, Put, PutPart, Took, TakeFailed, LookFailed}
use Rattle.cad_host.specs.Record.{event_of, onto, trace_of}
use Rattle.cad_host.specs.Memory.{WritesHalf, SyncsNothing}

-- a put, whole or broken, leaves each tape
pub put_state : (bytes : List ℕ) (old new : List Event) (t : Tape) → (new ≡ put bytes ∷ old) ⊎ BreaksPut bytes old new → state t new ≡ state t old
put_state bytes old new t did = ⊎_elim (λ is. ap (state t) is) (λ broken. ⊎_elim (λ is. ap (state t) is) (λ part. ap (state t) part.2) broken) did

-- and so do a take and a look at a tape
pub take_state : (bytes : List ℕ) (old new : List Event) (t : Tape) → (new ≡ took bytes ∷ old) ⊎ FailsTake old new → state t new ≡ state t old
take_state bytes old new t did = ⊎_elim (λ is. ap (state t) is) (λ failed. ⊎_elim (λ is. ap (state t) is) (λ is. ap (state t) is) failed) did

pub look_state : (u : Tape) (old new : List Event) (t : Tape) → FailsLook u old new → state t new ≡ state t old
look_state u old new t failed = ⊎_elim (λ is. ap (state t) is) (λ is. ap (state t) is) failed

-- a disk call, whole or broken, leaves the output
pub write_output : (u : Tape) (at : ℕ) (bytes : List ℕ) (old new : List Event) → (new ≡ wrote u at bytes ∷ old) ⊎ BreaksWrite u at bytes old new → output new ≡ output old
write_output u at bytes old new did = ⊎_elim (λ is. ap output is) (λ broken. ⊎_elim (λ is. ap output is) (λ part. ap output part.2) broken) did

pub sync_output : (u : Tape) (old new : List Event) → (new ≡ synced u ∷ old) ⊎ BreaksSync u old new → output new ≡ output old
sync_output u old new did = ⊎_elim (λ is. ap output is) (λ broken. ⊎_elim (λ is. ap output is) (λ part. ap output part.2) broken) did

pub look_output : (u : Tape) (old new : List Event) → FailsLook u old new → output new ≡ output old
look_output u old new failed = ⊎_elim (λ is. ap output is) (λ is. ap output is) failed

-- what reads is itself an image
pub reads_image : (s : TapeState) → s.settled ≤ length s.reads → IsImage s s.reads
reads_image s settled = record { no_shorter = settled; no_longer = omega arith; same = λ i below outside. refl }

-- each call keeps it that no tape is shorter than at its last sync
abbrev Bounded : TapeState → Type 0
Bounded s = s.settled ≤ length s.reads

pub settled_none : IsSettled []
settled_none t = omega arith

pub settled_wrote : (u : Tape) (at : ℕ) (bytes : List ℕ) (old : List Event) → IsSettled old → IsSettled (wrote u at bytes ∷ old)
settled_wrote u at bytes old settled = each_tape u (λ t. Bounded (state t (wrote u at bytes ∷ old)))
    (subst Bounded (sym (state_wrote u at bytes old)) (omega (arith, settled u, long_over (reads old u) bytes at)))
    (λ t other. subst Bounded (sym (other_wrote t u at bytes old other)) (settled t))

pub settled_synced : (u : Tape) (old : List Event) → IsSettled old → IsSettled (synced u ∷ old)
settled_synced u old settled = each_tape u (λ t. Bounded (state t (synced u ∷ old)))
    (subst Bounded (sym (state_synced u old)) (omega arith))
    (λ t other. subst Bounded (sym (other_synced t u old other)) (settled t))

pub settled_filled : (u : Tape) (bytes : List ℕ) (old : List Event) → IsSettled old → IsSettled (filled u bytes ∷ old)
settled_filled u bytes old settled = each_tape u (λ t. Bounded (state t (filled u bytes ∷ old)))
    (subst Bounded (sym (state_filled u bytes old)) (omega arith))
    (λ t other. subst Bounded (sym (other_filled t u bytes old other)) (settled t))

settled_broke : (u : Tape) (at n : ℕ) (now : List ℕ) (old : List Event) → (state u old).settled ≤ length now → IsSettled old → IsSettled (broke u at n now ∷ old)
settled_broke u at n now old here settled = each_tape u (λ t. Bounded (state t (broke u at n now ∷ old)))
    (subst Bounded (sym (state_broke u at n now old)) here)
    (λ t other. subst Bounded (sym (other_broke t u at n now old other)) (settled t))

pub settled_write : (u : Tape) (at : ℕ) (bytes : List ℕ) (old new : List Event) → (new ≡ wrote u at bytes ∷ old) ⊎ BreaksWrite u at bytes old new → IsSettled old → IsSettled new
settled_write u at bytes old new did settled = ⊎_elim
    (λ is. subst IsSettled (sym is) (settled_wrote u at bytes old settled))
    (λ broken. ⊎_elim
    (λ is. subst IsSettled (sym is) settled)
    (λ part. let image : IsImage (record { reads = overwritten (reads old u) at bytes; settled = (state u old).settled; loose = (at, length bytes) ∷ (state u old).loose }) part.0 = subst (λ s. IsImage s part.0) (state_wrote u at bytes old) part.1 in
    subst IsSettled (sym part.2) (settled_broke u at (length bytes) part.0 old image.no_shorter settled))
    broken)
    did

pub settled_sync : (u : Tape) (old new : List Event) → (new ≡ synced u ∷ old) ⊎ BreaksSync u old new → IsSettled old → IsSettled new
settled_sync u old new did settled = ⊎_elim
    (λ is. subst IsSettled (sym is) (settled_synced u old settled))
    (λ broken. ⊎_elim
    (λ is. subst IsSettled (sym is) settled)
    (λ part. subst IsSettled (sym part.2) (settled_broke u 0 0 part.0 old part.1.no_shorter settled))
    broken)
    did

pub settled_put : (bytes : List ℕ) (old new : List Event) → (new ≡ put bytes ∷ old) ⊎ BreaksPut bytes old new → IsSettled old → IsSettled new
settled_put bytes old new did settled t = subst Bounded (sym (put_state bytes old new t did)) (settled t)

pub reads_disk : (m : List Event) → IsSettled m → IsDisk m (reads m)
reads_disk m settled t = reads_image (state t m) (settled t)

pub settled_take : (bytes : List ℕ) (old new : List Event) → (new ≡ took bytes ∷ old) ⊎ FailsTake old new → IsSettled old → IsSettled new
settled_take bytes old new did settled t = subst Bounded (sym (take_state bytes old new t did)) (settled t)

pub settled_look : (u : Tape) (old new : List Event) → FailsLook u old new → IsSettled old → IsSettled new
settled_look u old new failed settled t = subst Bounded (sym (look_state u old new t failed)) (settled t)

-- a write that failed leaves what a front of its bytes makes of the tape
pub half_image : (m : List Event) (t : Tape) (at k : ℕ) (bytes : List ℕ) → at ≤ length (reads m t) → IsSettled m → IsImage (state t (wrote t at bytes ∷ m)) (overwritten (reads m t) at (take k bytes))
half_image m t at k bytes inside settled = subst (λ s. IsImage s (overwritten (reads m t) at (take k bytes))) (sym (state_wrote t at bytes m))
    (front_within (state t m) at k bytes (overwritten (reads m t) at (take k bytes)) inside (settled t) (reads_image _ (omega (arith, settled t, long_over (reads m t) (take k bytes) at))))

-- each call of a record keeps it too
settled_event : (call : Call) (m : List Event) → IsSettled m → IsSettled (event_of call m ∷ m)
settled_event (Wrote tape at bytes) m h t = settled_wrote tape at bytes.items m h t
settled_event (BrokeWrite tape at bytes) m h t = settled_broke tape at (length bytes.items) _ m (omega (arith, h tape, long_over (reads m tape) (take (length bytes.items / 2) bytes.items) at)) h t
settled_event (Synced tape) m h t = settled_synced tape m h t
settled_event (BrokeSync tape) m h t = settled_broke tape 0 0 (reads m tape) m (h tape) h t
settled_event (Filled tape bytes) m h t = settled_filled tape bytes.items m h t
settled_event (Put bytes) m h t = h t
settled_event (PutPart bytes) m h t = h t
settled_event (Took bytes) m h t = h t
settled_event TakeFailed m h t = h t
settled_event (LookFailed tape) m h t = h t

settled_onto : (calls : List Call) (m : List Event) → IsSettled m → IsSettled (onto calls m)
settled_onto [] m h = h
settled_onto (call ∷ calls) m h = settled_onto calls (event_of call m ∷ m) (settled_event call m h)

pub settled_calls : (calls : List Call) → IsSettled (trace_of calls)
settled_calls calls = settled_onto calls [] settled_none

-- so what a call that is to fail leaves is what one that failed may leave
pub half_breaks : (calls : List Call) (new : List Event) (t : Tape) (at : ℕ) (bytes : List ℕ) → at ≤ length (reads (trace_of calls) t) → WritesHalf t at bytes (trace_of calls) new → BreaksWrite t at bytes (trace_of calls) new
half_breaks calls new t at bytes inside half = ⊎_elim inl (λ is. inr (_, half_image (trace_of calls) t at (length bytes / 2) bytes inside (settled_calls calls), is)) half

pub nothing_breaks : (calls : List Call) (new : List Event) (t : Tape) → SyncsNothing t (trace_of calls) new → BreaksSync t (trace_of calls) new
nothing_breaks calls new t nothing = ⊎_elim inl (λ is. inr (_, reads_image (state t (trace_of calls)) (settled_calls calls t), is)) nothing

-- a sync leaves fewer images
pub synced_image : (u : Tape) (m : List Event) (disk : Tape → List ℕ) → IsSettled m → IsDisk (synced u ∷ m) disk → IsDisk m disk
synced_image u m disk settled left = each_tape u (λ t. IsImage (state t m) (disk t))
    (let there = subst (λ s. IsImage s (disk u)) (state_synced u m) (left u) in
    let is : disk u ≡ reads m u = clean_only _ (disk u) (record { settled = refl; loose = refl }) there in
    subst (IsImage (state u m)) (sym is) (reads_image (state u m) (settled u)))
    (λ t other. subst (λ s. IsImage s (disk t)) (other_synced t u m other) (left t))
