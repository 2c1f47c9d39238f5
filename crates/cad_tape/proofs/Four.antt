-- A write and a sync, and another of each: what is left if they end, or break at one of them.
use Rattle.std.proofs.Common.{◌≡◌, ⊎_elim, ℕ, List, [], ◌∷◌, length, Result, Ok, Err, OnErr, ◌∙◌, subst}
use Rattle.cad_host.specs.declared.host.Tape.{Tape}
use Rattle.cad_host.specs.Disk.{Event, wrote, synced, broke, state, IsImage, Ran, BreaksWrite, BreaksSync}
use Rattle.cad_tape.specs.Reading.{Leaves, BreaksFour}
use Rattle.cad_host.proofs.Images.{broke_write, broke_sync}

-- a call that broke leaves what it might have left if it had not
p_broke : {m0 : List Event} {before behind : List (List ℕ)} (u : Tape) (at : ℕ) (bytes now : List ℕ) (m : List Event) → Leaves m0 before behind (wrote u at bytes ∷ m) → IsImage (state u (wrote u at bytes ∷ m)) now → Leaves m0 before behind (broke u at (length bytes) now ∷ m)
p_broke u at bytes now m p image = record { output = p.output; disk = λ disk left. p.disk disk (broke_write u at bytes now m disk image left) }

p_broke_sync : {m0 : List Event} {before behind : List (List ℕ)} (u : Tape) (now : List ℕ) (m : List Event) → Leaves m0 before behind m → IsImage (state u m) now → Leaves m0 before behind (broke u 0 0 now ∷ m)
p_broke_sync u now m p image = record { output = p.output; disk = λ disk left. p.disk disk (broke_sync u now m disk image left) }

-- what is left after none, one, .. of the four calls
pub record Steps (m0 : List Event) (before behind : List (List ℕ)) (u : Tape) (at : ℕ) (bytes : List ℕ) (v : Tape) (at_v : ℕ) (bytes_v : List ℕ) : Type 0 where
  pub s0 : Leaves m0 before behind m0
  pub s1 : Leaves m0 before behind (wrote u at bytes ∷ m0)
  pub s2 : Leaves m0 before behind (synced u ∷ wrote u at bytes ∷ m0)
  pub s3 : Leaves m0 before behind (wrote v at_v bytes_v ∷ synced u ∷ wrote u at bytes ∷ m0)
  pub s4 : Leaves m0 before behind (synced v ∷ wrote v at_v bytes_v ∷ synced u ∷ wrote u at bytes ∷ m0)

module _ (m0 : List Event) (before behind : List (List ℕ)) (u : Tape) (at : ℕ) (bytes : List ℕ) (v : Tape) (at_v : ℕ) (bytes_v : List ℕ) (s : Steps m0 before behind u at bytes v at_v bytes_v) where
  abbrev Runs : List Event → Type 0
  Runs new = Ran m0 new (Leaves m0 before behind)

  abbrev n1 : List Event
  n1 = wrote u at bytes ∷ m0

  abbrev n2 : List Event
  n2 = synced u ∷ n1

  abbrev n3 : List Event
  n3 = wrote v at_v bytes_v ∷ n2

  abbrev n4 : List Event
  n4 = synced v ∷ n3

  pub end1 : (at1 : ℕ) (bytes1 : List ℕ) (new : List Event) → at1 ≡ at → bytes1 ≡ bytes → BreaksWrite u at1 bytes1 m0 new → Runs new
  end1 at1 bytes1 new place form broken = ⊎_elim
      (λ same. record { since = []; is = same; each = s.s0 })
      (λ story. record {
        since = broke u at (length bytes) story.0 ∷ [];
        is = story.2;
        each = (p_broke u at bytes story.0 m0 s.s1 story.1, s.s0);
      })
      (subst (λ n. BreaksWrite u n bytes m0 new) place (subst (λ l. BreaksWrite u at1 l m0 new) form broken))

  pub end2 : (t new : List Event) → t ≡ n1 → BreaksSync u t new → Runs new
  end2 t new is broken = ⊎_elim
      (λ same. record { since = wrote u at bytes ∷ []; is = same; each = (s.s1, s.s0) })
      (λ story. record {
        since = broke u 0 0 story.0 ∷ wrote u at bytes ∷ [];
        is = story.2;
        each = (p_broke_sync u story.0 n1 s.s1 story.1, (s.s1, s.s0));
      })
      (subst (λ m. BreaksSync u m new) is broken)

  pub end3 : (t new : List Event) → t ≡ n2 → BreaksWrite v at_v bytes_v t new → Runs new
  end3 t new is broken = ⊎_elim
      (λ same. record { since = synced u ∷ wrote u at bytes ∷ []; is = same; each = (s.s2, (s.s1, s.s0)) })
      (λ story. record {
        since = broke v at_v (length bytes_v) story.0 ∷ synced u ∷ wrote u at bytes ∷ [];
        is = story.2;
        each = (p_broke v at_v bytes_v story.0 n2 s.s3 story.1, (s.s2, (s.s1, s.s0)));
      })
      (subst (λ m. BreaksWrite v at_v bytes_v m new) is broken)

  pub end4 : (t new : List Event) → t ≡ n3 → BreaksSync v t new → Runs new
  end4 t new is broken = ⊎_elim
      (λ same. record { since = wrote v at_v bytes_v ∷ synced u ∷ wrote u at bytes ∷ []; is = same; each = (s.s3, (s.s2, (s.s1, s.s0))) })
      (λ story. record {
        since = broke v 0 0 story.0 ∷ wrote v at_v bytes_v ∷ synced u ∷ wrote u at bytes ∷ [];
        is = story.2;
        each = (p_broke_sync v story.0 n3 s.s3 story.1, (s.s3, (s.s2, (s.s1, s.s0))));
      })
      (subst (λ m. BreaksSync v m new) is broken)

  pub done : (new : List Event) → new ≡ n4 → Runs new
  done new is = record {
    since = synced v ∷ wrote v at_v bytes_v ∷ synced u ∷ wrote u at bytes ∷ [];
    is = is;
    each = (s.s4, (s.s3, (s.s2, (s.s1, s.s0))));
  }

-- the record after the first write, whatever its arguments are called
pub is1 : (m0 : List Event) (u : Tape) (at : ℕ) (bytes : List ℕ) (at1 : ℕ) (bytes1 : List ℕ) (new : List Event) → at1 ≡ at → bytes1 ≡ bytes → new ≡ wrote u at1 bytes1 ∷ m0 → new ≡ wrote u at bytes ∷ m0
is1 m0 u at bytes at1 bytes1 new place form is = is ∙ (λ i. wrote u (place i) (form i) ∷ m0)

-- told where the calls failed
pub four_broke : {T E Tells : Type 0} (r : Result T E) (u : Tape) (at : ℕ) (bytes : List ℕ) (v : Tape) (at_v : ℕ) (bytes_v : List ℕ) (old new : List Event) → (Tells → BreaksFour u at bytes v at_v bytes_v old new) → OnErr r (Tells → BreaksFour u at bytes v at_v bytes_v old new)
four_broke (Ok t) u at bytes v at_v bytes_v old new f = tt
four_broke (Err e) u at bytes v at_v bytes_v old new f = f
