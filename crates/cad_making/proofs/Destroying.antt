-- The end of a resource is its laying out, its events in order, and its burial.
use Rattle.std.proofs.Common.{◌≡◌, refl}
use Rattle.cad_world.specs.Rows.{alone}
use Rattle.cad_world.specs.State.{Action, Outcome, ok, failed, limit, ill, bind, ◌>>=◌, ◌>>◌, give}
use Rattle.cad_world.specs.Transfers.{charged}
use Rattle.cad_evaluation.specs.Ending.{events_of, all_emitted, set_aside, gone, passing, is_told_of}
use Rattle.cad_making.specs.Dying.{end_of}
use Rattle.cad_making.specs.Laws.{EndsByParts, told_and_buried}

along : {A B C : Type 0} (o : Outcome A) (f : A → Action B) (g : B → Action C) → bind (bind o f) g ≡ bind o (λ a. f a >>= g)
along (ok a s) f g = refl
along (failed e) f g = refl
along limit f g = refl
along ill f g = refl

pub by_parts : EndsByParts
by_parts calls t s = go (charged t s)
  where
    go : (o : Outcome (Unit {0}))
        → bind (bind (bind o (λ _ u. (set_aside t >> events_of calls u.next_label (passing (is_told_of u) (alone t))) u)) (λ es. all_emitted es)) (λ _ u. gone t u)
        ≡ bind (bind o (λ _ u. (set_aside t >> give (end_of u t)) u)) (λ d. told_and_buried calls d)
    go (ok x u) = along ((set_aside t >> events_of calls u.next_label (passing (is_told_of u) (alone t))) u) (λ es. all_emitted es) (λ _ v. gone t v)
    go (failed e) = refl
    go limit = refl
    go ill = refl
