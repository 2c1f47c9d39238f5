-- What commands write in turn.
use Rattle.std.proofs.Common.{◌≡◌, ℕ, ◌+◌, ◌==◌, Bool, true, false, List, [], ◌∷◌, ◌++◌, length, Result, Ok, Err, OnOk, if◌then◌else◌, refl, sym, ◌∙◌, ap, subst, append_assoc}
use Rattle.cad_host.specs.declared.host.Tape.TheVariants.{Pick}
use Rattle.cad_host.specs.Disk.{Event, put, took, taken, reads, Puts}
use Rattle.cad_tape.specs.Framing.{framed}
use Rattle.cad_tape.specs.Reading.{chosen, pick_of, ending, four_calls}
use Rattle.cad_store.specs.Stores.{other, recorded}
use Rattle.cad_world.specs.State.{World}
use Rattle.cad_answers.specs.Answer.{answer_line}
use Rattle.cad_serve.specs.Replied.{HasReplied}
use Rattle.cad_serve.specs.Writing.{TakesAll, TakesInput, Wrote, WroteSome, WroteBroken, WroteStopped, Stopped, writing}

-- ---- takes

pub takes_none : (base m : List Event) → TakesInput base m m
takes_none base m = ([], refl)

all_then : (base : List Event) (xs ys : List (List ℕ)) (o p q : List Event) → TakesAll base xs o p → TakesAll base ys p q → TakesAll base (xs ++ ys) o q
all_then base [] ys o p q h k = subst (λ m. TakesAll base ys m q) h k
all_then base (x ∷ xs) ys o p q h k = (h.0, all_then base xs ys (took x ∷ o) p q h.1 k)

takes_then : (base o p q : List Event) → TakesInput base o p → TakesInput base p q → TakesInput base o q
takes_then base o p q h k = (h.0 ++ k.0, all_then base h.0 k.0 o p q h.1 k.1)

takes_one : (base m : List Event) (bytes : List ℕ) → HasReplied base m → TakesInput base m (took bytes ∷ m)
takes_one base m bytes h = (bytes ∷ [], (h, refl))

-- takes, and then what is written
wrote_behind : (base : List Event) (w v : World) (cs : List (List ℕ)) (o p q : List Event) → TakesInput base o p → Wrote base w cs p q v → Wrote base w cs o q v
wrote_behind base w v [] o p q h k = (k.0, takes_then base o p q h k.1)
wrote_behind base w v (c ∷ cs) o p q h k = (k.0, k.1, k.2, k.3, takes_then base o p k.2 h k.4, k.5, k.6, k.7)

pub wrote_then : (base : List Event) (w u v : World) (xs ys : List (List ℕ)) (o p q : List Event) → Wrote base w xs o p u → Wrote base u ys p q v → Wrote base w (xs ++ ys) o q v
wrote_then base w u v [] ys o p q h k = subst (λ x. Wrote base x ys o q v) h.0 (wrote_behind base u v ys o p q h.1 k)
wrote_then base w u v (x ∷ xs) ys o p q h k = (h.0, h.1, h.2, h.3, h.4, h.5, h.6, wrote_then base h.1 u v xs ys (put (answer_line h.0) ∷ h.3) p q h.7 k)

pub wrote_none : (base : List Event) (w : World) (m : List Event) → Wrote base w [] m m w
wrote_none base w m = (refl, takes_none base m)

-- what is written, and then one take more
pub wrote_took : (base : List Event) (w v : World) (cs : List (List ℕ)) (o p : List Event) (bytes : List ℕ) → Wrote base w cs o p v → HasReplied base p → Wrote base w cs o (took bytes ∷ p) v
wrote_took base w v [] o p bytes h replied = (h.0, takes_then base o p (took bytes ∷ p) h.1 (takes_one base p bytes replied))
wrote_took base w v (c ∷ cs) o p bytes h replied = (h.0, h.1, h.2, h.3, h.4, h.5, h.6, wrote_took base h.1 v cs (put (answer_line h.0) ∷ h.3) p bytes h.7 replied)

-- ---- no call of a command takes anything

taken_four : (b : Bool) (x y : List Event) (m : List Event) → taken x ≡ taken m → taken y ≡ taken m → taken (if b then x else y) ≡ taken m
taken_four true x y m h k = h
taken_four false x y m h k = k

pub taken_recorded : (body : List ℕ) (m : List Event) → taken (recorded body m) ≡ taken m
taken_recorded body m =
    let used = chosen (reads m Pick) in
    let place = ending (reads m used) in
    taken_four (length (reads m used) == 0) (four_calls (other used) 0 (1 ∷ framed body) Pick 0 (pick_of (other used) ∷ []) m) (four_calls used (place + 1) (framed body) used place (1 ∷ []) m) m refl refl

pub taken_told : {T E Tells : Type 0} (r : Result T E) (text : List ℕ) (old mid new : List Event) → (Tells → Puts text r mid new) → (Tells → taken mid ≡ taken old) → OnOk r (Tells → taken new ≡ taken old)
taken_told (Ok t) text old mid new puts same = λ tell. ap taken (puts tell) ∙ same tell
taken_told (Err e) text old mid new puts same = tt

-- ---- some of the commands

pub some_none : (base : List Event) (w : World) (cs : List (List ℕ)) (m : List Event) → WroteSome base w cs m m w
some_none base w cs m = record { first = []; rest = cs; are = refl; wrote = wrote_none base w m }

pub wrote_some_then : (base : List Event) (w u v : World) (xs ys : List (List ℕ)) (o p q : List Event) → Wrote base w xs o p u → WroteSome base u ys p q v → WroteSome base w (xs ++ ys) o q v
wrote_some_then base w u v xs ys o p q h k = record {
  first = xs ++ k.first;
  rest = k.rest;
  are = ap (λ l. xs ++ l) k.are ∙ sym (append_assoc xs k.first k.rest);
  wrote = wrote_then base w u v xs k.first o p q h k.wrote;
}

-- whatever commands follow
pub wrote_some_more : (base : List Event) (w v : World) (xs ys : List (List ℕ)) (o p : List Event) → WroteSome base w xs o p v → WroteSome base w (xs ++ ys) o p v
wrote_some_more base w v xs ys o p h = record { first = h.first; rest = h.rest ++ ys; are = ap (λ l. l ++ ys) h.are ∙ append_assoc h.first h.rest ys; wrote = h.wrote }

pub wrote_broken_then : (base : List Event) (w u v : World) (xs ys : List (List ℕ)) (o p q : List Event) → Wrote base w xs o p u → WroteBroken base u ys p q v → WroteBroken base w (xs ++ ys) o q v
wrote_broken_then base w u v xs ys o p q h k = record {
  first = xs ++ k.first;
  next = k.next;
  rest = k.rest;
  are = ap (λ l. xs ++ l) k.are ∙ sym (append_assoc xs k.first (k.next ∷ k.rest));
  world = k.world;
  told = k.told;
  wrote = wrote_then base w u k.world xs k.first o p k.told h k.wrote;
  answer = k.answer;
  answers = k.answers;
  behind = k.behind;
  written = k.written;
  broke = k.broke;
}

pub wrote_broken_more : (base : List Event) (w v : World) (xs ys : List (List ℕ)) (o p : List Event) → WroteBroken base w xs o p v → WroteBroken base w (xs ++ ys) o p v
wrote_broken_more base w v xs ys o p h = record {
  first = h.first;
  next = h.next;
  rest = h.rest ++ ys;
  are = ap (λ l. l ++ ys) h.are ∙ append_assoc h.first (h.next ∷ h.rest) ys;
  world = h.world;
  told = h.told;
  wrote = h.wrote;
  answer = h.answer;
  answers = h.answers;
  behind = h.behind;
  written = h.written;
  broke = h.broke;
}

pub wrote_stopped_then : (base : List Event) (w u v : World) (xs ys : List (List ℕ)) (o p q : List Event) → Wrote base w xs o p u → WroteStopped base u ys p q v → WroteStopped base w (xs ++ ys) o q v
wrote_stopped_then base w u v xs ys o p q h k = record {
  first = xs ++ k.first;
  rest = k.rest;
  are = ap (λ l. xs ++ l) k.are ∙ sym (append_assoc xs k.first k.rest);
  told = k.told;
  wrote = wrote_then base w u v xs k.first o p k.told h k.wrote;
  stopped = k.stopped;
}

stopped_more : (w : World) (rest ys : List (List ℕ)) (o p : List Event) → Stopped w o p rest → Stopped w o p (rest ++ ys)
stopped_more w [] ys o p stopped = elim stopped [ ]
stopped_more w (next ∷ rest) ys o p (writing answers is_w is_v leads some broken) = writing answers is_w is_v leads some broken

pub wrote_stopped_more : (base : List Event) (w v : World) (xs ys : List (List ℕ)) (o p : List Event) → WroteStopped base w xs o p v → WroteStopped base w (xs ++ ys) o p v
wrote_stopped_more base w v xs ys o p h = record {
  first = h.first;
  rest = h.rest ++ ys;
  are = ap (λ l. l ++ ys) h.are ∙ append_assoc h.first h.rest ys;
  told = h.told;
  wrote = h.wrote;
  stopped = stopped_more v h.rest ys h.told p h.stopped;
}
