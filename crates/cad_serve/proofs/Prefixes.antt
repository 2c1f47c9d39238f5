-- What a crash leaves of a run, command by command.
use Rattle.std.proofs.Common.{◌≡◌, inl, inr, ℕ, ◌+◌, List, [], ◌∷◌, ◌++◌, length, take, refl, sym, ◌∙◌, ap, subst, arith, length-append}
use Rattle.std.proofs.lemmas.List.{take-append-le}
use Rattle.std.proofs.Math.Seq.{take-append-add}
use Rattle.cad_host.specs.declared.host.Tape.{Tape}
use Rattle.cad_host.specs.Disk.{Event, took, take_failed, output, reads, IsDisk, FailsTake}
use Rattle.cad_host.proofs.Ran.{ran_as, ran_on, ran_one, ran_end}
use Rattle.cad_tape.specs.Reading.{IsQuiet}
use Rattle.cad_world.specs.State.{World}
use Rattle.cad_store.proofs.Holding.{quiet as quiet_image}
use Rattle.cad_serve.specs.Served.{AnswersAll, answer_lines, Served}
use Rattle.cad_serve.specs.Crashes.{DiskStands, IsPrefix, KeepsPrefix}
use Rattle.cad_serve.specs.Replied.{line_feeds}
use Rattle.cad_serve.proofs.Batches.{all_append, all_length}
use Rattle.cad_serve.proofs.Feeds.{feeds_append, feeds_lines}
use Rattle.cad_serve.proofs.Lines_of.{one_feed}

-- with nothing pending an image is what reads
pub quiet_stands : (m : List Event) (disk : Tape → List ℕ) (w : World) → IsQuiet m → IsDisk m disk → DiskStands (reads m) w → DiskStands disk w
quiet_stands m disk w quiet image h = record { map = h.map; holds = quiet_image m disk h.map quiet image h.holds; stands = h.stands }

-- before the first command
pub prefix_none : (w : World) (commands : List (List ℕ)) (m : List Event) → ((disk : Tape → List ℕ) → IsDisk m disk → DiskStands disk w) → IsPrefix w commands m m
prefix_none w commands m stands = record {
  grown = omega arith;
  disk = λ disk image. record { count = 0; within = omega arith; each_known = omega arith; one_more = omega arith; answers = []; world = w; are = refl; stands = stands disk image };
}

-- whatever commands follow
pub prefix_more : (w : World) (xs ys : List (List ℕ)) (old m : List Event) → IsPrefix w xs old m → IsPrefix w (xs ++ ys) old m
prefix_more w xs ys old m h = record {
  grown = h.grown;
  disk = λ disk image. let p = h.disk disk image in record {
    count = p.count;
    within = omega (arith, length-append xs ys, p.within);
    each_known = p.each_known;
    one_more = p.one_more;
    answers = p.answers;
    world = p.world;
    are = subst (λ l. AnswersAll w l p.answers p.world) (sym (take-append-le p.count xs ys p.within)) p.are;
    stands = p.stands;
  };
}

pub grown_by : (w u : World) (xs : List (List ℕ)) (o p : List ℕ) → Served w xs o p u → line_feeds p ≡ line_feeds o + length xs
grown_by w u xs o p h = ap line_feeds h.output ∙ feeds_append o (answer_lines h.answers) ∙ ap (λ n. line_feeds o + n) (feeds_lines one_feed h.answers ∙ all_length w u xs h.answers h.are)

-- behind commands that were answered
pub prefix_then : (w u : World) (xs ys : List (List ℕ)) (old mid m : List Event) → Served w xs (output old) (output mid) u → IsPrefix u ys mid m → IsPrefix w (xs ++ ys) old m
prefix_then w u xs ys old mid m s h =
    let by = grown_by w u xs (output old) (output mid) s in
    record {
      grown = omega (arith, by, h.grown);
      disk = λ disk image. let p = h.disk disk image in record {
        count = length xs + p.count;
        within = omega (arith, length-append xs ys, p.within);
        each_known = omega (arith, by, h.grown, p.each_known);
        one_more = omega (arith, by, h.grown, p.one_more);
        answers = s.answers ++ p.answers;
        world = p.world;
        are = subst (λ l. AnswersAll w l (s.answers ++ p.answers) p.world) (sym (take-append-add xs ys p.count)) (all_append w u p.world xs (take p.count ys) s.answers p.answers s.are p.are);
        stands = p.stands;
      };
    }

pub survives_more : (w : World) (xs ys : List (List ℕ)) (old new : List Event) → KeepsPrefix w xs old new → KeepsPrefix w (xs ++ ys) old new
survives_more w xs ys old new h = ran_as (IsPrefix w xs old) (IsPrefix w (xs ++ ys) old) old new (λ m. prefix_more w xs ys old m) h

pub survives_then : (w u : World) (xs ys : List (List ℕ)) (old mid new : List Event) → Served w xs (output old) (output mid) u → KeepsPrefix w xs old mid → KeepsPrefix u ys mid new
    → KeepsPrefix w (xs ++ ys) old new
survives_then w u xs ys old mid new s h k = ran_on (IsPrefix w (xs ++ ys) old) old mid new
    (survives_more w xs ys old mid h)
    (ran_as (IsPrefix u ys mid) (IsPrefix w (xs ++ ys) old) mid new (λ m. prefix_then w u xs ys old mid m s) k)

-- a take leaves it, whether it failed or not
prefix_took : (w : World) (cs : List (List ℕ)) (old m : List Event) (bytes : List ℕ) → IsPrefix w cs old m → IsPrefix w cs old (took bytes ∷ m)
prefix_took w cs old m bytes h = record { grown = h.grown; disk = λ disk image. h.disk disk image }

prefix_failed : (w : World) (cs : List (List ℕ)) (old m : List Event) → IsPrefix w cs old m → IsPrefix w cs old (take_failed ∷ m)
prefix_failed w cs old m h = record { grown = h.grown; disk = λ disk image. h.disk disk image }

pub survives_took : (w : World) (cs : List (List ℕ)) (old m : List Event) (bytes : List ℕ) → KeepsPrefix w cs old m → KeepsPrefix w cs old (took bytes ∷ m)
survives_took w cs old m bytes h =
    let last = ran_end (IsPrefix w cs old) old m h in
    ran_on (IsPrefix w cs old) old m (took bytes ∷ m) h (ran_one (IsPrefix w cs old) (took bytes) m (took bytes ∷ m) last (prefix_took w cs old m bytes last) refl)

pub survives_fails : (w : World) (cs : List (List ℕ)) (old m new : List Event) → FailsTake m new → KeepsPrefix w cs old m → KeepsPrefix w cs old new
survives_fails w cs old m new (inl same) h = subst (λ n. KeepsPrefix w cs old n) (sym same) h
survives_fails w cs old m new (inr is) h =
    let last = ran_end (IsPrefix w cs old) old m h in
    ran_on (IsPrefix w cs old) old m new h (ran_one (IsPrefix w cs old) take_failed m new last (prefix_failed w cs old m last) is)
