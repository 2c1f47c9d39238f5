-- A run goes on, byte by byte.
use Rattle.std.proofs.Common.{◌≡◌, ◌⊎◌, inl, inr, ℕ, ◌+◌, ◌-◌, ◌^◌, ◌<◌, ◌≤◌, ◌==◌, true, false, List, [], ◌∷◌, ◌++◌, length, take, drop, get_or, refl, sym, ◌∙◌, ap, subst, append_assoc, arith, length-append}
use Rattle.std.proofs.lemmas.List.{append-nil, take_more, take_all, drop_more, take-append-drop, take_at, drop_at}
use Rattle.std.proofs.lemmas.Bool.Decides.{eqb_tells}
use Rattle.std.proofs.lemmas.List.Elements.{filter-append}
use Rattle.cad_host.specs.Disk.{Event, took, output, taken, reads, FailsTake}
use Rattle.cad_world.specs.State.{World}
use Rattle.cad_worlds.specs.Standing.{StandsFor}
use Rattle.cad_store.specs.declared.store.Store.{Store}
use Rattle.cad_store.specs.Stores.{held, IsOn}
use Rattle.cad_serve_parts.specs.Lines.{commands_among, is_command, commands, lines, ended}
use Rattle.cad_serve_parts.specs.Code.Held.{Holds}
use Rattle.cad_serve.specs.Served.{Served, Begun, Finished}
use Rattle.cad_serve.specs.Writing.{Wrote}
use Rattle.cad_serve.specs.Replied.{taken_since, HasReplied}
use Rattle.cad_serve.specs.Crashes.{DiskStands, KeepsPrefix}
use Rattle.cad_serve.specs.Code.Progress.{Said, Halts, Halted, Going, Between, Goes, Stops}
use Rattle.cad_serve_parts.specs.declared.line.Line.{Line}
use Rattle.cad_serve.specs.declared.status.Status.{Status}
use Rattle.cad_serve.specs.declared.status.Status.TheVariants.{Done, Usage, ReadFault, WriteFault, DiskFault, Memory, BadStore, InputBound}
use Rattle.cad_serve.specs.Code.Ending.{Leaves, Ends, HasCause, StopCause}
use Rattle.cad_serve.proofs.Splits.{lines_byte, lines_feed, onto, lines_onto}
use Rattle.cad_serve.proofs.Batches.{begun_all, begun_some, begun_broken, begun_more}
use Rattle.cad_serve.proofs.Prefixes.{survives_more, survives_fails, grown_by}
use Rattle.cad_serve.proofs.Saids.{on_stands, said_none, said_then, said_took, halted_then, halted_more, memory_here}

among : (xs ys : List (List ℕ)) → commands_among (xs ++ ys) ≡ commands_among xs ++ commands_among ys
among xs ys = filter-append is_command xs ys

-- nothing is taken yet
going_none : (line : Line) (store : Store) (w : World) (input : List ℕ) (m : List Event) → Holds line [] → StandsFor (held store) w → IsOn m store → Going line store w input m input m
going_none line store w input m h stands on = record { taken = []; whole = []; pending = []; input_is = refl; lines_are = refl; holds = h; said = said_none m w m store stands on }

pub goes_none : (line : Line) (store : Store) (m : List Event) → Goes line store line store [] m m
goes_none line store m w input base left g = g

pub goes_then : (a b c : Line) (r s t : Store) (xs ys : List ℕ) (o p q : List Event) → Goes a r b s xs o p → Goes b s c t ys p q → Goes a r c t (xs ++ ys) o q
goes_then a b c r s t xs ys o p q h k w input base left g =
    k w input base left (h w input base (ys ++ left) (subst (λ l. Going a r w input base l o) (append_assoc xs ys left) g))

pub goes_stops : (status : Status) (a b : Line) (r s : Store) (xs ys : List ℕ) (o p q : List Event) → Goes a r b s xs o p → Stops status b s ys p q → Stops status a r (xs ++ ys) o q
goes_stops status a b r s xs ys o p q h k w input base left g =
    k w input base left (h w input base (ys ++ left) (subst (λ l. Going a r w input base l o) (append_assoc xs ys left) g))

-- a byte that is no line feed goes to the line that is held
pub goes_byte : (a b : Line) (store : Store) (byte : ℕ) (m : List Event) → (byte == 10) ≡ false → ((pending : List ℕ) → Holds a pending → Holds b (pending ++ byte ∷ [])) → Goes a store b store (byte ∷ []) m m
goes_byte a b store byte m other step w input base left g = record {
  taken = g.taken ++ byte ∷ [];
  whole = g.whole;
  pending = g.pending ++ byte ∷ [];
  input_is = g.input_is ∙ sym (append_assoc g.taken (byte ∷ []) left);
  lines_are = lines_byte byte other g.taken g.whole g.pending g.lines_are;
  holds = step g.pending g.holds;
  said = g.said;
}

-- a line feed ends it
pub goes_feed : (a b : Line) (r s : Store) (byte : ℕ) (o p : List Event) → (byte == 10) ≡ true → Holds b []
    → ((base : List Event) (pending : List ℕ) → Holds a pending → (w : World) → StandsFor (held r) w → Said base w (commands_among (pending ∷ [])) o p s) → Goes a r b s (byte ∷ []) o p
goes_feed a b r s byte o p feed fresh says w input base left g = record {
  taken = g.taken ++ byte ∷ [];
  whole = g.whole ++ g.pending ∷ [];
  pending = [];
  input_is = g.input_is ∙ sym (append_assoc g.taken (byte ∷ []) left);
  lines_are = lines_feed byte feed g.taken ∙ ap (λ ls. ls ++ [] ∷ []) g.lines_are;
  holds = fresh;
  said = subst (λ cs. Said base w cs base p s) (sym (among g.whole (g.pending ∷ [])))
      (said_then base w (commands_among g.whole) (commands_among (g.pending ∷ [])) base o p r s g.said (says base g.pending g.holds g.said.world g.said.stands));
}

-- what was answered is the front of all commands
front_of : (xs ys : List ℕ) (whole : List (List ℕ)) (last : List ℕ) → lines xs ≡ whole ++ last ∷ [] → commands (xs ++ ys) ≡ commands_among whole ++ commands_among (onto last ys)
front_of xs ys whole last is = ap commands_among (lines_onto ys xs whole last is) ∙ among whole (onto last ys)

commands_of : (input xs ys : List ℕ) (whole : List (List ℕ)) (last : List ℕ) → input ≡ xs ++ ys → lines xs ≡ whole ++ last ∷ [] → commands input ≡ commands_among whole ++ commands_among (onto last ys)
commands_of input xs ys whole last is lines_are = ap commands is ∙ front_of xs ys whole last lines_are

halted_front : (status : Status) (w : World) (input xs ys : List ℕ) (base m : List Event) (whole : List (List ℕ)) (last : List ℕ) → input ≡ xs ++ ys → lines xs ≡ whole ++ last ∷ []
    → Halted status base w (commands_among whole) base m → Halted status base w (commands input) base m
halted_front status w input xs ys base m whole last is lines_are h =
    subst (λ cs. Halted status base w cs base m) (sym (commands_of input xs ys whole last is lines_are)) (halted_more base status w (commands_among whole) (commands_among (onto last ys)) base m h)

survives_front : (w : World) (input xs ys : List ℕ) (base m : List Event) (whole : List (List ℕ)) (last : List ℕ) → input ≡ xs ++ ys → lines xs ≡ whole ++ last ∷ []
    → KeepsPrefix w (commands_among whole) base m → KeepsPrefix w (commands input) base m
survives_front w input xs ys base m whole last is lines_are h =
    subst (λ cs. KeepsPrefix w cs base m) (sym (commands_of input xs ys whole last is lines_are)) (survives_more w (commands_among whole) (commands_among (onto last ys)) base m h)

-- memory ran out between commands
pub memory_stops : (line : Line) (store : Store) (xs : List ℕ) (m : List Event) → Stops Memory line store xs m m
memory_stops line store xs m w input base left g =
    halted_front Memory w input g.taken (xs ++ left) base m g.whole g.pending g.input_is g.lines_are
    (subst (λ cs. Halted Memory base w cs base m) (append-nil (commands_among g.whole)) (halted_then base Memory w (commands_among g.whole) [] base m m store g.said (memory_here base g.said.world [] m store g.said.on g.said.stands)))

both : (status : Status) (w : World) (base o p : List Event) (whole : List (List ℕ)) (pending : List ℕ) (store : Store) (g : Said base w (commands_among whole) base o store)
    → Halted status base g.world (commands_among (pending ∷ [])) o p → Halted status base w (commands_among (whole ++ pending ∷ [])) base p
both status w base o p whole pending store g h =
    subst (λ cs. Halted status base w cs base p) (sym (among whole (pending ∷ []))) (halted_then base status w (commands_among whole) (commands_among (pending ∷ [])) base o p store g h)

pub stops_feed : (status : Status) (a : Line) (r : Store) (byte : ℕ) (xs : List ℕ) (o p : List Event) → (byte == 10) ≡ true
    → ((base : List Event) (pending : List ℕ) → Holds a pending → (w : World) → StandsFor (held r) w → Halted status base w (commands_among (pending ∷ [])) o p) → Stops status a r (byte ∷ xs) o p
stops_feed status a r byte xs o p feed says w input base left g =
    halted_front status w input (g.taken ++ byte ∷ []) (xs ++ left) base p (g.whole ++ g.pending ∷ []) []
    (g.input_is ∙ sym (append_assoc g.taken (byte ∷ []) (xs ++ left)))
    (lines_feed byte feed g.taken ∙ ap (λ ls. ls ++ [] ∷ []) g.lines_are)
    (both status w base o p g.whole g.pending r g.said (says base g.pending g.holds g.said.world g.said.stands))

all_commands : (input taken : List ℕ) (whole : List (List ℕ)) (pending : List ℕ) → input ≡ taken ++ [] → lines taken ≡ whole ++ pending ∷ [] → commands input ≡ commands_among (whole ++ pending ∷ [])
all_commands input taken whole pending is lines_are = ap commands (is ∙ append-nil taken) ∙ ap commands_among lines_are

-- the input ends, and with it the last line
pub ends_done : (a : Line) (r s : Store) (w : World) (input left : List ℕ) (base o p : List Event) → Going a r w input base [] o → left ≡ [] → length input ≤ 2 ^ 40
    → ((base : List Event) (pending : List ℕ) → Holds a pending → (u : World) → StandsFor (held r) u → Said base u (commands_among (pending ∷ [])) o p s) → Ends Done w input left base p
ends_done a r s w input left base o p g empty bound says =
    let same = all_commands input g.taken g.whole g.pending g.input_is g.lines_are ∙ among g.whole (g.pending ∷ []) in
    let all = said_then base w (commands_among g.whole) (commands_among (g.pending ∷ [])) base o p r s g.said (says base g.pending g.holds g.said.world g.said.stands) in
    record {
      leaves = (all.world, empty, bound, subst (λ cs. Served w cs (output base) (output p) all.world) (sym same) all.served, on_stands p s all.world all.on all.stands, subst (λ cs. Wrote base w cs base p all.world) (sym same) all.wrote);
      survives = subst (λ cs. KeepsPrefix w cs base p) (sym same) all.survives;
    }

halted_leaves : (status : Status) (w : World) (input left : List ℕ) (base p : List Event) → Halts status base w (commands input) base p → Leaves status w input left base p
halted_leaves Done w input left base p h = absurd h
halted_leaves Usage w input left base p h = absurd h
halted_leaves ReadFault w input left base p h = absurd h
halted_leaves WriteFault w input left base p h = h
halted_leaves DiskFault w input left base p h = h
halted_leaves Memory w input left base p h = h
halted_leaves BadStore w input left base p h = absurd h
halted_leaves InputBound w input left base p h = absurd h

pub halted_ends : (status : Status) (w : World) (input left : List ℕ) (base p : List Event) → Halted status base w (commands input) base p → Ends status w input left base p
halted_ends status w input left base p h = record { leaves = halted_leaves status w input left base p h.halts; survives = h.survives }

pub ends_halted : (status : Status) (a : Line) (r : Store) (w : World) (input left : List ℕ) (base o p : List Event) → Going a r w input base [] o
    → ((base : List Event) (pending : List ℕ) → Holds a pending → (u : World) → StandsFor (held r) u → Halted status base u (commands_among (pending ∷ [])) o p) → Ends status w input left base p
ends_halted status a r w input left base o p g says = halted_ends status w input left base p
    (subst (λ cs. Halted status base w cs base p) (sym (all_commands input g.taken g.whole g.pending g.input_is g.lines_are)) (both status w base o p g.whole g.pending r g.said (says base g.pending g.holds g.said.world g.said.stands)))

going_survives : (a : Line) (r : Store) (w : World) (input left : List ℕ) (base o : List Event) → Going a r w input base left o → KeepsPrefix w (commands input) base o
going_survives a r w input left base o g = survives_front w input g.taken left base o g.whole g.pending g.input_is g.lines_are g.said.survives

-- the input failed
fails_reads : (m new : List Event) (w : World) → FailsTake m new → DiskStands (reads m) w → DiskStands (reads new) w
fails_reads m new w (inl same) h = subst (λ n. DiskStands (reads n) w) (sym same) h
fails_reads m new w (inr is) h = subst (λ n. DiskStands (reads n) w) (sym is) h

pub ends_read : (a : Line) (r : Store) (w : World) (input left left2 : List ℕ) (base o new : List Event) → Going a r w input base left o → left ≡ left2 → FailsTake o new → Ends ReadFault w input left2 base new
ends_read a r w input left left2 base o new g stays failed = record {
  leaves = (
    g.said.world,
    g.taken,
    o,
    g.input_is ∙ ap (λ l. g.taken ++ l) stays,
    record { whole = g.whole; unfinished = g.pending; lines_are = g.lines_are; served = g.said.served; wrote = g.said.wrote },
    failed,
    fails_reads o new g.said.world failed (on_stands o r g.said.world g.said.on g.said.stands),
  );
  survives = survives_fails w (commands input) base o new failed (going_survives a r w input left base o g);
}

-- memory ran out before anything was taken
pub ends_memory : (store : Store) (w : World) (input left : List ℕ) (m : List Event) → StandsFor (held store) w → IsOn m store → Ends Memory w input left m m
ends_memory store w input left m stands on = halted_ends Memory w input left m m (memory_here m w (commands input) m store on stands)

pub other_byte : (a b : ℕ) → (a ≡ b → ⊥) → (a == b) ≡ false
other_byte a b apart = by_tells (eqb_tells a b)
  where
    by_tells : ((a == b) ≡ true) × (a ≡ b) ⊎ ((a == b) ≡ false) × (a ≡ b → ⊥) → (a == b) ≡ false
    by_tells (inl same) = absurd (apart same.1)
    by_tells (inr other) = other.0

-- the bytes before a place, the byte there and the bytes behind it
pub split_at : (bytes : List ℕ) (i : ℕ) → i < length bytes → take i bytes ++ (get_or bytes i 0 ∷ drop (i + 1) bytes) ≡ bytes
split_at bytes i inside = ap (λ (l : List ℕ). take i bytes ++ l) (sym (drop_more bytes i 0 inside)) ∙ take-append-drop i bytes

-- one turn of the loop over bytes
pub goes_more : (a b c : Line) (r s t : Store) (bytes : List ℕ) (i byte : ℕ) (o p q : List Event) → i < length bytes → byte ≡ get_or bytes i 0 → Goes a r b s (take i bytes) o p → Goes b s c t (byte ∷ []) p q → Goes a r c t (take (i + 1) bytes) o q
goes_more a b c r s t bytes i byte o p q inside is h k =
    subst (λ l. Goes a r c t l o q) (ap (λ x. take i bytes ++ x ∷ []) is ∙ sym (take_more bytes i 0 inside)) (goes_then a b c r s t (take i bytes) (byte ∷ []) o p q h k)

pub goes_all : (a b : Line) (r s : Store) (bytes : List ℕ) (i : ℕ) (o p : List Event) → length bytes ≤ i → Goes a r b s (take i bytes) o p → Goes a r b s bytes o p
goes_all a b r s bytes i o p over h = subst (λ l. Goes a r b s l o p) (take_all i bytes over) h

pub stops_more : (status : Status) (a b : Line) (r s : Store) (bytes : List ℕ) (i byte : ℕ) (o p q : List Event) → i < length bytes → byte ≡ get_or bytes i 0 → Goes a r b s (take i bytes) o p
    → ((more : List ℕ) → Stops status b s (byte ∷ more) p q) → Stops status a r bytes o q
stops_more status a b r s bytes i byte o p q inside is h k =
    subst (λ l. Stops status a r l o q) (ap (λ x. take i bytes ++ (x ∷ drop (i + 1) bytes)) is ∙ split_at bytes i inside) (goes_stops status a b r s (take i bytes) (byte ∷ drop (i + 1) bytes) o p q h (k (drop (i + 1) bytes)))

pub going_as : (line : Line) (store : Store) (w : World) (input left left2 : List ℕ) (base m m2 : List Event) → left ≡ left2 → m ≡ m2 → Going line store w input base left m → Going line store w input base left2 m2
going_as line store w input left left2 base m m2 is same g = subst (λ l. Going line store w input base l m2) is (subst (λ p. Going line store w input base left p) same g)

one_byte : (n : ℕ) (buffer : List ℕ) → n ≤ 1 → 0 < n → 0 < length buffer → take n buffer ≡ get_or buffer 0 0 ∷ []
one_byte n [] small some held = absurd (omega arith)
one_byte n (b ∷ buffer) small some held = ap (λ k. take k (b ∷ buffer)) (let is : n ≡ 1 = omega arith in is)

-- all bytes up to the bound were taken, and one more
pub bound_ends : (line : Line) (store : Store) (w : World) (input left left2 buffer : List ℕ) (base o : List Event) (n : ℕ) → Going line store w input base left o → length input ≡ 2 ^ 40 + length left → left ≡ take n buffer ++ left2
    → n ≤ 1 → 0 < n → 0 < length buffer → Ends InputBound w input left2 base o
bound_ends line store w input left left2 buffer base o n g long is small some held = record {
  leaves = (
    g.said.world,
    g.taken,
    get_or buffer 0 0,
    omega (arith, long, ap length g.input_is, length-append g.taken left),
    g.input_is ∙ ap (λ l. g.taken ++ l) (is ∙ ap (λ l. l ++ left2) (one_byte n buffer small some held)),
    record { whole = g.whole; unfinished = g.pending; lines_are = g.lines_are; served = g.said.served; wrote = g.said.wrote },
    on_stands o store g.said.world g.said.on g.said.stands,
  );
  survives = going_survives line store w input left base o g;
}

finished_begun : (w v : World) (input taken rest : List ℕ) (base o : List Event) → input ≡ taken ++ rest → Finished base w taken base o v → Begun w (commands input) (output base) (output o)
finished_begun w v input taken rest base o is f =
    subst (λ cs. Begun w cs (output base) (output o)) (sym (commands_of input taken rest f.whole f.unfinished is f.lines_are))
    (begun_more w (commands_among f.whole) (commands_among (onto f.unfinished rest)) (output base) (output o) (begun_all w v (commands_among f.whole) (output base) (output o) f.served))

fails_output : (m new : List Event) → FailsTake m new → output new ≡ output m
fails_output m new (inl same) = ap output same
fails_output m new (inr is) = ap output is

-- under every status the run has begun
pub ends_begin : (s : Status) (w : World) (input left : List ℕ) (base o : List Event) → Leaves s w input left base o → Begun w (commands input) (output base) (output o)
ends_begin Done w input left base o e = begun_all w e.0 (commands input) (output base) (output o) e.3
ends_begin Usage w input left base o e = absurd e
ends_begin ReadFault w input left base o e = subst (λ m. Begun w (commands input) (output base) m) (sym (fails_output e.2 o e.5)) (finished_begun w e.0 input e.1 left base e.2 e.3 e.4)
ends_begin WriteFault w input left base o e = begun_broken w e.0 (commands input) (output base) (output o) e.1
ends_begin DiskFault w input left base o e = begun_some w e.0 (commands input) (output base) (output o) e.1
ends_begin Memory w input left base o e = begun_some w e.0 (commands input) (output base) (output o) e.1
ends_begin BadStore w input left base o e = absurd e
ends_begin InputBound w input left base o e = finished_begun w e.0 input e.1 (e.2 ∷ left) base o e.4 e.5

-- the cause of a stop is that of the status
pub stop_cause : (s : Status) (i j o p d e : ℕ) → j ≡ i → StopCause s o p d e → HasCause s i j o p d e
stop_cause Done i j o p d e same h = absurd h
stop_cause Usage i j o p d e same h = absurd h
stop_cause ReadFault i j o p d e same h = absurd h
stop_cause WriteFault i j o p d e same h = (same, h.0, h.1)
stop_cause DiskFault i j o p d e same h = (same, h.0, h.1)
stop_cause Memory i j o p d e same h = (same, h.0, h.1)
stop_cause BadStore i j o p d e same h = absurd h
stop_cause InputBound i j o p d e same h = absurd h

-- a cause behind counts that stayed
pub cause_as : (s : Status) (i i2 j o o2 p d d2 e : ℕ) → i2 ≡ i → o2 ≡ o → d2 ≡ d → HasCause s i2 j o2 p d2 e → HasCause s i j o p d e
cause_as s i i2 j o o2 p d d2 e a b c h = subst (λ x. HasCause s x j o p d e) a (subst (λ x. HasCause s i2 j x p d e) b (subst (λ x. HasCause s i2 j o2 p x e) c h))

-- ---- takes

whole_front : (whole : List (List ℕ)) (last : List ℕ) (ls : List (List ℕ)) → ls ≡ whole ++ last ∷ [] → take (length ls - 1) ls ≡ whole
whole_front whole last ls is =
    let count : length whole ≡ length ls - 1 = omega (arith, ap length is, length-append whole (last ∷ [])) in
    ap (take (length ls - 1)) is ∙ take_at whole (last ∷ []) (length ls - 1) count

cancel : (xs ys left : List ℕ) → xs ++ left ≡ ys ++ left → xs ≡ ys
cancel xs ys left is =
    let long : length xs ≡ length ys = omega (arith, ap length is, length-append xs left, length-append ys left) in
    sym (take_at xs left (length xs) refl) ∙ ap (take (length xs)) is ∙ take_at ys left (length xs) (sym long)

-- between takes each command that a line feed had ended has its reply
pub replied : (a : Line) (r : Store) (w : World) (input left : List ℕ) (base now : List Event) → Between a r w input base left now → HasReplied base now
replied a r w input left base now b =
    let g = b.going in
    let all : taken now ≡ taken base ++ g.taken = cancel (taken now) (taken base ++ g.taken) left
    (b.all_taken ∙ ap (λ l. taken base ++ l) g.input_is ∙ sym (append_assoc (taken base) g.taken left)) in
    let since : taken_since base now ≡ g.taken = ap (drop (length (taken base))) all ∙ drop_at (taken base) g.taken (length (taken base)) refl in
    let whole : ended (taken_since base now) ≡ commands_among g.whole = ap ended since ∙ ap commands_among (whole_front g.whole g.pending (lines g.taken) g.lines_are) in
    omega (arith, grown_by w g.said.world (commands_among g.whole) (output base) (output now) g.said.served, ap length whole)

-- more is taken
pub going_took : (a : Line) (r : Store) (w : World) (input left left2 : List ℕ) (bytes : List ℕ) (base now new : List Event) → Between a r w input base left now → new ≡ took bytes ∷ now → left ≡ left2 → Going a r w input base left2 new
going_took a r w input left left2 bytes base now new b made same =
    let g = b.going in
    subst (λ m. Going a r w input base left2 m) (sym made) (record {
      taken = g.taken;
      whole = g.whole;
      pending = g.pending;
      input_is = g.input_is ∙ ap (λ l. g.taken ++ l) same;
      lines_are = g.lines_are;
      holds = g.holds;
      said = said_took base w (commands_among g.whole) base now r bytes g.said (replied a r w input left base now b);
    })

pub all_taken : (input left left2 bytes : List ℕ) (base now mid new : List Event) → taken now ++ left ≡ taken base ++ input → mid ≡ took bytes ∷ now → left ≡ bytes ++ left2 → taken new ≡ taken mid → taken new ++ left2 ≡ taken base ++ input
all_taken input left left2 bytes base now mid new all made is still =
    ap (λ l. l ++ left2) (still ∙ ap taken made) ∙ append_assoc (taken now) bytes left2 ∙ ap (λ l. taken now ++ l) (sym is) ∙ all

pub between_none : (line : Line) (store : Store) (w : World) (input : List ℕ) (m : List Event) → Holds line [] → StandsFor (held store) w → IsOn m store → Between line store w input m input m
between_none line store w input m h stands on = record { going = going_none line store w input m h stands on; all_taken = refl }
