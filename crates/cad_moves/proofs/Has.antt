-- What each operation on effects holds.
use Rattle.std.proofs.Common.{◌≡◌, refl, sym, ◌∙◌, ap, ◌⊎◌, inl, inr, Bool, true, false, ◌||◌, if◌then◌else◌}
use Rattle.std.specs.Prelude.{Option, Some, None}
use Rattle.cad_paths.specs.declared.letter.Way.{Way}
use Rattle.cad_paths.specs.declared.letter.Way.TheVariants.{Next, Broken, Continued, Returned, Never}
use Rattle.cad_paths.specs.declared.letter.Position.{Position}
use Rattle.cad_paths.specs.Paths.{goes_on}
use Rattle.cad_paths.specs.Linear.{NotAfter}
use Rattle.cad_moves.specs.declared.state.State.{State}
use Rattle.cad_moves.specs.declared.state.State.TheVariants.{Live, Vacant, Refilled, Gone}
use Rattle.cad_moves.specs.declared.table.States.{States}
use Rattle.cad_moves.specs.declared.table.Effect.{Effect}
use Rattle.cad_moves.specs.declared.table.Table.{Table}
use Rattle.cad_moves.specs.Code.Machine.{is_before}
use Rattle.cad_moves.specs.Code.Tables.{at_state, none, just, maybe_just, unite, at_way, nothing, only, wrong_where, spelling, earlier, merge, pick, over, kept, followed, at, Token, leaves, offends, Below, Has}
use Rattle.cad_moves.proofs.Positions.{not_after_same, not_after_trans, before_says, before_denies}

or_split : (a b : Bool) → (a || b) ≡ true → (a ≡ true) ⊎ (b ≡ true)
or_split true b e = inl refl
or_split false b e = inr e

or_left : (a b : Bool) → a ≡ true → (a || b) ≡ true
or_left true b e = refl
or_left false b e = cc

or_right : (a b : Bool) → b ≡ true → (a || b) ≡ true
or_right true b e = refl
or_right false b e = e

unite_at : (a b : States) (q : State) → at_state (unite a b) q ≡ (at_state a q || at_state b q)
unfolding unite
unite_at a b Live = refl
unite_at a b Vacant = refl
unite_at a b Refilled = refl
unite_at a b Gone = refl

pub unite_split : (a b : States) (q : State) → at_state (unite a b) q ≡ true → (at_state a q ≡ true) ⊎ (at_state b q ≡ true)
unite_split a b q e = or_split (at_state a q) (at_state b q) (sym (unite_at a b q) ∙ e)

pub unite_left : (a b : States) (q : State) → at_state a q ≡ true → at_state (unite a b) q ≡ true
unite_left a b q e = unite_at a b q ∙ or_left (at_state a q) (at_state b q) e

pub unite_right : (a b : States) (q : State) → at_state b q ≡ true → at_state (unite a b) q ≡ true
unite_right a b q e = unite_at a b q ∙ or_right (at_state a q) (at_state b q) e

pub none_at : (q : State) → at_state none q ≡ true → ⊥
none_at Live e = cc
none_at Vacant e = cc
none_at Refilled e = cc
none_at Gone e = cc

pub just_at : (q : State) → at_state (just q) q ≡ true
just_at Live = refl
just_at Vacant = refl
just_at Refilled = refl
just_at Gone = refl

pub just_is : (q r : State) → at_state (just q) r ≡ true → q ≡ r
just_is Live Live e = refl
just_is Vacant Vacant e = refl
just_is Refilled Refilled e = refl
just_is Gone Gone e = refl
just_is Live Vacant e = cc
just_is Live Refilled e = cc
just_is Live Gone e = cc
just_is Vacant Live e = cc
just_is Vacant Refilled e = cc
just_is Vacant Gone e = cc
just_is Refilled Live e = cc
just_is Refilled Vacant e = cc
just_is Refilled Gone e = cc
just_is Gone Live e = cc
just_is Gone Vacant e = cc
just_is Gone Refilled e = cc

-- ---- merge

earlier_by : (s t n : Position) (b : Bool) → is_before s t ≡ b → Below (if b then Some s else Some t) n → NotAfter s n ⊎ NotAfter t n
earlier_by s t n true e h = inl h
earlier_by s t n false e h = inr h

earlier_split : (o p : Option Position) (n : Position) → Below (earlier o p) n → Below o n ⊎ Below p n
earlier_split None p n h = inr h
earlier_split (Some s) None n h = inl h
earlier_split (Some s) (Some t) n h = earlier_by s t n (is_before s t) refl h

left_by : (s t n : Position) (b : Bool) → is_before s t ≡ b → NotAfter s n → Below (if b then Some s else Some t) n
left_by s t n true e h = h
left_by s t n false e h = not_after_trans t s n (before_denies s t e) h

right_by : (s t n : Position) (b : Bool) → is_before s t ≡ b → NotAfter t n → Below (if b then Some s else Some t) n
right_by s t n true e h = not_after_trans s t n (before_says s t e) h
right_by s t n false e h = h

earlier_left : (o p : Option Position) (n : Position) → Below o n → Below (earlier o p) n
earlier_left None p n h = absurd h
earlier_left (Some s) None n h = h
earlier_left (Some s) (Some t) n h = left_by s t n (is_before s t) refl h

earlier_right : (o p : Option Position) (n : Position) → Below p n → Below (earlier o p) n
earlier_right None p n h = h
earlier_right (Some s) None n h = absurd h
earlier_right (Some s) (Some t) n h = right_by s t n (is_before s t) refl h

merge_at : (a b : Effect) (x : Way) → at_way (merge a b) x ≡ unite (at_way a x) (at_way b x)
unfolding merge
merge_at a b Next = refl
merge_at a b Broken = refl
merge_at a b Continued = refl
merge_at a b Returned = refl
merge_at a b Never = refl

pub merge_split : (a b : Effect) (k : Token) → Has (merge a b) k → Has a k ⊎ Has b k
unfolding merge
merge_split a b (leaves x q) h = unite_split (at_way a x) (at_way b x) q (ap (λ s. at_state s q) (sym (merge_at a b x)) ∙ h)
merge_split a b (offends n) h = earlier_split a.wrong b.wrong n h

pub merge_left : (a b : Effect) (k : Token) → Has a k → Has (merge a b) k
unfolding merge
merge_left a b (leaves x q) h = ap (λ s. at_state s q) (merge_at a b x) ∙ unite_left (at_way a x) (at_way b x) q h
merge_left a b (offends n) h = earlier_left a.wrong b.wrong n h

pub merge_right : (a b : Effect) (k : Token) → Has b k → Has (merge a b) k
unfolding merge
merge_right a b (leaves x q) h = ap (λ s. at_state s q) (merge_at a b x) ∙ unite_right (at_way a x) (at_way b x) q h
merge_right a b (offends n) h = earlier_right a.wrong b.wrong n h

-- ---- the small ones

nothing_at : (k : Token) → Has nothing k → ⊥
unfolding nothing
nothing_at (leaves Next q) h = none_at q h
nothing_at (leaves Broken q) h = none_at q h
nothing_at (leaves Continued q) h = none_at q h
nothing_at (leaves Returned q) h = none_at q h
nothing_at (leaves Never q) h = none_at q h
nothing_at (offends n) h = h

pub only_at : (x : Way) (a : States) → at_way (only x a) x ≡ a
unfolding only
only_at Next a = refl
only_at Broken a = refl
only_at Continued a = refl
only_at Returned a = refl
only_at Never a = refl

-- what holds of the spell way and state holds of all that it has
pub only_split : (x : Way) (a : States) (P : Token → Type 0) → ((q : State) → at_state a q ≡ true → P (leaves x q)) → (k : Token) → Has (only x a) k → P k
unfolding only
only_split Next a P f (leaves Next q) h = f q h
only_split Broken a P f (leaves Broken q) h = f q h
only_split Continued a P f (leaves Continued q) h = f q h
only_split Returned a P f (leaves Returned q) h = f q h
only_split Never a P f (leaves Never q) h = f q h
only_split Next a P f (offends n) h = absurd h
only_split Broken a P f (offends n) h = absurd h
only_split Continued a P f (offends n) h = absurd h
only_split Returned a P f (offends n) h = absurd h
only_split Never a P f (offends n) h = absurd h
only_split Next a P f (leaves Broken q) h = absurd (none_at q h)
only_split Next a P f (leaves Continued q) h = absurd (none_at q h)
only_split Next a P f (leaves Returned q) h = absurd (none_at q h)
only_split Next a P f (leaves Never q) h = absurd (none_at q h)
only_split Broken a P f (leaves Next q) h = absurd (none_at q h)
only_split Broken a P f (leaves Continued q) h = absurd (none_at q h)
only_split Broken a P f (leaves Returned q) h = absurd (none_at q h)
only_split Broken a P f (leaves Never q) h = absurd (none_at q h)
only_split Continued a P f (leaves Next q) h = absurd (none_at q h)
only_split Continued a P f (leaves Broken q) h = absurd (none_at q h)
only_split Continued a P f (leaves Returned q) h = absurd (none_at q h)
only_split Continued a P f (leaves Never q) h = absurd (none_at q h)
only_split Returned a P f (leaves Next q) h = absurd (none_at q h)
only_split Returned a P f (leaves Broken q) h = absurd (none_at q h)
only_split Returned a P f (leaves Continued q) h = absurd (none_at q h)
only_split Returned a P f (leaves Never q) h = absurd (none_at q h)
only_split Never a P f (leaves Next q) h = absurd (none_at q h)
only_split Never a P f (leaves Broken q) h = absurd (none_at q h)
only_split Never a P f (leaves Continued q) h = absurd (none_at q h)
only_split Never a P f (leaves Returned q) h = absurd (none_at q h)

-- ---- a letter

abbrev pub Comes : Option State → Bool → Position → Token → Type 0
Comes q b s (leaves x r) = (x ≡ Next) × (q ≡ Some r)
Comes q b s (offends n) = (b ≡ true) × NotAfter s n

maybe_is : (q : Option State) (r : State) → at_state (maybe_just q) r ≡ true → q ≡ Some r
maybe_is None r h = absurd (none_at r h)
maybe_is (Some q) r h = ap Some (just_is q r h)

wrong_split : (b : Bool) (s n : Position) → Below (wrong_where b s) n → (b ≡ true) × NotAfter s n
wrong_split true s n h = (refl, h)
wrong_split false s n h = absurd h

pub spelling_split : (q : Option State) (b : Bool) (s : Position) (k : Token) → Has (spelling q b s) k → Comes q b s k
unfolding spelling
spelling_split q b s (leaves Next r) h = (refl, maybe_is q r h)
spelling_split q b s (leaves Broken r) h = absurd (none_at r h)
spelling_split q b s (leaves Continued r) h = absurd (none_at r h)
spelling_split q b s (leaves Returned r) h = absurd (none_at r h)
spelling_split q b s (leaves Never r) h = absurd (none_at r h)
spelling_split q b s (offends n) h = wrong_split b s n h

pub spelling_state : (q : Option State) (b : Bool) (s : Position) (r : State) → q ≡ Some r → Has (spelling q b s) (leaves Next r)
unfolding spelling
spelling_state None b s r e = cc
spelling_state (Some q) b s r e = let d : q ≡ r = cc in ap (λ z. at_state (just z) r) d ∙ just_at r

pub spelling_wrong : (q : Option State) (b : Bool) (s : Position) → b ≡ true → Has (spelling q b s) (offends s)
unfolding spelling
spelling_wrong q true s e = not_after_same s
spelling_wrong q false s e = cc

pub pick_split : (b : Bool) (e : Effect) (k : Token) → Has (pick b e) k → (b ≡ true) × Has e k
unfolding pick
pick_split true e k h = (refl, h)
pick_split false e k h = absurd (nothing_at k h)

pub pick_has : (b : Bool) (e : Effect) (k : Token) → b ≡ true → Has e k → Has (pick b e) k
unfolding pick
pick_has true e k p h = h
pick_has false e k p h = cc

pub over_split : (a : States) (t : Table) (k : Token) → Has (over a t) k → (q : State) × (at_state a q ≡ true) × Has (at t q) k
unfolding over
over_split a t k h = go (merge_split (merge p0 p1) (merge p2 p3) k h)
  where
    p0 : Effect
    p0 = pick a.live t.live

    p1 : Effect
    p1 = pick a.vacant t.vacant

    p2 : Effect
    p2 = pick a.refilled t.refilled

    p3 : Effect
    p3 = pick a.gone t.gone

    spell : Has p0 k ⊎ Has p1 k → (q : State) × (at_state a q ≡ true) × Has (at t q) k
    spell (inl h) = let r = pick_split a.live t.live k h in (Live, r.0, r.1)
    spell (inr h) = let r = pick_split a.vacant t.vacant k h in (Vacant, r.0, r.1)

    two : Has p2 k ⊎ Has p3 k → (q : State) × (at_state a q ≡ true) × Has (at t q) k
    two (inl h) = let r = pick_split a.refilled t.refilled k h in (Refilled, r.0, r.1)
    two (inr h) = let r = pick_split a.gone t.gone k h in (Gone, r.0, r.1)

    go : Has (merge p0 p1) k ⊎ Has (merge p2 p3) k → (q : State) × (at_state a q ≡ true) × Has (at t q) k
    go (inl h) = spell (merge_split p0 p1 k h)
    go (inr h) = two (merge_split p2 p3 k h)

pub over_has : (a : States) (t : Table) (k : Token) (q : State) → at_state a q ≡ true → Has (at t q) k → Has (over a t) k
unfolding over
over_has a t k Live p h = merge_left (merge (pick a.live t.live) (pick a.vacant t.vacant)) (merge (pick a.refilled t.refilled) (pick a.gone t.gone)) k (merge_left (pick a.live t.live) (pick a.vacant t.vacant) k (pick_has a.live t.live k p h))
over_has a t k Vacant p h = merge_left (merge (pick a.live t.live) (pick a.vacant t.vacant)) (merge (pick a.refilled t.refilled) (pick a.gone t.gone)) k (merge_right (pick a.live t.live) (pick a.vacant t.vacant) k (pick_has a.vacant t.vacant k p h))
over_has a t k Refilled p h = merge_right (merge (pick a.live t.live) (pick a.vacant t.vacant)) (merge (pick a.refilled t.refilled) (pick a.gone t.gone)) k (merge_left (pick a.refilled t.refilled) (pick a.gone t.gone) k (pick_has a.refilled t.refilled k p h))
over_has a t k Gone p h = merge_right (merge (pick a.live t.live) (pick a.vacant t.vacant)) (merge (pick a.refilled t.refilled) (pick a.gone t.gone)) k (merge_right (pick a.refilled t.refilled) (pick a.gone t.gone) k (pick_has a.gone t.gone k p h))

abbrev pub Cuts : Token → Type 0
Cuts (leaves x q) = goes_on x ≡ false
Cuts (offends n) = Unit {0}

pub kept_split : (e : Effect) (k : Token) → Has (kept e) k → Cuts k × Has e k
unfolding kept
kept_split e (leaves Next q) h = absurd (none_at q h)
kept_split e (leaves Broken q) h = (refl, h)
kept_split e (leaves Continued q) h = (refl, h)
kept_split e (leaves Returned q) h = (refl, h)
kept_split e (leaves Never q) h = (refl, h)
kept_split e (offends n) h = (tt, h)

pub kept_has : (e : Effect) (k : Token) → Cuts k → Has e k → Has (kept e) k
unfolding kept
kept_has e (leaves Next q) c h = cc
kept_has e (leaves Broken q) c h = h
kept_has e (leaves Continued q) c h = h
kept_has e (leaves Returned q) c h = h
kept_has e (leaves Never q) c h = h
kept_has e (offends n) c h = h

pub followed_split : (e : Effect) (t : Table) (k : Token) → Has (followed e t) k → (Cuts k × Has e k) ⊎ ((q : State) × Has e (leaves Next q) × Has (at t q) k)
unfolding followed
followed_split e t k h = go (merge_split (kept e) (over e.next t) k h)
  where
    go : Has (kept e) k ⊎ Has (over e.next t) k → (Cuts k × Has e k) ⊎ ((q : State) × Has e (leaves Next q) × Has (at t q) k)
    go (inl h) = inl (kept_split e k h)
    go (inr h) = inr (over_split e.next t k h)

pub followed_cut : (e : Effect) (t : Table) (k : Token) → Cuts k → Has e k → Has (followed e t) k
unfolding followed
followed_cut e t k c h = merge_left (kept e) (over e.next t) k (kept_has e k c h)

pub followed_on : (e : Effect) (t : Table) (k : Token) (q : State) → Has e (leaves Next q) → Has (at t q) k → Has (followed e t) k
unfolding followed
followed_on e t k q p h = merge_right (kept e) (over e.next t) k (over_has e.next t k q p h)
