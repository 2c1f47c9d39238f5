-- The paths of a body leave it exactly in the ways that are computed.
use Rattle.std.proofs.Common.{◌≡◌, refl, subst, ◌⊎◌, inl, inr, ℕ, Bool, true, false, List, [], ◌++◌}
use Rattle.std.specs.Prelude.{Option, Some, None, ◌&&◌, ◌||◌}
use Rattle.cad_paths.specs.declared.letter.Way.{Way}
use Rattle.cad_paths.specs.declared.letter.Way.TheVariants.{Next, Broken, Continued, Returned, Never}
use Rattle.cad_paths.specs.declared.letter.Position.{Position}
use Rattle.cad_paths.specs.Paths as p
use Rattle.cad_paths.specs.Paths.{PathVariable, PathBody, LetterAt, spelled, goes_on, Words, by_leaving, by_letter, by_both, by_first_alone, by_left, by_right, by_no_turn, by_turn, by_last_turn, by_catching, by_scope}
use Rattle.cad_pieces.specs.declared.ends.Ends.{Ends}
use Rattle.cad_pieces.specs.Code.Ends.{behind, beside, turning, caught, leaving, ends_of}

-- ---- tests

or_left : (a b : Bool) → a ≡ true → (a || b) ≡ true
or_left true b e = refl
or_left false b e = cc

or_right : (a b : Bool) → b ≡ true → (a || b) ≡ true
or_right true b e = refl
or_right false b e = e

or_split : (a b : Bool) → (a || b) ≡ true → (a ≡ true) ⊎ (b ≡ true)
or_split true b e = inl refl
or_split false b e = inr e

and_both : (a b : Bool) → a ≡ true → b ≡ true → (a && b) ≡ true
and_both true b d e = e
and_both false b d e = d

pub and_split : (a b : Bool) → (a && b) ≡ true → (a ≡ true) × (b ≡ true)
and_split true b e = (refl, e)
and_split false b e = (e, cc)

-- ---- each word leaves in a way that is computed

-- calls that never end aren't told
abbrev has : Way → Ends → Bool
has Next e = e.next
has Broken e = e.broken
has Continued e = e.continued
has Returned e = e.returned
has Never e = true

left_so : (x : Way) → has x (leaving x) ≡ true
left_so Next = refl
left_so Broken = refl
left_so Continued = refl
left_so Returned = refl
left_so Never = refl

has_both : (x : Way) (a b : Ends) → a.next ≡ true → has x b ≡ true → has x (behind a b) ≡ true
has_both Next a b d e = and_both a.next b.next d e
has_both Broken a b d e = or_right a.broken (a.next && b.broken) (and_both a.next b.broken d e)
has_both Continued a b d e = or_right a.continued (a.next && b.continued) (and_both a.next b.continued d e)
has_both Returned a b d e = or_right a.returned (a.next && b.returned) (and_both a.next b.returned d e)
has_both Never a b d e = refl

has_first : (x : Way) (a b : Ends) → goes_on x ≡ false → has x a ≡ true → has x (behind a b) ≡ true
has_first Next a b c e = cc
has_first Broken a b c e = or_left a.broken (a.next && b.broken) e
has_first Continued a b c e = or_left a.continued (a.next && b.continued) e
has_first Returned a b c e = or_left a.returned (a.next && b.returned) e
has_first Never a b c e = refl

has_left : (x : Way) (a b : Ends) → has x a ≡ true → has x (beside a b) ≡ true
has_left Next a b e = or_left a.next b.next e
has_left Broken a b e = or_left a.broken b.broken e
has_left Continued a b e = or_left a.continued b.continued e
has_left Returned a b e = or_left a.returned b.returned e
has_left Never a b e = refl

has_right : (x : Way) (a b : Ends) → has x b ≡ true → has x (beside a b) ≡ true
has_right Next a b e = or_right a.next b.next e
has_right Broken a b e = or_right a.broken b.broken e
has_right Continued a b e = or_right a.continued b.continued e
has_right Returned a b e = or_right a.returned b.returned e
has_right Never a b e = refl

has_turned : (x : Way) (a : Ends) → goes_on x ≡ false → has x a ≡ true → has x (turning a) ≡ true
has_turned Next a c e = refl
has_turned Broken a c e = e
has_turned Continued a c e = e
has_turned Returned a c e = e
has_turned Never a c e = refl

has_caught : (c x : Way) (a : Ends) → has x a ≡ true → has (p.caught c x) (caught c a) ≡ true
has_caught Broken Next a e = or_left a.next a.broken e
has_caught Broken Broken a e = or_right a.next a.broken e
has_caught Broken Continued a e = e
has_caught Broken Returned a e = e
has_caught Broken Never a e = refl
has_caught Continued Next a e = or_left a.next a.continued e
has_caught Continued Broken a e = e
has_caught Continued Continued a e = or_right a.next a.continued e
has_caught Continued Returned a e = e
has_caught Continued Never a e = refl
has_caught Returned Next a e = or_left a.next a.returned e
has_caught Returned Broken a e = e
has_caught Returned Continued a e = e
has_caught Returned Returned a e = or_right a.next a.returned e
has_caught Returned Never a e = refl
has_caught Next x a e = e
has_caught Never x a e = e

sound : {b : PathBody} {w : List LetterAt} {x : Way} → Words None b w x → has x (ends_of b) ≡ true
sound (by_leaving {x = x}) = left_so x
sound by_letter = refl
sound (by_both {a = a} {b = b} {x = x} h i) = has_both x (ends_of a) (ends_of b) (sound h) (sound i)
sound (by_first_alone {a = a} {b = b} {x = x} c h) = has_first x (ends_of a) (ends_of b) c (sound h)
sound (by_left {a = a} {b = b} {x = x} h) = has_left x (ends_of a) (ends_of b) (sound h)
sound (by_right {a = a} {b = b} {x = x} h) = has_right x (ends_of a) (ends_of b) (sound h)
sound by_no_turn = refl
sound (by_turn h i) = sound i
sound (by_last_turn {a = a} {x = x} c h) = has_turned x (ends_of a) c (sound h)
sound (by_catching {c = c} {a = a} {x = x} h) = has_caught c x (ends_of a) (sound h)
sound (by_scope h) = sound h

-- ---- for each way that is computed there is a word

abbrev Word : PathBody → Way → Type 0
Word b x = (w : List LetterAt) × Words None b w x

abbrev may : Way → Ends → Bool
may Next e = e.next
may Broken e = e.broken
may Continued e = e.continued
may Returned e = e.returned
may Never e = false

leave_word : (y x : Way) → may x (leaving y) ≡ true → Word (p.leave y) x
leave_word Next Next e = ([], by_leaving)
leave_word Broken Broken e = ([], by_leaving)
leave_word Continued Continued e = ([], by_leaving)
leave_word Returned Returned e = ([], by_leaving)
leave_word Never Next e = cc
leave_word Never Broken e = cc
leave_word Never Continued e = cc
leave_word Never Returned e = cc
leave_word Never Never e = cc
leave_word y x e = cc

both_word : (a b : PathBody) (x : Way) → Word a Next → Word b x → Word (p.seq a b) x
both_word a b x (u, h) (w, i) = (u ++ w, by_both h i)

seq_word : (a b : PathBody) (x : Way) → goes_on x ≡ false → (k l m : Bool) → (k ≡ true → Word a x) → (l ≡ true → Word a Next) → (m ≡ true → Word b x)
    → (k || (l && m)) ≡ true → Word (p.seq a b) x
seq_word a b x c true l m f g h e = let q : Word a x = f refl in (q.0, by_first_alone c q.1)
seq_word a b x c false l m f g h e = let q : (l ≡ true) × (m ≡ true) = and_split l m e in both_word a b x (g q.0) (h q.1)

either_word : (a b : PathBody) (x : Way) (k l : Bool) → (k ≡ true → Word a x) → (l ≡ true → Word b x) → (k || l) ≡ true → Word (p.either a b) x
either_word a b x true l f g e = let q : Word a x = f refl in (q.0, by_left q.1)
either_word a b x false l f g e = let q : Word b x = g e in (q.0, by_right q.1)

turn_word : (a : PathBody) (x : Way) → goes_on x ≡ false → Word a x → Word (p.loop a) x
turn_word a x c (w, h) = (w, by_last_turn c h)

catch_word : (c : Way) (a : PathBody) (x : Way) → Word a x → Word (p.catch c a) (p.caught c x)
catch_word c a x (w, h) = (w, by_catching h)

-- what came to the end, or was caught
end_word : (c y : Way) (a : PathBody) → p.caught c Next ≡ Next → p.caught c y ≡ Next → (k l : Bool) → (k ≡ true → Word a Next) → (l ≡ true → Word a y) → (k || l) ≡ true
    → Word (p.catch c a) Next
end_word c y a d e true l f g h = subst (Word (p.catch c a)) d (catch_word c a Next (f refl))
end_word c y a d e false l f g h = subst (Word (p.catch c a)) e (catch_word c a y (g h))

scope_word : (v : PathVariable) (s : Position) (b : PathBody) (x : Way) → Word b x → Word (p.scope v s b) x
scope_word v s b x (w, h) = (w, by_scope h)

complete : (b : PathBody) (x : Way) → may x (ends_of b) ≡ true → Word b x
complete b Never e = cc
complete (p.leave y) x e = leave_word y x e
complete (p.spell v l s) Next e = (spelled None v l s, by_letter)
complete (p.spell v l s) x e = cc
complete (p.seq a b) Next e =
    let q : ((ends_of a).next ≡ true) × ((ends_of b).next ≡ true) = and_split (ends_of a).next (ends_of b).next e in
    both_word a b Next (complete a Next q.0) (complete b Next q.1)
complete (p.seq a b) Broken e = seq_word a b Broken refl (ends_of a).broken (ends_of a).next (ends_of b).broken (complete a Broken) (complete a Next) (complete b Broken) e
complete (p.seq a b) Continued e = seq_word a b Continued refl (ends_of a).continued (ends_of a).next (ends_of b).continued (complete a Continued) (complete a Next) (complete b Continued) e
complete (p.seq a b) Returned e = seq_word a b Returned refl (ends_of a).returned (ends_of a).next (ends_of b).returned (complete a Returned) (complete a Next) (complete b Returned) e
complete (p.either a b) Next e = either_word a b Next (ends_of a).next (ends_of b).next (complete a Next) (complete b Next) e
complete (p.either a b) Broken e = either_word a b Broken (ends_of a).broken (ends_of b).broken (complete a Broken) (complete b Broken) e
complete (p.either a b) Continued e = either_word a b Continued (ends_of a).continued (ends_of b).continued (complete a Continued) (complete b Continued) e
complete (p.either a b) Returned e = either_word a b Returned (ends_of a).returned (ends_of b).returned (complete a Returned) (complete b Returned) e
complete (p.loop a) Next e = ([], by_no_turn)
complete (p.loop a) Broken e = turn_word a Broken refl (complete a Broken e)
complete (p.loop a) Continued e = turn_word a Continued refl (complete a Continued e)
complete (p.loop a) Returned e = turn_word a Returned refl (complete a Returned e)
complete (p.catch Broken a) Next e = end_word Broken Broken a refl refl (ends_of a).next (ends_of a).broken (complete a Next) (complete a Broken) e
complete (p.catch Broken a) Broken e = cc
complete (p.catch Broken a) Continued e = catch_word Broken a Continued (complete a Continued e)
complete (p.catch Broken a) Returned e = catch_word Broken a Returned (complete a Returned e)
complete (p.catch Continued a) Next e = end_word Continued Continued a refl refl (ends_of a).next (ends_of a).continued (complete a Next) (complete a Continued) e
complete (p.catch Continued a) Broken e = catch_word Continued a Broken (complete a Broken e)
complete (p.catch Continued a) Continued e = cc
complete (p.catch Continued a) Returned e = catch_word Continued a Returned (complete a Returned e)
complete (p.catch Returned a) Next e = end_word Returned Returned a refl refl (ends_of a).next (ends_of a).returned (complete a Next) (complete a Returned) e
complete (p.catch Returned a) Broken e = catch_word Returned a Broken (complete a Broken e)
complete (p.catch Returned a) Continued e = catch_word Returned a Continued (complete a Continued e)
complete (p.catch Returned a) Returned e = cc
complete (p.catch Next a) x e = catch_word Next a x (complete a x e)
complete (p.catch Never a) x e = catch_word Never a x (complete a x e)
complete (p.scope v s b) x e = scope_word v s b x (complete b x e)

-- some path comes to the end exactly where that is computed
pub comes_sound : (b : PathBody) → p.ComesToEnd b → (ends_of b).next ≡ true
comes_sound b (w, h) = sound h

pub comes_complete : (b : PathBody) → (ends_of b).next ≡ true → p.ComesToEnd b
comes_complete b e = complete b Next e
