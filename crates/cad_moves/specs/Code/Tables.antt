-- What a sweep over a body gathers.
use Rattle.std.specs.Prelude.{◌≡◌, ℕ, ◌||◌, Option, Some, None, Bool, true, false, if◌then◌else◌}
use Rattle.cad_paths.specs.declared.letter.Letter.{Letter}
use Rattle.cad_paths.specs.declared.letter.Way.{Way}
use Rattle.cad_paths.specs.declared.letter.Way.TheVariants.{Next, Broken, Continued, Returned, Never}
use Rattle.cad_paths.specs.declared.letter.Position.{Position}
use Rattle.cad_paths.specs.Paths.{PathBody, leave, spell, seq, either, loop, catch, scope, is_spelled}
use Rattle.cad_paths.specs.Linear.{NotAfter}
use Rattle.cad_moves.specs.declared.state.Rules.{Rules}
use Rattle.cad_moves.specs.declared.state.State.{State}
use Rattle.cad_moves.specs.declared.state.State.TheVariants.{Live, Vacant, Refilled, Gone}
use Rattle.cad_moves.specs.declared.table.States.{States}
use Rattle.cad_moves.specs.declared.table.Effect.{Effect}
use Rattle.cad_moves.specs.declared.table.Table.{Table}
use Rattle.cad_moves.specs.Code.Machine.{steps, is_wrong, is_before}

-- ---- sets of states

abbrev pub at_state : States → State → Bool
at_state a Live = a.live
at_state a Vacant = a.vacant
at_state a Refilled = a.refilled
at_state a Gone = a.gone

abbrev pub none : States
none = record { live = false; vacant = false; refilled = false; gone = false }

abbrev pub just : State → States
just Live = record { live = true; vacant = false; refilled = false; gone = false }
just Vacant = record { live = false; vacant = true; refilled = false; gone = false }
just Refilled = record { live = false; vacant = false; refilled = true; gone = false }
just Gone = record { live = false; vacant = false; refilled = false; gone = true }

abbrev pub maybe_just : Option State → States
maybe_just None = none
maybe_just (Some q) = just q

unfoldable pub unite : States → States → States
unite a b = record { live = a.live || b.live; vacant = a.vacant || b.vacant; refilled = a.refilled || b.refilled; gone = a.gone || b.gone }

-- ---- effects

abbrev pub at_way : Effect → Way → States
at_way e Next = e.next
at_way e Broken = e.broken
at_way e Continued = e.continued
at_way e Returned = e.returned
at_way e Never = e.ended

unfoldable pub nothing : Effect
nothing = record { next = none; broken = none; continued = none; returned = none; ended = none; wrong = None }

unfoldable pub only : Way → States → Effect
only Next a = record { next = a; broken = none; continued = none; returned = none; ended = none; wrong = None }
only Broken a = record { next = none; broken = a; continued = none; returned = none; ended = none; wrong = None }
only Continued a = record { next = none; broken = none; continued = a; returned = none; ended = none; wrong = None }
only Returned a = record { next = none; broken = none; continued = none; returned = a; ended = none; wrong = None }
only Never a = record { next = none; broken = none; continued = none; returned = none; ended = a; wrong = None }

abbrev pub earlier : Option Position → Option Position → Option Position
earlier None p = p
earlier (Some s) None = Some s
earlier (Some s) (Some t) = if is_before s t then Some s else Some t

unfoldable pub merge : Effect → Effect → Effect
merge a b = record { next = unite a.next b.next; broken = unite a.broken b.broken; continued = unite a.continued b.continued; returned = unite a.returned b.returned; ended = unite a.ended b.ended; wrong = earlier a.wrong b.wrong }

unfoldable pub pick : Bool → Effect → Effect
pick true e = e
pick false e = nothing

-- from a set of states
unfoldable pub over : States → Table → Effect
over a t = merge (merge (pick a.live t.live) (pick a.vacant t.vacant)) (merge (pick a.refilled t.refilled) (pick a.gone t.gone))

unfoldable pub kept : Effect → Effect
kept e = record { next = none; broken = e.broken; continued = e.continued; returned = e.returned; ended = e.ended; wrong = e.wrong }

unfoldable pub followed : Effect → Table → Effect
followed e t = merge (kept e) (over e.next t)

unfoldable pub catching : Way → Effect → Effect
catching Broken e = record { next = unite e.next e.broken; broken = none; continued = e.continued; returned = e.returned; ended = e.ended; wrong = e.wrong }
catching Continued e = record { next = unite e.next e.continued; broken = e.broken; continued = none; returned = e.returned; ended = e.ended; wrong = e.wrong }
catching Returned e = record { next = unite e.next e.returned; broken = e.broken; continued = e.continued; returned = none; ended = e.ended; wrong = e.wrong }
catching Next e = e
catching Never e = e

-- a loop that turns no more, and the states from which it turns again
unfoldable pub finished : State → Effect → Effect
finished q e = record { next = just q; broken = e.broken; continued = e.continued; returned = e.returned; ended = e.ended; wrong = e.wrong }

abbrev pub again : Effect → States
again e = e.next

-- ---- tables

abbrev pub at : Table → State → Effect
at t Live = t.live
at t Vacant = t.vacant
at t Refilled = t.refilled
at t Gone = t.gone

abbrev pub wrong_where : Bool → Position → Option Position
wrong_where true s = Some s
wrong_where false s = None

unfoldable pub spelling : Option State → Bool → Position → Effect
spelling q b s = record { next = maybe_just q; broken = none; continued = none; returned = none; ended = none; wrong = wrong_where b s }

abbrev pub stepped : Rules → State → Letter → Position → Effect
stepped r q l s = spelling (steps r q l) (is_wrong r q l) s

abbrev pub marked : Rules → Bool → Letter → Position → State → Effect
marked r b l s q = if b then stepped r q l s else only Next (just q)

unfoldable pub leaving : Way → Table
leaving x = record { live = only x (just Live); vacant = only x (just Vacant); refilled = only x (just Refilled); gone = only x (just Gone) }

unfoldable pub letter : Rules → Bool → Letter → Position → Table
letter r b l s = record { live = marked r b l s Live; vacant = marked r b l s Vacant; refilled = marked r b l s Refilled; gone = marked r b l s Gone }

unfoldable pub in_turn : Table → Table → Table
in_turn a b = record { live = followed a.live b; vacant = followed a.vacant b; refilled = followed a.refilled b; gone = followed a.gone b }

unfoldable pub choice : Table → Table → Table
choice a b = record { live = merge a.live b.live; vacant = merge a.vacant b.vacant; refilled = merge a.refilled b.refilled; gone = merge a.gone b.gone }

-- no letter leads back, so a loop's turns go down this list
unfoldable pub loop_gone : Table → Effect
loop_gone a = finished Gone a.gone

unfoldable pub loop_refilled : Table → Effect
loop_refilled a = merge (finished Refilled a.refilled) (pick (again a.refilled).gone (loop_gone a))

unfoldable pub loop_vacant : Table → Effect
loop_vacant a = merge (finished Vacant a.vacant) (merge (pick (again a.vacant).refilled (loop_refilled a)) (pick (again a.vacant).gone (loop_gone a)))

unfoldable pub loop_live : Table → Effect
loop_live a = merge (finished Live a.live) (merge (pick (again a.live).vacant (loop_vacant a)) (merge (pick (again a.live).refilled (loop_refilled a)) (pick (again a.live).gone (loop_gone a))))

unfoldable pub looped : Table → Table
looped a = record { live = loop_live a; vacant = loop_vacant a; refilled = loop_refilled a; gone = loop_gone a }

unfoldable pub catch_all : Way → Table → Table
catch_all c a = record { live = catching c a.live; vacant = catching c a.vacant; refilled = catching c a.refilled; gone = catching c a.gone }

abbrev pub sweep : Rules → Option ℕ → PathBody → Table
sweep r who (leave x) = leaving x
sweep r who (spell v l s) = letter r (is_spelled who v) l s
sweep r who (seq a b) = in_turn (sweep r who a) (sweep r who b)
sweep r who (either a b) = choice (sweep r who a) (sweep r who b)
sweep r who (loop a) = looped (sweep r who a)
sweep r who (catch c a) = catch_all c (sweep r who a)
sweep r who (scope v s b) = sweep r who b

-- ---- what an effect holds

pub data Token : Type 0 where
  leaves : Way → State → Token
  offends : Position → Token

abbrev pub Below : Option Position → Position → Type 0
Below None s = ⊥
Below (Some t) s = NotAfter t s

abbrev pub Has : Effect → Token → Type 0
Has e (leaves x q) = at_state (at_way e x) q ≡ true
Has e (offends s) = Below e.wrong s
