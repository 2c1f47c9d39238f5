-- The first error of a body, as the code finds it.
use Rattle.std.specs.Prelude.{ℕ, ◌||◌, Option, Some, None, Bool, true, false, if◌then◌else◌, nat_lt}
use Rattle.cad_paths.specs.declared.letter.Position.{Position}
use Rattle.cad_paths.specs.declared.letter.MoveKind.{MoveKind}
use Rattle.cad_paths.specs.declared.letter.MoveKind.TheVariants.{UsedAfterMove, Lost}
use Rattle.cad_paths.specs.Paths.{PathVariable, PathBody, leave, spell, seq, either, loop, catch, scope}
use Rattle.cad_paths.specs.Linear.{Offence}
use Rattle.cad_moves.specs.Code.Machine.{is_before, is_same, Verdict}
use Rattle.cad_moves.specs.Code.Tables.{sweep}
use Rattle.cad_moves.specs.declared.state.Rules.{Rules}
use Rattle.cad_moves.specs.declared.table.States.{States}
use Rattle.cad_moves.specs.declared.table.Effect.{Effect}
use Rattle.cad_moves.specs.declared.table.Table.{Table}

abbrev pub kind_after : MoveKind → MoveKind → Bool → Bool
kind_after UsedAfterMove UsedAfterMove b = b
kind_after UsedAfterMove Lost b = false
kind_after Lost UsedAfterMove b = true
kind_after Lost Lost b = b

-- o comes after p
abbrev pub is_after : Offence → Offence → Bool
is_after o p = if is_same o.at p.at then kind_after o.kind p.kind (nat_lt p.variable.number o.variable.number) else is_before p.at o.at

abbrev pub sooner : Option Offence → Option Offence → Option Offence
sooner None p = p
sooner (Some o) None = Some o
sooner (Some o) (Some p) = if is_after o p then Some p else Some o

unfoldable pub holds : States → Bool
holds a = a.live || a.refilled

-- some path closes while it holds
unfoldable pub leaks : Effect → Bool
leaks e = (holds e.next || holds e.broken) || (holds e.continued || holds e.returned)

abbrev pub wrong_error : PathVariable → Option Position → Option Offence
wrong_error v None = None
wrong_error v (Some t) = Some (record { at = t; kind = UsedAfterMove; variable = v })

abbrev pub lost_error : PathVariable → Position → Bool → Option Offence
lost_error v s true = Some (record { at = s; kind = Lost; variable = v })
lost_error v s false = None

unfoldable pub judged : PathVariable → Position → Effect → Option Offence
judged v s e = sooner (wrong_error v e.wrong) (lost_error v s (leaks e))

-- whether some path comes to the end
abbrev pub comes : Table → Bool
comes t = t.live.next.live

abbrev pub nearer : Option Offence → Bool → Option Offence → Option Offence
nearer o true p = sooner o p
nearer o false p = o

abbrev pub first_of : Rules → PathBody → Option Offence
first_of r (leave x) = None
first_of r (spell v l s) = None
first_of r (seq a b) = nearer (first_of r a) (comes (sweep r None a)) (first_of r b)
first_of r (either a b) = sooner (first_of r a) (first_of r b)
first_of r (loop a) = first_of r a
first_of r (catch c a) = first_of r a
first_of r (scope v s b) = sooner (judged v s (sweep r (Some v.number) b).live) (first_of r b)

abbrev pub Exact : Type 0
Exact = (r : Rules) (b : PathBody) → Verdict r b (first_of r b)
