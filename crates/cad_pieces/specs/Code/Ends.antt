-- How the paths of a body leave it, but by calls that never end.
use Rattle.std.specs.Prelude.{Bool, true, false, ◌&&◌, ◌||◌}
use Rattle.cad_paths.specs.declared.letter.Way.{Way}
use Rattle.cad_paths.specs.declared.letter.Way.TheVariants.{Next, Broken, Continued, Returned, Never}
use Rattle.cad_paths.specs.Paths as p
use Rattle.cad_paths.specs.Paths.{PathBody}
use Rattle.cad_pieces.specs.declared.ends.Ends.{Ends}

abbrev pub ends : Bool → Bool → Bool → Bool → Ends
ends next broken continued returned = record { next = next; broken = broken; continued = continued; returned = returned }

-- they come to its end, or leave it in no way
abbrev pub coming : Bool → Ends
coming comes = ends comes false false false

abbrev pub no_ends : Ends
no_ends = coming false

-- one body, and then another
abbrev pub behind : Ends → Ends → Ends
behind a b = record {
  next = a.next && b.next;
  broken = a.broken || (a.next && b.broken);
  continued = a.continued || (a.next && b.continued);
  returned = a.returned || (a.next && b.returned);
}

-- one body or another
abbrev pub beside : Ends → Ends → Ends
beside a b = record {
  next = a.next || b.next;
  broken = a.broken || b.broken;
  continued = a.continued || b.continued;
  returned = a.returned || b.returned;
}

-- any number of turns
abbrev pub turning : Ends → Ends
turning a = record a { next = true }

-- a `break` goes on behind the body
abbrev pub broken_off : Ends → Ends
broken_off a = ends (a.next || a.broken) false a.continued a.returned

-- a `continue` goes on behind the body
abbrev pub continued_on : Ends → Ends
continued_on a = ends (a.next || a.continued) a.broken false a.returned

-- a `return` goes on behind the body
abbrev pub returned_to : Ends → Ends
returned_to a = ends (a.next || a.returned) a.broken a.continued false

abbrev pub caught : Way → Ends → Ends
caught Next a = a
caught Broken a = broken_off a
caught Continued a = continued_on a
caught Returned a = returned_to a
caught Never a = a

abbrev pub leaving : Way → Ends
leaving Next = coming true
leaving Broken = ends false true false false
leaving Continued = ends false false true false
leaving Returned = ends false false false true
leaving Never = no_ends

-- the ends of a body's paths
abbrev pub ends_of : PathBody → Ends
ends_of (p.leave x) = leaving x
ends_of (p.spell v l s) = coming true
ends_of (p.seq a b) = behind (ends_of a) (ends_of b)
ends_of (p.either a b) = beside (ends_of a) (ends_of b)
ends_of (p.loop a) = turning (ends_of a)
ends_of (p.catch c a) = caught c (ends_of a)
ends_of (p.scope v s b) = ends_of b
