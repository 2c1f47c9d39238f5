-- What is made of what a call came to.
use Rattle.std.specs.Prelude.{◌≡◌, Option, Some, None, Result, Ok, Err}
use Rattle.std.specs.declared.alloc.Global.{Global}
use Rattle.std.specs.declared.boxed.Box.{Box}
use Rattle.cad_outcomes.specs.declared.stop.Stop.{Stop}
use Rattle.cad_outcomes.specs.declared.stop.Stop.TheVariants.{Memory}
use Rattle.cad_rows.specs.declared.tree.Tree.{Tree}
use Rattle.cad_statement_leaves.specs.declared.flow.Flow.{Flow}
use Rattle.cad_statement_leaves.specs.declared.flow.Flow.TheVariants.{Next, Returned, Broken, Continued}

-- the next statement runs behind what gave its value
abbrev pub next_of : Result (Unit {0}) Stop → Result Flow Stop
next_of (Ok u) = Ok Next
next_of (Err stop) = Err stop

-- the function returns what was given
abbrev pub returned_of : Result (Box Tree Global) Stop → Result Flow Stop
returned_of (Ok value) = Ok (Returned value)
returned_of (Err stop) = Err stop

-- `break` leaves a switch
abbrev pub left_flow : Flow → Flow
left_flow Broken = Next
left_flow Next = Next
left_flow (Returned value) = Returned value
left_flow Continued = Continued

abbrev pub left_of : Result Flow Stop → Result Flow Stop
left_of (Ok flow) = Ok (left_flow flow)
left_of (Err stop) = Err stop

-- what a statement comes to, where that ends its block
abbrev pub statement_end : Result Flow Stop → Option (Result Flow Stop)
statement_end (Ok Next) = None
statement_end (Ok (Returned value)) = Some (Ok (Returned value))
statement_end (Ok Broken) = Some (Ok Broken)
statement_end (Ok Continued) = Some (Ok Continued)
statement_end (Err stop) = Some (Err stop)

-- what a turn comes to, where that ends its loop
abbrev pub turn_end : Result Flow Stop → Option (Result Flow Stop)
turn_end (Ok Next) = None
turn_end (Ok (Returned value)) = Some (Ok (Returned value))
turn_end (Ok Broken) = Some (Ok Next)
turn_end (Ok Continued) = None
turn_end (Err stop) = Some (Err stop)

-- what a case comes to, where it is the one that runs
abbrev pub case_end : Result (Option Flow) Stop → Option (Result (Option Flow) Stop)
case_end (Ok None) = None
case_end (Ok (Some flow)) = Some (Ok (Some flow))
case_end (Err stop) = Some (Err stop)

-- a case that ran
abbrev pub case_ran : Result Flow Stop → Result (Option Flow) Stop
case_ran (Ok flow) = Ok (Some flow)
case_ran (Err stop) = Err stop

-- an optional of a value, which comes to the heap
abbrev pub BoxesContent : Result (Option Tree) Stop → Result (Option (Box Tree Global)) Stop → Type 0
BoxesContent (Ok (Some tree)) (Ok (Some b)) = b.value ≡ tree
BoxesContent (Ok (Some tree)) (Ok None) = ⊥
BoxesContent (Ok (Some tree)) (Err stop) = stop ≡ Memory
BoxesContent (Ok None) result = result ≡ Ok None
BoxesContent (Err why) result = result ≡ Err why
