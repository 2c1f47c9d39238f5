-- Calls: what is called is looked up where the program runs, and runs in a frame of its own.
use Rattle.std.specs.Prelude.{ℕ, zero, suc, Bool, true, false, List, [], ◌∷◌, Option, Some, None}
use Rattle.cad_syntax.specs.Types.{basic}
use Rattle.cad_syntax.specs.declared.type_id.TypeId.{TypeId}
use Rattle.cad_syntax.specs.declared.types.Basic.TheVariants as b
use Rattle.cad_declarations.specs.Typed as e
use Rattle.cad_world.specs.Rows.{Row, stop, Tree}
use Rattle.cad_world.specs.State.{Frame, Action, ok, ◌>>=◌, ◌>>◌, give, stuck, with_some, limit}
use Rattle.cad_world.specs.Declared.{bodies_of, function_in}
use Rattle.cad_world.specs.Transfers.{transferred}
use Rattle.cad_evaluation.specs.Bodies.{Piece, own_piece, inherited, entered, left, conditioned, rest_of}
use Rattle.cad_evaluation.specs.Callees.{method, function, initializer, destroyed_event, Calls, Front}
use Rattle.cad_evaluation.specs.Ending.{ended, event_of}
use Rattle.cad_evaluation.specs.Making.{initializer_of}
use Rattle.cad_evaluation.specs.Terms.{eval}
use Rattle.cad_evaluation.specs.Uses.{before}

-- ---- functions and initializers

abbrev pub run : Front → Calls → ℕ → Option ℕ → Bool → Option Piece → List Piece → Row → Action Tree
run front calls n self initializes own others arguments =
    entered None self initializes arguments >> conditioned front calls n own others >>= (λ t. left >> give t)

abbrev pub outside : Option e.MemberBody → Option Piece
outside None = None
outside (Some m) = Some (record { within = None; function = m.function })

-- an initializer has no result
abbrev pub making : TypeId → Option e.FunctionBody → Option Piece
making id None = None
making id (Some body) = Some (record { within = Some id; function = record body { result = basic b.Void; result_variable = None } })

-- ---- the event that tells of the end of a resource

abbrev pub defaults : Front → Calls → List e.TargetedTerm → Action Row
defaults front calls [] = give stop
defaults front calls (x ∷ xs) = eval front calls x.value >>= transferred x.target >>= (λ t. defaults front calls xs >>= before t)

abbrev pub destroyed_body : Option e.TypeBody → Option e.DestroyedBody
destroyed_body None = None
destroyed_body (Some b) = b.destroyed

-- the resource is `self`; this is no call
abbrev pub frame_of : TypeId → ℕ → Frame
frame_of id l = record { within = Some id; self = Some l; initializes = false; variables = stop; before = stop; result = stop }

abbrev pub looking : TypeId → ℕ → Action (Unit {0})
looking id l = λ s. ok tt (record s { frames = frame_of id l ∷ s.frames })

abbrev pub looked : Action (Unit {0})
looked = ended 0 >> (λ s. ok tt (record s { frames = rest_of s.frames }))

abbrev pub event_made : Front → Calls → TypeId → ℕ → e.DestroyedBody → Action Tree
event_made front calls id l d = looking id l >> defaults front calls d.arguments >>= event_of d.event >>= (λ t. looked >> give t)

-- in the default arguments of an event nothing is destroyed, but by what they call
abbrev pub destroying_nothing : Calls → Calls
destroying_nothing calls (destroyed_event id l) r = stuck
destroying_nothing calls callee r = calls callee r

-- ---- the recursion

abbrev pub called : Front → Calls → ℕ → Calls
called front calls n (method id name l) r = λ s. run front calls n (Some l) false (own_piece s name id) (inherited s name id) r s
called front calls n (function name) r = λ s. run front calls n None false (outside (function_in s.program.bodies.functions name)) [] r s
called front calls n (initializer id l) r = λ s. run front calls n (Some l) true (making id (initializer_of (bodies_of s id))) [] r s
called front calls n (destroyed_event id l) r = λ s. with_some (destroyed_body (bodies_of s id)) (event_made front (destroying_nothing calls) id l) s

-- calls that are nested at most so deep, with at most so many turns of each loop; Limit beyond
abbrev pub calls_to : Front → ℕ → Calls
calls_to front zero callee r = λ s. limit
calls_to front (suc n) callee r = called front (calls_to front n) n callee r
