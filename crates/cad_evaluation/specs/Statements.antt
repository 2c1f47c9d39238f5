-- What statements and blocks mean.
use Rattle.std.specs.Prelude.{ℕ, Bool, true, false, ◌||◌}
use Rattle.cad_syntax.specs.declared.type_id.TypeId.{TypeId}
use Rattle.cad_declarations.specs.Typed as e
use Rattle.cad_world.specs.Rows.{Tree}
use Rattle.cad_world.specs.State.{Action, ◌>>=◌, ◌>>◌, give, by_truth, tick}
use Rattle.cad_world.specs.Transfers.{transferred}
use Rattle.cad_world.specs.Locations.{variable}
use Rattle.cad_evaluation.specs.Callees.{Calls, Front}
use Rattle.cad_evaluation.specs.Changing.{fill, assigned, force_assigned, exchanged, swapped}
use Rattle.cad_evaluation.specs.Containers.{void_tree}
use Rattle.cad_evaluation.specs.Ending.{dropped, event_of, emitted}
use Rattle.cad_evaluation.specs.Flows.{Flow, next, returned, broken, continued, then_next, closed, turns, over_elements, moved_variable, if_content, if_cast_at, is_nil_literal, is_case, by_case, leave_switch}
use Rattle.cad_evaluation.specs.Numbers.{truth_of}
use Rattle.cad_evaluation.specs.Standing.{location_of}
use Rattle.cad_evaluation.specs.Terms.{eval, eval_place, eval_arguments}

-- an event is made of its arguments and joins the events; that is a call
abbrev pub emits : Front → Calls → TypeId → e.Arguments → Action (Unit {0})
emits front calls id all = eval_arguments front calls all >>= (λ row. tick >> event_of id row >>= emitted)

abbrev mutual
  -- turns of loops are bounded by n
  pub exec : Front → Calls → ℕ → e.StatementTree → Action Flow
  exec front calls n (e.declare at x a) = tick >> eval front calls a >>= transferred x.type >>= fill (variable x.number) >> give next
  exec front calls n (e.exchange at x p type a) =
      tick >> eval_place front calls p true >>= location_of >>= (λ place.
      eval front calls a >>= transferred type >>= exchanged place x.type >>= fill (variable x.number) >> give next)
  exec front calls n (e.assign at p a type) =
      tick >> eval_place front calls p true >>= location_of >>= (λ place. eval front calls a >>= transferred type >>= assigned place >> give next)
  exec front calls n (e.force_assign at p a type) =
      tick >> eval_place front calls p true >>= location_of >>= (λ place. eval front calls a >>= transferred type >>= force_assigned place >> give next)
  exec front calls n (e.swap at p ptype q qtype) =
      tick >> eval_place front calls p true >>= location_of >>= (λ left.
      eval_place front calls q true >>= location_of >>= (λ right. swapped left ptype right qtype >> give next))
  exec front calls n (e.expression at a) = tick >> eval front calls a >>= dropped >> give next
  exec front calls n (e.if_else at a body otherwise) =
      tick >> eval front calls a >>= (λ t. by_truth (truth_of t) (exec_block front calls n body) (exec_block front calls n otherwise))
  exec front calls n (e.if_let at x a type body otherwise) =
      tick >> eval front calls a >>= transferred type >>= if_content (moved_variable a) x (exec_block front calls n body) (exec_block front calls n otherwise)
  exec front calls n (e.if_cast at x p type body otherwise) =
      tick >> eval_place front calls p false >>= if_cast_at type x (exec_block front calls n body) (exec_block front calls n otherwise)
  exec front calls n (e.while_loop at a body) = tick >> turns n (eval front calls a) (exec_block front calls n body)
  exec front calls n (e.for_loop at index x a type body) =
      tick >> eval front calls a >>= transferred type >>= over_elements index x (exec_block front calls n body)
  exec front calls n (e.switch at a all otherwise) =
      tick >> eval front calls a >>= (λ t. exec_cases front calls n (is_nil_literal a) t (exec_block front calls n otherwise) all) >>= leave_switch
  exec front calls n (e.break_loop at) = tick >> give broken
  exec front calls n (e.continue_loop at) = tick >> give continued
  exec front calls n (e.return_nothing at) = tick >> give (returned void_tree)
  exec front calls n (e.return_value at a type) = tick >> eval front calls a >>= transferred type >>= (λ t. give (returned t))
  exec front calls n (e.emit at id all) = tick >> emits front calls id all >> give next

  -- the variables that were declared in a block go at its end
  pub exec_block : Front → Calls → ℕ → e.BlockTree → Action Flow
  exec_block front calls n (e.block first body) = closed first (exec_all front calls n body)

  pub exec_all : Front → Calls → ℕ → e.Statements → Action Flow
  exec_all front calls n e.no_statements = give next
  exec_all front calls n (e.statements s more) = exec front calls n s >>= (λ flow. then_next flow (exec_all front calls n more))

  -- the first case with an equal value, or the default; whether the switched value is the literal nil
  pub exec_cases : Front → Calls → ℕ → Bool → Tree → Action Flow → e.TypedCases → Action Flow
  exec_cases front calls n nil t otherwise e.no_cases = otherwise
  exec_cases front calls n nil t otherwise (e.cases a body more) =
      eval front calls a >>= (λ c. is_case (nil || is_nil_literal a) t c >>= (λ is.
      by_case is (exec_block front calls n body) (exec_cases front calls n nil t otherwise more)))
