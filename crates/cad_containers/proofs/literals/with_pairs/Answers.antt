use Rattle.std.proofs.Common.{[], ◌∙◌, ap, map, sym}
use Rattle.std.proofs.lemmas.List.{nil_from_length}
use Rattle.std.specs.Vec.Iter.{into_iter_items}
use Rattle.cad_state.specs.Views.{state_over}
use Rattle.cad_syntax.specs.Types.{pure_type}
use Rattle.cad_world.specs.Rows as rows
use Rattle.cad_containers.specs.Literals.{pure_pair}
use Rattle.cad_containers.specs.Code.Tables.{with_all}
use Rattle.cad_containers.proofs.Tables.{turn, end}
use Rattle.cad_containers.proofs.literals.with_pairs.Goals as goal

pub loop-pair-preserved : goal.loop-pair-preserved
loop-pair-preserved c = λ accounts.
    turn (pure_type c.args.t.now) (state_over accounts c.args.state.now) _ c.loop-pair.done c.add_next-done.result (pure_pair c.in-Some.pair)
    (map pure_pair (into_iter_items c.loop-pair.left)) (map pure_pair (into_iter_items c.next.new.self))
    (ap (map pure_pair) c.in-Some.ensures.items) (c.add_next-done.ensures accounts) (c.loop-pair.invariant accounts)

pub returns : goal.returns
returns c = λ accounts.
    end (pure_type c.args.t.now) (with_all (pure_type c.args.t.now) (record { keys = []; values = rows.stop }) (map pure_pair c.args.pairs.items)) (state_over accounts c.args.state.now) c.loop-pair.done
    (map pure_pair (into_iter_items c.loop-pair.left))
    (ap (map pure_pair) (nil_from_length (into_iter_items c.loop-pair.left) (sym c.loop-pair.left.rest.ok.0 ∙ c.in_default.ensures.cases.0))) (c.loop-pair.invariant accounts)
