use Rattle.std.proofs.Common.{ℕ, ◌≤◌, arith, subst, sym}
use Rattle.std.specs.Prelude.{Result}
use Rattle.cad_evaluation.specs.Containers as spec
use Rattle.cad_outcomes.specs.declared.stop.Stop.{Stop}
use Rattle.cad_rows.specs.declared.tree.Tree.{Tree}
use Rattle.cad_state.specs.Views.{state_over}
use Rattle.cad_world.specs.Rows as rows
use Rattle.cad_containers.specs.Code.Changes.{ChangesArray}
use Rattle.cad_containers.proofs.Changing.{cut_nowhere, array_taken}
use Rattle.cad_containers.proofs.array_changes.cut_at.Goals as goal

pub returns-then-count-i : goal.returns-then-count-i
returns-then-count-i c = λ type accounts ready f here known.
    cut_nowhere c.args.label type c.args.i f.tree.parts (state_over accounts c.args.state.now) (subst (λ (n : ℕ). n ≤ c.args.i) known.1 c.if-count-i.true)

pub returns : goal.returns
returns c = λ type.
    subst (λ (r : Result Tree Stop). ChangesArray c.args.label type c.args.count (λ parts. spec.array_cut c.args.label type parts c.args.i (rows.slot c.args.i parts)) c.args.state.now c.cut_in.new.state r) (sym c.taken_out.ensures)
    (array_taken c.args.label type c.args.count c.args.i c.args.state.now c.cut_in.new.state c.cut_in.result (omega (arith, c.if-count-i.false)) c.cut_in.ensures)
