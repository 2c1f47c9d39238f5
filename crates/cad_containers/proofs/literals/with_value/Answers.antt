use Rattle.cad_rows.specs.Views.{pure_tree}
use Rattle.cad_state.specs.Views.{state_over}
use Rattle.cad_syntax.specs.Types.{pure_type}
use Rattle.cad_values.specs.Values.{pure_value}
use Rattle.std.proofs.Common.{Some, sym, ◌∙◌}
use Rattle.cad_containers.specs.Code.Tables.{pure_table}
use Rattle.cad_containers.proofs.Tables.{placed, added}
use Rattle.cad_containers.proofs.literals.with_value.Goals as goal

pub returns-in-Ok-None : goal.returns-in-Ok-None
returns-in-Ok-None c = λ k same accounts.
    added (pure_type c.args.t.now) (pure_table c.args.table) (record { key = k; value = pure_tree c.args.value }) (pure_value c.args.key) (state_over accounts c.args.state.now) c.or_memory.result
    same (sym c.in-Ok-None.field-0-is ∙ c.in-Ok-None.ensures.value) (c.or_memory.ensures _ c.add_pair.ensures)

pub returns-in-Ok-Some : goal.returns-in-Ok-Some
returns-in-Ok-Some c = λ k same accounts.
    placed (pure_type c.args.t.now) (pure_table c.args.table) (record { key = k; value = pure_tree c.args.value }) (pure_value c.args.key) (Some c.in-Ok-Some.i) (state_over accounts c.args.state.now) c.replace_value.result
    same (sym c.in-Ok-Some.field-0-is ∙ c.in-Ok-Some.ensures.value) (c.replace_value.ensures k accounts)
