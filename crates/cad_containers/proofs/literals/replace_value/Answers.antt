use Rattle.cad_rows.specs.Views.{pure_tree}
use Rattle.cad_state.specs.Views.{state_over}
use Rattle.cad_syntax.specs.Types.{pure_type}
use Rattle.cad_types.specs.Declarations.{resource}
use Rattle.cad_world.specs.Declared.{declarations}
use Rattle.cad_containers.specs.Code.Tables.{pure_table}
use Rattle.cad_containers.proofs.Tables.{refused, replaced}
use Rattle.cad_containers.proofs.literals.replace_value.Goals as goal

pub returns-in-Ok-true : goal.returns-in-Ok-true
returns-in-Ok-true c = λ k accounts.
    refused (resource (declarations (state_over accounts c.args.state.now)) (pure_type c.args.t.now)) c.in-Ok-true.field-0 (pure_table c.args.table) _ c.args.i (state_over accounts c.args.state.now)
    (c.in-Ok-true.ensures accounts) c.in-Ok-true.field-0-test

pub returns-in-Ok-false : goal.returns-in-Ok-false
returns-in-Ok-false c = λ k accounts.
    replaced (pure_type c.args.t.now) c.in-Ok-false.field-0 (pure_table c.args.table) (record { key = k; value = pure_tree c.args.value }) c.args.i (state_over accounts c.args.state.now) c.or_memory.result
    (c.in-Ok-false.ensures accounts) c.in-Ok-false.field-0-test (c.or_memory.ensures _ c.put_value.ensures)
