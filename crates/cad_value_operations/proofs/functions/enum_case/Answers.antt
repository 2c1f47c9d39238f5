use Rattle.cad_evaluation.specs.Builtins.{type_member}
use Rattle.cad_rows.specs.Views.{pure_row, pure_tree}
use Rattle.cad_state.specs.Views.{state_over}
use Rattle.cad_syntax.specs.Types.{pure_type}
use Rattle.cad_syntax.specs.declared.type_id.TypeId.{TypeId}
use Rattle.cad_types.specs.declared.builtin.Builtin.TheVariants.{EnumFromRawValue}
use Rattle.cad_value_operations.proofs.EnumLaws.{by_enum}
use Rattle.cad_value_operations.proofs.Looks.{does_from}
use Rattle.cad_value_operations.specs.Code.Members.{case_of}
use Rattle.cad_world.specs.State.{with_some}
use Rattle.std.proofs.Common.{Option, ap, map, sym, ◌∙◌}
use Rattle.cad_value_operations.proofs.functions.enum_case.Goals as goal

pub returns-in-Some : goal.returns-in-Some
returns-in-Some c = λ w.
    let s = (state_over w c.args.state.now) in
    does_from pure_tree (type_member EnumFromRawValue (map (λ t. pure_type t) c.args.types.now) (pure_row c.args.row.now)) (case_of c.in-Some.id.now (pure_row c.args.row.now)) s s s c.case_of.result
    (by_enum (map (λ t. pure_type t) c.args.types.now) (pure_row c.args.row.now) s ∙ ap (λ (o : Option TypeId). with_some o (λ id. case_of id (pure_row c.args.row.now)) s) (sym c.in-Some.ensures)) (c.case_of.ensures w)
