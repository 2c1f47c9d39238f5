use Rattle.std.proofs.Common.{option_map, sym, ◌∙◌}
use Rattle.cad_rows.specs.Views.{pure_shape}
use Rattle.cad_access.proofs.OwnTypeLaws.{gone, told_ok}
use Rattle.cad_access.proofs.own_types.shape_type.Goals as goal

pub returns-then-leads_nowhere : goal.returns-then-leads_nowhere
returns-then-leads_nowhere c =
    gone (pure_shape c.args.shape.now) (option_map (λ other. pure_shape other.now) c.args.found) (sym c.leads_nowhere.ensures ∙ c.if-leads_nowhere.true)

pub returns-else-leads_nowhere : goal.returns-else-leads_nowhere
returns-else-leads_nowhere c =
    told_ok (pure_shape c.args.shape.now) (option_map (λ other. pure_shape other.now) c.args.found) c.type_of_shape.result
    (sym c.leads_nowhere.ensures ∙ c.if-leads_nowhere.false) c.type_of_shape.ensures
