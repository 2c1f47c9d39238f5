use Rattle.std.proofs.Common.{option_map}
use Rattle.cad_syntax.specs.Types.{pure_type}
use Rattle.cad_rows.specs.Views.{pure_shape}
use Rattle.cad_access.proofs.OwnTypeLaws.{own_ok}
use Rattle.cad_access.proofs.own_types.own_type.Goals as goal

pub returns-in-Ok : goal.returns-in-Ok
returns-in-Ok c =
    own_ok c.args.depth (pure_shape c.args.shape.now) (option_map (λ other. pure_shape other.now) c.args.found) (option_map pure_type c.in-Ok.solid) c.if_in_optionals.result
    c.in-Ok.ensures c.if_in_optionals.ensures
