use Rattle.std.proofs.Common.{subst, sym}
use Rattle.cad_value_operations.proofs.SpotLaws.{leaf_group}
use Rattle.cad_value_operations.specs.Code.Members.{leaf_member, spot_member}
use Rattle.cad_value_operations.specs.declared.groups.Group.{Group}
use Rattle.cad_value_operations.proofs.SpotLaws.{gives_same}
use Rattle.cad_outcomes.specs.Outcomes.{Gives}
use Rattle.cad_receivers.specs.Views.{spot_of}
use Rattle.cad_rows.specs.Views.{pure_row, pure_tree}
use Rattle.cad_value_operations.proofs.spots.spot_member.Goals as goal

pub returns-in-RawValue : goal.returns-in-RawValue
returns-in-RawValue c = λ no_type no_instance. subst (λ (k : Group). Gives pure_tree (spot_member k (spot_of c.args.spot) (pure_row c.args.row.now)) c.raw_value.result) (sym c.in-RawValue.is) c.raw_value.ensures

pub returns-in_default : goal.returns-in_default
returns-in_default c = λ no_type no_instance.
    gives_same (spot_member c.args.group (spot_of c.args.spot) (pure_row c.args.row.now)) (leaf_member c.args.group (spot_of c.args.spot).tree (pure_row c.args.row.now)) c.leaf_member.result
    (λ s. leaf_group c.args.group (spot_of c.args.spot) (pure_row c.args.row.now) s no_type no_instance c.in_default.not-RawValue) c.leaf_member.ensures
