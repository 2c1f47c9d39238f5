use Rattle.std.proofs.Common.{◌∙◌, ap, map, option_map}
use Rattle.cad_syntax.specs.Types.{pure_type}
use Rattle.cad_environment.specs.Views.{environment_of}
use Rattle.cad_typing.specs.Containers.{common_type}
use Rattle.cad_infer_containers.proofs.Rows.{retold, seen_type}
use Rattle.cad_infer_containers.proofs.containers.common_element.Goals as goal

pub returns : goal.returns
returns c =
    retold (option_map pure_type) c.common_type.result _ _
    (λ i. common_type (environment_of c.args.env) (option_map seen_type c.args.expected) ((ap (map seen_type) c.as_slice.ensures.value ∙ c.in_ok-all.ensures) i))
    c.common_type.ensures
