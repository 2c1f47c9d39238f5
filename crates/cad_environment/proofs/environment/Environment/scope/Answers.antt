use Rattle.std.proofs.Common.{rules, refl}
use Rattle.cad_typing.specs.Environments as spec
use Rattle.cad_environment.specs.Views.{environment_of}
use Rattle.cad_environment.proofs.ScopeParts.{mapping_ids, same_scope}
use Rattle.cad_environment.proofs.environment.Environment.scope.Goals as goal

-- src/environment.rt:73:5
pub returns : goal.returns
returns c = same_scope
    _ (spec.scope (environment_of c.args.self))
    (search rules) (search rules) c.kinds.ensures refl
    (mapping_ids c.args.self.known.tables.now.mappings)
