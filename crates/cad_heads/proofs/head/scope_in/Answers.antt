use Rattle.std.proofs.Common.{rules, refl}
use Rattle.cad_declarations.specs.Kinds as kinds
use Rattle.cad_declarations.specs.Views.{tables_of}
use Rattle.cad_heads.proofs.ScopeParts.{mapping_ids, same_scope}
use Rattle.cad_heads.proofs.head.scope_in.Goals as goal

pub returns : goal.returns
returns c = same_scope
    _ (kinds.scope_of (tables_of c.args.known.tables.now))
    (search rules) (search rules) c.declared.ensures refl
    (mapping_ids c.args.known.tables.now.mappings)
