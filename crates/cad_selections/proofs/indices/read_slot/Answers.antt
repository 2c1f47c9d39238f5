use Rattle.std.proofs.Common.{option_map}
use Rattle.cad_selections.proofs.Handing.{entry_full}
use Rattle.cad_rows.specs.Views.{pure_tree}
use Rattle.cad_syntax.specs.Types.{pure_type}
use Rattle.cad_values.specs.Values.{pure_value}
use Rattle.cad_world.specs.Locations.{entry}
use Rattle.cad_selections.proofs.indices.read_slot.Goals as goal

pub returns-in-Full : goal.returns-in-Full
returns-in-Full c = λ s. rw c.in-Full.is (entry_full (option_map (λ own. own.now) c.args.rights) (pure_type c.args.declared.now) (entry c.args.label (pure_value c.args.key)) (pure_tree c.in-Full.tree.now)
    c.lends-is_lent.result s c.read_entry.result c.lends-is_lent.ensures (c.read_entry.ensures s))
