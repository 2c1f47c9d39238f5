use Rattle.cad_commands.proofs.Items.{all_items}
use Rattle.cad_commands.proofs.field.items_of.Goals as goal

pub returns-in-Array : goal.returns-in-Array
returns-in-Array c = all_items c.args.json c.in-Array.list c.in-Array.is
