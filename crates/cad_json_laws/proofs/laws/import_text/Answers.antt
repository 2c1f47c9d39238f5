use Rattle.serde_json.specs.View.{view}
use Rattle.cad_fits.proofs.Each.{not_so}
use Rattle.cad_shapes.specs.Held.{shapes_of}
use Rattle.cad_values.specs.Shapes.{declarations}
use Rattle.cad_json_laws.proofs.Texts.{read_told, no_text}
use Rattle.cad_json_laws.proofs.laws.import_text.Goals as goal

pub returns-in-Ok : goal.returns-in-Ok
returns-in-Ok c x whole shallow same =
    c.import_told.ensures x whole (read_told (declarations (shapes_of c.args.shapes.now)) x c.args.text.now (view c.in-Ok.json) shallow same c.in-Ok.ensures.ok)

pub returns-else-is_memory : goal.returns-else-is_memory
returns-else-is_memory c x whole shallow same =
    absurd (no_text (declarations (shapes_of c.args.shapes.now)) x c.args.text.now shallow same (c.in-Err.ensures.err (not_so c.is_memory.result c.is_memory.ensures c.if-is_memory.false)))
