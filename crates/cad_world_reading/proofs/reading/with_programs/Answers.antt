use Rattle.cad_world_registers.proofs.ReadBack.{same_found, same_only}
use Rattle.cad_worlds.specs.RowLists.{rows_listed}
use Rattle.cad_loading.specs.Views.{programs_of}
use Rattle.cad_world_registers.specs.Meaning.{parts_of}
use Rattle.cad_world_reading.proofs.reading.with_programs.Goals as goal

pub returns-in-Ok-clause-found : goal.returns-in-Ok-clause-found
returns-in-Ok-clause-found c = same_found (rows_listed c.args.list) c.kept.result _ _ c.in-Ok.ensures c.kept.ensures.found

pub returns-in-Ok-clause-only : goal.returns-in-Ok-clause-only
returns-in-Ok-clause-only c = same_only (rows_listed c.args.list) c.kept.result _ _ c.in-Ok.ensures c.kept.ensures.only

pub kept-requires : goal.kept-requires
kept-requires c = record { draft = parts_of c.args.parts; programs = programs_of c.args.programs; made = c.requires.made; is = c.in-Ok.ensures }
