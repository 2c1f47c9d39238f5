use Rattle.std.proofs.Common.{◌∙◌, sym}
use Rattle.std.proofs.lemmas.Bool.{false≢true}
use Rattle.cad_world_reading.proofs.Loaded as loading
use Rattle.cad_world_reading.proofs.Loaded.{as_many}
use Rattle.cad_worlds.specs.RowLists.{rows_listed}
use Rattle.cad_world_reading.proofs.reading.loaded.Goals as goal

pub returns-then-not-are_as_many-clause-only : goal.returns-then-not-are_as_many-clause-only
returns-then-not-are_as_many-clause-only c v is sound st = absurd (false≢true (sym c.if-not-are_as_many.true ∙ c.are_as_many.ensures.1 (as_many c.args.parts v is)))

pub with_programs-requires-clause-programs : goal.with_programs-requires-clause-programs
with_programs-requires-clause-programs c =
    loading.as_many_programs c.args.parts.sources.items c.as_slice.result.now c.as_slice.ensures.value c.in-Ok-Some.field-0 c.in-Ok-Some.ensures c.in-Ok-Some.programs c.in-Ok-Some.field-0-is

pub with_programs-requires-clause-values : goal.with_programs-requires-clause-values
with_programs-requires-clause-values c = c.are_as_many.ensures.0 c.if-not-are_as_many.false

pub returns-in-Ok-Some-clause-found : goal.returns-in-Ok-Some-clause-found
returns-in-Ok-Some-clause-found c =
    loading.found c.args.parts c.as_slice.result.now c.as_slice.ensures.value c.in-Ok-Some.field-0 c.in-Ok-Some.ensures c.in-Ok-Some.programs c.in-Ok-Some.field-0-is
    (rows_listed c.args.list) c.with_programs.result (c.are_as_many.ensures.0 c.if-not-are_as_many.false) c.with_programs.ensures.found

pub returns-in-Ok-Some-clause-only : goal.returns-in-Ok-Some-clause-only
returns-in-Ok-Some-clause-only c v is sound st =
    loading.only c.args.parts c.as_slice.result.now c.as_slice.ensures.value c.in-Ok-Some.field-0 c.in-Ok-Some.ensures c.in-Ok-Some.programs c.in-Ok-Some.field-0-is
    (rows_listed c.args.list) c.with_programs.result v c.one_loading.ensures is sound st c.with_programs.ensures.only

pub returns-in-Ok-None-clause-only : goal.returns-in-Ok-None-clause-only
returns-in-Ok-None-clause-only c v is sound st =
    absurd (loading.none_loads c.args.parts c.as_slice.result.now c.as_slice.ensures.value c.in-Ok-None.field-0 c.in-Ok-None.ensures v c.in-Ok-None.field-0-is is sound)

pub with_programs-requires-clause-made : goal.with_programs-requires-clause-made
with_programs-requires-clause-made c = c.requires
