use Rattle.std.proofs.Common.{◌∙◌, List, Bor, ap}
use Rattle.cad_accounts.specs.declared.row.Row.{Row}
use Rattle.cad_worlds.proofs.KnownOthers.{part_refuses}
use Rattle.cad_worlds.specs.Code.KnownRegisters.{is_of_part}
use Rattle.cad_worlds.specs.Merging.{chosen, merged}
use Rattle.cad_worlds.specs.RowLists.{rows_at}
use Rattle.cad_worlds.proofs.known_changes.merge_part.Goals as goal

pub returns : goal.returns
returns c told rising =
    let known = c.args.known.now in
    let items = c.args.new.items in
    c.in_ok-entries.ensures
    ∙ ap (λ (l : List (Bor Row)). merged (chosen (is_of_part known) (rows_at l)) items) c.as_slice.ensures.value
    ∙ ap (λ (os : List Row). merged os items) (c.in_ok-old.ensures (is_of_part known) (part_refuses known) told rising)
