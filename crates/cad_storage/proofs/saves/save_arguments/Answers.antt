use Rattle.cad_evaluation.specs.Arguments.{argument, identifier_in}
use Rattle.cad_evaluation.specs.Storage.{saved}
use Rattle.cad_outcomes.proofs.Steps.{does_same}
use Rattle.cad_rows.specs.declared.tree.Place.{Place}
use Rattle.cad_rows.specs.Views.{pure_row, pure_tree}
use Rattle.cad_state.specs.Views.{state_over}
use Rattle.cad_syntax.specs.declared.address.Domain.TheVariants as d
use Rattle.cad_storage.proofs.StorageLaws.{named_first}
use Rattle.cad_storage.specs.Code.{at_stored}
use Rattle.cad_syntax.specs.declared.text.Name.{Name}
use Rattle.cad_world.specs.Rows.{Tree}
use Rattle.cad_world.specs.State.{with_some}
use Rattle.std.proofs.Common.{List, ap, sym, ◌∙◌}
use Rattle.std.specs.Prelude.{option_and_then}
use Rattle.cad_storage.proofs.saves.save_arguments.Goals as goal

pub returns-in-Ok-Some : goal.returns-in-Ok-Some
returns-in-Ok-Some c = λ w.
    let s = state_over w c.args.state.now in
    let a = c.args.address in
    let n = c.in-Ok-Some.name in
    let r = pure_row c.args.row.items in
    let f = λ (m : Name) (t : Tree). at_stored (saved a m t) a m in
    let o = argument 0 r in
    let i = option_and_then (identifier_in d.Storage) (argument 1 r) in
    does_same pure_tree (with_some o (λ t. with_some i (λ m. f m t))) (with_some o (f n)) s (state_over w c.save_first.new.state) c.save_first.result
    (named_first o i n f s (sym c.in-Ok-Some.field-0-is ∙ c.in-Ok-Some.ensures ∙ ap (λ (ps : List Place). option_and_then (identifier_in d.Storage) (argument 1 (pure_row ps))) c.as_slice.ensures.value)) (c.save_first.ensures w)
