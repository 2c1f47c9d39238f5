use Rattle.std.proofs.Common.{◌∙◌, ◌<◌, ◌^◌, ℕ, List, length, refl, sym, ap, subst, arith}
use Rattle.cad_accounts.specs.Memory.{rows_in_blocks}
use Rattle.cad_accounts.specs.Registers.{Leads, at}
use Rattle.cad_state.specs.declared.state.Known.{Known}
use Rattle.cad_world.specs.Registers.{map_of}
use Rattle.cad_worlds.proofs.PartLaws.{IsWhole, part_changes_lead}
use Rattle.cad_worlds.proofs.ToldKeys.{are_told}
use Rattle.cad_worlds.specs.Merging.{chosen, merged}
use Rattle.cad_worlds.specs.Code.KnownRegisters.{is_of_part}
use Rattle.cad_worlds.specs.Parts.{world_over}
use Rattle.cad_worlds.specs.Standing.{coding}
use Rattle.cad_worlds.proofs.known_changes.part_changes.Goals as goal

pub returns : goal.returns
returns c w are counted sound =
    let rows = rows_in_blocks c.args.blocks.now in
    let items = c.in_ok-new.new.items in
    let part = c.args.part.now in
    let tested = c.if-not-is_whole_part.ensures in
    let whole : IsWhole c.args.before part = record { order = tested.order refl; few = tested.no_fewer refl; added = tested.known refl } in
    let fits : length w.accounts < 2 ^ 64 = omega (arith, counted) in
    subst (Leads (at rows) (map_of coding (world_over w.accounts part)))
    (sym
    (c.in_ok-entries.ensures (are_told rows w fits are) c.requires
    ∙ ap (λ (k : List Known). merged (chosen (is_of_part k) rows) items) c.as_slice.ensures.value))
    (part_changes_lead rows items part w c.requires (subst (λ (n : ℕ). IsWhole n part) counted whole) c.in_ok-new.ensures are sound)
