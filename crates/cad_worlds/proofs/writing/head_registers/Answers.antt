use Rattle.std.proofs.Common.{length, map, refl, sym, ap}
use Rattle.cad_state.specs.Views.{account_of}
use Rattle.cad_worlds.proofs.Sections.{of_count}
use Rattle.cad_worlds.specs.Standing.{world_of}
use Rattle.cad_worlds.proofs.writing.head_registers.Goals as goal

pub returns : goal.returns
returns c =
    let accounts = c.as_slice-accounts.result.now in
    of_count c.head_rows.result (world_of c.args.world.now) accounts (length accounts) c.args.world.now.next_identity refl (ap (map account_of) (sym c.as_slice-accounts.ensures.value)) refl c.head_rows.ensures
