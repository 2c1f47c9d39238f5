use Rattle.std.proofs.Common.{◌≡◌, ℕ, List, length, IfOk, subst}
use Rattle.cad_accounts.specs.Registers.{Leads, at}
use Rattle.cad_accounts.specs.declared.row.Row.{Row}
use Rattle.cad_store.specs.Stores.{held}
use Rattle.cad_world.specs.Registers.{map_of}
use Rattle.cad_world.specs.State as definition
use Rattle.cad_worlds.specs.Parts.{world_over}
use Rattle.cad_worlds.specs.Standing.{IsSoundButCode, coding}
use Rattle.cad_serve_parts.proofs.PartLaws.{changes_lead}
use Rattle.cad_serve_parts.proofs.parts.sound_changes.Goals as goal

pub returns : goal.returns
returns c =
    let before = c.args.before.now in
    let after = c.args.after.now in
    changes_lead c.part_changes.result (held c.args.store.now) before after (c.in_ok-stays_standing.ensures c.if-not-branch.false)
    (subst
    (λ (rows : List Row). IfOk c.part_changes.result (λ changes. (w : definition.World) → ((key : List ℕ) → at rows key ≡ map_of coding w key) → before.count ≡ length w.accounts → IsSoundButCode (world_over w.accounts after)
    → Leads (at rows) (map_of coding (world_over w.accounts after)) changes))
    c.blocks-2.ensures.rows c.part_changes.ensures)
