use Rattle.std.proofs.Common.{◌≡◌, ◌++◌, suc, map, drop}
use Rattle.cad_state.specs.Views.{account_of}
use Rattle.cad_world.specs.Registers.{of_accounts}
use Rattle.cad_worlds.specs.Sections.{of_section}
use Rattle.cad_worlds.specs.Standing.{register_of}
use Rattle.cad_worlds.proofs.writing.push_section.Given as goal

abbrev pub invariant-loop-i : goal.invariant-loop-i
invariant-loop-i l = map register_of l.rows.items ++ of_accounts (of_section l.section) (suc l.i) (map account_of (drop l.i l.accounts)) ≡ map register_of l.fn.rows.items ++ of_accounts (of_section l.section) 1 (map account_of l.accounts)
