use Rattle.std.proofs.Common.{◌++◌, ◌+◌, map, arith, add-one}
use Rattle.cad_state.specs.Views.{account_of}
use Rattle.cad_world.specs.Registers.{of_accounts}
use Rattle.cad_worlds.specs.Sections.{of_section}
use Rattle.cad_worlds.specs.Standing.{register_of}
use Rattle.cad_worlds.proofs.Sections.{accounts_turn, accounts_end}
use Rattle.cad_worlds.proofs.writing.push_section.Goals as goal

pub loop-i-preserved : goal.loop-i-preserved
loop-i-preserved c =
    let all = map register_of c.args.rows.now.items ++ of_accounts (of_section c.args.section) 1 (map account_of c.args.accounts.now) in
    rw add-one (accounts_turn (of_section c.args.section) c.args.accounts.now c.loop-i.i (c.loop-i.i + 1) c.index-accounts-i.result (map register_of c.loop-i.rows.items) (map register_of c.push_account.new.rows.items) all c.loop-i-test.true c.index-accounts-i.is (omega arith) c.loop-i.invariant c.in_ok-push_account.ensures)

pub returns : goal.returns
returns c =
    let all = map register_of c.args.rows.now.items ++ of_accounts (of_section c.args.section) 1 (map account_of c.args.accounts.now) in
    accounts_end (of_section c.args.section) c.args.accounts.now c.loop-i.i (map register_of c.loop-i.rows.items) all (omega arith) c.loop-i.invariant
