use Rattle.std.proofs.Common.{map, refl}
use Rattle.cad_state.specs.Views.{contract_of}
use Rattle.cad_store.specs.Stores.{held}
use Rattle.cad_serve_parts.proofs.PartLaws.{as_many, same_listed, taken_as, taken_leads}
use Rattle.cad_serve_parts.proofs.parts.changes_from.Goals as goal

pub take_programs-requires : goal.take_programs-requires
take_programs-requires c =
    let all = c.args.after.now.contracts.items in
    let others = c.as_slice-contracts.result.now in
    as_many all others (same_listed c.are_same.result c.as_slice.result.now all others others c.are_same.ensures c.as_slice.ensures.value refl c.if-not-are_same.false)

pub returns : goal.returns
returns c =
    let before = c.args.before.now in
    let after = c.args.after.now in
    let all = after.contracts.items in
    let others = before.contracts.items in
    let listed = c.as_slice-contracts.result.now in
    let contracts = c.take_programs.new.contracts in
    let same = same_listed c.are_same.result c.as_slice.result.now all listed others c.are_same.ensures c.as_slice.ensures.value c.as_slice-contracts.ensures.value c.if-not-are_same.false in
    let taken = taken_as (map contract_of contracts.items) (map contract_of all) listed others c.as_slice-contracts.ensures.value c.in_ok-take_programs.ensures in
    taken_leads (held c.args.store.now) before after contracts c.in_ok-changes.changes same taken c.in_ok-changes.ensures
