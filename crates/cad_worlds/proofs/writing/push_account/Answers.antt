use Rattle.std.proofs.Common.{map, ap, sym}
use Rattle.cad_state.specs.Views.{account_of}
use Rattle.cad_world.specs.Registers.{next_register, stored_registers, published_registers, controller_registers}
use Rattle.cad_worlds.proofs.Sections.{grown}
use Rattle.cad_worlds.specs.Sections.{of_section}
use Rattle.cad_worlds.specs.declared.writing.Section.{Section}
use Rattle.cad_worlds.specs.Standing.{coding, register_of}
use Rattle.cad_worlds.proofs.writing.push_account.Goals as goal

pub returns-in-Next : goal.returns-in-Next
returns-in-Next c =
    let account = account_of c.args.account.now in
    grown c.push_next.result (map register_of c.push_next.new.rows.items) (map register_of c.args.rows.now.items) (next_register c.args.address account) (of_section c.args.section c.args.address account)
    (sym (ap (λ (s : Section). of_section s c.args.address account) c.in-Next.is)) c.push_next.ensures

pub returns-in-Stored : goal.returns-in-Stored
returns-in-Stored c =
    let account = account_of c.args.account.now in
    grown c.push_stored.result (map register_of c.push_stored.new.rows.items) (map register_of c.args.rows.now.items) (stored_registers coding c.args.address account) (of_section c.args.section c.args.address account)
    (sym (ap (λ (s : Section). of_section s c.args.address account) c.in-Stored.is)) c.push_stored.ensures

pub returns-in-Published : goal.returns-in-Published
returns-in-Published c =
    let account = account_of c.args.account.now in
    grown c.push_publications.result (map register_of c.push_publications.new.rows.items) (map register_of c.args.rows.now.items) (published_registers coding c.args.address account) (of_section c.args.section c.args.address account)
    (sym (ap (λ (s : Section). of_section s c.args.address account) c.in-Published.is)) c.push_publications.ensures

pub returns-in-Controllers : goal.returns-in-Controllers
returns-in-Controllers c =
    let account = account_of c.args.account.now in
    grown c.push_controlled.result (map register_of c.push_controlled.new.rows.items) (map register_of c.args.rows.now.items) (controller_registers coding c.args.address account) (of_section c.args.section c.args.address account)
    (sym (ap (λ (s : Section). of_section s c.args.address account) c.in-Controllers.is)) c.push_controlled.ensures
