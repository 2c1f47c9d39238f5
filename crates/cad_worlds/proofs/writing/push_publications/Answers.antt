use Rattle.std.proofs.Common.{map, ap, ◌∙◌}
use Rattle.cad_state.specs.Views.{account_of}
use Rattle.cad_world.specs.Registers.{published_registers}
use Rattle.cad_worlds.proofs.Sections.{grown, all_published}
use Rattle.cad_worlds.specs.Sections.{published_of}
use Rattle.cad_worlds.specs.Standing.{coding, register_of}
use Rattle.cad_worlds.proofs.writing.push_publications.Goals as goal

pub returns : goal.returns
returns c =
    let published = c.as_slice-published in
    grown c.push_published.result (map register_of c.push_published.new.rows.items) (map register_of c.args.rows.now.items) (map (published_of c.args.address) published.result.now) (published_registers coding c.args.address (account_of c.args.account.now))
    (ap (map (published_of c.args.address)) published.ensures.value ∙ all_published c.args.address c.args.account.now.published.items) c.push_published.ensures
