use Rattle.std.proofs.Common.{◌++◌, map, add-one, arith}
use Rattle.cad_worlds.proofs.Sections.{item_turn, item_end}
use Rattle.cad_worlds.specs.Sections.{published_of}
use Rattle.cad_worlds.specs.Standing.{register_of}
use Rattle.cad_worlds.proofs.writing.push_published.Goals as goal

pub loop-publication-preserved : goal.loop-publication-preserved
loop-publication-preserved c =
    let all = map register_of c.args.rows.now.items ++ map (published_of c.args.address) c.args.published.now in
    rw add-one (item_turn (published_of c.args.address) c.args.published.now c.loop-publication.publication-index c.publication-item.result (map register_of c.loop-publication.rows.items) (map register_of c.push_publication.new.rows.items) all (omega arith) c.publication-item.is c.loop-publication.invariant c.in_ok-push_publication.ensures)

pub returns : goal.returns
returns c =
    let all = map register_of c.args.rows.now.items ++ map (published_of c.args.address) c.args.published.now in
    item_end (published_of c.args.address) c.args.published.now c.loop-publication.publication-index (map register_of c.loop-publication.rows.items) all (omega arith) c.loop-publication.invariant
