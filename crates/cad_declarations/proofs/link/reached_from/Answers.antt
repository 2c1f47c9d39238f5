use Rattle.std.proofs.Common.{rules, ◌≡◌, ◌++◌, ◌∷◌, [], reverse}
use Rattle.cad_declarations.specs.Reached.{reached_from}
use Rattle.cad_declarations.specs.Code.Visits.{seen_after, next_after}
use Rattle.cad_declarations.proofs.Visits.{goes_on}
use Rattle.cad_declarations.proofs.link.reached_from.Goals as goal

pub loop-id-preserved : goal.loop-id-preserved
loop-id-preserved c =
    let pop : c.loop-id.ahead.items ≡ c.pop.new.self.items ++ c.in-Some.id ∷ [] = search rules in
    let look : c.look_at.new.seen.items ≡ seen_after c.loop-id.seen.items c.in-Some.id = search rules in
    let push : c.look_at.new.ahead.items ≡ c.pop.new.self.items ++ reverse (next_after c.args.links.now c.loop-id.seen.items c.in-Some.id) = search rules in
    goes_on c.args.links.now c.loop-id.seen.items c.look_at.new.seen.items c.loop-id.ahead.items c.pop.new.self.items c.look_at.new.ahead.items
    (reached_from c.args.links.now c.args.start.now) c.in-Some.id c.loop-id.invariant pop look push
