use Rattle.std.proofs.Common.{rules, ◌≡◌, ◌∙◌, ◌+◌, ◌∷◌, ◌++◌, [], refl, ap, drop, map, reverse}
use Rattle.cad_grammar.specs.Views.{composite_member_of}
use Rattle.cad_declarations.specs.Points.{composite_member_points, composite_members_points, composite_member_name}
use Rattle.cad_scopes.specs.Views.{scope_of}
use Rattle.cad_stop_points.proofs.Lists.{reversed_one}
use Rattle.cad_stop_points.proofs.Turns.{stops_here, goes_past}
use Rattle.cad_stop_points.proofs.composite_points.composite_members_stop.Goals as goal

pub returns-in-Some : goal.returns-in-Some
returns-in-Some c =
    stops_here (scope_of c.args.scope) (λ xs. composite_members_points (scope_of c.args.scope) c.args.kind c.args.names.now (reverse c.loop-member.before) (map composite_member_of xs))
    c.args.members.now c.loop-member.member-index c.member-item.result
    (composite_member_points (scope_of c.args.scope) c.args.kind c.args.names.now (reverse c.loop-member.before) (composite_member_of c.member-item.result))
    (composite_members_points (scope_of c.args.scope) c.args.kind c.args.names.now (composite_member_name (composite_member_of c.member-item.result) ∷ reverse c.loop-member.before) (map composite_member_of (drop (c.loop-member.member-index + 1) c.args.members.now)))
    c.in_ok-stop.field-0 _ c.in-Some.stop (search rules) c.member-item.is refl (search rules) c.in-Some.is c.loop-member.invariant

pub loop-member-preserved : goal.loop-member-preserved
loop-member-preserved c =
    let pushed : c.push.new.self ≡ c.loop-member.before ++ composite_member_name (composite_member_of c.member-item.result) ∷ [] = search rules in
    let more : reverse c.push.new.self ≡ composite_member_name (composite_member_of c.member-item.result) ∷ reverse c.loop-member.before = ap reverse pushed ∙ reversed_one c.loop-member.before (composite_member_name (composite_member_of c.member-item.result)) in
    goes_past (scope_of c.args.scope) (λ xs. composite_members_points (scope_of c.args.scope) c.args.kind c.args.names.now (reverse c.loop-member.before) (map composite_member_of xs))
    c.args.members.now c.loop-member.member-index c.member-item.result
    (composite_member_points (scope_of c.args.scope) c.args.kind c.args.names.now (reverse c.loop-member.before) (composite_member_of c.member-item.result))
    (composite_members_points (scope_of c.args.scope) c.args.kind c.args.names.now (composite_member_name (composite_member_of c.member-item.result) ∷ reverse c.loop-member.before) (map composite_member_of (drop (c.loop-member.member-index + 1) c.args.members.now)))
    (composite_members_points (scope_of c.args.scope) c.args.kind c.args.names.now (reverse c.push.new.self) (map composite_member_of (drop (c.loop-member.member-index + 1) c.args.members.now)))
    c.in_ok-stop.field-0 _ (search rules) c.member-item.is refl
    (ap (λ names. composite_members_points (scope_of c.args.scope) c.args.kind c.args.names.now names (map composite_member_of (drop (c.loop-member.member-index + 1) c.args.members.now))) more)
    (search rules) c.in_default.is c.loop-member.invariant
