use Rattle.std.proofs.Common.{rules, ◌≡◌, ◌∙◌, ◌+◌, ◌∷◌, ◌++◌, [], refl, ap, drop, map, reverse}
use Rattle.cad_grammar.specs.Views.{contract_member_of}
use Rattle.cad_declarations.specs.Points.{contract_member_points, contract_members_points, contract_member_name}
use Rattle.cad_scopes.specs.Views.{scope_of}
use Rattle.cad_stop_points.proofs.Lists.{reversed_one}
use Rattle.cad_stop_points.proofs.Turns.{stops_here, goes_past}
use Rattle.cad_tables.proofs.contract_points.contract_members_stop.Goals as goal

pub returns-in-Some : goal.returns-in-Some
returns-in-Some c =
    stops_here (scope_of c.args.scope) (λ xs. contract_members_points (scope_of c.args.scope) c.args.links.now c.args.id.now (reverse c.loop-member.before) (map contract_member_of xs))
    c.args.members.now c.loop-member.member-index c.member-item.result
    (contract_member_points (scope_of c.args.scope) c.args.links.now c.args.id.now (reverse c.loop-member.before) (contract_member_of c.member-item.result))
    (contract_members_points (scope_of c.args.scope) c.args.links.now c.args.id.now (contract_member_name (contract_member_of c.member-item.result) ∷ reverse c.loop-member.before) (map contract_member_of (drop (c.loop-member.member-index + 1) c.args.members.now)))
    c.in_ok-stop.field-0 _ c.in-Some.stop (search rules) c.member-item.is refl (search rules) c.in-Some.is c.loop-member.invariant

pub loop-member-preserved : goal.loop-member-preserved
loop-member-preserved c =
    let pushed : c.push.new.self ≡ c.loop-member.before ++ contract_member_name (contract_member_of c.member-item.result) ∷ [] = search rules in
    let more : reverse c.push.new.self ≡ contract_member_name (contract_member_of c.member-item.result) ∷ reverse c.loop-member.before = ap reverse pushed ∙ reversed_one c.loop-member.before (contract_member_name (contract_member_of c.member-item.result)) in
    goes_past (scope_of c.args.scope) (λ xs. contract_members_points (scope_of c.args.scope) c.args.links.now c.args.id.now (reverse c.loop-member.before) (map contract_member_of xs))
    c.args.members.now c.loop-member.member-index c.member-item.result
    (contract_member_points (scope_of c.args.scope) c.args.links.now c.args.id.now (reverse c.loop-member.before) (contract_member_of c.member-item.result))
    (contract_members_points (scope_of c.args.scope) c.args.links.now c.args.id.now (contract_member_name (contract_member_of c.member-item.result) ∷ reverse c.loop-member.before) (map contract_member_of (drop (c.loop-member.member-index + 1) c.args.members.now)))
    (contract_members_points (scope_of c.args.scope) c.args.links.now c.args.id.now (reverse c.push.new.self) (map contract_member_of (drop (c.loop-member.member-index + 1) c.args.members.now)))
    c.in_ok-stop.field-0 _ (search rules) c.member-item.is refl
    (ap (λ names. contract_members_points (scope_of c.args.scope) c.args.links.now c.args.id.now names (map contract_member_of (drop (c.loop-member.member-index + 1) c.args.members.now))) more)
    (search rules) c.in_default.is c.loop-member.invariant
