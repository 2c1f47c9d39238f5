use Rattle.std.proofs.Common.{rules, ◌≡◌, ◌∙◌, ◌+◌, ◌∷◌, ◌++◌, [], refl, ap, drop, map, reverse}
use Rattle.std.specs.Prelude.{◌&&◌, not, option_map}
use Rattle.cad_grammar.specs.Views.{decl_of}
use Rattle.cad_declarations.specs.Build.{declaration_points, all_declaration_points, declaration_name, is_contract}
use Rattle.cad_contracts.specs.Views.{own_of}
use Rattle.cad_scopes.specs.Views.{scope_of}
use Rattle.cad_stop_points.proofs.Lists.{reversed_one}
use Rattle.cad_stop_points.proofs.Turns.{stops_here, goes_past}
use Rattle.cad_tables.proofs.program_points.each_declaration_stop.Goals as goal

pub returns-in-Some : goal.returns-in-Some
returns-in-Some c =
    stops_here (scope_of c.args.scope) (λ xs. all_declaration_points (scope_of c.args.scope) c.args.links.now c.args.is_placed (option_map own_of c.args.own.now) c.loop-declaration.is_first (reverse c.loop-declaration.before) (map decl_of xs))
    c.args.declarations.now c.loop-declaration.declaration-index c.declaration-item.result
    (declaration_points (scope_of c.args.scope) c.args.links.now c.args.is_placed (option_map own_of c.args.own.now) c.loop-declaration.is_first (reverse c.loop-declaration.before) (decl_of c.declaration-item.result))
    (all_declaration_points (scope_of c.args.scope) c.args.links.now c.args.is_placed (option_map own_of c.args.own.now) (c.loop-declaration.is_first && not (is_contract (decl_of c.declaration-item.result))) (declaration_name (decl_of c.declaration-item.result) ∷ reverse c.loop-declaration.before) (map decl_of (drop (c.loop-declaration.declaration-index + 1) c.args.declarations.now)))
    c.in_ok-stop.field-0 _ c.in-Some.stop (search rules) c.declaration-item.is refl (search rules) c.in-Some.is c.loop-declaration.invariant

pub loop-declaration-preserved : goal.loop-declaration-preserved
loop-declaration-preserved c =
    let pushed : c.push.new.self ≡ c.loop-declaration.before ++ declaration_name (decl_of c.declaration-item.result) ∷ [] = search rules in
    let more : reverse c.push.new.self ≡ declaration_name (decl_of c.declaration-item.result) ∷ reverse c.loop-declaration.before = ap reverse pushed ∙ reversed_one c.loop-declaration.before (declaration_name (decl_of c.declaration-item.result)) in
    goes_past (scope_of c.args.scope) (λ xs. all_declaration_points (scope_of c.args.scope) c.args.links.now c.args.is_placed (option_map own_of c.args.own.now) c.loop-declaration.is_first (reverse c.loop-declaration.before) (map decl_of xs))
    c.args.declarations.now c.loop-declaration.declaration-index c.declaration-item.result
    (declaration_points (scope_of c.args.scope) c.args.links.now c.args.is_placed (option_map own_of c.args.own.now) c.loop-declaration.is_first (reverse c.loop-declaration.before) (decl_of c.declaration-item.result))
    (all_declaration_points (scope_of c.args.scope) c.args.links.now c.args.is_placed (option_map own_of c.args.own.now) (c.loop-declaration.is_first && not (is_contract (decl_of c.declaration-item.result))) (declaration_name (decl_of c.declaration-item.result) ∷ reverse c.loop-declaration.before) (map decl_of (drop (c.loop-declaration.declaration-index + 1) c.args.declarations.now)))
    (all_declaration_points (scope_of c.args.scope) c.args.links.now c.args.is_placed (option_map own_of c.args.own.now) c.stays_first-is_first.result (reverse c.push.new.self) (map decl_of (drop (c.loop-declaration.declaration-index + 1) c.args.declarations.now)))
    c.in_ok-stop.field-0 _ (search rules) c.declaration-item.is refl
    (ap (λ names. all_declaration_points (scope_of c.args.scope) c.args.links.now c.args.is_placed (option_map own_of c.args.own.now) c.stays_first-is_first.result names (map decl_of (drop (c.loop-declaration.declaration-index + 1) c.args.declarations.now))) more ∙ ap (λ first. all_declaration_points (scope_of c.args.scope) c.args.links.now c.args.is_placed (option_map own_of c.args.own.now) first (declaration_name (decl_of c.declaration-item.result) ∷ reverse c.loop-declaration.before) (map decl_of (drop (c.loop-declaration.declaration-index + 1) c.args.declarations.now))) c.stays_first-is_first.ensures)
    (search rules) c.in_default.is c.loop-declaration.invariant
