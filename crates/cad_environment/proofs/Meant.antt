-- What is built in under a name is no declaration.
use Rattle.std.proofs.Common.{◌≡◌, Bool, true, false, Option, Some, None, [], ◌∷◌, refl, codes, option_map, if◌then◌else◌}
use Rattle.std.specs.Option.{option_or}
use Rattle.cad_syntax.specs.declared.text.Name.{Name}
use Rattle.cad_syntax.specs.declared.types.Basic.{Basic}
use Rattle.cad_declarations.specs.Names.{basic_type, is_spelled, is_entitlement_name, built_in_as}
use Rattle.cad_declarations.specs.Scopes.{Meaning, basic_meaning, capability_meaning, entitlement_meaning, mapping_meaning, built_in_meaning, one_built_in}
use Rattle.cad_typing.specs.Names.{head_of}

no_head : (b : Option Basic) (c e i : Bool) (name : Name) → head_of (option_or (option_map basic_meaning b) (if c then Some capability_meaning
    else (if e then Some (entitlement_meaning (built_in_as name))
    else (if i then Some (mapping_meaning (built_in_as name)) else None)))) ≡ None
no_head (Some b) c e i name = refl
no_head None true e i name = refl
no_head None false true i name = refl
no_head None false false true name = refl
no_head None false false false name = refl

pub built_in_has_no_head : (name : Name) → head_of (built_in_meaning (name ∷ [])) ≡ None
built_in_has_no_head name = no_head (basic_type (name ∷ [])) (is_spelled (codes "Capability") name) (is_entitlement_name name) (is_spelled (codes "Identity") name) name
