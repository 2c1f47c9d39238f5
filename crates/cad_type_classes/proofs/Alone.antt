-- Types that are of a class or not whatever is declared.
use Rattle.std.proofs.Common.{◌≡◌, ◌&&◌, Bool, true, false, List, refl}
use Rattle.cad_syntax.specs.Types.{PureType, basic, optional, array, dictionary, intersection, declared, reference, capability, capability_of}
use Rattle.cad_syntax.specs.declared.type_id.TypeId.{TypeId}
use Rattle.cad_types.specs.Declarations.{Declaration}
use Rattle.cad_typing.specs.Types.{failing, has_importable_fields, has_exportable_fields, is_storable_but, is_importable_but, is_carried_but, is_exportable}
use Rattle.cad_type_classes.specs.Classes.{has_no_declared_part, is_exportable_beside}

both : (a b : Bool) → (a && b) ≡ true → (a ≡ true) × (b ≡ true)
both true true e = (refl, refl)
both true false e = cc
both false b e = cc

pub storable_alone : (ids others : List TypeId) (t : PureType) → has_no_declared_part t ≡ true → is_storable_but ids t ≡ is_storable_but others t
storable_alone ids others (basic b) e = refl
storable_alone ids others (optional t) e = storable_alone ids others t e
storable_alone ids others (array t) e = storable_alone ids others t e
storable_alone ids others (dictionary key value) e =
    let parts = both (has_no_declared_part key) (has_no_declared_part value) e in
    rw (storable_alone ids others key parts.0) (rw (storable_alone ids others value parts.1) refl)
storable_alone ids others (intersection i) e = refl
storable_alone ids others (declared id) e = cc
storable_alone ids others (reference a t) e = refl
storable_alone ids others capability e = refl
storable_alone ids others (capability_of t) e = refl

pub importable_alone : (d : List Declaration) (ids others : List TypeId) (t : PureType) → has_no_declared_part t ≡ true → is_importable_but d ids t ≡ is_importable_but d others t
importable_alone d ids others (basic b) e = refl
importable_alone d ids others (optional t) e = importable_alone d ids others t e
importable_alone d ids others (array t) e = importable_alone d ids others t e
importable_alone d ids others (dictionary key value) e =
    let parts = both (has_no_declared_part key) (has_no_declared_part value) e in
    rw (importable_alone d ids others key parts.0) (rw (importable_alone d ids others value parts.1) refl)
importable_alone d ids others (intersection i) e = refl
importable_alone d ids others (declared id) e = cc
importable_alone d ids others (reference a t) e = refl
importable_alone d ids others capability e = refl
importable_alone d ids others (capability_of t) e = refl

carried_alone : (d : List Declaration) (ids others : List TypeId) (t : PureType) → has_no_declared_part t ≡ true → is_carried_but d ids t ≡ is_carried_but d others t
carried_alone d ids others (basic b) e = refl
carried_alone d ids others (optional t) e = refl
carried_alone d ids others (array t) e = refl
carried_alone d ids others (dictionary key value) e = refl
carried_alone d ids others (intersection i) e = refl
carried_alone d ids others (declared id) e = cc
carried_alone d ids others (reference a t) e = refl
carried_alone d ids others capability e = refl
carried_alone d ids others (capability_of t) e = refl

pub exportable_alone : (d : List Declaration) (nots ids : List TypeId) (t : PureType) → has_no_declared_part t ≡ true → is_exportable_beside d nots ids t ≡ is_exportable d t
exportable_alone d nots ids t e =
    rw (importable_alone d nots (failing (has_importable_fields d) d) t e) (rw (carried_alone d ids (failing (has_exportable_fields d) d) t e) refl)
