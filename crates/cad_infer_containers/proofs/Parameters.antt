-- The parameter for an argument, however many arguments there are.
use Rattle.std.proofs.Common.{◌≡◌, List, [], ◌∷◌, Option, Some, None, refl}
use Rattle.cad_syntax.specs.declared.text.Name.{Name}
use Rattle.cad_typing.specs.Calls.{Parameter, Count, exactly, last_optional, more_follow}
use Rattle.cad_typing.specs.Containers.{has_label, next_parameter}
use Rattle.cad_typing.specs.Environments.{when}

pub next_is : (count : Count) (p : Parameter) (ps : List Parameter) (label : Option Name)
    → when (has_label p.label label) (Some (record { takes = p.takes; others = ps })) ≡ next_parameter count (p ∷ ps) label
next_is exactly p ps label = refl
next_is last_optional p ps label = refl
next_is more_follow p ps label = refl

-- behind all parameters no label is asked for
pub no_label : (count : Count) (label : Option Name) → next_parameter count [] None ≡ next_parameter count [] label
no_label exactly label = refl
no_label last_optional label = refl
no_label more_follow label = refl
