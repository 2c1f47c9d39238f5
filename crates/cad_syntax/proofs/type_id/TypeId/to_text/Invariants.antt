use Rattle.std.proofs.Common.{◌≡◌, ◌++◌, take}
use Rattle.std.specs.Prelude.{codes}
use Rattle.std.specs.List.{flat_map}
use Rattle.cad_syntax.specs.Addresses.{hex_digits}
use Rattle.cad_syntax.specs.TypeIds.{dotted}
use Rattle.cad_syntax.proofs.type_id.TypeId.to_text.Given as goal

abbrev pub invariant-loop-name : goal.invariant-loop-name
invariant-loop-name l =
    l.text ≡ codes "A." ++ hex_digits 16 l.self.address.0 ++ flat_map dotted (take l.name-index l.name-items)
