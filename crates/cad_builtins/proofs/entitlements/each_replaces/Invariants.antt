use Rattle.std.proofs.Common.{◌≡◌, drop, map}
use Rattle.std.specs.List.{list_all}
use Rattle.cad_auth.specs.Grants.{single}
use Rattle.cad_declarations.specs.Builtins.{replaces_elements}
use Rattle.cad_builtins.proofs.entitlements.each_replaces.Given as goal

abbrev pub invariant-loop-one : goal.invariant-loop-one
invariant-loop-one l =
    list_all replaces_elements (map single (drop l.one-index l.all)) ≡ list_all replaces_elements (map single l.all)
