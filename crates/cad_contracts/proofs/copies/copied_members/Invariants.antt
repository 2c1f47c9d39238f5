use Rattle.std.proofs.Common.{◌≡◌, ◌++◌, map, drop}
use Rattle.cad_declarations.specs.Views.{member_of}
use Rattle.cad_contracts.proofs.copies.copied_members.Given as goal

abbrev pub invariant-loop-m : goal.invariant-loop-m
invariant-loop-m l =
    map member_of l.copies.items ++ map member_of (drop l.m-index l.all) ≡ map member_of l.all
