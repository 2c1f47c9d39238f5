use Rattle.std.proofs.Common.{◌≡◌, drop, map}
use Rattle.std.specs.Prelude.{option_copied}
use Rattle.cad_grammar.specs.Views.{decl_of}
use Rattle.cad_declarations.specs.Views.{bodies_of}
use Rattle.cad_pieces.specs.Code.Walk as spec
use Rattle.cad_pieces.specs.Views.{pieces_of}
use Rattle.cad_pieces.proofs.gather.declarations.Given as goal

abbrev pub invariant-loop-one : goal.invariant-loop-one
invariant-loop-one l =
    spec.declarations (option_copied l.contract) (map decl_of (drop l.one-index l.declared)) (spec.program_walk (bodies_of l.all) (pieces_of l.left.items))
    ≡ spec.declarations (option_copied l.contract) (map decl_of l.declared) (spec.program_walk (bodies_of l.fn.bodies) (pieces_of l.initial.left.items))
