-- Definite return.
use Rattle.std.specs.Prelude.{◌≡◌, Some}
use Rattle.cad_syntax.specs.Types.{basic}
use Rattle.cad_syntax.specs.declared.types.Basic.TheVariants.{Void}
use Rattle.cad_declarations.specs.Typed as e
use Rattle.cad_paths.specs.declared.letter.BodyPart.TheVariants.{Whole}
use Rattle.cad_paths.specs.Paths.{ComesToEnd}
use Rattle.cad_paths.specs.Letters.{resources}
use Rattle.cad_paths.specs.Bodies.{block_letters}

-- Some path comes to the end of the function's statements, though it has a result. Else the function returns on every path;
-- where it doesn't, the place is its number of statements.
pub record LacksReturn (f : e.FunctionBody) : Type 0 where
  pub has_result : f.result ≡ basic Void → ⊥
  pub block : e.BlockTree
  pub is_body : f.body ≡ Some block
  pub comes : ComesToEnd (block_letters resources Whole block)
