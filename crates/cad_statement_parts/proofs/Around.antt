-- What is around a block.
use Rattle.std.proofs.Common.{◌≡◌, ◌∙◌, ℕ, ◌+◌, List, length, map, ap, sym}
use Rattle.std.proofs.lemmas.List.{length-map}
use Rattle.cad_environment.specs.Views.{local_of}
use Rattle.cad_environment.specs.declared.local.Local.{Local as Variable_in_scope}
use Rattle.cad_typing.specs.Statements.{Surroundings}
use Rattle.cad_statement_parts.specs.Blocks.{around, inner}

-- what is around a block
pub around_by : (w : Surroundings) (xs : List Variable_in_scope) (n m : ℕ) → n ≡ w.env.in_use + m → m ≡ length xs → inner w (map local_of xs) n ≡ around (map local_of xs) w
around_by w xs n m is counted = ap (inner w (map local_of xs)) (is ∙ ap (λ z. w.env.in_use + z) (counted ∙ sym (length-map xs local_of)))
