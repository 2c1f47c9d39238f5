-- Arguments: the same while the units last.
use Rattle.std.specs.Prelude.{ℕ, List, [], ◌∷◌, option_and_then}
use Rattle.cad_syntax.specs.Types.{PureType}
use Rattle.cad_syntax.specs.declared.address.Domain.{Domain}
use Rattle.cad_syntax.specs.declared.text.Name.{Name}
use Rattle.cad_world.specs.Rows.{Row, Tree}
use Rattle.cad_world.specs.State.{Action}
use Rattle.cad_evaluation.specs.Arguments.{argument, with_argument, with_arguments, with_type_argument, identifier_in, with_identifier}
use Rattle.cad_bounds.proofs.Same.{Runs, Same, same_stuck, same_some}

pub same_with_argument : (R : Runs) (x1 : Row) (x2 x2' : Tree → Action Tree) → ((y0 : Tree) → Same R (x2 y0) (x2' y0)) → Same R (with_argument x1 x2) (with_argument x1 x2')
same_with_argument R r f f' h_f = same_some R (argument 0 r) _ _ h_f

pub same_with_arguments : (R : Runs) (x1 : Row) (x2 x2' : Tree → Tree → Action Tree) → ((y0 : Tree) (y1 : Tree) → Same R (x2 y0 y1) (x2' y0 y1)) → Same R (with_arguments x1 x2) (with_arguments x1 x2')
same_with_arguments R r f f' h_f = same_some R (argument 0 r) _ _ (λ a. (same_some R (argument 1 r) _ _ (λ b. (h_f a b))))

pub same_with_type_argument : (R : Runs) (x1 : List PureType) (x2 x2' : PureType → Action Tree) → ((y0 : PureType) → Same R (x2 y0) (x2' y0)) → Same R (with_type_argument x1 x2) (with_type_argument x1 x2')
same_with_type_argument R (type ∷ []) f f' h_f = h_f type
same_with_type_argument R _ f f' h_f = same_stuck R

pub same_with_identifier : (R : Runs) (x1 : Domain) (x2 : ℕ) (x3 : Row) (x4 x4' : Name → Action Tree) → ((y0 : Name) → Same R (x4 y0) (x4' y0)) → Same R (with_identifier x1 x2 x3 x4) (with_identifier x1 x2 x3 x4')
same_with_identifier R domain i r f f' h_f = same_some R (option_and_then (identifier_in domain) (argument i r)) _ _ h_f
