-- Types that name no declared type.
use Rattle.std.proofs.Common.{◌≡◌, ◌≤◌, length, true, false, List, [], ◌∷◌, refl, sym, subst, arith}
use Rattle.cad_syntax.specs.Types.{PureType}
use Rattle.cad_types.proofs.Decision.{itself}
use Rattle.cad_types.specs.Below.{below}
use Rattle.cad_types.specs.Declarations.{Declaration, is_declared}
use Rattle.std.specs.List.{list_all}
use Rattle.cad_syntax.specs.declared.type_id.TypeId.{TypeId}

pub below_same : (k : List Declaration) (own wanted : PureType) → own ≡ wanted → true ≡ below k own wanted
below_same k own wanted e = sym (subst (λ (t : PureType). below k own t ≡ true) e (itself k own))

-- nothing is declared among none
pub none_declared : (ids : List TypeId) → 1 ≤ length ids → false ≡ list_all (is_declared []) ids
none_declared [] h = absurd (omega (arith, h))
none_declared (id ∷ ids) h = refl
