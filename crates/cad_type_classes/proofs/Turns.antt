-- Turns that find nothing more.
use Rattle.std.proofs.Common.{◌≡◌, ◌∙◌, ℕ, zero, suc, List, refl, ap}
use Rattle.cad_syntax.specs.declared.type_id.TypeId.{TypeId}
use Rattle.cad_typing.specs.Types.{turns}

pub turns_stay : (turn : List TypeId → List TypeId) (n : ℕ) (ids : List TypeId) → turn ids ≡ ids → turns n turn ids ≡ ids
turns_stay turn zero ids same = refl
turns_stay turn (suc n) ids same = ap (turns n turn) same ∙ turns_stay turn n ids same
