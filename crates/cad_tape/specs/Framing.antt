-- The bytes of a tape as the bodies of its records.
use Rattle.std.specs.Prelude.{◌≡◌, ◌≢◌, ℕ, zero, suc, ◌==◌, List, [], ◌∷◌, ◌++◌, length, take, drop, Option, Some, None, nat_lt, if◌then◌else◌}
use Rattle.cad_wire.specs.Fields.{◌>>=◌, number_field, number_at}

-- a body behind its length, and the bytes after it
unfoldable pub body_at : List ℕ → Option (List ℕ × List ℕ)
body_at bytes = do
  n ← number_at bytes
  if nat_lt (length n.1) n.0 then None else Some (take n.0 n.1, drop n.0 n.1)

-- A record is the gate 1, the length of its body and the body. The first other gate ends the records. None where a record
-- isn't whole, or where no gate ends them. The first number bounds the records.
unfoldable pub bodies_in : ℕ → List ℕ → Option (List (List ℕ))
bodies_in zero bytes = None
bodies_in (suc n) [] = None
bodies_in (suc n) (gate ∷ rest) = if gate == 1 then (body_at rest >>= λ b. bodies_in n b.1 >>= λ bodies. Some (b.0 ∷ bodies)) else Some []

-- the bodies of a tape's records: none on an empty tape
unfoldable pub framing : List ℕ → Option (List (List ℕ))
framing [] = Some []
framing (gate ∷ rest) = bodies_in (suc (length rest)) (gate ∷ rest)

-- records with these bodies
abbrev pub spelled : List (List ℕ) → List ℕ
spelled [] = []
spelled (body ∷ bodies) = 1 ∷ (number_field (length body) ++ (body ++ spelled bodies))

-- what a record has behind its gate, and the next gate, closed
abbrev pub framed : List ℕ → List ℕ
framed body = number_field (length body) ++ (body ++ 0 ∷ [])

-- these records, then a gate that is closed, and anything
pub record Ends (bytes : List ℕ) (bodies : List (List ℕ)) (at : ℕ) : Type 0 where
  pub gate : ℕ
  pub rest : List ℕ
  pub closed : gate ≢ 1
  pub is : bytes ≡ spelled bodies ++ gate ∷ rest
  pub place : at ≡ length (spelled bodies)
