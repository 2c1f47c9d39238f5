-- The front end by which contracts are added.
use Rattle.std.specs.Prelude.{ℕ, List, Option, Some, None}
use Rattle.cad_syntax.specs.declared.address.Address.{Address}
use Rattle.cad_world.specs.State.{Contract, Program, Action, fail}

-- what is said of a code
pub data Verdict : Type 0 where
  accepted : Program → Verdict
  refused : Verdict
  -- nothing is said of it
  unknown : Verdict

-- what is said of a code at an address beside these contracts
abbrev pub Front : Type 0
Front = List Contract → Address → List ℕ → Verdict

-- the program that a code is, or that it is none
abbrev pub said : Option Program → Verdict
said (Some p) = accepted p
said None = refused

-- a code that is refused fails by the number; one of which nothing is said by 0, which is no error's
abbrev pub judged : {A : Type 0} → ℕ → Verdict → (Program → Action A) → Action A
judged e (accepted p) f = f p
judged e refused f = fail e
judged e unknown f = fail 0
