-- Front ends of which one says what the other says, and two that are joined.
use Rattle.std.specs.Prelude.{◌≡◌, ◌≢◌, ℕ, List}
use Rattle.cad_syntax.specs.declared.address.Address.{Address}
use Rattle.cad_world.specs.Fronts.{Front, Verdict, accepted, refused, unknown}
use Rattle.cad_world.specs.State.{Contract}

-- the second says what the first says, and maybe more
abbrev pub Extends : Front → Front → Type 0
Extends f g = (contracts : List Contract) (address : Address) (code : List ℕ) → f contracts address code ≢ unknown
    → g contracts address code ≡ f contracts address code

-- they say the same of a code of which both say something
abbrev pub Agree : Front → Front → Type 0
Agree f g = (contracts : List Contract) (address : Address) (code : List ℕ) → f contracts address code ≢ unknown → g contracts address code ≢ unknown
    → f contracts address code ≡ g contracts address code

abbrev pub or_else : Verdict → Verdict → Verdict
or_else (accepted p) other = accepted p
or_else refused other = refused
or_else unknown other = other

-- what the first says, where it says something, else what the second says
abbrev pub join : Front → Front → Front
join f g contracts address code = or_else (f contracts address code) (g contracts address code)
