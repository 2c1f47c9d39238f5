-- The fields of a request.
use Rattle.std.specs.Prelude.{ℕ, List, Option, option_and_then}
use Rattle.serde_json.specs.Data.{Data}
use Rattle.serde_json.specs.Find.{get, as_str}

-- the text that a field holds
abbrev pub text_at : List ℕ → Data → Option (List ℕ)
text_at field request = option_and_then as_str (get field request)
