-- The text of a rejection.
use Rattle.std.specs.Prelude.{ℕ, List, [], ◌∷◌, ◌++◌, codes, Option, Some, None}
use Rattle.std.specs.Fmt.{decimal}
use Rattle.json.specs.Print.{quoted}
use Rattle.cad_declarations.specs.declared.stop.Rejected.{Rejected}
use Rattle.cad_grammar.specs.declared.phase.Phase.{Phase}
use Rattle.cad_grammar.specs.declared.phase.Phase.TheVariants as phase
use Rattle.cad_syntax.specs.declared.text.Name.{Name}

-- the name of a phase
abbrev pub phase_name : Phase → List ℕ
phase_name phase.Lex = codes "lex"
phase_name phase.Parse = codes "parse"
phase_name phase.Resolve = codes "resolve"
phase_name phase.Types = codes "types"
phase_name phase.Conformance = codes "conformance"
phase_name phase.Moves = codes "moves"
phase_name phase.Purity = codes "purity"
phase_name phase.Initialisation = codes "initialisation"

-- names, each with `.` before it
abbrev pub dotted : List Name → List ℕ
dotted [] = []
dotted (name ∷ names) = 46 ∷ (name.0 ++ dotted names)

-- names with `.` between them
abbrev pub joined : List Name → List ℕ
joined [] = []
joined (name ∷ names) = name.0 ++ dotted names

-- which contract is at fault, where one of several is
abbrev pub contract_field : Option ℕ → List ℕ
contract_field None = []
contract_field (Some number) = codes ",\"contract\":" ++ decimal number

-- the object that tells of a rejection
abbrev pub rejected_text : Option ℕ → Rejected → List ℕ
rejected_text contract r = codes "{\"at\":\"" ++ decimal r.at ++ codes "\"" ++ contract_field contract ++ codes ",\"in\":" ++ quoted (joined r.inside)
    ++ codes ",\"phase\":\"" ++ phase_name r.phase ++ codes "\",\"reply\":\"rejected\"}"
