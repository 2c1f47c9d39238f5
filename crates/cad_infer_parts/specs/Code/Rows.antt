-- Results of the parts that were inferred, before those of the parts that follow.
use Rattle.std.specs.Prelude.{Option, Some, None, List, [], ◌∷◌, ◌++◌}
use Rattle.cad_syntax.specs.Types.{PureType}
use Rattle.cad_grammar.specs.Trees as s
use Rattle.cad_declarations.specs.Typed.{TargetedTerm, Arguments, arguments}
use Rattle.cad_typing.specs.Befores.{behind}
use Rattle.cad_typing.specs.Calls.{Takes}
use Rattle.cad_typing.specs.Containers.{element, argument, expected_argument}
use Rattle.cad_typing.specs.Environments.{Environment, ordinary, Typing, ◌>=>◌}
use Rattle.cad_typing.specs.Expressions.{infer}

abbrev pub before_rest : {A : Type 0} → List A → Option (List A) → Option (List A)
before_rest done None = None
before_rest done (Some rest) = Some (done ++ rest)

abbrev pub in_front : List TargetedTerm → Arguments → Arguments
in_front [] rest = rest
in_front (x ∷ xs) rest = arguments x.value x.target (in_front xs rest)

abbrev pub before_arguments : List TargetedTerm → Option Arguments → Option Arguments
before_arguments done None = None
before_arguments done (Some rest) = Some (in_front done rest)

-- an element, which fits the type, if one is given
abbrev pub element_typed : Environment → Option PureType → s.ExprTree → Option Typing
element_typed env expected a = infer env ordinary expected a >=> element env expected a

-- a key and its value
abbrev pub entry_typed : Environment → Option PureType → Option PureType → s.EntryTree → Option (Typing × Typing)
entry_typed env key value p = element_typed env key p.key >=> (λ x.
    infer (behind p.key env) ordinary value p.value >=> element env value p.value >=> (λ y. Some (x, y)))

abbrev pub behind_entry : s.EntryTree → Environment → Environment
behind_entry p env = behind p.value (behind p.key env)

-- an argument for what a parameter takes
abbrev pub argument_typed : Environment → Takes → s.ExprTree → Option TargetedTerm
argument_typed env takes a = infer env ordinary (expected_argument takes) a >=> argument env takes a
