-- What the program's values are to the definitions.
use Rattle.std.specs.Prelude.{ℕ, Option, Some, None, Result, Ok, Err, map}
use Rattle.std.specs.declared.vec.Vec.{Vec}
use Rattle.std.specs.declared.alloc.Global.{Global}
use Rattle.cad_syntax.specs.Types.{pure_type}
use Rattle.cad_grammar.specs.Trees as t
use Rattle.cad_grammar.specs.Views.{stmt_of}
use Rattle.cad_grammar.specs.declared.statement.Stmt.{Stmt}
use Rattle.cad_environment.specs.Views.{environment_of}
use Rattle.cad_typing.specs.Statements as s
use Rattle.cad_statement_parts.specs.declared.typing.Surroundings.{Surroundings}

abbrev pub surroundings_of : Surroundings → s.Surroundings
surroundings_of x = record {
  env = environment_of x.env;
  result = pure_type x.result.now;
  may_break = x.may_break;
  may_continue = x.may_continue;
}

-- the statements of `default`
abbrev pub default_in : Option (Vec Stmt Global) → t.Default
default_in None = t.no_default
default_in (Some all) = t.default (t.stmts_of (map stmt_of all.items))

-- ---- answers

-- what is typed, or the number of the first that is ill-typed
abbrev pub judged : {A B : Type 0} → (A → B) → Result A ℕ → Result B ℕ
judged view (Ok x) = Ok (view x)
judged view (Err n) = Err n

-- the same beside the number behind it
abbrev pub judged_at : {A B : Type 0} → (A → B) → Result (A × ℕ) ℕ → Result (B × ℕ) ℕ
judged_at view (Ok x) = Ok (view x.0, x.1)
judged_at view (Err n) = Err n
