-- What is in scope in a function and where its parts stand, as the definitions have it.
use Rattle.std.specs.Prelude.{option_map, map}
use Rattle.cad_syntax.specs.Types.{pure_type}
use Rattle.cad_environment.specs.Views.{environment_of, local_of}
use Rattle.cad_heads.specs.Views.{routine_of}
use Rattle.cad_statements.specs.Views.{surroundings_of}
use Rattle.cad_routines.specs.Code.Parts as parts
use Rattle.cad_routines.specs.declared.function.Setting.{Setting}

abbrev pub setting_of : Setting → parts.Setting
setting_of x = record {
  routine = routine_of x.routine.now;
  locals = map local_of x.locals.now;
  result = pure_type x.result.now;
  result_local = option_map local_of x.result_local.now;
  before = environment_of x.before;
  after = environment_of x.after;
  surroundings = surroundings_of x.surroundings;
}
