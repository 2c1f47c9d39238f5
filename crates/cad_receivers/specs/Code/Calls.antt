-- The steps in which it is found out whether a function may be called.
use Rattle.std.specs.Prelude.{◌&&◌, Option}
use Rattle.cad_syntax.specs.declared.text.Name.{Name}
use Rattle.cad_syntax.specs.declared.type_id.TypeId.{TypeId}
use Rattle.cad_syntax.specs.declared.types.Authorization.{Authorization}
use Rattle.cad_declarations.specs.Tables.{MemberEntry}
use Rattle.cad_world.specs.State.{Action, done, guard, with_some}
use Rattle.cad_evaluation.specs.Access.{member_of, serves}
use Rattle.cad_evaluation.specs.Uses.{is_function}

-- a member, where it is a function that is served
abbrev pub callable_if_served : Option Authorization → TypeId → MemberEntry → Action (Unit {0})
callable_if_served rights id m = λ s. guard (is_function m.form && serves s id m rights) done s

-- a member of a composite of this type
abbrev pub callable_in_composite : Option Authorization → Name → TypeId → Action (Unit {0})
callable_in_composite rights name id = λ s. with_some (member_of s name id) (λ m. guard (is_function m.form && serves s id m rights) done) s
