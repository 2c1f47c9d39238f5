-- Fields that may stand under `<-`.
use Rattle.std.proofs.Common.{◌≡◌, refl}
use Rattle.cad_syntax.specs.declared.text.Name.{Name}
use Rattle.cad_grammar.specs.Trees as s
use Rattle.cad_typing.specs.Environments.{Environment}
use Rattle.cad_typing.specs.Operators.{may_be_moved}
use Rattle.cad_typing.specs.Receivers.{is_self}

pub field_of_self : (env : Environment) (a : s.ExprTree) (n : Name) → is_self a ≡ may_be_moved env (s.member a n)
field_of_self env s.self n = refl
field_of_self env _ n = refl
