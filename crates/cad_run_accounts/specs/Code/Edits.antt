-- What is done to controllers, and where a publication comes in their order.
use Rattle.std.specs.Prelude.{ℕ, suc, not, ◌==◌, List, [], ◌∷◌, filter, if◌then◌else◌}
use Rattle.cad_syntax.specs.declared.text.Name.{Name}
use Rattle.cad_world.specs.Orders.{name_before}
use Rattle.cad_world.specs.State.{Controller, Publication}
use Rattle.cad_run_accounts.specs.declared.controllers.Edit.{Edit}
use Rattle.cad_run_accounts.specs.declared.controllers.Edit.TheVariants as e

abbrev pub edited : Edit → Controller → Controller
edited (e.Tag tag) c = record c { tag = tag.now }
edited (e.Target target) c = record c { target = target.now }

abbrev pub without_number : ℕ → List Controller → List Controller
without_number n all = filter (λ c. not (c.number == n)) all

-- how many publications stand before the first whose identifier comes behind this one
abbrev pub place_before : Name → List Publication → ℕ
place_before name [] = 0
place_before name (p ∷ ps) = if name_before name p.identifier then 0 else suc (place_before name ps)
