-- What an account of a run is: an account of the definition.
use Rattle.std.specs.Prelude.{map}
use Rattle.cad_rows.specs.Views.{pure_row}
use Rattle.cad_state.specs.declared.state.Account.{Account}
use Rattle.cad_state.specs.declared.state.Controller.{Controller}
use Rattle.cad_state.specs.declared.state.Publication.{Publication}
use Rattle.cad_syntax.specs.Types.{pure_type}
use Rattle.cad_world.specs.State as s

abbrev pub publication_of : Publication → s.Publication
publication_of x = record { identifier = x.identifier; number = x.number; lent = pure_type x.lent }

abbrev pub controller_of : Controller → s.Controller
controller_of x = record { number = x.number; borrow = pure_type x.borrow; tag = x.tag; target = x.target }

abbrev pub account_of : Account → s.Account
account_of x = record {
  identifiers = x.identifiers.items;
  stored = pure_row x.stored.items;
  published = map publication_of x.published.items;
  controllers = map controller_of x.controllers.items;
  next_controller = x.next_controller;
}
