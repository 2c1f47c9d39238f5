-- What single functions of the code do: parts of the actions of cad_evaluation/specs/Capabilities.
use Rattle.std.specs.Option.{is_some}
use Rattle.std.specs.Prelude.{ℕ, nat_lt, Bool, Option, ◌||◌, List, option_and_then}
use Rattle.cad_evaluation.specs.Arguments.{argument, with_identifier}
use Rattle.cad_evaluation.specs.Capabilities as c
use Rattle.cad_evaluation.specs.Capabilities.{Capability, ControllerId}
use Rattle.cad_evaluation.specs.Containers.{void_tree}
use Rattle.cad_evaluation.specs.Numbers.{bool_tree, truth_of}
use Rattle.cad_evaluation.specs.Storage.{check, is_stored_as, stored_reference}
use Rattle.cad_evaluation.specs.Texts.{text_in}
use Rattle.cad_syntax.specs.Types.{PureType}
use Rattle.cad_syntax.specs.declared.address.Address.{Address}
use Rattle.cad_syntax.specs.declared.address.Domain.TheVariants as d
use Rattle.cad_syntax.specs.declared.text.Name.{Name}
use Rattle.cad_syntax.specs.declared.types.Authorization.{Authorization}
use Rattle.cad_types.specs.Below.{below}
use Rattle.cad_types.specs.Declarations.{Declaration}
use Rattle.cad_values.specs.Values as v
use Rattle.cad_world.specs.Labels.{account_at, stored_slot, with_account}
use Rattle.cad_world.specs.OwnTypes.{controller_at}
use Rattle.cad_world.specs.Rows.{Row, Tree}
use Rattle.cad_world.specs.State.{Publication, Controller, Action, ok, ◌>>=◌, give, require, with_some}
use Rattle.cad_world.specs.Trees.{of_plain, wrapped}

-- ---- what is published

abbrev pub publication_for : Capability → Name → Publication
publication_for x name = record { identifier = name; number = x.number; lent = x.lent }

abbrev pub published_now : Address → Capability → Name → Action Tree
published_now a x name = λ s. ok void_tree (with_account a.0 (c.publishing (publication_for x name)) s)

abbrev pub published_argument : Row → Address → Action Tree
published_argument r a = with_some (option_and_then c.capability_in (argument 0 r)) (λ x. with_identifier d.Public 1 r (λ name. require 117 (c.is_own a x) (c.publish_free a x name)))

abbrev pub unpublished_now : Address → Name → Capability → Action Tree
unpublished_now a name x = λ s. ok (wrapped (c.capability_tree x)) (with_account a.0 (c.unpublishing name) s)

abbrev pub unpublished_under : Address → Name → Action Tree
unpublished_under a name = λ s. c.unpublished a name (c.published_at s a name) s

-- ---- what is got

abbrev pub exists_under : Address → Name → Action Tree
exists_under a name = λ s. give (bool_tree (is_some (c.published_at s a name))) s

abbrev pub is_one_below : List Declaration → PureType → PureType → Bool
is_one_below k t u = below k t u || below k u t

abbrev pub got_under : Address → PureType → Name → Action Tree
got_under a type name = λ s. give (c.capability_tree (c.got s a type name)) s

abbrev pub borrowed_under : Address → PureType → Name → Action Tree
borrowed_under a type name = λ s. c.lend (c.got s a type name) s

-- ---- what is lent

-- a path into storage, as a value
abbrev pub stored_path : Name → Tree
stored_path name = of_plain (v.path (record { domain = d.Storage; identifier = name }))

-- the truth that `check` of storage gives
abbrev pub checked : PureType → Row → Address → Action Bool
checked type r a = check type r a >>= (λ t. with_some (truth_of t) give)

abbrev pub stored_as : PureType → Address → Name → Action Bool
stored_as type a name = λ s. is_stored_as type (stored_slot s a.0 name) s

abbrev pub lent_reference : Address → Name → Authorization → PureType → Action (Option Tree)
lent_reference a name own type = λ s. (is_stored_as type (stored_slot s a.0 name) >>= (λ x. give (c.reference_if x (stored_reference a name own type)))) s

-- ---- what is issued

abbrev pub issued_now : Address → PureType → Name → ℕ → Action Tree
issued_now a type target n = λ s. ok (c.capability_tree (record { address = a; number = n; lent = type })) (with_account a.0 (c.issuing type target) s)

abbrev pub issued_numbered : Address → PureType → Name → ℕ → Action Tree
issued_numbered a type target n = require 135 (nat_lt n c.last_controller) (issued_now a type target n)

abbrev pub issued_to : Address → PureType → Name → Action Tree
issued_to a type target = λ s. with_some (account_at s.accounts a.0) (c.issued a type target) s

-- ---- controllers

abbrev pub tagged : Row → ControllerId → Action Tree
tagged r i = with_some (option_and_then text_in (argument 0 r)) (λ text. c.becomes (λ x. record x { tag = text }) i)

abbrev pub retargeted : Row → ControllerId → Action Tree
retargeted r i = with_identifier d.Storage 0 r (λ name. c.becomes (λ x. record x { target = name }) i)

abbrev pub deleted : ControllerId → Action Tree
deleted i = λ s. ok void_tree (c.without_controller i s)

-- the controller of a number, as a reference or nil
abbrev pub found_under : Address → ℕ → Action Tree
found_under a n = λ s. give (c.found_controller a n (controller_at s a.0 n)) s
