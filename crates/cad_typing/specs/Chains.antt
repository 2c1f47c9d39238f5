-- `a?.n` and its calls, and contents of optionals as places.
use Rattle.std.specs.Prelude.{Bool, ◌&&◌, if◌then◌else◌, true, false, not, Option, Some}
use Rattle.cad_syntax.specs.Types.{PureType, reference}
use Rattle.cad_syntax.specs.declared.text.Name.{Name}
use Rattle.cad_grammar.specs.Trees as s
use Rattle.cad_types.specs.Declarations.{resource}
use Rattle.cad_declarations.specs.Formed.{is_reference}
use Rattle.cad_declarations.specs.Typed as e
use Rattle.cad_typing.specs.Calls.{Call, Invocation, of_chain, invoke}
use Rattle.cad_typing.specs.Environments.{Environment, Typing, kinds, typed, when, ◌>=>◌}
use Rattle.cad_typing.specs.Fields.{Found, declared_member, built_in_member, Reading, found_member, read_found, read_member, is_owned}
use Rattle.cad_types.specs.Optionals.{core}
use Rattle.cad_typing.specs.Receivers.{Receiver, Base, value, chained, receiver_in, receiver_at, closed, held, owned}
use Rattle.cad_typing.specs.Types.{content, is_optional_type, optional_once}

-- the content of an optional: what it names where it is a reference, else a part of the optional
abbrev pub content_at : Receiver → Bool → PureType → Receiver
content_at r forces (reference grant t) = record { hidden = r.hidden; place = e.content r.place forces; type = t; grant = Some grant }
content_at r forces t = owned r.hidden (e.content r.place forces) t

-- the receiver is an optional
abbrev pub content_of : Receiver → Option Receiver
content_of r = when (is_owned r.grant) (content r.type >=> (λ t. Some (content_at r false t)))

-- what a chain gives is a content itself, where it isn't an optional
abbrev pub content_in : Base → Option Receiver
content_in (chained r wrapped) = if wrapped then Some r else content_of r
content_in b = receiver_in b >=> content_of

-- what `.n` gives, wrapped where it isn't an optional
abbrev pub chain_read : Environment → Receiver → Reading → Option Typing
chain_read env r x = when (not (resource (kinds env) x.type))
    (typed (closed r.hidden (e.chain r.place x.usage (not (is_optional_type x.type)))) (optional_once x.type))

abbrev pub chain_value : Environment → Name → Base → Option Typing
chain_value env name b = content_in b >=> (λ r. read_member env r name >=> chain_read env r)

-- a field of the content stays where it is, unless it is a reference; anything else is a value of its own
abbrev pub chain_found : Environment → Receiver → Name → Found → Reading → Option Base
chain_found env r name (built_in_member b) x = chain_read env r x >=> held env
chain_found env r name (declared_member m) x =
    if is_owned r.grant && not (is_reference (core x.type)) then Some (chained (owned r.hidden (e.field r.place r.type name) x.type) (not (is_optional_type x.type)))
    else chain_read env r x >=> held env

abbrev pub chain_at : Environment → Name → Receiver → Option Base
chain_at env name r = found_member env r.type name >=> (λ f. read_found env r f >=> chain_found env r name f)

abbrev pub base_of_chain : Environment → Name → Base → Option Base
base_of_chain env name b = content_in b >=> chain_at env name

abbrev pub call_chained : Receiver → Invocation → Call
call_chained r i = record {
  hidden = r.hidden;
  callee = of_chain r.place i.method (not (is_optional_type i.result));
  parameters = i.parameters;
  count = i.count;
  result = optional_once i.result;
}

abbrev pub chain_call : Environment → s.Annotations → Name → Base → Option Call
chain_call env types name b = content_in b >=> (λ r. invoke env types name r >=> (λ i. Some (call_chained r i)))

-- ---- `a!` as a place

-- the content of an optional that isn't a resource stays where it is
abbrev pub forced_at : Receiver → PureType → Base
forced_at r t = value (receiver_at r.hidden (e.content r.place true) (e.copy (e.content r.place true)) t)

abbrev pub forced_base : Environment → Receiver → Option Base
forced_base env r = when (is_owned r.grant) (content r.type >=> (λ t. when (not (resource (kinds env) t)) (Some (forced_at r t))))
