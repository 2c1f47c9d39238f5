-- The own type of a shape, where it is known where it leads.
use Rattle.std.proofs.Common.{◌≡◌, ℕ, zero, suc, Bool, true, false, Option, Some, None, option_map, refl, sym, ap, ◌∙◌}
use Rattle.std.proofs.lemmas.Bool.{false≢true}
use Rattle.std.specs.Option.{is_some}
use Rattle.std.specs.Prelude.{option_and_then, Result, Ok, Err, IfOk, if◌then◌else◌}
use Rattle.std.specs.declared.alloc.AllocError.{AllocError}
use Rattle.cad_syntax.specs.Types.{PureType, reference, optional, pure_type}
use Rattle.cad_syntax.specs.declared.types.CadType.{CadType}
use Rattle.cad_types.specs.Optionals.{optionals}
use Rattle.cad_values.specs.Types.{type_of_value}
use Rattle.cad_values.specs.Values.{PureValue}
use Rattle.cad_values.specs.Values as v
use Rattle.cad_values.specs.declared.value.Target.{Target}
use Rattle.cad_values.specs.declared.value.Target.TheVariants as to
use Rattle.cad_world.specs.Rows.{NodeShape, plain, link, array, dictionary, composite, Row, Tree, Found}
use Rattle.cad_world.specs.State.{State}
use Rattle.cad_world.specs.Labels.{at}
use Rattle.cad_world.specs.OwnTypes.{controller_at, solid_type, plain_type, shape_type, own_type}
use Rattle.cad_access.specs.OwnTypes.{LeadsThere, LeadsTo, leads_nowhere, seen_type, type_of_shape}
use Rattle.cad_access.specs.Shapes.{is_controller, shape_leads}

pub one_optional_more : (n : ℕ) (t : PureType) → optionals n (optional t) ≡ optional (optionals n t)
one_optional_more zero t = refl
one_optional_more (suc n) t = ap optional (one_optional_more n t)

seen_found : (n : ℕ) (f : Option Found) → option_and_then (λ x. option_map (optionals n) (solid_type x.tree.shape)) f ≡ seen_type n (option_map (λ x. x.tree.shape) f)
seen_found n None = refl
seen_found n (Some f) = refl

told_by : (a : PureType) (b c : Bool) → b ≡ c → (if b then Some a else None) ≡ (if c then Some a else None)
told_by a b c e = ap (λ x. if x then Some a else None) e

-- of what leads nowhere there is no type
gone_plain : (s : State) (x : PureValue) → shape_leads is_controller (plain x) ≡ true → LeadsThere s x false → None ≡ plain_type s x
gone_plain s (v.reference a t (to.Controller address n)) e leads = told_by (reference a t) false (is_some (controller_at s address.0 n)) leads
gone_plain s (v.reference a t (to.Node l)) e leads = absurd (false≢true e)
gone_plain s (v.reference a t (to.Stored address n)) e leads = absurd (false≢true e)
gone_plain s (v.reference a t (to.Account address)) e leads = absurd (false≢true e)
gone_plain s v.void e leads = absurd (false≢true e)
gone_plain s v.nil e leads = absurd (false≢true e)
gone_plain s (v.some x) e leads = absurd (false≢true e)
gone_plain s (v.bool b) e leads = absurd (false≢true e)
gone_plain s (v.number n) e leads = absurd (false≢true e)
gone_plain s (v.string text) e leads = absurd (false≢true e)
gone_plain s (v.character text) e leads = absurd (false≢true e)
gone_plain s (v.address a) e leads = absurd (false≢true e)
gone_plain s (v.path p) e leads = absurd (false≢true e)
gone_plain s (v.meta t) e leads = absurd (false≢true e)
gone_plain s (v.capability a n t) e leads = absurd (false≢true e)
gone_plain s (v.array t vs) e leads = absurd (false≢true e)
gone_plain s (v.dictionary k t es) e leads = absurd (false≢true e)
gone_plain s (v.composite id n fs) e leads = absurd (false≢true e)

pub gone : (shape : NodeShape) (o : Option NodeShape) → leads_nowhere shape o ≡ true → (s : State) → LeadsTo s shape o → None ≡ shape_type s shape
gone shape (Some other) e s leads = absurd (false≢true e)
gone (plain x) None e s leads = gone_plain s x e leads
gone (link a l n) None e s leads = absurd (false≢true e)
gone (array t) None e s leads = absurd (false≢true e)
gone (dictionary k t ks) None e s leads = absurd (false≢true e)
gone (composite id i ns) None e s leads = absurd (false≢true e)

plain_told : (s : State) (x : PureValue) (o : Option NodeShape) → leads_nowhere (plain x) o ≡ false → LeadsThere s x (is_some o) → Some (type_of_value x) ≡ plain_type s x
plain_told s (v.reference a t (to.Controller address n)) (Some other) e leads = told_by (reference a t) true (is_some (controller_at s address.0 n)) leads
plain_told s (v.reference a t (to.Controller address n)) None e leads = absurd (false≢true (sym e))
plain_told s (v.reference a t (to.Node l)) o e leads = refl
plain_told s (v.reference a t (to.Stored address n)) o e leads = refl
plain_told s (v.reference a t (to.Account address)) o e leads = refl
plain_told s v.void o e leads = refl
plain_told s v.nil o e leads = refl
plain_told s (v.some x) o e leads = refl
plain_told s (v.bool b) o e leads = refl
plain_told s (v.number n) o e leads = refl
plain_told s (v.string text) o e leads = refl
plain_told s (v.character text) o e leads = refl
plain_told s (v.address a) o e leads = refl
plain_told s (v.path p) o e leads = refl
plain_told s (v.meta t) o e leads = refl
plain_told s (v.capability a n t) o e leads = refl
plain_told s (v.array t vs) o e leads = refl
plain_told s (v.dictionary k t es) o e leads = refl
plain_told s (v.composite id n fs) o e leads = refl

-- where it leads is enough
told : (s : State) (shape : NodeShape) (o : Option NodeShape) → leads_nowhere shape o ≡ false → LeadsTo s shape o → type_of_shape o shape ≡ shape_type s shape
told s (plain x) o e leads = plain_told s x o e leads
told s (link a l n) o e leads = ap (option_map (reference a)) (ap (seen_type n) (sym leads) ∙ sym (seen_found n (at l s)))
told s (array t) o e leads = refl
told s (dictionary k t ks) o e leads = refl
told s (composite id i ns) o e leads = refl

pub told_ok : (shape : NodeShape) (o : Option NodeShape) (r : Result (Option CadType) AllocError) → leads_nowhere shape o ≡ false
    → IfOk r (λ t. option_map pure_type t ≡ type_of_shape o shape) → IfOk r (λ t. (s : State) → LeadsTo s shape o → option_map pure_type t ≡ shape_type s shape)
told_ok shape o (Ok t) e h = λ s leads. h ∙ told s shape o e leads
told_ok shape o (Err x) e h = tt

pub own_ok : (n : ℕ) (shape : NodeShape) (o : Option NodeShape) (solid : Option PureType) (r : Result (Option CadType) AllocError)
    → ((s : State) → LeadsTo s shape o → solid ≡ shape_type s shape)
    → IfOk r (λ t. option_map pure_type t ≡ option_map (optionals n) solid)
    → IfOk r (λ t. (s : State) (parts : Row) → LeadsTo s shape o → option_map pure_type t ≡ own_type s (record { optionals = n; shape = shape; parts = parts }))
own_ok n shape o solid (Ok t) known h = λ s parts leads. h ∙ ap (option_map (optionals n)) (known s leads)
own_ok n shape o solid (Err x) known h = tt
