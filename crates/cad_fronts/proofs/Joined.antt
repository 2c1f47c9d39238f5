-- Two front ends that are right never say different things of a code.
use Rattle.std.specs.Prelude.{ℕ, Some, List}
use Rattle.std.proofs.Common.{◌≡◌, ◌∙◌, refl, ap, sym, subst}
use Rattle.cad_syntax.specs.declared.address.Address.{Address}
use Rattle.cad_acceptance.specs.Stops.{FirstStop}
use Rattle.cad_bounds.specs.Fronts.{Agree}
use Rattle.cad_bounds.specs.Laws.{JoinsExtendTheFirst, JoinsExtendTheSecond}
use Rattle.cad_loading.specs.Passed.{AcceptedTextsHaveNoStop, OneAcceptance}
use Rattle.cad_declarations.specs.declared.stop.Rejected.{Rejected}
use Rattle.cad_fronts.specs.Laws.{OneVerdict}
use Rattle.cad_loading.specs.Laws.{OneLoading}
use Rattle.cad_loads.specs.Fronts.{IsRight, Beside}
use Rattle.cad_loads.specs.Loads.{Loaded, Accepted, program_in, entries_of}
use Rattle.cad_world.specs.Fronts.{Front, Verdict, accepted, refused, unknown}
use Rattle.cad_world.specs.State.{Program, Contract}

module _ (loading : OneLoading) (acceptance : OneAcceptance) (no_stop : AcceptedTextsHaveNoStop) (contracts : List Contract) (address : Address) (code : List ℕ) where
  abbrev As : Program → Type 0
  As p = Beside contracts (λ deployed. Accepted deployed address code p)

  abbrev Refused : Type 0
  Refused = Beside contracts (λ deployed. (r : Rejected) × FirstStop deployed (Some address) code r)

  one_program : (p q : Program) → As p → As q → p ≡ q
  one_program p q a b =
      let same : a.loaded ≡ b.loaded = loading a.loaded b.loaded a.loads b.loads (a.sources ∙ sym b.sources) in
      let other = subst (λ (all : List Loaded). Accepted (entries_of all) address code q) (sym same) b.holds in
      a.holds.is_program ∙ (ap program_in (acceptance (entries_of a.loaded) (Some address) code a.holds.checked other.checked a.holds.accepts other.accepts) ∙ sym other.is_program)

  not_both : (p : Program) → As p → Refused → ⊥
  not_both p a b =
      let same : b.loaded ≡ a.loaded = loading b.loaded a.loaded b.loads a.loads (b.sources ∙ sym a.sources) in
      no_stop (entries_of a.loaded) (Some address) code a.holds.checked b.holds.0 a.holds.accepts
      (subst (λ (all : List Loaded). FirstStop (entries_of all) (Some address) code b.holds.0) same b.holds.1)

  -- of what is said
  one_said : (v w : Verdict) → ((p : Program) → v ≡ accepted p → As p) → (v ≡ refused → Refused) → ((p : Program) → w ≡ accepted p → As p) → (w ≡ refused → Refused)
      → (v ≡ unknown → ⊥) → (w ≡ unknown → ⊥) → v ≡ w
  one_said unknown w va vr wa wr v? w? = absurd (v? refl)
  one_said (accepted p) unknown va vr wa wr v? w? = absurd (w? refl)
  one_said refused unknown va vr wa wr v? w? = absurd (w? refl)
  one_said (accepted p) (accepted q) va vr wa wr v? w? = ap accepted (one_program p q (va p refl) (wa q refl))
  one_said (accepted p) refused va vr wa wr v? w? = absurd (not_both p (va p refl) (wr refl))
  one_said refused (accepted q) va vr wa wr v? w? = absurd (not_both q (wa q refl) (vr refl))
  one_said refused refused va vr wa wr v? w? = refl

agree : OneLoading → OneAcceptance → AcceptedTextsHaveNoStop → (f g : Front) → IsRight f → IsRight g → Agree f g
agree loading acceptance no_stop f g a b contracts address code says tells =
    one_said loading acceptance no_stop contracts address code (f contracts address code) (g contracts address code)
    (a.accepts contracts address code) (a.refuses contracts address code) (b.accepts contracts address code) (b.refuses contracts address code) says tells

pub one_verdict : OneLoading → OneAcceptance → AcceptedTextsHaveNoStop → JoinsExtendTheFirst → JoinsExtendTheSecond → OneVerdict
one_verdict loading acceptance no_stop first second f g a b = (first f g, second f g (agree loading acceptance no_stop f g a b))
