-- Actions that carry out what is left, once a part of them was told.
use Rattle.std.proofs.Common.{Bor, ◌≡◌, ℕ, Bool, true, false, Option, Some, None, option_map, List, refl, sym, ap, ◌∙◌, subst}
use Rattle.std.proofs.lemmas.Bool.{false≢true}
use Rattle.std.proofs.lemmas.Option.{none-some, same_Some}
use Rattle.std.specs.Option.{is_some}
use Rattle.std.specs.Prelude.{Result}
use Rattle.cad_capabilities.specs.Code.{issued_numbered, unpublished_now}
use Rattle.cad_evaluation.specs.Capabilities.{Capability, ControllerId, capability_of, controller_in_value, controller_reference, found_controller, issued, on_controller, unpublished}
use Rattle.cad_evaluation.specs.Numbers.{bool_tree, truth_of}
use Rattle.cad_evaluation.specs.Texts.{in_tree}
use Rattle.cad_outcomes.proofs.Steps.{does_same, gives_here}
use Rattle.cad_outcomes.specs.Outcomes.{Does, Gives}
use Rattle.cad_outcomes.specs.declared.stop.Stop.{Stop}
use Rattle.cad_rows.specs.Views.{pure_tree}
use Rattle.cad_rows.specs.declared.tree.Tree.{Tree as Code}
use Rattle.cad_state.specs.Views.{controller_of, state_over, IsReady, CarriesOut, FindsAndCarriesOut}
use Rattle.cad_state.specs.declared.state.Controller.{Controller as Led}
use Rattle.cad_state.specs.declared.state.RunState.{RunState}
use Rattle.cad_syntax.specs.Types.{PureType}
use Rattle.cad_syntax.specs.declared.address.Address.{Address}
use Rattle.cad_syntax.specs.declared.text.Name.{Name}
use Rattle.cad_world.specs.OwnTypes.{controller_at}
use Rattle.cad_world.specs.Receivers.{Spot}
use Rattle.cad_world.specs.Rows.{Tree}
use Rattle.cad_world.specs.State.{State, Account, Controller, Publication, Outcome, ok, failed, limit, ill, bind, Action, give, or_fail, with_some}
use Rattle.cad_world.specs.Trees.{nil_tree, wrapped}

-- what comes to the same in the state before
pub carries_same : {A B : Type 0} (view : B → A) (p q : Action A) (x y : RunState) (r : Result B Stop)
    → ((w : List Account) → p (state_over w x) ≡ q (state_over w x)) → CarriesOut view q x y r → CarriesOut view p x y r
carries_same view p q x y r e h = λ w. does_same view p q (state_over w x) (state_over w y) r (e w) (h w)

-- with what is there
pub carries_with : {A B C : Type 0} (view : B → A) (f : C → Action A) (o : Option C) (a : C) (x y : RunState) (r : Result B Stop)
    → Some a ≡ o → CarriesOut view (f a) x y r → CarriesOut view (with_some o f) x y r
carries_with view f o a x y r e h = λ w. subst (λ (o : _). Does view (with_some o f) (state_over w x) (state_over w y) r) e (h w)

pub finds_with : {A B C : Type 0} (view : B → A) (f : C → Action A) (o : Option C) (a : C) (x y : RunState) (r : Result B Stop)
    → Some a ≡ o → FindsAndCarriesOut view (f a) x y r → FindsAndCarriesOut view (with_some o f) x y r
finds_with view f o a x y r e h = λ w ready. subst (λ (o : _). Does view (with_some o f) (state_over w x) (state_over w y) r) e (h w ready)

-- a value and a state, each as it is told
pub ok_so : {A : Type 0} (a b : A) (s t : State) → b ≡ a → t ≡ s → ok a s ≡ ok b t
ok_so a b s t e f = ap (λ x. ok x s) (sym e) ∙ ap (λ u. ok b u) (sym f)

-- ---- what was published

pub unpublished_so : (a : Address) (name : Name) (o : Option Publication) (x : Capability) (s : State) → Some x ≡ option_map (capability_of a) o → unpublished a name o s ≡ unpublished_now a name x s
unpublished_so a name None x s e = absurd (none-some x (sym e))
unpublished_so a name (Some p) x s e = ap (λ y. unpublished_now a name y s) (sym (same_Some x (capability_of a p) e))

pub unpublished_none : (a : Address) (name : Name) (o : Option Publication) (s : State) → None ≡ option_map (capability_of a) o → unpublished a name o s ≡ ok nil_tree s
unpublished_none a name None s e = refl
unpublished_none a name (Some p) s e = absurd (none-some (capability_of a p) e)

-- ---- what is issued

pub issued_so : (a : Address) (type : PureType) (target : Name) (o : Option Account) (n : ℕ) (s : State) → Some n ≡ option_map (λ x. x.next_controller) o
    → with_some o (issued a type target) s ≡ issued_numbered a type target n s
issued_so a type target None n s e = absurd (none-some n (sym e))
issued_so a type target (Some x) n s e = ap (λ k. issued_numbered a type target k s) (sym (same_Some n x.next_controller e))

pub issued_nowhere : (a : Address) (type : PureType) (target : Name) (o : Option Account) (s : State) → None ≡ option_map (λ x. x.next_controller) o
    → with_some o (issued a type target) s ≡ ill
issued_nowhere a type target None s e = refl
issued_nowhere a type target (Some x) s e = absurd (none-some _ e)

-- ---- at a controller

pub found_there : (a : Address) (n : ℕ) (o : Option Controller) → is_some o ≡ true → found_controller a n o ≡ wrapped (controller_reference a n)
found_there a n None e = absurd (false≢true e)
found_there a n (Some c) e = refl

pub found_nowhere : (a : Address) (n : ℕ) (o : Option Controller) → is_some o ≡ false → found_controller a n o ≡ nil_tree
found_nowhere a n None e = refl
found_nowhere a n (Some c) e = absurd (false≢true (sym e))

-- the spot is a reference to the controller
at_controller : (spot : Spot) (i : ControllerId) (f : ControllerId → Controller → Action Tree) (s : State) → in_tree controller_in_value spot.tree ≡ Some i
    → on_controller spot f s ≡ or_fail 113 (controller_at s i.address.0 i.number) (f i) s
at_controller spot i f s e = ap (λ (o : Option ControllerId). with_some o (λ j u. or_fail 113 (controller_at u j.address.0 j.number) (f j) u) s) e

there_so : (o : Option Controller) (p : Action Tree) (s : State) → is_some o ≡ true → or_fail 113 o (λ c. p) s ≡ p s
there_so None p s e = absurd (false≢true e)
there_so (Some c) p s e = refl

gone_so : (o : Option Controller) (f : Controller → Action Tree) (s : State) → is_some o ≡ false → or_fail 113 o f s ≡ failed 113
gone_so None f s e = refl
gone_so (Some c) f s e = absurd (false≢true (sym e))

-- the controller that is lent is the account's
pub lent_there : (o : Option (Bor Led)) (led : Bor Led) (x : RunState) (a n : ℕ) → o ≡ Some led
    → ((w : List Account) → option_map (λ (l : Bor Led). controller_of l.now) o ≡ controller_at (state_over w x) a n)
    → (w : List Account) → Some (controller_of led.now) ≡ controller_at (state_over w x) a n
lent_there o led x a n is told w = sym (ap (λ (p : Option (Bor Led)). option_map (λ (l : Bor Led). controller_of l.now) p) is) ∙ told w

pub lent_nowhere : (o : Option (Bor Led)) (x : RunState) (a n : ℕ) → o ≡ None
    → ((w : List Account) → option_map (λ (l : Bor Led). controller_of l.now) o ≡ controller_at (state_over w x) a n)
    → (w : List Account) → None ≡ controller_at (state_over w x) a n
lent_nowhere o x a n is told w = sym (ap (λ (p : Option (Bor Led)). option_map (λ (l : Bor Led). controller_of l.now) p) is) ∙ told w

-- what is read of the controller
pub controller_read : (spot : Spot) (i : ControllerId) (f : ControllerId → Controller → Action Tree) (c : Controller) (x : RunState) (r : Result Code Stop)
    → in_tree controller_in_value spot.tree ≡ Some i → ((w : List Account) → Some c ≡ controller_at (state_over w x) i.address.0 i.number)
    → Gives pure_tree (f i c) r → CarriesOut pure_tree (on_controller spot f) x x r
controller_read spot i f c x r e told h = λ w.
    let s = state_over w x in
    does_same pure_tree (on_controller spot f) (f i c) s s r (at_controller spot i f s e ∙ ap (λ (o : Option Controller). or_fail 113 o (f i) s) (sym (told w))) (gives_here pure_tree (f i c) r s h)

pub controller_lost : (spot : Spot) (i : ControllerId) (f : ControllerId → Controller → Action Tree) (x : RunState)
    → in_tree controller_in_value spot.tree ≡ Some i → ((w : List Account) → None ≡ controller_at (state_over w x) i.address.0 i.number)
    → (w : List Account) → on_controller spot f (state_over w x) ≡ failed 113
controller_lost spot i f x e told w = at_controller spot i f (state_over w x) e ∙ ap (λ (o : Option Controller). or_fail 113 o (f i) (state_over w x)) (sym (told w))

-- what is done to the controller
pub controller_changed : (spot : Spot) (i : ControllerId) (g : ControllerId → Action Tree) (x y : RunState) (r : Result Code Stop)
    → in_tree controller_in_value spot.tree ≡ Some i → ((w : List Account) → is_some (controller_at (state_over w x) i.address.0 i.number) ≡ true)
    → CarriesOut pure_tree (g i) x y r → CarriesOut pure_tree (on_controller spot (λ j c. g j)) x y r
controller_changed spot i g x y r e there h =
    carries_same pure_tree (on_controller spot (λ j c. g j)) (g i) x y r (λ w. at_controller spot i (λ j c. g j) (state_over w x) e ∙ there_so (controller_at (state_over w x) i.address.0 i.number) (g i) (state_over w x) (there w)) h

pub controller_missing : (spot : Spot) (i : ControllerId) (g : ControllerId → Action Tree) (x : RunState)
    → in_tree controller_in_value spot.tree ≡ Some i → ((w : List Account) → is_some (controller_at (state_over w x) i.address.0 i.number) ≡ false)
    → (w : List Account) → on_controller spot (λ j c. g j) (state_over w x) ≡ failed 113
controller_missing spot i g x e gone w =
    at_controller spot i (λ j c. g j) (state_over w x) e ∙ gone_so (controller_at (state_over w x) i.address.0 i.number) (λ c. g i) (state_over w x) (gone w)

-- ---- what storage tells

-- the truth comes back that was told
pub told_back : (o : Outcome Bool) → bind (bind o (λ x. give (bool_tree x))) (λ t. with_some (truth_of t) give) ≡ o
told_back (ok x s) = refl
told_back (failed e) = refl
told_back limit = refl
told_back ill = refl
