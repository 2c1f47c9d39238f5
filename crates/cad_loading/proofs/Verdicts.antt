-- What the verdict on a code says of its source, and what the programs of all say of all.
use Rattle.std.specs.Prelude.{ℕ, Bool, true, false, Option, Some, None, Result, Ok, Err, List, [], ◌∷◌, map, option_map, IfOk}
use Rattle.std.specs.Option.{is_some}
use Rattle.std.proofs.Common.{◌≡◌, ◌∙◌, refl, ap, sym, subst}
use Rattle.std.proofs.lemmas.Bool.{false≢true}
use Rattle.cad_syntax.specs.declared.text.Name.{Name}
use Rattle.cad_syntax.specs.declared.type_id.TypeId.{TypeId}
use Rattle.cad_syntax.proofs.Same.{ids_tell}
use Rattle.cad_acceptance.specs.Acceptance.{CheckedProgram, AcceptsText, checked_of}
use Rattle.cad_acceptance.specs.Stops.{FirstStop}
use Rattle.cad_check.specs.Answers.{TextVerdict}
use Rattle.cad_check.specs.Laws.{AcceptedTextsHaveNoStop, OneAcceptance}
use Rattle.cad_contracts.specs.Views.{entry_of}
use Rattle.cad_declarations.specs.Imports.{ContractEntry, contract_id, contract_entry, deployed_contract, is_deployed}
use Rattle.cad_declarations.specs.Views.{tables_of}
use Rattle.cad_declarations.specs.declared.program.Checked.{Checked}
use Rattle.cad_declarations.specs.declared.program.Installed.{Installed}
use Rattle.cad_declarations.specs.declared.stop.Rejected.{Rejected}
use Rattle.cad_loads.specs.Loads.{Source, Loaded, Accepted, Stands, loaded_as, program_in}
use Rattle.cad_loading.specs.Answers.{Loading}
use Rattle.cad_loading.specs.Slots.{Standing, is_id, is_fit, if_fit}
use Rattle.cad_state.specs.Views.{program_of}
use Rattle.cad_world.specs.State.{Program}

-- ---- identifiers

-- the identifier of a contract is its address and its name
named_so : (id : TypeId) (n : Name) → id.names ≡ n ∷ [] → contract_id id.address.0 n ≡ id
named_so id n is = ap (λ (names : List Name). record { address = id.address; names = names }) (sym is)

pub entry_named : (id : TypeId) (name copy : Name) (x y : Checked) → id.names ≡ name ∷ [] → copy ≡ name → y ≡ x
    → contract_entry (contract_id id.address.0 copy) (tables_of y.tables) ≡ contract_entry id (tables_of x.tables)
entry_named id name copy x y is same shared =
    ap (λ (n : Name). contract_entry (contract_id id.address.0 n) (tables_of y.tables)) same
    ∙ (ap (λ (z : Checked). contract_entry (contract_id id.address.0 name) (tables_of z.tables)) shared
    ∙ ap (λ (i : TypeId). contract_entry i (tables_of x.tables)) (named_so id name is))

some_map : {A B : Type 0} (f : A → B) (o : Option A) → is_some o ≡ is_some (option_map f o)
some_map f None = refl
some_map f (Some a) = refl

pub taken_named : {A : Type 0} (view : A → ContractEntry) (xs ys : List Installed) (id : TypeId) (name : Name) (address : ℕ) (o : Option A) (r : Bool) → id.names ≡ name ∷ []
    → xs ≡ ys → address ≡ id.address.0 → option_map view o ≡ deployed_contract (map entry_of xs) (contract_id address name) → r ≡ is_some o → r ≡ is_deployed (map entry_of ys) id
taken_named view xs ys id name address o r is same there told e =
    e ∙ (some_map view o ∙ (ap is_some told
    ∙ (ap (λ (all : List Installed). is_deployed (map entry_of all) (contract_id address name)) same
    ∙ (ap (λ (n : ℕ). is_deployed (map entry_of ys) (contract_id n name)) there ∙ ap (is_deployed (map entry_of ys)) (named_so id name is)))))

-- ---- programs that fit

id_told : (o : Option TypeId) (id : TypeId) → is_id o id ≡ true → o ≡ Some id
id_told None id h = absurd (false≢true h)
id_told (Some own) id h = ap Some ((ids_tell own id).0 h)

fit_of : (d : List ContractEntry) (c : Loaded) → Stands d c → is_fit c.id c.program ≡ true
fit_of d c s =
    ap (λ (o : Option TypeId). is_id o c.id) s.is_contract ∙ (ids_tell c.id c.id).1 refl

fit_stands : (d : List ContractEntry) (c : Loaded) → Accepted d c.id.address c.code c.program → is_fit c.id c.program ≡ true → Stands d c
fit_stands d c a h = record { accepted = a; is_contract = id_told c.program.tables.contract c.id h }

standing : OneAcceptance → (d : List ContractEntry) (s : Source) (x : CheckedProgram) → AcceptsText d (Some s.id.address) s.code x
    → Standing d s (if_fit (is_fit s.id (program_in x)) (program_in x))
standing acceptance d s x a = by_test (is_fit s.id (program_in x)) refl
  where
    by_test : (q : Bool) → is_fit s.id (program_in x) ≡ q → Standing d s (if_fit q (program_in x))
    by_test true h = fit_stands d (loaded_as s (program_in x)) (record { checked = x; accepts = a; is_program = refl }) h
    by_test false h = λ p t.
        let same : p ≡ program_in x = t.accepted.is_program ∙ ap program_in (acceptance d (Some s.id.address) s.code t.accepted.checked x t.accepted.accepts a) in
        false≢true (sym h ∙ (ap (is_fit s.id) (sym same) ∙ fit_of d (loaded_as s p) t))

-- ---- verdicts

pub accepted_told : OneAcceptance → (d : List ContractEntry) (s : Source) (text : List ℕ) (v : Result Checked Rejected) (x : Checked) (o : Option Program)
    → text ≡ s.code → v ≡ Ok x → TextVerdict d (Some s.id.address) text v → o ≡ if_fit (is_fit s.id (program_of x)) (program_of x) → Standing d s o
accepted_told acceptance d s text v x o is told verdict fit =
    subst (Standing d s) (sym fit)
    (standing acceptance d s (checked_of x)
    (subst (λ (t : List ℕ). AcceptsText d (Some s.id.address) t (checked_of x)) is
    (subst (λ (q : Result Checked Rejected). TextVerdict d (Some s.id.address) text q) told verdict)))

pub refused_told : AcceptedTextsHaveNoStop → (d : List ContractEntry) (s : Source) (text : List ℕ) (v : Result Checked Rejected) (r : Rejected)
    → text ≡ s.code → v ≡ Err r → TextVerdict d (Some s.id.address) text v → Standing d s None
refused_told no_stop d s text v r is told verdict p t =
    no_stop d (Some s.id.address) s.code t.accepted.checked r t.accepted.accepts
    (subst (λ (q : List ℕ). FirstStop d (Some s.id.address) q r) is
    (subst (λ (q : Result Checked Rejected). TextVerdict d (Some s.id.address) text q) told verdict))

-- ---- all sources

pub loading_told : {E X : Type 0} (sources : List Source) (view : X → List Program) (g : Option (List Program)) (r : Result (Option X) E) → Loading sources g
    → IfOk r (λ o. option_map view o ≡ g) → IfOk r (λ o. Loading sources (option_map view o))
loading_told sources view g (Ok o) h k = subst (Loading sources) (sym k) h
loading_told sources view g (Err e) h k = k
