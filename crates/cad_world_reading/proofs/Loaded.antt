-- Contracts that were deployed one after another are known by their codes.
use Rattle.std.proofs.Common.{◌≡◌, List, [], ◌∷◌, map, length, Option, Some, None, Result, Ok, Err, refl, sym, ap, subst, ◌∙◌, arith}
use Rattle.std.specs.Prelude.{IfOk, IfSome, option_map}
use Rattle.std.specs.declared.alloc.Global.{Global}
use Rattle.std.specs.declared.rc.Rc.{Rc}
use Rattle.std.specs.declared.vec.Vec.{Vec}
use Rattle.std.proofs.lemmas.List.{length-map}
use Rattle.cad_accounts.specs.declared.row.Row as row
use Rattle.cad_declarations.specs.declared.program.Checked.{Checked}
use Rattle.cad_loading.specs.Answers.{Loading}
use Rattle.cad_loading.specs.Laws.{OneLoading}
use Rattle.cad_loading.specs.Views as views
use Rattle.cad_loads.specs.Loads.{Loaded, Loads, Source, loaded_by, loaded_of, source_of}
use Rattle.cad_loads.specs.Views as code_views
use Rattle.cad_loads.specs.declared.sources.Source as held
use Rattle.cad_state.specs.Views.{account_of, contract_of}
use Rattle.cad_state.specs.declared.state.Contract as kept
use Rattle.cad_world.specs.Rows.{Row}
use Rattle.cad_world.specs.State.{Contract, Program, World}
use Rattle.cad_worlds.proofs.OneWorld.{world_again}
use Rattle.cad_worlds.specs.Items.{Draft, contracts_from, draft_of, programs_of, world_from}
use Rattle.cad_worlds.specs.Standing.{IsSound, world_of}
use Rattle.cad_worlds.specs.declared.kept.World as own
use Rattle.cad_world_reading.specs.Loading.{program_in}
use Rattle.cad_world_registers.specs.Meaning.{Stands, parts_of, value_row}
use Rattle.cad_world_registers.specs.declared.parts.Parts.{Parts}

-- ---- codes and programs

abbrev loaded_program : Loaded → Program
loaded_program c = c.program

programs_again : (ss : List Source) (ps : List Program) → length ps ≡ length ss → map loaded_program (loaded_by ss ps) ≡ ps
programs_again [] [] e = refl
programs_again [] (p ∷ ps) e = absurd (omega (arith, e))
programs_again (x ∷ ss) [] e = absurd (omega (arith, e))
programs_again (x ∷ ss) (p ∷ ps) e = ap (λ (qs : List Program). p ∷ qs) (programs_again ss ps (omega (arith, e)))

sources_again : (ss : List Source) (ps : List Program) → length ps ≡ length ss → map source_of (loaded_by ss ps) ≡ ss
sources_again [] [] e = refl
sources_again [] (p ∷ ps) e = refl
sources_again (x ∷ ss) [] e = absurd (omega (arith, e))
sources_again (x ∷ ss) (p ∷ ps) e = ap (λ (qs : List Source). x ∷ qs) (sources_again ss ps (omega (arith, e)))

-- of contracts with these programs
loaded_from : (ss : List Source) (ps : List Program) (rs : List Row) → length ps ≡ length ss → length rs ≡ length ss → map loaded_of (contracts_from ss ps rs) ≡ loaded_by ss ps
loaded_from [] ps rs e f = refl
loaded_from (x ∷ ss) [] rs e f = refl
loaded_from (x ∷ ss) (p ∷ ps) [] e f = absurd (omega (arith, f))
loaded_from (x ∷ ss) (p ∷ ps) (r ∷ rs) e f = ap (λ (ls : List Loaded). record { id = x.id; code = x.code; program = p } ∷ ls) (loaded_from ss ps rs (omega (arith, e)) (omega (arith, f)))

own_programs : (cs : List Contract) → map loaded_program (map loaded_of cs) ≡ map (λ (c : Contract). c.program) cs
own_programs [] = refl
own_programs (c ∷ cs) = ap (λ (ps : List Program). c.program ∷ ps) (own_programs cs)

own_sources : (cs : List Contract) → map source_of (map loaded_of cs) ≡ map (λ (c : Contract). source_of (loaded_of c)) cs
own_sources [] = refl
own_sources (c ∷ cs) = ap (λ (ss : List Source). source_of (loaded_of c) ∷ ss) (own_sources cs)

-- what is loaded of the codes of a World is its programs
known : OneLoading → (ss : List Source) (ps : List Program) (v : World) → ss ≡ (draft_of v).sources → length ps ≡ length ss → Loads (loaded_by ss ps) → Loads (map loaded_of v.contracts) → ps ≡ programs_of v
known one ss ps v same count loads deployed =
    let e : loaded_by ss ps ≡ map loaded_of v.contracts = one (loaded_by ss ps) (map loaded_of v.contracts) loads deployed (sources_again ss ps count ∙ same ∙ sym (own_sources v.contracts)) in
    sym (programs_again ss ps count) ∙ ap (map loaded_program) e ∙ own_programs v.contracts

-- ---- the contracts of a World

-- the codes as they were handed to the loading, and the programs that it gave
module _ (sources given : List held.Source) (same : given ≡ sources) (answer : Option (Vec (Rc Checked Global) Global)) (loading : Loading (map code_views.source_of given) (option_map views.programs_of answer)) (programs : Vec (Rc Checked Global) Global) (e : answer ≡ Some programs) where
  loads_all : Loading (map code_views.source_of sources) (Some (views.programs_of programs))
  loads_all = subst (λ (ss : List held.Source). Loading (map code_views.source_of ss) (Some (views.programs_of programs))) same (subst (Loading (map code_views.source_of given)) (ap (option_map views.programs_of) e) loading)

  pub as_many_programs : length programs.items ≡ length sources
  as_many_programs = sym (length-map programs.items program_in) ∙ loads_all.0 ∙ length-map sources code_views.source_of

  -- by its codes and values
  contracts_are : (rows : List Row) (v : World) → OneLoading → map code_views.source_of sources ≡ (draft_of v).sources → rows ≡ (draft_of v).values → IsSound v → contracts_from (map code_views.source_of sources) (views.programs_of programs) rows ≡ v.contracts
  contracts_are rows v one codes values sound =
      let programs_are = known one (map code_views.source_of sources) (views.programs_of programs) v codes loads_all.0 loads_all.1 sound.1 in
      (λ i. contracts_from (codes i) (programs_are i) (values i)) ∙ ap (λ (u : World). u.contracts) (world_again v sound.0)

  pub contracts_known : {E : Type 0} (rows : List Row) (r : Result (Vec kept.Contract Global) E) → OneLoading → IfOk r (λ cs. map contract_of cs.items ≡ contracts_from (map code_views.source_of sources) (views.programs_of programs) rows)
      → (v : World) → map code_views.source_of sources ≡ (draft_of v).sources → rows ≡ (draft_of v).values → IsSound v → IfOk r (λ cs. map contract_of cs.items ≡ v.contracts)
  contracts_known rows (Ok cs) one h v codes values sound = h ∙ contracts_are rows v one codes values sound
  contracts_known rows (Err x) one h v codes values sound = tt

-- ---- what registers made

-- the World of which they made this
pub world_known : (made : Parts) (contracts : List kept.Contract) (v : World) → parts_of made ≡ draft_of v → map contract_of contracts ≡ v.contracts
    → record { accounts = map account_of made.accounts.items; contracts = map contract_of contracts; next_identity = made.next_identity } ≡ v
world_known made contracts v is are = λ i. record { accounts = (is i).accounts; contracts = are i; next_identity = (is i).next_identity }

-- a World has as many values as codes
pub as_many : (made : Parts) (v : World) → parts_of made ≡ draft_of v → length made.values.items ≡ length made.sources.items
as_many made v is =
    let values : length made.values.items ≡ length v.contracts = sym (length-map made.values.items value_row) ∙ ap (λ (d : Draft). length d.values) is ∙ length-map v.contracts (λ (c : Contract). c.value) in
    let sources : length made.sources.items ≡ length v.contracts = sym (length-map made.sources.items code_views.source_of) ∙ ap (λ (d : Draft). length d.sources) is ∙ length-map v.contracts (λ (c : Contract). source_of (loaded_of c)) in
    values ∙ sym sources

-- the codes as they were handed to the loading, and what that answered
module _ (made : Parts) (given : List held.Source) (same : given ≡ made.sources.items) (answer : Option (Vec (Rc Checked Global) Global)) (loading : Loading (map code_views.source_of given) (option_map views.programs_of answer)) where
  known_loading : (o : Option (List Program)) → option_map views.programs_of answer ≡ o → Loading (parts_of made).sources o
  known_loading o e = subst (λ (ss : List held.Source). Loading (map code_views.source_of ss) o) same (subst (Loading (map code_views.source_of given)) e loading)

  pub none_loads : (v : World) → answer ≡ None → parts_of made ≡ draft_of v → IsSound v → ⊥
  none_loads v e is sound = known_loading None (ap (option_map views.programs_of) e) (map loaded_of v.contracts) (own_sources v.contracts ∙ sym (ap (λ (d : Draft). d.sources) is)) sound.1

  module _ (programs : Vec (Rc Checked Global) Global) (e : answer ≡ Some programs) where
    loads : Loading (parts_of made).sources (Some (views.programs_of programs))
    loads = known_loading (Some (views.programs_of programs)) (ap (option_map views.programs_of) e)

    -- what is found of these programs was deployed
    pub found : {E : Type 0} (rows : List row.Row) (r : Result (Option own.World) E) → length made.values.items ≡ length made.sources.items
        → IfOk r (λ o. IfSome o (λ w. (world_of w ≡ world_from (parts_of made) (views.programs_of programs)) × Stands rows (world_of w)))
        → IfOk r (λ o. IfSome o (λ w. Stands rows (world_of w) × Loads (map loaded_of (world_of w).contracts)))
    found rows (Ok (Some w)) many h =
        let rows_many : length (parts_of made).values ≡ length (parts_of made).sources = length-map made.values.items value_row ∙ many ∙ sym (length-map made.sources.items code_views.source_of) in
        let these : map loaded_of (world_of w).contracts ≡ loaded_by (parts_of made).sources (views.programs_of programs) =
        ap (λ (u : World). map loaded_of u.contracts) h.0 ∙ loaded_from (parts_of made).sources (views.programs_of programs) (parts_of made).values loads.0 rows_many in
        (h.1, subst Loads (sym these) loads.1)
    found rows (Ok None) many h = tt
    found rows (Err x) many h = tt

    -- they are those of a World of which registers made this
    all_known : (v : World) → OneLoading → parts_of made ≡ draft_of v → IsSound v → world_from (parts_of made) (views.programs_of programs) ≡ v
    all_known v one is sound =
        let programs_are = known one (parts_of made).sources (views.programs_of programs) v (ap (λ (d : Draft). d.sources) is) loads.0 loads.1 sound.1 in
        (λ i. world_from (is i) (programs_are i)) ∙ world_again v sound.0

    -- which is found
    pub only : {E : Type 0} (rows : List row.Row) (r : Result (Option own.World) E) (v : World) → OneLoading → parts_of made ≡ draft_of v → IsSound v → Stands rows v
        → (Stands rows (world_from (parts_of made) (views.programs_of programs)) → IfOk r (λ o. option_map world_of o ≡ Some (world_from (parts_of made) (views.programs_of programs)))) → IfOk r (λ o. option_map world_of o ≡ Some v)
    only rows r v one is sound st kept =
        let all = all_known v one is sound in
        subst (λ (w : World). IfOk r (λ o. option_map world_of o ≡ Some w)) all (kept (subst (Stands rows) (sym all) st))
