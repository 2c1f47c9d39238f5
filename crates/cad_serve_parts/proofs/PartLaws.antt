-- What is known of a World before a run and after it.
use Rattle.std.proofs.Common.{◌≡◌, ℕ, zero, suc, ◌+◌, ◌<◌, ◌≤◌, Bool, true, false, IsTrue, List, [], ◌∷◌, ◌++◌, map, length, get_or, set, Result, IfOk, refl, sym, ap, subst, ◌∙◌, arith}
use Rattle.std.specs.Cmp.Lexicographic.{pointwise}
use Rattle.std.specs.List.{flat_map}
use Rattle.std.specs.declared.alloc.Global.{Global}
use Rattle.std.specs.declared.vec.Vec.{Vec}
use Rattle.std.proofs.lemmas.Bool.{false≢true}
use Rattle.std.proofs.lemmas.List.{length-map, length-set, map-set}
use Rattle.cad_accounts.specs.Registers.{Leads, Map}
use Rattle.cad_declarations.specs.Names.{built_in, entitlement_names}
use Rattle.cad_world_reading.proofs.Passed.{sources_tell}
use Rattle.cad_world_reading.specs.Passed.{same_source}
use Rattle.cad_loads.specs.Loads.{Loaded, Loads, Source, loaded_of}
use Rattle.cad_state.specs.Views.{contract_of}
use Rattle.cad_state.specs.declared.state.Contract.{Contract}
use Rattle.cad_syntax.proofs.Same.{lists_tell}
use Rattle.cad_syntax.specs.declared.type_id.TypeId.{TypeId}
use Rattle.cad_declarations.specs.Tables.{TypeEntry}
use Rattle.cad_wire.specs.declared.entry.Entry.{Entry}
use Rattle.cad_world.specs.Declared.{own_types, types_of}
use Rattle.cad_world.specs.Registers.{Register, bytes_under, code_register, controller_registers, fields_registers, head_registers, map_of, next_register, of_accounts, published_registers, registers, stored_registers}
use Rattle.cad_world.specs.Rows.{stop}
use Rattle.cad_world.specs.Shapes.{own_entitlements, shape_of_entry, shapes}
use Rattle.cad_world.specs.State as s
use Rattle.cad_worlds.proofs.PartLaws.{length_from}
use Rattle.cad_world_checks.specs.Parts.{StaysSound, StaysWithBytes, summary}
use Rattle.cad_world_checks.specs.declared.part_summary.PartSummary.{PartSummary}
use Rattle.cad_worlds.specs.Parts.{world_over}
use Rattle.cad_worlds.specs.Standing.{IsSoundButCode, StandsFor, coding}
use Rattle.cad_worlds.specs.declared.part.WorldPart.{WorldPart}
use Rattle.cad_serve_parts.specs.Code.Parts.{StaysStanding, one_source, with_program, with_programs}
use Rattle.cad_serve_parts.specs.Code.Worlds.{LeadsOn}
use Rattle.cad_serve_parts.proofs.Results.{if_ok}

-- ---- contracts with the same identifiers and codes

same_sources : (all others : List Contract) → pointwise same_source (map one_source all) (map one_source others) ≡ true → map one_source all ≡ map one_source others
same_sources all others e = (lists_tell same_source sources_tell (map one_source all) (map one_source others)).0 e

-- as they were listed
pub same_listed : (b : Bool) (xs all ys others : List Contract) → b ≡ pointwise same_source (map one_source xs) (map one_source ys) → xs ≡ all → ys ≡ others → b ≡ true → pointwise same_source (map one_source all) (map one_source others) ≡ true
same_listed b xs all ys others tells here there holds = sym (tells ∙ (λ i. pointwise same_source (map one_source (here i)) (map one_source (there i)))) ∙ holds

pub as_many : (all others : List Contract) → pointwise same_source (map one_source all) (map one_source others) ≡ true → length all ≡ length others
as_many all others e = sym (length-map all one_source) ∙ ap (λ (xs : List Source). length xs) (same_sources all others e) ∙ length-map others one_source

-- ---- contracts take the programs of others

length_taken : (n : ℕ) (cs others : List s.Contract) → length (with_programs n cs others) ≡ length cs
length_taken zero cs others = refl
length_taken (suc n) [] [] = refl
length_taken (suc n) [] (o ∷ others) = refl
length_taken (suc n) (c ∷ cs) [] = refl
length_taken (suc n) (c ∷ cs) (o ∷ others) = ap suc (length_taken n cs others)

taken_next : (i : ℕ) (cs others : List s.Contract) (c other : s.Contract) → i < length cs → i < length others → c ≡ get_or (with_programs i cs others) i c → other ≡ get_or others i other
    → set (with_programs i cs others) i (with_program c other) ≡ with_programs (suc i) cs others
taken_next i [] others c other within inside is there = absurd (omega (arith, within))
taken_next i (x ∷ cs) [] c other within inside is there = absurd (omega (arith, inside))
taken_next zero (x ∷ cs) (y ∷ others) c other within inside is there = λ j. with_program (is j) (there j) ∷ cs
taken_next (suc i) (x ∷ cs) (y ∷ others) c other within inside is there =
    ap (λ (l : List s.Contract). with_program x y ∷ l) (taken_next i cs others c other (omega (arith, within)) (omega (arith, inside)) is there)

all_taken : (n : ℕ) (cs others : List s.Contract) → length others ≤ n → with_programs n cs others ≡ with_programs (length others) cs others
all_taken zero cs [] le = refl
all_taken zero cs (o ∷ others) le = absurd (omega (arith, le))
all_taken (suc n) [] [] le = refl
all_taken (suc n) [] (o ∷ others) le = refl
all_taken (suc n) (c ∷ cs) [] le = refl
all_taken (suc n) (c ∷ cs) (o ∷ others) le = ap (λ (l : List s.Contract). with_program c o ∷ l) (all_taken n cs others (omega (arith, le)))

viewed : (xs : List Contract) (i : ℕ) (x : Contract) → i < length xs → x ≡ get_or xs i x → contract_of x ≡ get_or (map contract_of xs) i (contract_of x)
viewed [] i x inside is = absurd (omega (arith, inside))
viewed (y ∷ xs) zero x inside is = ap contract_of is
viewed (y ∷ xs) (suc i) x inside is = viewed xs i x (omega (arith, inside)) is

-- the first have taken theirs
pub record HaveTaken (n : ℕ) (now was others : List Contract) : Type 0 where
  pub same : length now ≡ length others
  pub so_far : map contract_of now ≡ with_programs n (map contract_of was) (map contract_of others)

pub taken_turn : (i j : ℕ) (now was others : List Contract) (old new other : Contract) → j ≡ i + 1 → i < length others → HaveTaken i now was others → old ≡ get_or now i old
    → other ≡ get_or others i other → contract_of new ≡ with_program (contract_of old) (contract_of other) → HaveTaken j (set now i new) was others
taken_turn i j now was others old new other next inside so is there taken =
    let cs = map contract_of was in
    let os = map contract_of others in
    let within : i < length now = omega (arith, inside, so.same) in
    let many : length cs ≡ length now = sym (length_taken i cs os) ∙ ap (λ (l : List s.Contract). length l) (sym so.so_far) ∙ length-map now contract_of in
    let listed : length os ≡ length others = length-map others contract_of in
    let here = viewed now i old within is ∙ ap (λ (l : List s.Contract). get_or l i (contract_of old)) so.so_far in
    let counted : suc i ≡ j = omega (arith, next) in
    record {
      same = length-set now i new ∙ so.same;
      so_far =
          map-set contract_of now i new
          ∙ (λ k. set (so.so_far k) i (taken k))
          ∙ taken_next i cs os (contract_of old) (contract_of other) (omega (arith, within, many)) (omega (arith, inside, listed)) here (viewed others i other inside there)
          ∙ ap (λ (n : ℕ). with_programs n cs os) counted;
    }

pub taken_end : (i : ℕ) (now was others : List Contract) → length others ≤ i → HaveTaken i now was others → map contract_of now ≡ with_programs (length others) (map contract_of was) (map contract_of others)
taken_end i now was others all so =
    let listed : length (map contract_of others) ≡ length others = length-map others contract_of in
    so.so_far ∙ all_taken i (map contract_of was) (map contract_of others) (omega (arith, all, listed)) ∙ ap (λ (n : ℕ). with_programs n (map contract_of was) (map contract_of others)) listed

-- what they are then
abbrev source_or : Source → List Source → Source
source_or d [] = d
source_or d (x ∷ xs) = x

abbrev sources_left : List Source → List Source
sources_left [] = []
sources_left (x ∷ xs) = xs

loaded_taken : (all others : List Contract) → map one_source all ≡ map one_source others → map loaded_of (with_programs (length others) (map contract_of all) (map contract_of others)) ≡ map loaded_of (map contract_of others)
loaded_taken [] [] e = refl
loaded_taken [] (o ∷ others) e = let wrong = ap (λ (l : List Source). length l) e in absurd (omega (arith, wrong))
loaded_taken (c ∷ all) [] e = refl-none e
  where
    refl-none : map one_source (c ∷ all) ≡ [] → map loaded_of (contract_of c ∷ map contract_of all) ≡ []
    refl-none e = let wrong = ap (λ (l : List Source). length l) e in absurd (omega (arith, wrong))
loaded_taken (c ∷ all) (o ∷ others) e =
    let head : one_source c ≡ one_source o = ap (source_or (one_source c)) e in
    let rest = loaded_taken all others (ap sources_left e) in
    λ j. record { id = (head j).id; code = (head j).code; program = (contract_of o).program } ∷ rest j

codes_kept : (n : ℕ) (cs others : List s.Contract) → map code_register (with_programs n cs others) ≡ map code_register cs
codes_kept zero cs others = refl
codes_kept (suc n) [] [] = refl
codes_kept (suc n) [] (o ∷ others) = refl
codes_kept (suc n) (c ∷ cs) [] = refl
codes_kept (suc n) (c ∷ cs) (o ∷ others) = ap (λ (l : List Register). code_register c ∷ l) (codes_kept n cs others)

fields_kept : (n : ℕ) (cs others : List s.Contract) → flat_map (fields_registers coding) (with_programs n cs others) ≡ flat_map (fields_registers coding) cs
fields_kept zero cs others = refl
fields_kept (suc n) [] [] = refl
fields_kept (suc n) [] (o ∷ others) = refl
fields_kept (suc n) (c ∷ cs) [] = refl
fields_kept (suc n) (c ∷ cs) (o ∷ others) = ap (λ (l : List Register). fields_registers coding c ++ l) (fields_kept n cs others)

-- the registers of a World with contracts that have other programs
registers_kept : (w : s.World) (n : ℕ) (others : List s.Contract) → registers coding (record w { contracts = with_programs n w.contracts others }) ≡ registers coding w
registers_kept w n others =
    let codes = codes_kept n w.contracts others in
    let fields = fields_kept n w.contracts others in
    λ i. head_registers w ++ (of_accounts next_register 1 w.accounts
    ++ (codes i ++ (fields i
    ++ (of_accounts (stored_registers coding) 1 w.accounts ++ (of_accounts (published_registers coding) 1 w.accounts
    ++ of_accounts (controller_registers coding) 1 w.accounts)))))

-- ---- what contracts declare

abbrev without_value : Loaded → s.Contract
without_value l = record { id = l.id; code = l.code; program = l.program; value = stop; is_running = false }

types_by : (cs : List s.Contract) → types_of cs ≡ types_of (map without_value (map loaded_of cs))
types_by [] = refl
types_by (c ∷ cs) = ap (λ (l : List TypeEntry). own_types c ++ l) (types_by cs)

entitlements_by : (cs : List s.Contract) → flat_map own_entitlements cs ≡ flat_map own_entitlements (map without_value (map loaded_of cs))
entitlements_by [] = refl
entitlements_by (c ∷ cs) = ap (λ (l : List TypeId). own_entitlements c ++ l) (entitlements_by cs)

shapes_by : (cs : List s.Contract) → shapes cs ≡ shapes (map without_value (map loaded_of cs))
shapes_by cs = λ i. record { types = map shape_of_entry (types_by cs i); entitlements = entitlements_by cs i ++ map built_in entitlement_names }

same_shapes : (cs ds : List s.Contract) → map loaded_of cs ≡ map loaded_of ds → shapes cs ≡ shapes ds
same_shapes cs ds e = shapes_by cs ∙ ap (λ (ls : List Loaded). shapes (map without_value ls)) e ∙ sym (shapes_by ds)

-- ---- a World stands with what is known

pub not_told : {P : Type 0} → IsTrue false → P
not_told h = absurd (false≢true h)

pub stays_so : {E : Type 0} (r : Result Bool E) (before after : WorldPart) (a : PartSummary) → a ≡ summary before → StaysSound a after → IfOk r (λ b. IsTrue b → StaysWithBytes after)
    → IfOk r (λ b. IsTrue b → StaysStanding before after)
stays_so r before after a summed sound = if_ok r (λ b stays holds w is_sound has is declared. (sound w before is_sound is summed declared, stays holds w has))

pub changes_lead : {E : Type 0} (r : Result (List Entry) E) (m : Map) (before after : WorldPart) → StaysStanding before after
    → IfOk r (λ changes. (w : s.World) → ((key : List ℕ) → m key ≡ map_of coding w key) → before.count ≡ length w.accounts → IsSoundButCode (world_over w.accounts after) → Leads m (map_of coding (world_over w.accounts after)) changes)
    → IfOk r (λ changes. (w : s.World) → StandsFor m w → world_over w.accounts before ≡ w → map loaded_of (map contract_of after.contracts.items) ≡ map loaded_of w.contracts → LeadsOn m (world_over w.accounts after) changes)
changes_lead r m before after stays = if_ok r (λ changes leads w stands is loaded. lead changes leads w stands is loaded)
  where
    lead : (changes : List Entry)
        → ((w : s.World) → ((key : List ℕ) → m key ≡ map_of coding w key) → before.count ≡ length w.accounts → IsSoundButCode (world_over w.accounts after) → Leads m (map_of coding (world_over w.accounts after)) changes)
        → (w : s.World) → StandsFor m w → world_over w.accounts before ≡ w → map loaded_of (map contract_of after.contracts.items) ≡ map loaded_of w.contracts → LeadsOn m (world_over w.accounts after) changes
    lead changes leads w stands is loaded =
        let u = world_over w.accounts after in
        let both = stays w stands.sound.0 stands.has_bytes is (same_shapes w.contracts (map contract_of after.contracts.items) (sym loaded)) in
        let count : before.count ≡ length w.accounts = sym (length_from w.accounts before.known.items 0 before.count) ∙ ap (λ (v : s.World). length v.accounts) is in
        let own : StandsFor (map_of coding u) u = record { are = λ key. refl; sound = (both.0, subst Loads (sym loaded) stands.sound.1); has_bytes = both.1 } in
        (map_of coding u, leads w stands.are count both.0, u, own, own)

-- after a run, whose contracts took the programs that they had before
module _ (m : Map) (before after : WorldPart) (contracts : Vec Contract Global) (changes : List Entry) where
  abbrev pub with_taken : WorldPart
  with_taken = record after { contracts = contracts }

  pub taken_leads : pointwise same_source (map one_source after.contracts.items) (map one_source before.contracts.items) ≡ true
      → map contract_of contracts.items ≡ with_programs (length before.contracts.items) (map contract_of after.contracts.items) (map contract_of before.contracts.items)
      → ((w : s.World) → StandsFor m w → world_over w.accounts before ≡ w → map loaded_of (map contract_of contracts.items) ≡ map loaded_of w.contracts → LeadsOn m (world_over w.accounts with_taken) changes)
      → (w : s.World) → StandsFor m w → world_over w.accounts before ≡ w → LeadsOn m (world_over w.accounts after) changes
  taken_leads same taken leads w stands is =
      let loaded : map loaded_of (map contract_of contracts.items) ≡ map loaded_of w.contracts =
      ap (map loaded_of) taken ∙ loaded_taken after.contracts.items before.contracts.items (same_sources after.contracts.items before.contracts.items same) ∙ ap (λ (v : s.World). map loaded_of v.contracts) is in
      let there = leads w stands is loaded in
      let v = world_over w.accounts after in
      let kept : registers coding (world_over w.accounts with_taken) ≡ registers coding v =
      ap (λ (cs : List s.Contract). registers coding (record v { contracts = cs })) taken ∙ registers_kept v (length before.contracts.items) (map contract_of before.contracts.items) in
      (there.0, there.1, there.2, there.3, subst (λ (rs : List Register). StandsFor (bytes_under rs) there.2) kept there.4)

-- as they were listed
pub taken_as : (now was : List s.Contract) (listed others : List Contract) → listed ≡ others → now ≡ with_programs (length listed) was (map contract_of listed) → now ≡ with_programs (length others) was (map contract_of others)
taken_as now was listed others same taken = subst (λ (l : List Contract). now ≡ with_programs (length l) was (map contract_of l)) same taken
