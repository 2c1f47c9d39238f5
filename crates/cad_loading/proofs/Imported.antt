-- What an accepted text imports, at any depth, is there; and it is accepted beside more as well.
use Rattle.std.specs.Prelude.{ℕ, zero, suc, Bool, true, false, ◌&&◌, not, Option, Some, None, Result, Ok, Err, List, [], ◌∷◌, ◌++◌, map, filter_map, if◌then◌else◌}
use Rattle.std.specs.List.{cons_option}
use Rattle.std.specs.Option.{is_some, option_or}
use Rattle.std.proofs.Common.{◌≡◌, ◌∙◌, refl, ap, sym, subst, ◌⊎◌, inl, inr}
use Rattle.std.proofs.lemmas.Bool.{false≢true}
use Rattle.std.proofs.lemmas.Option.{none-some}
use Rattle.cad_syntax.specs.TypeIds.{same_id, has}
use Rattle.cad_syntax.specs.declared.address.Address.{Address}
use Rattle.cad_syntax.specs.declared.text.Name.{Name}
use Rattle.cad_syntax.specs.declared.type_id.TypeId.{TypeId}
use Rattle.cad_syntax.proofs.Members.{and_both}
use Rattle.cad_grammar.specs.Trees.{ProgramTree}
use Rattle.cad_grammar.specs.declared.declaration.Import.{Import}
use Rattle.cad_heights.specs.Programs.{is_too_high}
use Rattle.cad_declarations.specs.Build.{build, built, tables_by, first_stop, point_stop, resolve_stop, setting, import_points, name_points, import_point, leads_to, all_declaration_points, import_names, with_names}
use Rattle.cad_declarations.specs.Imports.{ContractEntry, contract_id, imported, all_imported, deployed_contract, is_deployed, import_links, closure}
use Rattle.cad_declarations.specs.Own.{OwnContract}
use Rattle.cad_declarations.specs.Points.{Point, is_new}
use Rattle.cad_declarations.specs.Reached.{linked, reached, enough, reached_from}
use Rattle.cad_declarations.specs.Scopes.{Scope}
use Rattle.cad_declarations.specs.Tables.{ProgramTables}
use Rattle.cad_declarations.specs.declared.link.Link.{Link}
use Rattle.cad_declarations.specs.declared.stop.Stop.{Stop}
use Rattle.cad_acceptance.specs.Acceptance.{CheckedProgram, Accepts, AcceptsText}
use Rattle.cad_acceptance.specs.Stops.{Subject, subject, tables_if}
use Rattle.cad_loading.specs.Slots.{AreAlike}
use Rattle.cad_table_laws.specs.Laws.{ImportsAreEnough}
use Rattle.cad_table_laws.proofs.Reaching.{Has, in_either, at_head, in_tail, head_or_tail, agree_from}

-- ---- options

refused : {A B : Type 0} (a : A) (b : B) → ◌≡◌ {A = Result A B} (Ok a) (Err b) → ⊥
refused a b h = cc

neither : {A : Type 0} (o r : Option A) → option_or o r ≡ None → (o ≡ None) × (r ≡ None)
neither None r h = (refl, h)
neither (Some x) r h = absurd (none-some x (sym h))

-- ---- what is reached

abbrev pub IsThere : List ContractEntry → TypeId → Type 0
IsThere d id = (c : ContractEntry) × (deployed_contract d id ≡ Some c)

-- all that contracts import is there
abbrev pub AreShut : List ContractEntry → Type 0
AreShut d = (a : TypeId) (c : ContractEntry) → deployed_contract d a ≡ Some c → (b : TypeId) → Has c.imports b → IsThere d b

abbrev imports_in : Option ContractEntry → List TypeId
imports_in None = []
imports_in (Some c) = c.imports

linked_is : (d : List ContractEntry) (id : TypeId) → linked (import_links d) id ≡ imports_in (deployed_contract d id)
linked_is [] id = refl
linked_is (c ∷ d) id = by_first (same_id c.id id) (linked_is d id)
  where
    by_first : (q : Bool) → linked (import_links d) id ≡ imports_in (deployed_contract d id)
        → (if q then c.imports else linked (import_links d) id) ≡ imports_in (if q then Some c else deployed_contract d id)
    by_first true others = refl
    by_first false others = others

-- one look, by whether the identifier was seen before
by_look : (q : Bool) (P : List TypeId → Type 0) (a b : List TypeId) → P a → P b → P (if q then a else b)
by_look true P a b first second = first
by_look false P a b first second = second

both_have : (P : TypeId → Type 0) (a b : List TypeId) → ((id : TypeId) → Has a id → P id) → ((id : TypeId) → Has b id → P id) → (id : TypeId) → Has (a ++ b) id → P id
both_have P a b s t id h = by_place (in_either a b id h)
  where
    by_place : Has a id ⊎ Has b id → P id
    by_place (inl front) = s id front
    by_place (inr back) = t id back

one_has : (P : TypeId → Type 0) (x : TypeId) → P x → (id : TypeId) → Has (x ∷ []) id → P id
one_has P x p id h = by_place (head_or_tail x [] id h)
  where
    by_place : (x ≡ id) ⊎ Has [] id → P id
    by_place (inl same) = subst P same p
    by_place (inr none) = absurd (false≢true none)

-- what links keep, and those have from which they lead, all have that is reached
stays : (n : ℕ) (links : List Link) (P : TypeId → Type 0) → ((a : TypeId) → P a → (b : TypeId) → Has (linked links a) b → P b)
    → (seen ahead : List TypeId) → ((id : TypeId) → Has seen id → P id) → ((id : TypeId) → Has ahead id → P id)
    → (id : TypeId) → Has (reached n links seen ahead) id → P id
stays zero links P shut seen ahead s t = s
stays (suc n) links P shut seen [] s t = s
stays (suc n) links P shut seen (x ∷ ahead) s t =
    let here : P x = t x (at_head x ahead) in
    let behind : (id : TypeId) → Has ahead id → P id = λ id k. t id (in_tail x ahead id k) in
    by_look (has seen x) (λ (ids : List TypeId). (id : TypeId) → Has ids id → P id) (reached n links seen ahead) (reached n links (seen ++ x ∷ []) (linked links x ++ ahead))
    (stays n links P shut seen ahead s behind)
    (stays n links P shut (seen ++ x ∷ []) (linked links x ++ ahead) (both_have P seen (x ∷ []) s (one_has P x here)) (both_have P (linked links x) ahead (shut x here) behind))

shut_links : (d : List ContractEntry) → AreShut d → (a : TypeId) → IsThere d a → (b : TypeId) → Has (linked (import_links d) a) b → IsThere d b
shut_links d shut a there b h = shut a there.0 there.1 b (subst (λ (ids : List TypeId). Has ids b) (linked_is d a ∙ ap imports_in there.1) h)

-- all that is reached from what is there is there
reached_there : (d : List ContractEntry) (ids : List TypeId) → AreShut d → ((id : TypeId) → Has ids id → IsThere d id)
    → (id : TypeId) → Has (reached_from (import_links d) ids) id → IsThere d id
reached_there d ids shut there = stays (enough (import_links d) ids) (import_links d) (IsThere d) (shut_links d shut) [] ids (λ id none. absurd (false≢true none)) there

-- ---- contracts that agree on what is reached

-- the same contract, or none, has each identifier that is reached from these
abbrev Agree : List ContractEntry → List ContractEntry → List TypeId → Type 0
Agree d e ids = (id : TypeId) → Has (reached_from (import_links d) ids) id → deployed_contract d id ≡ deployed_contract e id

each_alike : {X : Type 0} (f g : TypeId → Option X) (ids : List TypeId) → ((id : TypeId) → Has ids id → f id ≡ g id) → filter_map f ids ≡ filter_map g ids
each_alike f g [] same = refl
each_alike f g (x ∷ ids) same =
    ap (λ o. cons_option o (filter_map f ids)) (same x (at_head x ids))
    ∙ ap (cons_option (g x)) (each_alike f g ids (λ id h. same id (in_tail x ids id h)))

same_closure : (d e : List ContractEntry) (ids : List TypeId) → Agree d e ids → closure d ids ≡ closure e ids
same_closure d e ids same =
    each_alike (deployed_contract d) (deployed_contract e) (reached_from (import_links d) ids) same
    ∙ ap (filter_map (deployed_contract e))
    (agree_from (import_links d) (import_links e) ids (λ id h. linked_is d id ∙ (ap imports_in (same id h) ∙ sym (linked_is e id))))

-- whatever is there is there among more
abbrev pub AreAmong : List ContractEntry → List ContractEntry → Type 0
AreAmong d e = (id : TypeId) (c : ContractEntry) → deployed_contract d id ≡ Some c → deployed_contract e id ≡ Some c

closure_among : (d e : List ContractEntry) (ids : List TypeId) → AreShut d → AreAmong d e → ((id : TypeId) → Has ids id → IsThere d id) → closure d ids ≡ closure e ids
closure_among d e ids shut among there =
    same_closure d e ids (λ id h. let found = reached_there d ids shut there id h in found.1 ∙ sym (among id found.0 found.1))

-- ---- imports of a program whose names are right

point_right : (scope : Scope) (p : Point) → point_stop scope p ≡ None → p.is_right ≡ true
point_right scope p h = by_test p.is_right refl h
  where
    by_test : (q : Bool) → p.is_right ≡ q → point_stop scope (record p { is_right = q }) ≡ None → p.is_right ≡ true
    by_test true is k = is
    by_test false is k = absurd (none-some _ (sym k))

stops_front : (scope : Scope) (a b : List Point) → first_stop scope (a ++ b) ≡ None → first_stop scope a ≡ None
stops_front scope [] b h = refl
stops_front scope (p ∷ a) b h =
    let both = neither (point_stop scope p) (first_stop scope (a ++ b)) h in
    ap (λ (o : Option Stop). option_or o (first_stop scope a)) both.0 ∙ stops_front scope a b both.1

stops_back : (scope : Scope) (a b : List Point) → first_stop scope (a ++ b) ≡ None → first_stop scope b ≡ None
stops_back scope [] b h = h
stops_back scope (p ∷ a) b h = stops_back scope a b (neither (point_stop scope p) (first_stop scope (a ++ b)) h).1

is_there : (o : Option ContractEntry) → is_some o ≡ true → (c : ContractEntry) × (o ≡ Some c)
is_there None h = absurd (false≢true h)
is_there (Some c) h = (c, refl)

point_there : (scope : Scope) (d : List ContractEntry) (own : Option OwnContract) (before : List Name) (address : ℕ) (name : Name)
    → point_stop scope (import_point d own before address name) ≡ None → IsThere d (contract_id address name)
point_there scope d own before address name h =
    let right = point_right scope (import_point d own before address name) h in
    let deployed = and_both (is_new before name) (is_deployed d (contract_id address name) && not (leads_to d own (contract_id address name))) right in
    is_there (deployed_contract d (contract_id address name)) (and_both (is_deployed d (contract_id address name)) (not (leads_to d own (contract_id address name))) deployed.1).0

names_there : (scope : Scope) (d : List ContractEntry) (own : Option OwnContract) (before : List Name) (address : ℕ) (names : List Name)
    → first_stop scope (name_points d own before address names) ≡ None → (id : TypeId) → Has (map (contract_id address) names) id → IsThere d id
names_there scope d own before address [] h id k = absurd (false≢true k)
names_there scope d own before address (name ∷ more) h id k =
    let both = neither (point_stop scope (import_point d own before address name)) (first_stop scope (name_points d own (name ∷ before) address more)) h in
    by_place (point_there scope d own before address name both.0) (names_there scope d own (name ∷ before) address more both.1 id) (head_or_tail (contract_id address name) (map (contract_id address) more) id k)
  where
    by_place : IsThere d (contract_id address name) → (Has (map (contract_id address) more) id → IsThere d id)
        → (contract_id address name ≡ id) ⊎ Has (map (contract_id address) more) id → IsThere d id
    by_place first later (inl same) = subst (IsThere d) same first
    by_place first later (inr behind) = later behind

imports_there : (scope : Scope) (d : List ContractEntry) (own : Option OwnContract) (before : List Name) (imports : List Import)
    → first_stop scope (import_points d own before imports) ≡ None → (id : TypeId) → Has (all_imported imports) id → IsThere d id
imports_there scope d own before [] h id k = absurd (false≢true k)
imports_there scope d own before (i ∷ more) h id k =
    both_have (IsThere d) (imported i) (all_imported more)
    (names_there scope d own before i.address i.names (stops_front scope (name_points d own before i.address i.names) (import_points d own (with_names i.names before) more) h))
    (imports_there scope d own (with_names i.names before) more (stops_back scope (name_points d own before i.address i.names) (import_points d own (with_names i.names before) more) h))
    id k

built_of : (o : Option Stop) (t tables : ProgramTables) → built o t ≡ Ok tables → (o ≡ None) × (t ≡ tables)
built_of None t tables h = let same : t ≡ tables = cc in (refl, same)
built_of (Some stop) t tables h = absurd (refused tables stop (sym h))

names_right : (d : List ContractEntry) (place : Option Address) (program : ProgramTree) → resolve_stop d place program ≡ None
    → first_stop (setting d place program).scope (import_points d (setting d place program).own [] program.imports) ≡ None
names_right d place program h =
    stops_front (setting d place program).scope (import_points d (setting d place program).own [] program.imports)
    (all_declaration_points (setting d place program).scope (setting d place program).links (is_some place) (setting d place program).own true
    (with_names (import_names program.imports) []) program.declarations) h

build_there : (d : List ContractEntry) (place : Option Address) (program : ProgramTree) (tables : ProgramTables) → build d place program ≡ Ok tables
    → (id : TypeId) → Has (all_imported program.imports) id → IsThere d id
build_there d place program tables h =
    imports_there (setting d place program).scope d (setting d place program).own [] program.imports
    (names_right d place program (built_of (resolve_stop d place program) (tables_by place program (setting d place program)) tables h).0)

build_imports : (d : List ContractEntry) (place : Option Address) (program : ProgramTree) (tables : ProgramTables) → build d place program ≡ Ok tables
    → tables.imports ≡ all_imported program.imports
build_imports d place program tables h =
    ap (λ (t : ProgramTables). t.imports) (sym (built_of (resolve_stop d place program) (tables_by place program (setting d place program)) tables h).1)

-- ---- accepted texts

not_high : (q : Bool) (s : Subject) (tables : ProgramTables) → tables_if q s ≡ Ok tables → build s.imports s.place s.program ≡ Ok tables
not_high true s tables h = absurd (refused tables _ (sym h))
not_high false s tables h = h

module _ (enough_imports : ImportsAreEnough) (d : List ContractEntry) (place : Option Address) (text : List ℕ) (x : CheckedProgram) (a : AcceptsText d place text x) where
  builds : build d place a.program ≡ Ok a.accepts.tables
  builds =
      sym (enough_imports d place a.program)
      ∙ not_high (is_too_high a.program) (subject d place a.program) a.accepts.tables a.accepts.builds

  program_there : (id : TypeId) → Has (all_imported a.program.imports) id → IsThere d id
  program_there = build_there d place a.program a.accepts.tables builds

  -- all that its tables import is there
  pub imported_there : (id : TypeId) → Has x.tables.imports id → IsThere d id
  imported_there id h =
      program_there id (subst (λ (ids : List TypeId). Has ids id)
      (ap (λ (y : CheckedProgram). y.tables.imports) a.accepts.elaborated ∙ build_imports d place a.program a.accepts.tables builds) h)

abbrev beside : Option Address → ProgramTree → List ContractEntry → Subject
beside place program imports = record { imports = imports; place = place; program = program }

text_with : (d e : List ContractEntry) (place : Option Address) (text : List ℕ) (x : CheckedProgram) (a : AcceptsText d place text x)
    → closure d (all_imported a.program.imports) ≡ closure e (all_imported a.program.imports) → AcceptsText e place text x
text_with d e place text x a same = record {
  program = a.program;
  parses = a.parses;
  accepts = subst (λ (imports : List ContractEntry). Accepts (beside place a.program imports) x) same a.accepts;
}

-- a text is accepted beside more contracts as the same program
pub text_among : ImportsAreEnough → (d e : List ContractEntry) (place : Option Address) (text : List ℕ) (x : CheckedProgram)
    → AreShut d → AreAmong d e → AcceptsText d place text x → AcceptsText e place text x
text_among enough_imports d e place text x shut among a =
    text_with d e place text x a (closure_among d e (all_imported a.program.imports) shut among (program_there enough_imports d place text x a))

-- the order of contracts is free
pub text_alike : (d e : List ContractEntry) (place : Option Address) (text : List ℕ) (x : CheckedProgram) → AreAlike d e → AcceptsText d place text x → AcceptsText e place text x
text_alike d e place text x same a = text_with d e place text x a (same_closure d e (all_imported a.program.imports) (λ id h. same id))
