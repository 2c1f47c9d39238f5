-- What is found in the declarations of contracts.
use Rattle.std.proofs.Common.{◌≡◌, ◌<◌, ℕ, suc, length, drop, get_or, subst, Bool, true, false, Option, Some, None, option_map, find, List, [], ◌∷◌, ◌++◌, map, cond, refl, sym, ap, ◌∙◌}
use Rattle.std.proofs.Math.Seq.{drop-cons}
use Rattle.std.proofs.lemmas.Bool.{false≢true}
use Rattle.std.proofs.lemmas.List.Folds.{find-append}
use Rattle.std.specs.List.{filter, flat_map}
use Rattle.std.specs.Option.{option_or}
use Rattle.cad_syntax.specs.TypeIds.{same_id}
use Rattle.cad_syntax.specs.declared.type_id.TypeId.{TypeId}
use Rattle.cad_syntax.proofs.Same.{ids_tell}
use Rattle.cad_declarations.specs.Members.{type_in, mapping_in_entries}
use Rattle.cad_declarations.specs.Tables.{TypeEntry, MappingEntry}
use Rattle.cad_world.specs.Declared.{is_within, own_types, own_mappings, types_of, type_bodies}
use Rattle.cad_world.specs.State.{Contract}
use Rattle.cad_state.specs.declared.state.Contract.{Contract as Held}
use Rattle.cad_state.specs.Views.{contract_of}
use Rattle.cad_declarations.specs.Typed.{TypeBody}
use Rattle.cad_auth.specs.declared.mapping.Mapping.{Mapping}
use Rattle.cad_access.specs.RunContracts.{contracts_of, entry_among, bodies_among, mapping_among}

cond_none : {X : Type 0} (b : Bool) (o : Option X) → o ≡ None → o ≡ cond b o None
cond_none true o e = refl
cond_none false o e = e

find_cond : {X : Type 0} (p : X → Bool) (b : Bool) (x : X) (xs : List X) → find p (cond b (x ∷ xs) xs) ≡ cond b (cond (p x) (Some x) (find p xs)) (find p xs)
find_cond p true x xs = refl
find_cond p false x xs = refl

-- of the items that pass a test of their identifier, the first of an identifier is the first of all, where the identifier passes
pub find_filter : {X : Type 0} (key : X → TypeId) (p : TypeId → Bool) (id : TypeId) (xs : List X)
    → find (λ x. same_id (key x) id) (filter (λ x. p (key x)) xs) ≡ cond (p id) (find (λ x. same_id (key x) id) xs) None
find_filter key p id [] = cond_none (p id) None refl
find_filter {X = X} key p id (x ∷ xs) =
    find_cond (λ y. same_id (key y) id) (p (key x)) x (filter (λ y. p (key y)) xs) ∙ by (p (key x)) (same_id (key x) id) (p id) met _ _ (find_filter key p id xs)
  where
    met : same_id (key x) id ≡ true → p (key x) ≡ p id
    met same = ap p ((ids_tell (key x) id).0 same)

    by : (b q c : Bool) → (q ≡ true → b ≡ c) → (kept rest : Option X) → kept ≡ cond c rest None → cond b (cond q (Some x) kept) kept ≡ cond c (cond q (Some x) rest) None
    by true true true same kept rest e = refl
    by true true false same kept rest e = absurd (false≢true (sym (same refl)))
    by false true true same kept rest e = absurd (false≢true (same refl))
    by false true false same kept rest e = e
    by true false true same kept rest e = e
    by true false false same kept rest e = e
    by false false true same kept rest e = e
    by false false false same kept rest e = e

-- the first of two lists
pub find_joined : {X : Type 0} (p : X → Bool) (xs ys : List X) → find p (xs ++ ys) ≡ option_or (find p xs) (find p ys)
find_joined p xs ys = find-append p xs ys

-- what a contract declares under an identifier stands in its tables, where the identifier lies in the contract
own_entry : (c : Contract) (id : TypeId) → find (λ entry. same_id entry.id id) (own_types c) ≡ cond (is_within c.id id) (type_in c.program.tables.types id) None
own_entry c id = find_filter (λ (entry : TypeEntry). entry.id) (is_within c.id) id c.program.tables.types

pub own_here : (c : Contract) (id : TypeId) → is_within c.id id ≡ true → find (λ entry. same_id entry.id id) (own_types c) ≡ type_in c.program.tables.types id
own_here c id within = own_entry c id ∙ ap (λ (b : Bool). cond b (type_in c.program.tables.types id) None) within

pub own_nowhere : (c : Contract) (id : TypeId) → is_within c.id id ≡ false → find (λ entry. same_id entry.id id) (own_types c) ≡ None
own_nowhere c id without = own_entry c id ∙ ap (λ (b : Bool). cond b (type_in c.program.tables.types id) None) without

-- the same of its mappings
own_mapping : (c : Contract) (id : TypeId) → find (λ m. same_id m.id id) (own_mappings c) ≡ cond (is_within c.id id) (find (λ m. same_id m.id id) c.program.tables.mappings) None
own_mapping c id = find_filter (λ (m : MappingEntry). m.id) (is_within c.id) id c.program.tables.mappings

pub mapping_here : (c : Contract) (id : TypeId) → is_within c.id id ≡ true → option_map (λ m. m.mapping) (find (λ m. same_id m.id id) (own_mappings c)) ≡ mapping_in_entries c.program.tables.mappings id
mapping_here c id within = ap (option_map (λ (m : MappingEntry). m.mapping)) (own_mapping c id ∙ ap (λ (b : Bool). cond b (find (λ m. same_id m.id id) c.program.tables.mappings) None) within)

pub mapping_nowhere : (c : Contract) (id : TypeId) → is_within c.id id ≡ false → option_map (λ m. m.mapping) (find (λ m. same_id m.id id) (own_mappings c)) ≡ None
mapping_nowhere c id without = ap (option_map (λ (m : MappingEntry). m.mapping)) (own_mapping c id ∙ ap (λ (b : Bool). cond b (find (λ m. same_id m.id id) c.program.tables.mappings) None) without)

-- the mapping of the first of two lists
pub mapping_joined : (id : TypeId) (xs ys : List MappingEntry) → option_map (λ m. m.mapping) (find (λ m. same_id m.id id) (xs ++ ys)) ≡ option_or (option_map (λ m. m.mapping) (find (λ m. same_id m.id id) xs)) (option_map (λ m. m.mapping) (find (λ m. same_id m.id id) ys))
mapping_joined id xs ys = ap (option_map (λ (m : MappingEntry). m.mapping)) (find-append (λ m. same_id m.id id) xs ys) ∙ by (find (λ m. same_id m.id id) xs)
  where
    by : (o : Option MappingEntry) → option_map (λ m. m.mapping) (option_or o (find (λ m. same_id m.id id) ys)) ≡ option_or (option_map (λ m. m.mapping) o) (option_map (λ m. m.mapping) (find (λ m. same_id m.id id) ys))
    by None = refl
    by (Some m) = refl

-- ---- contract by contract

-- what is found in the contracts from one on is found in that one, or in those behind it
walked : {R : Type 0} (among : List Held → Option R) (one : Held → Option R) → ((c : Held) (cs : List Held) → among (c ∷ cs) ≡ option_or (one c) (among cs))
    → (cs : List Held) (i j : ℕ) (c : Held) → suc i ≡ j → i < length cs → c ≡ get_or cs i c → among (drop i cs) ≡ among cs → option_or (one c) (among (drop j cs)) ≡ among cs
walked {R = R} among one step cs i j c next within is before =
    subst (λ (k : ℕ). option_or (one c) (among (drop k cs)) ≡ among cs) next
    (sym (step c (drop (suc i) cs)) ∙ ap (λ (x : Held). among (x ∷ drop (suc i) cs)) is ∙ ap among (sym (drop-cons cs i c within)) ∙ before)

pub entry_walked : (id : TypeId) (cs : List Held) (i j : ℕ) (c : Held) → suc i ≡ j → i < length cs → c ≡ get_or cs i c → entry_among (contracts_of (drop i cs)) id ≡ entry_among (contracts_of cs) id
    → option_or (find (λ entry. same_id entry.id id) (own_types (contract_of c))) (entry_among (contracts_of (drop j cs)) id) ≡ entry_among (contracts_of cs) id
entry_walked id = walked {R = TypeEntry} (λ cs. entry_among (contracts_of cs) id) (λ c. find (λ entry. same_id entry.id id) (own_types (contract_of c)))
    (λ c cs. find-append (λ (entry : TypeEntry). same_id entry.id id) (own_types (contract_of c)) (types_of (contracts_of cs)))

pub bodies_walked : (id : TypeId) (cs : List Held) (i j : ℕ) (c : Held) → suc i ≡ j → i < length cs → c ≡ get_or cs i c → bodies_among (contracts_of (drop i cs)) id ≡ bodies_among (contracts_of cs) id
    → option_or (find (λ b. same_id b.id id) (contract_of c).program.bodies.types) (bodies_among (contracts_of (drop j cs)) id) ≡ bodies_among (contracts_of cs) id
bodies_walked id = walked {R = TypeBody} (λ cs. bodies_among (contracts_of cs) id) (λ c. find (λ b. same_id b.id id) (contract_of c).program.bodies.types)
    (λ c cs. find-append (λ (b : TypeBody). same_id b.id id) (contract_of c).program.bodies.types (type_bodies (contracts_of cs)))

pub mapping_walked : (id : TypeId) (cs : List Held) (i j : ℕ) (c : Held) → suc i ≡ j → i < length cs → c ≡ get_or cs i c → mapping_among (contracts_of (drop i cs)) id ≡ mapping_among (contracts_of cs) id
    → option_or (option_map (λ m. m.mapping) (find (λ m. same_id m.id id) (own_mappings (contract_of c)))) (mapping_among (contracts_of (drop j cs)) id) ≡ mapping_among (contracts_of cs) id
mapping_walked id = walked {R = Mapping} (λ cs. mapping_among (contracts_of cs) id) (λ c. option_map (λ m. m.mapping) (find (λ m. same_id m.id id) (own_mappings (contract_of c))))
    (λ c cs. mapping_joined id (own_mappings (contract_of c)) (flat_map own_mappings (contracts_of cs)))
