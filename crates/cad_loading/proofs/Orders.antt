-- Contracts that were deployed one after another, in whatever orders.
use Rattle.std.specs.Prelude.{ℕ, false, Some, List, ◌∷◌, ◌++◌, option_map}
use Rattle.std.proofs.Common.{◌≡◌, ◌∙◌, ap, sym, subst, ◌⊎◌, inl, inr}
use Rattle.std.proofs.lemmas.Option.{none-some}
use Rattle.cad_syntax.specs.TypeIds.{has}
use Rattle.cad_syntax.specs.declared.address.Address.{Address}
use Rattle.cad_syntax.specs.declared.type_id.TypeId.{TypeId}
use Rattle.cad_declarations.specs.Imports.{ContractEntry}
use Rattle.cad_check.specs.Laws.{OneAcceptance}
use Rattle.cad_table_laws.specs.Laws.{ImportsAreEnough}
use Rattle.cad_table_laws.proofs.Reaching.{Has}
use Rattle.cad_world.specs.State.{Program}
use Rattle.cad_loads.specs.Loads.{Loaded, Accepted, Stands, Loads, none, one, program_in, ids_of, entry_of, entries_of}
use Rattle.cad_loading.specs.Laws.{OneLoading}
use Rattle.cad_loading.specs.Slots.{AreAlike}
use Rattle.cad_loading.proofs.Imported.{IsThere, AreShut, imported_there, text_among, text_alike}
use Rattle.cad_loading.proofs.Places.{found, Extends, AreApart, found_is, found_new, new_or_other, kept, entry_found, entry_there, extends_entries, apart_with, same_code, same_lists}

-- ---- what stands beside these stands beside more

pub stands_among : ImportsAreEnough → (cs ds : List Loaded) → AreShut (entries_of cs) → Extends cs ds → (c : Loaded) → Stands (entries_of cs) c → Stands (entries_of ds) c
stands_among enough cs ds shut more c s = record {
  accepted = record {
    checked = s.accepted.checked;
    accepts = text_among enough (entries_of cs) (entries_of ds) (Some c.id.address) c.code s.accepted.checked shut (extends_entries cs ds more) s.accepted.accepts;
    is_program = s.accepted.is_program;
  };
  is_contract = s.is_contract;
}

pub stands_alike : (d e : List ContractEntry) → AreAlike d e → (c : Loaded) → Stands d c → Stands e c
stands_alike d e same c s = record {
  accepted = record {
    checked = s.accepted.checked;
    accepts = text_alike d e (Some c.id.address) c.code s.accepted.checked same s.accepted.accepts;
    is_program = s.accepted.is_program;
  };
  is_contract = s.is_contract;
}

-- what a program imports that stands beside these
imports_there : ImportsAreEnough → (d : List ContractEntry) (c : Loaded) → Stands d c → (b : TypeId) → Has c.program.tables.imports b → IsThere d b
imports_there enough d c s b h =
    imported_there enough d (Some c.id.address) c.code s.accepted.checked s.accepted.accepts b
    (subst (λ (ids : List TypeId). Has ids b) (ap (λ (p : Program). p.tables.imports) s.accepted.is_program) h)

there_among : (cs ds : List Loaded) → Extends cs ds → (b : TypeId) → IsThere (entries_of cs) b → IsThere (entries_of ds) b
there_among cs ds more b there = (there.0, extends_entries cs ds more b there.0 there.1)

-- ---- one contract more

shut_with : (before after : List Loaded) (c : Loaded) → has (ids_of (before ++ after)) c.id ≡ false → AreShut (entries_of (before ++ after))
    → ((b : TypeId) → Has c.program.tables.imports b → IsThere (entries_of (before ++ after)) b) → AreShut (entries_of (before ++ c ∷ after))
shut_with before after c lacks shut own a e h b k =
    let it = entry_there (before ++ c ∷ after) a e h in
    there_among (before ++ after) (before ++ c ∷ after) (kept before after c lacks) b (by_which it.0 it.2 (new_or_other before after c lacks a it.0 it.1))
  where
    by_which : (d : Loaded) → entry_of d ≡ e → ((a ≡ c.id) × (d ≡ c)) ⊎ (found (before ++ after) a ≡ Some d) → IsThere (entries_of (before ++ after)) b
    by_which d is (inl new) =
        own b (subst (λ (ids : List TypeId). Has ids b) (ap (λ (x : ContractEntry). x.imports) (sym is) ∙ ap (λ (x : Loaded). x.program.tables.imports) new.1) k)
    by_which d is (inr there) = shut a e (entry_found (before ++ after) a ∙ (ap (option_map entry_of) there ∙ ap Some is)) b k

stands_with : ImportsAreEnough → (before after : List Loaded) (c : Loaded) → has (ids_of (before ++ after)) c.id ≡ false → AreShut (entries_of (before ++ after))
    → Stands (entries_of (before ++ after)) c → ((id : TypeId) (d : Loaded) → found (before ++ after) id ≡ Some d → Stands (entries_of (before ++ after)) d)
    → (id : TypeId) (d : Loaded) → found (before ++ c ∷ after) id ≡ Some d → Stands (entries_of (before ++ c ∷ after)) d
stands_with enough before after c lacks shut own each id d h =
    stands_among enough (before ++ after) (before ++ c ∷ after) shut (kept before after c lacks) d (by_which (new_or_other before after c lacks id d h))
  where
    by_which : ((id ≡ c.id) × (d ≡ c)) ⊎ (found (before ++ after) id ≡ Some d) → Stands (entries_of (before ++ after)) d
    by_which (inl new) = subst (λ (x : Loaded). Stands (entries_of (before ++ after)) x) (sym new.1) own
    by_which (inr there) = each id d there

-- ---- all that were deployed

-- what contracts import is there
pub shut_of : {cs : List Loaded} → ImportsAreEnough → Loads cs → AreShut (entries_of cs)
shut_of enough none = λ a e h. absurd (none-some e h)
shut_of enough (one before after c loads lacks s) =
    shut_with before after c lacks (shut_of enough loads) (imports_there enough (entries_of (before ++ after)) c s)

-- each stands beside all
pub each_stands : {cs : List Loaded} → ImportsAreEnough → Loads cs → (id : TypeId) (d : Loaded) → found cs id ≡ Some d → Stands (entries_of cs) d
each_stands enough none = λ id d h. absurd (none-some d h)
each_stands enough (one before after c loads lacks s) =
    stands_with enough before after c lacks (shut_of enough loads) s (each_stands enough loads)

-- each has an identifier of its own
pub apart_of : {cs : List Loaded} → Loads cs → AreApart (ids_of cs)
apart_of none = tt
apart_of (one before after c loads lacks s) = apart_with before after c lacks (apart_of loads)

-- ---- one program a code

one_program : OneAcceptance → (d : List ContractEntry) (address : Address) (code : List ℕ) (p q : Program) → Accepted d address code p → Accepted d address code q → p ≡ q
one_program acceptance d address code p q a b =
    a.is_program ∙ (ap program_in (acceptance d (Some address) code a.checked b.checked a.accepts b.accepts) ∙ sym b.is_program)

same_loaded : (c d : Loaded) → c.id ≡ d.id → c.code ≡ d.code → c.program ≡ d.program → c ≡ d
same_loaded c d id code program = λ i. record { id = id i; code = code i; program = program i }

pub same_standing : OneAcceptance → (d : List ContractEntry) (a b : Loaded) → a.id ≡ b.id → a.code ≡ b.code → Stands d a → Stands d b → a ≡ b
same_standing acceptance d a b id code s t =
    same_loaded a b id code (one_program acceptance d b.id.address b.code a.program b.program
    (subst (λ (x : TypeId). Accepted d x.address b.code a.program) id (subst (λ (x : List ℕ). Accepted d a.id.address x a.program) code s.accepted))
    t.accepted)

-- ---- deployed contracts among others

-- it is there with the same code, or it doesn't stand beside them
abbrev pub Meets : List Loaded → Loaded → Type 0
Meets ds c = ((d : Loaded) × (found ds c.id ≡ Some d) × (d.code ≡ c.code)) ⊎ (Stands (entries_of ds) c → ⊥)

met : OneAcceptance → ImportsAreEnough → (ds : List Loaded) → Loads ds → (c : Loaded) → Stands (entries_of ds) c → Meets ds c → found ds c.id ≡ Some c
met acceptance enough ds loads c s (inl there) =
    there.1
    ∙ ap Some (same_standing acceptance (entries_of ds) there.0 c (found_is ds c.id there.0 there.1) there.2 (each_stands enough loads c.id there.0 there.1) s)
met acceptance enough ds loads c s (inr rests) = absurd (rests s)

all_with : OneAcceptance → ImportsAreEnough → (ds : List Loaded) → Loads ds → (before after : List Loaded) (c : Loaded) → has (ids_of (before ++ after)) c.id ≡ false
    → AreShut (entries_of (before ++ after)) → Stands (entries_of (before ++ after)) c → Meets ds c → Extends (before ++ after) ds → Extends (before ++ c ∷ after) ds
all_with acceptance enough ds loads before after c lacks shut s meets among id d h = by_which (new_or_other before after c lacks id d h)
  where
    by_which : ((id ≡ c.id) × (d ≡ c)) ⊎ (found (before ++ after) id ≡ Some d) → found ds id ≡ Some d
    by_which (inl new) =
        ap (found ds) new.0 ∙ (met acceptance enough ds loads c (stands_among enough (before ++ after) ds shut among c s) meets ∙ ap Some (sym new.1))
    by_which (inr there) = among id d there

-- All are among these, where each is there with the same code, or doesn't stand beside these.
pub all_among : {cs : List Loaded} → OneAcceptance → ImportsAreEnough → (ds : List Loaded) → Loads ds → Loads cs
    → ((id : TypeId) (c : Loaded) → found cs id ≡ Some c → Meets ds c) → Extends cs ds
all_among acceptance enough ds loads none meets = λ id c h. absurd (none-some c h)
all_among acceptance enough ds loads (one before after c deployed lacks s) meets =
    all_with acceptance enough ds loads before after c lacks (shut_of enough deployed) s (meets c.id c (found_new before after c lacks))
    (all_among acceptance enough ds loads deployed (λ id d h. meets id d (kept before after c lacks id d h)))

pub same_loads : OneAcceptance → ImportsAreEnough → OneLoading
same_loads acceptance enough cs ds l m same =
    same_lists cs ds (apart_of l) same (all_among acceptance enough ds m l (λ id c h. inl (same_code cs ds same id c h)))
