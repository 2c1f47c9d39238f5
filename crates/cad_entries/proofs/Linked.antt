-- Types that have all interfaces by links are closed.
use Rattle.std.specs.Prelude.{◌⊎◌, Bool, true, false, Option, Some, None, option_to_list, List, [], ◌∷◌, ◌++◌, filter_map, flat_map, map, if◌then◌else◌}
use Rattle.std.proofs.Common.{◌≡◌, ◌∙◌, refl, ap, sym, subst, inl, inr}
use Rattle.cad_syntax.specs.TypeIds.{same_id, has}
use Rattle.cad_syntax.specs.declared.type_id.TypeId.{TypeId}
use Rattle.cad_syntax.proofs.Same.{ids_tell}
use Rattle.cad_grammar.specs.Trees as t
use Rattle.cad_types.specs.Declarations.{Declaration, found, interfaces_in, interfaces_of, IsClosed}
use Rattle.cad_declarations.specs.Deployed.{linked_type}
use Rattle.cad_declarations.specs.Entries.{nested_event, composite_types, types_by, types_in}
use Rattle.cad_declarations.specs.Kinds.{declaration_of}
use Rattle.cad_declarations.specs.Own.{OwnContract}
use Rattle.cad_declarations.specs.Reached.{linearised}
use Rattle.cad_declarations.specs.Scopes.{Scope, inside}
use Rattle.cad_declarations.specs.Tables.{TypeEntry}
use Rattle.cad_declarations.specs.declared.link.Link.{Link}
use Rattle.cad_entries.proofs.Reach.{reached_again}

-- each has what is reached from it
abbrev pub AreLinked : List Link → List TypeEntry → Type 0
AreLinked links [] = Unit {0}
AreLinked links (t ∷ types) = (t.interfaces ≡ linearised links t.id) × AreLinked links types

pub both : (links : List Link) (a b : List TypeEntry) → AreLinked links a → AreLinked links b → AreLinked links (a ++ b)
both links [] b p q = q
both links (t ∷ a) b p q = (p.0, both links a b p.1 q)

pub copies_linked : (links : List Link) (types : List TypeEntry) → AreLinked links (map (linked_type links) types)
copies_linked links [] = tt
copies_linked links (t ∷ types) = (refl, copies_linked links types)

events_linked : (scope : Scope) (links : List Link) (id : TypeId) (all : List t.CompositeMemberTree) → AreLinked links (filter_map (nested_event scope links id) all)
events_linked scope links id [] = tt
events_linked scope links id (t.event x ∷ all) = (refl, events_linked scope links id all)
events_linked scope links id (t.field x ∷ all) = events_linked scope links id all
events_linked scope links id (t.function x ∷ all) = events_linked scope links id all
events_linked scope links id (t.init x ∷ all) = events_linked scope links id all

member_linked : (scope : Scope) (links : List Link) (id : TypeId) (x : t.ContractMemberTree) → AreLinked links (types_by scope links id x)
member_linked scope links id (t.composite x) = (refl, events_linked scope links (inside id x.name) x.members)
member_linked scope links id (t.interface x) = (refl, tt)
member_linked scope links id (t.contract_event x) = (refl, tt)
member_linked scope links id (t.enumeration x) = (refl, tt)
member_linked scope links id (t.contract_field x) = tt
member_linked scope links id (t.contract_function x) = tt
member_linked scope links id (t.contract_init x) = tt
member_linked scope links id (t.entitlement x) = tt
member_linked scope links id (t.mapping x) = tt

members_linked : (scope : Scope) (links : List Link) (id : TypeId) (all : List t.ContractMemberTree) → AreLinked links (flat_map (types_by scope links id) all)
members_linked scope links id [] = tt
members_linked scope links id (x ∷ all) =
    both links (types_by scope links id x) (flat_map (types_by scope links id) all) (member_linked scope links id x) (members_linked scope links id all)

pub own_linked : (scope : Scope) (links : List Link) (own : Option OwnContract) → AreLinked links (flat_map (types_in scope links) (option_to_list own))
own_linked scope links None = tt
own_linked scope links (Some own) = both links (types_in scope links own) [] (refl, members_linked scope links own.id own.members) tt

-- what is declared has what is reached from it
by_declaration : (links : List Link) (types : List TypeEntry) → AreLinked links types → (id : TypeId)
    → (interfaces_of (map declaration_of types) id ≡ []) ⊎ (interfaces_of (map declaration_of types) id ≡ linearised links id)
by_declaration links [] p id = inl refl
by_declaration links (t ∷ types) p id = by (same_id t.id id) refl (by_declaration links types p.1 id)
  where
    by : (q : Bool) → same_id t.id id ≡ q
        → (interfaces_of (map declaration_of types) id ≡ []) ⊎ (interfaces_of (map declaration_of types) id ≡ linearised links id)
        → (interfaces_in (if q then Some (declaration_of t) else found (map declaration_of types) id) ≡ [])
        ⊎ (interfaces_in (if q then Some (declaration_of t) else found (map declaration_of types) id) ≡ linearised links id)
    by true same rest = inr (p.0 ∙ ap (linearised links) ((ids_tell t.id id).0 same))
    by false same rest = rest

nothing_there : (ids : List TypeId) (id : TypeId) → ids ≡ [] → has ids id ≡ true → ⊥
nothing_there ids id is there = let e : has [] id ≡ true = ap (λ all. has all id) (sym is) ∙ there in cc

pub linked_closed : (links : List Link) (types : List TypeEntry) → AreLinked links types → IsClosed (map declaration_of types)
linked_closed links types p i j m first second =
    by (by_declaration links types p i) (by_declaration links types p j)
  where
    by : (interfaces_of (map declaration_of types) i ≡ []) ⊎ (interfaces_of (map declaration_of types) i ≡ linearised links i)
        → (interfaces_of (map declaration_of types) j ≡ []) ⊎ (interfaces_of (map declaration_of types) j ≡ linearised links j)
        → has (interfaces_of (map declaration_of types) i) m ≡ true
    by (inl none) other = absurd (nothing_there _ j none first)
    by (inr one) (inl none) = absurd (nothing_there _ m none second)
    by (inr one) (inr two) =
        ap (λ all. has all m) one
        ∙ reached_again links i j m (ap (λ all. has all j) (sym one) ∙ first) (ap (λ all. has all m) (sym two) ∙ second)
