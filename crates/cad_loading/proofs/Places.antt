-- Contracts found by their identifiers.
use Rattle.std.specs.Prelude.{Bool, true, false, ◌||◌, Option, Some, None, List, [], ◌∷◌, ◌++◌, map, find, option_map, if◌then◌else◌}
use Rattle.std.specs.Option.{is_some}
use Rattle.std.proofs.Common.{◌≡◌, ◌∙◌, refl, ap, sym, ◌⊎◌, inl, inr}
use Rattle.std.proofs.lemmas.Bool.{false≢true}
use Rattle.std.proofs.lemmas.Option.{none-some, same_Some}
use Rattle.cad_syntax.specs.TypeIds.{same_id, has}
use Rattle.cad_syntax.specs.declared.type_id.TypeId.{TypeId}
use Rattle.cad_syntax.proofs.Same.{ids_tell}
use Rattle.cad_declarations.specs.Imports.{ContractEntry, deployed_contract}
use Rattle.cad_loads.specs.Loads.{Source, Loaded, source_of, ids_of, entry_of, entries_of}

abbrev pub found : List Loaded → TypeId → Option Loaded
found cs id = find (λ c. same_id c.id id) cs

-- whatever is found is found among more
abbrev pub Extends : List Loaded → List Loaded → Type 0
Extends cs ds = (id : TypeId) (c : Loaded) → found cs id ≡ Some c → found ds id ≡ Some c

-- each identifier once
abbrev pub AreApart : List TypeId → Type 0
AreApart [] = Unit {0}
AreApart (id ∷ ids) = (has ids id ≡ false) × AreApart ids

pub neither_true : (a b : Bool) → (a || b) ≡ false → (a ≡ false) × (b ≡ false)
neither_true true b h = absurd (false≢true (sym h))
neither_true false b h = (refl, h)

-- ---- one list

pub at_self : (c : Loaded) (cs : List Loaded) → found (c ∷ cs) c.id ≡ Some c
at_self c cs = ap (λ (q : Bool). if q then Some c else found cs c.id) ((ids_tell c.id c.id).1 refl)

pub passed_over : (c : Loaded) (cs : List Loaded) (id : TypeId) → same_id c.id id ≡ false → found (c ∷ cs) id ≡ found cs id
passed_over c cs id other = ap (λ (q : Bool). if q then Some c else found cs id) other

pub found_is : (cs : List Loaded) (id : TypeId) (d : Loaded) → found cs id ≡ Some d → d.id ≡ id
found_is [] id d h = absurd (none-some d h)
found_is (c ∷ cs) id d h = by_first (same_id c.id id) refl (λ k. found_is cs id d k) h
  where
    by_first : (q : Bool) → same_id c.id id ≡ q → (found cs id ≡ Some d → d.id ≡ id) → (if q then Some c else found cs id) ≡ Some d → d.id ≡ id
    by_first true same others k = ap (λ (y : Loaded). y.id) (sym (same_Some c d k)) ∙ (ids_tell c.id id).0 same
    by_first false other others k = others k

-- whether an identifier is there
pub has_found : (cs : List Loaded) (id : TypeId) → has (ids_of cs) id ≡ is_some (found cs id)
has_found [] id = refl
has_found (c ∷ cs) id = by_first (same_id c.id id) (has_found cs id)
  where
    by_first : (q : Bool) → has (ids_of cs) id ≡ is_some (found cs id) → (q || has (ids_of cs) id) ≡ is_some (if q then Some c else found cs id)
    by_first true h = refl
    by_first false h = h

pub has_it : (cs : List Loaded) (id : TypeId) (d : Loaded) → found cs id ≡ Some d → has (ids_of cs) id ≡ true
has_it cs id d h = has_found cs id ∙ ap is_some h

-- another identifier than one that isn't there
pub is_other : (ids : List TypeId) (a b : TypeId) → has ids a ≡ false → has ids b ≡ true → same_id a b ≡ false
is_other ids a b lacks there = by_test (same_id a b) refl
  where
    by_test : (q : Bool) → same_id a b ≡ q → q ≡ false
    by_test true same = absurd (false≢true (sym lacks ∙ (ap (has ids) ((ids_tell a b).0 same) ∙ there)))
    by_test false other = refl

pub other_way : (a b : TypeId) → same_id a b ≡ false → same_id b a ≡ false
other_way a b h = by_test (same_id b a) refl
  where
    by_test : (q : Bool) → same_id b a ≡ q → q ≡ false
    by_test true same = absurd (false≢true (sym h ∙ (ids_tell a b).1 (sym ((ids_tell b a).0 same))))
    by_test false other = refl

-- what is declared by whom
pub entry_found : (cs : List Loaded) (id : TypeId) → deployed_contract (entries_of cs) id ≡ option_map entry_of (found cs id)
entry_found [] id = refl
entry_found (c ∷ cs) id = by_first (same_id c.id id) (entry_found cs id)
  where
    by_first : (q : Bool) → deployed_contract (entries_of cs) id ≡ option_map entry_of (found cs id)
        → (if q then Some (entry_of c) else deployed_contract (entries_of cs) id) ≡ option_map entry_of (if q then Some c else found cs id)
    by_first true h = refl
    by_first false h = h

pub entry_there : (cs : List Loaded) (id : TypeId) (e : ContractEntry) → deployed_contract (entries_of cs) id ≡ Some e
    → (c : Loaded) × (found cs id ≡ Some c) × (entry_of c ≡ e)
entry_there cs id e h = by_found (found cs id) refl (sym (entry_found cs id) ∙ h)
  where
    by_found : (o : Option Loaded) → found cs id ≡ o → option_map entry_of o ≡ Some e → (c : Loaded) × (found cs id ≡ Some c) × (entry_of c ≡ e)
    by_found None is k = absurd (none-some e k)
    by_found (Some c) is k = (c, is, same_Some (entry_of c) e k)

pub extends_entries : (cs ds : List Loaded) → Extends cs ds → (id : TypeId) (e : ContractEntry) → deployed_contract (entries_of cs) id ≡ Some e → deployed_contract (entries_of ds) id ≡ Some e
extends_entries cs ds more id e h =
    let it = entry_there cs id e h in
    entry_found ds id ∙ (ap (option_map entry_of) (more id it.0 it.1) ∙ ap Some it.2)

-- ---- one contract more, in any place

pub found_other : (before after : List Loaded) (c : Loaded) (id : TypeId) → same_id c.id id ≡ false → found (before ++ c ∷ after) id ≡ found (before ++ after) id
found_other [] after c id other = passed_over c after id other
found_other (b ∷ before) after c id other = ap (λ (o : Option Loaded). if same_id b.id id then Some b else o) (found_other before after c id other)

pub found_new : (before after : List Loaded) (c : Loaded) → has (ids_of (before ++ after)) c.id ≡ false → found (before ++ c ∷ after) c.id ≡ Some c
found_new [] after c lacks = at_self c after
found_new (b ∷ before) after c lacks =
    let both = neither_true (same_id b.id c.id) (has (ids_of (before ++ after)) c.id) lacks in
    passed_over b (before ++ c ∷ after) c.id both.0 ∙ found_new before after c both.1

pub new_or_other : (before after : List Loaded) (c : Loaded) → has (ids_of (before ++ after)) c.id ≡ false
    → (id : TypeId) (d : Loaded) → found (before ++ c ∷ after) id ≡ Some d → ((id ≡ c.id) × (d ≡ c)) ⊎ (found (before ++ after) id ≡ Some d)
new_or_other before after c lacks id d h = by_test (same_id c.id id) refl
  where
    by_test : (q : Bool) → same_id c.id id ≡ q → ((id ≡ c.id) × (d ≡ c)) ⊎ (found (before ++ after) id ≡ Some d)
    by_test true same =
        let e : id ≡ c.id = sym ((ids_tell c.id id).0 same) in
        inl (e, same_Some d c (sym h ∙ (ap (found (before ++ c ∷ after)) e ∙ found_new before after c lacks)))
    by_test false other = inr (sym (found_other before after c id other) ∙ h)

pub kept : (before after : List Loaded) (c : Loaded) → has (ids_of (before ++ after)) c.id ≡ false → Extends (before ++ after) (before ++ c ∷ after)
kept before after c lacks id d h =
    found_other before after c id (is_other (ids_of (before ++ after)) c.id id lacks (has_it (before ++ after) id d h)) ∙ h

pub apart_with : (before after : List Loaded) (c : Loaded) → has (ids_of (before ++ after)) c.id ≡ false → AreApart (ids_of (before ++ after)) → AreApart (ids_of (before ++ c ∷ after))
apart_with [] after c lacks apart = (lacks, apart)
apart_with (b ∷ before) after c lacks apart =
    let both = neither_true (same_id b.id c.id) (has (ids_of (before ++ after)) c.id) lacks in
    let first : has (ids_of (before ++ c ∷ after)) b.id ≡ false =
    has_found (before ++ c ∷ after) b.id
    ∙ (ap is_some (found_other before after c b.id (other_way b.id c.id both.0)) ∙ (sym (has_found (before ++ after) b.id) ∙ apart.0)) in
    (first, apart_with before after c both.1 apart.1)

-- ---- lists of the same sources

source_found : (cs : List Loaded) (id : TypeId) → find (λ (s : Source). same_id s.id id) (map source_of cs) ≡ option_map source_of (found cs id)
source_found [] id = refl
source_found (c ∷ cs) id = by_first (same_id c.id id) (source_found cs id)
  where
    by_first : (q : Bool) → find (λ (s : Source). same_id s.id id) (map source_of cs) ≡ option_map source_of (found cs id)
        → (if q then Some (source_of c) else find (λ (s : Source). same_id s.id id) (map source_of cs)) ≡ option_map source_of (if q then Some c else found cs id)
    by_first true h = refl
    by_first false h = h

-- the contract of this identifier has the same code
pub same_code : (cs ds : List Loaded) → map source_of cs ≡ map source_of ds → (id : TypeId) (c : Loaded) → found cs id ≡ Some c
    → (d : Loaded) × (found ds c.id ≡ Some d) × (d.code ≡ c.code)
same_code cs ds same id c h =
    by_found (found ds c.id) refl
    (sym (source_found ds c.id) ∙ (ap (λ (sources : List Source). find (λ (s : Source). same_id s.id c.id) sources) (sym same)
    ∙ (source_found cs c.id ∙ ap (option_map source_of) (ap (found cs) (found_is cs id c h) ∙ h))))
  where
    by_found : (o : Option Loaded) → found ds c.id ≡ o → option_map source_of o ≡ Some (source_of c) → (d : Loaded) × (found ds c.id ≡ Some d) × (d.code ≡ c.code)
    by_found None is k = absurd (none-some (source_of c) k)
    by_found (Some d) is k = (d, is, ap (λ (s : Source). s.code) (same_Some (source_of d) (source_of c) k))

cons_is : {A : Type 0} (x y : A) (xs ys : List A) → x ∷ xs ≡ y ∷ ys → (x ≡ y) × (xs ≡ ys)
cons_is x y xs ys h = let first : x ≡ y = cc in let rest : xs ≡ ys = cc in (first, rest)

apart_lists : {A : Type 0} (y : A) (ys : List A) → [] ≡ y ∷ ys → ⊥
apart_lists y ys h = cc

-- behind one identifier
pub behind : (c d : Loaded) (cs ds : List Loaded) → has (ids_of cs) c.id ≡ false → c.id ≡ d.id → Extends (c ∷ cs) (d ∷ ds) → Extends cs ds
behind c d cs ds lacks same more id e h =
    let other = is_other (ids_of cs) c.id id lacks (has_it cs id e h) in
    sym (passed_over d ds id (ap (λ (x : TypeId). same_id x id) (sym same) ∙ other)) ∙ more id e (passed_over c cs id other ∙ h)

pub same_lists : (cs ds : List Loaded) → AreApart (ids_of cs) → map source_of cs ≡ map source_of ds → Extends cs ds → cs ≡ ds
same_lists [] [] apart same more = refl
same_lists [] (d ∷ ds) apart same more = absurd (apart_lists (source_of d) (map source_of ds) same)
same_lists (c ∷ cs) [] apart same more = absurd (apart_lists (source_of c) (map source_of cs) (sym same))
same_lists (c ∷ cs) (d ∷ ds) apart same more =
    let parts = cons_is (source_of c) (source_of d) (map source_of cs) (map source_of ds) same in
    let id : c.id ≡ d.id = ap (λ (s : Source). s.id) parts.0 in
    let first : c ≡ d = same_Some c d (sym (more c.id c (at_self c cs)) ∙ (ap (found (d ∷ ds)) id ∙ at_self d ds)) in
    let rest : cs ≡ ds = same_lists cs ds apart.1 parts.1 (behind c d cs ds apart.0 id more) in
    λ i. first i ∷ rest i
