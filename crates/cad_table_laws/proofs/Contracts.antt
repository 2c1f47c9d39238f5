-- Deployed contracts that agree on all that is imported.
use Rattle.std.specs.Prelude.{Bool, true, false, ◌||◌, Option, Some, None, List, [], ◌∷◌, ◌++◌, find, filter_map, if◌then◌else◌}
use Rattle.std.specs.List.{cons_option}
use Rattle.std.specs.Option.{is_some}
use Rattle.std.proofs.Common.{◌≡◌, ◌∙◌, refl, ap, sym, subst}
use Rattle.std.proofs.lemmas.Bool.{false≢true}
use Rattle.cad_syntax.specs.TypeIds.{same_id, has}
use Rattle.cad_syntax.specs.declared.type_id.TypeId.{TypeId}
use Rattle.cad_syntax.proofs.Same.{ids_tell}
use Rattle.cad_declarations.specs.Imports.{ContractEntry, deployed_contract, is_deployed, import_links, closure}
use Rattle.cad_declarations.specs.Reached.{linked, reached_from}
use Rattle.cad_table_laws.proofs.Reaching.{Has, Within, at_head, in_tail, head_or_tail, agree_from, reached_within}

-- the same contract, or none, has each identifier that is reached from these
abbrev pub Agree : List ContractEntry → List ContractEntry → List TypeId → Type 0
Agree d e ids = (id : TypeId) → Has (reached_from (import_links d) ids) id → deployed_contract d id ≡ deployed_contract e id

imports_in : Option ContractEntry → List TypeId
imports_in None = []
imports_in (Some c) = c.imports

linked_is : (d : List ContractEntry) (id : TypeId) → linked (import_links d) id ≡ imports_in (deployed_contract d id)
unfolding imports_in
linked_is [] id = refl
linked_is (c ∷ d) id = by_first (same_id c.id id) (linked_is d id)
  where
    by_first : (q : Bool) → linked (import_links d) id ≡ imports_in (deployed_contract d id)
        → (if q then c.imports else linked (import_links d) id) ≡ imports_in (if q then Some c else deployed_contract d id)
    by_first true others = refl
    by_first false others = others

links_agree : (d e : List ContractEntry) (ids : List TypeId) → Agree d e ids
    → (id : TypeId) → Has (reached_from (import_links d) ids) id → linked (import_links d) id ≡ linked (import_links e) id
links_agree d e ids same id h = linked_is d id ∙ (ap imports_in (same id h) ∙ sym (linked_is e id))

pub same_reached : (d e : List ContractEntry) (ids : List TypeId) → Agree d e ids → reached_from (import_links d) ids ≡ reached_from (import_links e) ids
same_reached d e ids same = agree_from (import_links d) (import_links e) ids (links_agree d e ids same)

-- on some of these they agree too
pub agree_on : (d e : List ContractEntry) (some ids : List TypeId) → Within some ids → Agree d e ids → Agree d e some
agree_on d e some ids inside same id h = same id (reached_within (import_links d) some ids inside id h)

each_alike : {X : Type 0} (f g : TypeId → Option X) (ids : List TypeId) → ((id : TypeId) → Has ids id → f id ≡ g id) → filter_map f ids ≡ filter_map g ids
each_alike f g [] same = refl
each_alike f g (x ∷ ids) same =
    ap (λ o. cons_option o (filter_map f ids)) (same x (at_head x ids))
    ∙ ap (cons_option (g x)) (each_alike f g ids (λ id h. same id (in_tail x ids id h)))

pub same_closure : (d e : List ContractEntry) (ids : List TypeId) → Agree d e ids → closure d ids ≡ closure e ids
same_closure d e ids same =
    each_alike (deployed_contract d) (deployed_contract e) (reached_from (import_links d) ids) same
    ∙ ap (filter_map (deployed_contract e)) (same_reached d e ids same)

-- ---- the closure has what is reached

has_found : (d : List ContractEntry) (id : TypeId) (c : ContractEntry) → deployed_contract d id ≡ Some c → c.id ≡ id
has_found [] id c h = cc
has_found (x ∷ d) id c h = by_first (same_id x.id id) refl (λ k. has_found d id c k) h
  where
    by_first : (q : Bool) → same_id x.id id ≡ q → (deployed_contract d id ≡ Some c → c.id ≡ id) → (if q then Some x else deployed_contract d id) ≡ Some c → c.id ≡ id
    by_first true same others k = let g : x ≡ c = cc in ap (λ (y : ContractEntry). y.id) (sym g) ∙ (ids_tell x.id id).0 same
    by_first false other others k = others k

if_has : Bool → Option ContractEntry → Option ContractEntry
if_has q o = if q then o else None

none_anyway : (q : Bool) → if_has q None ≡ None
unfolding if_has
none_anyway true = refl
none_anyway false = refl

passed : (d : List ContractEntry) (x id : TypeId) (q r : Bool) → same_id x id ≡ q → deployed_contract d x ≡ None
    → if_has r (deployed_contract d id) ≡ if_has (q || r) (deployed_contract d id)
unfolding if_has
passed d x id true r same none =
    let gone : deployed_contract d id ≡ None = ap (deployed_contract d) (sym ((ids_tell x id).0 same)) ∙ none in
    ap (if_has r) gone ∙ (none_anyway r ∙ sym gone)
passed d x id false r other none = refl

stands : (d : List ContractEntry) (x id : TypeId) (c : ContractEntry) (q r : Bool) (o : Option ContractEntry) → same_id c.id id ≡ q → deployed_contract d x ≡ Some c
    → o ≡ if_has r (deployed_contract d id) → (if q then Some c else o) ≡ if_has (q || r) (deployed_contract d id)
unfolding if_has
stands d x id c true r o same there others = sym there ∙ ap (deployed_contract d) (sym (has_found d x c there) ∙ (ids_tell c.id id).0 same)
stands d x id c false r o other there others = others

-- where one of some identifiers is looked up among their contracts, its contract is found
found_among : (d : List ContractEntry) (ids : List TypeId) (id : TypeId)
    → deployed_contract (filter_map (deployed_contract d) ids) id ≡ if_has (has ids id) (deployed_contract d id)
unfolding if_has
found_among d [] id = refl
found_among d (x ∷ ids) id = by_contract (deployed_contract d x) refl (found_among d ids id)
  where
    by_contract : (o : Option ContractEntry) → deployed_contract d x ≡ o
        → deployed_contract (filter_map (deployed_contract d) ids) id ≡ if_has (has ids id) (deployed_contract d id)
        → deployed_contract (cons_option o (filter_map (deployed_contract d) ids)) id ≡ if_has (same_id x id || has ids id) (deployed_contract d id)
    by_contract None none others = others ∙ passed d x id (same_id x id) (has ids id) refl none
    by_contract (Some c) there others =
        stands d x id c (same_id c.id id) (has ids id) (deployed_contract (filter_map (deployed_contract d) ids) id) refl there others
        ∙ ap (λ (y : TypeId). if_has (same_id y id || has ids id) (deployed_contract d id)) (has_found d x c there)

has_all : (q : Bool) (o : Option ContractEntry) → q ≡ true → if_has q o ≡ o
unfolding if_has
has_all true o h = refl
has_all false o h = absurd (false≢true h)

pub agrees_closure : (d : List ContractEntry) (ids : List TypeId) → Agree d (closure d ids) ids
agrees_closure d ids id h =
    sym (found_among d (reached_from (import_links d) ids) id ∙ has_all (has (reached_from (import_links d) ids) id) (deployed_contract d id) h)

-- ---- one contract more

skipped : (before after : List ContractEntry) (other : ContractEntry) (id : TypeId) → same_id other.id id ≡ false
    → deployed_contract (before ++ after) id ≡ deployed_contract (before ++ other ∷ after) id
skipped [] after other id lacks = by_first (same_id other.id id) lacks
  where
    by_first : (q : Bool) → q ≡ false → deployed_contract after id ≡ (if q then Some other else deployed_contract after id)
    by_first true h = absurd (false≢true (sym h))
    by_first false h = refl
skipped (c ∷ before) after other id lacks =
    ap (λ (o : Option ContractEntry). if same_id c.id id then Some c else o) (skipped before after other id lacks)

not_same : (ids : List TypeId) (other id : TypeId) → has ids other ≡ false → Has ids id → same_id other id ≡ false
not_same ids other id lacks h = by_test (same_id other id) refl
  where
    by_test : (q : Bool) → same_id other id ≡ q → q ≡ false
    by_test true same = absurd (false≢true (sym lacks ∙ (ap (has ids) ((ids_tell other id).0 same) ∙ h)))
    by_test false differs = refl

pub agrees_without : (before after : List ContractEntry) (other : ContractEntry) (ids : List TypeId)
    → has (reached_from (import_links (before ++ after)) ids) other.id ≡ false → Agree (before ++ after) (before ++ other ∷ after) ids
agrees_without before after other ids lacks id h =
    skipped before after other id (not_same (reached_from (import_links (before ++ after)) ids) other.id id lacks h)
