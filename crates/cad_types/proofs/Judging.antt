-- Judging finds the greatest classes.
use Rattle.std.proofs.Common.{◌≡◌, ◌≢◌, ℕ, zero, suc, ◌+◌, ◌<◌, ◌≤◌, Bool, true, false, cond, ◌&&◌, ◌||◌, ◌↔◌, IsTrue, Option, Some, None, List, [], ◌∷◌, length, map, Result, Ok, Err, IfOk, Vec, get_or, slice_set, refl, ap, sym, ◌∙◌, subst, ◌⊎◌, inl, inr, arith}
use Rattle.std.proofs.lemmas.Bool.{false≢true}
use Rattle.std.proofs.lemmas.List.{length-set}
use Rattle.std.specs.List.{list_all}
use Rattle.cad_syntax.specs.TypeIds.{same_id}
use Rattle.cad_syntax.specs.Types.{PureType, basic, optional, array, dictionary, intersection, declared, reference, capability, capability_of}
use Rattle.cad_syntax.specs.declared.type_id.TypeId.{TypeId}
use Rattle.cad_syntax.proofs.Members.{and_both, or_cases, or_right}
use Rattle.cad_types.specs.Declarations.{Declaration, declaration_of, found}
use Rattle.cad_types.specs.Classes.{fields_in, has_sort, is_data_sort, is_carried_sort, is_void, storable_rule, importable_rule, carried_rule, exportable_rule, Keeps, Storable, Importable, Exportable}
use Rattle.cad_types.specs.Code.Judged.{unmarked, marked, storable_by, importable_by, carried_by, exportable_by, is_importable_data, is_exportable_carried, kept, each_kept, refined, IsGreatest, IsAtLeast, IsJudged}
use Rattle.cad_types.specs.declared.declared.Declared.{Declared}
use Rattle.cad_types.specs.declared.marks.Marks.{Marks}

or_left : (x y : Bool) → x ≡ true → (x || y) ≡ true
or_left x y e = rw e refl

and_true : (a b : Bool) → a ≡ true → b ≡ true → (a && b) ≡ true
and_true a b p q = rw (p, q) refl

all_weaker : {A : Type 0} (p q : A → Bool) (xs : List A) → ((x : A) → p x ≡ true → q x ≡ true) → list_all p xs ≡ true → list_all q xs ≡ true
all_weaker p q [] h e = refl
all_weaker p q (x ∷ xs) h e =
    let both = and_both (p x) (list_all p xs) e in
    and_true (q x) (list_all q xs) (h x both.0) (all_weaker p q xs h both.1)

-- How many marks there are.

count : Marks → ℕ
count m = cond m.storable 1 0 + cond m.importable 1 0 + cond m.carried 1 0

pub trues : List Marks → ℕ
trues [] = 0
trues (m ∷ ms) = count m + trues ms

flag_le : (a x : Bool) → cond (a && x) 1 0 ≤ cond a 1 0
flag_le true true = omega arith
flag_le true false = omega arith
flag_le false x = omega arith

abbrev flag : Bool → ℕ
flag a = cond a 1 0

flag_same : (a x : Bool) → flag (a && x) ≡ flag a → (a && x) ≡ a
flag_same true true e = refl
flag_same true false e = absurd (omega arith)
flag_same false x e = refl

module _ (k : List Declaration) (marks : List Marks) where
  count_le : (d : Declaration) (m : Marks) → count (kept k marks d m) ≤ count m
  unfolding count
  count_le d m = omega (arith, flag_le m.storable (list_all (storable_by k marks) d.fields), flag_le m.importable (is_importable_data k marks d), flag_le m.carried (is_exportable_carried k marks d))

  count_same : (d : Declaration) (m : Marks) → count (kept k marks d m) ≡ count m → kept k marks d m ≡ m
  unfolding count
  count_same d m e =
      let a = flag_le m.storable (list_all (storable_by k marks) d.fields) in
      let b = flag_le m.importable (is_importable_data k marks d) in
      let c = flag_le m.carried (is_exportable_carried k marks d) in
      let s = flag_same m.storable (list_all (storable_by k marks) d.fields) (omega (arith, a, b, c, e)) in
      let i = flag_same m.importable (is_importable_data k marks d) (omega (arith, a, b, c, e)) in
      let r = flag_same m.carried (is_exportable_carried k marks d) (omega (arith, a, b, c, e)) in
      ap (λ x. record { storable = x; importable = m.importable && is_importable_data k marks d; carried = m.carried && is_exportable_carried k marks d }) s
      ∙ ap (λ x. record { storable = m.storable; importable = x; carried = m.carried && is_exportable_carried k marks d }) i
      ∙ ap (λ x. record { storable = m.storable; importable = m.importable; carried = x }) r

  each_le : (ds : List Declaration) (ms : List Marks) → trues (each_kept (kept k marks) ds ms) ≤ trues ms
  unfolding trues
  each_le [] ms = omega arith
  each_le (d ∷ ds) [] = omega arith
  each_le (d ∷ ds) (m ∷ ms) = omega (arith, count_le d m, each_le ds ms)

  each_same : (ds : List Declaration) (ms : List Marks) → length ms ≡ length ds → trues (each_kept (kept k marks) ds ms) ≡ trues ms → each_kept (kept k marks) ds ms ≡ ms
  unfolding trues
  each_same [] [] whole e = refl
  each_same [] (m ∷ ms) whole e = absurd (omega arith)
  each_same (d ∷ ds) [] whole e = refl
  each_same (d ∷ ds) (m ∷ ms) whole e =
      let first = count_same d m (omega (arith, count_le d m, each_le ds ms, e)) in
      let rest = each_same ds ms (omega arith) (omega (arith, count_le d m, each_le ds ms, e)) in
      ap (λ x. x ∷ each_kept (kept k marks) ds ms) first ∙ ap (λ xs. m ∷ xs) rest

  -- Marks after a turn.

  abbrev after : (Declaration → Marks → Marks) → Option Declaration → Marks → Marks
  after keep None m = unmarked
  after keep (Some d) m = keep d m

  marked_kept : (keep : Declaration → Marks → Marks) (ds : List Declaration) (ms : List Marks) (id : TypeId) → length ms ≡ length ds → marked ds (each_kept keep ds ms) id ≡ after keep (found ds id) (marked ds ms id)
  marked_kept keep [] ms id whole = refl
  marked_kept keep (d ∷ ds) [] id whole = absurd (omega arith)
  marked_kept keep (d ∷ ds) (m ∷ ms) id whole = go (same_id d.id id) (marked_kept keep ds ms id (omega arith))
    where
      go : (b : Bool) → marked ds (each_kept keep ds ms) id ≡ after keep (found ds id) (marked ds ms id) → cond b (keep d m) (marked ds (each_kept keep ds ms) id) ≡ after keep (cond b (Some d) (found ds id)) (cond b m (marked ds ms id))
      go true rest = refl
      go false rest = rest

  -- The types of a class are found by the marks.

  module _ (greatest : IsGreatest k marks) where
    storable_inside : (class : PureType → Bool) → Keeps (storable_rule k) class → (t : PureType) → class t ≡ true → storable_by k marks t ≡ true
    storable_inside class keeps (basic t) e = keeps (basic t) e
    storable_inside class keeps (optional t) e = storable_inside class keeps t (keeps (optional t) e)
    storable_inside class keeps (array t) e = storable_inside class keeps t (keeps (array t) e)
    storable_inside class keeps (dictionary p t) e =
        let both = and_both (class p) (class t) (keeps (dictionary p t) e) in
        and_true (storable_by k marks p) (storable_by k marks t) (storable_inside class keeps p both.0) (storable_inside class keeps t both.1)
    storable_inside class keeps (intersection ids) e = refl
    storable_inside class keeps (declared id) e = greatest.storables class keeps id e
    storable_inside class keeps (reference a t) e = keeps (reference a t) e
    storable_inside class keeps capability e = refl
    storable_inside class keeps (capability_of t) e = refl

    importable_inside : (class : PureType → Bool) → Keeps (importable_rule k) class → (t : PureType) → class t ≡ true → importable_by k marks t ≡ true
    importable_inside class keeps (basic t) e = keeps (basic t) e
    importable_inside class keeps (optional t) e = importable_inside class keeps t (keeps (optional t) e)
    importable_inside class keeps (array t) e = importable_inside class keeps t (keeps (array t) e)
    importable_inside class keeps (dictionary p t) e =
        let both = and_both (class p) (class t) (keeps (dictionary p t) e) in
        and_true (importable_by k marks p) (importable_by k marks t) (importable_inside class keeps p both.0) (importable_inside class keeps t both.1)
    importable_inside class keeps (intersection ids) e = keeps (intersection ids) e
    importable_inside class keeps (declared id) e = greatest.importables class keeps id e
    importable_inside class keeps (reference a t) e = keeps (reference a t) e
    importable_inside class keeps capability e = keeps capability e
    importable_inside class keeps (capability_of t) e = keeps (capability_of t) e

    -- a type is exportable by the marks, since it is importable, Void or a resource or event
    by_part : (t : PureType) (importable carried : Bool) → (importable ≡ true → importable_by k marks t ≡ true) → (carried ≡ true → carried_by k marks t ≡ true) → (importable || (is_void t || carried)) ≡ true → exportable_by k marks t ≡ true
    by_part t importable carried of_importable of_carried e = elim (or_cases importable (is_void t || carried) e) [
      | inl i ↦ or_left (importable_by k marks t) (is_void t || carried_by k marks t) (of_importable i)
      | inr rest ↦ or_right (importable_by k marks t) (is_void t || carried_by k marks t) (elim (or_cases (is_void t) carried rest) [
        | inl v ↦ or_left (is_void t) (carried_by k marks t) v
        | inr c ↦ or_right (is_void t) (carried_by k marks t) (of_carried c)
      ])
    ]

    carried_inside : (importable class : PureType → Bool) → Keeps (importable_rule k) importable → Keeps (exportable_rule k importable) class → (t : PureType) → carried_rule k class t ≡ true → carried_by k marks t ≡ true
    carried_inside importable class keeps keeps' (declared id) e = greatest.carrieds importable class keeps keeps' id e
    carried_inside importable class keeps keeps' (basic t) e = e
    carried_inside importable class keeps keeps' (optional t) e = e
    carried_inside importable class keeps keeps' (array t) e = e
    carried_inside importable class keeps keeps' (dictionary p t) e = e
    carried_inside importable class keeps keeps' (intersection ids) e = e
    carried_inside importable class keeps keeps' (reference a t) e = e
    carried_inside importable class keeps keeps' capability e = e
    carried_inside importable class keeps keeps' (capability_of t) e = e

    exportable_inside : (importable class : PureType → Bool) → Keeps (importable_rule k) importable → Keeps (exportable_rule k importable) class → (t : PureType) → class t ≡ true → exportable_by k marks t ≡ true
    exportable_inside importable class keeps keeps' t e =
        by_part t (importable t) (carried_rule k class t) (importable_inside importable keeps t) (carried_inside importable class keeps keeps' t) (keeps' t e)

    -- A turn loses no type of a class.

    storable_after : (class : PureType → Bool) → Keeps (storable_rule k) class → (o : Option Declaration) (m : Marks) → list_all class (fields_in o) ≡ true → m.storable ≡ true → (after (kept k marks) o m).storable ≡ true
    storable_after class keeps None m fields e = refl
    storable_after class keeps (Some d) m fields e =
        and_true m.storable (list_all (storable_by k marks) d.fields) e (all_weaker class (storable_by k marks) d.fields (storable_inside class keeps) fields)

    importable_after : (class : PureType → Bool) → Keeps (importable_rule k) class → (o : Option Declaration) (m : Marks) → (has_sort is_data_sort o && list_all class (fields_in o)) ≡ true → m.importable ≡ true → (after (kept k marks) o m).importable ≡ true
    importable_after class keeps None m fields e = absurd (false≢true fields)
    importable_after class keeps (Some d) m fields e =
        let both = and_both (is_data_sort d.sort) (list_all class d.fields) fields in
        and_true m.importable (is_importable_data k marks d) e
        (and_true (is_data_sort d.sort) (list_all (importable_by k marks) d.fields) both.0 (all_weaker class (importable_by k marks) d.fields (importable_inside class keeps) both.1))

    carried_after : (importable class : PureType → Bool) → Keeps (importable_rule k) importable → Keeps (exportable_rule k importable) class → (o : Option Declaration) (m : Marks) → (has_sort is_carried_sort o && list_all class (fields_in o)) ≡ true → m.carried ≡ true → (after (kept k marks) o m).carried ≡ true
    carried_after importable class keeps keeps' None m fields e = absurd (false≢true fields)
    carried_after importable class keeps keeps' (Some d) m fields e =
        let both = and_both (is_carried_sort d.sort) (list_all class d.fields) fields in
        and_true m.carried (is_exportable_carried k marks d) e
        (and_true (is_carried_sort d.sort) (list_all (exportable_by k marks) d.fields) both.0 (all_weaker class (exportable_by k marks) d.fields (exportable_inside importable class keeps keeps') both.1))

    greatest_after : length marks ≡ length k → IsGreatest k (refined k marks)
    greatest_after whole = record {
      storables = λ class keeps id e. rw (marked_kept (kept k marks) k marks id whole) (storable_after class keeps (found k id) (marked k marks id) (keeps (declared id) e) (greatest.storables class keeps id e));
      importables = λ class keeps id e. rw (marked_kept (kept k marks) k marks id whole) (importable_after class keeps (found k id) (marked k marks id) (keeps (declared id) e) (greatest.importables class keeps id e));
      carrieds = λ importable class keeps keeps' id e. rw (marked_kept (kept k marks) k marks id whole) (carried_after importable class keeps keeps' (found k id) (marked k marks id) e (greatest.carrieds importable class keeps keeps' id e));
    }

  length_kept : (keep : Declaration → Marks → Marks) (ds : List Declaration) (ms : List Marks) → length ms ≡ length ds → length (each_kept keep ds ms) ≡ length ds
  length_kept keep [] ms whole = refl
  length_kept keep (d ∷ ds) [] whole = absurd (omega arith)
  length_kept keep (d ∷ ds) (m ∷ ms) whole = ap suc (length_kept keep ds ms (omega arith))

  whole_after : length marks ≡ length k → length (refined k marks) ≡ length k
  whole_after whole = length_kept (kept k marks) k marks whole

  pub at_least_after : IsAtLeast k marks → IsAtLeast k (refined k marks)
  at_least_after before = record { whole = whole_after before.whole; greatest = greatest_after before.greatest before.whole }

  pub fewer_after : length marks ≡ length k → refined k marks ≢ marks → trues (refined k marks) < trues marks
  fewer_after whole changed =
      let at_most = each_le k marks in
      let other : trues (refined k marks) ≢ trues marks = λ e. changed (each_same k marks whole e) in
      omega arith

  -- The marks that stay are classes.

  module _ (judged : IsJudged k marks) where
    stays : (id : TypeId) → marked k marks id ≡ after (kept k marks) (found k id) (marked k marks id)
    stays id = ap (λ ms. marked k ms id) (sym judged.stable) ∙ marked_kept (kept k marks) k marks id judged.whole

    storable_fields : (o : Option Declaration) (m : Marks) → m ≡ after (kept k marks) o m → m.storable ≡ true → list_all (storable_by k marks) (fields_in o) ≡ true
    storable_fields None m e holds = refl
    storable_fields (Some d) m e holds = (and_both m.storable (list_all (storable_by k marks) d.fields) (sym (ap (λ (x : Marks). x.storable) e) ∙ holds)).1

    importable_fields : (o : Option Declaration) (m : Marks) → m ≡ after (kept k marks) o m → m.importable ≡ true → (has_sort is_data_sort o && list_all (importable_by k marks) (fields_in o)) ≡ true
    importable_fields None m e holds = absurd (false≢true (sym (ap (λ (x : Marks). x.importable) e) ∙ holds))
    importable_fields (Some d) m e holds = (and_both m.importable (is_importable_data k marks d) (sym (ap (λ (x : Marks). x.importable) e) ∙ holds)).1

    carried_fields : (o : Option Declaration) (m : Marks) → m ≡ after (kept k marks) o m → m.carried ≡ true → (has_sort is_carried_sort o && list_all (exportable_by k marks) (fields_in o)) ≡ true
    carried_fields None m e holds = absurd (false≢true (sym (ap (λ (x : Marks). x.carried) e) ∙ holds))
    carried_fields (Some d) m e holds = (and_both m.carried (is_exportable_carried k marks d) (sym (ap (λ (x : Marks). x.carried) e) ∙ holds)).1

    keeps_storable : Keeps (storable_rule k) (storable_by k marks)
    keeps_storable (basic t) e = e
    keeps_storable (optional t) e = e
    keeps_storable (array t) e = e
    keeps_storable (dictionary p t) e = e
    keeps_storable (intersection ids) e = e
    keeps_storable (declared id) e = storable_fields (found k id) (marked k marks id) (stays id) e
    keeps_storable (reference a t) e = e
    keeps_storable capability e = e
    keeps_storable (capability_of t) e = e

    keeps_importable : Keeps (importable_rule k) (importable_by k marks)
    keeps_importable (basic t) e = e
    keeps_importable (optional t) e = e
    keeps_importable (array t) e = e
    keeps_importable (dictionary p t) e = e
    keeps_importable (intersection ids) e = e
    keeps_importable (declared id) e = importable_fields (found k id) (marked k marks id) (stays id) e
    keeps_importable (reference a t) e = e
    keeps_importable capability e = e
    keeps_importable (capability_of t) e = e

    carried_keeps : (t : PureType) → carried_by k marks t ≡ true → carried_rule k (exportable_by k marks) t ≡ true
    carried_keeps (declared id) e = carried_fields (found k id) (marked k marks id) (stays id) e
    carried_keeps (basic t) e = e
    carried_keeps (optional t) e = e
    carried_keeps (array t) e = e
    carried_keeps (dictionary p t) e = e
    carried_keeps (intersection ids) e = e
    carried_keeps (reference a t) e = e
    carried_keeps capability e = e
    carried_keeps (capability_of t) e = e

    keeps_exportable : Keeps (exportable_rule k (importable_by k marks)) (exportable_by k marks)
    keeps_exportable t e = elim (or_cases (importable_by k marks t) (is_void t || carried_by k marks t) e) [
      | inl i ↦ or_left (importable_by k marks t) (is_void t || carried_rule k (exportable_by k marks) t) i
      | inr rest ↦ or_right (importable_by k marks t) (is_void t || carried_rule k (exportable_by k marks) t) (elim (or_cases (is_void t) (carried_by k marks t) rest) [
        | inl v ↦ or_left (is_void t) (carried_rule k (exportable_by k marks) t) v
        | inr c ↦ or_right (is_void t) (carried_rule k (exportable_by k marks) t) (carried_keeps t c)
      ])
    ]

    pub storable_tells : (r : Bool) (t : PureType) → r ≡ storable_by k marks t → (IsTrue r ↔ Storable k t)
    storable_tells r t e =
        (λ yes. (storable_by k marks, keeps_storable, sym e ∙ yes), λ s. e ∙ storable_inside judged.greatest s.0 s.1 t s.2)

    pub importable_tells : (r : Bool) (t : PureType) → r ≡ importable_by k marks t → (IsTrue r ↔ Importable k t)
    importable_tells r t e =
        (λ yes. (importable_by k marks, keeps_importable, sym e ∙ yes), λ s. e ∙ importable_inside judged.greatest s.0 s.1 t s.2)

    pub exportable_tells : (r : Bool) (t : PureType) → r ≡ exportable_by k marks t → (IsTrue r ↔ Exportable k t)
    exportable_tells r t e = (
      λ yes. (importable_by k marks, keeps_importable, (exportable_by k marks, keeps_exportable, sym e ∙ yes)),
      λ s. e ∙ exportable_inside judged.greatest s.0 (s.2).0 s.1 (s.2).1 t (s.2).2,
    )

-- At first each declared type has all marks.

all_or_none : (m : Marks) (ds : List Declared) (id : TypeId) → (marked (map declaration_of ds) (map (λ d. m) ds) id ≡ m) ⊎ (found (map declaration_of ds) id ≡ None)
all_or_none m [] id = inr refl
all_or_none m (d ∷ ds) id = go (same_id d.id id) (all_or_none m ds id)
  where
    go : (b : Bool) → (marked (map declaration_of ds) (map (λ d. m) ds) id ≡ m) ⊎ (found (map declaration_of ds) id ≡ None) → (cond b m (marked (map declaration_of ds) (map (λ d. m) ds) id) ≡ m) ⊎ (cond b (Some (declaration_of d)) (found (map declaration_of ds) id) ≡ None)
    go true rest = inl refl
    go false rest = rest

unmarked_none : (ds : List Declaration) (ms : List Marks) (id : TypeId) → found ds id ≡ None → marked ds ms id ≡ unmarked
unmarked_none [] ms id e = refl
unmarked_none (d ∷ ds) [] id e = refl
unmarked_none (d ∷ ds) (m ∷ ms) id e = go (same_id d.id id) e (unmarked_none ds ms id)
  where
    go : (b : Bool) → cond b (Some d) (found ds id) ≡ None → (found ds id ≡ None → marked ds ms id ≡ unmarked) → cond b m (marked ds ms id) ≡ unmarked
    go true e rest = cc
    go false e rest = rest e

abbrev pub all_marks : Marks
all_marks = record { storable = true; importable = true; carried = true }

greatest_first : (ds : List Declared) (ms : List Marks) → ms ≡ map (λ d. all_marks) ds → IsGreatest (map declaration_of ds) ms
greatest_first ds ms e =
    let k = map declaration_of ds in
    let of_all : (id : TypeId) → (marked k ms id ≡ all_marks) ⊎ (found k id ≡ None) = λ id. subst (λ (x : List Marks). (marked k x id ≡ all_marks) ⊎ (found k id ≡ None)) (sym e) (all_or_none all_marks ds id) in
    record {
      storables = λ class keeps id yes. elim (of_all id) [ inl all ↦ ap (λ (m : Marks). m.storable) all | inr none ↦ ap (λ (m : Marks). m.storable) (unmarked_none k ms id none) ];
      importables = λ class keeps id yes. elim (of_all id) [
        | inl all ↦ ap (λ (m : Marks). m.importable) all
        | inr none ↦ absurd (false≢true (subst (λ (o : Option Declaration). (has_sort is_data_sort o && list_all class (fields_in o)) ≡ true) none (keeps (declared id) yes)))
      ];
      carrieds = λ importable class keeps keeps' id yes. elim (of_all id) [
        | inl all ↦ ap (λ (m : Marks). m.carried) all
        | inr none ↦ absurd (false≢true (subst (λ (o : Option Declaration). (has_sort is_carried_sort o && list_all class (fields_in o)) ≡ true) none yes))
      ];
    }

whole_first : (ds : List Declared) (ms : List Marks) → ms ≡ map (λ d. all_marks) ds → length ms ≡ length (map declaration_of ds)
whole_first ds ms e = rw e (same_length ds)
  where
    same_length : (ds : List Declared) → length (map (λ d. all_marks) ds) ≡ length (map declaration_of ds)
    same_length [] = refl
    same_length (d ∷ ds) = ap suc (same_length ds)

at_least_first : (ds : List Declared) (ms : List Marks) → ms ≡ map (λ d. all_marks) ds → IsAtLeast (map declaration_of ds) ms
at_least_first ds ms e = record { whole = whole_first ds ms e; greatest = greatest_first ds ms e }

pub at_least_of : {A E : Type 0} (k : List Declaration) (ds : List Declared) → map declaration_of ds ≡ k → (result : Result (Vec Marks A) E) → IfOk result (λ marks. marks.items ≡ map (λ d. all_marks) ds) → IfOk result (λ marks. IsAtLeast k marks.items)
at_least_of k ds are (Ok marks) first = subst (λ (x : List Declaration). IsAtLeast x marks.items) are (at_least_first ds marks.items first)
at_least_of k ds are (Err e) first = tt

-- One declaration loses marks.

-- marks with others at one place: what is found there, or what was found before
set_marked : (ds : List Declared) (ms : List Marks) (place : ℕ) (new : Marks) (d : Declared) (m : Marks) (id : TypeId) → place < length ds → length ms ≡ length (map declaration_of ds)
    → (marked (map declaration_of ds) (slice_set ms place new) id ≡ marked (map declaration_of ds) ms id)
    ⊎ ((found (map declaration_of ds) id ≡ Some (declaration_of (get_or ds place d))) × (marked (map declaration_of ds) (slice_set ms place new) id ≡ new) × (marked (map declaration_of ds) ms id ≡ get_or ms place m))
set_marked [] ms place new d m id below whole = absurd (omega arith)
set_marked (x ∷ ds) [] place new d m id below whole = absurd (omega arith)
set_marked (x ∷ ds) (y ∷ ms) zero new d m id below whole = go (same_id x.id id)
  where
    go : (b : Bool) → (cond b new (marked (map declaration_of ds) ms id) ≡ cond b y (marked (map declaration_of ds) ms id))
        ⊎ ((cond b (Some (declaration_of x)) (found (map declaration_of ds) id) ≡ Some (declaration_of x)) × (cond b new (marked (map declaration_of ds) ms id) ≡ new) × (cond b y (marked (map declaration_of ds) ms id) ≡ y))
    go true = inr (refl, refl, refl)
    go false = inl refl
set_marked (x ∷ ds) (y ∷ ms) (suc place) new d m id below whole = go (same_id x.id id) (set_marked ds ms place new d m id (omega arith) (omega arith))
  where
    rest_old : Marks
    rest_old = marked (map declaration_of ds) ms id

    rest_new : Marks
    rest_new = marked (map declaration_of ds) (slice_set ms place new) id

    go : (b : Bool) → (rest_new ≡ rest_old) ⊎ ((found (map declaration_of ds) id ≡ Some (declaration_of (get_or ds place d))) × (rest_new ≡ new) × (rest_old ≡ get_or ms place m))
        → (cond b y rest_new ≡ cond b y rest_old) ⊎ ((cond b (Some (declaration_of x)) (found (map declaration_of ds) id) ≡ Some (declaration_of (get_or ds place d))) × (cond b y rest_new ≡ new) × (cond b y rest_old ≡ get_or ms place m))
    go true h = inl refl
    go false h = h

-- a fact of an identifier's marks that is true of the old ones, and of those that its declaration keeps
kept_or_same : (P : Marks → Type 0) (k : List Declaration) (marks : List Marks) (d : Declaration) (old new later : Marks) (id : TypeId) → new ≡ kept k marks d old
    → (later ≡ marked k marks id) ⊎ ((found k id ≡ Some d) × (later ≡ new) × (marked k marks id ≡ old)) → P (marked k marks id) → (found k id ≡ Some d → P (kept k marks d (marked k marks id))) → P later
kept_or_same P k marks d old new later id is (inl same) before step = subst P (sym same) before
kept_or_same P k marks d old new later id is (inr h) before step =
    subst P (sym (h.1 ∙ is ∙ ap (kept k marks d) (sym h.2))) (step h.0)

lowered : (ds : List Declared) (marks : List Marks) (place : ℕ) (new : Marks) (d : Declared) (m : Marks) → place < length ds → IsAtLeast (map declaration_of ds) marks
    → new ≡ kept (map declaration_of ds) marks (declaration_of (get_or ds place d)) (get_or marks place m) → IsAtLeast (map declaration_of ds) (slice_set marks place new)
lowered ds marks place new d m below before is =
    let k = map declaration_of ds in
    let x = declaration_of (get_or ds place d) in
    let old = get_or marks place m in
    let here = λ (id : TypeId). set_marked ds marks place new d m id below before.whole in
    let then_marked = marked k (slice_set marks place new) in
    record {
      whole = length-set marks place new ∙ before.whole;
      greatest = record {
        storables = λ class keeps id e. kept_or_same (λ (n : Marks). n.storable ≡ true) k marks x old new (then_marked id) id is (here id) (before.greatest.storables class keeps id e) (λ f.
            subst (λ (o : Option Declaration). (after k marks (kept k marks) o (marked k marks id)).storable ≡ true) f (storable_after k marks before.greatest class keeps (found k id) (marked k marks id) (keeps (declared id) e) (before.greatest.storables class keeps id e)));
        importables = λ class keeps id e. kept_or_same (λ (n : Marks). n.importable ≡ true) k marks x old new (then_marked id) id is (here id) (before.greatest.importables class keeps id e) (λ f.
            subst (λ (o : Option Declaration). (after k marks (kept k marks) o (marked k marks id)).importable ≡ true) f (importable_after k marks before.greatest class keeps (found k id) (marked k marks id) (keeps (declared id) e) (before.greatest.importables class keeps id e)));
        carrieds = λ importable class keeps keeps' id e. kept_or_same (λ (n : Marks). n.carried ≡ true) k marks x old new (then_marked id) id is (here id) (before.greatest.carrieds importable class keeps keeps' id e) (λ f.
            subst (λ (o : Option Declaration). (after k marks (kept k marks) o (marked k marks id)).carried ≡ true) f (carried_after k marks before.greatest importable class keeps keeps' (found k id) (marked k marks id) e (before.greatest.carrieds importable class keeps keeps' id e)));
      };
    }

pub lowered_of : (k : List Declaration) (ds : List Declared) (marks : List Marks) (place : ℕ) (new : Marks) (d : Declared) (m : Marks) → map declaration_of ds ≡ k → place < length ds → IsAtLeast k marks
    → new ≡ kept k marks (declaration_of (get_or ds place d)) (get_or marks place m) → IsAtLeast k (slice_set marks place new)
lowered_of k ds marks place new d m are below before is =
    subst (λ (x : List Declaration). IsAtLeast x (slice_set marks place new)) are
    (lowered ds marks place new d m below (subst (λ (x : List Declaration). IsAtLeast x marks) (sym are) before)
    (subst (λ (x : List Declaration). new ≡ kept x marks (declaration_of (get_or ds place d)) (get_or marks place m)) (sym are) is))
