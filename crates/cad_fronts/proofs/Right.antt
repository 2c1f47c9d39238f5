-- Front ends that say what is known of codes are right, where this is so.
use Rattle.std.specs.Prelude.{ℕ, ◌≢◌, Bool, true, false, cond, ◌==◌, Option, Some, None, Result, Ok, Err, List, [], ◌∷◌, ◌++◌, ◌&&◌, find, length, map, IfOk, OnOk, OnErr}
use Rattle.std.specs.Cmp.Lexicographic.{pointwise}
use Rattle.std.proofs.Common.{◌≡◌, ◌∙◌, refl, ap, sym, subst, arith}
use Rattle.cad_syntax.specs.declared.address.Address.{Address}
use Rattle.cad_syntax.proofs.Members.{and_both}
use Rattle.cad_syntax.proofs.Same.{lists_tell, numbers_tell}
use Rattle.cad_acceptance.specs.Stops.{FirstStop}
use Rattle.cad_bounds.specs.Fronts.{Extends}
use Rattle.cad_declarations.specs.Imports.{ContractEntry}
use Rattle.cad_declarations.specs.declared.stop.Rejected.{Rejected}
use Rattle.cad_fronts.specs.Code.Saying.{IsOn, IsSo, Says}
use Rattle.cad_fronts.specs.Views.{Known, find_known, is_of, said_by, said_of}
use Rattle.cad_loading.proofs.Again.{sources_tell}
use Rattle.cad_loading.specs.Again.{same_source}
use Rattle.cad_loading.specs.Answers.{Loading}
use Rattle.cad_loads.specs.Fronts.{IsRight, Beside, sources_of}
use Rattle.cad_loads.specs.Loads.{Source, Accepted, source_of, loaded_by, entries_of}
use Rattle.cad_world.specs.Fronts.{Verdict, accepted, refused, unknown, said}
use Rattle.cad_world.specs.State.{Program, Contract}

-- ---- what is said

abbrev is_silence : Verdict → Type 0
is_silence (accepted p) = ⊥
is_silence refused = ⊥
is_silence unknown = Unit {0}

abbrev is_refusal : Verdict → Type 0
is_refusal (accepted p) = ⊥
is_refusal refused = Unit {0}
is_refusal unknown = ⊥

abbrev program_or : Program → Verdict → Program
program_or q (accepted p) = p
program_or q refused = q
program_or q unknown = q

said_accepted : (o : Option Program) (p : Program) → said o ≡ accepted p → o ≡ Some p
said_accepted None p e = absurd (subst is_refusal e tt)
said_accepted (Some q) p e = ap (λ (v : Verdict). Some (program_or q v)) e

said_refused : (o : Option Program) → said o ≡ refused → o ≡ None
said_refused None e = refl
said_refused (Some q) e = absurd (subst is_refusal (sym e) tt)

-- ---- no codes

pub none_right : IsRight (said_by [])
none_right = record {
  accepts = λ contracts address code p e. absurd (subst is_silence e tt);
  refuses = λ contracts address code e. absurd (subst is_silence e tt);
}

-- ---- one code more

-- what is known of this code is of these contracts, this address and this code
is_of_it : (sources : List Source) (address : Address) (code : List ℕ) (k : Known) → is_of sources address code k ≡ true
    → (k.sources ≡ sources) × (k.address ≡ address) × (k.code ≡ code)
is_of_it sources address code k e =
    let both = and_both (k.address.0 == address.0) (pointwise ◌==◌ k.code code && pointwise same_source k.sources sources) e in
    let rest = and_both (pointwise ◌==◌ k.code code) (pointwise same_source k.sources sources) both.1 in (
      (lists_tell same_source sources_tell k.sources sources).0 rest.1,
      ap (λ (n : ℕ). record { 0 = n }) ((numbers_tell k.address.0 address.0).0 both.0),
      (lists_tell ◌==◌ numbers_tell k.code code).0 rest.0,
    )

says_of : (d : List ContractEntry) (a b : Address) (x y : List ℕ) (o q : Option Program) → a ≡ b → x ≡ y → o ≡ q → Says d a x o → Says d b y q
says_of d a b x y o q address code program h =
    subst (λ (r : Option Program). Says d b y r) program
    (subst (λ (t : List ℕ). Says d b t o) code
    (subst (λ (n : Address). Says d n x o) address h))

-- so it holds beside these contracts
beside_by : (k : Known) → IsSo k → (contracts : List Contract) (address : Address) (code : List ℕ) (q : Option Program)
    → is_of (sources_of contracts) address code k ≡ true → k.program ≡ q → Beside contracts (λ deployed. Says deployed address code q)
beside_by k so contracts address code q is program =
    let same = is_of_it (sources_of contracts) address code k is in
    record {
      loaded = so.loaded;
      loads = so.loads;
      sources = so.sources ∙ same.0;
      holds = says_of (entries_of so.loaded) k.address address k.code code k.program q same.1 same.2 program so.says;
    }

abbrev or_last : Option Known → Option Known → Option Known
or_last (Some k) last = Some k
or_last None last = last

find_behind : (test : Known → Bool) (xs ys : List Known) → find test (xs ++ ys) ≡ or_last (find test xs) (find test ys)
find_behind test [] ys = refl
find_behind test (x ∷ xs) ys = by_test (test x) (find_behind test xs ys)
  where
    by_test : (b : Bool) → find test (xs ++ ys) ≡ or_last (find test xs) (find test ys) → cond b (Some x) (find test (xs ++ ys)) ≡ or_last (cond b (Some x) (find test xs)) (find test ys)
    by_test true rest = refl
    by_test false rest = rest

module _ (olds : List Known) (k : Known) (so : IsSo k) (right : IsRight (said_by olds)) where
  accepts_with : (contracts : List Contract) (address : Address) (code : List ℕ) (p : Program) → said_by (olds ++ k ∷ []) contracts address code ≡ accepted p
      → Beside contracts (λ deployed. Accepted deployed address code p)
  accepts_with contracts address code p e =
      by_old (find_known olds (sources_of contracts) address code) refl (is_of (sources_of contracts) address code k) refl
      (sym (ap said_of (find_behind (is_of (sources_of contracts) address code) olds (k ∷ []))) ∙ e)
    where
      by_old : (o : Option Known) → find_known olds (sources_of contracts) address code ≡ o → (b : Bool) → is_of (sources_of contracts) address code k ≡ b
          → said_of (or_last o (cond b (Some k) None)) ≡ accepted p → Beside contracts (λ deployed. Accepted deployed address code p)
      by_old (Some old) is b of h = right.accepts contracts address code p (ap said_of is ∙ h)
      by_old None is true of h = beside_by k so contracts address code (Some p) of (said_accepted k.program p h)
      by_old None is false of h = absurd (subst is_silence h tt)

  refuses_with : (contracts : List Contract) (address : Address) (code : List ℕ) → said_by (olds ++ k ∷ []) contracts address code ≡ refused
      → Beside contracts (λ deployed. (r : Rejected) × FirstStop deployed (Some address) code r)
  refuses_with contracts address code e =
      by_old (find_known olds (sources_of contracts) address code) refl (is_of (sources_of contracts) address code k) refl
      (sym (ap said_of (find_behind (is_of (sources_of contracts) address code) olds (k ∷ []))) ∙ e)
    where
      by_old : (o : Option Known) → find_known olds (sources_of contracts) address code ≡ o → (b : Bool) → is_of (sources_of contracts) address code k ≡ b
          → said_of (or_last o (cond b (Some k) None)) ≡ refused → Beside contracts (λ deployed. (r : Rejected) × FirstStop deployed (Some address) code r)
      by_old (Some old) is b of h = right.refuses contracts address code (ap said_of is ∙ h)
      by_old None is true of h = beside_by k so contracts address code None of (said_refused k.program h)
      by_old None is false of h = absurd (subst is_silence h tt)

  right_with : IsRight (said_by (olds ++ k ∷ []))
  right_with = record { accepts = accepts_with; refuses = refuses_with }

is_on_it : (sources : List Source) (address : Address) (code : List ℕ) (k : Known) → IsOn sources address code k → is_of sources address code k ≡ true
is_on_it sources address code k on =
    rw (
      (numbers_tell k.address.0 address.0).1 (ap (λ (a : Address). a.0) on.same_address),
      (lists_tell ◌==◌ numbers_tell k.code code).1 on.same_code,
      (lists_tell same_source sources_tell k.sources sources).1 on.same_sources,
    ) refl

-- what was said stays, and of the code something is said
says_more : (olds : List Known) (k : Known) → Extends (said_by olds) (said_by (olds ++ k ∷ []))
says_more olds k contracts address code says =
    ap said_of (find_behind (is_of (sources_of contracts) address code) olds (k ∷ [])) ∙ by_old (find_known olds (sources_of contracts) address code) says
  where
    by_old : (o : Option Known) → said_of o ≢ unknown → said_of (or_last o (find (is_of (sources_of contracts) address code) (k ∷ []))) ≡ said_of o
    by_old (Some old) h = refl
    by_old None h = absurd (h refl)

something : (q : Option Program) → said q ≡ unknown → ⊥
something None e = subst is_refusal e tt
something (Some p) e = subst is_silence (sym e) tt

says_it : (olds : List Known) (k : Known) (sources : List Source) (address : Address) (code : List ℕ) → IsOn sources address code k
    → said_of (find_known (olds ++ k ∷ []) sources address code) ≢ unknown
says_it olds k sources address code on e =
    by_old (find_known olds sources address code)
    (sym (ap said_of (find_behind (is_of sources address code) olds (k ∷ [])
    ∙ ap (λ (b : Bool). or_last (find_known olds sources address code) (cond b (Some k) None)) (is_on_it sources address code k on))) ∙ e)
  where
    by_old : (o : Option Known) → said_of (or_last o (Some k)) ≡ unknown → ⊥
    by_old (Some old) h = something old.program h
    by_old None h = something k.program h

-- whether or not there was memory for it
module _ {T E : Type 0} (olds news : List Known) (k : Known) where
  pub stays_right : (r : Result T E) → IsSo k → OnOk r (news ≡ olds ++ k ∷ []) → OnErr r (news ≡ olds) → IsRight (said_by olds) → IsRight (said_by news)
  stays_right (Ok x) so added stays right = subst (λ (all : List Known). IsRight (said_by all)) (sym added) (right_with olds k so right)
  stays_right (Err x) so added stays right = subst (λ (all : List Known). IsRight (said_by all)) (sym stays) right

  pub stays_said : (r : Result T E) → OnOk r (news ≡ olds ++ k ∷ []) → OnErr r (news ≡ olds) → Extends (said_by olds) (said_by news)
  stays_said (Ok x) added stays = subst (λ (all : List Known). Extends (said_by olds) (said_by all)) (sym added) (says_more olds k)
  stays_said (Err x) added stays = subst (λ (all : List Known). Extends (said_by olds) (said_by all)) (sym stays) (λ contracts address code h. refl)

  pub said_now : (r : Result T E) (sources : List Source) (address : Address) (code : List ℕ) → IsOn sources address code k → OnOk r (news ≡ olds ++ k ∷ [])
      → OnOk r (said_of (find_known news sources address code) ≢ unknown)
  said_now (Ok x) sources address code on added = subst (λ (all : List Known). said_of (find_known all sources address code) ≢ unknown) (sym added) (says_it olds k sources address code on)
  said_now (Err x) sources address code on added = added

-- ---- a verdict

sources_by : (sources : List Source) (programs : List Program) → length programs ≡ length sources → map source_of (loaded_by sources programs) ≡ sources
sources_by [] programs e = refl
sources_by (s ∷ sources) [] e = absurd (omega arith)
sources_by (s ∷ sources) (p ∷ programs) e = ap (λ (all : List Source). s ∷ all) (sources_by sources programs (omega arith))

-- beside contracts that were loaded
so_beside : {X E : Type 0} (view : X → Option Program) (sources : List Source) (programs : List Program) (address : Address) (code : List ℕ) (r : Result X E)
    → Loading sources (Some programs) → IfOk r (λ o. Says (entries_of (loaded_by sources programs)) address code (view o))
    → IfOk r (λ o. IsSo (record { sources = sources; address = address; code = code; program = view o }))
so_beside view sources programs address code (Ok o) loading h = record {
  loaded = loaded_by sources programs;
  loads = loading.1;
  sources = sources_by sources programs loading.0;
  says = h;
}
so_beside view sources programs address code (Err e) loading h = h

pub so_in : {X E A : Type 0} (view : X → Option Program) (program : A → Program) (sources : List Source) (xs ys : List A) (address : Address) (code : List ℕ) (r : Result X E)
    → ys ≡ xs → Loading sources (Some (map program xs)) → IfOk r (λ o. Says (entries_of (loaded_by sources (map program ys))) address code (view o))
    → IfOk r (λ o. IsSo (record { sources = sources; address = address; code = code; program = view o }))
so_in {X} {E} {A} view program sources xs ys address code r same loading h =
    so_beside view sources (map program ys) address code r (subst (λ (all : List A). Loading sources (Some (map program all))) (sym same) loading) h
