-- Values in hand that have no labels, and the forms that ask for it.
use Rattle.std.proofs.Common.{◌≡◌, ℕ, nat_le, Bool, true, false, List, [], ◌∷◌, Option, Some, None, option_map, option_and_then, if◌then◌else◌, ℤ, pos, negsuc, refl, ap, ◌∙◌}
use Rattle.std.specs.Prelude.{length, nat_lt}
use Rattle.std.specs.Str.{is_utf8}
use Rattle.cad_syntax.specs.Types.{PureType, reference}
use Rattle.cad_syntax.specs.declared.address.Address.{Address}
use Rattle.cad_syntax.specs.declared.kind.Kind.TheVariants as k
use Rattle.cad_declarations.specs.Tables.{TypeEntry}
use Rattle.cad_declarations.specs.Typed as e
use Rattle.cad_types.specs.Below.{below}
use Rattle.cad_values.specs.Fits.{most_elements}
use Rattle.cad_world.specs.Declared.{declarations}
use Rattle.cad_world.specs.Marks.{marks}
use Rattle.cad_world.specs.OwnTypes.{own_type}
use Rattle.cad_world.specs.Rows.{Row, Tree, first}
use Rattle.cad_world.specs.State.{Controller, Action}
use Rattle.cad_world.specs.Trees.{wrapped, whole, nil_tree}
use Rattle.cad_evaluation.specs.Accounts.{account_reference}
use Rattle.cad_evaluation.specs.Capabilities.{reference_if, found_controller}
use Rattle.cad_evaluation.specs.Changing.{opened}
use Rattle.cad_evaluation.specs.Containers.{of_type, room}
use Rattle.cad_evaluation.specs.Flows.{Flow, next, returned, broken, continued}
use Rattle.cad_evaluation.specs.Making.{case_of, case_at}
use Rattle.cad_evaluation.specs.Numbers.{number_of, number_tree}
use Rattle.cad_evaluation.specs.Reading.{unsigned_64}
use Rattle.cad_evaluation.specs.Texts.{int_tree, bytes_row, text_of_bytes, text_tree}
use Rattle.cad_evaluation.specs.Uses.{Pair, Table, wrapped_if, taken_if}
use Rattle.cad_runs.specs.Run.{signer_row}
use Rattle.cad_labels.specs.Laws.{HasNone, HasNoneInRow, Keeps}
use Rattle.cad_labels.proofs.Places.{content_gives}
use Rattle.cad_labels.proofs.Forms.{keeps_require, keeps_or_fail, Within, mapped_within, stop_none, first_none}

-- ---- what is in hand

abbrev pub FlowHasNone : Flow → Type 0
FlowHasNone next = Unit {0}
FlowHasNone (returned t) = HasNone t
FlowHasNone broken = Unit {0}
FlowHasNone continued = Unit {0}

abbrev pub MaybeHasNone : Option Tree → Type 0
MaybeHasNone o = Within HasNone o

abbrev pub PairHasNone : Pair → Type 0
PairHasNone p = HasNone p.value

abbrev pub PairsHaveNone : List Pair → Type 0
PairsHaveNone [] = Unit {0}
PairsHaveNone (p ∷ ps) = PairHasNone p × PairsHaveNone ps

abbrev pub TableHasNone : Table → Type 0
TableHasNone t = HasNoneInRow t.values

-- ---- forms

pub of_type_keeps : {A : Type 0} (P : A → Type 0) (type : PureType) (t : Tree) (p : Action A) → Keeps P p → Keeps P (of_type type t p)
of_type_keeps P type t p h = λ s once. keeps_or_fail P 113 (own_type s t) _ (λ own. keeps_require P 129 (below (declarations s) own type) p h) s once

pub room_keeps : {A : Type 0} (P : A → Type 0) (n : ℕ) (p : Action A) → Keeps P p → Keeps P (room n p)
room_keeps P n p h = keeps_require P 123 (nat_le n most_elements) p h

-- the content of an optional has the labels of the optional
same_parts : (x t : Tree) → x.parts ≡ t.parts → HasNone t → HasNone x
same_parts x t same none p = ap (marks p) same ∙ none p

pub opened_keeps : {A : Type 0} (P : A → Type 0) (t : Tree) (p : Action A) (f : Tree → Action A) → HasNone t → Keeps P p → ((x : Tree) → HasNone x → Keeps P (f x)) → Keeps P (opened t p f)
opened_keeps P t p f none h k = λ s once. content_gives P t p f s (h s once) (λ x same. k x (same_parts x t same none) s once)

-- ---- what may be there

pub then_within : {A B : Type 0} (P : B → Type 0) (f : A → Option B) (o : Option A) → ((a : A) → Within P (f a)) → Within P (option_and_then f o)
then_within P f None h = tt
then_within P f (Some a) h = h a

pub int_none : (n : ℕ) → Within HasNone (int_tree n)
int_none n = mapped_within HasNone number_tree (number_of k.Int false n) (λ x p. refl)

pub unsigned_none : (n : ℕ) → Within HasNone (unsigned_64 n)
unsigned_none n = mapped_within HasNone number_tree (number_of k.UInt64 false n) (λ x p. refl)

first_within : (t : Tree) → HasNone t → (o : Option Row) → Within HasNoneInRow o → Within HasNoneInRow (option_map (first t) o)
first_within t none None h = tt
first_within t none (Some r) h = first_none t r none h

pub bytes_none : (xs : List ℕ) → Within HasNoneInRow (bytes_row xs)
bytes_none [] = stop_none
bytes_none (x ∷ xs) = then_within HasNoneInRow (λ n. option_map (first (number_tree n)) (bytes_row xs)) (number_of k.UInt8 false x)
    (λ n. first_within (number_tree n) (λ p. refl) (bytes_row xs) (bytes_none xs))

-- ---- values

pub account_none : (type : PureType) (a : Address) → HasNone (account_reference type a)
account_none (reference own type) a p = refl
account_none type a p = refl

pub case_none : (entry : TypeEntry) (n : ℕ) → Within HasNone (case_of entry n)
case_none entry n = then_within HasNone (λ kind. option_map (λ x. whole _ (first (number_tree x) _)) (number_of kind false n)) entry.raw
    (λ kind. mapped_within HasNone (λ x. whole _ (first (number_tree x) _)) (number_of kind false n) (λ x p. refl))

wrapped_within : (o : Option Tree) → Within HasNone o → Within HasNone (option_map wrapped o)
wrapped_within None h = tt
wrapped_within (Some t) h = h

pub case_at_none : (entry : TypeEntry) (z : ℤ) → Within HasNone (case_at entry z)
case_at_none entry (negsuc n) = λ p. refl
case_at_none entry (pos n) = go (nat_lt n (length entry.cases))
  where
    go : (b : Bool) → Within HasNone (if b then option_map wrapped (case_of entry n) else Some nil_tree)
    go true = wrapped_within (case_of entry n) (case_none entry n)
    go false = λ p. refl

pub reference_none : (b : Bool) (t : Tree) → HasNone t → Within HasNone (reference_if b t)
reference_none true t h = h
reference_none false t h = tt

pub controller_none : (a : Address) (n : ℕ) (o : Option Controller) → HasNone (found_controller a n o)
controller_none a n None p = refl
controller_none a n (Some c) p = refl

pub wrapped_none : (b : Bool) (t : Tree) → HasNone t → HasNone (wrapped_if b t)
wrapped_none true t h = h
wrapped_none false t h = h

pub taken_none : (b : Bool) (t inside : Tree) → HasNone t → HasNone inside → HasNone (taken_if b t inside)
taken_none true t inside h k = k
taken_none false t inside h k = h

pub text_none : (xs : List ℕ) → HasNone (text_of_bytes xs)
text_none xs = go (is_utf8 xs)
  where
    go : (b : Bool) → HasNone (if b then wrapped (text_tree xs) else nil_tree)
    go true = λ p. refl
    go false = λ p. refl

pub signers_none : (xs : List e.VariableEntry) (signers : List Address) → HasNoneInRow (signer_row xs signers)
signers_none (x ∷ xs) (a ∷ more) = first_none (account_reference x.type a) (signer_row xs more) (account_none x.type a) (signers_none xs more)
signers_none _ _ = stop_none
