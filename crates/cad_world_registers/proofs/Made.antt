-- Rows that are taken one by one make what their registers make.
use Rattle.std.proofs.Common.{◌≡◌, ℕ, suc, ◌<◌, ◌≤◌, List, [], ◌∷◌, ◌++◌, map, length, drop, get_or, Option, Some, None, Err, refl, sym, ap, ◌∙◌}
use Rattle.std.proofs.lemmas.List.{map-append}
use Rattle.cad_accounts.specs.declared.row.Row.{Row}
use Rattle.cad_codec.specs.Answers.{GivesAs}
use Rattle.cad_wire.specs.Fields.{◌>>=◌}
use Rattle.cad_wire.specs.declared.error.DecodeError.{DecodeError}
use Rattle.cad_wire.specs.declared.error.DecodeError.TheVariants.{Damaged, Memory}
use Rattle.cad_worlds.proofs.Lists.{none_past, from_item}
use Rattle.cad_world.specs.Registers.{Register}
use Rattle.cad_worlds.specs.Standing.{register_of}
use Rattle.cad_world_registers.specs.Told.{one_by_one}

-- what a reader gave that stopped so, whatever it is seen by
abbrev Refuses : {D : Type 0} → DecodeError → Option D → Type 0
Refuses {D} e o = GivesAs {A = D} (λ (d : D). d) (Err e) o

module _ {D : Type 0} (step : List ℕ → List ℕ → D → Option D) where
  abbrev taken : List Register → D → Option D
  taken = one_by_one step

  -- what is made of the rows from one on
  from_row : (rows : List Row) (i : ℕ) (row : Row) (now : D) → i < length rows → row ≡ get_or rows i row
      → taken (map register_of (drop i rows)) now ≡ (step row.key.0 row.value now >>= λ v. taken (map register_of (drop (suc i) rows)) v)
  from_row rows i row now inside is = ap (λ (l : List Row). taken (map register_of l) now) (from_item rows i row inside is)

  pub row_taken : (rows : List Row) (i : ℕ) (row : Row) (now new : D) (all : Option D) → i < length rows → row ≡ get_or rows i row → taken (map register_of (drop i rows)) now ≡ all → step row.key.0 row.value now ≡ Some new
      → taken (map register_of (drop (suc i) rows)) new ≡ all
  row_taken rows i row now new all inside is so_far done =
      sym (from_row rows i row now inside is ∙ ap (λ (o : Option D). o >>= λ v. taken (map register_of (drop (suc i) rows)) v) done) ∙ so_far

  pub row_refused : (rows : List Row) (i : ℕ) (row : Row) (now : D) (all : Option D) (e : DecodeError) → i < length rows → row ≡ get_or rows i row → taken (map register_of (drop i rows)) now ≡ all
      → Refuses e (step row.key.0 row.value now) → Refuses e all
  row_refused rows i row now all Damaged inside is so_far none =
      sym so_far ∙ from_row rows i row now inside is ∙ ap (λ (o : Option D). o >>= λ v. taken (map register_of (drop (suc i) rows)) v) none
  row_refused rows i row now all Memory inside is so_far none = tt

  -- ---- rows in parts

  bind_both : (o : Option D) (f g h : D → Option D) → ((d : D) → h d ≡ (f d >>= g)) → (o >>= h) ≡ ((o >>= f) >>= g)
  bind_both None f g h e = refl
  bind_both (Some d) f g h e = e d

  both_taken : (xs ys : List Register) (d : D) → taken (xs ++ ys) d ≡ (taken xs d >>= λ v. taken ys v)
  both_taken [] ys d = refl
  both_taken (x ∷ xs) ys d = bind_both (step x.key x.bytes d) (λ v. taken xs v) (λ v. taken ys v) (λ v. taken (xs ++ ys) v) (λ v. both_taken xs ys v)

  pub rows_both : (xs ys : List Row) (d : D) → taken (map register_of (xs ++ ys)) d ≡ (taken (map register_of xs) d >>= λ v. taken (map register_of ys) v)
  rows_both xs ys d = ap (λ (l : List Register). taken l d) (map-append register_of xs ys) ∙ both_taken (map register_of xs) (map register_of ys) d

  part_first : (rest xs ys : List Row) (now : D) → rest ≡ xs ++ ys → taken (map register_of rest) now ≡ (taken (map register_of xs) now >>= λ v. taken (map register_of ys) v)
  part_first rest xs ys now parts = ap (λ (l : List Row). taken (map register_of l) now) parts ∙ rows_both xs ys now

  pub part_taken : (rest xs ys : List Row) (now new : D) (all : Option D) → rest ≡ xs ++ ys → taken (map register_of rest) now ≡ all → taken (map register_of xs) now ≡ Some new → taken (map register_of ys) new ≡ all
  part_taken rest xs ys now new all parts so_far done =
      sym (part_first rest xs ys now parts ∙ ap (λ (o : Option D). o >>= λ v. taken (map register_of ys) v) done) ∙ so_far

  pub part_refused : (rest xs ys : List Row) (now : D) (all : Option D) (e : DecodeError) → rest ≡ xs ++ ys → taken (map register_of rest) now ≡ all → Refuses e (taken (map register_of xs) now) → Refuses e all
  part_refused rest xs ys now all Damaged parts so_far none = sym so_far ∙ part_first rest xs ys now parts ∙ ap (λ (o : Option D). o >>= λ v. taken (map register_of ys) v) none
  part_refused rest xs ys now all Memory parts so_far none = tt

  pub parts_taken : (rest : List Row) (now : D) (all : Option D) → rest ≡ [] → taken (map register_of rest) now ≡ all → all ≡ Some now
  parts_taken rest now all none so_far = sym so_far ∙ ap (λ (l : List Row). taken (map register_of l) now) none

  -- ---- row by row, to the last

  pub rows_taken : (rows : List Row) (i : ℕ) (now : D) (all : Option D) → length rows ≤ i → taken (map register_of (drop i rows)) now ≡ all → all ≡ Some now
  rows_taken rows i now all outside so_far = sym so_far ∙ ap (λ (l : List Row). taken (map register_of l) now) (none_past rows i outside)
