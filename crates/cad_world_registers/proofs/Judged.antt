-- Rows are the registers of the World that they make, where they rise, begin with its front and are as many.
use Rattle.std.proofs.Common.{◌≡◌, ◌↔◌, ℕ, ◌+◌, Bool, true, false, IsTrue, List, [], ◌∷◌, ◌++◌, map, length, Some, Result, Ok, Err, refl, sym, ap, subst, ◌∙◌, append_assoc, arith}
use Rattle.std.specs.Prelude.{IfOk}
use Rattle.std.specs.List.{AllByRecursion, flat_map}
use Rattle.std.proofs.lemmas.Bool.{false≢true}
use Rattle.std.proofs.lemmas.List.{length-append, length-map}
use Rattle.cad_accounts.proofs.Order.{both, both_left, both_right}
use Rattle.cad_accounts.specs.KeyOrder.{before}
use Rattle.cad_accounts.specs.Registers.{are_rising}
use Rattle.cad_accounts.specs.declared.row.Row.{Row}
use Rattle.cad_wire.proofs.FieldLaws.{bind_some}
use Rattle.cad_world.specs.Registers.{Register, code_register, fields_registers, head_registers, next_register, of_accounts, registers}
use Rattle.cad_world.specs.State as s
use Rattle.cad_worlds.proofs.Rising.{registers_rise_lem}
use Rattle.cad_worlds.specs.Items.{Draft, empty_draft}
use Rattle.cad_worlds.specs.Standing.{coding, IsSoundButCode, WorldHasBytes, register_of}
use Rattle.cad_world_registers.proofs.InOrder.{IsIn, all_in, one_list}
use Rattle.cad_world_registers.proofs.ReadBack.{rise_as, rise_there}
use Rattle.cad_world_registers.proofs.Says.{DraftSays, made_says, back_says, back_count, world_bytes}
use Rattle.cad_world_registers.specs.Exact.{IsMadeOf, RowFits, RegisterFits, counted}
use Rattle.cad_world_registers.specs.Meaning.{Stands}
use Rattle.cad_world_registers.specs.Listed.{Begin, DontBegin, back, front, rise_behind}
use Rattle.cad_world_registers.specs.Told.{all_made, make_one}

-- ---- any registers

both_in : (all xs ys : List Register) → AllByRecursion (IsIn all) xs → AllByRecursion (IsIn all) ys → AllByRecursion (IsIn all) (xs ++ ys)
both_in all [] ys p q = q
both_in all (x ∷ xs) ys p q = (p.0, both_in all xs ys p.1 q)

front_in : (all xs ys : List Register) → AllByRecursion (IsIn all) (xs ++ ys) → AllByRecursion (IsIn all) xs
front_in all [] ys h = tt
front_in all (x ∷ xs) ys h = (h.0, front_in all xs ys h.1)

all_fit : (rows : List Row) → AllByRecursion RowFits rows → AllByRecursion RegisterFits (map register_of rows)
all_fit [] h = tt
all_fit (r ∷ rows) h = (h.0, all_fit rows h.1)

-- ---- rows that rise

rise_from : (key : List ℕ) (rows : List Row) → rise_behind key rows ≡ true → are_rising rows ≡ true
rise_from key [] e = refl
rise_from key (r ∷ []) e = refl
rise_from key (r ∷ t ∷ rows) e =
    let rest = both_right (before key r.key.0) (rise_behind r.key.0 (t ∷ rows)) e in
    both (before r.key.0 t.key.0) (are_rising (t ∷ rows)) (both_left (before r.key.0 t.key.0) (rise_behind t.key.0 rows) rest) (rise_from r.key.0 (t ∷ rows) rest)

rise_after : (r : Row) (rows : List Row) → are_rising (r ∷ rows) ≡ true → rise_behind r.key.0 rows ≡ true
rise_after r [] e = refl
rise_after r (t ∷ rows) e = both (before r.key.0 t.key.0) (rise_behind t.key.0 rows) (both_left (before r.key.0 t.key.0) (are_rising (t ∷ rows)) e) (rise_after t rows (both_right (before r.key.0 t.key.0) (are_rising (t ∷ rows)) e))

-- what a row says has a key that isn't empty
key_there : (key bytes : List ℕ) (d e : Draft) → make_one key bytes d ≡ Some e → before [] key ≡ true
key_there [] bytes d e h = absurd cc
key_there (k ∷ key) bytes d e h = refl

rise_to : (rows : List Row) (d : Draft) → all_made (map register_of rows) empty_draft ≡ Some d → are_rising rows ≡ true → rise_behind [] rows ≡ true
rise_to [] d h e = refl
rise_to (r ∷ rows) d h e =
    let a = bind_some (make_one r.key.0 r.value empty_draft) (λ f. all_made (map register_of rows) f) d h in
    both (before [] r.key.0) (rise_behind r.key.0 rows) (key_there r.key.0 r.value empty_draft a.0 a.1) (rise_after r rows e)

-- ---- registers in two parts

regroup : (a b c d e : List Register) → a ++ (b ++ (c ++ (d ++ e))) ≡ (a ++ (b ++ (c ++ d))) ++ e
regroup a b c d e = simp append_assoc

front_and_back : (w : s.World) → registers coding w ≡ front w ++ back w.accounts
front_and_back w = regroup (head_registers w) (of_accounts next_register 1 w.accounts) (map code_register w.contracts) (flat_map (fields_registers coding) w.contracts) (back w.accounts)

-- ---- the rows that make a World

module _ (rows : List Row) (w : s.World) (fits : AllByRecursion RowFits rows) (made : IsMadeOf rows w) where
  abbrev all : List Register
  all = map register_of rows

  says : DraftSays (IsIn all) made.draft
  says = made_says (IsIn all) all made.draft (all_fit rows fits) (all_in all) made.made

  bytes_are : WorldHasBytes w
  bytes_are = subst WorldHasBytes (sym made.is) (world_bytes (IsIn all) made.draft made.programs says)

  accounts_are : made.draft.accounts ≡ w.accounts
  accounts_are = ap (λ (u : s.World). u.accounts) (sym made.is)

  back_in : AllByRecursion (IsIn all) (back w.accounts)
  back_in = subst (λ (xs : List s.Account). AllByRecursion (IsIn all) (back xs)) accounts_are (back_says (IsIn all) made.draft.accounts says.accounts)

  back_long : length (back w.accounts) ≡ counted w.accounts
  back_long = subst (λ (xs : List s.Account). length (back xs) ≡ counted xs) accounts_are (back_count (IsIn all) made.draft.accounts says.accounts)

  -- as many registers
  all_long : length (registers coding w) ≡ length (front w) + counted w.accounts
  all_long = ap length (front_and_back w) ∙ length-append (front w) (back w.accounts) ∙ ap (λ (n : ℕ). length (front w) + n) back_long

  -- they are its registers
  are_registers : (left : List Row) → IsSoundButCode w → rise_behind [] rows ≡ true → Begin (front w) rows left → length left ≡ counted w.accounts → Stands rows w
  are_registers left sound rising begin long =
      let front_is_in = front_in all (front w) (map register_of left) (subst (AllByRecursion (IsIn all)) begin (all_in all)) in
      let among : AllByRecursion (IsIn all) (registers coding w) = subst (AllByRecursion (IsIn all)) (sym (front_and_back w)) (both_in all (front w) (back w.accounts) front_is_in back_in) in
      let as_long : length all ≡ length (registers coding w) =
      ap length begin ∙ length-append (front w) (map register_of left) ∙ ap (λ (n : ℕ). length (front w) + n) (length-map left register_of ∙ long) ∙ sym all_long in
      record {
        sound = sound;
        has_bytes = bytes_are;
        are = sym (one_list (registers coding w) all (registers_rise_lem w sound) (sym (rise_as rows) ∙ rise_from [] rows rising) among as_long);
      }

  -- so are those of the World
  as_many_so : (left : List Row) → Begin (front w) rows left → Stands rows w → length left ≡ counted w.accounts
  as_many_so left begin st =
      let behind : length all ≡ length (front w) + length left = ap length begin ∙ length-append (front w) (map register_of left) ∙ ap (λ (n : ℕ). length (front w) + n) (length-map left register_of) in
      let counts : length all ≡ length (front w) + counted w.accounts = ap length st.are ∙ all_long in
      omega (arith, behind, counts)

-- ---- the tests

pub out_of_order : (rows : List Row) (w : s.World) (b : Bool) → IsMadeOf rows w → b ≡ false → (IsTrue b ↔ (rise_behind [] rows ≡ true)) → IsTrue false ↔ Stands rows w
out_of_order rows w b made fails tells = ((λ h. absurd (false≢true h)), (λ st. absurd (false≢true (sym fails ∙ tells.1 (rise_to rows made.draft made.made (rise_there rows w st))))))

pub other_front : (rows : List Row) (w : s.World) → DontBegin (front w) rows → IsTrue false ↔ Stands rows w
other_front rows w none = ((λ h. absurd (false≢true h)), (λ st. absurd (none (back w.accounts) (st.are ∙ front_and_back w))))

pub judged : {E : Type 0} (rows left : List Row) (w : s.World) (r : Result Bool E) → AllByRecursion RowFits rows → IsMadeOf rows w → IsSoundButCode w → rise_behind [] rows ≡ true → Begin (front w) rows left
    → IfOk r (λ b. IsTrue b ↔ (length left ≡ counted w.accounts)) → IfOk r (λ b. IsTrue b ↔ Stands rows w)
judged rows left w (Ok b) fits made sound rising begin tells = ((λ h. are_registers rows w fits made left sound rising begin (tells.0 h)), (λ st. tells.1 (as_many_so rows w fits made left begin st)))
judged rows left w (Err e) fits made sound rising begin tells = tt
