-- What is read of rows is the World for which they stand.
use Rattle.std.proofs.Common.{◌≡◌, ◌↔◌, true, false, IsTrue, List, [], ◌∷◌, map, Option, Some, None, Result, Ok, Err, refl, sym, ap, subst, ◌∙◌}
use Rattle.std.specs.Prelude.{IfOk, IfSome, ◌&&◌, option_map}
use Rattle.std.proofs.lemmas.Bool.{false≢true}
use Rattle.cad_accounts.specs.KeyOrder.{before, rise}
use Rattle.cad_accounts.specs.Registers.{at, are_rising}
use Rattle.cad_accounts.specs.declared.row.Row.{Row}
use Rattle.cad_codec.specs.Answers.{GivesAs}
use Rattle.cad_loads.specs.Loads.{Loads, loaded_of}
use Rattle.cad_wire.proofs.FieldLaws.{some_is}
use Rattle.cad_wire.specs.declared.error.DecodeError.{DecodeError}
use Rattle.cad_wire.specs.declared.error.DecodeError.TheVariants.{Damaged}
use Rattle.cad_world.specs.Registers.{Register, registers, bytes_under}
use Rattle.cad_world.specs.State as s
use Rattle.cad_worlds.proofs.Items.{told_items}
use Rattle.cad_worlds.proofs.OneWorld.{at_rows, rows_are, made_of, told_by}
use Rattle.cad_worlds.proofs.Rising.{registers_rise_lem}
use Rattle.cad_worlds.specs.Items.{Draft, empty_draft, draft_of, items_of}
use Rattle.cad_worlds.specs.Laws.{register_key}
use Rattle.cad_worlds.specs.Standing.{IsSound, IsSoundButCode, StandsFor, register_of, world_of}
use Rattle.cad_worlds.specs.declared.kept.World.{World}
use Rattle.cad_world_registers.proofs.Again.{made_again}
use Rattle.cad_world_registers.specs.Meaning.{Stands, parts_of}
use Rattle.cad_world_registers.specs.Told.{all_made}
use Rattle.cad_world_registers.specs.declared.parts.Parts.{Parts}

-- ---- what stands there is made again

made_there : (rows : List Row) (v : s.World) → are_rising rows ≡ true → StandsFor (at rows) v → all_made (map register_of rows) empty_draft ≡ Some (draft_of v)
made_there rows v a st =
    ap (λ xs. all_made xs empty_draft) (rows_are rows v a st ∙ sym (told_items v))
    ∙ made_again (items_of v) empty_draft (told_by v st.sound.0 st.has_bytes)
    ∙ ap (λ (d : Draft). Some d) (made_of v st.sound.0)

stands_there : (rows : List Row) (v : s.World) → are_rising rows ≡ true → StandsFor (at rows) v → Stands rows v
stands_there rows v a st = record { sound = st.sound.0; has_bytes = st.has_bytes; are = rows_are rows v a st }

there : (rows : List Row) (w : s.World) → Stands rows w → Loads (map loaded_of w.contracts) → StandsFor (at rows) w
there rows w st loads = record {
  are = λ key. at_rows rows key ∙ ap (λ (xs : List Register). bytes_under xs key) st.are;
  sound = (st.sound, loads);
  has_bytes = st.has_bytes;
}

-- ---- registers of a sound World rise

pub rise_as : (rows : List Row) → are_rising rows ≡ rise register_key (map register_of rows)
rise_as [] = refl
rise_as (x ∷ []) = refl
rise_as (x ∷ y ∷ rows) = ap (λ b. before x.key.0 y.key.0 && b) (rise_as (y ∷ rows))

pub rise_there : (rows : List Row) (w : s.World) → Stands rows w → are_rising rows ≡ true
rise_there rows w st = rise_as rows ∙ ap (rise register_key) st.are ∙ registers_rise_lem w st.sound

-- ---- what is read

-- the same of another name of the World that was made
pub same_found : {E : Type 0} (rows : List Row) (r : Result (Option World) E) (u w : s.World) → u ≡ w → IfOk r (λ o. IfSome o (λ x. (world_of x ≡ u) × Stands rows (world_of x))) → IfOk r (λ o. IfSome o (λ x. (world_of x ≡ w) × Stands rows (world_of x)))
same_found {E} rows r u w e h = subst (λ (z : s.World). IfOk r (λ o. IfSome o (λ x. (world_of x ≡ z) × Stands rows (world_of x)))) e h

pub same_only : {E : Type 0} (rows : List Row) (r : Result (Option World) E) (u w : s.World) → u ≡ w → (Stands rows u → IfOk r (λ o. option_map world_of o ≡ Some u)) → Stands rows w → IfOk r (λ o. option_map world_of o ≡ Some w)
same_only {E} rows r u w e h = subst (λ (z : s.World). Stands rows z → IfOk r (λ o. option_map world_of o ≡ Some z)) e h

pub rising : {E : Type 0} (rows : List Row) (r : Result (Option World) E) → IfOk r (λ o. IfSome o (λ w. Stands rows (world_of w) × Loads (map loaded_of (world_of w).contracts))) → IfOk r (λ o. IfSome o (λ (w : World). are_rising rows ≡ true))
rising rows (Ok (Some w)) h = rise_there rows (world_of w) h.0
rising rows (Ok None) h = tt
rising rows (Err e) h = tt

pub found : {E : Type 0} (rows : List Row) (r : Result (Option World) E) → IfOk r (λ o. IfSome o (λ w. Stands rows (world_of w) × Loads (map loaded_of (world_of w).contracts))) → IfOk r (λ o. IfSome o (λ w. StandsFor (at rows) (world_of w)))
found rows (Ok (Some w)) h = there rows (world_of w) h.0 h.1
found rows (Ok None) h = tt
found rows (Err e) h = tt

pub only : {E : Type 0} (rows : List Row) (made : Parts) (v : s.World) (r : Result (Option World) E) → all_made (map register_of rows) empty_draft ≡ Some (parts_of made)
    → ((u : s.World) → parts_of made ≡ draft_of u → IsSound u → Stands rows u → IfOk r (λ o. option_map world_of o ≡ Some u)) → are_rising rows ≡ true → StandsFor (at rows) v → IfOk r (λ o. option_map world_of o ≡ Some v)
only rows made v r is kept a st = kept v (some_is (parts_of made) (draft_of v) (sym is ∙ made_there rows v a st)) st.sound (stands_there rows v a st)

-- where it is known that they stand for a World, they stand for what is made of them
pub known : {E : Type 0} (rows : List Row) (made : Parts) (v : s.World) (r : Result World E) → all_made (map register_of rows) empty_draft ≡ Some (parts_of made)
    → are_rising rows ≡ true → StandsFor (at rows) v → ((u : s.World) → parts_of made ≡ draft_of u → IsSound u → IfOk r (λ w. world_of w ≡ u)) → IfOk r (λ w. StandsFor (at rows) (world_of w))
known rows made v (Ok w) is a st again =
    subst (StandsFor (at rows)) (sym (again v (some_is (parts_of made) (draft_of v) (sym is ∙ made_there rows v a st)) st.sound)) st
known rows made v (Err e) is a st again = tt

pub none_made : (rows : List Row) (v : s.World) (e : DecodeError) → e ≡ Damaged → GivesAs parts_of (Err e) (all_made (map register_of rows) empty_draft) → are_rising rows ≡ true → StandsFor (at rows) v → ⊥
none_made rows v e is gives a st =
    let none : all_made (map register_of rows) empty_draft ≡ None = subst (λ (x : DecodeError). GivesAs parts_of (Err x) (all_made (map register_of rows) empty_draft)) is gives in
    let wrong : Some (draft_of v) ≡ None = sym (made_there rows v a st) ∙ none in
    absurd cc

-- ---- the test of what was made

pub not_sound : (rows : List Row) (w : s.World) → (IsSoundButCode w → ⊥) → IsTrue false ↔ Stands rows w
not_sound rows w not = ((λ h. absurd (false≢true h)), (λ st. absurd (not st.sound)))
