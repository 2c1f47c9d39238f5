-- One map of registers stands for one World, and rows in order that stand for it are its registers.
use Rattle.std.proofs.Common.{◌≡◌, ℕ, true, cond, List, [], ◌∷◌, map, Some, refl, sym, ap, ◌∙◌}
use Rattle.std.specs.Prelude.{◌&&◌, ◌+◌, length}
use Rattle.std.specs.List.{AllByRecursion}
use Rattle.std.proofs.lemmas.List.Elements.{recursion_from_All}
use Rattle.cad_accounts.proofs.OneSize.{one_list}
use Rattle.cad_accounts.specs.KeyOrder.{before, rise}
use Rattle.cad_accounts.specs.Registers.{Map, same_key, at, are_rising, entry_of}
use Rattle.cad_accounts.specs.declared.row.Row.{Row}
use Rattle.cad_wire.specs.Body.{body_bytes}
use Rattle.cad_loads.specs.Loads.{Loaded, loaded_of, source_of}
use Rattle.cad_world.specs.Registers.{Register, registers, bytes_under, entry}
use Rattle.cad_world.specs.Shapes.{shapes}
use Rattle.cad_world.specs.Sound.{SoundAccount}
use Rattle.cad_world.specs.State.{Contract, Program, World}
use Rattle.cad_worlds.specs.Items.{items_of, IsTold, Draft, empty_draft, put_all, draft_of, programs_of, world_from}
use Rattle.cad_worlds.specs.Laws.{register_key, RowsAreRegisters, OneWorld}
use Rattle.cad_worlds.specs.Standing.{coding, IsSoundButCode, StandsFor, WorldHasBytes, register_of}
use Rattle.cad_worlds.proofs.Items.{told_items, items_told}
use Rattle.cad_worlds.proofs.Known.{are_known}
use Rattle.cad_worlds.proofs.Making.{made, again}
use Rattle.cad_worlds.proofs.OneItem.{told_all}
use Rattle.cad_worlds.proofs.Rising.{registers_rise_lem}
use Rattle.cad_worlds.proofs.Sections.{map_both}

-- ---- rows and registers

abbrev pub row_of : Register → Row
row_of x = record { key = record { 0 = x.key }; value = x.bytes }

pub rows_again : (rows : List Row) → map row_of (map register_of rows) ≡ rows
rows_again [] = refl
rows_again (r ∷ rows) = ap (λ (xs : List Row). r ∷ xs) (rows_again rows)

registers_again : (xs : List Register) → map register_of (map row_of xs) ≡ xs
registers_again [] = refl
registers_again (x ∷ xs) = ap (λ (ys : List Register). x ∷ ys) (registers_again xs)

pub at_rows : (rows : List Row) (key : List ℕ) → at rows key ≡ bytes_under (map register_of rows) key
at_rows [] key = refl
at_rows (r ∷ rows) key = ap (cond (same_key key r.key.0) (Some r.value)) (at_rows rows key)

at_registers : (xs : List Register) (key : List ℕ) → at (map row_of xs) key ≡ bytes_under xs key
at_registers xs key = at_rows (map row_of xs) key ∙ ap (λ (ys : List Register). bytes_under ys key) (registers_again xs)

pub rise_as_rows : (xs : List Register) → are_rising (map row_of xs) ≡ rise register_key xs
rise_as_rows [] = refl
rise_as_rows (x ∷ []) = refl
rise_as_rows (x ∷ y ∷ xs) = ap (λ b. before x.key y.key && b) (rise_as_rows (y ∷ xs))

one_map : (rows : List Row) (xs : List Register) → are_rising rows ≡ true → rise register_key xs ≡ true → ((key : List ℕ) → at rows key ≡ bytes_under xs key) → map register_of rows ≡ xs
one_map rows xs a b same =
    ap (map register_of) (one_list rows (map row_of xs) a (rise_as_rows xs ∙ b) (λ key. same key ∙ sym (at_registers xs key))) ∙ registers_again xs

pub rows_are : (rows : List Row) (w : World) → are_rising rows ≡ true → StandsFor (at rows) w → map register_of rows ≡ registers coding w
rows_are rows w a s = one_map rows (registers coding w) a (registers_rise_lem w s.sound.0) s.are

entries_are : (rows : List Row) → map entry_of rows ≡ map entry (map register_of rows)
entries_are [] = refl
entries_are (r ∷ rows) = ap (λ xs. entry_of r ∷ xs) (entries_are rows)

pub rows_are_registers_lem : RowsAreRegisters
rows_are_registers_lem rows w a s =
    let are = rows_are rows w a s in
    record { are = are; size_is = ap (λ es. 10 + length (body_bytes es)) (entries_are rows ∙ ap (map entry) are) }

-- ---- one World

pub made_of : (w : World) → IsSoundButCode w → put_all (items_of w) empty_draft ≡ draft_of w
made_of w s = made (shapes w.contracts) w (recursion_from_All (SoundAccount (shapes w.contracts)) w.accounts s.accounts) (are_known w s) s.first

pub told_by : (w : World) → IsSoundButCode w → WorldHasBytes w → AllByRecursion IsTold (items_of w)
told_by w s bytes = items_told (shapes w.contracts) w s.few s.next (recursion_from_All (SoundAccount (shapes w.contracts)) w.accounts s.accounts) (are_known w s) bytes

pub world_again : (w : World) → IsSoundButCode w → world_from (draft_of w) (programs_of w) ≡ w
world_again w s = again w (are_known w s)

-- ---- two that stand for one map

same_registers : (m : Map) (w v : World) → StandsFor m w → StandsFor m v → registers coding w ≡ registers coding v
same_registers m w v s t =
    let rises = rise_as_rows (registers coding w) ∙ registers_rise_lem w s.sound.0 in
    sym (registers_again (registers coding w))
    ∙ one_map (map row_of (registers coding w)) (registers coding v) rises (registers_rise_lem v t.sound.0) (λ key. at_registers (registers coding w) key ∙ sym (s.are key) ∙ t.are key)

pub same_drafts : (m : Map) (w v : World) → StandsFor m w → StandsFor m v → draft_of w ≡ draft_of v
same_drafts m w v s t =
    let items = told_all (items_of w) (items_of v) (told_by w s.sound.0 s.has_bytes) (told_by v t.sound.0 t.has_bytes) (told_items w ∙ same_registers m w v s t ∙ sym (told_items v)) in
    sym (made_of w s.sound.0) ∙ ap (λ xs. put_all xs empty_draft) items ∙ made_of v t.sound.0

abbrev program_in : Loaded → Program
program_in c = c.program

loaded_programs : (cs : List Contract) → map program_in (map loaded_of cs) ≡ map (λ c. c.program) cs
loaded_programs cs = sym (map_both program_in loaded_of cs)

pub one_world_lem : OneWorld
one_world_lem known m w v s t =
    let drafts = same_drafts m w v s t in
    let sources = sym (map_both source_of loaded_of w.contracts) ∙ ap (λ (d : Draft). d.sources) drafts ∙ map_both source_of loaded_of v.contracts in
    let loaded = known (map loaded_of w.contracts) (map loaded_of v.contracts) s.sound.1 t.sound.1 sources in
    let programs : programs_of w ≡ programs_of v = sym (loaded_programs w.contracts) ∙ ap (map program_in) loaded ∙ loaded_programs v.contracts in
    sym (world_again w s.sound.0) ∙ (λ i. world_from (drafts i) (programs i)) ∙ world_again v t.sound.0
