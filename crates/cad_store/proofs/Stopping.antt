-- Why a store could not be opened.
use Rattle.std.proofs.Common.{◌≡◌, List, ℕ, None, Result, Err, refl, sym, ◌∙◌, subst}
use Rattle.std.specs.Prelude.{IsTrue, ◌↔◌, Bool, false}
use Rattle.cad_host.specs.declared.host.Tape.{Tape}
use Rattle.cad_host.specs.declared.host.Tape.TheVariants.{Pick}
use Rattle.cad_tape.specs.declared.stop.ScanStop.{ScanStop}
use Rattle.cad_tape.specs.declared.stop.ScanStop.TheVariants as scan
use Rattle.cad_tape.specs.Reading.{tape_reading, chosen}
use Rattle.cad_accounts.specs.Registers.{Map}
use Rattle.cad_store.specs.declared.stops.OpenStop.{OpenStop}
use Rattle.cad_store.specs.declared.stops.OpenStop.TheVariants.{BadStore}
use Rattle.cad_store.specs.Stops.{stop_of}
use Rattle.cad_store.specs.Stores.{DiskHolds}
use Rattle.cad_store.proofs.Holding.{one_map}

pub stop_is : {T : Type 0} (r : Result T OpenStop) (x y : OpenStop) → r ≡ Err x → r ≡ Err y → x ≡ y
stop_is r x y p q = let same = sym p ∙ q in cc

pub damaged_of : (stop : ScanStop) → stop_of stop ≡ BadStore → stop ≡ scan.Damaged
damaged_of scan.Failed e = absurd cc
damaged_of scan.Damaged e = refl
damaged_of scan.Memory e = absurd cc

-- tapes that aren't those of records hold nothing
pub none_held : (disk : Tape → List ℕ) (m : Map) → tape_reading (disk (chosen (disk Pick))) ≡ None → DiskHolds disk m → ⊥
none_held disk m none h = let wrong = sym none ∙ h.reading in cc

-- what they hold isn't accepted
pub refused : (Accepts : Map → Type 0) (disk : Tape → List ℕ) (b : Bool) (m n : Map) → DiskHolds disk n → (IsTrue b ↔ Accepts n) → b ≡ false → DiskHolds disk m → Accepts m → ⊥
refused Accepts disk b m n held test e h good =
    let same : m ≡ n = λ i key. one_map disk m n h held key i in
    let wrong = test.1 (subst Accepts same good) in
    cc
