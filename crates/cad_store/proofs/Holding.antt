-- What tapes hold.
use Rattle.std.proofs.Common.{◌≡◌, inl, inr, ⊎_elim, ℕ, Option, Some, List, [], ◌∷◌, ◌++◌, refl, sym, ◌∙◌, ap, subst}
use Rattle.cad_host.specs.declared.host.Tape.{Tape}
use Rattle.cad_host.specs.declared.host.Tape.TheVariants.{Pick}
use Rattle.cad_host.specs.Disk.{Event, state, reads, IsDisk, Ran}
use Rattle.cad_host.proofs.Images.{clean_only}
use Rattle.cad_host.proofs.Ran.{ran_as}
use Rattle.cad_wire.specs.declared.entry.Entry.{Entry}
use Rattle.cad_wire.specs.Fields.{◌>>=◌}
use Rattle.cad_wire.specs.Body.{body_bytes, IsRecord}
use Rattle.cad_wire.specs.Reading.{entries_of}
use Rattle.cad_wire.proofs.FieldLaws.{bind_some, some_is}
use Rattle.cad_wire.proofs.BodyLaws.{body_again}
use Rattle.cad_tape.specs.Framing.{framing}
use Rattle.cad_tape.specs.Reading.{records_of, tape_reading, chosen, reading, stored, or_none, IsQuiet, Leaves}
use Rattle.cad_accounts.specs.Registers.{Map, applied, folded, no_registers}
use Rattle.cad_store.specs.Stores.{DiskHolds, Keeps}

pub one_map : (disk : Tape → List ℕ) (m n : Map) → DiskHolds disk m → DiskHolds disk n → (key : List ℕ) → m key ≡ n key
one_map disk m n h k key =
    let same : h.records ≡ k.records = some_is h.records k.records (sym h.reading ∙ k.reading) in
    sym (h.is key) ∙ ap (λ (rs : List (List Entry)). folded rs no_registers key) same ∙ k.is key

pub quiet : (m : List Event) (disk : Tape → List ℕ) (map : Map) → IsQuiet m → IsDisk m disk → DiskHolds (reads m) map → DiskHolds disk map
quiet m disk map q image h =
    let t = chosen (reads m Pick) in
    let pick : disk Pick ≡ reads m Pick = clean_only (state Pick m) (disk Pick) q.clean_pick (image Pick) in
    let used : disk t ≡ reads m t = clean_only (state t m) (disk t) q.clean (image t) in
    let there : disk (chosen (disk Pick)) ≡ reads m t = ap (λ (b : List ℕ). disk (chosen b)) pick ∙ used in
    record { records = h.records; reading = ap tape_reading there ∙ h.reading; is = h.is }

-- ---- bodies that make a map

pub record Make (bodies : List (List ℕ)) (m : Map) : Type 0 where
  pub records : List (List Entry)
  pub read : records_of bodies ≡ Some records
  pub is : (key : List ℕ) → folded records no_registers key ≡ m key

pub made : (disk : Tape → List ℕ) (m : Map) → DiskHolds disk m → Make (or_none (reading disk)) m
made disk m h =
    let b = bind_some (framing (disk (chosen (disk Pick)))) records_of h.records h.reading in
    record { records = h.records; read = ap (λ (o : Option (List (List ℕ))). records_of (or_none o)) b.1 ∙ b.2; is = h.is }

pub holds : (disk : Tape → List ℕ) (bodies : List (List ℕ)) (m : Map) → reading disk ≡ Some bodies → Make bodies m → DiskHolds disk m
holds disk bodies m e k = record { records = k.records; reading = ap (λ (o : Option (List (List ℕ))). o >>= records_of) e ∙ k.read; is = k.is }

records_push : (bodies : List (List ℕ)) (body : List ℕ) (records : List (List Entry)) (entries : List Entry) → records_of bodies ≡ Some records → entries_of body ≡ Some entries → records_of (bodies ++ body ∷ []) ≡ Some (records ++ entries ∷ [])
unfolding records_of
records_push [] body records entries e r =
    let none = some_is [] records e in
    ap (λ (o : Option (List Entry)). o >>= λ es. Some (es ∷ [])) r ∙ ap (λ (rs : List (List Entry)). Some (rs ++ entries ∷ [])) none
records_push (b ∷ bodies) body records entries e r =
    let a = bind_some (entries_of b) (λ es. records_of bodies >>= λ rs. Some (es ∷ rs)) records e in
    let d = bind_some (records_of bodies) (λ rs. Some (a.0 ∷ rs)) records a.2 in
    let all : a.0 ∷ d.0 ≡ records = some_is (a.0 ∷ d.0) records d.2 in
    ap (λ (o : Option (List Entry)). o >>= λ es. records_of (bodies ++ body ∷ []) >>= λ rs. Some (es ∷ rs)) a.1
    ∙ ap (λ (o : Option (List (List Entry))). o >>= λ rs. Some (a.0 ∷ rs)) (records_push bodies body d.0 entries d.1 r)
    ∙ ap (λ (rs : List (List Entry)). Some (rs ++ entries ∷ [])) all

folded_push : (records : List (List Entry)) (entries : List Entry) (m : Map) → folded (records ++ entries ∷ []) m ≡ applied entries (folded records m)
folded_push [] entries m = refl
folded_push (es ∷ records) entries m = folded_push records entries (applied es m)

pub one_more : (bodies : List (List ℕ)) (m : Map) (entries : List Entry) → Make bodies m → IsRecord entries → Make (bodies ++ body_bytes entries ∷ []) (applied entries m)
one_more bodies m entries k form =
    let same : folded k.records no_registers ≡ m = λ i key. k.is key i in
    record {
      records = k.records ++ entries ∷ [];
      read = records_push bodies (body_bytes entries) k.records entries k.read (body_again entries form);
      is = λ key. ap (λ (f : Map). f key) (folded_push k.records entries no_registers) ∙ ap (λ (f : Map). applied entries f key) same;
    }

-- ---- a commit's moments

pub keeps : (old new : List Event) (m : Map) (entries : List Entry) → DiskHolds (reads old) m → IsRecord entries
    → Ran old new (Leaves old (stored old) (stored old ++ body_bytes entries ∷ [])) → Ran old new (Keeps old m (applied entries m))
keeps old new m entries h form ran =
    let before = made (reads old) m h in
    let behind = one_more (stored old) m entries before form in
    ran_as (Leaves old (stored old) (stored old ++ body_bytes entries ∷ [])) (Keeps old m (applied entries m)) old new
    (λ now left. record {
      output = left.output;
      disk = λ disk image. ⊎_elim (λ e. inl (holds disk (stored old) m e before)) (λ e. inr (holds disk (stored old ++ body_bytes entries ∷ []) (applied entries m) e behind)) (left.disk disk image);
    }) ran

-- and what it leaves
pub holds_new : (old new : List Event) (m n : Map) (entries : List Entry) → DiskHolds (reads old) m → IsRecord entries → reading (reads new) ≡ Some (stored new) → stored new ≡ stored old ++ body_bytes entries ∷ []
    → ((key : List ℕ) → n key ≡ applied entries m key) → DiskHolds (reads new) n
holds_new old new m n entries h form whole grown same =
    let behind = one_more (stored old) m entries (made (reads old) m h) form in
    let is : applied entries m ≡ n = λ i key. sym (same key) i in
    holds (reads new) (stored new) n whole (subst (λ bodies. Make bodies n) (sym grown) (subst (λ (f : Map). Make (stored old ++ body_bytes entries ∷ []) f) is behind))
