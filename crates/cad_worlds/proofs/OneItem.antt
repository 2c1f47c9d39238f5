-- A register says one item.
use Rattle.std.proofs.Common.{◌≡◌, ◌≢◌, ℕ, ◌^◌, ◌<◌, List, [], ◌∷◌, ◌++◌, map, length, refl, sym, ap, ◌∙◌, append-nil, arith}
use Rattle.std.specs.List.{AllByRecursion, flat_map}
use Rattle.cad_codec.proofs.Decoded.{one}
use Rattle.cad_codec.proofs.TypeFormats.{whole_types}
use Rattle.cad_codec.proofs.ValueFormats.{values_with_bytes}
use Rattle.cad_codec.specs.TypeBytes.{type_bytes}
use Rattle.cad_syntax.specs.Types.{PureType}
use Rattle.cad_syntax.specs.declared.text.Name.{Name}
use Rattle.cad_syntax.specs.declared.type_id.TypeId.{TypeId}
use Rattle.cad_values.specs.Values.{PureValue, capability}
use Rattle.cad_wire.proofs.FieldLaws.{number_again, bytes_again, some_is}
use Rattle.cad_wire.specs.Fields.{number_field, bytes_field, number_at, bytes_at}
use Rattle.cad_world.specs.Orders.{contract_name}
use Rattle.cad_world.specs.Registers.{Register}
use Rattle.cad_world.specs.State.{Publication, Controller}
use Rattle.cad_worlds.specs.Items.{Item, head, next, code, fields, stored, published, controlled, told, IsTold}
use Rattle.cad_worlds.specs.Standing.{AreOneText}

-- ---- fields and texts that are told

abbrev kind_of : List ℕ → ℕ
kind_of [] = 0
kind_of (k ∷ name) = k

apart : (x y : ℕ) (xs ys : List ℕ) → x ∷ xs ≡ y ∷ ys → x ≢ y → ⊥
apart x y xs ys e n = n (ap kind_of e)

two_again : (a b : ℕ) (x y : List ℕ) → a < 2 ^ 64 → b < 2 ^ 64 → number_field a ++ x ≡ number_field b ++ y → (a ≡ b) × (x ≡ y)
two_again a b x y f g e =
    let same : (a, x) ≡ (b, y) = some_is (a, x) (b, y) (sym (number_again a x f) ∙ ap number_at e ∙ number_again b y g) in
    (ap (λ (p : ℕ × List ℕ). p.0) same, ap (λ (p : ℕ × List ℕ). p.1) same)

number_one : (a b : ℕ) → a < 2 ^ 64 → b < 2 ^ 64 → number_field a ≡ number_field b → a ≡ b
number_one a b f g e = (two_again a b [] [] f g (ap (λ (l : List ℕ). l ++ []) e)).0

text_again : (a b x y : List ℕ) → length a < 2 ^ 32 → length b < 2 ^ 32 → bytes_field a ++ x ≡ bytes_field b ++ y → (a ≡ b) × (x ≡ y)
text_again a b x y f g e =
    let same : (a, x) ≡ (b, y) = some_is (a, x) (b, y) (sym (bytes_again a x f) ∙ ap bytes_at e ∙ bytes_again b y g) in
    (ap (λ (p : List ℕ × List ℕ). p.0) same, ap (λ (p : List ℕ × List ℕ). p.1) same)

-- what stands behind the kind in a key
behind_kind : (k : ℕ) (x y : List ℕ) → k ∷ x ≡ k ∷ y → x ≡ y
behind_kind k x y e = cc

key_of : {x y : Register} → x ≡ y → x.key ≡ y.key
key_of e = ap (λ (r : Register). r.key) e

bytes_of : {x y : Register} → x ≡ y → x.bytes ≡ y.bytes
bytes_of e = ap (λ (r : Register). r.bytes) e

one_head : (count identity count' identity' : ℕ) → IsTold (head count identity) → IsTold (head count' identity') → told (head count identity) ≡ told (head count' identity') → head count identity ≡ head count' identity'
one_head count identity count' identity' a b e =
    let both = two_again count count' (number_field identity) (number_field identity') a.0 b.0 (bytes_of e) in
    let second = number_one identity identity' a.1 b.1 both.1 in
    λ i. head (both.0 i) (second i)

one_next : (n number n' number' : ℕ) → IsTold (next n number) → IsTold (next n' number') → told (next n number) ≡ told (next n' number') → next n number ≡ next n' number'
one_next n number n' number' a b e =
    let first = number_one n n' a.0 b.0 (behind_kind 1 (number_field n) (number_field n') (key_of e)) in
    let second = number_one number number' a.1 b.1 (bytes_of e) in
    λ i. next (first i) (second i)

one_text : (ns ms : List Name) → AreOneText ns → AreOneText ms → flat_map (λ n. n.0) ns ≡ flat_map (λ n. n.0) ms → ns ≡ ms
one_text [] ms s t e = absurd s
one_text (n ∷ m ∷ ns) ms s t e = absurd s
one_text (n ∷ []) [] s t e = absurd t
one_text (n ∷ []) (m ∷ k ∷ ms) s t e = absurd t
one_text (n ∷ []) (m ∷ []) s t e =
    let same : n.0 ≡ m.0 = sym (append-nil n.0) ∙ e ∙ append-nil m.0 in
    λ i. record { 0 = same i } ∷ []

-- a key of a kind is of one contract
one_contract : (k : ℕ) (id id' : TypeId) → id.address.0 < 2 ^ 64 → id'.address.0 < 2 ^ 64 → AreOneText id.names → AreOneText id'.names
    → k ∷ (number_field id.address.0 ++ contract_name id) ≡ k ∷ (number_field id'.address.0 ++ contract_name id') → id ≡ id'
one_contract k id id' f g s t e =
    let both = two_again id.address.0 id'.address.0 (contract_name id) (contract_name id') f g (behind_kind k (number_field id.address.0 ++ contract_name id) (number_field id'.address.0 ++ contract_name id') e) in
    let names = one_text id.names id'.names s t both.1 in
    λ i. record { address = record { 0 = both.0 i }; names = names i }

one_code : (id : TypeId) (bytes : List ℕ) (id' : TypeId) (bytes' : List ℕ) → IsTold (code id bytes) → IsTold (code id' bytes') → told (code id bytes) ≡ told (code id' bytes') → code id bytes ≡ code id' bytes'
one_code id bytes id' bytes' a b e =
    let ids = one_contract 2 id id' a.0 b.0 a.1 b.1 (key_of e) in
    let text : bytes ≡ bytes' = bytes_of e in
    λ i. code (ids i) (text i)

one_fields : (id : TypeId) (v : PureValue) (id' : TypeId) (v' : PureValue) → IsTold (fields id v) → IsTold (fields id' v') → told (fields id v) ≡ told (fields id' v') → fields id v ≡ fields id' v'
one_fields id v id' v' a b e =
    let ids = one_contract 3 id id' a.0 b.0 a.1 b.1 (key_of e) in
    let value : v ≡ v' = one values_with_bytes v v' a.2 b.2 (bytes_of e) in
    λ i. fields (ids i) (value i)

one_stored : (n : ℕ) (i : Name) (v : PureValue) (n' : ℕ) (i' : Name) (v' : PureValue) → IsTold (stored n i v) → IsTold (stored n' i' v') → told (stored n i v) ≡ told (stored n' i' v') → stored n i v ≡ stored n' i' v'
one_stored n i v n' i' v' a b e =
    let both = two_again n n' i.0 i'.0 a.0 b.0 (behind_kind 4 (number_field n ++ i.0) (number_field n' ++ i'.0) (key_of e)) in
    let value : v ≡ v' = one values_with_bytes v v' a.2 b.2 (bytes_of e) in
    λ j. stored (both.0 j) (record { 0 = both.1 j }) (value j)

same_lent : (a a' : ℕ) (n n' : ℕ) (t t' : PureType) → capability (record { 0 = a }) n t ≡ capability (record { 0 = a' }) n' t' → (n ≡ n') × (t ≡ t')
same_lent a a' n n' t t' e = (cc, cc)

one_published : (n : ℕ) (p : Publication) (n' : ℕ) (p' : Publication) → IsTold (published n p) → IsTold (published n' p') → told (published n p) ≡ told (published n' p') → published n p ≡ published n' p'
one_published n p n' p' a b e =
    let both = two_again n n' p.identifier.0 p'.identifier.0 a.0 b.0 (behind_kind 5 (number_field n ++ p.identifier.0) (number_field n' ++ p'.identifier.0) (key_of e)) in
    let value = one values_with_bytes (capability (record { 0 = n }) p.number p.lent) (capability (record { 0 = n' }) p'.number p'.lent) a.2 b.2 (bytes_of e) in
    let parts = same_lent n n' p.number p'.number p.lent p'.lent value in
    λ j. published (both.0 j) (record { identifier = record { 0 = both.1 j }; number = parts.0 j; lent = parts.1 j })

one_controlled : (n : ℕ) (c : Controller) (n' : ℕ) (c' : Controller) → IsTold (controlled n c) → IsTold (controlled n' c') → told (controlled n c) ≡ told (controlled n' c') → controlled n c ≡ controlled n' c'
one_controlled n c n' c' a b e =
    let both = two_again n n' (number_field c.number) (number_field c'.number) a.0 b.0 (behind_kind 6 (number_field n ++ number_field c.number) (number_field n' ++ number_field c'.number) (key_of e)) in
    let number = number_one c.number c'.number a.1 b.1 both.1 in
    let targets = text_again c.target.0 c'.target.0 (bytes_field c.tag ++ type_bytes c.borrow) (bytes_field c'.tag ++ type_bytes c'.borrow) a.2.1 b.2.1 (bytes_of e) in
    let tags = text_again c.tag c'.tag (type_bytes c.borrow) (type_bytes c'.borrow) a.3.1 b.3.1 targets.1 in
    let types : c.borrow ≡ c'.borrow = one whole_types c.borrow c'.borrow a.4 b.4 tags.1 in
    λ j. controlled (both.0 j) (record { number = number j; borrow = types j; tag = tags.0 j; target = record { 0 = targets.0 j } })

pub told_one : (x y : Item) → IsTold x → IsTold y → told x ≡ told y → x ≡ y
told_one (head count identity) (head count' identity') a b e = one_head count identity count' identity' a b e
told_one (head count identity) (next n' number') a b e = absurd (apart 0 1 _ _ (key_of e) (omega arith))
told_one (head count identity) (code id' bytes') a b e = absurd (apart 0 2 _ _ (key_of e) (omega arith))
told_one (head count identity) (fields id' v') a b e = absurd (apart 0 3 _ _ (key_of e) (omega arith))
told_one (head count identity) (stored n' i' v') a b e = absurd (apart 0 4 _ _ (key_of e) (omega arith))
told_one (head count identity) (published n' p') a b e = absurd (apart 0 5 _ _ (key_of e) (omega arith))
told_one (head count identity) (controlled n' c') a b e = absurd (apart 0 6 _ _ (key_of e) (omega arith))
told_one (next n number) (head count' identity') a b e = absurd (apart 1 0 _ _ (key_of e) (omega arith))
told_one (next n number) (next n' number') a b e = one_next n number n' number' a b e
told_one (next n number) (code id' bytes') a b e = absurd (apart 1 2 _ _ (key_of e) (omega arith))
told_one (next n number) (fields id' v') a b e = absurd (apart 1 3 _ _ (key_of e) (omega arith))
told_one (next n number) (stored n' i' v') a b e = absurd (apart 1 4 _ _ (key_of e) (omega arith))
told_one (next n number) (published n' p') a b e = absurd (apart 1 5 _ _ (key_of e) (omega arith))
told_one (next n number) (controlled n' c') a b e = absurd (apart 1 6 _ _ (key_of e) (omega arith))
told_one (code id bytes) (head count' identity') a b e = absurd (apart 2 0 _ _ (key_of e) (omega arith))
told_one (code id bytes) (next n' number') a b e = absurd (apart 2 1 _ _ (key_of e) (omega arith))
told_one (code id bytes) (code id' bytes') a b e = one_code id bytes id' bytes' a b e
told_one (code id bytes) (fields id' v') a b e = absurd (apart 2 3 _ _ (key_of e) (omega arith))
told_one (code id bytes) (stored n' i' v') a b e = absurd (apart 2 4 _ _ (key_of e) (omega arith))
told_one (code id bytes) (published n' p') a b e = absurd (apart 2 5 _ _ (key_of e) (omega arith))
told_one (code id bytes) (controlled n' c') a b e = absurd (apart 2 6 _ _ (key_of e) (omega arith))
told_one (fields id v) (head count' identity') a b e = absurd (apart 3 0 _ _ (key_of e) (omega arith))
told_one (fields id v) (next n' number') a b e = absurd (apart 3 1 _ _ (key_of e) (omega arith))
told_one (fields id v) (code id' bytes') a b e = absurd (apart 3 2 _ _ (key_of e) (omega arith))
told_one (fields id v) (fields id' v') a b e = one_fields id v id' v' a b e
told_one (fields id v) (stored n' i' v') a b e = absurd (apart 3 4 _ _ (key_of e) (omega arith))
told_one (fields id v) (published n' p') a b e = absurd (apart 3 5 _ _ (key_of e) (omega arith))
told_one (fields id v) (controlled n' c') a b e = absurd (apart 3 6 _ _ (key_of e) (omega arith))
told_one (stored n i v) (head count' identity') a b e = absurd (apart 4 0 _ _ (key_of e) (omega arith))
told_one (stored n i v) (next n' number') a b e = absurd (apart 4 1 _ _ (key_of e) (omega arith))
told_one (stored n i v) (code id' bytes') a b e = absurd (apart 4 2 _ _ (key_of e) (omega arith))
told_one (stored n i v) (fields id' v') a b e = absurd (apart 4 3 _ _ (key_of e) (omega arith))
told_one (stored n i v) (stored n' i' v') a b e = one_stored n i v n' i' v' a b e
told_one (stored n i v) (published n' p') a b e = absurd (apart 4 5 _ _ (key_of e) (omega arith))
told_one (stored n i v) (controlled n' c') a b e = absurd (apart 4 6 _ _ (key_of e) (omega arith))
told_one (published n p) (head count' identity') a b e = absurd (apart 5 0 _ _ (key_of e) (omega arith))
told_one (published n p) (next n' number') a b e = absurd (apart 5 1 _ _ (key_of e) (omega arith))
told_one (published n p) (code id' bytes') a b e = absurd (apart 5 2 _ _ (key_of e) (omega arith))
told_one (published n p) (fields id' v') a b e = absurd (apart 5 3 _ _ (key_of e) (omega arith))
told_one (published n p) (stored n' i' v') a b e = absurd (apart 5 4 _ _ (key_of e) (omega arith))
told_one (published n p) (published n' p') a b e = one_published n p n' p' a b e
told_one (published n p) (controlled n' c') a b e = absurd (apart 5 6 _ _ (key_of e) (omega arith))
told_one (controlled n c) (head count' identity') a b e = absurd (apart 6 0 _ _ (key_of e) (omega arith))
told_one (controlled n c) (next n' number') a b e = absurd (apart 6 1 _ _ (key_of e) (omega arith))
told_one (controlled n c) (code id' bytes') a b e = absurd (apart 6 2 _ _ (key_of e) (omega arith))
told_one (controlled n c) (fields id' v') a b e = absurd (apart 6 3 _ _ (key_of e) (omega arith))
told_one (controlled n c) (stored n' i' v') a b e = absurd (apart 6 4 _ _ (key_of e) (omega arith))
told_one (controlled n c) (published n' p') a b e = absurd (apart 6 5 _ _ (key_of e) (omega arith))
told_one (controlled n c) (controlled n' c') a b e = one_controlled n c n' c' a b e

cons_parts : (x y : Register) (xs ys : List Register) → x ∷ xs ≡ y ∷ ys → (x ≡ y) × (xs ≡ ys)
cons_parts x y xs ys e = (cc, cc)

pub told_all : (xs ys : List Item) → AllByRecursion IsTold xs → AllByRecursion IsTold ys → map told xs ≡ map told ys → xs ≡ ys
told_all [] [] a b e = refl
told_all [] (y ∷ ys) a b e = absurd cc
told_all (x ∷ xs) [] a b e = absurd cc
told_all (x ∷ xs) (y ∷ ys) a b e =
    let parts = cons_parts (told x) (told y) (map told xs) (map told ys) e in
    let first = told_one x y a.0 b.0 parts.0 in
    let others = told_all xs ys a.1 b.1 parts.1 in
    λ i. first i ∷ others i
