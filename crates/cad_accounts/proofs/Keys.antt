-- Keys in byte order.
use Rattle.std.proofs.Common.{◌≡◌, ℕ, Bool, true, false, List, Ordering, refl, sym, ap, subst, ◌∙◌}
use Rattle.std.specs.Ordering.{nat_cmp, is_lt, is_eq, ordering_reverse}
use Rattle.std.specs.declared.cmp.Ordering.TheVariants.{Less, Equal, Greater}
use Rattle.std.specs.Cmp.Lexicographic.{slice_cmp, bytes_decides, lists_ties}
use Rattle.std.specs.Cmp.{unsigned_ties}
use Rattle.std.proofs.lemmas.Cmp.{nat_list_cmp_total, tied_itself}
use Rattle.cad_accounts.specs.Registers.{same_key}
use Rattle.cad_accounts.specs.KeyOrder.{before}

pub same_is : (a b : List ℕ) → same_key a b ≡ true → a ≡ b
same_is a b e = (bytes_decides a b).0 e

pub is_same : (a b : List ℕ) → a ≡ b → same_key a b ≡ true
is_same a b e = (bytes_decides a b).1 e

pub itself : (a : List ℕ) → same_key a a ≡ true
itself a = is_same a a refl

is_false : (b : Bool) → (b ≡ true → ⊥) → b ≡ false
is_false true h = absurd (h refl)
is_false false h = refl

pub not_same : (a b : List ℕ) → (a ≡ b → ⊥) → same_key a b ≡ false
not_same a b h = is_false (same_key a b) (λ e. h (same_is a b e))

pub not_same_back : (a b : List ℕ) → same_key a b ≡ false → same_key b a ≡ false
not_same_back a b e = not_same b a (λ s. let wrong : true ≡ false = sym (is_same a b (sym s)) ∙ e in cc)

pub is_less : (o : Ordering) → is_lt o ≡ true → o ≡ Less
is_less Less e = refl
is_less Equal e = absurd cc
is_less Greater e = absurd cc

pub not_itself : (a : List ℕ) → before a a ≡ true → ⊥
not_itself a e =
    let equal : slice_cmp nat_cmp a a ≡ Equal = tied_itself nat_list_cmp_total a in
    let less = is_less (slice_cmp nat_cmp a a) e in
    let wrong : Less ≡ Equal = sym less ∙ equal in
    cc

pub passes : (a b c : List ℕ) → before a b ≡ true → before b c ≡ true → before a c ≡ true
passes a b c e f = ap is_lt (nat_list_cmp_total.trans a b c (is_less (slice_cmp nat_cmp a b) e) (is_less (slice_cmp nat_cmp b c) f))

pub before_differs : (a b : List ℕ) → before a b ≡ true → same_key a b ≡ false
before_differs a b e = not_same a b (λ s. not_itself b (subst (λ (x : List ℕ). before x b ≡ true) s e))

pub behind_differs : (a b : List ℕ) → before b a ≡ true → same_key a b ≡ false
behind_differs a b e = not_same a b (λ s. not_itself b (subst (λ (x : List ℕ). before b x ≡ true) s e))

less_back : (o : Ordering) → ordering_reverse o ≡ Less → o ≡ Greater
less_back Less e = absurd cc
less_back Equal e = absurd cc
less_back Greater e = refl

pub not_back : (a b : List ℕ) → before a b ≡ true → is_lt (slice_cmp nat_cmp b a) ≡ false
not_back a b e =
    let less = is_less (slice_cmp nat_cmp a b) e in
    ap is_lt (less_back (slice_cmp nat_cmp b a) (sym (nat_list_cmp_total.antisymm a b) ∙ less))

pub greater_is : (a b : List ℕ) → slice_cmp nat_cmp a b ≡ Greater → before b a ≡ true
greater_is a b e = ap is_lt (nat_list_cmp_total.antisymm b a ∙ ap ordering_reverse e)

pub equal_is : (a b : List ℕ) → slice_cmp nat_cmp a b ≡ Equal → a ≡ b
equal_is a b e = same_is a b (lists_ties nat_cmp unsigned_ties a b ∙ ap is_eq e)
