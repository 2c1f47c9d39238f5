-- Imports: what is read is spelled, and what is spelled is read.
use Rattle.std.proofs.Common.{◌≡◌, ℕ, zero, suc, ◌<◌, ◌≤◌, List, [], ◌∷◌, ◌++◌, length, codes, Some, None, sym, ap, ◌∙◌, subst, arith, append-nil, append_assoc}
use Rattle.cad_grammar.specs.declared.token.Sign.TheVariants as s
use Rattle.cad_syntax.specs.declared.keyword.Keyword.TheVariants as k
use Rattle.cad_syntax.specs.declared.text.Name.{Name}
use Rattle.cad_grammar.specs.declared.declaration.Import.{Import}
use Rattle.cad_grammar.specs.Spots.{Spot, read, after, keyword, word, name}
use Rattle.cad_grammar.specs.ProgramGrammar.{hexadecimal_of, origin, ImportedNames, ReadsImport}
use Rattle.cad_grammar.specs.ProgramGrammar as g
use Rattle.cad_parse.specs.Code.Reading.{imported, import}
use Rattle.cad_parse_type.proofs.Heads.{none_of, then_some, after_head, after_shorter, keyword_shorter, name_shorter, read_shorter}
use Rattle.cad_parse_type.proofs.Climbs.{then_is, either_is, either_not, IfFound, then_found, either_found, found_weaker, Shrinks}
use Rattle.cad_parse.proofs.Found.{As, sound, sign_no_word, word_shorter}

-- `from` and an address
origin_is : (p : Spot) (x : ℕ × Spot) → origin p ≡ Some x → (q : Spot) × (word (codes "from") p ≡ Some q) × (read hexadecimal_of q ≡ Some x)
unfolding origin
origin_is p x e = then_some (word (codes "from") p) (read hexadecimal_of) x e

origin_shorter : (p : Spot) (x : ℕ × Spot) → origin p ≡ Some x → length x.1.tokens < length p.tokens
origin_shorter p x e = let w = origin_is p x e in omega (arith, word_shorter (codes "from") p w.0 w.1, read_shorter hexadecimal_of w.0 x w.2)

no_origin : (p q : Spot) → after s.Comma p ≡ Some q → origin p ≡ None
no_origin p q e = none_of (origin p) (λ x f.
    let w = origin_is p x f in
    let c = sym w.1 ∙ sign_no_word (codes "from") s.Comma p (after_head s.Comma p q e) in
    cc)

-- ---- what is read is spelled

-- what is read behind the names that were found before
abbrev ImportedAs : List Name → Spot → Import × Spot → Type 0
ImportedAs found p x = (names : List Name) × (x.0.names ≡ found ++ names) × ImportedNames p names x.0.address x.1

imported_found : (turns : ℕ) (found : List Name) (p : Spot) → IfFound (ImportedAs found p) (imported turns found p)
unfolding imported
imported_found zero found p = tt
imported_found (suc turns) found p =
    let P = ImportedAs found p in
    either_found P (origin p) _ _ (λ x e. ([], sym (append-nil found), g.from_there e)) (λ _.
    then_found P (after s.Comma p) _ (λ q e1. either_found P (origin q) _ _ (λ x e. ([], sym (append-nil found), g.last_comma e1 e)) (λ none.
    then_found P (name q) _ (λ n e2. found_weaker (ImportedAs (found ++ n.0 ∷ []) n.1) P _
    (λ x w. (n.0 ∷ w.0, w.1 ∙ append_assoc found (n.0 ∷ []) w.0, g.and_name e1 none e2 w.2)) (imported_found turns (found ++ n.0 ∷ []) n.1)))))

import_found : (p : Spot) → IfFound (As ReadsImport p) (import p)
unfolding import
import_found p =
    let P = As ReadsImport p in
    then_found P (keyword k.Import p) _ (λ q e. then_found P (name q) _ (λ n f. found_weaker (ImportedAs (n.0 ∷ []) n.1) P _
    (λ x w. subst (λ names. ReadsImport p (record { names = names; address = x.0.address }) x.1) (sym w.1) (g.import e f w.2)) (imported_found (length n.1.tokens) (n.0 ∷ []) n.1)))

pub import_sound : (p : Spot) (x : Import × Spot) → import p ≡ Some x → ReadsImport p x.0 x.1
import_sound p x e = sound ReadsImport import import_found p x e

-- ---- what is spelled is read

imported_exact : {p q : Spot} {names : List Name} {address : ℕ} → ImportedNames p names address q → (turns : ℕ) → length p.tokens ≤ turns → (found : List Name)
    → imported turns found p ≡ Some (record { names = found ++ names; address = address }, q)
unfolding imported
imported_exact (g.from_there {p} {q} {address} e) zero le found = let never : ⊥ = omega (arith, origin_shorter p (address, q) e) in absurd never
imported_exact (g.from_there {p} {q} {address} e) (suc turns) le found =
    either_is (origin p) _ _ (address, q) e ∙ ap (λ z. Some (record { names = z; address = address }, q)) (sym (append-nil found))
imported_exact (g.last_comma {p} {q} {r} {address} e f) zero le found = let never : ⊥ = omega (arith, after_shorter s.Comma p q e) in absurd never
imported_exact (g.last_comma {p} {q} {r} {address} e f) (suc turns) le found =
    either_not (origin p) _ _ (no_origin p q e) ∙ then_is (after s.Comma p) _ q e ∙ either_is (origin q) _ _ (address, r) f
    ∙ ap (λ z. Some (record { names = z; address = address }, r)) (sym (append-nil found))
imported_exact (g.and_name {p} {q} {r} {u} {n} {names} {address} e none f w) zero le found = let never : ⊥ = omega (arith, after_shorter s.Comma p q e) in absurd never
imported_exact (g.and_name {p} {q} {r} {u} {n} {names} {address} e none f w) (suc turns) le found =
    either_not (origin p) _ _ (no_origin p q e) ∙ then_is (after s.Comma p) _ q e ∙ either_not (origin q) _ _ none ∙ then_is (name q) _ (n, r) f
    ∙ imported_exact w turns (omega (arith, after_shorter s.Comma p q e, name_shorter q (n, r) f)) (found ++ n ∷ [])
    ∙ ap (λ z. Some (record { names = z; address = address }, u)) (append_assoc found (n ∷ []) names)

read_exact : {p q : Spot} {i : Import} → ReadsImport p i q → import p ≡ Some (i, q)
unfolding import
read_exact (g.import {p} {q} {r} {u} {n} {names} {address} e f w) =
    then_is (keyword k.Import p) _ q e ∙ then_is (name q) _ (n, r) f ∙ imported_exact w (length r.tokens) (omega arith) (n ∷ [])

pub import_exact : (p : Spot) (i : Import) (q : Spot) → ReadsImport p i q → import p ≡ Some (i, q)
import_exact p i q d = read_exact d

-- ---- what holds of all that is spelled

names_shorter : {p q : Spot} {names : List Name} {address : ℕ} → ImportedNames p names address q → length q.tokens < length p.tokens
names_shorter (g.from_there {p} {q} {address} e) = origin_shorter p (address, q) e
names_shorter (g.last_comma {p} {q} {r} {address} e f) = omega (arith, after_shorter s.Comma p q e, origin_shorter q (address, r) f)
names_shorter (g.and_name {p} {q} {r} {n} e none f w) = omega (arith, after_shorter s.Comma p q e, name_shorter q (n, r) f, names_shorter w)

read_shorter_import : {p q : Spot} {i : Import} → ReadsImport p i q → length q.tokens < length p.tokens
read_shorter_import (g.import {p} {q} {r} {n} e f w) = omega (arith, keyword_shorter k.Import p q e, name_shorter q (n, r) f, names_shorter w)

pub import_shorter : Shrinks import
import_shorter p x e = read_shorter_import (import_sound p x e)
