-- Access: what is read is spelled, and what is spelled is read.
use Rattle.std.proofs.Common.{◌≡◌, ℕ, ◌<◌, true, false, if◌then◌else◌, List, [], ◌∷◌, length, codes, Option, Some, None, refl, sym, ap, ◌∙◌, ◌⊎◌, arith}
use Rattle.cad_grammar.specs.declared.token.Sign.{Sign}
use Rattle.cad_grammar.specs.declared.token.Sign.TheVariants as s
use Rattle.cad_syntax.specs.declared.keyword.Keyword.TheVariants as k
use Rattle.cad_grammar.specs.declared.token.TokenKind.{TokenKind}
use Rattle.cad_grammar.specs.declared.token.TokenKind.TheVariants as kind
use Rattle.cad_syntax.specs.declared.text.Name.{Name}
use Rattle.cad_grammar.specs.declared.type_expr.Entitlements.{Entitlements}
use Rattle.cad_grammar.specs.declared.type_expr.Entitlements.TheVariants as entitlements
use Rattle.cad_grammar.specs.declared.declaration.Access.{Access}
use Rattle.cad_grammar.specs.declared.declaration.Access.TheVariants as access
use Rattle.cad_grammar.specs.Spots.{Spot, read, after, keyword, word, name, opening, either}
use Rattle.cad_grammar.specs.Lists.{Listed}
use Rattle.cad_grammar.specs.Lists as l
use Rattle.cad_grammar.specs.TypeGrammar.{Dotted, Entitled}
use Rattle.cad_grammar.specs.TypeGrammar as types_grammar
use Rattle.cad_grammar.specs.ProgramGrammar.{plain_access_named, plain_access_of, is_plain_word, is_plain_access, Allows, ReadsAccess}
use Rattle.cad_grammar.specs.ProgramGrammar as g
use Rattle.cad_parse_type.specs.Code.Reading.{dotted, entitled}
use Rattle.cad_parse.specs.Code.Parts.{plain_access, mapping_access, entitled_access, allows, accessed}
use Rattle.cad_parse_type.proofs.Heads.{none_of, other, some_same, then_some, read_taken, read_head, read_shorter, head, after_head, after_shorter, keyword_shorter, opening_shorter, name_head, resumed_head, head_same}
use Rattle.cad_parse_type.proofs.Climbs.{then_is, either_is, either_not, IfFound, then_found, either_found, found_is}
use Rattle.cad_parse_type.proofs.ListLaws.{IsSound}
use Rattle.cad_parse_type.proofs.TypeLaws.{TypeLaws}
use Rattle.cad_parse_type.proofs.NameLaws.{dotted_head}
use Rattle.cad_parse.proofs.Found.{As, sound, if_found_by, if_not, taken_same, name_taken, word_taken, word_shorter}

-- ---- what two plain words tell

-- a word of plain access, and what follows it
record Plain (p : Spot) (x : Access × Spot) : Type 0 where
  word : Access × Spot
  reads : read plain_access_of p ≡ Some word
  closes : after s.CloseParenthesis word.1 ≡ Some x.1

plain_is : (p : Spot) (x : Access × Spot) → plain_access p ≡ Some x → Plain p x
unfolding plain_access
plain_is p x e =
    let w = then_some (read plain_access_of p) _ x e in
    let v = then_some (after s.CloseParenthesis w.0.1) _ x w.2 in
    record { word = w.0; reads = w.1; closes = v.1 ∙ ap (λ y. Some y.1) (some_same (w.0.0, v.0) x v.2) }

-- a name, and the sign behind it; where it is `)`, the name stands alone
record Second (p : Spot) (e : Entitlements) : Type 0 where
  first : Name
  behind : Spot
  sign : Sign
  names : name p ≡ Some (first, behind)
  signs : head behind ≡ Some (kind.Sign sign)
  alone : sign ≡ s.CloseParenthesis → e ≡ entitlements.All ((first ∷ []) ∷ [])

second_by : {p q : Spot} {n : List Name} (e : Entitlements) (sign : Sign) → Dotted p n q → head q ≡ Some (kind.Sign sign)
    → ((m : Name) → n ≡ m ∷ [] → sign ≡ s.CloseParenthesis → e ≡ entitlements.All ((m ∷ []) ∷ [])) → Second p e
second_by e sign (types_grammar.single {p} {q} {n} d) h alone =
    record { first = n; behind = q; sign = sign; names = d; signs = h; alone = λ c. alone n refl c }
second_by e sign (types_grammar.further {p} {q} {r} {t} {n} {names} d f w) h alone =
    record { first = n; behind = q; sign = s.Dot; names = d; signs = after_head s.Dot q r f; alone = λ c. cc }

list_second : {p q : Spot} {n : List Name} {all : List (List Name)} → Listed Dotted s.CloseParenthesis p (n ∷ all) q → Second p (entitlements.All (n ∷ all))
list_second (l.last {p} {q} {r} {a = n} d e) = second_by _ s.CloseParenthesis d (resumed_head s.CloseParenthesis p q r e) (λ m f c. ap (λ x. entitlements.All (x ∷ [])) f)
list_second (l.more {p} {q} {r} {a = n} d e w) = second_by _ s.Comma d (resumed_head s.Comma p q r e) (λ m f c. cc)

entitled_second : {p q : Spot} {e : Entitlements} → Entitled p e q → Second p e
entitled_second (types_grammar.all_of d) = list_second d
entitled_second (types_grammar.any_of {p} {q} {r} d e w) = second_by _ s.Bar d (after_head s.Bar q r e) (λ m f c. cc)

-- a word of plain access before `)` is no entitlement
some_plain : (o : Option Access) (a : Access) → o ≡ Some a → either o (λ b. true) false ≡ true
some_plain o a e = ap (λ x. either x (λ b. true) false) e

plain_of_name : (found : TokenKind) (n : Name) (a : Access) → found ≡ kind.Name n → plain_access_of found ≡ Some a → is_plain_word (n ∷ []) ≡ true
plain_of_name found n a e f = some_plain (plain_access_named n) a (sym (ap plain_access_of e) ∙ f)

not_plain : {p : Spot} {e : Entitlements} → Second p e → is_plain_access e ≡ false → plain_access p ≡ None
not_plain {p} {e} d refused = none_of (plain_access p) (λ x f.
    let w = plain_is p x f in
    let same = taken_same p d.behind w.word.1 (name_taken p (d.first, d.behind) d.names) (read_taken plain_access_of p w.word w.reads).0 in
    let closing = head_same d.sign s.CloseParenthesis d.behind d.signs (ap head same ∙ after_head s.CloseParenthesis w.word.1 x.1 w.closes) in
    let h = read_head plain_access_of p w.word w.reads in
    let named = some_same h.0 (kind.Name d.first) (sym h.1 ∙ name_head p (d.first, d.behind) d.names) in
    let c = sym refused ∙ ap is_plain_access (d.alone closing) ∙ plain_of_name h.0 d.first w.word.0 named h.2 in
    cc)

module _ (types : TypeLaws) where
  -- ---- what is read is spelled

  plain_found : (p : Spot) → IfFound (As Allows p) (plain_access p)
  unfolding plain_access
  plain_found p = then_found (As Allows p) (read plain_access_of p) _ (λ a e. then_found (As Allows p) (after s.CloseParenthesis a.1) _ (λ q f. g.plain_access e f))

  mapping_found : (p : Spot) → IfFound (As Allows p) (mapping_access p)
  unfolding mapping_access
  mapping_found p =
      let P = As Allows p in
      then_found P (word (codes "mapping") p) _ (λ q e. then_found P (dotted q) _ (λ n f. then_found P (after s.CloseParenthesis n.1) _ (λ u h. g.mapping_access e (types.dotted_sound q n f) h)))

  entitled_found : (p : Spot) → IfFound (As Allows p) (entitled_access p)
  unfolding entitled_access
  entitled_found p =
      let P = As Allows p in
      then_found P (entitled p) _ (λ x e. if_found_by P (is_plain_access x.0) _ _ (λ _. tt) (λ f. g.entitled_access (types.entitled_sound p x e) f))

  allows_found : (p : Spot) → IfFound (As Allows p) (allows p)
  unfolding allows
  allows_found p =
      let P = As Allows p in
      either_found P (plain_access p) _ _ (λ x e. found_is P (plain_access p) x (plain_found p) e)
      (λ _. either_found P (mapping_access p) _ _ (λ x e. found_is P (mapping_access p) x (mapping_found p) e) (λ _. entitled_found p))

  accessed_found : (p : Spot) → IfFound (As ReadsAccess p) (accessed p)
  unfolding accessed
  accessed_found p =
      let P = As ReadsAccess p in
      then_found P (keyword k.Access p) _ (λ q e. then_found P (opening s.OpenParenthesis q) _ (λ u f. then_found P (allows u) _ (λ a h.
      g.allowed e f (sound Allows allows allows_found u a h))))

  pub access_sound : IsSound ReadsAccess accessed
  access_sound = sound ReadsAccess accessed accessed_found

  -- ---- what is spelled is read

  -- behind `mapping` stands a name
  mapping_name : (p : Spot) (x : Access × Spot) → mapping_access p ≡ Some x → (q : Spot) × (word (codes "mapping") p ≡ Some q) × (m : Name) × (head q ≡ Some (kind.Name m))
  unfolding mapping_access
  mapping_name p x e =
      let w = then_some (word (codes "mapping") p) _ x e in
      let v = then_some (dotted w.0) _ x w.2 in
      let h = dotted_head (types.dotted_sound w.0 v.0 v.1) in
      (w.0, w.1, h.0, h.1)

  not_mapping : {p : Spot} {e : Entitlements} → Second p e → mapping_access p ≡ None
  not_mapping {p} {e} d = none_of (mapping_access p) (λ x f.
      let w = mapping_name p x f in
      let same = taken_same p d.behind w.0 (name_taken p (d.first, d.behind) d.names) (word_taken (codes "mapping") p w.0 w.1) in
      let c = sym d.signs ∙ ap head same ∙ w.3 in
      cc)

  -- behind a word of plain access stands no name
  mapping_not_plain : (p q : Spot) (m : Name) → word (codes "mapping") p ≡ Some q → head q ≡ Some (kind.Name m) → plain_access p ≡ None
  mapping_not_plain p q m e h = none_of (plain_access p) (λ x f.
      let w = plain_is p x f in
      let same = taken_same p q w.word.1 (word_taken (codes "mapping") p q e) (read_taken plain_access_of p w.word w.reads).0 in
      let c = sym h ∙ ap head same ∙ after_head s.CloseParenthesis w.word.1 x.1 w.closes in
      cc)

  allows_exact : {p q : Spot} {a : Access} → Allows p a q → allows p ≡ Some (a, q)
  unfolding allows plain_access mapping_access entitled_access
  allows_exact (g.plain_access {p} {q} {r} {a} e f) = either_is (plain_access p) _ _ (a, r) (then_is (read plain_access_of p) _ (a, q) e ∙ then_is (after s.CloseParenthesis q) _ r f)
  allows_exact (g.mapping_access {p} {q} {r} {u} {n} e d f) =
      let h = dotted_head d in
      either_not (plain_access p) _ _ (mapping_not_plain p q h.0 e h.1)
      ∙ either_is (mapping_access p) _ _ (access.Mapping n, u)
      (then_is (word (codes "mapping") p) _ q e ∙ then_is (dotted q) _ (n, r) (types.dotted_exact d (other s.CloseParenthesis s.Dot r u (λ x. cc) f)) ∙ then_is (after s.CloseParenthesis r) _ u f)
  allows_exact (g.entitled_access {p} {q} {e} d refused) =
      let w = entitled_second d in
      either_not (plain_access p) _ _ (not_plain w refused) ∙ either_not (mapping_access p) _ _ (not_mapping w)
      ∙ then_is (entitled p) _ (e, q) (types.entitled_exact d) ∙ if_not (is_plain_access e) _ _ refused

  pub access_exact : {p q : Spot} {c : Access} → ReadsAccess p c q → accessed p ≡ Some (c, q)
  unfolding accessed
  access_exact (g.allowed {p} {q} {r} {u} {a} e f d) = then_is (keyword k.Access p) _ q e ∙ then_is (opening s.OpenParenthesis q) _ r f ∙ then_is (allows r) _ (a, u) (allows_exact d)

  -- ---- what holds of all that is spelled

  allows_shorter : {p q : Spot} {a : Access} → Allows p a q → length q.tokens < length p.tokens
  allows_shorter (g.plain_access {p} {q} {r} {a} e f) = omega (arith, read_shorter plain_access_of p (a, q) e, after_shorter s.CloseParenthesis q r f)
  allows_shorter (g.mapping_access {p} {q} {r} {u} e d f) = omega (arith, word_shorter (codes "mapping") p q e, types.dotted_shorter d, after_shorter s.CloseParenthesis r u f)
  allows_shorter (g.entitled_access d refused) = types.entitled_shorter d

  pub access_shorter : {p q : Spot} {c : Access} → ReadsAccess p c q → length q.tokens < length p.tokens
  access_shorter (g.allowed {p} {q} {r} e f d) = omega (arith, keyword_shorter k.Access p q e, opening_shorter s.OpenParenthesis q r f, allows_shorter d)

pub access_word : {p q : Spot} {c : Access} → ReadsAccess p c q → (u : Spot) × (keyword k.Access p ≡ Some u)
access_word (g.allowed {q} e f d) = (q, e)
