-- The longest program, and that there is one at most.
use Rattle.std.proofs.Common.{◌≡◌, ◌⊎◌, inl, inr, ℕ, ◌<◌, ◌≤◌, List, [], ◌∷◌, length, Some, None, refl, sym, ap, ◌∙◌, subst, arith}
use Rattle.cad_grammar.specs.declared.token.Token.{Token}
use Rattle.cad_grammar.specs.Lexes.{Lexes, Stops}
use Rattle.cad_grammar.specs.declared.phase.Phase.{Phase}
use Rattle.cad_grammar.specs.declared.phase.Phase.TheVariants.{Lex, Parse, Resolve, Types, Conformance, Moves, Purity, Initialisation}
use Rattle.cad_grammar.specs.declared.declaration.Import.{Import}
use Rattle.cad_grammar.specs.Trees.{DeclTree, ProgramTree}
use Rattle.cad_grammar.specs.Spots.{Spot}
use Rattle.cad_grammar.specs.ProgramGrammar.{Chain, ReadsImport, ReadsDecl, ReadsProgram, begin, Spells}
use Rattle.cad_grammar.specs.ProgramGrammar as g
use Rattle.cad_parse_type.proofs.Climbs.{then_is, Shrinks}
use Rattle.cad_parse.specs.Program.{Parses, EndsAt, Refuses, Unparsed}
use Rattle.cad_parse.specs.Code.Parts.{chain}
use Rattle.cad_parse.specs.Code.Reading.{import, declaration, imports, declarations, program}
use Rattle.cad_parse.proofs.Chains.{chain_extends, chain_exact, chain_sound, chain_gives}

-- a text is refused by the lexer, or by the reader of tokens
pub refused_by : (text : List ℕ) (phase : Phase) (n : ℕ) → Refuses text phase n → ((phase ≡ Lex) × Stops text n) ⊎ ((phase ≡ Parse) × Unparsed text n)
refused_by text Lex n a = inl (refl, a)
refused_by text Parse n a = inr (refl, a)
refused_by text Resolve n a = absurd a
refused_by text Types n a = absurd a
refused_by text Conformance n a = absurd a
refused_by text Moves n a = absurd a
refused_by text Purity n a = absurd a
refused_by text Initialisation n a = absurd a

-- what stands between the readers of imports and declarations and the grammar
pub record DeclarationLaws : Type 0 where
  pub import_sound : (p : Spot) (x : Import × Spot) → import p ≡ Some x → ReadsImport p x.0 x.1
  pub import_exact : (p : Spot) (i : Import) (q : Spot) → ReadsImport p i q → import p ≡ Some (i, q)
  pub import_shorter : Shrinks import
  pub declaration_sound : (p : Spot) (x : DeclTree × Spot) → declaration p ≡ Some x → ReadsDecl p x.0 x.1
  pub declaration_exact : (p : Spot) (d : DeclTree) (q : Spot) → ReadsDecl p d q → declaration p ≡ Some (d, q)
  pub declaration_shorter : Shrinks declaration
  -- no import begins where a declaration does
  pub no_import : (p : Spot) (d : DeclTree) (q : Spot) → ReadsDecl p d q → import p ≡ None

-- the same, or what takes more tokens
abbrev Longer : {A : Type 0} → A × Spot → A × Spot → Type 0
Longer x y = (x ≡ y) ⊎ (length x.1.tokens < length y.1.tokens)

module _ (laws : DeclarationLaws) where
  pub program_gives : (p : Spot) → (x : ProgramTree × Spot) × (program p ≡ Some x)
  unfolding program
  program_gives p =
      let i = chain_gives import laws.import_shorter p in
      let d = chain_gives declaration laws.declaration_shorter i.0.1 in
      ((record { imports = i.0.0; declarations = d.0.0 }, d.0.1), then_is (imports p) _ i.0 i.1 ∙ then_is (declarations i.0.1) _ d.0 d.1)

  -- its imports and declarations
  parts : (p : Spot) (x : ProgramTree × Spot) → program p ≡ Some x
      → (i : List Import × Spot) × (d : List DeclTree × Spot) × (imports p ≡ Some i) × (declarations i.1 ≡ Some d) × (x ≡ (record { imports = i.0; declarations = d.0 }, d.1))
  unfolding program
  parts p x e =
      let i = chain_gives import laws.import_shorter p in
      let d = chain_gives declaration laws.declaration_shorter i.0.1 in
      let f = then_is (imports p) _ i.0 i.1 ∙ then_is (declarations i.0.1) _ d.0 d.1 in
      (i.0, d.0, i.1, d.1, some_same (sym e ∙ f))
    where
      some_same : {A : Type 0} {a b : A} → Some a ≡ Some b → a ≡ b
      some_same e = cc e

  pub program_sound : (p : Spot) (x : ProgramTree × Spot) → program p ≡ Some x → ReadsProgram p x.0 x.1
  program_sound p x e =
      let w = parts p x e in
      subst (λ y. ReadsProgram p y.0 y.1) (sym w.4)
      (g.program (chain_sound import ReadsImport laws.import_sound (length p.tokens) p w.0 w.2)
      (chain_sound declaration ReadsDecl laws.declaration_sound (length w.0.1.tokens) w.0.1 w.1 w.3))

  -- behind imports that are spelled no declaration is
  only_imports : (p q : Spot) (i : List Import) → Chain ReadsImport p i q
      → (x : ProgramTree × Spot) × (program p ≡ Some x) × Longer x (record { imports = i; declarations = [] }, q)
  unfolding program
  only_imports p q i c =
      let w = chain_extends import ReadsImport laws.import_exact laws.import_shorter c in
      let d = chain_gives declaration laws.declaration_shorter w.0.1 in
      ((record { imports = w.0.0; declarations = d.0.0 }, d.0.1), then_is (imports p) _ w.0 w.1 ∙ then_is (declarations w.0.1) _ d.0 d.1, joined w.0 d.0 w.2 d.2)
    where
      joined : (y : List Import × Spot) (d : List DeclTree × Spot) → Longer y (i, q) → Longer d ([], y.1)
          → Longer {A = ProgramTree} (record { imports = y.0; declarations = d.0 }, d.1) (record { imports = i; declarations = [] }, q)
      joined y d (inl e) (inl f) =
          inl (ap (λ z. (record { imports = y.0; declarations = z.0 }, z.1)) f ∙ ap (λ z. (record { imports = z.0; declarations = [] }, z.1)) e)
      joined y d (inl e) (inr lt) = inr (omega (arith, ap (λ z. length z.1.tokens) e))
      joined y d (inr lt) (inl f) = inr (omega (arith, ap (λ z. length z.1.tokens) f))
      joined y d (inr lt) (inr less) = inr (omega arith)

  with_declarations : (p q r : Spot) (i : List Import) (d : List DeclTree) → Chain ReadsImport p i q → import q ≡ None → Chain ReadsDecl q d r
      → (x : ProgramTree × Spot) × (program p ≡ Some x) × Longer x (record { imports = i; declarations = d }, r)
  unfolding program
  with_declarations p q r i d c none w =
      let y = chain_extends declaration ReadsDecl laws.declaration_exact laws.declaration_shorter w in (
        (record { imports = i; declarations = y.0.0 }, y.0.1),
        then_is (imports p) _ (i, q) (chain_exact import ReadsImport laws.import_exact laws.import_shorter c none) ∙ then_is (declarations q) _ y.0 y.1,
        longer y.0 y.2,
      )
    where
      longer : (y : List DeclTree × Spot) → Longer y (d, r) → Longer {A = ProgramTree} (record { imports = i; declarations = y.0 }, y.1) (record { imports = i; declarations = d }, r)
      longer y (inl e) = inl (ap (λ z. (record { imports = i; declarations = z.0 }, z.1)) e)
      longer y (inr lt) = inr lt

  declared : (p q r : Spot) (i : List Import) (d : List DeclTree) → Chain ReadsImport p i q → Chain ReadsDecl q d r
      → (x : ProgramTree × Spot) × (program p ≡ Some x) × Longer x (record { imports = i; declarations = d }, r)
  declared p q r i [] c g.end = only_imports p q i c
  declared p q r i (a ∷ all) c (g.link {q = u} d w) = with_declarations p q r i (a ∷ all) c (laws.no_import q a u d) (g.link d w)

  pub program_longest : {p q : Spot} {t : ProgramTree} → ReadsProgram p t q → (x : ProgramTree × Spot) × (program p ≡ Some x) × Longer x (t, q)
  program_longest (g.program {p} {q} {r} {imports = i} {declarations = d} c w) = declared p q r i d c w

  -- what is read is the same as any other program, or leaves fewer tokens
  against : (p : Spot) (x : ProgramTree × Spot) → program p ≡ Some x → (t : ProgramTree) (q : Spot) → ReadsProgram p t q → Longer x (t, q)
  against p x e t q d = let w = program_longest d in subst (λ y. Longer y (t, q)) (same (sym w.1 ∙ e)) w.2
    where
      same : {A : Type 0} {a b : A} → Some a ≡ Some b → a ≡ b
      same e = cc e

  pub at_most : (p : Spot) (x : ProgramTree × Spot) → program p ≡ Some x → (t : ProgramTree) (q : Spot) → ReadsProgram p t q → length x.1.tokens ≤ length q.tokens
  at_most p x e t q d = bound x (t, q) (against p x e t q d)
    where
      bound : (x y : ProgramTree × Spot) → Longer x y → length x.1.tokens ≤ length y.1.tokens
      bound x y (inl e) = omega (arith, ap (λ z. length z.1.tokens) e)
      bound x y (inr lt) = omega arith

  -- two programs that leave as few tokens as any are one
  same_end : (p : Spot) (t u : ProgramTree) (q r : Spot) → ReadsProgram p t q → ReadsProgram p u r
      → ((o : ProgramTree) (s : Spot) → ReadsProgram p o s → length q.tokens ≤ length s.tokens) → ((o : ProgramTree) (s : Spot) → ReadsProgram p o s → length r.tokens ≤ length s.tokens)
      → ◌≡◌ {A = ProgramTree × Spot} (t, q) (u, r)
  same_end p t u q r d f least fewest =
      let w = program_gives p in
      let s = program_sound p w.0 w.1 in
      sym (settled w.0 (t, q) (against p w.0 w.1 t q d) (least w.0.0 w.0.1 s)) ∙ settled w.0 (u, r) (against p w.0 w.1 u r f) (fewest w.0.0 w.0.1 s)
    where
      settled : (x y : ProgramTree × Spot) → Longer x y → length y.1.tokens ≤ length x.1.tokens → x ≡ y
      settled x y (inl e) le = e
      settled x y (inr lt) le = let never : ⊥ = omega arith in absurd never

  none_left : (ts : List Token) (n : ℕ) → ts ≡ [] → length ts ≤ n
  none_left ts n e = omega (arith, ap length e)

  -- tokens spell one program at most
  pub one_spelled : (tokens : List Token) (a b : ProgramTree) → Spells tokens a → Spells tokens b → a ≡ b
  one_spelled tokens a b (g.spells {end = q} d e) (g.spells {end = r} f h) =
      ap (λ x. x.0) (same_end (begin tokens) a b q r d f (λ o s w. none_left q.tokens (length s.tokens) e) (λ o s w. none_left r.tokens (length s.tokens) h))

  module _ (one_lexing : (text : List ℕ) (a b : List Token) → Lexes text a → Lexes text b → a ≡ b) where
    pub one_parsed : (text : List ℕ) (a b : ProgramTree) → Parses text a → Parses text b → a ≡ b
    one_parsed text a b u v = one_spelled v.tokens a b (subst (λ ts. Spells ts a) (one_lexing text u.tokens v.tokens u.lexes v.lexes) u.spells) v.spells

    same_place : (tokens : List Token) (m n : ℕ) → EndsAt tokens m → EndsAt tokens n → m ≡ n
    same_place tokens m n a b =
        let e = same_end (begin tokens) a.program b.program a.end b.end a.reads b.reads a.longest b.longest in
        sym a.place ∙ starts (sym a.left ∙ ap (λ x. x.1.tokens) e ∙ b.left) ∙ b.place
      where
        starts : {t u : Token} {ts us : List Token} → t ∷ ts ≡ u ∷ us → t.start ≡ u.start
        starts e = cc e

    module _ (one_stop : (text : List ℕ) (m n : ℕ) → Stops text m → Stops text n → m ≡ n) (no_stop : (text : List ℕ) (tokens : List Token) (n : ℕ) → Lexes text tokens → Stops text n → ⊥) where
      pub one_refused : (text : List ℕ) (phase other : Phase) (m n : ℕ) → Refuses text phase m → Refuses text other n → (phase ≡ other) × (m ≡ n)
      one_refused text phase other m n a b = both (refused_by text phase m a) (refused_by text other n b)
        where
          both : (((phase ≡ Lex) × Stops text m) ⊎ ((phase ≡ Parse) × Unparsed text m)) → (((other ≡ Lex) × Stops text n) ⊎ ((other ≡ Parse) × Unparsed text n)) → (phase ≡ other) × (m ≡ n)
          both (inl x) (inl y) = (x.0 ∙ sym y.0, one_stop text m n x.1 y.1)
          both (inl x) (inr y) = absurd (no_stop text y.1.tokens m y.1.lexes x.1)
          both (inr x) (inl y) = absurd (no_stop text x.1.tokens n x.1.lexes y.1)
          both (inr x) (inr y) =
              (x.0 ∙ sym y.0, same_place y.1.tokens m n (subst (λ ts. EndsAt ts m) (one_lexing text x.1.tokens y.1.tokens x.1.lexes y.1.lexes) x.1.ends) y.1.ends)

      -- a program is refused nowhere
      pub never_refused : (text : List ℕ) (tree : ProgramTree) → Parses text tree → (phase : Phase) (n : ℕ) → Refuses text phase n → ⊥
      never_refused text tree a phase n b = either (refused_by text phase n b)
        where
          either : (((phase ≡ Lex) × Stops text n) ⊎ ((phase ≡ Parse) × Unparsed text n)) → ⊥
          either (inl x) = no_stop text a.tokens n a.lexes x.1
          either (inr x) = x.1.none tree (subst (λ ts. Spells ts tree) (one_lexing text a.tokens x.1.tokens a.lexes x.1.lexes) a.spells)

  -- what is read to the end is the program; else the next token is where it ends
  pub read_whole : (tokens : List Token) (x : ProgramTree × Spot) → program (begin tokens) ≡ Some x → x.1.tokens ≡ [] → Spells tokens x.0
  read_whole tokens x e f = g.spells (program_sound (begin tokens) x e) f

  pub not_spelled : (tokens : List Token) (x : ProgramTree × Spot) (t : Token) (rest : List Token) → program (begin tokens) ≡ Some x → x.1.tokens ≡ t ∷ rest
      → (tree : ProgramTree) → Spells tokens tree → ⊥
  not_spelled tokens x t rest e f tree (g.spells {end = q} d h) =
      let le = at_most (begin tokens) x e tree q d in omega (arith, le, ap length f, ap length h)

  pub ends_there : (tokens : List Token) (x : ProgramTree × Spot) (t : Token) (rest : List Token) → program (begin tokens) ≡ Some x → x.1.tokens ≡ t ∷ rest → EndsAt tokens t.start
  ends_there tokens x t rest e f = record {
    program = x.0;
    end = x.1;
    token = t;
    rest = rest;
    reads = program_sound (begin tokens) x e;
    longest = at_most (begin tokens) x e;
    left = f;
    place = refl;
  }
