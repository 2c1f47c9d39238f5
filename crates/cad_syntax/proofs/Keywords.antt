-- Keywords are what their test says.
use Rattle.std.proofs.Common.{◌≡◌, ℕ, ◌==◌, true, List, map, Contains, ◌↔◌, refl, ◌∙◌, arith}
use Rattle.std.proofs.lemmas.Slice.Eq.{bytes_eq-Decides}
use Rattle.std.specs.Cmp.Lexicographic.{pointwise}
use Rattle.cad_syntax.specs.declared.keyword.Keyword.{Keyword}
use Rattle.cad_syntax.specs.declared.keyword.Keyword.TheVariants as k
use Rattle.cad_syntax.specs.Keywords.{keyword_spelling, keywords}
use Rattle.cad_syntax.specs.Names.{is_keyword}
use Rattle.cad_syntax.proofs.Members.{some_passes, passes_some, contains_map, map_contains}

listed : (k : Keyword) → Contains keywords k
listed k.Access = (0, omega arith, refl)
listed k.As = (1, omega arith, refl)
listed k.Auth = (2, omega arith, refl)
listed k.Break = (3, omega arith, refl)
listed k.Case = (4, omega arith, refl)
listed k.Continue = (5, omega arith, refl)
listed k.Contract = (6, omega arith, refl)
listed k.Create = (7, omega arith, refl)
listed k.Default = (8, omega arith, refl)
listed k.Destroy = (9, omega arith, refl)
listed k.Else = (10, omega arith, refl)
listed k.Emit = (11, omega arith, refl)
listed k.Enum = (12, omega arith, refl)
listed k.Event = (13, omega arith, refl)
listed k.Execute = (14, omega arith, refl)
listed k.False = (15, omega arith, refl)
listed k.For = (16, omega arith, refl)
listed k.Fun = (17, omega arith, refl)
listed k.If = (18, omega arith, refl)
listed k.Import = (19, omega arith, refl)
listed k.In = (20, omega arith, refl)
listed k.Init = (21, omega arith, refl)
listed k.Interface = (22, omega arith, refl)
listed k.Let = (23, omega arith, refl)
listed k.Nil = (24, omega arith, refl)
listed k.Post = (25, omega arith, refl)
listed k.Pre = (26, omega arith, refl)
listed k.Prepare = (27, omega arith, refl)
listed k.Resource = (28, omega arith, refl)
listed k.Return = (29, omega arith, refl)
listed k.Self_ = (30, omega arith, refl)
listed k.Struct = (31, omega arith, refl)
listed k.Switch = (32, omega arith, refl)
listed k.Transaction = (33, omega arith, refl)
listed k.True = (34, omega arith, refl)
listed k.Var = (35, omega arith, refl)
listed k.While = (36, omega arith, refl)

pub keyword_is_spelled : (text : List ℕ) → (is_keyword text ≡ true) ↔ ((k : Keyword) × (keyword_spelling k ≡ text))
unfolding is_keyword
keyword_is_spelled text = (
  λ e.
      let w = some_passes (λ word. pointwise ◌==◌ word text) (map keyword_spelling keywords) e in
      let s = map_contains keyword_spelling keywords w.0 w.1 in
      (s.0, s.2 ∙ (bytes_eq-Decides w.0 text).0 w.2),
  λ s. passes_some (λ word. pointwise ◌==◌ word text) (map keyword_spelling keywords) (keyword_spelling s.0)
      (contains_map keyword_spelling keywords s.0 (listed s.0)) ((bytes_eq-Decides (keyword_spelling s.0) text).1 s.1),
)
