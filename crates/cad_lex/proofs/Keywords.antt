-- What `keyword` finds is the keyword that is spelled so.
use Rattle.std.proofs.Common.{◌≡◌, ℕ, Bool, true, false, if◌then◌else◌, List, Option, Some, IfSome, bytes_eq, length, ◌==◌, refl, sym}
use Rattle.std.proofs.lemmas.Slice.Eq.{bytes_eq-Decides}
use Rattle.cad_syntax.specs.declared.keyword.Keyword.{Keyword}
use Rattle.cad_syntax.specs.declared.keyword.Keyword.TheVariants as k
use Rattle.cad_syntax.specs.Keywords.{keyword_spelling}
use Rattle.cad_lex.specs.Code.Reading.{keyword, of_two, of_three, of_four, of_five, of_six, of_seven, of_eight, longer}

-- no keyword, or the one that is spelled so
abbrev Spells : List ℕ → Option Keyword → Type 0
Spells w o = IfSome o (λ k. keyword_spelling k ≡ w)

tested : (w : List ℕ) (k : Keyword) (rest : Option Keyword) → Spells w rest → Spells w (if bytes_eq w (keyword_spelling k) then Some k else rest)
tested w k rest h = by_test (bytes_eq w (keyword_spelling k)) refl
  where
    by_test : (v : Bool) → bytes_eq w (keyword_spelling k) ≡ v → Spells w (if v then Some k else rest)
    by_test true e = sym ((bytes_eq-Decides w (keyword_spelling k)).0 e)
    by_test false e = h

chosen : (w : List ℕ) (v : Bool) (a b : Option Keyword) → Spells w a → Spells w b → Spells w (if v then a else b)
chosen w true a b h i = h
chosen w false a b h i = i

pub keyword_spells : (w : List ℕ) → IfSome (keyword w) (λ k. keyword_spelling k ≡ w)
unfolding keyword of_two of_three of_four of_five of_six of_seven of_eight longer
keyword_spells w =
    chosen w (length w == 2) _ _ (tested w k.As _ (tested w k.If _ (tested w k.In _ tt)))
    (chosen w (length w == 3) _ _ (tested w k.For _ (tested w k.Fun _ (tested w k.Let _ (tested w k.Nil _ (tested w k.Pre _ (tested w k.Var _ tt))))))
    (chosen w (length w == 4) _ _ (tested w k.Auth _ (tested w k.Case _ (tested w k.Else _ (tested w k.Emit _ (tested w k.Enum _ (tested w k.Init _ (tested w k.Post _ (tested w k.Self_ _ (tested w k.True _ tt)))))))))
    (chosen w (length w == 5) _ _ (tested w k.Break _ (tested w k.Event _ (tested w k.False _ (tested w k.While _ tt))))
    (chosen w (length w == 6) _ _ (tested w k.Access _ (tested w k.Create _ (tested w k.Import _ (tested w k.Return _ (tested w k.Struct _ (tested w k.Switch _ tt))))))
    (chosen w (length w == 7) _ _ (tested w k.Default _ (tested w k.Destroy _ (tested w k.Execute _ (tested w k.Prepare _ tt))))
    (chosen w (length w == 8) _ _ (tested w k.Continue _ (tested w k.Contract _ (tested w k.Resource _ tt)))
    (tested w k.Interface _ (tested w k.Transaction _ tt))))))))

pub keyword_found : (k : Keyword) → keyword (keyword_spelling k) ≡ Some k
unfolding keyword of_two of_three of_four of_five of_six of_seven of_eight longer
keyword_found k.Access = refl
keyword_found k.As = refl
keyword_found k.Auth = refl
keyword_found k.Break = refl
keyword_found k.Case = refl
keyword_found k.Continue = refl
keyword_found k.Contract = refl
keyword_found k.Create = refl
keyword_found k.Default = refl
keyword_found k.Destroy = refl
keyword_found k.Else = refl
keyword_found k.Emit = refl
keyword_found k.Enum = refl
keyword_found k.Event = refl
keyword_found k.Execute = refl
keyword_found k.False = refl
keyword_found k.For = refl
keyword_found k.Fun = refl
keyword_found k.If = refl
keyword_found k.Import = refl
keyword_found k.In = refl
keyword_found k.Init = refl
keyword_found k.Interface = refl
keyword_found k.Let = refl
keyword_found k.Nil = refl
keyword_found k.Post = refl
keyword_found k.Pre = refl
keyword_found k.Prepare = refl
keyword_found k.Resource = refl
keyword_found k.Return = refl
keyword_found k.Self_ = refl
keyword_found k.Struct = refl
keyword_found k.Switch = refl
keyword_found k.Transaction = refl
keyword_found k.True = refl
keyword_found k.Var = refl
keyword_found k.While = refl
