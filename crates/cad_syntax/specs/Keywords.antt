-- The words of the language.
use Rattle.std.specs.Prelude.{ℕ, List, [], ◌∷◌, codes}
use Rattle.cad_syntax.specs.declared.keyword.Keyword.{Keyword}
use Rattle.cad_syntax.specs.declared.keyword.Keyword.TheVariants as k

abbrev pub keyword_spelling : Keyword → List ℕ
keyword_spelling k.Access = codes "access"
keyword_spelling k.As = codes "as"
keyword_spelling k.Auth = codes "auth"
keyword_spelling k.Break = codes "break"
keyword_spelling k.Case = codes "case"
keyword_spelling k.Continue = codes "continue"
keyword_spelling k.Contract = codes "contract"
keyword_spelling k.Create = codes "create"
keyword_spelling k.Default = codes "default"
keyword_spelling k.Destroy = codes "destroy"
keyword_spelling k.Else = codes "else"
keyword_spelling k.Emit = codes "emit"
keyword_spelling k.Enum = codes "enum"
keyword_spelling k.Event = codes "event"
keyword_spelling k.Execute = codes "execute"
keyword_spelling k.False = codes "false"
keyword_spelling k.For = codes "for"
keyword_spelling k.Fun = codes "fun"
keyword_spelling k.If = codes "if"
keyword_spelling k.Import = codes "import"
keyword_spelling k.In = codes "in"
keyword_spelling k.Init = codes "init"
keyword_spelling k.Interface = codes "interface"
keyword_spelling k.Let = codes "let"
keyword_spelling k.Nil = codes "nil"
keyword_spelling k.Post = codes "post"
keyword_spelling k.Pre = codes "pre"
keyword_spelling k.Prepare = codes "prepare"
keyword_spelling k.Resource = codes "resource"
keyword_spelling k.Return = codes "return"
keyword_spelling k.Self_ = codes "self"
keyword_spelling k.Struct = codes "struct"
keyword_spelling k.Switch = codes "switch"
keyword_spelling k.Transaction = codes "transaction"
keyword_spelling k.True = codes "true"
keyword_spelling k.Var = codes "var"
keyword_spelling k.While = codes "while"

abbrev pub keywords : List Keyword
keywords =
    k.Access ∷ k.As ∷ k.Auth ∷ k.Break ∷ k.Case ∷ k.Continue ∷ k.Contract ∷ k.Create ∷ k.Default ∷ k.Destroy ∷ k.Else ∷ k.Emit
    ∷ k.Enum ∷ k.Event ∷ k.Execute ∷ k.False ∷ k.For ∷ k.Fun ∷ k.If ∷ k.Import ∷ k.In ∷ k.Init ∷ k.Interface ∷ k.Let ∷ k.Nil
    ∷ k.Post ∷ k.Pre ∷ k.Prepare ∷ k.Resource ∷ k.Return ∷ k.Self_ ∷ k.Struct ∷ k.Switch ∷ k.Transaction ∷ k.True ∷ k.Var
    ∷ k.While ∷ []
