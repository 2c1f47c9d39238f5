-- An enum that is right in each part.
use Rattle.std.specs.Prelude.{Bool, true, ◌&&◌, List, [], map}
use Rattle.std.specs.List.{list_all}
use Rattle.std.proofs.Common.{◌≡◌, ◌∙◌, ap, sym}
use Rattle.cad_grammar.specs.Trees as t
use Rattle.cad_grammar.specs.declared.declaration.EnumCase.{EnumCase}
use Rattle.cad_declarations.specs.Points.{access_is_there, type_is_there, are_new}
use Rattle.cad_declarations.specs.Scopes.{Scope}

-- its type is there
pub parts_right : (scope : Scope) (x : t.EnumTree) (r n : Bool) (all : List EnumCase)
    → r ≡ type_is_there scope (t.named x.raw t.no_annotations)
    → n ≡ (are_new [] (map (λ c. c.name) all) && list_all (λ c. access_is_there scope c.access) all)
    → all ≡ x.cases → r ≡ true
    → n ≡ (type_is_there scope (t.named x.raw t.no_annotations) && (are_new [] (map (λ c. c.name) x.cases) && list_all (λ c. access_is_there scope c.access) x.cases))
parts_right scope x r n all is_r is_n same is_true =
    is_n
    ∙ ap (λ (cs : List EnumCase). are_new [] (map (λ c. c.name) cs) && list_all (λ c. access_is_there scope c.access) cs) same
    ∙ ap (λ b. b && (are_new [] (map (λ c. c.name) x.cases) && list_all (λ c. access_is_there scope c.access) x.cases)) (sym is_true ∙ is_r)
