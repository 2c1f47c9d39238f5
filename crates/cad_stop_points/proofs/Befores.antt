-- The names before, one import after the other.
use Rattle.std.specs.Prelude.{List, [], ◌∷◌}
use Rattle.std.proofs.Common.{◌≡◌, ◌∙◌, ap, sym}
use Rattle.cad_syntax.specs.declared.text.Name.{Name}
use Rattle.cad_grammar.specs.declared.declaration.Import.{Import}
use Rattle.cad_declarations.specs.Build.{with_names, import_names}
use Rattle.cad_stop_points.proofs.Lists.{with_both}

-- one more import
pub one_more : (imports rest : List Import) (x : Import) (before after whole : List Name) → imports ≡ x ∷ rest → after ≡ with_names x.names before
    → with_names (import_names imports) before ≡ whole → with_names (import_names rest) after ≡ whole
one_more imports rest x before after whole split more so_far =
    ap (with_names (import_names rest)) more
    ∙ sym (with_both x.names (import_names rest) before)
    ∙ ap (λ all. with_names (import_names all) before) (sym split)
    ∙ so_far
