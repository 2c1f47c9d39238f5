use Rattle.std.specs.Prelude.{Result}
use Rattle.std.proofs.Common.{◌∙◌, ℕ, ◌+◌, ap, sym, map}
use Rattle.cad_declarations.specs.Typed as e
use Rattle.cad_declarations.specs.Views.{block_of, statement_of}
use Rattle.cad_typing.specs.Statements as spec
use Rattle.cad_statement_parts.specs.Blocks.{continued, numbered}
use Rattle.cad_statement_parts.specs.Views.{surroundings_of}
use Rattle.cad_statement_trees.proofs.Empty.{empty_at}
use Rattle.cad_statement_trees.proofs.blocks.empty_block.Goals as goal

pub returns-in-Ok : goal.returns-in-Ok
returns-in-Ok c =
    let w = surroundings_of c.args.w in
    empty_at w c.in-Ok.n (block_of c.ended-block.result)
    (c.ended-block.ensures ∙ ap (λ z. e.block c.args.w.env.in_use (e.statements_of (map statement_of z))) c.begin.ensures.trees)
    ∙ ap (λ (at : Result ℕ ℕ). continued at (λ n. numbered (n + 0) (spec.empty_block w))) (sym c.in-Ok.is)
