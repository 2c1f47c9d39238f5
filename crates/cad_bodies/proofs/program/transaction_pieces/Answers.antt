use Rattle.std.proofs.Common.{◌≡◌, ◌∙◌, ap, ◌∷◌, rules}
use Rattle.std.specs.Result.{IfOk}
use Rattle.cad_grammar.specs.Views.{transaction_of as transaction_tree}
use Rattle.cad_declarations.specs.Views.{tables_of}
use Rattle.cad_pieces.specs.Views.{piece_of, pieces_of}
use Rattle.cad_transactions.specs.Views.{locals_of}
use Rattle.cad_bodies.specs.Code.Parts.{whole_in}
use Rattle.cad_bodies.proofs.Each.{along}
use Rattle.cad_bodies.proofs.Parts.{own_law}
use Rattle.cad_bodies.proofs.program.transaction_pieces.Goals as goal

pub returns : goal.returns
returns c =
    along c.pieces_with.result (λ x. piece_of x.0 ∷ pieces_of x.1.items) _ _ c.pieces_with.ensures
    (ap (λ l. whole_in (tables_of c.args.known.tables.now) (transaction_tree c.args.transaction.now) l) c.in_ok-own.ensures
    ∙ own_law (tables_of c.args.known.tables.now) (transaction_tree c.args.transaction.now))
