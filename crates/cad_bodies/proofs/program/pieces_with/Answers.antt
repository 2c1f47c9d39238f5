use Rattle.std.proofs.Common.{rules}
use Rattle.cad_grammar.specs.Views.{transaction_of as transaction_tree}
use Rattle.cad_declarations.specs.Views.{tables_of, transaction_of}
use Rattle.cad_pieces.specs.Views.{piece_of, pieces_of}
use Rattle.cad_transactions.specs.Views.{locals_of, typing_of}
use Rattle.cad_bodies.proofs.Parts.{transaction_told}
use Rattle.cad_bodies.proofs.program.pieces_with.Goals as goal

pub returns : goal.returns
returns c =
    transaction_told (tables_of c.args.known.tables.now) (transaction_tree c.args.transaction.now) (locals_of c.args.own.now) (typing_of c.in_ok-typing.typing)
    c.in_ok-count.count c.in_ok-signed.signed
    c.in_ok-names.names c.in_ok-is_right.is_right c.in_ok-rules.rules.items (transaction_of c.in_ok-parts.body) (piece_of c.judged_transaction.result) (pieces_of c.in_ok-parts.parts.items)
    c.judged_transaction.ensures c.in_ok-parts.ensures.pieces c.in_ok-names.ensures c.in_ok-is_right.ensures c.in_ok-rules.ensures (search rules)
    c.in_ok-count.ensures c.in_ok-signed.ensures (search rules)
