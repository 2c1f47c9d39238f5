use Rattle.std.proofs.Common.{◌∙◌, ap, length, map, arith}
use Rattle.std.proofs.lemmas.List.{length-map}
use Rattle.std.specs.List.{list_all}
use Rattle.cad_declarations.specs.Views.{variable_of}
use Rattle.cad_runs.specs.Commands.{is_account}
use Rattle.cad_world.specs.State.{World}
use Rattle.cad_run_worlds.proofs.Signing.{other_count, same_count}
use Rattle.cad_run_worlds.proofs.signers.are_signers.Goals as goal

pub returns-then-signers-len : goal.returns-then-signers-len
returns-then-signers-len c = λ w over.
    let own = c.args.transaction.now.signers in
    other_count (list_all (is_account w) c.args.signers.now) (length c.args.signers.now) (length (map variable_of own.items)) (λ e. omega (arith, e, length-map own.items variable_of, own.ok.0, c.len.ensures))

pub returns : goal.returns
returns c = λ w over.
    let own = c.args.transaction.now.signers in
    same_count c.are_among.result (list_all (is_account w) c.args.signers.now) (length c.args.signers.now) (length (map variable_of own.items))
    (c.are_among.ensures w (c.account_total.ensures w.accounts ∙ ap (λ (x : World). length x.accounts) over))
    (omega (arith, length-map own.items variable_of, own.ok.0, c.len.ensures))
