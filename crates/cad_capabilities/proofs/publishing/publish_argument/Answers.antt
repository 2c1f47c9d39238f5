use Rattle.std.specs.Prelude.{option_and_then}
use Rattle.cad_capabilities.proofs.Acts.{carries_with}
use Rattle.cad_capabilities.specs.Views.{capability_of}
use Rattle.cad_evaluation.specs.Arguments.{argument, identifier_in, with_identifier}
use Rattle.cad_evaluation.specs.Capabilities.{capability_in, is_own, publish_free}
use Rattle.cad_rows.specs.Views.{pure_row, pure_tree}
use Rattle.cad_syntax.specs.declared.address.Domain.TheVariants as domain
use Rattle.cad_world.specs.State.{require}
use Rattle.cad_capabilities.proofs.publishing.publish_argument.Goals as goal

pub returns-in-Some-identifier : goal.returns-in-Some-identifier
returns-in-Some-identifier c =
    let a = c.args.address in
    let row = pure_row c.args.row.now in
    let x = capability_of c.in-Some.cap.now in
    let s = c.args.state.now in
    let u = c.publish_own.new.state in
    carries_with pure_tree (λ y. with_identifier domain.Public 1 row (λ name. require 117 (is_own a y) (publish_free a y name))) (option_and_then capability_in (argument 0 row)) x s u c.publish_own.result c.in-Some.ensures
    (carries_with pure_tree (λ name. require 117 (is_own a x) (publish_free a x name)) (option_and_then (identifier_in domain.Public) (argument 1 row)) c.in-Some-identifier.name.now s u c.publish_own.result c.in-Some-identifier.ensures
    c.publish_own.ensures)
