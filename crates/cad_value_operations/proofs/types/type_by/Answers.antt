use Rattle.std.proofs.Common.{Err, Ok, ap, refl, subst, sym}
use Rattle.cad_evaluation.specs.Casts.{type_tree}
use Rattle.cad_outcomes.specs.declared.error.RunError.TheVariants.{ReferenceInvalid}
use Rattle.cad_outcomes.specs.declared.stop.Stop.TheVariants.{Failed}
use Rattle.cad_rows.specs.Views.{pure_tree}
use Rattle.cad_rows.specs.declared.tree.Tree.{Tree as Code}
use Rattle.cad_state.specs.Views.{state_over, FindsAndCarriesOut}
use Rattle.cad_value_operations.specs.Code.Members.{told_of, with_told}
use Rattle.cad_value_operations.specs.declared.types.Told.{Told}
use Rattle.cad_world.specs.Rows.{Tree}
use Rattle.cad_world.specs.State.{give, ok}
use Rattle.cad_value_operations.proofs.types.type_by.Goals as goal

pub returns-in-Copy : goal.returns-in-Copy
returns-in-Copy c =
    subst (λ (t : Told). FindsAndCarriesOut pure_tree (with_told (told_of t) (λ own. give (type_tree own))) c.args.state.now c.type_of-own.new.state c.type_of-own.result) (sym c.in-Copy.is) c.type_of-own.ensures

pub returns-in-Named : goal.returns-in-Named
returns-in-Named c =
    subst (λ (t : Told). FindsAndCarriesOut pure_tree (with_told (told_of t) (λ own. give (type_tree own))) c.args.state.now c.args.state.now (Ok c.type_tree.result)) (sym c.in-Named.is)
    (λ w ready. ap (λ (t : Tree). ok t (state_over w c.args.state.now)) (sym c.type_tree.ensures))

pub returns-in-Nothing : goal.returns-in-Nothing
returns-in-Nothing c =
    subst (λ (t : Told). FindsAndCarriesOut {B = Code} pure_tree (with_told (told_of t) (λ own. give (type_tree own))) c.args.state.now c.args.state.now (Err (Failed ReferenceInvalid))) (sym c.in-Nothing.is)
    (λ w ready. refl)
