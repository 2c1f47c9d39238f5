use Rattle.std.proofs.Common.{Err, refl, subst, sym}
use Rattle.cad_outcomes.specs.declared.error.RunError.TheVariants.{ReferenceInvalid}
use Rattle.cad_outcomes.specs.declared.stop.Stop.TheVariants.{Failed}
use Rattle.cad_rows.specs.Views.{pure_tree}
use Rattle.cad_rows.specs.declared.tree.Tree.{Tree as Code}
use Rattle.cad_state.specs.Views.{FindsAndCarriesOut}
use Rattle.cad_syntax.specs.Types.{pure_type}
use Rattle.cad_value_operations.specs.Code.Members.{instance_of, told_of, with_told}
use Rattle.cad_value_operations.specs.declared.types.Told.{Told}
use Rattle.cad_value_operations.proofs.types.instance_by.Goals as goal

pub returns-in-Copy : goal.returns-in-Copy
returns-in-Copy c =
    subst (λ (t : Told). FindsAndCarriesOut pure_tree (with_told (told_of t) (instance_of (pure_type c.args.wanted.now))) c.args.state.now c.instance_of.new.state c.instance_of.result) (sym c.in-Copy.is) c.instance_of.ensures

pub returns-in-Named : goal.returns-in-Named
returns-in-Named c =
    subst (λ (t : Told). FindsAndCarriesOut pure_tree (with_told (told_of t) (instance_of (pure_type c.args.wanted.now))) c.args.state.now c.args.state.now c.instance_told.result) (sym c.in-Named.is)
    (λ w ready. c.instance_told.ensures w)

pub returns-in-Nothing : goal.returns-in-Nothing
returns-in-Nothing c =
    subst (λ (t : Told). FindsAndCarriesOut {B = Code} pure_tree (with_told (told_of t) (instance_of (pure_type c.args.wanted.now))) c.args.state.now c.args.state.now (Err (Failed ReferenceInvalid))) (sym c.in-Nothing.is)
    (λ w ready. refl)
