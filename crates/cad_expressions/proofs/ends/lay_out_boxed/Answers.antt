use Rattle.std.proofs.Common.{subst}
use Rattle.cad_making.specs.Dying.{dying_of, laid_out}
use Rattle.cad_rows.specs.Views.{pure_tree}
use Rattle.cad_rows.specs.declared.tree.Tree.{Tree}
use Rattle.cad_state.specs.Views.{CarriesOut}
use Rattle.cad_expressions.proofs.ends.lay_out_boxed.Goals as goal

pub returns : goal.returns
returns c = subst (λ (t : Tree). CarriesOut dying_of (laid_out (pure_tree t)) c.args.state.now c.lay_out.new.state c.lay_out.result) c.unboxed.ensures c.lay_out.ensures
