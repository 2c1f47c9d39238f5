use Rattle.std.proofs.Common.{ℕ, ap, sym, ◌∙◌}
use Rattle.cad_evaluation.specs.Texts.{given_int}
use Rattle.cad_containers.proofs.Keys.{as_many}
use Rattle.cad_containers.proofs.dictionaries.length.Goals as goal

pub returns : goal.returns
returns c = λ s. ap (λ (n : ℕ). given_int n s) (sym (c.len.ensures ∙ as_many c.args.keys.now)) ∙ c.count_tree.ensures s
