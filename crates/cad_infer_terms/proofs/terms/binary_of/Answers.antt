use Rattle.std.proofs.Common.{◌∙◌, ap, sym}
use Rattle.cad_declarations.specs.Typed.{PlaceTree, TermTree, UseTree, TargetedTerm, TermPair}
use Rattle.cad_declarations.specs.Views.{term_of, place_step, term_step, use_step, argument_step, pair_step}
use Rattle.cad_declarations.specs.declared.term.Term.{Term-F, fold-roll-Term}
use Rattle.cad_declarations.specs.declared.term.Term.TheVariants.{rolls-Binary}
use Rattle.cad_infer_terms.proofs.terms.binary_of.Goals as goal

pub returns : goal.returns
returns c =
    ap term_of (sym (rolls-Binary c.args.operator c.args.x c.args.y))
    ∙ fold-roll-Term PlaceTree TermTree UseTree TargetedTerm TermPair place_step term_step use_step argument_step pair_step (Term-F.Binary c.args.operator c.args.x c.args.y)
