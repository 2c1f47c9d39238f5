use Rattle.std.proofs.Common.{rules, arith, ◌∙◌, sym, ap, map}
use Rattle.std.proofs.lemmas.List.{drop_all}
use Rattle.std.specs.List.{list_any}
use Rattle.cad_declarations.specs.Names.{same_name}
use Rattle.cad_environment.specs.Views.{local_of}
use Rattle.cad_statement_parts.proofs.Rows.{name_differs, name_there}
use Rattle.cad_statement_parts.proofs.locals.has_name.Goals as goal

pub returns-then-is_same_name : goal.returns-then-is_same_name
returns-then-is_same_name c =
    name_there c.args.locals.now c.loop-v.v-index c.v-item.result c.args.name.now (search rules) c.v-item.is _ (search rules) c.loop-v.invariant

pub loop-v-preserved : goal.loop-v-preserved
loop-v-preserved c =
    name_differs c.args.locals.now c.loop-v.v-index c.v-item.result c.args.name.now (search rules) c.v-item.is _ (search rules) c.loop-v.invariant

pub returns : goal.returns
returns c = ap (λ z. list_any (λ v. same_name v.name c.args.name.now) (map local_of z)) (sym (drop_all c.loop-v.v-index c.args.locals.now (omega arith))) ∙ c.loop-v.invariant
