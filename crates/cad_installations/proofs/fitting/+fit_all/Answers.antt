use Rattle.std.proofs.Common.{drop, subst, sym}
use Rattle.std.proofs.lemmas.List.{take_rest}
use Rattle.std.specs.Prelude.{List, Err}
use Rattle.std.specs.declared.alloc.Global.{Global}
use Rattle.std.specs.declared.vec.Vec.{Vec}
use Rattle.cad_declarations.specs.declared.member.Parameter.{Parameter}
use Rattle.cad_evaluation.specs.Adding.{all_fitted}
use Rattle.cad_installations.proofs.Coming.{fits_before, first_stops, first_type, no_types, none_wanted}
use Rattle.cad_installations.specs.Views.{items_row, types_of}
use Rattle.cad_rows.specs.Views.{pure_row}
use Rattle.cad_rows.specs.declared.tree.Place.{Place}
use Rattle.cad_state.specs.Views.{FindsAndCarriesOut}
use Rattle.cad_syntax.specs.Types.{PureType, pure_type}
use Rattle.cad_types.specs.Views.{declarations}
use Rattle.cad_installations.proofs.fitting.+fit_all.Goals as goal

pub returns-in-empty : goal.returns-in-empty
returns-in-empty t c =
    none_wanted (declarations c.args.kinds.now) (types_of c.args.parameters.now) (pure_row c.args.row.items) c.args.state.now c.no_more.result (no_types c.args.parameters.now c.in-empty.len_below) c.no_more.ensures

pub returns-in-Ok : goal.returns-in-Ok
returns-in-Ok t c =
    subst (λ (ts : List PureType). FindsAndCarriesOut items_row (all_fitted (declarations c.args.kinds.now) ts (pure_row c.args.row.items)) c.args.state.now c.fit_all-rest.new.state c.fitted_before.result)
    (sym (first_type c.args.parameters.now c.parameter-item.result c.in-len1-up.len_at_least c.parameter-item.is))
    (fits_before (declarations c.args.kinds.now) (pure_type c.parameter-item.result.declared) (types_of (drop 1 c.args.parameters.now)) c.in-Some.place c.take_first.new.row.items c.args.row.items c.in-Ok.own
    c.args.state.now c.fit_place.new.state c.fit_all-rest.new.state c.fit_all-rest.result c.fitted_before.result c.in-Some.ensures c.in-Ok.ensures
    (subst (λ (ps : List Parameter). FindsAndCarriesOut items_row (all_fitted (declarations c.args.kinds.now) (types_of ps) (pure_row c.take_first.new.row.items)) c.fit_place.new.state c.fit_all-rest.new.state c.fit_all-rest.result) (take_rest c.args.parameters.now 1) c.fit_all-rest.ensures)
    c.fitted_before.ensures)

pub returns-in-Err : goal.returns-in-Err
returns-in-Err t c =
    subst (λ (ts : List PureType). FindsAndCarriesOut {B = Vec Place Global} items_row (all_fitted (declarations c.args.kinds.now) ts (pure_row c.args.row.items)) c.args.state.now c.fit_place.new.state (Err c.in-Err.stop))
    (sym (first_type c.args.parameters.now c.parameter-item.result c.in-len1-up.len_at_least c.parameter-item.is))
    (first_stops (declarations c.args.kinds.now) (pure_type c.parameter-item.result.declared) (types_of (drop 1 c.args.parameters.now)) c.in-Some.place c.take_first.new.row.items c.args.row.items
    c.args.state.now c.fit_place.new.state c.fit_place.new.state c.in-Err.stop c.in-Some.ensures c.in-Err.ensures)
