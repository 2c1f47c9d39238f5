use Rattle.cad_evaluation.specs.Storage.{save, type_at}
use Rattle.cad_rows.specs.Views.{pure_row, pure_tree}
use Rattle.cad_rows.specs.declared.tree.Place.{Place}
use Rattle.cad_services.specs.Code.Services.{storage_member, typed_stored}
use Rattle.cad_services.specs.declared.groups.StorageMember.{StorageMember}
use Rattle.cad_state.proofs.Finding.{find_any}
use Rattle.cad_state.specs.Views.{FindsAndCarriesOut}
use Rattle.cad_syntax.specs.Types.{pure_type}
use Rattle.std.proofs.Common.{List, map, subst, sym}
use Rattle.cad_services.proofs.storage.storage_member.Goals as goal

pub returns-in-Save : goal.returns-in-Save
returns-in-Save c = subst (λ (m : StorageMember). FindsAndCarriesOut pure_tree (storage_member m (map (λ t. pure_type t) c.args.types.now) (pure_row c.args.row.items) c.args.address) c.args.state.now c.save.new.state c.save.result) (sym c.in-Save.is)
    (find_any pure_tree (save (pure_row c.args.row.items) c.args.address) c.args.state.now c.save.new.state c.save.result c.save.ensures)

pub returns-in-TypeOf : goal.returns-in-TypeOf
returns-in-TypeOf c = subst (λ (m : StorageMember). FindsAndCarriesOut pure_tree (storage_member m (map (λ t. pure_type t) c.args.types.now) (pure_row c.args.row.items) c.args.address) c.args.state.now c.type_at-given.new.state c.type_at-given.result) (sym c.in-TypeOf.is)
    (subst (λ (r : List Place). FindsAndCarriesOut pure_tree (type_at (pure_row r) c.args.address) c.args.state.now c.type_at-given.new.state c.type_at-given.result) c.as_slice.ensures.value c.type_at-given.ensures)

pub returns-in-Typed : goal.returns-in-Typed
returns-in-Typed c = subst (λ (m : StorageMember). FindsAndCarriesOut pure_tree (storage_member m (map (λ t. pure_type t) c.args.types.now) (pure_row c.args.row.items) c.args.address) c.args.state.now c.typed_member-given.new.state c.typed_member-given.result) (sym c.in-Typed.is)
    (subst (λ (r : List Place). FindsAndCarriesOut pure_tree (typed_stored c.in-Typed.of (map (λ t. pure_type t) c.args.types.now) (pure_row r) c.args.address) c.args.state.now c.typed_member-given.new.state c.typed_member-given.result) c.as_slice-in-Typed.ensures.value c.typed_member-given.ensures)
