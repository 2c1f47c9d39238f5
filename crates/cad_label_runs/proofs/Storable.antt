-- Storable: labels are kept apart, and values in hand have none.
use Rattle.cad_world.specs.Storable.{is_storable, is_low, all_in_accounts, values_last}
use Rattle.cad_labels.specs.Laws.{Keeps, AnyOne}
use Rattle.cad_world.specs.State.{done}
use Rattle.cad_labels.proofs.Forms.{keeps_done, keeps_require}

pub values_last_keeps : Keeps AnyOne values_last
values_last_keeps = λ s once. (keeps_require AnyOne 133 (all_in_accounts is_storable s.accounts s.contracts) _ (keeps_require AnyOne 123 (all_in_accounts is_low s.accounts s.contracts) done keeps_done)) s once
