-- What the crates above name of the ones below.
pub use Rattle.cad_evaluation.specs.Adding.{contract_named, initializer_types, is_contract_of, is_taken, new_contract}
pub use Rattle.cad_evaluation.specs.Evaluation.{calls_to}
pub use Rattle.cad_outcomes.specs.Outcomes.{no_value}
pub use Rattle.cad_transaction_ends.specs.OverStorable.{FindsAndCarriesOutOverStorable}
