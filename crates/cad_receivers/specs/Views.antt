-- What receivers are, what they are now, and what is done with that.
use Rattle.std.specs.Prelude.{option_map}
use Rattle.cad_rows.specs.Views.{pure_shape, pure_row}
use Rattle.cad_receivers.specs.declared.receivers.Receiver.{Receiver}
use Rattle.cad_receivers.specs.declared.receivers.Receiver.TheVariants as variant
use Rattle.cad_receivers.specs.declared.receivers.Settled.{Settled}
use Rattle.cad_receivers.specs.declared.receivers.Settled.TheVariants as lent
use Rattle.cad_receivers.specs.declared.receivers.Spot.{Spot}
use Rattle.cad_world.specs.Receivers as r
use Rattle.cad_world.specs.State.{Action, ◌>>=◌}

abbrev pub receiver_of : Receiver → r.Receiver
receiver_of (variant.Standing rights l n) = r.standing rights l n
receiver_of (variant.Through shape) = r.through (pure_shape shape)
receiver_of (variant.Absent nil) = r.absent

-- a receiver that is lent
abbrev pub settled_of : Settled → r.Receiver
settled_of (lent.Standing rights l n) = r.standing (option_map (λ own. own.now) rights) l n
settled_of (lent.Through shape) = r.through (pure_shape shape.now)
settled_of (lent.Absent nil) = r.absent

abbrev pub spot_of : Spot → r.Spot
spot_of x = record {
  rights = option_map (λ own. own.now) x.rights;
  label = x.label;
  tree = record { optionals = x.optionals; shape = pure_shape x.shape.now; parts = pure_row x.parts.now };
}

-- what is done with what a receiver is now
abbrev pub at_spot : {A : Type 0} → r.Receiver → (r.Spot → Action A) → Action A
at_spot x f = r.look_at x >>= f
