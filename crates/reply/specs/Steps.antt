-- The order in which the code judges an acknowledgement. `proofs/Steps.antt` ties it to the order of writing. Assumes nothing.
use Rattle.std.specs.Prelude.{ℕ, List, [], ◌∷◌, ◌++◌, ltb}
use Rattle.message.specs.Order.{Condition, ◌when◌}
use Rattle.message.specs.Refusals.{bad_encrypt, total, address_order}
use Rattle.message.specs.declared.value.Message.{Message}
use Rattle.message.specs.declared.answers.Reason.TheVariants.{Encrypt, NoRoom}

-- what can be refused of the value of an acknowledgement: the rest of the order of writing never holds of it
unfoldable pub acknowledging_order : Message → ℕ → List Condition
acknowledging_order value room = Encrypt when bad_encrypt value.encrypt ∷ (address_order value ++ (NoRoom when ltb room (total value []) ∷ []))
