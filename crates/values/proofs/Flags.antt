-- The flags in one number, and each of them read back. Assumes nothing.
use Prim.Native.Nat.{◌+◌}
use mathlib.Core.Path.{◌≡◌, refl}
use mathlib.Core.Bool.{Bool, true, false}
use lib.Dec.{ltb}
use Rattle.message.specs.Layout.{only}
use Rattle.message.specs.declared.value.Message.{Message}
use Rattle.format.proofs.HeaderForth.{Exchange}
use Rattle.message.specs.Value.{flags_of}

-- each bit is read back, by the eight cases
back : (i a r : Bool) → Exchange (only i 1 + only a 2 + only r 4) i a r
back true true true = record { initiator = refl; acknowledges = refl; wants = refl }
back true true false = record { initiator = refl; acknowledges = refl; wants = refl }
back true false true = record { initiator = refl; acknowledges = refl; wants = refl }
back true false false = record { initiator = refl; acknowledges = refl; wants = refl }
back false true true = record { initiator = refl; acknowledges = refl; wants = refl }
back false true false = record { initiator = refl; acknowledges = refl; wants = refl }
back false false true = record { initiator = refl; acknowledges = refl; wants = refl }
back false false false = record { initiator = refl; acknowledges = refl; wants = refl }

low : (i a r : Bool) → ltb (only i 1 + only a 2 + only r 4) 8 ≡ true
low true true true = refl
low true true false = refl
low true false true = refl
low true false false = refl
low false true true = refl
low false true false = refl
low false false true = refl
low false false false = refl

module _ (m : Message) where
  pub flags_back : Exchange (flags_of m) m.initiator m.acknowledges m.wants
  flags_back = back m.initiator m.acknowledges m.wants

  -- and no other bit is set
  pub flags_low : ltb (flags_of m) 8 ≡ true
  flags_low = low m.initiator m.acknowledges m.wants
