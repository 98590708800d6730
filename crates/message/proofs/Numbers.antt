-- Each reason has a number above 0, so that 0 is an answer's number where there is none. Assumes nothing.
use Prim.Native.Nat.{◌<◌}
use mathlib.Core.Path.{◌≡◌, refl}
use native.Mathlib.Omega.{arith}
use Rattle.std.specs.Prelude.{Result, Ok, Err}
use Rattle.message.specs.Reasons.{number}
use Rattle.message.specs.Answers.{number_in}
use Rattle.message.specs.declared.answers.Reason.{Reason}
use Rattle.message.specs.declared.answers.Refusal.{Refusal}

pub number_positive : (reason : Reason) → 0 < number reason
number_positive Reason.TooLong = omega arith
number_positive Reason.TooShort = omega arith
number_positive Reason.Version = omega arith
number_positive Reason.Reserved = omega arith
number_positive Reason.OldTunnel = omega arith
number_positive Reason.Encrypt = omega arith
number_positive Reason.Key = omega arith
number_positive Reason.Source = omega arith
number_positive Reason.Destination = omega arith
number_positive Reason.Exchange = omega arith
number_positive Reason.OldAsks = omega arith
number_positive Reason.Tunnel = omega arith
number_positive Reason.Packet = omega arith
number_positive Reason.Stray = omega arith
number_positive Reason.OwnNode = omega arith
number_positive Reason.NotOurs = omega arith
number_positive Reason.Sender = omega arith
number_positive Reason.Check = omega arith
number_positive Reason.NoRoom = omega arith
number_positive Reason.Full = omega arith
number_positive Reason.NoRow = omega arith
number_positive Reason.Unwritable = omega arith
number_positive Reason.SavedMark = omega arith
number_positive Reason.SavedLength = omega arith
number_positive Reason.SavedRow = omega arith
number_positive Reason.SavedTwice = omega arith
number_positive Reason.PacketLength = omega arith

pub number_some : (reason : Reason) → number reason ≡ 0 → ⊥
number_some reason e = let p = number_positive reason in omega arith

-- an answer whose number is 0 is a value
pub number_none : {A : Type 0} (answer : Result A Refusal) → number_in answer ≡ 0 → (a : A) × (answer ≡ Ok a)
number_none (Ok a) e = (a, refl)
number_none (Err r) e = absurd (number_some r.reason e)
