-- The reasons of the refusals, and their numbers ("Refusal numbers"). Assumes nothing.
use Rattle.std.specs.Prelude.{ℕ}
use Rattle.message.specs.declared.answers.Reason.{Reason}
use Rattle.message.specs.declared.answers.Refusal.{Refusal}

-- the number of a reason
abbrev pub number : Reason → ℕ
number Reason.TooLong = 1
number Reason.TooShort = 2
number Reason.Version = 3
number Reason.Reserved = 4
number Reason.OldTunnel = 5
number Reason.Encrypt = 6
number Reason.Key = 7
number Reason.Source = 8
number Reason.Destination = 9
number Reason.Exchange = 10
number Reason.OldAsks = 11
number Reason.Tunnel = 12
number Reason.Packet = 13
number Reason.Stray = 14
number Reason.OwnNode = 15
number Reason.NotOurs = 16
number Reason.Sender = 17
number Reason.Check = 18
number Reason.NoRoom = 19
number Reason.Full = 20
number Reason.NoRow = 21
number Reason.Unwritable = 22
number Reason.SavedMark = 23
number Reason.SavedLength = 24
number Reason.SavedRow = 25
number Reason.SavedTwice = 26
number Reason.PacketLength = 27

-- a refusal that points at no byte
abbrev pub refusal : Reason → Refusal
refusal reason = record { reason = reason; offset = 0 }
