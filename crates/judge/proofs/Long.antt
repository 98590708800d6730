-- A payload and the longest message: what the head and the check leave of it, without a sum. Assumes nothing.
use Rattle.std.specs.Prelude.{Ok}
use Prim.Native.Nat.{ℕ, ◌-◌, ◌<◌, ◌≤◌}
use mathlib.Core.Path.{◌≡◌, refl, sym}
use mathlib.Core.Bool.{Bool, true, false}
use mathlib.Core.List.{List}
use native.Mathlib.Omega.{arith}
use borrow.Author.Tests.{ltb-true, ltb-false, lt-ltb, le-ltb}
use lib.Dec.{ltb}
use lib.ListN.{length}
use Rattle.message.specs.Order.{first, passed}
use Rattle.message.specs.Layout.{longest, check_length, head_length}
use Rattle.message.specs.Refusals.{too_long, total}
use Rattle.message.specs.declared.value.Message.{Message}
use Rattle.message.proofs.Lengths.{total_is}
use Rattle.message.proofs.Order.{none_first}
use Rattle.judge.specs.Steps.{parts_order}
use Rattle.judge.proofs.Steps.{passed_none}

-- what the head and the check leave is less than the payload exactly when the message is too long
pub room_left : (m : Message) (payload : List ℕ) {h c : ℕ} → (h ≡ head_length m) × (h ≤ 36) → (c ≡ check_length m) × (c ≤ 20)
    → ltb (longest - h - c) (length payload) ≡ too_long (total m payload)
room_left m payload {h} {c} (eh, lh) (ec, lc) = go (ltb (longest - h - c) (length payload)) refl
  where
    go : (t : Bool) → ltb (longest - h - c) (length payload) ≡ t → t ≡ too_long (total m payload)
    go true e = let f : longest - h - c < length payload = ltb-true _ _ e in sym (lt-ltb longest (total m payload) (omega (arith, total_is m payload)))
    go false e = let f : length payload ≤ longest - h - c = ltb-false _ _ e in sym (le-ltb longest (total m payload) (omega (arith, total_is m payload)))

-- a payload that is let pass is not longer than a message may be
pub payload_short : (m : Message) (payload check : List ℕ) → passed (first (parts_order m payload check)) ≡ Ok tt → length payload ≤ longest
unfolding parts_order
payload_short m payload check e =
    let short : total m payload ≤ longest = ltb-false _ _ (none_first (parts_order m payload check) (passed_none _ e)).1.1.1.1.0 in
    omega (arith, total_is m payload)
