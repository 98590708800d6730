-- P1 to P12: each is computed by the rule, and P2, P8 and P9, which hold for any marks, by its laws. Assumes nothing.
use Rattle.std.proofs.Common.{◌≡◌, ℕ, ◌+◌, ◌%◌, ◌^◌, ◌<◌, refl, arith}
use Rattle.window.specs.Rule.{member, greatest, position_of, position_after, is_new_position, accepts, step, number, marks_number, bit_at, marked}
use Rattle.window.specs.Rows.{list_of, judged, rolled_at, marks_held, behind_of, rolled_of}
use Rattle.window.specs.Ledger.{encrypted_row, Holds, P1, P2, P3, P4, P5, P6, P7, P8, P9, P10, P11, P12}
use Rattle.window.proofs.Marks.{Arrival, outcome_same, outcome_past, outcome_old}
use Rattle.window.proofs.Rows.{fits_gateway, keeps_row, row_old, row_new}

-- an id that arrives at a row of the ledger, d ahead of its highest
arrives : (h m id d : ℕ) → h < 2 ^ 32 → d < 2 ^ 32 → (d + h) % 2 ^ 32 ≡ id → Arrival (2 ^ 31) marks_held (list_of marks_held (encrypted_row h m)) h m id d
unfolding behind_of
arrives h m id d lh ld e =
    record { fits = fits_gateway 0x1001; keeps = keeps_row (fits_gateway 0x1001) (encrypted_row h m) refl lh; small = ld; around = e }

any_2 : (m : ℕ) → Holds (P2 m)
unfolding rolled_of behind_of
any_2 m = row_old (encrypted_row 5 m) 5 (outcome_same (arrives 5 m 5 0 (omega arith) (omega arith) refl) refl)

any_8 : (m : ℕ) → Holds (P8 m)
unfolding rolled_of behind_of
any_8 m = row_new (encrypted_row 0 m) 2147483647 (outcome_past (arrives 0 m 2147483647 2147483647 (omega arith) (omega arith) refl) (omega arith) (omega arith))

any_9 : (m : ℕ) → Holds (P9 m)
unfolding rolled_of behind_of
any_9 m = row_old (encrypted_row 0 m) 2147483648 (outcome_old (arrives 0 m 2147483648 2147483648 (omega arith) (omega arith) refl) (omega arith) (omega arith))

pub examples_hold : (m : ℕ)
    → Holds P1 × Holds (P2 m) × Holds P3 × Holds P4 × Holds P5 × Holds P6 × Holds P7 × Holds (P8 m) × Holds (P9 m) × Holds P10 × Holds P11 × Holds P12
unfolding member greatest position_of position_after is_new_position accepts step number marks_number bit_at marked list_of judged rolled_at behind_of rolled_of
examples_hold m = (refl, any_2 m, refl, refl, refl, refl, refl, any_8 m, any_9 m, refl, refl, refl)
