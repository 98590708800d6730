-- Trials in numbers: bytes, and what comes of them computed. Assumes nothing.
use mathlib.Core.Path.{◌≡◌, refl}
use mathlib.Core.List.{[], ◌∷◌}
use Prim.Native.Nat.{ℕ}
use Rattle.window.specs.Rule.{member, greatest, position_of, position_after, is_new_position, accepts, step}
use Rattle.window.specs.History.{ruled}
use Rattle.widths.specs.Trial.{ids_within, ids_of, tally_of, least_from, least_of, trial_of}
use Rattle.widths.specs.declared.Tally.{Tally}
use Rattle.widths.specs.declared.Refusal.TheVariants.{BadIds}
use Rattle.std.specs.Prelude.{Ok, Err}

-- a tally
abbrev tally : ℕ → ℕ → ℕ → Tally
tally held new duplicate = record { held = held; new = new; duplicate = duplicate }

-- 5, 4 and 5: two are new and one is a duplicate at each number of marks, and one mark is enough.
pub ids_5_4_5 : trial_of (5 ∷ 0 ∷ 0 ∷ 0 ∷ 4 ∷ 0 ∷ 0 ∷ 0 ∷ 5 ∷ 0 ∷ 0 ∷ 0 ∷ []) ≡ Ok (record { few = tally 15 2 1; more = tally 31 2 1; most = tally 63 2 1; least = 1 })
unfolding trial_of ids_of ids_within tally_of least_of least_from ruled member greatest position_of position_after is_new_position accepts step
ids_5_4_5 = refl

-- No ids at all.
pub no_ids : trial_of [] ≡ Ok (record { few = tally 15 0 0; more = tally 31 0 0; most = tally 63 0 0; least = 1 })
unfolding trial_of ids_of ids_within tally_of least_of least_from ruled
no_ids = refl

-- 24 and then 4, which is 20 behind: lost with 15 marks, new with 31, and 20 marks are enough.
pub ids_24_4 : trial_of (24 ∷ 0 ∷ 0 ∷ 0 ∷ 4 ∷ 0 ∷ 0 ∷ 0 ∷ []) ≡ Ok (record { few = tally 15 1 1; more = tally 31 2 0; most = tally 63 2 0; least = 20 })
unfolding trial_of ids_of ids_within tally_of least_of least_from ruled member greatest position_of position_after is_new_position accepts step
ids_24_4 = refl

-- 64, 1 and 0, of which 63 marks take 1 and not 0: it takes all of them.
pub ids_64_1_0 : trial_of (64 ∷ 0 ∷ 0 ∷ 0 ∷ 1 ∷ 0 ∷ 0 ∷ 0 ∷ 0 ∷ 0 ∷ 0 ∷ 0 ∷ []) ≡ Ok (record { few = tally 15 1 2; more = tally 31 1 2; most = tally 63 2 1; least = 63 })
unfolding trial_of ids_of ids_within tally_of least_of least_from ruled member greatest position_of position_after is_new_position accepts step
ids_64_1_0 = refl

-- An id of three bytes.
pub broken_id : trial_of (5 ∷ 0 ∷ 0 ∷ []) ≡ Err BadIds
unfolding trial_of
broken_id = refl
