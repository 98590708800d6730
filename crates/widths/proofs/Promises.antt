-- What the numbers of a trial promise, over any ids. Assumes nothing.
use mathlib.Core.Path.{◌≡◌, ap, ap₂, ◌∙◌}
use mathlib.Core.Bool.{Bool, true, false, cond, not, ◌||◌, or-true}
use mathlib.Core.List.{List, []}
use Prim.Native.Nat.{ℕ, ◌+◌, ◌%◌, ◌^◌, ◌≤◌, ◌<◌, max}
use native.Mathlib.Omega.{arith}
use native.Mathlib.Decide.{dec_lt}
use borrow.Author.Tests.{eq-eqb, ne_eqb, lt-ltb, le-ltb}
use lib.Dec.{eqb, ltb}
use lib.ListN.{length}
use Rattle.window.specs.Rows.{marks_held, behind_plain, behind_encrypted, behind_of, rolled_of}
use Rattle.window.specs.History.{Ids, verdicts_of, ruled}
use Rattle.window.specs.declared.Row.{Row}
use Rattle.window.proofs.Rows.{list_free}
use Rattle.window.proofs.Promises.{gateway_history_of_a_row}
use Rattle.widths.specs.Trial.{ids_of, verdicts_with, farthest_new, lost_from, without_lost, tally_of, least_of, Smallest, NewToo, recorded, counted_of, trial_of}
use Rattle.std.specs.Prelude.{Ok, Err}
use Rattle.widths.specs.declared.Refusal.TheVariants.{BadIds}
use Rattle.widths.proofs.Fewer.{same_verdicts_lem, other_verdicts, farthest_most}
use Rattle.widths.proofs.Least.{least_is}
use Rattle.widths.proofs.Running.{counted_once}
use Rattle.widths.proofs.Recorded.{recorded_length, recorded_back, decided}
use Rattle.widths.proofs.More.{within_none, new_too, lost_besides, without_lost_lem, no_fewer}

-- ---- the refusal
module _ (bytes : List ℕ) where
  -- A number of bytes that is not a multiple of 4 is refused.
  pub broken_id_is_refused : (length bytes % 4 ≡ 0 → ⊥) → trial_of bytes ≡ Err BadIds
  broken_id_is_refused h = decided bytes true (ap (λ (b : Bool). not b || ltb 65536 (length bytes)) (ne_eqb (length bytes % 4) 0 h))

  -- More than 65,536 bytes are.
  pub too_many_are_refused : 65536 < length bytes → trial_of bytes ≡ Err BadIds
  too_many_are_refused h =
      decided bytes true
      (ap (λ (b : Bool). not (eqb (length bytes % 4) 0) || b) (lt-ltb 65536 (length bytes) h) ∙ or-true (not (eqb (length bytes % 4) 0)))

  -- All others are counted.
  pub whole_ids_are_counted : length bytes % 4 ≡ 0 → length bytes ≤ 65536 → trial_of bytes ≡ Ok (counted_of (ids_of bytes))
  whole_ids_are_counted h l =
      decided bytes false (ap₂ (λ (a b : Bool). not a || b) (eq-eqb (length bytes % 4) 0 h) (le-ltb 65536 (length bytes) l))

-- ---- the ids

-- Ids that were recorded are the ids that are tried, up to 16,384 of them.
pub recorded_ids_are_tried : (ids : List ℕ) → Ids ids → length ids ≤ 16384 → trial_of (recorded ids) ≡ Ok (counted_of ids)
recorded_ids_are_tried ids h l =
    whole_ids_are_counted (recorded ids) (omega (arith, recorded_length ids)) (omega (arith, recorded_length ids)) ∙ ap (λ (js : List ℕ). Ok (counted_of js)) (recorded_back ids h)

-- ---- the counts

-- With 15 marks the verdicts are those that an encrypted row of the gateway gives, from its first id on.
pub as_an_encrypted_row_gives : (row : Row) → row.used ≡ false → (row.key ≡ 0 → ⊥) → row.highest < 2 ^ 32 → (ids : List ℕ) → Ids ids
    → verdicts_of rolled_of row ids ≡ verdicts_with 15 ids
unfolding behind_of
as_an_encrypted_row_gives row free encrypted l ids h =
    (gateway_history_of_a_row row l ids h).0
    ∙ ap (λ (ps : List ℕ). ruled (behind_of row.key) marks_held ps ids) (list_free marks_held row free)
    ∙ ap (λ (b : Bool). ruled (cond b behind_plain behind_encrypted) marks_held [] ids) (ne_eqb row.key 0 encrypted)

-- Every id is counted once, as new or as a duplicate.
pub every_id_is_counted : (W : ℕ) (ids : List ℕ) → (tally_of W ids).new + (tally_of W ids).duplicate ≡ length ids
unfolding tally_of
every_id_is_counted W ids = counted_once behind_encrypted W [] ids

-- More marks lose nothing: an id that is new by fewer is new by more.
pub more_marks_lose_nothing : (w W : ℕ) → w ≤ W → (ids : List ℕ) → NewToo (verdicts_with w ids) (verdicts_with W ids)
more_marks_lose_nothing w W l ids = new_too behind_encrypted w W l [] [] ids (within_none w)

-- So they find as many new ids, or more.
pub more_marks_find_no_fewer : (w W : ℕ) → w ≤ W → (ids : List ℕ) → (tally_of w ids).new ≤ (tally_of W ids).new
unfolding tally_of
more_marks_find_no_fewer w W l ids = no_fewer (verdicts_with w ids) (verdicts_with W ids) (more_marks_lose_nothing w W l ids)

-- What fewer marks lose are the ids that lie further behind than they reach, and no others: their verdicts are those of more, less these.
pub fewer_lose_what_is_further_behind : (w W : ℕ) → w ≤ W → (ids : List ℕ) → verdicts_with w ids ≡ without_lost behind_encrypted W w [] ids
fewer_lose_what_is_further_behind w W l ids = without_lost_lem behind_encrypted w W l [] [] ids (within_none w)

-- So the new counts differ by as many.
pub counts_differ_by_the_lost : (w W : ℕ) → w ≤ W → (ids : List ℕ) → (tally_of w ids).new + lost_from behind_encrypted W w [] ids ≡ (tally_of W ids).new
unfolding tally_of
counts_differ_by_the_lost w W l ids = lost_besides behind_encrypted w W l [] [] ids (within_none w)

-- ---- the least number of marks
module _ (ids : List ℕ) where
  -- It is the greater of 1 and the way back to the farthest id that 63 marks found new: one pass finds it.
  pub least_in_one_pass : least_of ids ≡ max 1 (farthest_new behind_encrypted 63 [] ids)
  least_in_one_pass = least_is ids

  -- Every number of marks from the least to 63 gives the verdicts of 63.
  pub enough_from_least_to_63 : (W : ℕ) → least_of ids ≤ W → W ≤ 63 → verdicts_with W ids ≡ verdicts_with 63 ids
  enough_from_least_to_63 W h l = same_verdicts_lem behind_encrypted W 63 l [] ids (omega (arith, least_is ids))

  -- It is the smallest number from 1 to 63 whose verdicts all equal those of 63.
  pub least_is_smallest : Smallest ids (least_of ids)
  least_is_smallest =
      let e = least_is ids in
      let f = farthest_most behind_encrypted 63 [] ids in
      record {
        from = omega arith;
        to = omega arith;
        same = enough_from_least_to_63 (least_of ids) (omega arith) (omega arith);
        smallest = λ m l h s. other_verdicts behind_encrypted m 63 (omega arith) [] ids (omega arith) s;
      }

  -- There is one such number.
  pub one_smallest : (m n : ℕ) → Smallest ids m → Smallest ids n → m ≡ n
  one_smallest m n s t = go (dec_lt m n) (dec_lt n m)
    where
      go : Dec (m < n) → Dec (n < m) → m ≡ n
      go (yes l) r = absurd (t.smallest m s.from l s.same)
      go (no l) (yes r) = absurd (s.smallest n t.from r t.same)
      go (no l) (no r) = omega arith
