-- What numbers of marks make of ids recorded from one encrypted sender (K5). Assumes nothing.
use Rattle.std.specs.Prelude.{ℕ, zero, suc, ◌+◌, ◌/◌, ◌%◌, ◌≤◌, ◌<◌, max, ◌≡◌, Bool, true, false, cond, not, ◌&&◌, ◌||◌, Result, Ok, Err, List, [], ◌∷◌, ◌++◌, eqb, ltb, length, take, drop}
use Rattle.wire.specs.Bytes.{little, little_bytes}
use Rattle.window.specs.Rule.{accepts, step}
use Rattle.window.specs.Windows.{late_by}
use Rattle.window.specs.Rows.{behind_encrypted}
use Rattle.window.specs.History.{verdict_of, ruled}
use Rattle.window.specs.declared.Verdict.{Verdict}
use Rattle.window.specs.declared.Verdict.TheVariants.{New, Duplicate}
use Rattle.widths.specs.declared.Tally.{Tally}
use Rattle.widths.specs.declared.Tried.{Tried}
use Rattle.widths.specs.declared.Refusal.{Refusal}
use Rattle.widths.specs.declared.Refusal.TheVariants.{BadIds}

-- ---- the ids

-- so many ids of 4 bytes each, low byte first, from the front on
unfoldable pub ids_within : ℕ → List ℕ → List ℕ
ids_within zero bytes = []
ids_within (suc count) bytes = little (take 4 bytes) ∷ ids_within count (drop 4 bytes)

-- all that are whole
unfoldable pub ids_of : List ℕ → List ℕ
ids_of bytes = ids_within (length bytes / 4) bytes

-- ids as they are recorded
abbrev pub recorded : List ℕ → List ℕ
recorded [] = []
recorded (id ∷ ids) = little_bytes 4 id ++ recorded ids

-- ---- what W marks make of them

-- the rule's verdicts from the first id on; B is that of an encrypted sender, whatever the ids
abbrev pub verdicts_with : ℕ → List ℕ → List Verdict
verdicts_with W ids = ruled behind_encrypted W [] ids

-- how many are new
abbrev pub new_among : List Verdict → ℕ
new_among [] = 0
new_among (New ∷ verdicts) = suc (new_among verdicts)
new_among (Duplicate ∷ verdicts) = new_among verdicts

-- how many are duplicates
abbrev pub duplicates_among : List Verdict → ℕ
duplicates_among [] = 0
duplicates_among (New ∷ verdicts) = duplicates_among verdicts
duplicates_among (Duplicate ∷ verdicts) = suc (duplicates_among verdicts)

-- how far behind the greatest position the farthest new id lies, by the full list: 0 where each is ahead of it
unfoldable pub farthest_new : ℕ → ℕ → List ℕ → List ℕ → ℕ
farthest_new B W ps [] = 0
farthest_new B W ps (id ∷ ids) = max (cond (accepts B W ps id) (late_by B ps id) 0) (farthest_new B W (step B W ps id) ids)

-- 1 for a new id that lies further behind than w marks reach, else 0
abbrev pub lost_of : ℕ → ℕ → ℕ
lost_of w late = cond (ltb w late) 1 0

-- how many ids that are new by W marks would be lost with w: those that lie further behind
unfoldable pub lost_from : ℕ → ℕ → ℕ → List ℕ → List ℕ → ℕ
lost_from B W w ps [] = 0
lost_from B W w ps (id ∷ ids) = cond (accepts B W ps id) (lost_of w (late_by B ps id)) 0 + lost_from B W w (step B W ps id) ids

-- all that is counted
unfoldable pub tally_of : ℕ → List ℕ → Tally
tally_of W ids =
    record {
      held = W;
      new = new_among (verdicts_with W ids);
      duplicate = duplicates_among (verdicts_with W ids);
    }

-- ---- the least number of marks

-- are two verdicts the same?
abbrev pub same_verdict : Verdict → Verdict → Bool
same_verdict New New = true
same_verdict New Duplicate = false
same_verdict Duplicate New = false
same_verdict Duplicate Duplicate = true

-- is each verdict of one list that of the other?
abbrev pub same_verdicts : List Verdict → List Verdict → Bool
same_verdicts [] [] = true
same_verdicts [] (v ∷ vs) = false
same_verdicts (u ∷ us) [] = false
same_verdicts (u ∷ us) (v ∷ vs) = same_verdict u v && same_verdicts us vs

-- the first of so many numbers from W on whose verdicts all equal those of 63; where none of them has these, the number after them
unfoldable pub least_from : ℕ → ℕ → List ℕ → ℕ
least_from zero W ids = W
least_from (suc tries) W ids = cond (same_verdicts (verdicts_with W ids) (verdicts_with 63 ids)) W (least_from tries (suc W) ids)

-- the smallest of the numbers from 1 to 63
unfoldable pub least_of : List ℕ → ℕ
least_of ids = least_from 62 1 ids

-- what is asked of that number (`least_is_smallest` in proofs/Promises.antt)
pub record Smallest (ids : List ℕ) (n : ℕ) : Type 0 where
  pub from : 1 ≤ n
  pub to : n ≤ 63
  pub same : verdicts_with n ids ≡ verdicts_with 63 ids
  pub smallest : (m : ℕ) → 1 ≤ m → m < n → verdicts_with m ids ≡ verdicts_with 63 ids → ⊥

-- each id that is new by one list of verdicts is new by the other
abbrev pub NewToo : List Verdict → List Verdict → Type 0
NewToo [] [] = Unit {0}
NewToo [] (v ∷ vs) = ⊥
NewToo (u ∷ us) [] = ⊥
NewToo (u ∷ us) (v ∷ vs) = (u ≡ New → v ≡ New) × NewToo us vs

-- a verdict, where its id may be lost: what is new is a duplicate then
abbrev pub unless_lost : Bool → Verdict → Verdict
unless_lost lost New = cond lost Duplicate New
unless_lost lost Duplicate = Duplicate

-- the verdicts of W marks, less what w marks lose: the ids that lie further behind
unfoldable pub without_lost : ℕ → ℕ → ℕ → List ℕ → List ℕ → List Verdict
without_lost B W w ps [] = []
without_lost B W w ps (id ∷ ids) = unless_lost (ltb w (late_by B ps id)) (verdict_of (accepts B W ps id)) ∷ without_lost B W w (step B W ps id) ids

-- ---- the trial

-- the number of a refusal
abbrev pub number : Refusal → ℕ
number BadIds = 28

-- 28: the number of bytes is not a multiple of 4, or above 65,536
abbrev pub bad_ids : ℕ → Bool
bad_ids len = not (eqb (len % 4) 0) || ltb 65536 len

-- the three tallies and the least number
abbrev pub counted_of : List ℕ → Tried
counted_of ids = record { few = tally_of 15 ids; more = tally_of 31 ids; most = tally_of 63 ids; least = least_of ids }

-- what a trial answers
unfoldable pub trial_of : List ℕ → Result Tried Refusal
trial_of bytes = cond (bad_ids (length bytes)) (Err BadIds) (Ok (counted_of (ids_of bytes)))
