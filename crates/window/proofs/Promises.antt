-- What a row promises ("Rows and verdicts"), each as a theorem of its own: first over B and W, then at the gateway's numbers. The laws behind
-- them are in the other files of this folder. Assumes nothing.

-- P1 to P12 hold.
pub use Rattle.window.proofs.Ledger.{examples_hold}
-- The short list of a row and any list that it shows, so the full one, give the same answers.
pub use Rattle.window.proofs.History.{full_list}
-- A row in use stays in use under its name.
pub use Rattle.window.proofs.Rows.{stays_in_use}
-- Only one outcome fits each public contract.
pub use Rattle.window.proofs.Outcomes.{one_heard, one_window_from, one_open, one_rolled, one_roll}
use Rattle.std.proofs.Common.{◌≡◌, ℕ, suc, ◌+◌, ◌-◌, ◌*◌, ◌%◌, ◌^◌, ◌<◌, ◌≤◌, Bool, true, false, cond, not, List, [], ◌∷◌, sym, refl, ap, ◌∙◌, subst, true≢false, le_trans, le_refl, arith, eq-eqb, ne_eqb}
use mathlib.Core.Path.{subst⁻¹}
use native.Mathlib.Decide.{dec_le}
use lib.Bits.{bit_or}
use Rattle.window.specs.Rule.{member, greatest, Placed, position_of, position_after, accepts, is_new_position, step, accepted, marks_number, bit_at}
use Rattle.window.specs.Rows.{list_of, row_in_use, opened, taken, again, judged, rolled_at, marks_held, behind_plain, behind_encrypted, behind_of, rolled_of}
use Rattle.window.specs.History.{Ids, row_after, verdict_of, Shows, Follows, Distinct, cleared}
use Rattle.window.specs.declared.Row.{Row}
use Rattle.window.specs.declared.Rolled.{Rolled}
use Rattle.window.specs.declared.Verdict.TheVariants.{New, Duplicate}
use Rattle.window.proofs.Lists.{marked_mod, member_here, member_under, member_more}
use Rattle.window.proofs.Positions.{Fits, position_is, position_one, position_heard, position_id}
use Rattle.window.proofs.Marks.{Arrival, outcome_ahead, outcome_old, outcome_marked, outcome_filled}
use Rattle.window.proofs.Accepting.{new_above, new_never, step_old, step_new}
use Rattle.window.proofs.Growing.{marks_say}
use Rattle.window.proofs.Rows.{fits_gateway, keeps_row, list_distinct, row_old, row_new, row_first, either}
use Rattle.window.proofs.History.{heard_new, Stands, Rolls, stands_on, was_accepted, refused, history, stands_own, stands_opened, whole_along}

-- ---- the rule of positions, over B and W

-- An arriving id has exactly one position: there is one, and it is the closed form.
pub one_position : (B M id : ℕ) → id < 2 ^ 32 → Placed B M id (position_of B M id) × ((p : ℕ) → Placed B M id p → position_of B M id ≡ p)
one_position B M id l = (position_is B M id l, position_one B M id)

module _ (B W : ℕ) (ps : List ℕ) where
  -- No position is accepted twice: what is new was not in the list.
  pub no_position_twice : (id : ℕ) → accepts B W ps id ≡ true → member (position_after B ps id) ps ≡ false
  unfolding accepts
  no_position_twice id e = go (member (position_after B ps id) ps) refl
    where
      go : (b : Bool) → member (position_after B ps id) ps ≡ b → b ≡ false
      go true h = absurd (true≢false (sym e ∙ new_never W ps (position_after B ps id) h))
      go false h = refl

  -- The greatest position never falls.
  pub greatest_never_falls : (id : ℕ) → greatest ps ≤ greatest (step B W ps id)
  unfolding step greatest
  greatest_never_falls id = go (accepts B W ps id)
    where
      go : (b : Bool) → greatest ps ≤ greatest (cond b (position_after B ps id ∷ ps) ps)
      go true = omega arith
      go false = le_refl (greatest ps)

-- Over a whole history no position is accepted twice.
pub no_position_ever_twice : (B W : ℕ) (ps : List ℕ) (ids : List ℕ) → Distinct ps → Distinct (accepted B W ps ids)
unfolding accepted
no_position_ever_twice B W ps [] d = d
no_position_ever_twice B W ps (id ∷ ids) d = no_position_ever_twice B W (step B W ps id) ids (go (accepts B W ps id) refl)
  where
    go : (b : Bool) → accepts B W ps id ≡ b → Distinct (step B W ps id)
    go true e = subst⁻¹ Distinct (step_new B W ps id e) (no_position_twice B W ps id e, d)
    go false e = subst⁻¹ Distinct (step_old B W ps id e) d

-- Over a whole history the greatest position never falls.
pub greatest_never_falls_ever : (B W : ℕ) (ps : List ℕ) (ids : List ℕ) → greatest ps ≤ greatest (accepted B W ps ids)
unfolding accepted
greatest_never_falls_ever B W ps [] = le_refl (greatest ps)
greatest_never_falls_ever B W ps (id ∷ ids) = le_trans (greatest_never_falls B W ps id) (greatest_never_falls_ever B W (step B W ps id) ids)

-- What was accepted stays accepted.
pub accepted_stays : (B W : ℕ) (ps : List ℕ) (ids : List ℕ) (p : ℕ) → member p ps ≡ true → member p (accepted B W ps ids) ≡ true
unfolding accepted step
accepted_stays B W ps [] p h = h
accepted_stays B W ps (id ∷ ids) p h = accepted_stays B W (step B W ps id) ids p (go (accepts B W ps id))
  where
    go : (b : Bool) → member p (cond b (position_after B ps id ∷ ps) ps) ≡ true
    go true = member_more p (position_after B ps id) ps h
    go false = h

module _ (B W : ℕ) (fits : Fits B W) (ps : List ℕ) (p : ℕ) (was : member p ps ≡ true) where
  -- An id that was accepted is a duplicate while the greatest position is at most B past its earlier one.
  pub still_duplicate : greatest ps ≤ p + B → accepts B W ps (p % 2 ^ 32) ≡ false
  unfolding accepts
  still_duplicate l =
      ap (is_new_position W ps) (position_heard B ps (p % 2 ^ 32) p p was (refl, omega arith, omega (arith, member_under p ps was))) ∙ new_never W ps p was

  -- It comes back as new only after the greatest position has gone at least B + 1 past its earlier one.
  pub new_again_only_after : accepts B W ps (p % 2 ^ 32) ≡ true → p + B + 1 ≤ greatest ps
  new_again_only_after e = go (dec_le (p + B + 1) (greatest ps))
    where
      go : Dec (p + B + 1 ≤ greatest ps) → p + B + 1 ≤ greatest ps
      go (yes l) = l
      go (no l) = absurd (true≢false (sym e ∙ still_duplicate (omega arith)))

  -- And there it does come back.
  pub new_again : p + B + 1 ≡ greatest ps → B + 1 < 2 ^ 32 → accepts B W ps (p % 2 ^ 32) ≡ true
  unfolding accepts
  new_again e l =
      ap (is_new_position W ps) (position_heard B ps (p % 2 ^ 32) (p + 2 ^ 32) p was (omega arith))
      ∙ new_above W ps (p + 2 ^ 32) (omega arith)

-- ---- a row, over B and W

module _ (B W : ℕ) (row : Row) (id : ℕ) where
  -- A duplicate changes nothing: the row is as it was, bits that stand for no mark included.
  pub duplicate_changes_nothing : (rolled_at B W row id).verdict ≡ Duplicate → (rolled_at B W row id).row ≡ row
  duplicate_changes_nothing = either B W row id (λ r. r.verdict ≡ Duplicate → r.row ≡ row) (λ h m l e. absurd (true≢false (ap heard_new e))) (λ e. refl)

  -- Bits that stand for no mark are clear once the row changes.
  pub stray_bits_go : (rolled_at B W row id).verdict ≡ New → (rolled_at B W row id).row.marks < 2 ^ W
  stray_bits_go = either B W row id (λ r. r.verdict ≡ New → r.row.marks < 2 ^ W) (λ h m l e. l) (λ e. absurd (true≢false (sym (ap heard_new e))))

  -- The row keeps its name.
  pub name_stays : ((rolled_at B W row id).row.node ≡ row.node) × ((rolled_at B W row id).row.key ≡ row.key)
  name_stays = either B W row id (λ r. (r.row.node ≡ row.node) × (r.row.key ≡ row.key)) (λ h m l. (refl, refl)) (refl, refl)

  -- A row not in use takes the message as its first, under the name it carries and whatever else stands in it.
  pub first_under_its_name : Fits B W → row.used ≡ false → id < 2 ^ 32 → rolled_at B W row id ≡ record { verdict = New; row = opened row.node row.key id }
  first_under_its_name = row_first row id

-- Mark k + 1, bit k, is set exactly when the greatest position less k + 1 is in the list that the row shows.
pub mark_says : (W : ℕ) (row : Row) (p : ℕ) (ps : List ℕ) → Shows W row (p ∷ ps) → (k : ℕ) → k < W → bit_at row.marks k ≡ member (greatest (p ∷ ps) - suc k) (p ∷ ps)
mark_says W row p ps s = marks_say W (p ∷ ps) row.marks s.2

-- The places that an id can have, by the way forward d from the highest id of a row in use.
module _ {B W : ℕ} (fits : Fits B W) (row : Row) (u : row.used ≡ true) (lh : row.highest < 2 ^ 32) (id d : ℕ) (ld : d < 2 ^ 32) (w : (d + row.highest) % 2 ^ 32 ≡ id) where
  arrives : Arrival B W (list_of W row) row.highest row.marks id d
  arrives = record { fits = fits; keeps = keeps_row fits row u lh; small = ld; around = w }

  -- An id ahead, or further behind than B, becomes the highest, and the marks move up as far.
  pub ahead_moves : 0 < d → d + B < 2 ^ 32 → rolled_at B W row id ≡ taken row id (bit_or (row.marks * 2 ^ d) (2 ^ (d - 1)) % 2 ^ W)
  ahead_moves z l = row_new row id (outcome_ahead arrives z l)

  -- An id behind the marks, and no further behind than B, is a duplicate.
  pub behind_the_marks : 2 ^ 32 ≤ d + B → d + W < 2 ^ 32 → rolled_at B W row id ≡ again row
  behind_the_marks l o = row_old row id (outcome_old arrives l o)

  -- The id k + 1 below the highest is new exactly when its mark, bit k, is clear.
  pub mark_decides : (k : ℕ) → k < W → d + suc k ≡ 2 ^ 32 → (rolled_at B W row id).verdict ≡ verdict_of (not (bit_at row.marks k))
  mark_decides k lk e = go (bit_at row.marks k) refl
    where
      go : (b : Bool) → bit_at row.marks k ≡ b → (rolled_at B W row id).verdict ≡ verdict_of (not b)
      go true t = ap (λ (r : Rolled). r.verdict) (row_old row id (outcome_marked arrives k e lk t))
      go false t = ap (λ (r : Rolled). r.verdict) (row_new row id (outcome_filled arrives k e lk t))

-- Bits that stand for no mark count as clear: without them the verdict is the same, and so is the row where it changes.
pub stray_bits_count_as_clear : (B W : ℕ) (row : Row) (id : ℕ)
    → ((rolled_at B W row id).verdict ≡ (rolled_at B W (cleared W row) id).verdict) × ((rolled_at B W row id).verdict ≡ New → rolled_at B W row id ≡ rolled_at B W (cleared W row) id)
unfolding rolled_at judged list_of
stray_bits_count_as_clear B W row id =
    subst (λ (ps : List ℕ). Alike (judged W (cleared W row) (accepts B W ps id) (step B W ps id)))
    (sym (ap (λ (ps : List ℕ). cond row.used ((row.highest + 2 ^ 32) ∷ ps) []) (marked_mod row.marks (row.highest + 2 ^ 32) W W (le_refl W))))
    (go (accepts B W (list_of W row) id) (step B W (list_of W row) id))
  where
    Alike : Rolled → Type 0
    Alike r = ((rolled_at B W row id).verdict ≡ r.verdict) × ((rolled_at B W row id).verdict ≡ New → rolled_at B W row id ≡ r)

    go : (b : Bool) (ps : List ℕ) → ((judged W row b ps).verdict ≡ (judged W (cleared W row) b ps).verdict) × ((judged W row b ps).verdict ≡ New → judged W row b ps ≡ judged W (cleared W row) b ps)
    go true ps = (refl, λ e. refl)
    go false ps = (refl, λ e. absurd (true≢false (sym (ap heard_new e))))

-- ---- the history of one row, over B and W, by any function that rolls the rows of a key as the rule does
module _ {B W : ℕ} {roll : Row → ℕ → Rolled} {key : ℕ} (r : Rolls B W roll key) where
  -- From any row handed in, whatever its name and its bits: it follows the rule on the full list, which starts at its own.
  pub history_of_a_row : (row : Row) → row.key ≡ key → row.highest < 2 ^ 32 → (ids : List ℕ) → Ids ids → Follows B W roll row (list_of W row) ids
  history_of_a_row row e l ids h =
      let on = history r (subst (λ (k : ℕ). Stands W k row (list_of W row)) e (stands_own r.fits row l)) ids h in
      (on.0, on.1.shows)

  -- From its first id n: it follows the rule on the list that starts at n + 2^32, and the full list gives the whole row.
  pub history_from_the_first_id : (node n : ℕ) → n < 2 ^ 32 → (ids : List ℕ) → Ids ids
      → let full : List ℕ = accepted B W ((n + 2 ^ 32) ∷ []) ids in
      Follows B W roll (opened node key n) ((n + 2 ^ 32) ∷ []) ids × (row_after roll (opened node key n) ids ≡ row_in_use node key (greatest full % 2 ^ 32) (marks_number W full))
  history_from_the_first_id node n l ids h =
      let on = history r (stands_opened r.fits node key n l) ids h in
      ((on.0, on.1.shows), whole_along r node n l ids h)

  -- An id that a row took as new is a duplicate after any further ids, while the greatest position is at most B past its own.
  pub taken_once : {row : Row} {ps : List ℕ} → Stands W key row ps → (id : ℕ) → id < 2 ^ 32 → (ids : List ℕ) → Ids ids
      → (roll row id).verdict ≡ New
      → greatest (accepted B W (step B W ps id) ids) ≤ position_after B ps id + B
      → let later : Row = row_after roll (roll row id).row ids in roll later id ≡ again later
  taken_once {row} {ps} s id l ids h new near =
      let p : ℕ = position_after B ps id in
      let full : List ℕ = accepted B W (step B W ps id) ids in
      let was : member p full ≡ true =
      accepted_stays B W (step B W ps id) ids p (ap (member p) (step_new B W ps id (was_accepted r s id l new)) ∙ member_here p p ps refl) in
      refused r (history r (stands_on r s id l) ids h).1 id l
      (ap (accepts B W full) (sym (position_id B ps id l)) ∙ still_duplicate B W r.fits full p was near)

-- ---- the gateway's rows

-- B goes by "key id not 0" alone: for a row whose key id is 0 it is 15.
pub plain_row : (row : Row) (id : ℕ) → row.key ≡ 0 → rolled_of row id ≡ rolled_at 15 marks_held row id
unfolding rolled_of behind_of
plain_row row id e = ap (λ (b : Bool). rolled_at (cond b behind_plain behind_encrypted) marks_held row id) (eq-eqb row.key 0 e)

-- For a row of any other key id it is 2^31.
pub encrypted_row_lem : (row : Row) (id : ℕ) → (row.key ≡ 0 → ⊥) → rolled_of row id ≡ rolled_at (2 ^ 31) marks_held row id
unfolding rolled_of behind_of
encrypted_row_lem row id e = ap (λ (b : Bool). rolled_at (cond b behind_plain behind_encrypted) marks_held row id) (ne_eqb row.key 0 e)

-- `rolled` rolls the rows of every key as the rule does.
pub gateway : (key : ℕ) → Rolls (behind_of key) marks_held rolled_of key
unfolding rolled_of
gateway key = record { fits = fits_gateway key; same = λ row id e. ap (λ (k : ℕ). rolled_at (behind_of k) marks_held row id) e }

-- The rule with another number of marks, up to 63 of them, does so by its definition: the laws hold of it as they do of 15.
pub up_to_63_marks : (W key : ℕ) → W ≤ 63 → Rolls (2 ^ 31) W (rolled_at (2 ^ 31) W) key
up_to_63_marks W key l = record { fits = omega arith; same = λ row id e. refl }

-- The same of `rolled` and an encrypted key, with B said outright.
encrypted_gateway : (key : ℕ) → (key ≡ 0 → ⊥) → Rolls (2 ^ 31) marks_held rolled_of key
encrypted_gateway key n = record { fits = omega arith; same = λ row id e. encrypted_row_lem row id (λ z. n (sym e ∙ z)) }

module _ (row : Row) (id : ℕ) where
  -- A duplicate changes nothing.
  pub gateway_duplicate_changes_nothing : (rolled_of row id).verdict ≡ Duplicate → (rolled_of row id).row ≡ row
  unfolding rolled_of
  gateway_duplicate_changes_nothing = duplicate_changes_nothing (behind_of row.key) marks_held row id

  -- Bit 15 counts as clear, and is clear once the row changes.
  pub gateway_stray_bit : ((rolled_of row id).verdict ≡ (rolled_of (cleared marks_held row) id).verdict) × ((rolled_of row id).verdict ≡ New → (rolled_of row id).row.marks < 2 ^ marks_held)
  unfolding rolled_of
  gateway_stray_bit = ((stray_bits_count_as_clear (behind_of row.key) marks_held row id).0, stray_bits_go (behind_of row.key) marks_held row id)

  -- A row not in use is opened at the id, under the name it carries.
  pub gateway_first_under_its_name : row.used ≡ false → id < 2 ^ 32 → rolled_of row id ≡ record { verdict = New; row = opened row.node row.key id }
  unfolding rolled_of
  gateway_first_under_its_name = first_under_its_name (behind_of row.key) marks_held row id (fits_gateway row.key)

module _ (row : Row) (u : row.used ≡ true) (plain : row.key ≡ 0) (lh : row.highest < 2 ^ 32) (id : ℕ) (l : id < 2 ^ 32) where
  -- For a plain id 15 behind the highest its mark, the fifteenth, decides.
  pub plain_id_15_behind : (id + 15) % 2 ^ 32 ≡ row.highest → (rolled_of row id).verdict ≡ verdict_of (not (bit_at row.marks 14))
  plain_id_15_behind e =
      ap (λ (r : Rolled). r.verdict) (plain_row row id plain)
      ∙ mark_decides {B = 15} {W = marks_held} (omega arith) row u lh id (2 ^ 32 - 15) (omega arith) (omega arith) 14 (omega arith) (omega arith)

  -- A plain id further behind than the marks becomes the highest, as one ahead does: d is the way forward to it.
  pub plain_id_elsewhere_moves : (d : ℕ) → 0 < d → d + 15 < 2 ^ 32 → (d + row.highest) % 2 ^ 32 ≡ id
      → rolled_of row id ≡ taken row id (bit_or (row.marks * 2 ^ d) (2 ^ (d - 1)) % 2 ^ marks_held)
  plain_id_elsewhere_moves d z o w =
      plain_row row id plain ∙ ahead_moves {B = 15} {W = marks_held} (omega arith) row u lh id d (omega arith) w z o

-- The history of a row of the gateway, from any row handed in.
pub gateway_history_of_a_row : (row : Row) → row.highest < 2 ^ 32 → (ids : List ℕ) → Ids ids → Follows (behind_of row.key) marks_held rolled_of row (list_of marks_held row) ids
gateway_history_of_a_row row = history_of_a_row (gateway row.key) row refl

-- The same from its first id.
pub gateway_history_from_the_first_id : (node key n : ℕ) → n < 2 ^ 32 → (ids : List ℕ) → Ids ids → Follows (behind_of key) marks_held rolled_of (opened node key n) ((n + 2 ^ 32) ∷ []) ids
gateway_history_from_the_first_id node key n l ids h = (history_from_the_first_id (gateway key) node n l ids h).0

-- The full list of a row never holds a position twice.
pub gateway_no_position_twice : (row : Row) (ids : List ℕ) → Distinct (accepted (behind_of row.key) marks_held (list_of marks_held row) ids)
gateway_no_position_twice row ids = no_position_ever_twice (behind_of row.key) marks_held (list_of marks_held row) ids (list_distinct (fits_gateway row.key) row)

-- `Stands`: the row shows the list ps, as it does after any messages; p is a position in it.
module _ {key : ℕ} (n : key ≡ 0 → ⊥) {row : Row} {ps : List ℕ} (s : Stands marks_held key row ps) (p : ℕ) (was : member p ps ≡ true) where
  -- An encrypted id comes back as new only after the greatest position has gone at least 2^31 + 1 past its earlier one.
  pub encrypted_new_again_only_after : (rolled_of row (p % 2 ^ 32)).verdict ≡ New → p + 2 ^ 31 + 1 ≤ greatest ps
  encrypted_new_again_only_after e =
      new_again_only_after (2 ^ 31) marks_held (encrypted_gateway key n).fits ps p was
      (was_accepted (encrypted_gateway key n) s (p % 2 ^ 32) (omega arith) e)

  -- At 2^31 past it, it is still a duplicate.
  pub encrypted_still_duplicate : greatest ps ≤ p + 2 ^ 31 → rolled_of row (p % 2 ^ 32) ≡ again row
  encrypted_still_duplicate l =
      refused (encrypted_gateway key n) s (p % 2 ^ 32) (omega arith) (still_duplicate (2 ^ 31) marks_held (encrypted_gateway key n).fits ps p was l)

-- The fault that started this project: a held-back old report within 2^31 that was accepted once is never new again. A row handed in, with
-- whatever stands in it, takes the ids `before`, then the report as new, then the ids `after`; the report arrives again while the greatest
-- position is at most 2^31 past its own. It is a duplicate, and changes nothing.
pub held_back_old_report_is_never_new_again : (row : Row) → (row.key ≡ 0 → ⊥) → row.highest < 2 ^ 32
    → (before : List ℕ) → Ids before → (report : ℕ) → report < 2 ^ 32 → (after : List ℕ) → Ids after
    → let early : Row = row_after rolled_of row before in
    let late : Row = row_after rolled_of (rolled_of early report).row after in
    let ps : List ℕ = accepted (2 ^ 31) marks_held (list_of marks_held row) before in
    (rolled_of early report).verdict ≡ New
    → greatest (accepted (2 ^ 31) marks_held (step (2 ^ 31) marks_held ps report) after) ≤ position_after (2 ^ 31) ps report + 2 ^ 31
    → rolled_of late report ≡ again late
held_back_old_report_is_never_new_again row n l before hb report lr after ha =
    let r = encrypted_gateway row.key n in
    taken_once r (history r (stands_own r.fits row l) before hb).1 report lr after ha
