-- Histories in numbers: the theorems over histories, applied to ids that arrive, and what they then say computed. Assumes nothing.
use Rattle.std.proofs.Common.{◌≡◌, ◌%◌, ◌^◌, true, [], ◌∷◌, refl, ◌∙◌, arith}
use Rattle.window.specs.Rule.{member, greatest, position_of, position_after, is_new_position, accepts, step, accepted, number, marks_number}
use Rattle.window.specs.Rows.{list_of, opened, again, judged, rolled_at, marks_held, behind_of, rolled_of}
use Rattle.window.specs.History.{row_after, verdicts_of, ruled, Follows}
use Rattle.window.specs.Ledger.{none, plain_row}
use Rattle.window.specs.declared.Row.{Row}
use Rattle.window.specs.declared.Verdict.TheVariants.{New, Duplicate}
use Rattle.window.proofs.Promises.{history_from_the_first_id, gateway, gateway_history_of_a_row, held_back_old_report_is_never_new_again}

-- ids that arrive at an encrypted row not in use: the first, the one below it, and the first again
follows : Follows (behind_of 0x1001) marks_held rolled_of none (list_of marks_held none) (5 ∷ 4 ∷ 5 ∷ [])
follows = gateway_history_of_a_row none (omega arith) (5 ∷ 4 ∷ 5 ∷ []) (omega arith, (omega arith, (omega arith, tt)))

-- 5, 4 and 5 at a row not in use: new, new, duplicate.
pub verdicts_on_5_4_5 : verdicts_of rolled_of none (5 ∷ 4 ∷ 5 ∷ []) ≡ New ∷ New ∷ Duplicate ∷ []
unfolding member greatest position_of position_after is_new_position accepts step list_of behind_of ruled
verdicts_on_5_4_5 = follows.0 ∙ refl

-- The row then has 5 as its highest id, and mark 1 alone.
pub row_after_5_4_5 : let row : Row = row_after rolled_of none (5 ∷ 4 ∷ 5 ∷ []) in (row.used ≡ true) × (row.highest ≡ 5) × (row.marks % 2 ^ marks_held ≡ 1)
unfolding member greatest position_of position_after is_new_position accepts step accepted number marks_number list_of behind_of
row_after_5_4_5 = follows.1

-- 4 and 5 at a plain row just opened at 5 leave it whole with the same highest id and mark.
pub plain_row_after_5_4_5 : row_after rolled_of (opened 14 0 5) (4 ∷ 5 ∷ []) ≡ plain_row 5 1
unfolding member greatest position_of position_after is_new_position accepts step accepted number marks_number behind_of
plain_row_after_5_4_5 = (history_from_the_first_id (gateway 0) 14 5 (omega arith) (4 ∷ 5 ∷ []) (omega arith, (omega arith, tt))).1

-- 5 again, once 25 has passed all its marks, is a duplicate.
pub report_5_again_after_25 : let late : Row = row_after rolled_of (rolled_of none 5).row (25 ∷ []) in rolled_of late 5 ≡ again late
unfolding member greatest position_of position_after is_new_position accepts step accepted number marks_number list_of judged rolled_at behind_of rolled_of row_after
report_5_again_after_25 = held_back_old_report_is_never_new_again none (λ e. omega arith) (omega arith) [] tt 5 (omega arith) (25 ∷ []) (omega arith, tt) refl (omega arith)
