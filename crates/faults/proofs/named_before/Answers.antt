-- It stands before if the next has it, and past the last before it does not. Assumes nothing.
use mathlib.Core.Path.{sym}
use native.Mathlib.Omega.{arith}
use borrow.Author.Rules.{rules}
use Rattle.records.specs.Restoring.{named_before}
use Rattle.records.proofs.Conditions.{some_when, none_when}
use Rattle.faults.proofs.named_before.Goals as goal

pub returns-then-same_name : goal.returns-then-same_name
unfolding named_before
returns-then-same_name c = sym (some_when _ _ (record { number = c.loop-before.before; below = omega arith; holds = search rules }))

pub returns : goal.returns
unfolding named_before
returns c = sym (none_when c.args.number _ (λ k l. c.loop-before.invariant k (omega arith)))
