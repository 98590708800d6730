-- Its items are the records. Assumes nothing.
use borrow.Author.Rules.{rules}
use Rattle.faults.proofs.Looking.{any_is, part_is}
use Rattle.faults.proofs.any_unmarked.Goals as goal
use Rattle.records.specs.Records.{wrong_mark}
use Rattle.records.specs.Restoring.{record_count, record_at}

pub returns : goal.returns
returns c =
    any_is _ _ _ (record_count c.args.bytes.now) (λ i. wrong_mark (record_at c.args.bytes.now i)) _ c.any.result c.any.ensures.runs
    (λ r t e. (search rules, search rules, λ k l. search (rules, part_is))) (λ x b q k. search rules)
