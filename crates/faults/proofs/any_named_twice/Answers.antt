-- Of each number it says whether its name stands before. Assumes nothing.
use mathlib.Core.Path.{refl, ◌∙◌}
use native.Mathlib.Omega.{arith}
use borrow.Author.Rules.{rules}
use Rattle.std.proofs.lemmas.Iterator.{YieldsList-from_range}
use Rattle.std.proofs.lemmas.Iterator.Search.{any_from_yields_List}
use Rattle.records.specs.Restoring.{record_count, named_before}
use Rattle.faults.proofs.Looking.{any_number}
use Rattle.faults.proofs.any_named_twice.Goals as goal

pub returns : goal.returns
returns c =
    let bytes = c.args.bytes.now in
    any_from_yields_List (named_before bytes) _ _ c.any.result c.any.ensures.ran (YieldsList-from_range 0 (record_count bytes) (record_count bytes) refl (omega arith)) (λ x b q k. search rules)
    ∙ any_number (record_count bytes) (named_before bytes)
