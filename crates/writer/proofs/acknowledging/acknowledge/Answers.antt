-- By the acknowledgement's own order, which is that of writing it; then the head and the blank check stand one after the other. Assumes nothing.
use mathlib.Core.Path.{refl, ◌∙◌}
use native.Mathlib.Omega.{arith}
use Rattle.std.proofs.lemmas.Result.{err_from_is_err_and}
use Rattle.message.specs.Layout.{check_length}
use Rattle.message.proofs.Logic.{so}
use Rattle.reply.proofs.Steps.{judged_is}
use Rattle.writer.proofs.Bare.{length_zeros, blank_field, bare_storable, parts_land}
use Rattle.writer.proofs.acknowledging.acknowledge.Goals as goal

pub split_at_mut-head-requires : goal.split_at_mut-head-requires
split_at_mut-head-requires c =
    let s = bare_storable _ _ _ _ _ c.acknowledgement-value.ensures c.judged.ensures c.in_ok-total.was in
    omega (arith, s.parts, s.fits, c.head_length.ensures.0)

pub split_at_mut-check-requires : goal.split_at_mut-check-requires
split_at_mut-check-requires c =
    let s = bare_storable _ _ _ _ _ c.acknowledgement-value.ensures c.judged.ensures c.in_ok-total.was in
    omega (arith, s.parts, s.fits, length_zeros (check_length c.acknowledgement-value.result), c.head_length.ensures.0, c.check_length.ensures.0, c.split_at_mut-head.ensures.back_len)

pub store_head-requires : goal.store_head-requires
store_head-requires c =
    let s = bare_storable _ _ _ _ _ c.acknowledgement-value.ensures c.judged.ensures c.in_ok-total.was in
    (c.split_at_mut-head.ensures.front_len ∙ c.head_length.ensures.0, s.version, s.encrypt)

pub returns : goal.returns
returns c =
    let s = bare_storable _ _ _ _ _ c.acknowledgement-value.ensures c.judged.ensures c.in_ok-total.was in (
      so c.in_ok-total.was (judged_is _ _ _ _ _ c.acknowledgement-value.ensures c.judged.ensures),
      parts_land c.args.out.now c.acknowledgement-value.ensures s c.head_length.ensures.0 c.check_length.ensures.0 c.split_at_mut-head.ensures.back c.split_at_mut-check.ensures.back
          c.store_head.ensures (blank_field _ _ (c.split_at_mut-check.ensures.front_len ∙ c.check_length.ensures.0) c.put_blank.ensures),
    )

pub returns-in_err-total : goal.returns-in_err-total
returns-in_err-total c =
    let p = err_from_is_err_and c.from_residual.result c.from_residual.ensures.1 in
    rw (p.1, p.2) (so c.in_err-total.was (judged_is _ _ _ _ _ c.acknowledgement-value.ensures c.judged.ensures), refl)
