-- What would be refused leaves the buffer; else head, payload and check stand one after the other. Assumes nothing.
use mathlib.Core.Path.{refl, ◌∙◌}
use native.Mathlib.Omega.{arith}
use Rattle.writer.proofs.Stored.{storable, run_lands}
use Rattle.writer.proofs.writing.write.Goals as goal

pub split_at_mut-payload-requires : goal.split_at_mut-payload-requires
split_at_mut-payload-requires c =
    let s = storable c.would_write.ensures c.in_ok-total.was in
    omega (arith, s.parts, s.fits, c.head_length.ensures.0, c.split_at_mut-head.ensures.back_len)

pub split_at_mut-check-requires : goal.split_at_mut-check-requires
split_at_mut-check-requires c =
    let s = storable c.would_write.ensures c.in_ok-total.was in
    omega (arith, s.parts, s.fits, c.head_length.ensures.0, c.split_at_mut-head.ensures.back_len, c.split_at_mut-payload.ensures.back_len)

pub store_head-requires : goal.store_head-requires
store_head-requires c =
    let s = storable c.would_write.ensures c.in_ok-total.was in
    (c.split_at_mut-head.ensures.front_len ∙ c.head_length.ensures.0, s.version, s.encrypt)

pub returns : goal.returns
returns c =
    let s = storable c.would_write.ensures c.in_ok-total.was in (
      s.answer,
      run_lands c.args.out.now s c.head_length.ensures.0 refl c.split_at_mut-head.ensures.back c.split_at_mut-payload.ensures.back c.split_at_mut-check.ensures.back
          c.store_head.ensures c.copy_from_slice.ensures.after c.copy_from_slice-2.ensures.after,
    )
