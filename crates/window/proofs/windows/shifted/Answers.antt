-- `window::windows::shifted` meets its contract: the machine's 64 bits lose none that is kept. Assumes nothing.
use Rattle.std.proofs.Common.{◌≡◌, ℕ, suc, ◌-◌, ◌*◌, ◌/◌, ◌%◌, ◌^◌, sym, ap, ◌∙◌, ap₂, arith}
use lib.Bits.{bit_or}
use Rattle.window.proofs.Bits.{shl_one, moved_up}
use Rattle.window.proofs.windows.shifted.Goals as goal

pub returns : goal.returns
returns c =
    let m = c.args.marks in
    let W = c.args.held in
    let d = c.args.ahead in
    let e : d ≡ suc (d - 1) = omega arith in
    ap₂ (λ (x y : ℕ). bit_or (m * 2 ^ 1 % 2 ^ 64) 1 * 2 ^ x % 2 ^ 64 / 2 ^ 1 % y) e (shl_one W 64 (omega arith))
    ∙ moved_up W m (d - 1) (omega arith)
    ∙ ap (λ (x : ℕ). bit_or (m * 2 ^ x) (2 ^ (d - 1)) % 2 ^ W) (sym e)
