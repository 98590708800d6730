-- The head of a message that is taken, and the answer that goes with it: the flags of a general one are the three lowest bits of its exchange header, and those of a tunnelled one 0. Assumes nothing.
use Rattle.std.specs.Prelude.{Ok}
use Prim.Native.Nat.{ℕ, zero, suc, ◌+◌, ◌*◌, ◌/◌, ◌%◌, ◌<◌}
use mathlib.Core.Path.{◌≡◌, refl, sym, ap, ap₂, ◌∙◌}
use mathlib.Core.Bool.{Bool, true, false, cond}
use mathlib.Core.List.{List}
use native.Mathlib.Omega.{arith}
use lib.Dec.{eqb}
use Rattle.wire.specs.Bytes.{part, little}
use Rattle.message.specs.Layout.{only, body_of}
use Rattle.message.specs.Value.{bit, exchanged_by, flags_of}
use Rattle.message.specs.Answers.{head_of, with_head, as_taken}
use Rattle.message.specs.declared.value.Message.{Message}
use Rattle.message.specs.declared.answers.Head.{Head}
use Rattle.reader.specs.Steps.{exchanged, exchange_at, no_exchange, with_fields, finished}

weighed : (y n : ℕ) → y < 2 → only (eqb y 1) n ≡ y * n
weighed zero n l = omega arith
weighed (suc zero) n l = omega arith
weighed (suc (suc y)) n l = let w : ⊥ = omega arith in absurd w

low_bits : (x : ℕ) → only (bit x 0) 1 + only (bit x 1) 2 + only (bit x 2) 4 ≡ x % 8
low_bits x =
    let a = weighed (x / 1 % 2) 1 (omega arith) in
    let b = weighed (x / 2 % 2) 2 (omega arith) in
    let c = weighed (x / 4 % 2) 4 (omega arith) in
    let half : x / 2 / 2 ≡ x / 4 = omega arith in
    let quarter : x / 4 / 2 ≡ x / 8 = omega arith in
    omega arith

headed : ℕ → ℕ → Head
headed f n = record { flags = f; length = n }

-- of a general message, from the exchange header x at the place `at`
general_head : (m : Message) (bytes : List ℕ) (at x n : ℕ) → x ≡ little (part bytes at 1) → m.tunnelled ≡ false → n ≡ body_of m + 8 + only (bit x 1) 4
    → head_of (exchanged m bytes at) ≡ record { flags = x % 8; length = n }
unfolding headed exchanged_by
general_head m bytes at x n e t l =
    let d : body_of m + (8 + only (bit x 1) 4) ≡ n = omega (arith, l) in
    ap (λ (y : ℕ). headed (only (bit y 0) 1 + only (bit y 1) 2 + only (bit y 2) 4) (body_of m + cond m.tunnelled 1 (8 + only (bit y 1) 4))) (sym e)
    ∙ ap₂ headed (low_bits x) (ap (λ (k : Bool). body_of m + cond k 1 (8 + only (bit x 1) 4)) t ∙ d)

-- of a tunnelled one, whose version stands at n
tunnel_head : (m : Message) (n : ℕ) → m.tunnelled ≡ true → flags_of m ≡ 0 → n ≡ body_of m → head_of m ≡ record { flags = 0; length = n + 1 }
unfolding headed
tunnel_head m n t f e =
    ap₂ headed f (ap (λ (k : Bool). body_of m + cond k 1 (8 + only m.acknowledges 4)) t ∙ ap (λ (i : ℕ). i + 1) (sym e))

-- the answers that the exchange fields give, of a general message and of a tunnelled one
pub general_taken : (m : Message) (bytes : List ℕ) (at n : ℕ) → m.tunnelled ≡ false → n ≡ body_of m + 8 + only (bit (little (part bytes at 1)) 1) 4
    → finished m (Ok (exchange_at bytes at n)) ≡ as_taken (exchanged m bytes at)
unfolding with_fields exchanged_by
general_taken m bytes at n t l = ap (λ (h : Head). Ok (with_head (exchanged m bytes at) h)) (sym (general_head m bytes at _ n refl t l))

pub tunnel_taken : (m : Message) (n : ℕ) → m.tunnelled ≡ true → with_fields m (no_exchange 0) ≡ m → n ≡ body_of m → finished m (Ok (no_exchange (n + 1))) ≡ as_taken m
unfolding with_fields
tunnel_taken m n t z e = ap₂ (λ (v : Message) (h : Head). Ok (with_head v h)) z (sym (tunnel_head m n t (sym (ap flags_of z)) e))
