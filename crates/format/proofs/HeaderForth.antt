-- The two headers that are written have the bits that they were made of. Assumes nothing.
use Prim.Native.Nat.{ℕ, ◌+◌, ◌*◌, ◌/◌, ◌%◌, ◌^◌, ◌≤◌, ◌<◌}
use mathlib.Core.Path.{◌≡◌, refl, ap, ◌∙◌}
use mathlib.Core.Bool.{Bool, true, false}
use native.Mathlib.Nat.{div-one}
use native.Mathlib.Omega.{arith}
use lib.Dec.{eqb}
use Rattle.message.specs.Layout.{only}
use Rattle.message.specs.Value.{bits, bit, header_of, exchange_header_of}
use Rattle.message.specs.Refusals.{reserved, bad_exchange}
use Rattle.message.specs.declared.value.Message.{Message}

-- a flag as a digit
dig : Bool → ℕ
dig b = only b 1

dig_low : (b : Bool) → dig b ≤ 1
unfolding dig
dig_low true = omega arith
dig_low false = omega arith

only_dig : (b : Bool) (c : ℕ) → only b c ≡ dig b * c
unfolding dig
only_dig true c = omega arith
only_dig false c = omega arith

dig_back : (b : Bool) → eqb (dig b) 1 ≡ b
unfolding dig
dig_back true = refl
dig_back false = refl

flag : (n k : ℕ) (b : Bool) → n / 2 ^ k % 2 ≡ dig b → bit n k ≡ b
flag n k b e = ap (λ (d : ℕ). eqb d 1) e ∙ dig_back b

-- the sum that the header is
sum_of : ℕ → ℕ → ℕ → ℕ → ℕ → ℕ
sum_of v t s d e = v * 4096 + t * 1024 + s * 512 + d * 256 + e * 16

pub record Header (n : ℕ) (m : Message) : Type 0 where
  pub low : n < 65536
  pub version : bits n 12 4 ≡ m.version
  pub tunnelled : bit n 10 ≡ m.tunnelled
  pub sourced : bit n 9 ≡ m.sourced
  pub destined : bit n 8 ≡ m.destined
  pub encrypt : bits n 4 4 ≡ m.encrypt
  pub clean : reserved n ≡ false

header_sum : (m : Message) → header_of m ≡ sum_of m.version (dig m.tunnelled) (dig m.sourced) (dig m.destined) m.encrypt
unfolding sum_of
header_sum m = simp (only_dig m.tunnelled 1024, only_dig m.sourced 512, only_dig m.destined 256)

module _ (v t s d e : ℕ) (hv : v ≤ 2) (ht : t ≤ 1) (hs : s ≤ 1) (hd : d ≤ 1) (he : e ≤ 1) where
  sum_low : sum_of v t s d e < 65536
  unfolding sum_of
  sum_low = omega arith

  at_12 : sum_of v t s d e / 4096 % 16 ≡ v
  unfolding sum_of
  at_12 = omega arith

  at_11 : sum_of v t s d e / 2048 % 2 ≡ 0
  unfolding sum_of
  at_11 = omega arith

  at_10 : sum_of v t s d e / 1024 % 2 ≡ t
  unfolding sum_of
  at_10 = omega arith

  at_9 : sum_of v t s d e / 512 % 2 ≡ s
  unfolding sum_of
  at_9 = omega arith

  at_8 : sum_of v t s d e / 256 % 2 ≡ d
  unfolding sum_of
  at_8 = omega arith

  at_4 : sum_of v t s d e / 16 % 16 ≡ e
  unfolding sum_of
  at_4 = omega arith

  at_0 : sum_of v t s d e % 16 ≡ 0
  unfolding sum_of
  at_0 = omega arith

pub header_forth : (m : Message) → m.version ≤ 2 → m.encrypt ≤ 1 → Header (header_of m) m
header_forth m hv he =
    rw (header_sum m)
    (record {
      low = sum_low v t s d e hv ht hs hd he;
      version = at_12 v t s d e hv ht hs hd he;
      tunnelled = flag _ 10 m.tunnelled (at_10 v t s d e hv ht hs hd he);
      sourced = flag _ 9 m.sourced (at_9 v t s d e hv ht hs hd he);
      destined = flag _ 8 m.destined (at_8 v t s d e hv ht hs hd he);
      encrypt = at_4 v t s d e hv ht hs hd he;
      clean = simp (div-one, at_11 v t s d e hv ht hs hd he, at_0 v t s d e hv ht hs hd he);
    })
  where
    v : ℕ
    v = m.version

    t : ℕ
    t = dig m.tunnelled

    s : ℕ
    s = dig m.sourced

    d : ℕ
    d = dig m.destined

    e : ℕ
    e = m.encrypt

    ht : t ≤ 1
    ht = dig_low m.tunnelled

    hs : s ≤ 1
    hs = dig_low m.sourced

    hd : d ≤ 1
    hd = dig_low m.destined

pub record Exchange (x : ℕ) (i a r : Bool) : Type 0 where
  pub initiator : bit x 0 ≡ i
  pub acknowledges : bit x 1 ≡ a
  pub wants : bit x 2 ≡ r

asum_of : ℕ → ℕ → ℕ → ℕ
asum_of i a r = 16 + i * 1 + a * 2 + r * 4

module _ (i a r : ℕ) (hi : i ≤ 1) (ha : a ≤ 1) (hr : r ≤ 1) where
  asum_low : asum_of i a r < 256
  unfolding asum_of
  asum_low = omega arith

  xt_0 : asum_of i a r / 1 % 2 ≡ i
  unfolding asum_of
  xt_0 = omega arith

  xt_1 : asum_of i a r / 2 % 2 ≡ a
  unfolding asum_of
  xt_1 = omega arith

  xt_2 : asum_of i a r / 4 % 2 ≡ r
  unfolding asum_of
  xt_2 = omega arith

  xt_3 : asum_of i a r / 8 % 2 ≡ 0
  unfolding asum_of
  xt_3 = omega arith

  xt_4 : asum_of i a r / 16 % 2 ≡ 1
  unfolding asum_of
  xt_4 = omega arith

  xt_5 : asum_of i a r / 32 % 8 ≡ 0
  unfolding asum_of
  xt_5 = omega arith

exchange_sum : (m : Message) → exchange_header_of m ≡ asum_of (dig m.initiator) (dig m.acknowledges) (dig m.wants)
unfolding asum_of
exchange_sum m = simp (only_dig m.initiator 1, only_dig m.acknowledges 2, only_dig m.wants 4)

pub exchange_low : (m : Message) → exchange_header_of m < 256
exchange_low m = rw (exchange_sum m) (asum_low _ _ _ (dig_low m.initiator) (dig_low m.acknowledges) (dig_low m.wants))

pub exchange_forth : (m : Message) → Exchange (exchange_header_of m) m.initiator m.acknowledges m.wants
exchange_forth m =
    rw (exchange_sum m)
    (record {
      initiator = flag _ 0 m.initiator (xt_0 _ _ _ hi ha hr);
      acknowledges = flag _ 1 m.acknowledges (xt_1 _ _ _ hi ha hr);
      wants = flag _ 2 m.wants (xt_2 _ _ _ hi ha hr);
    })
  where
    hi : dig m.initiator ≤ 1
    hi = dig_low m.initiator

    ha : dig m.acknowledges ≤ 1
    ha = dig_low m.acknowledges

    hr : dig m.wants ≤ 1
    hr = dig_low m.wants

pub exchange_clean : (m : Message) → bad_exchange (exchange_header_of m) ≡ false
exchange_clean m =
    let hi = dig_low m.initiator in
    let ha = dig_low m.acknowledges in
    let hr = dig_low m.wants in
    rw (exchange_sum m) (simp (xt_4 _ _ _ hi ha hr, xt_3 _ _ _ hi ha hr, xt_5 _ _ _ hi ha hr))
