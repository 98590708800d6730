-- What storing a value asks for where writing answers with a length, and what the parts leave in the buffer. Assumes nothing.
use Rattle.std.specs.Prelude.{Result, Ok}
use Prim.Native.Nat.{ℕ, ◌+◌, ◌≤◌}
use mathlib.Core.Path.{◌≡◌, refl, ap, ◌∙◌}
use mathlib.Core.List.{List, ◌++◌, append_assoc}
use native.Mathlib.Omega.{arith}
use lib.ListN.{length, drop}
use lib.Seq.{drop-drop}
use Rattle.message.specs.Layout.{head_length}
use Rattle.message.specs.Value.{head_bytes, bytes_of}
use Rattle.message.specs.Answers.{buffer_after}
use Rattle.message.specs.declared.value.Message.{Message}
use Rattle.message.specs.declared.answers.Refusal.{Refusal}
use Rattle.message.proofs.Lengths.{total_is}
use Rattle.message.proofs.Logic.{so}
use Rattle.message.proofs.Low.{version_low, encrypt_low}
use Rattle.judge.specs.Writing.{write_of}
use Rattle.judge.proofs.Clear.{written}

pub record Storable (m : Message) (payload check : List ℕ) (room n : ℕ) : Type 0 where
  pub version : m.version ≤ 2
  pub encrypt : m.encrypt ≤ 1
  pub parts : head_length m + length payload + length check ≡ n
  pub fits : n ≤ room
  pub answer : Ok n ≡ write_of m payload check room

pub storable : {m : Message} {payload check : List ℕ} {room n : ℕ} {answer : Result ℕ Refusal} → answer ≡ write_of m payload check room → answer ≡ Ok n
    → Storable m payload check room n
storable {m} {payload} {check} {room} {n} by e =
    let (long, k) = written m payload check room n (so by e) in
    let f = k.room in
    let c = k.check in
    record {
      version = version_low _ k.version;
      encrypt = encrypt_low _ k.encrypt;
      parts = omega (arith, total_is m payload);
      fits = omega arith;
      answer = so e by;
    }

-- head, payload and check one after the other, before what was not touched
pub run_lands : {m : Message} {payload check a b c r s rest : List ℕ} {n h k : ℕ} (old : List ℕ) → Storable m payload check (length old) n
    → h ≡ head_length m → k ≡ length check → r ≡ drop h old → s ≡ drop (length payload) r → rest ≡ drop k s
    → a ≡ head_bytes m → b ≡ payload → c ≡ check
    → a ++ (b ++ (c ++ rest)) ≡ buffer_after (Ok n) (bytes_of m payload check) old
unfolding bytes_of
run_lands {m} {payload} {check} {n = n} {h} {k} old w e f p q t first second third =
    let after : drop k (drop (length payload) (drop h old)) ≡ drop n old =
    drop-drop k (length payload) (drop h old)
    ∙ drop-drop (length payload + k) h old
    ∙ ap (λ (i : ℕ). drop i old) (let l = w.parts in omega arith) in
    rw (first, second, third, t, q, p, after) (simp append_assoc refl)
