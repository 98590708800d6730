-- What the appended texts leave in the buffer. Assumes nothing.
use Prim.Native.Nat.{ℕ, ◌+◌, ◌≤◌}
use mathlib.Core.Path.{◌≡◌, sym, ap, ◌∙◌}
use mathlib.Core.List.{List, ◌++◌}
use native.Mathlib.Omega.{arith}
use lib.ListN.{length, drop, length-append}
use lib.Seq.{sets, length-take-le}
use Rattle.io.specs.Counts.{IsPrefixLen}
use Rattle.wire.proofs.Runs.{sets_then, sets_front}
use Rattle.lines.specs.Appends.{Appends}
use Rattle.lines.specs.Decimal.{decimal_text}
use Rattle.lines.specs.Lines.{newline, space, new_word, duplicate_word, refused_word, least_word, refused_opening, closing, pair_text, said_text, line_text, figures_text}
use Rattle.lines.specs.declared.Said.{Said}
use Rattle.lines.specs.declared.Said.TheVariants.{New, Duplicate, Refused}
use Rattle.lines.specs.declared.Figure.{Figure}
use Rattle.lines.specs.declared.Figure.TheVariants.{Marks, Least, Refused as Figure-as-Refused}
use Rattle.lines.specs.declared.appends.Text.{Text}
use Rattle.lines.proofs.Decimals.{decimal_most}

-- one text, and another after it
pub and_then : {before between after : Text} (x y : List ℕ) → Appends before x between → Appends between y after → Appends before (x ++ y) after
and_then {before} {between} {after} x y p q =
    record {
      same = q.same ∙ p.same;
      len = let l = length-append x y in let i = p.len in let j = q.len in omega arith;
      out = q.out ∙ ap (λ (l : List ℕ). sets l between.len y) p.out ∙ sets_then before.out.now before.len x y between.len p.len;
    }

-- how long a number and a text after it are at most
followed_most : (n : ℕ) (text : List ℕ) → length (decimal_text n ++ text) ≤ 20 + length text
followed_most n text = let l = length-append (decimal_text n) text in let m = decimal_most n in omega arith

-- how long a word, a number and what ends the line are at most
ended_most : (word : List ℕ) (n : ℕ) (rest : List ℕ) → length (word ++ decimal_text n ++ rest) ≤ length word + 20 + length rest
ended_most word n rest =
    let a = length-append (word ++ decimal_text n) rest in
    let b = length-append word (decimal_text n) in
    let m = decimal_most n in
    omega arith

pub closing_most : (word : List ℕ) (n : ℕ) → length (closing word n) ≤ length word + 21
unfolding closing
closing_most word n = let m = ended_most word n newline in omega arith

pair_most : (word : List ℕ) (first second : ℕ) → length (pair_text word first second) ≤ length word + 42
unfolding pair_text
pair_most word first second = let m = closing_most space second in let l = ended_most word first (closing space second) in omega arith

said_most : (said : Said) → length (said_text said) ≤ 51
said_most (New id) = let m = closing_most new_word id in omega arith
said_most (Duplicate id) = let m = closing_most duplicate_word id in omega arith
said_most (Refused number offset) = let m = pair_most refused_word number offset in omega arith

pub line_most : (ordinal : ℕ) (said : Said) → length (line_text ordinal said) ≤ 71
unfolding line_text
line_most ordinal said = let m = said_most said in let l = followed_most ordinal (said_text said) in omega arith

pub figures_most : (figure : Figure) → length (figures_text figure) ≤ 63
unfolding figures_text
figures_most (Marks held new duplicate) = let m = pair_most space new duplicate in let l = followed_most held (pair_text space new duplicate) in omega arith
figures_most (Least held) = let m = closing_most least_word held in omega arith
figures_most (Figure-as-Refused number) = let m = closing_most refused_opening number in omega arith

-- a text from the front on: it is counted by its length
pub at_front : {before after : Text} {new : List ℕ} (text : List ℕ) → before.len ≡ 0 → length text ≤ length before.out.now → Appends before text after → new ≡ after.out.now
    → ((after.len ≡ length text) × (new ≡ text ++ drop after.len before.out.now)) × IsPrefixLen after.len new
at_front {before} {after} {new} text z h p e =
    let old = before.out.now in
    let l : after.len ≡ length text = let i = p.len in omega arith in
    let b : new ≡ text ++ drop after.len old =
    e ∙ p.out ∙ ap (λ (n : ℕ). sets old n text) z ∙ sets_front old text h ∙ ap (λ (n : ℕ). text ++ drop n old) (sym l) in
    let k = length-append text (drop after.len old) in
    let w : length new ≡ length (text ++ drop after.len old) = ap length b in
    let m : after.len ≤ length new = omega arith in
    ((l, b), (m, sym (length-take-le after.len new m)))
