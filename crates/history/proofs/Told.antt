-- A table that tells a book goes on doing so where one row changes. Assumes nothing.
use Prim.Native.Nat.{ℕ, ◌+◌, ◌≤◌, ◌<◌}
use mathlib.Core.Path.{◌≡◌, refl, sym, ap, ap₂, subst, subst⁻¹, ◌∙◌}
use mathlib.Core.Bool.{Bool, true, false, ◌&&◌, cond}
use mathlib.Core.List.{List, [], ◌∷◌}
use native.Mathlib.Omega.{arith}
use borrow.Author.Tests.{eq-eqb, eqb-true}
use lib.Dec.{eqb}
use lib.ListN.{length}
use Rattle.message.proofs.Logic.{clash}
use Rattle.window.specs.Rows.{marks_held}
use Rattle.window.specs.declared.Row.{Row}
use Rattle.window.proofs.History.{Stands}
use Rattle.table.specs.Table.{rows, one_if, freed, row_of, with_row, named, find_of, kept, in_use}
use Rattle.history.specs.History.{Book, under}
use Rattle.history.specs.Telling.{Stand, Told}
use Rattle.table.proofs.Least.{least_holds, least_misses}
use Rattle.table.proofs.Words.{Narrow, length_put, other_row, same_row}
use Rattle.table.proofs.Kept.{Apart, kept_same, kept_none, Split, split, counts}

-- ---- names

-- a row that is in use under a name is so under no other
pub named_node : (node key : ℕ) (row : Row) → named node key row ≡ true → (row.used ≡ true) × (row.node ≡ node) × (row.key ≡ key)
named_node node key row e = go row.used (eqb row.node node) (eqb row.key key) refl refl refl e
  where
    go : (u a b : Bool) → row.used ≡ u → eqb row.node node ≡ a → eqb row.key key ≡ b → (u && a && b) ≡ true → (row.used ≡ true) × (row.node ≡ node) × (row.key ≡ key)
    go true true true x y z e = (x, eqb-true _ _ y, eqb-true _ _ z)
    go true true false x y z e = clash false e refl
    go true false b x y z e = clash false e refl
    go false a b x y z e = clash false e refl

pub named_is : (node key : ℕ) (row : Row) → row.used ≡ true → row.node ≡ node → row.key ≡ key → named node key row ≡ true
named_is node key row x y z =
    ap₂ (λ (a b : Bool). a && eqb row.node node && b) x (eq-eqb row.key key z) ∙ ap (λ (a : Bool). true && a && true) (eq-eqb row.node node y)

pub named_not : (node key : ℕ) (row : Row) → row.used ≡ false → named node key row ≡ false
named_not node key row x = ap (λ (a : Bool). a && eqb row.node node && eqb row.key key) x

-- two names
pub same_name_lem : (n k node key : ℕ) → (eqb n node && eqb k key) ≡ true → (n ≡ node) × (k ≡ key)
same_name_lem n k node key e = go (eqb n node) (eqb k key) refl refl e
  where
    go : (a b : Bool) → eqb n node ≡ a → eqb k key ≡ b → (a && b) ≡ true → (n ≡ node) × (k ≡ key)
    go true true x y e = (eqb-true _ _ x, eqb-true _ _ y)
    go true false x y e = clash false e refl
    go false b x y e = clash false e refl

pub named_other : (n k node key : ℕ) (row : Row) → (eqb n node && eqb k key) ≡ false → row.node ≡ node → row.key ≡ key → named n k row ≡ false
named_other n k node key row e x y = go (named n k row) refl
  where
    go : (b : Bool) → named n k row ≡ b → b ≡ false
    go true h =
        let w = named_node n k row h in
        let a = eq-eqb n node (sym w.1 ∙ x) in
        let b = eq-eqb k key (sym w.2 ∙ y) in
        clash (eqb n node && eqb k key) (ap₂ (λ (a b : Bool). a && b) a b) e
    go false h = refl

-- the lists under a name that were replaced, and those under another
under_same : (lists : ℕ → ℕ → List (List ℕ)) (node key : ℕ) (those : List (List ℕ)) (n k : ℕ) → (eqb n node && eqb k key) ≡ true → under lists node key those n k ≡ those
unfolding under
under_same lists node key those n k e = ap (λ (b : Bool). cond b those (lists n k)) e

under_other : (lists : ℕ → ℕ → List (List ℕ)) (node key : ℕ) (those : List (List ℕ)) (n k : ℕ) → (eqb n node && eqb k key) ≡ false → under lists node key those n k ≡ lists n k
unfolding under
under_other lists node key those n k e = ap (λ (b : Bool). cond b those (lists n k)) e

-- ---- one row changes

module _ {t : List ℕ} {book : Book} (told : Told t book) (node key i : ℕ) (li : i < rows) (row : Row) (narrow : Narrow row) where
  pub g_same : row_of (with_row t i row) i ≡ row
  g_same = same_row t i row (omega (arith, told.size)) narrow

  apart : Apart i (row_of t) (row_of (with_row t i row))
  apart k n = other_row t i k row n

  -- the book with the lists of one name replaced is told by the table with one row replaced
  pub changed : (those : List (List ℕ)) (count : ℕ)
      → ((n k : ℕ) → (eqb n node && eqb k key) ≡ false → named n k (row_of t i) ≡ false)
      → ((n k : ℕ) → (eqb n node && eqb k key) ≡ false → named n k row ≡ false)
      → Stand key (kept rows (named node key) (row_of (with_row t i row))) those
      → length (kept rows in_use (row_of t)) + one_if row.used ≡ count + one_if (row_of t i).used
      → Told (with_row t i row) (record { lists = under book.lists node key those; count = count })
  changed those count before after stand counted =
      record {
        size = length_put t i row ∙ told.size;
        names = λ n k. go n k (eqb n node && eqb k key) refl;
        count = omega (arith, counted, counts rows in_use (row_of t) (row_of (with_row t i row)) i li apart, ap (λ (r : Row). one_if r.used) g_same);
      }
    where
      go : (n k : ℕ) (b : Bool) → (eqb n node && eqb k key) ≡ b → Stand k (kept rows (named n k) (row_of (with_row t i row))) (under book.lists node key those n k)
      go n k true e =
          let w = same_name_lem n k node key e in
          subst⁻¹ (Stand k (kept rows (named n k) (row_of (with_row t i row)))) (under_same book.lists node key those n k e)
          (subst⁻¹ (λ (y : ℕ). Stand y (kept rows (named n y) (row_of (with_row t i row))) those) w.1
          (subst⁻¹ (λ (x : ℕ). Stand key (kept rows (named x key) (row_of (with_row t i row))) those) w.0 stand))
      go n k false e =
          subst⁻¹ (Stand k (kept rows (named n k) (row_of (with_row t i row)))) (under_other book.lists node key those n k e)
          (subst⁻¹ (λ (rs : List Row). Stand k rs (book.lists n k))
          (kept_same rows (named n k) (row_of t) (row_of (with_row t i row)) i apart (before n k e) (ap (named n k) g_same ∙ after n k e))
          (told.names n k))

-- ---- a name that has a row

module _ {t : List ℕ} {book : Book} (told : Told t book) (node key : ℕ) (l : find_of rows t node key < rows) where
  pub hits : named node key (row_of t (find_of rows t node key)) ≡ true
  unfolding find_of
  hits = least_holds rows (λ i. named node key (row_of t i)) l

  pub misses : (k : ℕ) → k < find_of rows t node key → named node key (row_of t k) ≡ false
  unfolding find_of
  misses = least_misses rows (λ i. named node key (row_of t i))

  -- it has a list, for which the row found stands; with another row put there the rows behind stand for the lists behind
  pub record Open : Type 0 where
    pub ps : List ℕ
    pub pss : List (List ℕ)
    pub is : book.lists node key ≡ ps ∷ pss
    pub stands : Stands marks_held key (row_of t (find_of rows t node key)) ps
    pub stays : (row : Row) (qs : List ℕ) → Narrow row → named node key row ≡ true → Stands marks_held key row qs
        → Stand key (kept rows (named node key) (row_of (with_row t (find_of rows t node key) row))) (qs ∷ pss)
    pub goes : (row : Row) → Narrow row → named node key row ≡ false
        → Stand key (kept rows (named node key) (row_of (with_row t (find_of rows t node key) row))) pss

  parts : (row : Row) → Split rows (named node key) (row_of t) (row_of (with_row t (find_of rows t node key) row)) (find_of rows t node key)
  parts row = split rows (named node key) (row_of t) (row_of (with_row t (find_of rows t node key) row)) (find_of rows t node key) l misses hits (λ k n. other_row t (find_of rows t node key) k row n)

  at : (row : Row) → Stand key (row_of t (find_of rows t node key) ∷ (parts row).rest) (book.lists node key)
  at row = subst (λ (rs : List Row). Stand key rs (book.lists node key)) (parts row).was (told.names node key)

  pub is_open : Open
  is_open = go (book.lists node key) refl
    where
      put : (row : Row) → Narrow row → row_of (with_row t (find_of rows t node key) row) (find_of rows t node key) ≡ row
      put row n = g_same told node key (find_of rows t node key) l row n

      go : (those : List (List ℕ)) → book.lists node key ≡ those → Open
      go [] e = absurd (subst (Stand key (row_of t (find_of rows t node key) ∷ (parts freed).rest)) e (at freed))
      go (ps ∷ pss) e =
          record {
            ps = ps;
            pss = pss;
            is = e;
            stands = (subst (Stand key (row_of t (find_of rows t node key) ∷ (parts freed).rest)) e (at freed)).0;
            stays = λ row qs n h s.
                subst⁻¹ (λ (rs : List Row). Stand key rs (qs ∷ pss))
                ((parts row).stays (ap (named node key) (put row n) ∙ h) ∙ ap (λ (r : Row). r ∷ (parts row).rest) (put row n))
                (s, (subst (Stand key (row_of t (find_of rows t node key) ∷ (parts row).rest)) e (at row)).1);
            goes = λ row n h.
                subst⁻¹ (λ (rs : List Row). Stand key rs pss) ((parts row).goes (ap (named node key) (put row n) ∙ h))
                (subst (Stand key (row_of t (find_of rows t node key) ∷ (parts row).rest)) e (at row)).1;
          }

-- ---- a name that has none

module _ {t : List ℕ} {book : Book} (told : Told t book) (node key : ℕ) (l : rows ≤ find_of rows t node key) where
  nowhere : (k : ℕ) → k < rows → named node key (row_of t k) ≡ false
  unfolding find_of
  nowhere k m = least_misses rows (λ i. named node key (row_of t i)) k (omega (arith, l))

  pub is_shut : book.lists node key ≡ []
  is_shut = go (book.lists node key) (subst (λ (rs : List Row). Stand key rs (book.lists node key)) (kept_none rows (named node key) (row_of t) nowhere) (told.names node key))
    where
      go : (those : List (List ℕ)) → Stand key [] those → those ≡ []
      go [] s = refl
      go (ps ∷ pss) s = absurd s

  -- with a row of the name put at a place it stands alone
  pub alone : (i : ℕ) → i < rows → (row : Row) (qs : List ℕ) → Narrow row → named node key row ≡ true → Stands marks_held key row qs
      → Stand key (kept rows (named node key) (row_of (with_row t i row))) (qs ∷ [])
  alone i li row qs n h s =
      let put = g_same told node key i li row n in
      let g : ℕ → Row = row_of (with_row t i row) in
      let sp = split rows (named node key) g (row_of t) i li (λ k m. ap (named node key) (other_row t i k row (λ e. omega arith)) ∙ nowhere k (omega arith)) (ap (named node key) put ∙ h) (λ k m. sym (other_row t i k row m)) in
      let none : sp.rest ≡ [] = sym (sp.goes (nowhere i li)) ∙ kept_none rows (named node key) (row_of t) nowhere in
      subst⁻¹ (λ (rs : List Row). Stand key rs (qs ∷ [])) (sp.was ∙ ap₂ (λ (r : Row) (rs : List Row). r ∷ rs) put none) (s, tt)
