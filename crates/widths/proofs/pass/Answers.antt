-- Each round counts one id more of those that are left, and past the last none is left. Assumes nothing.
use Rattle.std.proofs.Common.{◌≡◌, ℕ, ◌+◌, List, [], ◌∷◌, drop, map, refl, sym, ap, ◌∙◌, subst, arith}
use Rattle.std.proofs.lemmas.List.{drop_more, drop_all}
use Rattle.window.specs.Rows.{behind_encrypted}
use Rattle.window.specs.Windows.{most_marks, heard_at}
use Rattle.widths.specs.Trial.{ids_of}
use Rattle.widths.specs.declared.Run.{Run}
use Rattle.widths.proofs.Recorded.{id_in, ids_chunks}
use Rattle.widths.proofs.Running.{Left, left_first, left_on, left_none, ran_once}
use Rattle.widths.proofs.pass.Goals as goal

pub loop-id-init : goal.loop-id-init
loop-id-init c =
    let a = c.args in
    let ids : List ℕ = ids_of a.ids.now in
    record {
      found = omega arith;
      past = omega arith;
      beyond = omega arith;
      left =
          subst (Left a.few a.more ids _) (ids_chunks a.ids.now ∙ ap (map id_in) (sym c.as_chunks.ensures.front))
          (left_first a.few a.more ids _ refl refl refl refl refl);
    }

pub loop-id-preserved : goal.loop-id-preserved
loop-id-preserved c =
    let l = c.loop-id in
    let i = l.invariant in
    let a = c.args in
    let chunks : List (List ℕ) = c.as_chunks.result.0.now in
    let id = c.get.result in
    let ids : map id_in (drop l.id-index chunks) ≡ id ∷ map id_in (drop (l.id-index + 1) chunks) =
    ap (map id_in) (drop_more chunks l.id-index [] c.loop-id-test.true)
    ∙ ap (λ (n : ℕ). n ∷ map id_in (drop (l.id-index + 1) chunks)) (sym c.get.ensures) in
    let once = ran_once a.few a.more l.run (heard_at behind_encrypted most_marks l.run.window id) in
    let run = c.hear.ensures in
    record {
      found = omega (arith, i.found, once.0, ap (λ (r : Run). r.found) run);
      past = omega (arith, i.past, once.1, ap (λ (r : Run). r.past) run);
      beyond = omega (arith, i.beyond, once.2, ap (λ (r : Run). r.beyond) run);
      left = left_on a.few a.more (ids_of a.ids.now) l.run _ _ _ id (omega arith) ids run i.left;
    }

-- past the loop, what is left are no ids
pub returns : goal.returns
returns c =
    let l = c.loop-id in
    let a = c.args in
    let chunks : List (List ℕ) = c.as_chunks.result.0.now in
    left_none a.few a.more (ids_of a.ids.now) l.run _ (ap (map id_in) (drop_all l.id-index chunks c.loop-id-test.false)) l.invariant.left
