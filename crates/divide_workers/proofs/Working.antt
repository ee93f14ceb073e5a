-- The steps of a dividing worker, one after another.
use Rattle.std.proofs.Common.{◌≡◌, ℕ, ◌+◌, ◌≤◌, max, List, [], ◌++◌, length, refl, sym, ap, ◌∙◌, subst, arith, append-nil, length-append, ◌<◌, ◌^◌}
use mathlib.Core.List.{IsPrefix}
use Rattle.sdmp_laws.specs.Poly.{Term}
use Rattle.sdmp_laws.specs.Limits.{quotient_terms_limit}
use Rattle.divide_wholes.specs.Row.{RowNote, row_terms}
use Rattle.divide_wholes.specs.Workers.{worker_rows}
use Rattle.divide_wholes.proofs.RowLemmas.{row_terms-append}
use Rattle.divide_workers.specs.Fronts.{FrontFalls}
use Rattle.divide_workers.specs.Paying.{HasRows}
use Rattle.divide_workers.specs.Views.{WorkerView}
use Rattle.divide_workers.specs.Working.{IsWorking}
use Rattle.divide_workers.specs.Steps.{Works}
use Rattle.divide_workers.proofs.Falling.{falls_itself, falls_again}
use Rattle.term_ring.proofs.Lists.{prefix_trans}

pub more_terms : (a b : List RowNote) → IsPrefix a b → length (row_terms a) ≤ length (row_terms b)
more_terms a b p =
    let e : row_terms b ≡ row_terms a ++ row_terms p.0 = ap row_terms (sym p.1) ∙ row_terms-append a p.0 in
    let l : length (row_terms b) ≡ length (row_terms a) + length (row_terms p.0) = ap (λ (L : List Term). length L) e ∙ length-append (row_terms a) (row_terms p.0) in omega (arith, l)

pub works_itself : (lim : ℕ) (v : WorkerView) → IsWorking lim v → Works v v
works_itself lim v w = record {
  division = refl;
  workers = refl;
  sends = record { ring = refl; worker = refl; sent = ([], append-nil v.state.sent); head = omega arith };
  looks = omega arith;
  known = ([], append-nil v.state.known);
  learned = λ r. let e = w.enough r in omega (arith, e);
  idle = λ n. refl;
  row = refl;
  notes = ([], append-nil v.notes);
  count = omega arith;
  loads = omega arith;
  told = refl;
  front = falls_itself v.state.division.ord v.front;
  room = λ h. h;
}

pub works_again : (a b c : WorkerView) → Works a b → Works b c → Works a c
unfolding worker_rows
works_again a b c f g = record {
  division = g.division ∙ f.division;
  workers = g.workers ∙ f.workers;
  sends = record {
    ring = g.sends.ring ∙ f.sends.ring;
    worker = g.sends.worker ∙ f.sends.worker;
    sent = prefix_trans a.state.sent b.state.sent c.state.sent f.sends.sent g.sends.sent;
    head = let x = f.sends.head in let y = g.sends.head in omega (arith, x, y);
  };
  looks = let x = f.looks in let y = g.looks in omega (arith, x, y);
  known = prefix_trans a.state.known b.state.known c.state.known f.known g.known;
  learned = λ r.
      let m = more_terms b.notes c.notes g.notes in
      let s : c.row.name.start ≡ b.row.name.start = ap (λ i. i.name.start) g.row in
      both (length a.state.known) (length b.state.known) (length c.state.known) (length (row_terms b.notes)) (length (row_terms c.notes)) b.row.name.start c.row.name.start s m (f.learned r) (g.learned (same_rows r));
  idle = λ n. g.idle (λ r. n (λ e. r (sym rows_alike ∙ e))) ∙ f.idle n;
  row = g.row ∙ f.row;
  notes = prefix_trans a.notes b.notes c.notes f.notes g.notes;
  count = let x = f.count in let y = g.count in omega (arith, x, y);
  loads = let x = f.loads in let y = g.loads in omega (arith, x, y);
  told = g.told ∙ f.told;
  front = falls_again a.state.division.ord a.front b.front c.front f.front (subst (λ d. FrontFalls d.ord b.front c.front) f.division g.front);
  room = λ h. g.room (f.room h);
}
  where
    both : (x y z t u r s : ℕ) → s ≡ r → t ≤ u → y ≡ max x (r + t) → z ≡ max y (s + u) → z ≡ max x (s + u)
    both x y z t u r s e m f g = omega (arith, e, m, f, g)

    rows_alike : worker_rows a.state ≡ worker_rows b.state
    rows_alike = sym (λ i. worker_rows record { division = f.division i; workers = f.workers i; worker = f.sends.worker i; known = a.state.known; unread = a.state.unread; kept = a.state.kept; sent = a.state.sent })

    same_rows : HasRows a.state → HasRows b.state
    same_rows r e = r (rows_alike ∙ e)

-- ---- numbers
pub known_below : (n : ℕ) → (quotient_terms_limit ≤ n → ⊥) → n < 2 ^ 30
known_below n h = omega (arith, h)

-- what is known of a row after a call and a meeting, by the counts of its terms and its start
pub learned_count : (k2 k1 k0 t2 t1 t0 s r b : ℕ) → k2 ≡ k1 → t2 ≡ t1 → k1 ≡ max k0 (s + t1) → k0 ≡ b + t0 → t0 ≤ t1 → s ≡ r → b ≡ r → k2 ≡ r + t2
learned_count k2 k1 k0 t2 t1 t0 s r b e f g h l m n = omega (arith, e, f, g, h, l, m, n)
