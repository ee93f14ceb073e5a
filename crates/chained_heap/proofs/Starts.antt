-- The empty heap.
use Rattle.std.proofs.Common.{ℕ, ◌<◌, ◌≤◌, ◌≡◌, ◌⊎◌, List, [], length, replicate, refl, sym, ap, subst, ◌∙◌, arith, inl, inr}
use Rattle.std.specs.declared.cmp.Ordering.{Ordering}
use Rattle.std.proofs.lemmas.Bool.{false≢true, cases_lt}
use Rattle.std.proofs.lemmas.List.{get_or-replicate, length-replicate}
use Rattle.std.proofs.Math.ListN.{get_or-eq_default}
use Rattle.std.proofs.lemmas.List.Elements.{All-nil}
use Rattle.std.proofs.lemmas.List.Folds.{sum_by-replicate}
use Rattle.chained_heap.specs.declared.node.Node.{Node}
use Rattle.chained_heap.specs.declared.node.Place.{Place}
use Rattle.chained_heap.specs.declared.node.Place.TheVariants.{Out}
use Rattle.chained_heap.specs.Shape.{no_row, place_at, present, is_free, IsChainedHeap}

all_out : {M : Type 0} (n r : ℕ) → place_at {M = M} (replicate n Out) r ≡ Out
all_out {M} n r = by (cases_lt r n)
  where
    by : (r < n) ⊎ (n ≤ r) → place_at {M = M} (replicate n Out) r ≡ Out
    by (inl h) = get_or-replicate n r Out Out h
    by (inr h) = let l = length-replicate n (let o : Place M = Out in o) in get_or-eq_default (replicate n Out) Out (omega arith)

pub starts : {M : Type 0} (cmp : M → M → Ordering) (nodes : List (Node M)) (next : List ℕ) (places : List (Place M)) (rows : ℕ) → length nodes ≡ rows → length next ≡ rows → places ≡ replicate rows Out → rows ≤ no_row → IsChainedHeap cmp nodes 0 next places no_row
starts {M} cmp nodes next places rows n x e f =
    let out : List (Place M) = replicate rows Out in
    let l : length (replicate rows (let o : Place M = Out in o)) ≡ rows = length-replicate rows Out in
    subst (λ ps. IsChainedHeap cmp nodes 0 next ps no_row) (sym e) record {
      within = omega arith;
      long = n ∙ sym l;
      ordered = λ p k d lo a b q. absurd (omega arith);
      shape = record {
        chains = replicate rows [];
        rest = [];
        held = [];
        each = All-nil _;
        free = record { linked = refl; inside = λ r k. absurd (omega arith) };
        out = record { linked = refl; inside = λ r k. absurd (omega arith) };
        once = λ r. sym (ap present (all_out rows r));
        room = omega (arith, sum_by-replicate is_free rows (let o : Place M = Out in o), l);
        long = x ∙ sym l;
        fits = omega (arith, l);
        chained = length-replicate rows [] ∙ sym l;
        wanted = λ p h. absurd (false≢true h);
      };
    }
