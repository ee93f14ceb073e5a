-- How far a merge has come: what follows a merge that follows another.
use Rattle.std.proofs.Common.{◌≡◌, ◌⊎◌, inl, inr, ◌<◌, true, true≢false, List, [], ◌∷◌, ◌++◌, length, length-append, refl, sym, ap, ◌∙◌, subst, arith}
use mathlib.Core.List.{IsPrefix}
use Rattle.divide_wholes.specs.Row.{RowNote}
use Rattle.dividing_rounds.specs.Runs.{DivideRun}
use Rattle.dividing_rounds.specs.Rounds.{progress}
use Rattle.divide_merge.specs.Reached.{DivideReach, RowGrows, Follows}
use Rattle.term_ring.proofs.Lists.{prefix_self, prefix_trans}

-- a list with a beginning is empty only where that is
pub prefix_nil : (A B : List RowNote) → IsPrefix A B → B ≡ [] → A ≡ []
prefix_nil [] B k e = refl
prefix_nil (x ∷ A) B k e = absurd (let n = ap (λ (L : List RowNote). length L) (k.1 ∙ e) in omega arith)

pub RowGrows-refl : (a : DivideRun) → RowGrows a a
RowGrows-refl a = record { notes = prefix_self a.notes; front = λ _. refl }

pub RowGrows-trans : (a b c : DivideRun) → RowGrows a b → RowGrows b c → RowGrows a c
RowGrows-trans a b c f g = record {
  notes = prefix_trans a.notes b.notes c.notes f.notes g.notes;
  front = λ e. g.front e ∙ f.front (prefix_nil b.notes c.notes g.notes e);
}

-- ---- the row
pub row_same : (a b : DivideRun) → b.notes ≡ a.notes → b.state.front ≡ a.state.front → RowGrows a b
row_same a b n f = record { notes = subst (IsPrefix a.notes) (sym n) (prefix_self a.notes); front = λ _. f }

pub row_longer : (a b : DivideRun) (x : RowNote) → b.notes ≡ a.notes ++ x ∷ [] → RowGrows a b
row_longer a b x n = record {
  notes = (x ∷ [], sym n);
  front = λ e. absurd (let l = ap (λ (ns : List RowNote). length ns) (sym n ∙ e) in let m = length-append a.notes (x ∷ []) in omega arith);
}

pub Follows-trans : (a b c : DivideReach) → Follows a b → Follows b c → Follows a c
Follows-trans a b c (inl e) g = subst (λ (z : DivideReach). Follows z c) e g
Follows-trans a b c (inr f) (inl e) = subst (λ (z : DivideReach). Follows a z) (sym e) (inr f)
Follows-trans a b c (inr f) (inr g) = inr (f.0, pick f.1 g.1, RowGrows-trans a.run b.run c.run f.2 g.2)
  where
    pick : (b.run.over ≡ true) ⊎ (progress a.run < progress b.run) → (c.run.over ≡ true) ⊎ (progress b.run < progress c.run) → (c.run.over ≡ true) ⊎ (progress a.run < progress c.run)
    pick (inl over) k = absurd (true≢false (sym over ∙ g.0))
    pick (inr less) (inl over) = inl over
    pick (inr less) (inr more) = inr (omega arith)
