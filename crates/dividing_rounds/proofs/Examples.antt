-- What the laws say of x^2*y^2-1 divided by x*y-1 by two workers, where the quotient term x*y is found and x*y, its product with the divisor's second term, waits with the second worker.
use Rattle.std.proofs.Common.{◌≡◌, ℕ, zero, suc, inl, inr, true, ℤ, pos, negsuc, [], ◌∷◌, Some, None, refl, arith}
use Rattle.sdmp_laws.specs.Order.{Grlex, ◌⋅◌, Below, IsUnder, degree, alike}
use Rattle.sdmp_laws.specs.Poly.{Term, every, row, times, term_times, lm}
use Rattle.sdmp_laws.specs.Division.{Division, AllAtOrBelow}
use Rattle.whole_laws.specs.Notes.{MarkNote, AboveTop, divisor_rows, after_lead, has}
use Rattle.whole_laws.specs.Wholes.{head_terms, notes_of, head_of_worker}
use Rattle.divide_wholes.specs.Wholes.{DivideState, mark_after, latest_mark}
use Rattle.dividing_rounds.specs.Runs.{workload, workload_count}
use Rattle.dividing_rounds.specs.Stalls.{IsAsked, IsCurrent, IsLow, IsStuck, TopWithin, IsDue, IsHeld, HasWaited}
use Rattle.dividing_rounds.specs.Rounds.{most_rounds}
use Rattle.sdmp_laws.specs.declared.Mode.TheVariants.{Exact}

-- the term c*x^a*y^b
abbrev term : ℕ → ℕ → ℤ → Term
term a b c = record { monomial = a ∷ b ∷ []; coefficient = c }

abbrev division : Division
division = record { mode = Exact; ord = Grlex; p = 0; n = 2; f = term 2 2 (pos 1) ∷ term 0 0 (negsuc 0) ∷ []; g = term 1 1 (pos 1) ∷ term 0 0 (negsuc 0) ∷ [] }

-- x^2*y^2 is processed and its quotient term published; the second worker's mark counts it
abbrev state : DivideState
state = record {
  division = division;
  workers = 2;
  q = term 1 1 (pos 1) ∷ [];
  r = [];
  unread = term 0 0 (negsuc 0) ∷ [];
  heads = None ∷ None ∷ [];
  taken = [] ∷ (MarkNote 1 (Some (1 ∷ 1 ∷ [])) ∷ []) ∷ [];
  last = Some (2 ∷ 2 ∷ []);
  front = Some (2 ∷ 2 ∷ []);
  start = 0;
  published = term 1 1 (pos 1) ∷ [];
}

-- x*y may still be met
in_workload : has (1 ∷ 1 ∷ []) (workload division state.q) ≡ true
unfolding workload times row term_times after_lead has alike ◌⋅◌
in_workload = refl

-- of the two terms of the divisor one is left to the workers, and the quotient has two: at most 4 monomials are processed, and 25 rounds made
bound : most_rounds division 2 2 ≡ 25
unfolding most_rounds workload_count
bound = refl

-- the second worker alone is asked
second_asked : IsAsked state 1
unfolding head_of_worker divisor_rows every after_lead
second_asked = record { worker = omega arith; no_head = refl; rows = λ e. absurd (cc e) }

-- at 1, the monomial that was read, it holds the merge up
held_up : IsStuck state (Some (0 ∷ 0 ∷ [])) 1
unfolding IsLow AboveTop notes_of latest_mark mark_after Below degree
held_up = record { asked = second_asked; waits = λ c l. never l }
  where
    never : Below Grlex (1 ∷ 1 ∷ []) (0 ∷ 0 ∷ []) → ⊥
    never (inl d) = omega (arith, d)
    never (inr t) = let d = t.0 in omega (arith, d)

-- it has said what it can: x*y*lm(g) is the front times its row
has_waited : HasWaited state 1
unfolding IsHeld notes_of latest_mark mark_after divisor_rows every after_lead lm ◌⋅◌
has_waited = record { current = refl; held = inl refl }

-- and a front is due at x*y
due : IsDue state (1 ∷ 1 ∷ [])
unfolding AllAtOrBelow TopWithin IsUnder Below degree notes_of latest_mark mark_after head_terms divisor_rows every after_lead
due = record {
  current = current;
  read_below = (inr (inl (omega arith)), tt);
  tops_below = tops;
  reached = inr (1, second_asked, refl);
  lower = inl (omega arith);
}
  where
    current : (w : ℕ) → IsAsked state w → IsCurrent state w
    current zero a = absurd (a.rows refl)
    current (suc zero) a = refl
    current (suc (suc w)) a = absurd (let l = a.worker in omega (arith, l))

    tops : (w : ℕ) → IsAsked state w → TopWithin Grlex (1 ∷ 1 ∷ []) (latest_mark (notes_of state.taken w)).1
    tops zero a = absurd (a.rows refl)
    tops (suc zero) a = inl refl
    tops (suc (suc w)) a = absurd (let l = a.worker in omega (arith, l))
