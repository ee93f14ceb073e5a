-- What contracts see of a merge's fields.
use Rattle.std.proofs.Common.{◌≡◌, inr, ℕ, ◌+◌, ◌-◌, ◌<◌, ◌≤◌, ◌^◌, ℤ, List, length, refl, arith}
use Rattle.std.proofs.Math.Nat.{mul-le-mul}
use Rattle.std.proofs.lemmas.List.{length-map}
use Rattle.sdmp_laws.proofs.OrderLemmas.{Three, is_less, is_equal, is_greater, numbers}
use Rattle.sdmp_laws.specs.Order.{Order}
use Rattle.sdmp_laws.specs.Poly.{Term}
use Rattle.sdmp_laws.specs.Division.{Division}
use Rattle.sdmp_laws.specs.Limits.{PassesBound, quotient_terms_limit}
use Rattle.dividing_rounds.specs.Runs.{workload_count}
use Rattle.divide_merge.specs.Names.{IsFit}
use Rattle.term_ring.specs.Ends.{tail_seen, empty_looks}
use Rattle.term_ring.specs.Names.{reader_name}
use Rattle.divide_merge.specs.Inside.{Held, divide_view, IsDivideMerge}
use Rattle.divide_merge.specs.Merges.{IsSound}

-- a quotient within its bound has fewer than 2^30 terms, so what a division may meet is counted by a word
pub workload_low : (lim : ℕ) (d : Division) (q : List Term) → IsFit lim d → (PassesBound d q → ⊥) → workload_count d (length q) + 1 < 2 ^ 64
unfolding workload_count
workload_low lim d q fit within =
    let few : length q < 2 ^ 30 = pick (numbers (length q) quotient_terms_limit) in
    let a = fit.few_dividend in
    let b = fit.few_divisor in
    let m = mul-le-mul (let e : length q ≤ 2 ^ 30 = omega arith in e) (let e : length d.g - 1 ≤ 2 ^ 30 = omega arith in e) in
    omega arith
  where
    pick : Three (length q < quotient_terms_limit) (length q ≡ quotient_terms_limit) (quotient_terms_limit < length q) → length q < 2 ^ 30
    pick (is_less l) = omega arith
    pick (is_equal e) = absurd (within (inr (omega arith)))
    pick (is_greater l) = absurd (within (inr (omega arith)))

module _ {X M E : Type 0} (vector : M → List ℕ) (value : E → ℤ) (belongs : ℕ → E → Type 0) (ord : Order) (n lim p quotient_room rest_room : ℕ) where
  pub is_sound : (h : Held X M E) → IsDivideMerge vector value belongs ord n lim p quotient_room rest_room h → IsSound lim (divide_view vector value h)
  is_sound h k = record {
    whole = k.whole;
    begun = k.begun;
    over = refl;
    cause = k.cause;
    division = refl;
    scripts = k.made_for.scripts;
    fit = k.made_for.fit;
    row_division = k.made_for.row_division;
    row_start = refl;
    row_room = k.row_room;
    some = k.workers.some;
    few = k.workers.few;
    rings_count = length-map h.readers reader_name;
    tails_count = length-map h.readers tail_seen;
    looks_count = length-map h.readers empty_looks;
  }
