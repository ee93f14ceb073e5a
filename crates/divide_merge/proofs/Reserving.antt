-- What a merge of a division keeps where there is other room for its terms.
use Rattle.std.proofs.Common.{◌≡◌, ℕ, ◌+◌, ◌-◌, ◌≤◌, ℤ, min, List, length, Option, Some, None, Result, Ok, Err, is_err, OnOk, false, true≢false, sym, subst, arith}
use Rattle.std.specs.Option.{IfSome}
use Rattle.sdmp_laws.specs.Order.{Order}
use Rattle.divide_wholes.specs.Wholes.{DivideState}
use Rattle.canonical_terms.specs.declared.term.TermOf.{TermOf}
use Rattle.divide_merge.specs.Verdicts.{Verdict, Finishes, HasNone, PassesNorm, PassesCount, IsBlocked, RowIsFull, OutIsFull, IsVerdict, IsFinal}
use Rattle.divide_merge.specs.Merges.{free_places}
use Rattle.divide_merge.specs.Inside.{Held, answer_of, divide_state, divide_view, IsDivideMerge}

-- the cause of a last answer doesn't speak of the room
pub final_anywhere : (x : Verdict) (s : DivideState) (i j m n : ℕ) → IsFinal x → IsVerdict s i m x → IsVerdict s j n x
unfolding IsFinal IsVerdict
final_anywhere Finishes s i j m n f v = v
final_anywhere (HasNone y) s i j m n f v = v
final_anywhere (PassesNorm t) s i j m n f v = v
final_anywhere (PassesCount t) s i j m n f v = v
final_anywhere (IsBlocked w) s i j m n f v = absurd f
final_anywhere RowIsFull s i j m n f v = absurd f
final_anywhere OutIsFull s i j m n f v = absurd f

-- counts that stop at the greatest word add up to one that does
pub saturated : (a b c d : ℕ) → min (min (min (min a 18446744073709551615 + b) 18446744073709551615 + c) 18446744073709551615 + d) 18446744073709551615 ≡ min (a + b + c + d) 18446744073709551615
saturated a b c d = grind arith

-- room for as many as both lists take
pub fits_first : (capacity count other m : ℕ) → m ≡ min (capacity - count) other → count ≤ capacity → count + m ≤ capacity
fits_first capacity count other m e l = grind arith

pub fits_second : (capacity count other m : ℕ) → m ≡ min other (capacity - count) → count ≤ capacity → count + m ≤ capacity
fits_second capacity count other m e l = grind arith

pub fits_both : (a i b j n m : ℕ) → m ≡ min (a - i) (b - j) → i + n ≤ a → j + n ≤ b → n ≤ m
fits_both a i b j n m e k l = grind arith

pub on_ok : {T E P : Type 0} (r : Result T E) → is_err r ≡ false → OnOk r P → P
on_ok (Ok v) e k = k
on_ok (Err v) e k = absurd (true≢false e)

module _ {X M E : Type 0} (vector : M → List ℕ) (value : E → ℤ) (belongs : ℕ → E → Type 0) (ord : Order) (n lim p quotient_room rest_room : ℕ) where
  module _ (h : Held X M E) (k : IsDivideMerge vector value belongs ord n lim p quotient_room rest_room h) where
    roomy : (quotient rest spare : ℕ) → length h.found + spare ≤ quotient → length h.rest + spare ≤ rest → IsDivideMerge vector value belongs ord n lim p quotient rest (record h { spare = spare })
    roomy quotient rest spare a b = record {
      made_for = k.made_for;
      workers = k.workers;
      terms = record {
        found_belongs = k.terms.found_belongs;
        rest_belongs = k.terms.rest_belongs;
        norm_is = k.terms.norm_is;
        room = a;
        rest_fits = b;
      };
      publishing = k.publishing;
      row_room = k.row_room;
      whole = k.whole;
      begun = k.begun;
      cause = pick (answer_of vector value h.over) k.cause;
      counted = k.counted;
    }
      where
        pick : (o : Option Verdict) → IfSome o (λ x. IsFinal x × IsVerdict (divide_state vector value h) (free_places (divide_view vector value h)) h.spare x)
            → IfSome o (λ x. IsFinal x × IsVerdict (divide_state vector value h) (free_places (divide_view vector value h)) spare x)
        pick None c = tt
        pick (Some x) c = (c.0, final_anywhere x (divide_state vector value h) _ _ _ _ c.0 c.1)

    -- with the same terms
    pub reserved : (quotient rest spare : ℕ) (found kept : List (TermOf M E)) → found ≡ h.found → kept ≡ h.rest → length h.found + spare ≤ quotient → length h.rest + spare ≤ rest
        → IsDivideMerge vector value belongs ord n lim p quotient rest (record h { found = found; rest = kept; spare = spare })
    reserved quotient rest spare found kept e f a b =
        subst (λ (ts : List (TermOf M E)). IsDivideMerge vector value belongs ord n lim p quotient rest (record h { found = ts; rest = kept; spare = spare })) (sym e)
        (subst (λ (ts : List (TermOf M E)). IsDivideMerge vector value belongs ord n lim p quotient rest (record h { rest = ts; spare = spare })) (sym f) (roomy quotient rest spare a b))
