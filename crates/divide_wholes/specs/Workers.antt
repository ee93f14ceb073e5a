-- What a dividing worker holds, said of plain lists, and the notes that it may send.
use Rattle.std.specs.Prelude.{◌≡◌, ℕ, ℤ, ◌<◌, ◌≤◌, ◌⊎◌, true, cond, List, [], ◌∷◌, ◌++◌, length, take, Option, Some, None, pos, All, IsPermutation}
use mathlib.Core.List.{IsPrefix}
use Rattle.sdmp_laws.specs.Order.{Order}
use Rattle.sdmp_laws.specs.Poly.{Term, coef, Same, row, times, minus, is_zero, AllBelow}
use Rattle.sdmp_laws.specs.Division.{Division, IsAccepted, AllAtOrBelow}
use Rattle.sdmp_laws.specs.LongDivision.{quotient_list}
use Rattle.whole_laws.specs.Notes.{Note, TermNote, MarkNote, Script, QuotientScript, divisor_rows, script_list, terms_in, has, IsProductMonomial, AboveTop, TopFalls, TopIsProduct, MayFollow, Carry}
use Rattle.divide_wholes.specs.Wholes.{IsBeyond, latest_mark}

-- a mark (k, b) rises above the mark (j, a): it knows more, or as much with a lower top
unfoldable pub MarkRises : Order → ℕ × Option (List ℕ) → ℕ → Option (List ℕ) → Type 0
MarkRises ord old known top = (old.0 < known) ⊎ ((old.0 ≡ known) × TopFalls ord old.1 top)

-- a mark is legal that counts the known terms of the quotient, where above its top the known products less the terms sent have no coefficient, and that rises above the latest mark
abbrev pub MarkFollows : Type 0
MarkFollows =
    (d : Division) (W w : ℕ) (known : List Term) (top : Option (List ℕ)) (notes : List Note) →
    IsPrefix known (quotient_list d) → Carry (QuotientScript d W w) notes → TopIsProduct known (divisor_rows d.g W w) top →
    ((m : List ℕ) → length m ≡ d.n → AboveTop d.ord top m → coef d.p (minus (times known (divisor_rows d.g W w)) (terms_in notes)) m ≡ pos 0) →
    MarkRises d.ord (latest_mark notes) (length known) top →
    MayFollow (QuotientScript d W w) notes (MarkNote (length known) top)

-- what a ring's latest mark says: it counts quotient terms, and its top is that of a product of them
abbrev pub LatestMark : Type 0
LatestMark =
    (d : Division) (W w : ℕ) (notes : List Note) → Carry (QuotientScript d W w) notes →
    ((latest_mark notes).0 ≤ length (quotient_list d)) × TopIsProduct (take (latest_mark notes).0 (quotient_list d)) (divisor_rows d.g W w) (latest_mark notes).1

-- what the dividing worker w of W holds: the quotient terms that it knows, their products with its rows, which are terms of the divisor, that it hasn't handed out, the term that it has yet to send if there is one, and the notes that it sent
pub record WorkerState : Type 0 where
  pub division : Division
  pub workers : ℕ
  pub worker : ℕ
  pub known : List Term
  pub unread : List Term
  pub kept : List Term
  pub sent : List Note

unfoldable pub worker_rows : WorkerState → List Term
worker_rows s = divisor_rows s.division.g s.workers s.worker

unfoldable pub worker_script : WorkerState → Script
worker_script s = QuotientScript s.division s.workers s.worker

-- the whole of a dividing worker
pub record WorkerWhole (s : WorkerState) : Type 0 where
  pub knows : IsPrefix s.known (quotient_list s.division)
  pub carried : Carry (worker_script s) s.sent
  -- what it hasn't handed out is what it knows less what it sent and keeps
  pub sum : Same s.division.p s.unread (minus (times s.known (worker_rows s)) (terms_in s.sent ++ s.kept))
  -- each monomial that it hasn't handed out is that of a known product
  pub products : All (λ t. IsProductMonomial s.known (worker_rows s) t.monomial) s.unread
  pub next : IsPrefix (terms_in s.sent ++ s.kept) (script_list (worker_script s))

-- the greatest monomial of U, and None where there is none
unfoldable pub IsUnreadTop : Order → List Term → Option (List ℕ) → Type 0
IsUnreadTop ord U None = U ≡ []
IsUnreadTop ord U (Some m) = (has m U ≡ true) × AllAtOrBelow ord m U

-- the term c at x, unless c is zero
unfoldable pub sum_at : ℤ → List ℕ → List Term
sum_at c x = cond (is_zero c) [] (record { monomial = x; coefficient = c } ∷ [])

-- ---- a worker stays whole
-- at first
abbrev pub WorkerStart : Type 0
WorkerStart = (d : Division) (W w : ℕ) → WorkerWhole (record { division = d; workers = W; worker = w; known = []; unread = []; kept = []; sent = [] })

-- where it learns the next quotient term
abbrev pub WorkerLearn : Type 0
WorkerLearn =
    (s : WorkerState) (t : Term) (unread : List Term) → WorkerWhole s → IsPrefix (s.known ++ t ∷ []) (quotient_list s.division) →
    IsPermutation (s.unread ++ row t (worker_rows s)) unread → WorkerWhole (record s { known = s.known ++ t ∷ []; unread = unread })

-- where it hands out its products at their greatest monomial x, and keeps their sum unless that is zero: it may where x is beyond its frontier
abbrev pub WorkerHand : Type 0
WorkerHand =
    (s : WorkerState) (x : List ℕ) (taken unread later : List Term) (front : List ℕ) → IsAccepted s.division → WorkerWhole s → s.kept ≡ [] →
    length x ≡ s.division.n → IsPermutation s.unread (taken ++ unread) → All (λ t. t.monomial ≡ x) taken → AllBelow s.division.ord x unread →
    s.known ++ later ≡ quotient_list s.division → length front ≡ s.division.n → IsBeyond s.division (worker_rows s) front later x →
    WorkerWhole (record s { unread = unread; kept = sum_at (coef s.division.p s.unread x) x })

-- where it sends the term that it keeps, which may be sent
abbrev pub WorkerSend : Type 0
WorkerSend =
    (s : WorkerState) (t : Term) → WorkerWhole s → s.kept ≡ t ∷ [] →
    MayFollow (worker_script s) s.sent (TermNote t) × WorkerWhole (record s { kept = []; sent = s.sent ++ TermNote t ∷ [] })

-- where it sends a mark of what it knows, which may be sent where it keeps no term and the mark rises above its latest one
abbrev pub WorkerMark : Type 0
WorkerMark =
    (s : WorkerState) (top : Option (List ℕ)) → WorkerWhole s → s.kept ≡ [] → IsUnreadTop s.division.ord s.unread top →
    MarkRises s.division.ord (latest_mark s.sent) (length s.known) top →
    MayFollow (worker_script s) s.sent (MarkNote (length s.known) top) × WorkerWhole (record s { sent = s.sent ++ MarkNote (length s.known) top ∷ [] })
