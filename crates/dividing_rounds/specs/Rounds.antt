-- How much a run of a division's merge does at most, and so how many rounds it takes.
use Rattle.std.specs.Prelude.{◌≡◌, ℕ, ◌+◌, ◌*◌, ◌^◌, ◌<◌, ◌≤◌, List, length, sum_by}
use Rattle.sdmp_laws.specs.Poly.{Term}
use Rattle.sdmp_laws.specs.Division.{Division}
use Rattle.sdmp_laws.specs.LongDivision.{quotient_list}
use Rattle.whole_laws.specs.Notes.{Note}
use Rattle.dividing_rounds.specs.Counting.{NotesFit}
use Rattle.dividing_rounds.specs.Runs.{DivideRun, RunWhole, workload_count, run_take, run_zero, run_rest, run_found, run_front, run_row}

-- how much was done: the notes taken, the quotient terms found, the fronts published and the monomials processed
unfoldable pub progress : DivideRun → ℕ
progress r = sum_by (λ notes. length notes) r.state.taken + length r.state.q + r.fronts_count + r.processed_count

-- each step raises it, and a new row leaves it
abbrev pub ProgressRises : Type 0
ProgressRises =
    (r : DivideRun) →
    ((w : ℕ) (n : Note) → w < length r.state.taken → progress (run_take r w n) ≡ progress r + 1)
    × ((x : List ℕ) → progress (run_zero r x) ≡ progress r + 1)
    × ((x : List ℕ) → progress (run_rest r x) ≡ progress r + 1)
    × ((x : List ℕ) (t : Term) → progress (run_found r x t) ≡ progress r + 2)
    × ((y : List ℕ) → progress (run_front r y) ≡ progress r + 1)
    × (progress (run_row r) ≡ progress r)

-- ---- the bound
-- 1 + 4*P + n + W*(n + 1), with P = |f| + n*(|g| - 1)
unfoldable pub most_rounds : Division → ℕ → ℕ → ℕ
most_rounds d W n = 1 + 4 * workload_count d n + n + W * (n + 1)

-- where the workers' notes fit, progress is below the bound
abbrev pub ProgressFits : Type 0
ProgressFits =
    (r : DivideRun) → 0 < r.state.workers → RunWhole r → ((w : ℕ) → w < r.state.workers → NotesFit r.state w) →
    progress r < most_rounds r.state.division r.state.workers (length r.state.q)

-- and it fits in a word of 64 bits, where neither factor has 2^30 terms
abbrev pub ProgressSmall : Type 0
ProgressSmall =
    (r : DivideRun) → 0 < r.state.workers → r.state.workers < 2 ^ 32 → RunWhole r → ((w : ℕ) → w < r.state.workers → NotesFit r.state w) →
    length r.state.division.f < 2 ^ 30 → length r.state.division.g < 2 ^ 30 → progress r < 2 ^ 64

-- where each of the rounds but the last raised progress, and all quotient terms were found, the rounds are within the bound
abbrev pub RoundsFit : Type 0
RoundsFit =
    (r : DivideRun) (rounds : ℕ) → 0 < r.state.workers → RunWhole r → ((w : ℕ) → w < r.state.workers → NotesFit r.state w) →
    r.state.q ≡ quotient_list r.state.division → rounds ≤ progress r + 1 →
    rounds ≤ most_rounds r.state.division r.state.workers (length (quotient_list r.state.division))
