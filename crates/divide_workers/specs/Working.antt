-- What always holds of a dividing worker.
use Rattle.std.specs.Prelude.{◌≡◌, ◌≢◌, ℕ, ◌+◌, ◌≤◌, List, [], ◌++◌, length, None}
use Rattle.sdmp_laws.specs.Poly.{Term}
use Rattle.sdmp_laws.specs.LongDivision.{quotient_list}
use Rattle.sdmp_laws.specs.Limits.{PassesBound}
use Rattle.divide_wholes.specs.Row.{RowCarry, row_terms, front_after}
use Rattle.divide_wholes.specs.Workers.{WorkerWhole, worker_script}
use Rattle.divide_merge.specs.Names.{IsFit}
use Rattle.dividing_rounds.specs.Stalls.{IsLowered}
use Rattle.divide_workers.specs.Fronts.{front_mono, IsAhead}
use Rattle.divide_workers.specs.Paying.{HasRows, HasPaid}
use Rattle.divide_workers.specs.Views.{WorkerView}

pub record IsWorking (lim : ℕ) (v : WorkerView) : Type 0 where
  pub whole : WorkerWhole v.state
  pub fit : IsFit lim v.state.division
  pub script : v.ring.script ≡ worker_script v.state
  pub row_division : v.row.name.division ≡ v.state.division
  pub within : PassesBound v.state.division v.state.known → ⊥
  -- no quotient term that it doesn't know passes its front, which is at that of the row or below
  pub ahead : (later : List Term) → v.state.known ++ later ≡ quotient_list v.state.division → IsAhead v.state.division v.front later
  pub carried : RowCarry v.state.division v.row.name.start v.notes
  pub lowest : IsLowered v.state.division.ord (front_mono v.front) (front_after v.state.division None v.notes)
  pub fronted : v.state.known ≢ [] → v.front ≢ None
  -- it has learned the terms that it knows of the row
  pub enough : HasRows v.state → v.row.name.start + length (row_terms v.notes) ≤ length v.state.known
  pub paid : HasPaid v.state v.front

-- its rows have room for each note that the row may still tell
abbrev pub HasRoom : WorkerView → Type 0
HasRoom v = HasRows v.state → v.row.places ≤ length v.notes + v.spare
