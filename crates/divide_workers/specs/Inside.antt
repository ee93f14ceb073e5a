-- The fields of a dividing worker, and what they keep.
use Rattle.std.specs.Prelude.{◌≡◌, ℕ, ◌+◌, ℤ, List, [], ◌∷◌, length, Option, Some, None}
use Rattle.sdmp_laws.specs.Order.{Order}
use Rattle.sdmp_laws.specs.Poly.{Term, lm}
use Rattle.divide_wholes.specs.Row.{row_terms}
use Rattle.divide_wholes.specs.Wholes.{latest_mark}
use Rattle.divide_wholes.specs.Workers.{WorkerState, worker_rows}
use Rattle.canonical_terms.specs.View.{term_of}
use Rattle.canonical_terms.specs.declared.term.TermOf.{TermOf}
use Rattle.row_merge.specs.Learned.{QuotientState}
use Rattle.term_ring.specs.Spelling.{notes_of}
use Rattle.term_ring.specs.Ends.{sent, head_seen, full_looks}
use Rattle.term_ring.specs.Names.{writer_name, IsWriting}
use Rattle.term_ring.specs.declared.ring.Writer.{Writer}
use Rattle.quotient_row.specs.Spelling.{notes_of as row_notes_of}
use Rattle.quotient_row.specs.Ends.{known, count_seen, count_loads, told_published}
use Rattle.quotient_row.specs.declared.row.RowReader.{RowReader}
use Rattle.divide_merge.specs.Names.{script_division, reader_row, IsLooking}
use Rattle.divide_merge.specs.Inside.{vector_of}
use Rattle.divide_workers.specs.Fronts.{plain_front}
use Rattle.divide_workers.specs.Views.{WorkerView, script_workers}
use Rattle.divide_workers.specs.Working.{IsWorking}
use Rattle.divide_workers.specs.declared.front.Front.{Front}
use Rattle.divide_workers.specs.declared.mark.Mark.{Mark}

abbrev pub kept_terms : {M E : Type 0} → (M → List ℕ) → (E → ℤ) → Option (TermOf M E) → List Term
kept_terms vector value None = []
kept_terms vector value (Some t) = term_of vector value t ∷ []

module _ {X M E : Type 0} (vector : M → List ℕ) (value : E → ℤ) where
  abbrev pub state_of : ℕ → QuotientState → Writer X M E → Option (TermOf M E) → WorkerState
  state_of worker rows writer kept =
      record {
        division = script_division (writer_name writer).script;
        workers = script_workers (writer_name writer).script;
        worker = worker;
        known = rows.learned;
        unread = rows.unread;
        kept = kept_terms vector value kept;
        sent = notes_of vector value (sent writer);
      }

  abbrev pub view_of : ℕ → QuotientState → Writer X M E → RowReader X M E → Option (Front M) → Option (TermOf M E) → WorkerView
  view_of worker rows writer reader front kept =
      record {
        state = state_of worker rows writer kept;
        ring = writer_name writer;
        head = head_seen writer;
        full_looks = full_looks writer;
        row = reader_row reader;
        notes = row_notes_of vector value (known reader);
        count = count_seen reader;
        loads = count_loads reader;
        told = row_notes_of vector value (told_published reader);
        front = plain_front vector front;
        spare = rows.spare;
      }

-- a mark as plain data
abbrev pub mark_of : {M : Type 0} → (M → List ℕ) → Mark M → ℕ × Option (List ℕ)
mark_of vector m = (m.known, vector_of vector m.top)

abbrev pub KeptBelongs : {M E : Type 0} → (E → Type 0) → Option (TermOf M E) → Type 0
KeptBelongs belongs None = Unit {0}
KeptBelongs belongs (Some t) = belongs t.coef

-- what they keep beside what holds of every worker: `place` is the number in the quotient of the row's next term
pub record IsSender {X M E : Type 0} (vector : M → List ℕ) (value : E → ℤ) (belongs : ℕ → E → Type 0) (ord : Order) (n lim p : ℕ) (worker : ℕ) (rows : QuotientState) (writer : Writer X M E) (reader : RowReader X M E) (lead : M) (place : ℕ) (front : Option (Front M)) (kept : Option (TermOf M E)) (marked : Mark M) : Type 0 where
  pub working : IsWorking lim (view_of vector value worker rows writer reader front kept)
  pub writing : IsWriting writer
  pub looking : IsLooking reader
  pub ordered : (view_of vector value worker rows writer reader front kept).state.division.ord ≡ ord
  pub variables : (view_of vector value worker rows writer reader front kept).state.division.n ≡ n
  pub modulus : rows.modulus ≡ p
  pub characteristic : (view_of vector value worker rows writer reader front kept).state.division.p ≡ p
  pub divisor : rows.divisor ≡ (view_of vector value worker rows writer reader front kept).state.division.g
  pub rows_are : rows.rows ≡ worker_rows (view_of vector value worker rows writer reader front kept).state
  pub lead_is : vector lead ≡ lm (view_of vector value worker rows writer reader front kept).state.division.g
  pub place_is : place ≡ (view_of vector value worker rows writer reader front kept).row.name.start + length (row_terms (view_of vector value worker rows writer reader front kept).notes)
  pub mark_is : mark_of vector marked ≡ latest_mark (view_of vector value worker rows writer reader front kept).state.sent
  pub kept_belongs : KeptBelongs (belongs p) kept
