-- The fields of a merge of a division, and what they keep.
use Rattle.std.specs.Prelude.{◌≡◌, ◌↔◌, ℕ, ◌+◌, ◌<◌, ◌≤◌, ◌^◌, ℤ, min, List, length, map, drop, All, Option, Some, None, IfSome, slice_index_or}
use Rattle.std.specs.Option.{is_some}
use Rattle.sdmp_laws.specs.Order.{Order}
use Rattle.sdmp_laws.specs.Poly.{norm as norm_of}
use Rattle.sdmp_laws.specs.Canonical.{Polynomial}
use Rattle.whole_laws.specs.Notes.{Note}
use Rattle.whole_laws.specs.Wholes.{notes_of as notes_at}
use Rattle.divide_wholes.specs.Row.{RowNote, row_terms}
use Rattle.divide_wholes.specs.Wholes.{DivideState, latest_mark}
use Rattle.canonical_terms.specs.View.{sum_of}
use Rattle.canonical_terms.specs.declared.term.TermOf.{TermOf}
use Rattle.global_heap.specs.Inside.{reader_notes}
use Rattle.term_ring.specs.Ends.{tail_seen, empty_looks}
use Rattle.term_ring.specs.Names.{RingName, reader_name, IsReading, notes_count}
use Rattle.term_ring.specs.declared.ring.Reader.{Reader}
use Rattle.ring_heads.specs.Heads.{plain_heads, HeadBelongs}
use Rattle.ring_heads.specs.declared.head.HeadOf.{HeadOf}
use Rattle.ring_heads.specs.declared.head.HeadOf.TheVariants as head
use Rattle.quotient_row.specs.Spelling.{notes_of as row_notes_of}
use Rattle.quotient_row.specs.Ends.{published}
use Rattle.quotient_row.specs.declared.row.RowWriter.{RowWriter}
use Rattle.divide_merge.specs.Names.{RowIdentity, writer_row, IsPublishing, first_division, HasScripts, IsFit}
use Rattle.dividing_rounds.specs.Runs.{DivideRun, RunWhole}
use Rattle.divide_merge.specs.Verdicts.{Verdict, IsVerdict, IsFinal}
use Rattle.divide_merge.specs.Divisors.{IsDivisor}
use Rattle.divide_merge.specs.Merges.{DivideView, verdict_of, free_places}
use Rattle.divide_merge.specs.declared.answer.DivideAdvanceOf.{DivideAdvanceOf}
use Rattle.divide_merge.specs.declared.divisor.Divisor.{Divisor}
use Rattle.divide_merge.specs.declared.mark.Mark.{Mark}

-- what a merge holds, with what contracts see of its parts
pub record Held (X M E : Type 0) : Type 0 where
  pub divisor : Divisor M E
  pub dividend : Polynomial
  pub seen : ℕ
  pub readers : List (Reader X M E)
  pub marks : List (Mark M)
  pub heads : List (HeadOf M E)
  pub found : List (TermOf M E)
  pub rest : List (TermOf M E)
  pub norm : ℕ
  pub spare : ℕ
  pub writer : RowWriter X M E
  pub front : Option M
  pub last : Option M
  pub over : Option (DivideAdvanceOf M E)
  pub taken : ℕ
  pub fronts : ℕ
  pub processed : ℕ

module _ {M : Type 0} where
  abbrev pub vector_of : (M → List ℕ) → Option M → Option (List ℕ)
  vector_of vector None = None
  vector_of vector (Some m) = Some (vector m)

module _ {M E : Type 0} where
  abbrev pub answer_of : (M → List ℕ) → (E → ℤ) → Option (DivideAdvanceOf M E) → Option Verdict
  answer_of vector value None = None
  answer_of vector value (Some x) = Some (verdict_of vector value x)

  -- no worker of a division ends
  abbrev pub NotEnded : HeadOf M E → Type 0
  NotEnded head.Missing = Unit {0}
  NotEnded (head.Term t) = Unit {0}
  NotEnded head.Ended = ⊥

module _ {X M E : Type 0} (vector : M → List ℕ) (value : E → ℤ) where
  abbrev pub taken_notes : List (Reader X M E) → List (List Note)
  taken_notes readers = map (reader_notes vector value) readers

  abbrev pub published_notes : RowWriter X M E → List RowNote
  published_notes w = row_notes_of vector value (published w)

  -- what the merge holds, as plain data
  abbrev pub divide_state : Held X M E → DivideState
  divide_state h =
      record {
        division = first_division (map reader_name h.readers);
        workers = length h.readers;
        q = sum_of vector value h.found;
        r = sum_of vector value h.rest;
        unread = drop h.seen h.dividend.list;
        heads = plain_heads vector value h.heads;
        taken = taken_notes h.readers;
        last = vector_of vector h.last;
        front = vector_of vector h.front;
        start = (writer_row h.writer).name.start;
        published = row_terms (published_notes h.writer);
      }

  abbrev pub divide_run : Held X M E → DivideRun
  divide_run h =
      record {
        state = divide_state h;
        notes = published_notes h.writer;
        fronts_count = h.fronts;
        processed_count = h.processed;
        over = is_some (answer_of vector value h.over);
      }

  abbrev pub divide_view : Held X M E → DivideView
  divide_view h =
      record {
        run = divide_run h;
        answer = answer_of vector value h.over;
        spare = h.spare;
        rings = map reader_name h.readers;
        tails = map tail_seen h.readers;
        looks = map empty_looks h.readers;
        row = writer_row h.writer;
      }

-- the mark is the latest one of its worker
pub record IsLatest {M : Type 0} (vector : M → List ℕ) (m : Mark M) (latest : ℕ × Option (List ℕ)) : Type 0 where
  pub known : m.known ≡ latest.0
  pub top : vector_of vector m.top ≡ latest.1

-- of the division that these rings are of: the rings, the row, and what the merge keeps of it
pub record IsMadeFor {M E : Type 0} (vector : M → List ℕ) (value : E → ℤ) (belongs : ℕ → E → Type 0) (ord : Order) (n lim p : ℕ) (divisor : Divisor M E) (dividend : Polynomial) (row : RowIdentity) (rings : List RingName) : Type 0 where
  pub scripts : HasScripts (first_division rings) rings
  pub fit : IsFit lim (first_division rings)
  pub ordered : (first_division rings).ord ≡ ord
  pub variables : (first_division rings).n ≡ n
  pub modulus : (first_division rings).p ≡ p
  pub row_division : row.name.division ≡ first_division rings
  pub divisor_is : IsDivisor vector value (belongs p) lim (first_division rings) divisor
  pub dividend_is : dividend ≡ record { modulus = p; list = (first_division rings).f }

-- of each worker: its reader, its head and its latest mark
pub record HasWorkers {X M E : Type 0} (vector : M → List ℕ) (value : E → ℤ) (Belongs : E → Type 0) (readers : List (Reader X M E)) (heads : List (HeadOf M E)) (marks : List (Mark M)) : Type 0 where
  pub some : 0 < length readers
  pub few : length readers < 2 ^ 32
  pub reading : All IsReading readers
  pub heads_long : length heads ≡ length readers
  pub not_ended : All NotEnded heads
  pub heads_belong : All (HeadBelongs Belongs) heads
  pub marks_long : length marks ≡ length readers
  pub marks_are : (w : ℕ) (d : Mark M) → w < length readers → IsLatest vector (slice_index_or marks w d) (latest_mark (notes_at (taken_notes vector value readers) w))

-- of the terms that are found, with room for so many of the quotient and of the remainder
pub record HasTerms {M E : Type 0} (vector : M → List ℕ) (value : E → ℤ) (Belongs : E → Type 0) (p quotient_room rest_room : ℕ) (found rest : List (TermOf M E)) (norm spare : ℕ) : Type 0 where
  pub found_belongs : All (λ t. Belongs t.coef) found
  pub rest_belongs : All (λ t. Belongs t.coef) rest
  pub norm_is : p ≡ 0 → norm ≡ norm_of (sum_of vector value found)
  pub room : length found + spare ≤ quotient_room
  pub rest_fits : length rest + spare ≤ rest_room

-- what a merge keeps, with room for so many terms of the quotient and of the remainder
pub record IsDivideMerge {X M E : Type 0} (vector : M → List ℕ) (value : E → ℤ) (belongs : ℕ → E → Type 0) (ord : Order) (n lim p quotient_room rest_room : ℕ) (h : Held X M E) : Type 0 where
  pub made_for : IsMadeFor vector value belongs ord n lim p h.divisor h.dividend (writer_row h.writer) (map reader_name h.readers)
  pub workers : HasWorkers vector value (belongs p) h.readers h.heads h.marks
  pub terms : HasTerms vector value (belongs p) p quotient_room rest_room h.found h.rest h.norm h.spare
  pub publishing : IsPublishing h.writer
  pub row_room : length (published_notes vector value h.writer) ≤ (writer_row h.writer).places
  pub whole : RunWhole (divide_run vector value h)
  -- there is a front exactly where a note of the run was published
  pub begun : vector_of vector h.front ≡ None ↔ (length (sum_of vector value h.found) + h.fronts ≡ 0)
  pub cause : IfSome (answer_of vector value h.over) (λ x. IsFinal x × IsVerdict (divide_state vector value h) (free_places (divide_view vector value h)) h.spare x)
  pub counted : h.taken ≡ min (notes_count (taken_notes vector value h.readers)) 18446744073709551615
