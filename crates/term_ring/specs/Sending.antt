-- What a worker has sent, and what a call adds to it.
use Rattle.std.specs.Prelude.{◌≡◌, ℕ, ℤ, ◌<◌, ◌≤◌, Bool, true, false, List, [], ◌∷◌, ◌++◌, length, map, slice_index_or}
use mathlib.Core.List.{IsPrefix}
use Rattle.sdmp_laws.specs.Poly.{Term}
use Rattle.whole_laws.specs.Notes.{Note, TermNote, EndNote, Script, script_list}
use Rattle.term_ring.specs.Spelling.{notes_of}
use Rattle.term_ring.specs.Ends.{sent, head_seen, full_looks}
use Rattle.term_ring.specs.declared.ring.Writer.{Writer}
use Rattle.term_ring.specs.declared.note.NoteOf.{NoteOf}
use Rattle.term_ring.specs.declared.note.NoteOf.TheVariants as note
use Rattle.term_ring.specs.Rule.{LeavesNoRoom}
use Rattle.term_ring.specs.Names.{RingName, writer_name}
use Rattle.whole_laws.specs.Wholes.{notes_of as notes_at}

-- the ring of its writer, its number, the notes that it sent, the head that the writer saw last, and how often it loaded the head and found no room
pub record SenderView : Type 0 where
  pub ring : RingName
  pub worker : ℕ
  pub sent : List Note
  pub head : ℕ
  pub full_looks : ℕ

abbrev pub sender_view : {X M E : Type 0} → (M → List ℕ) → (E → ℤ) → ℕ → Writer X M E → SenderView
sender_view vector value worker w = record { ring = writer_name w; worker = worker; sent = notes_of vector value (sent w); head = head_seen w; full_looks = full_looks w }

-- the terms of the script, and then the end
abbrev pub whole_script : Script → List Note
whole_script s = map (λ (t : Term). TermNote t) (script_list s) ++ EndNote ∷ []

-- all is sent
abbrev pub IsSentWhole : SenderView → Type 0
IsSentWhole s = s.sent ≡ whole_script s.ring.script

-- why its last push was refused: when the head was loaded each place held a note that wasn't taken, or 2^63 notes were sent
abbrev pub IsRefused : SenderView → Type 0
IsRefused s = LeavesNoRoom s.head s.ring.places (length s.sent)

-- notes were sent
pub record Sends (a b : SenderView) : Type 0 where
  pub ring : b.ring ≡ a.ring
  pub worker : b.worker ≡ a.worker
  pub sent : IsPrefix a.sent b.sent
  pub head : a.head ≤ b.head

-- in between the writer loaded the head and found no room, as a refused push does
abbrev pub WasRefused : SenderView → SenderView → Type 0
WasRefused a b = a.full_looks < b.full_looks

-- its ring is the one of its number among the rings with these names
pub record IsAmong (names : List RingName) (s : SenderView) : Type 0 where
  pub number : s.worker < length names
  pub ring : (d : RingName) → slice_index_or names s.worker d ≡ s.ring

-- its writer and the reader of its ring have met, and nothing was taken since; all readers have taken these notes and seen these tails
pub record HasMet (all_taken : List (List Note)) (tails : List ℕ) (s : SenderView) : Type 0 where
  pub taken : IsPrefix (notes_at all_taken s.worker) s.sent
  pub writer_seen : length (notes_at all_taken s.worker) ≤ s.head
  pub reader_seen : length s.sent ≤ slice_index_or tails s.worker 0

-- whether a note is the end
abbrev pub is_end : {M E : Type 0} → NoteOf M E → Bool
is_end (note.Term t) = false
is_end (note.Mark known top) = false
is_end note.End = true
