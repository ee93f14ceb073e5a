-- The fields of a merge, and what they keep.
use Rattle.std.specs.Prelude.{◌≡◌, ℕ, ◌<◌, ◌^◌, ℤ, List, [], ◌∷◌, ◌++◌, length, map, All, slice_index_or}
use Rattle.sdmp_laws.specs.Order.{Order}
use Rattle.whole_laws.specs.Notes.{Note, EndNote, NoEnd}
use Rattle.whole_laws.specs.Wholes.{MergeState, MergeWhole, notes_of as notes_at}
use Rattle.canonical_terms.specs.View.{sum_of}
use Rattle.canonical_terms.specs.declared.term.TermOf.{TermOf}
use Rattle.term_ring.specs.Spelling.{notes_of}
use Rattle.term_ring.specs.Ends.{taken, tail_seen, empty_looks}
use Rattle.term_ring.specs.declared.ring.Reader.{Reader}
use Rattle.ring_heads.specs.Heads.{plain_heads, HeadBelongs}
use Rattle.term_ring.specs.Names.{reader_name, IsReading, notes_count}
use Rattle.global_heap.specs.Names.{first_product, HasScripts, IsFit}
use Rattle.global_heap.specs.Merges.{MergeView}
use Rattle.ring_heads.specs.declared.head.HeadOf.{HeadOf}
use Rattle.ring_heads.specs.declared.head.HeadOf.TheVariants as head

module _ {X M E : Type 0} where
  abbrev pub reader_notes : (M → List ℕ) → (E → ℤ) → Reader X M E → List Note
  reader_notes vector value r = notes_of vector value (taken r)

  -- what the merge holds, as plain data
  abbrev pub merge_state : (M → List ℕ) → (E → ℤ) → List (Reader X M E) → List (HeadOf M E) → List (TermOf M E) → MergeState
  merge_state vector value readers heads out =
      record {
        product = first_product (map reader_name readers);
        workers = length readers;
        out = sum_of vector value out;
        heads = plain_heads vector value heads;
        taken = map (reader_notes vector value) readers;
      }

  abbrev pub merge_view : (M → List ℕ) → (E → ℤ) → List (Reader X M E) → List (HeadOf M E) → List (TermOf M E) → ℕ → MergeView
  merge_view vector value readers heads out spare =
      record {
        state = merge_state vector value readers heads out;
        rings = map reader_name readers;
        tails = map tail_seen readers;
        looks = map empty_looks readers;
        spare = spare;
      }

-- a worker has ended exactly where its End was taken
abbrev pub HeadFits : {M E : Type 0} → HeadOf M E → List Note → Type 0
HeadFits head.Missing notes = NoEnd notes
HeadFits (head.Term t) notes = NoEnd notes
HeadFits head.Ended notes = (before : List Note) × (notes ≡ before ++ EndNote ∷ [])

-- what a merge keeps
pub record IsMerge {X M E : Type 0} (vector : M → List ℕ) (value : E → ℤ) (belongs : ℕ → E → Type 0) (ord : Order) (n lim p : ℕ) (readers : List (Reader X M E)) (heads : List (HeadOf M E)) (out : List (TermOf M E)) (count : ℕ) : Type 0 where
  pub whole : MergeWhole (merge_state vector value readers heads out)
  pub scripts : HasScripts (first_product (map reader_name readers)) (map reader_name readers)
  pub fit : IsFit lim (first_product (map reader_name readers))
  pub ordered : (first_product (map reader_name readers)).ord ≡ ord
  pub variables : (first_product (map reader_name readers)).n ≡ n
  pub modulus : (first_product (map reader_name readers)).p ≡ p
  pub reading : All IsReading readers
  pub some : 0 < length readers
  pub few : length readers < 2 ^ 32
  pub long : length heads ≡ length readers
  pub each : (w : ℕ) → w < length readers → HeadFits (slice_index_or heads w head.Missing) (notes_at (map (reader_notes vector value) readers) w)
  pub heads_belong : All (HeadBelongs (belongs p)) heads
  pub out_belongs : All (λ t. belongs p t.coef) out
  pub counted : count ≡ notes_count (map (reader_notes vector value) readers)
