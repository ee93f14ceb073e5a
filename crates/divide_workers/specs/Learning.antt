-- How a note of the row is taken in.
use Rattle.std.specs.Prelude.{◌≡◌, ℕ, ◌+◌, ◌*◌, ◌<◌, ◌≤◌, true, false, ℤ, List, [], ◌∷◌, ◌++◌, length, IsPermutation}
use Rattle.sdmp_laws.specs.Order.{Order, ◌⋅◌, degree}
use Rattle.sdmp_laws.specs.Poly.{norm, row, Decreasing, lm}
use Rattle.sdmp_laws.specs.Limits.{greatest_norm}
use Rattle.canonical_terms.specs.View.{term_of}
use Rattle.canonical_terms.specs.declared.term.TermOf.{TermOf}
use Rattle.row_merge.specs.Learned.{QuotientState}
use Rattle.quotient_row.specs.declared.note.RowNoteOf.{RowNoteOf}
use Rattle.quotient_row.specs.declared.note.RowNoteOf.TheVariants as note
use Rattle.divide_workers.specs.Fronts.{front_of}
use Rattle.divide_workers.specs.declared.front.Front.{Front}

module _ {M E : Type 0} (vector : M → List ℕ) (value : E → ℤ) where
  -- the rows may learn the term t
  pub record MayLearn (belongs : E → Type 0) (ord : Order) (lim : ℕ) (rows : QuotientState) (t : TermOf M E) : Type 0 where
    pub room : 0 < rows.spare
    pub belonging : belongs t.coef
    pub falls : Decreasing ord (rows.learned ++ term_of vector value t ∷ [])
    pub low : degree (vector t.mono) + degree (lm rows.divisor) ≤ lim
    pub fits : rows.modulus ≡ 0 → norm (rows.learned ++ term_of vector value t ∷ []) * norm rows.divisor ≤ greatest_norm

  -- and have learned it
  pub record Learns (a b : QuotientState) (t : TermOf M E) : Type 0 where
    pub learned : b.learned ≡ a.learned ++ term_of vector value t ∷ []
    pub unread : IsPermutation (a.unread ++ row (term_of vector value t) a.rows) b.unread
    pub spare : a.spare ≡ b.spare + 1
    pub same : b ≡ record a { learned = b.learned; unread = b.unread; spare = b.spare }

  -- the term with this number is known, or may be learned
  pub record CanLearn (belongs : ℕ → E → Type 0) (ord : Order) (lim : ℕ) (rows : QuotientState) (place : ℕ) (t : TermOf M E) : Type 0 where
    pub reached : place ≤ length rows.learned
    pub next : place ≡ length rows.learned → MayLearn (belongs rows.modulus) ord lim rows t

  pub record LearnsOnce (a b : QuotientState) (place : ℕ) (t : TermOf M E) : Type 0 where
    pub next : place ≡ length a.learned → Learns a b t
    pub known : place < length a.learned → b ≡ a

  -- the note may be taken in, where the row's next term has this number
  abbrev pub CanTakeIn : (ℕ → E → Type 0) → Order → ℕ → QuotientState → ℕ → M → RowNoteOf M E → Type 0
  CanTakeIn belongs ord lim rows place lead (note.Term t) =
      CanLearn belongs ord lim rows place t × (degree (vector t.mono) ≤ lim) × (degree (vector lead) ≤ lim) × (place + 1 < 18446744073709551616)
  CanTakeIn belongs ord lim rows place lead (note.Front m) = Unit {0}

  -- the note is taken in, and tells the front
  abbrev pub TakesIn : QuotientState → QuotientState → ℕ → ℕ → M → RowNoteOf M E → Front M → Type 0
  TakesIn a b place next lead (note.Term t) front =
      LearnsOnce a b place t × (next ≡ place + 1) × (front_of vector front ≡ record { mono = vector t.mono ⋅ vector lead; is_strict = true })
  TakesIn a b place next lead (note.Front m) front =
      (b ≡ a) × (next ≡ place) × (front_of vector front ≡ record { mono = vector m; is_strict = false })
