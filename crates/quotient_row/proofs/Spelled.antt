-- A note has one spelling.
use Rattle.std.proofs.Common.{◌≡◌, ℕ, List, [], ◌∷◌, ◌++◌, length, get_or, sym, ap, ◌∙◌, refl, arith}
use Rattle.canonical_terms.specs.declared.term.TermOf.{TermOf}
use Rattle.term_ring.proofs.Spelled.{cut, unlike, five_are}
use Rattle.quotient_row.specs.declared.note.RowNoteOf.{RowNoteOf}
use Rattle.quotient_row.specs.declared.note.RowNoteOf.TheVariants.{Term, Front}
use Rattle.quotient_row.specs.Spelling.{words_of, Belongs}

pub four_are : (l : List ℕ) (x : ℕ) → length l ≡ 4 → get_or l 0 0 ∷ get_or l 1 0 ∷ get_or l 2 0 ∷ get_or l 3 0 ∷ x ∷ [] ≡ l ++ x ∷ []
four_are [] x e = absurd (omega arith)
four_are (a ∷ []) x e = absurd (omega arith)
four_are (a ∷ b ∷ []) x e = absurd (omega arith)
four_are (a ∷ b ∷ c ∷ []) x e = absurd (omega arith)
four_are (a ∷ b ∷ c ∷ d ∷ []) x e = refl
four_are (a ∷ b ∷ c ∷ d ∷ f ∷ l) x e = absurd (omega arith)

module _ {M E : Type 0} (mono : M → List ℕ) (coef : E → List ℕ) (belongs : E → Type 0) (two : (m : M) → length (mono m) ≡ 2) where
  -- what the words of a Term are
  pub term_at : (bits : List ℕ) (x : RowNoteOf M E) → length bits ≡ 5 → get_or bits 0 0 ≡ 1 → Belongs belongs x → bits ≡ words_of mono coef x
      → (t : TermOf M E) × (x ≡ Term t) × belongs t.coef × (mono t.mono ≡ get_or bits 1 0 ∷ get_or bits 2 0 ∷ []) × (coef t.coef ≡ get_or bits 3 0 ∷ get_or bits 4 0 ∷ [])
  term_at bits (Term t) long is f h =
      let tail : mono t.mono ++ coef t.coef ≡ (get_or bits 1 0 ∷ get_or bits 2 0 ∷ []) ++ (get_or bits 3 0 ∷ get_or bits 4 0 ∷ []) = cc (h, five_are bits long) in
      let r = cut (mono t.mono) (coef t.coef) (get_or bits 1 0 ∷ get_or bits 2 0 ∷ []) (get_or bits 3 0 ∷ get_or bits 4 0 ∷ []) (two t.mono) tail in (t, refl, f, r.0, r.1)
  term_at bits (Front m) long is f h = absurd (unlike _ _ h (λ e. omega arith))

  -- what the words of another note are
  pub front_at : (bits : List ℕ) (x : RowNoteOf M E) → length bits ≡ 5 → (get_or bits 0 0 ≡ 1 → ⊥) → bits ≡ words_of mono coef x
      → (m : M) × (x ≡ Front m) × (mono m ≡ get_or bits 1 0 ∷ get_or bits 2 0 ∷ [])
  front_at bits (Term t) long other h = absurd (other (ap (λ (z : List ℕ). get_or z 0 0) h))
  front_at bits (Front m) long other h =
      let tail : mono m ++ 0 ∷ 0 ∷ [] ≡ (get_or bits 1 0 ∷ get_or bits 2 0 ∷ []) ++ (get_or bits 3 0 ∷ get_or bits 4 0 ∷ []) = cc (h, five_are bits long) in
      let r = cut (mono m) (0 ∷ 0 ∷ []) (get_or bits 1 0 ∷ get_or bits 2 0 ∷ []) (get_or bits 3 0 ∷ get_or bits 4 0 ∷ []) (two m) tail in (m, refl, r.0)

  -- the monomial of a note
  pub mono_at : (bits : List ℕ) (x : RowNoteOf M E) → length bits ≡ 5 → bits ≡ words_of mono coef x → (m : M) × (mono m ≡ get_or bits 1 0 ∷ get_or bits 2 0 ∷ [])
  mono_at bits (Term t) long h =
      let tail : mono t.mono ++ coef t.coef ≡ (get_or bits 1 0 ∷ get_or bits 2 0 ∷ []) ++ (get_or bits 3 0 ∷ get_or bits 4 0 ∷ []) = cc (h, five_are bits long) in
      let r = cut (mono t.mono) (coef t.coef) (get_or bits 1 0 ∷ get_or bits 2 0 ∷ []) (get_or bits 3 0 ∷ get_or bits 4 0 ∷ []) (two t.mono) tail in (t.mono, r.0)
  mono_at bits (Front m) long h =
      let tail : mono m ++ 0 ∷ 0 ∷ [] ≡ (get_or bits 1 0 ∷ get_or bits 2 0 ∷ []) ++ (get_or bits 3 0 ∷ get_or bits 4 0 ∷ []) = cc (h, five_are bits long) in
      let r = cut (mono m) (0 ∷ 0 ∷ []) (get_or bits 1 0 ∷ get_or bits 2 0 ∷ []) (get_or bits 3 0 ∷ get_or bits 4 0 ∷ []) (two m) tail in (m, r.0)

  module _ (one_mono : (a b : M) → mono a ≡ mono b → a ≡ b) (one_coef : (a b : E) → belongs a → belongs b → coef a ≡ coef b → a ≡ b) where
    -- notes with the same words are the same
    pub one_note : (x y : RowNoteOf M E) → Belongs belongs x → Belongs belongs y → words_of mono coef x ≡ words_of mono coef y → x ≡ y
    one_note (Term t) (Term u) f g h =
        let tail : mono t.mono ++ coef t.coef ≡ mono u.mono ++ coef u.coef = cc h in
        let r = cut (mono t.mono) (coef t.coef) (mono u.mono) (coef u.coef) (two t.mono ∙ sym (two u.mono)) tail in
        let p = one_mono t.mono u.mono r.0 in let q = one_coef t.coef u.coef f g r.1 in λ i. Term record { mono = p i; coef = q i }
    one_note (Front m) (Front n) f g h =
        let tail : mono m ++ 0 ∷ 0 ∷ [] ≡ mono n ++ 0 ∷ 0 ∷ [] = cc h in
        let r = cut (mono m) (0 ∷ 0 ∷ []) (mono n) (0 ∷ 0 ∷ []) (two m ∙ sym (two n)) tail in let p = one_mono m n r.0 in λ i. Front (p i)
    one_note (Term t) (Front n) f g h = absurd (unlike _ _ h (λ e. omega arith))
    one_note (Front m) (Term u) f g h = absurd (unlike _ _ h (λ e. omega arith))
