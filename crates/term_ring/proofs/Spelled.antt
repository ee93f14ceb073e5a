-- A note has one spelling.
use Rattle.std.proofs.Common.{◌≡◌, ℕ, List, [], ◌∷◌, ◌++◌, length, get_or, Some, None, sym, ap, ◌∙◌, refl, arith}
use Rattle.term_ring.specs.declared.note.NoteOf.{NoteOf}
use Rattle.canonical_terms.specs.declared.term.TermOf.{TermOf}
use Rattle.term_ring.specs.declared.note.NoteOf.TheVariants.{Term, Mark, End}
use Rattle.term_ring.specs.Spelling.{words_of, Belongs}

-- two lists that begin with parts of one length
pub cut : (a b c d : List ℕ) → length a ≡ length c → a ++ b ≡ c ++ d → (a ≡ c) × (b ≡ d)
cut [] b [] d e h = (refl, h)
cut [] b (y ∷ ys) d e h = absurd (omega arith)
cut (x ∷ xs) b [] d e h = absurd (omega arith)
cut (x ∷ xs) b (y ∷ ys) d e h = let p : x ≡ y = cc h in let q : xs ++ b ≡ ys ++ d = cc h in let r = cut xs b ys d (omega arith) q in ((λ i. p i ∷ r.0 i), r.1)

pub unlike : (l m : List ℕ) → l ≡ m → (get_or l 0 0 ≡ get_or m 0 0 → ⊥) → ⊥
unlike l m h differ = differ (ap (λ (x : List ℕ). get_or x 0 0) h)

pub five_are : (l : List ℕ) → length l ≡ 5 → l ≡ get_or l 0 0 ∷ get_or l 1 0 ∷ get_or l 2 0 ∷ get_or l 3 0 ∷ get_or l 4 0 ∷ []
five_are [] e = absurd (omega arith)
five_are (a ∷ []) e = absurd (omega arith)
five_are (a ∷ b ∷ []) e = absurd (omega arith)
five_are (a ∷ b ∷ c ∷ []) e = absurd (omega arith)
five_are (a ∷ b ∷ c ∷ d ∷ []) e = absurd (omega arith)
five_are (a ∷ b ∷ c ∷ d ∷ f ∷ []) e = refl
five_are (a ∷ b ∷ c ∷ d ∷ f ∷ g ∷ l) e = absurd (omega arith)

module _ {M E : Type 0} (mono : M → List ℕ) (coef : E → List ℕ) (belongs : E → Type 0) (two : (m : M) → length (mono m) ≡ 2) where
  -- what the words of a Term are
  pub term_at : (bits : List ℕ) (x : NoteOf M E) → length bits ≡ 5 → get_or bits 0 0 ≡ 1 → Belongs belongs x → bits ≡ words_of mono coef x
      → (t : TermOf M E) × (x ≡ Term t) × belongs t.coef × (mono t.mono ≡ get_or bits 1 0 ∷ get_or bits 2 0 ∷ []) × (coef t.coef ≡ get_or bits 3 0 ∷ get_or bits 4 0 ∷ [])
  term_at bits (Term t) long is f h =
      let tail : mono t.mono ++ coef t.coef ≡ (get_or bits 1 0 ∷ get_or bits 2 0 ∷ []) ++ (get_or bits 3 0 ∷ get_or bits 4 0 ∷ []) = cc (h, five_are bits long) in
      let r = cut (mono t.mono) (coef t.coef) (get_or bits 1 0 ∷ get_or bits 2 0 ∷ []) (get_or bits 3 0 ∷ get_or bits 4 0 ∷ []) (two t.mono) tail in (t, refl, f, r.0, r.1)
  term_at bits (Mark k None) long is f h = absurd (unlike _ _ h (λ e. omega arith))
  term_at bits (Mark k (Some m)) long is f h = absurd (unlike _ _ h (λ e. omega arith))
  term_at bits End long is f h = absurd (unlike _ _ h (λ e. omega arith))

  -- what the words of a Mark with a top are
  pub mark_at : (bits : List ℕ) (x : NoteOf M E) → length bits ≡ 5 → get_or bits 0 0 ≡ 3 → bits ≡ words_of mono coef x
      → (m : M) × (x ≡ Mark (get_or bits 3 0) (Some m)) × (mono m ≡ get_or bits 1 0 ∷ get_or bits 2 0 ∷ [])
  mark_at bits (Mark k (Some m)) long is h =
      let tail : mono m ++ k ∷ 0 ∷ [] ≡ (get_or bits 1 0 ∷ get_or bits 2 0 ∷ []) ++ (get_or bits 3 0 ∷ get_or bits 4 0 ∷ []) = cc (h, five_are bits long) in
      let r = cut (mono m) (k ∷ 0 ∷ []) (get_or bits 1 0 ∷ get_or bits 2 0 ∷ []) (get_or bits 3 0 ∷ get_or bits 4 0 ∷ []) (two m) tail in
      let p : k ≡ get_or bits 3 0 = cc r.1 in (m, (λ i. Mark (p i) (Some m)), r.0)
  mark_at bits (Term t) long is h = absurd (unlike _ _ h (λ e. omega arith))
  mark_at bits (Mark k None) long is h = absurd (unlike _ _ h (λ e. omega arith))
  mark_at bits End long is h = absurd (unlike _ _ h (λ e. omega arith))

  module _ (one_mono : (a b : M) → mono a ≡ mono b → a ≡ b) (one_coef : (a b : E) → belongs a → belongs b → coef a ≡ coef b → a ≡ b) where
    -- notes with the same words are the same
    pub one_note : (x y : NoteOf M E) → Belongs belongs x → Belongs belongs y → words_of mono coef x ≡ words_of mono coef y → x ≡ y
    one_note (Term t) (Term u) f g h =
        let tail : mono t.mono ++ coef t.coef ≡ mono u.mono ++ coef u.coef = cc h in
        let r = cut (mono t.mono) (coef t.coef) (mono u.mono) (coef u.coef) (two t.mono ∙ sym (two u.mono)) tail in
        let p = one_mono t.mono u.mono r.0 in let q = one_coef t.coef u.coef f g r.1 in λ i. Term record { mono = p i; coef = q i }
    one_note (Mark k None) (Mark l None) f g h = let p : k ≡ l = cc h in λ i. Mark (p i) None
    one_note (Mark k (Some m)) (Mark l (Some n)) f g h =
        let tail : mono m ++ k ∷ 0 ∷ [] ≡ mono n ++ l ∷ 0 ∷ [] = cc h in
        let r = cut (mono m) (k ∷ 0 ∷ []) (mono n) (l ∷ 0 ∷ []) (two m ∙ sym (two n)) tail in
        let p = one_mono m n r.0 in let q : k ≡ l = cc r.1 in λ i. Mark (q i) (Some (p i))
    one_note End End f g h = refl
    one_note (Term t) (Mark l None) f g h = absurd (unlike _ _ h (λ e. omega arith))
    one_note (Term t) (Mark l (Some n)) f g h = absurd (unlike _ _ h (λ e. omega arith))
    one_note (Term t) End f g h = absurd (unlike _ _ h (λ e. omega arith))
    one_note (Mark k None) (Term u) f g h = absurd (unlike _ _ h (λ e. omega arith))
    one_note (Mark k None) (Mark l (Some n)) f g h = absurd (unlike _ _ h (λ e. omega arith))
    one_note (Mark k None) End f g h = absurd (unlike _ _ h (λ e. omega arith))
    one_note (Mark k (Some m)) (Term u) f g h = absurd (unlike _ _ h (λ e. omega arith))
    one_note (Mark k (Some m)) (Mark l None) f g h = absurd (unlike _ _ h (λ e. omega arith))
    one_note (Mark k (Some m)) End f g h = absurd (unlike _ _ h (λ e. omega arith))
    one_note End (Term u) f g h = absurd (unlike _ _ h (λ e. omega arith))
    one_note End (Mark l None) f g h = absurd (unlike _ _ h (λ e. omega arith))
    one_note End (Mark l (Some n)) f g h = absurd (unlike _ _ h (λ e. omega arith))
