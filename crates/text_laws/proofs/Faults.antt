-- The place of a syntax fault.
use Rattle.std.proofs.Common.{◌≡◌, ◌<◌, ◌≤◌, ℕ, suc, ◌+◌, true, false, List, [], ◌∷◌, ◌++◌, length, take, drop, get_or, refl, sym, ◌∙◌, ap, subst, inl, inr, append_assoc, append-nil, true≢false, arith, add-one}
use Rattle.std.proofs.lemmas.List.{take_more, take_all, take-append-drop, take-take}
use Rattle.text_laws.specs.Bytes.{class_of}
use Rattle.text_laws.specs.Grammar.{IsText, BeginsText}
use Rattle.text_laws.specs.Denotes.{IsSyntaxFault}
use Rattle.text_laws.specs.Automaton.{next, is_whole, is_live, run}
use Rattle.text_laws.specs.declared.ByteClass.{ByteClass}
use Rattle.text_laws.specs.declared.State.{State}
use Rattle.text_laws.specs.declared.State.TheVariants as states
use Rattle.text_laws.proofs.Run.{run-append, text_taken}
use Rattle.text_laws.proofs.Texts.{live_begins, begins_live}

pub run_more : (s : State) (bs : List ℕ) (i : ℕ) → i < length bs → run s (take (i + 1) bs) ≡ next (run s (take i bs)) (class_of (get_or bs i 0))
run_more s bs i h = ap (run s) (take_more bs i 0 h) ∙ run-append s (take i bs) (get_or bs i 0 ∷ [])

front_begins : (a b : List ℕ) → BeginsText (a ++ b) → BeginsText a
front_begins a b (rest, t) = (b ++ rest, subst IsText (append_assoc a b rest) t)

begins : (bs : List ℕ) → IsText bs → BeginsText bs
begins bs t = ([], subst IsText (sym (append-nil bs)) t)

before : (bs : List ℕ) (at k : ℕ) → k < at → BeginsText (take at bs) → BeginsText (take (suc k) bs)
before bs at k h t =
    let e : take (suc k) (take at bs) ≡ take (suc k) bs = take-take (suc k) at bs (omega arith) in
    subst BeginsText e (front_begins (take (suc k) (take at bs)) (drop (suc k) (take at bs)) (subst BeginsText (sym (take-append-drop (suc k) (take at bs))) t))

pub fault_within : (bs : List ℕ) (at : ℕ) (t : State) → at < length bs → is_live (run states.Start (take at bs)) ≡ true → t ≡ next (run states.Start (take at bs)) (class_of (get_or bs at 0)) → t ≡ states.Dead → IsSyntaxFault bs at
fault_within bs at t h live e d =
    let dead : run states.Start (take (suc at) bs) ≡ states.Dead = ap (λ k. run states.Start (take k bs)) (sym (add-one at)) ∙ run_more states.Start bs at h ∙ sym e ∙ d in
    let no : BeginsText (take (suc at) bs) → ⊥ = λ b. true≢false (sym (begins_live (take (suc at) bs) b) ∙ ap is_live dead) in
    record {
      no_text = λ x. no (front_begins (take (suc at) bs) (drop (suc at) bs) (subst BeginsText (sym (take-append-drop (suc at) bs)) (begins bs x)));
      before = λ k l. before bs at k l (live_begins (take at bs) live);
      there = inl (h, no);
    }

pub fault_at_end : (bs : List ℕ) → is_live (run states.Start bs) ≡ true → is_whole (run states.Start bs) ≡ false → IsSyntaxFault bs (length bs)
fault_at_end bs live e =
    let b : BeginsText bs = live_begins bs live in
    record {
      no_text = λ x. true≢false (sym (text_taken bs x) ∙ e);
      before = λ k l. before bs (length bs) k l (subst BeginsText (sym (take_all (length bs) bs (omega arith))) b);
      there = inr (refl, b);
    }

-- a state that is not the dead one lives
pub not_dead : (s : State) → (s ≡ states.Dead → ⊥) → is_live s ≡ true
not_dead states.Dead h = absurd (h refl)
not_dead states.Start h = refl
not_dead states.Term h = refl
not_dead states.Number h = refl
not_dead states.NumberEnd h = refl
not_dead states.Power h = refl
not_dead states.Name h = refl
not_dead states.NameEnd h = refl
not_dead states.Exponent h = refl

-- ---- the steps of the loop
pub next_is : (bs : List ℕ) (i : ℕ) (s t : State) (k : ByteClass) → s ≡ run states.Start (take i bs) → k ≡ class_of (get_or bs i 0) → t ≡ next s k → t ≡ next (run states.Start (take i bs)) (class_of (get_or bs i 0))
next_is bs i s t k e f g = g ∙ (λ j. next (e j) (f j))

pub at_end : (bs : List ℕ) (i : ℕ) (s : State) → length bs ≤ i → s ≡ run states.Start (take i bs) → s ≡ run states.Start bs
at_end bs i s h e = e ∙ ap (run states.Start) (take_all i bs h)
