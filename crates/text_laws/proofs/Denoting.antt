-- What is computed of bytes is what they denote.
use Rattle.std.proofs.Common.{◌≡◌, ℕ, suc, Bool, true, false, cond, List, [], ◌∷◌, ◌++◌, length, take, Option, Some, None, Result, Ok, Err, refl, sym, ◌∙◌, ap, subst, append_assoc, append-nil, length-append, arith}
use Rattle.std.specs.Prelude.{MatchOption}
use Rattle.std.proofs.Math.Seq.{take-append_seam}
use Rattle.std.proofs.lemmas.List.{get_or_at}
use Rattle.sdmp_laws.specs.Poly.{Term}
use Rattle.text_laws.specs.Bytes.{class_of}
use Rattle.text_laws.specs.Grammar.{Tree, Spells, IsText}
use Rattle.text_laws.specs.Automaton.{next, is_whole, is_live, run, fault_from, fault_place}
use Rattle.text_laws.specs.Denotes.{IsSyntaxFault, IsDenoted}
use Rattle.text_laws.specs.Summands.{summands, verdict}
use Rattle.text_laws.specs.Reading.{tokens, summands_in, judged, denotes}
use Rattle.text_laws.specs.Laws.{DenotesIs}
use Rattle.text_laws.specs.declared.State.{State}
use Rattle.text_laws.specs.declared.State.TheVariants as states
use Rattle.text_laws.specs.declared.TextFault.{TextFault}
use Rattle.text_laws.proofs.Run.{run-append}
use Rattle.text_laws.proofs.Texts.{taken_text}
use Rattle.text_laws.proofs.Faults.{fault_within, fault_at_end}
use Rattle.text_laws.proofs.OneReading.{one_reading, denotes_fault}
use Rattle.text_laws.proofs.TreeTokens.{summands_are}

dead_is : (s : State) → is_live s ≡ false → s ≡ states.Dead
dead_is states.Dead e = refl
dead_is states.Start e = cc
dead_is states.Term e = cc
dead_is states.Number e = cc
dead_is states.NumberEnd e = cc
dead_is states.Power e = cc
dead_is states.Name e = cc
dead_is states.NameEnd e = cc
dead_is states.Exponent e = cc

-- where the automaton came along the first bytes and lives
place_from : (done bs : List ℕ) (s : State) (n : ℕ) → n ≡ length done → s ≡ run states.Start done → is_live s ≡ true → MatchOption (fault_from s n bs) (IsText (done ++ bs)) (λ at. IsSyntaxFault (done ++ bs) at)
place_from done [] s n k e live = by (is_whole s) refl
  where
    same : done ++ [] ≡ done
    same = append-nil done

    by : (w : Bool) → is_whole s ≡ w → MatchOption (cond w None (Some n)) (IsText (done ++ [])) (λ at. IsSyntaxFault (done ++ []) at)
    by true w = subst IsText (sym same) (taken_text done (sym (ap is_whole e) ∙ w))
    by false w = let f = fault_at_end done (sym (ap is_live e) ∙ live) (sym (ap is_whole e) ∙ w) in subst (λ xs. IsSyntaxFault xs n) (sym same) (subst (IsSyntaxFault done) (sym k) f)
place_from done (b ∷ bs) s n k e live = by (is_live (next s (class_of b))) refl (λ k' e' l'. place_from (done ++ b ∷ []) bs (next s (class_of b)) (suc n) k' e' l')
  where
    t : State
    t = next s (class_of b)

    whole : (done ++ b ∷ []) ++ bs ≡ done ++ b ∷ bs
    whole = append_assoc done (b ∷ []) bs

    Later : Type 0
    Later = suc n ≡ length (done ++ b ∷ []) → t ≡ run states.Start (done ++ b ∷ []) → is_live t ≡ true → MatchOption (fault_from t (suc n) bs) (IsText ((done ++ b ∷ []) ++ bs)) (λ at. IsSyntaxFault ((done ++ b ∷ []) ++ bs) at)

    by : (l : Bool) → is_live t ≡ l → Later → MatchOption (cond l (fault_from t (suc n) bs) (Some n)) (IsText (done ++ b ∷ bs)) (λ at. IsSyntaxFault (done ++ b ∷ bs) at)
    by true l later =
        let long : suc n ≡ length (done ++ b ∷ []) = omega (arith, k, length-append done (b ∷ [])) in
        let ran : t ≡ run states.Start (done ++ b ∷ []) = ap (λ q. next q (class_of b)) e ∙ sym (run-append states.Start done (b ∷ [])) in
        subst (λ xs. MatchOption (fault_from t (suc n) bs) (IsText xs) (λ at. IsSyntaxFault xs at)) whole (later long ran l)
    by false l later =
        let front : take n (done ++ b ∷ bs) ≡ done = ap (λ i. take i (done ++ b ∷ bs)) k ∙ take-append_seam done (b ∷ bs) in
        let here = get_or_at done b bs 0 n (sym k) in
        fault_within (done ++ b ∷ bs) n t (omega (arith, k, length-append done (b ∷ bs))) (ap (λ xs. is_live (run states.Start xs)) front ∙ sym (ap is_live e) ∙ live)
        ((λ i. next ((e ∙ ap (run states.Start) (sym front)) i) (class_of (sym here i)))) (dead_is t l)

pub place_is : (bs : List ℕ) → MatchOption (fault_place bs) (IsText bs) (λ at. IsSyntaxFault bs at)
place_is bs = place_from [] bs states.Start 0 refl refl refl

-- a verdict on the tree of the bytes is what they denote
verdict_denoted : (names : List (List ℕ)) (p lim : ℕ) (bytes : List ℕ) (t : Tree) (r : Result (List Term) TextFault) → Spells t bytes → verdict names p lim (summands t) ≡ r → IsDenoted names p lim bytes r
verdict_denoted names p lim bytes t (Ok F) s e = (t, s, e)
verdict_denoted names p lim bytes t (Err f) s e = denotes_fault names p lim bytes t f s e

pub denoted : (names : List (List ℕ)) (p lim : ℕ) (bytes : List ℕ) → IsDenoted names p lim bytes (denotes names p lim bytes)
unfolding denotes
denoted names p lim bytes = by (fault_place bytes) (place_is bytes)
  where
    by : (o : Option ℕ) → MatchOption o (IsText bytes) (λ at. IsSyntaxFault bytes at) → IsDenoted names p lim bytes (judged names p lim bytes o)
    by (Some at) f = f
    by None (t, s) =
        verdict_denoted names p lim bytes t (judged names p lim bytes None) s
        (ap (verdict names p lim) (sym (summands_are t s.formed) ∙ ap (λ bs. summands_in (tokens false 0 bs)) (sym s.spelled)))

pub denotes_is : DenotesIs
denotes_is names p lim bytes r = (λ d. one_reading names p lim bytes (denotes names p lim bytes) r (denoted names p lim bytes) d, λ e. subst (IsDenoted names p lim bytes) e (denoted names p lim bytes))

-- without a tree: the place of the syntax fault decides
pub denotes_syntax : (names : List (List ℕ)) (p lim : ℕ) (bytes : List ℕ) (at : ℕ) → fault_place bytes ≡ Some at → denotes names p lim bytes ≡ judged names p lim bytes (Some at)
unfolding denotes
denotes_syntax names p lim bytes at e = ap (judged names p lim bytes) e
