-- The place of a fault of a text stands in the text, or at its end.
use Rattle.std.proofs.Common.{◌≡◌, ◌≢◌, ◌+◌, ◌≤◌, ℕ, zero, suc, ltb, Bool, true, false, cond, List, [], ◌∷◌, length, Option, Some, None, Result, Ok, Err, refl, sym, subst, arith}
use Rattle.sdmp_laws.specs.Order.{Order}
use Rattle.sdmp_laws.specs.Poly.{Term}
use Rattle.text_laws.specs.Bytes.{class_of}
use Rattle.text_laws.specs.Automaton.{next, is_whole, is_live, fault_from, fault_place, start}
use Rattle.text_laws.specs.Summands.{Written, Summand, or_else, is_known, unknown_in, unknown, above_degree, sum_above, one_above, above_coefficient, written_degree, size_of, refused, verdict, written_terms}
use Rattle.text_laws.specs.Reading.{Token, is_word, is_blank, is_sign, is_letter, tokens, before_sign, powers_in, place_of, signed_in, summands_in, judged, denotes, summed, reading}
use Rattle.text_laws.specs.declared.State.{State}
use Rattle.text_laws.specs.declared.TextFault.{TextFault}
use Rattle.text_laws.specs.declared.TextFault.TheVariants.{Syntax, UnknownName, DegreeBound, CoefficientBound, NoMemory}
use Rattle.sdmp_laws.specs.Limits.{greatest_norm}
use Rattle.calc_session.specs.View.{place_in}

-- the place, where there is one, is at most n
abbrev Within : ℕ → Option ℕ → Type 0
Within n None = Unit {0}
Within n (Some at) = at ≤ n

abbrev TokensWithin : ℕ → List Token → Type 0
TokensWithin n [] = Unit {0}
TokensWithin n (t ∷ ts) = (t.at ≤ n) × TokensWithin n ts

abbrev PowersWithin : ℕ → List Written → Type 0
PowersWithin n [] = Unit {0}
PowersWithin n (w ∷ ws) = (w.at ≤ n) × PowersWithin n ws

abbrev SummandsWithin : ℕ → List Summand → Type 0
SummandsWithin n [] = Unit {0}
SummandsWithin n (s ∷ ss) = (s.at ≤ n) × PowersWithin n s.powers × SummandsWithin n ss

either : {X : Type 0} (P : X → Type 0) (b : Bool) (x y : X) → P x → P y → P (cond b x y)
either P true x y px py = px
either P false x y px py = py

tokens_within : (n : ℕ) (inside : Bool) (at : ℕ) (bytes : List ℕ) → at + length bytes ≤ n → TokensWithin n (tokens inside at bytes)
tokens_within n inside at [] h = tt
tokens_within n inside at (b ∷ bs) h =
    let rest : (i : Bool) → TokensWithin n (tokens i (suc at) bs) = λ i. tokens_within n i (suc at) bs (omega (arith, h)) in
    let here : at ≤ n = omega (arith, h) in
    either (TokensWithin n) (is_word (class_of b)) _ _
    (either (TokensWithin n) inside _ _ (rest true) (here, rest true))
    (either (TokensWithin n) (is_blank (class_of b)) _ _ (rest false) (here, rest false))

before_within : (n : ℕ) (ts : List Token) → TokensWithin n ts → TokensWithin n (before_sign ts)
before_within n [] h = tt
before_within n (t ∷ ts) h = either (TokensWithin n) (is_sign (class_of t.first)) _ _ tt (h.0, before_within n ts h.1)

powers_within : (n : ℕ) (ts : List Token) → TokensWithin n ts → PowersWithin n (powers_in ts)
powers_within n [] h = tt
powers_within n (t ∷ ts) h = either (PowersWithin n) (is_letter (class_of t.first)) _ _ (h.0, powers_within n ts h.1) (powers_within n ts h.1)

place_within : (n : ℕ) (ts : List Token) → TokensWithin n ts → place_of ts ≤ n
place_within n [] h = omega arith
place_within n (t ∷ ts) h = h.0

signed_within : (n : ℕ) (ts : List Token) → TokensWithin n ts → SummandsWithin n (signed_in ts)
signed_within n [] h = tt
signed_within n (t ∷ ts) h =
    let own = before_within n ts h.1 in
    either (SummandsWithin n) (is_sign (class_of t.first)) _ _
    (place_within n (before_sign ts) own, powers_within n (before_sign ts) own, signed_within n ts h.1) (signed_within n ts h.1)

summands_within : (n : ℕ) (ts : List Token) → TokensWithin n ts → SummandsWithin n (summands_in ts)
summands_within n [] h = tt
summands_within n (t ∷ ts) h =
    let own = before_within n (t ∷ ts) h in
    either (SummandsWithin n) (is_sign (class_of t.first)) _ _
    (signed_within n (t ∷ ts) h)
    (place_within n (before_sign (t ∷ ts)) own, powers_within n (before_sign (t ∷ ts)) own, signed_within n (t ∷ ts) h)

-- ---- faults of the terms
unknown_in_within : (n : ℕ) (names : List (List ℕ)) (ws : List Written) → PowersWithin n ws → Within n (unknown_in names ws)
unknown_in_within n names [] h = tt
unknown_in_within n names (w ∷ ws) h = either (Within n) (is_known names w.name) _ _ (unknown_in_within n names ws h.1) h.0

or_within : (n : ℕ) (a b : Option ℕ) → Within n a → Within n b → Within n (or_else a b)
or_within n (Some at) b ha hb = ha
or_within n None b ha hb = hb

unknown_within : (n : ℕ) (names : List (List ℕ)) (ss : List Summand) → SummandsWithin n ss → Within n (unknown names ss)
unknown_within n names [] h = tt
unknown_within n names (s ∷ ss) h =
    or_within n (unknown_in names s.powers) (unknown names ss) (unknown_in_within n names s.powers h.1) (unknown_within n names ss h.2)

degree_within : (n lim : ℕ) (ss : List Summand) → SummandsWithin n ss → Within n (above_degree lim ss)
degree_within n lim [] h = tt
degree_within n lim (s ∷ ss) h = either (Within n) (ltb lim (written_degree s.powers)) _ _ h.0 (degree_within n lim ss h.2)

sum_within : (n sum : ℕ) (ss : List Summand) → SummandsWithin n ss → Within n (sum_above sum ss)
sum_within n sum [] h = tt
sum_within n sum (s ∷ ss) h =
    either (Within n) (ltb greatest_norm (sum + size_of s.number)) _ _ h.0 (sum_within n (sum + size_of s.number) ss h.2)

one_within : (n : ℕ) (ss : List Summand) → SummandsWithin n ss → Within n (one_above ss)
one_within n [] h = tt
one_within n (s ∷ ss) h = either (Within n) (ltb greatest_norm (size_of s.number)) _ _ h.0 (one_within n ss h.2)

coefficient_within : (n p : ℕ) (ss : List Summand) → SummandsWithin n ss → Within n (above_coefficient p ss)
coefficient_within n zero ss h = sum_within n 0 ss h
coefficient_within n (suc k) ss h = one_within n ss h

-- a result without a fault beyond n
abbrev ResultWithin : ℕ → Result (List Term) TextFault → Type 0
ResultWithin n (Ok f) = Unit {0}
ResultWithin n (Err fault) = place_in fault ≤ n

refused_within : (n : ℕ) (f : ℕ → TextFault) (o : Option ℕ) (r : Result (List Term) TextFault) → ((at : ℕ) → place_in (f at) ≡ at) → Within n o → ResultWithin n r
    → ResultWithin n (refused f o r)
refused_within n f None r is h hr = hr
refused_within n f (Some at) r is h hr = subst (λ (k : ℕ). k ≤ n) (sym (is at)) h

verdict_within : (n : ℕ) (names : List (List ℕ)) (p lim : ℕ) (ss : List Summand) → SummandsWithin n ss → ResultWithin n (verdict names p lim ss)
verdict_within n names p lim ss h =
    refused_within n (λ at. UnknownName at) (unknown names ss) _ (λ at. refl) (unknown_within n names ss h)
    (refused_within n (λ at. DegreeBound at) (above_degree lim ss) _ (λ at. refl) (degree_within n lim ss h)
    (refused_within n (λ at. CoefficientBound at) (above_coefficient p ss) (Ok (written_terms names ss)) (λ at. refl) (coefficient_within n p ss h) tt))

syntax_within : (n : ℕ) (s : State) (at : ℕ) (bytes : List ℕ) → at + length bytes ≤ n → Within n (fault_from s at bytes)
syntax_within n s at [] h = either (Within n) (is_whole s) None (Some at) tt (omega (arith, h))
syntax_within n s at (b ∷ bs) h =
    either (Within n) (is_live (next s (class_of b))) _ _ (syntax_within n (next s (class_of b)) (suc at) bs (omega (arith, h))) (omega (arith, h))

judged_within : (n : ℕ) (names : List (List ℕ)) (p lim : ℕ) (bytes : List ℕ) (o : Option ℕ) → length bytes ≤ n → Within n o → ResultWithin n (judged names p lim bytes o)
judged_within n names p lim bytes (Some at) fits h = h
judged_within n names p lim bytes None fits h =
    verdict_within n names p lim (summands_in (tokens false 0 bytes)) (summands_within n (tokens false 0 bytes) (tokens_within n false 0 bytes (omega (arith, fits))))

summed_within : (n : ℕ) (ord : Order) (p : ℕ) (r : Result (List Term) TextFault) → ResultWithin n r → ResultWithin n (summed ord p r)
summed_within n ord p (Ok f) h = tt
summed_within n ord p (Err fault) h = h

reading_within : (ord : Order) (names : List (List ℕ)) (p lim : ℕ) (bytes : List ℕ) → ResultWithin (length bytes) (reading ord names p lim bytes)
unfolding denotes
reading_within ord names p lim bytes =
    summed_within (length bytes) ord p (judged names p lim bytes (fault_place bytes))
    (judged_within (length bytes) names p lim bytes (fault_place bytes) (omega arith) (syntax_within (length bytes) start 0 bytes (omega arith)))

placed : (ord : Order) (names : List (List ℕ)) (p lim : ℕ) (bytes : List ℕ) (fault : TextFault) → reading ord names p lim bytes ≡ Err fault
    → place_in fault ≤ length bytes
placed ord names p lim bytes fault e = subst (ResultWithin (length bytes)) e (reading_within ord names p lim bytes)

-- the place of the fault that a reading tells
pub fault_placed : (ord : Order) (names : List (List ℕ)) (p lim : ℕ) (bytes : List ℕ) (fault : TextFault)
    → (fault ≢ NoMemory → reading ord names p lim bytes ≡ Err fault) → place_in fault ≤ length bytes
fault_placed ord names p lim bytes (Syntax at) h = placed ord names p lim bytes (Syntax at) (h (λ e. absurd cc))
fault_placed ord names p lim bytes (UnknownName at) h = placed ord names p lim bytes (UnknownName at) (h (λ e. absurd cc))
fault_placed ord names p lim bytes (DegreeBound at) h = placed ord names p lim bytes (DegreeBound at) (h (λ e. absurd cc))
fault_placed ord names p lim bytes (CoefficientBound at) h = placed ord names p lim bytes (CoefficientBound at) (h (λ e. absurd cc))
fault_placed ord names p lim bytes NoMemory h = omega arith
