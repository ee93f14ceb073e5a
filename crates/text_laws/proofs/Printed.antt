-- The canonical text denotes what it was made of.
use Rattle.std.proofs.Common.{◌≡◌, ◌≢◌, ◌⊎◌, ◌<◌, ◌≤◌, ◌+◌, ◌^◌, ℕ, zero, suc, Bool, true, false, not, ◌&&◌, eqb, ltb, cond, List, [], ◌∷◌, ◌++◌, length, Option, Some, None, Ok, ℤ, pos, negsuc, refl, sym, ◌∙◌, ap, inl, inr, append-nil, true≢false, eq-eqb, arith}
use Rattle.std.specs.Prelude.{unsigned_abs}
use Rattle.std.specs.Fmt.{decimal}
use Rattle.std.specs.Str.Parse.{digits_value, AllDigits}
use Rattle.std.proofs.lemmas.Fmt.{decimal_is_IsNumeral_wide}
use Rattle.std.proofs.lemmas.Str.Parse.{digit_from_value}
use Rattle.std.proofs.lemmas.Bool.Decides.{eqb_tells}
use Rattle.std.proofs.lemmas.Bool.{le-ltb, and_parts}
use Rattle.text_laws.specs.Bytes.{class_of}
use Rattle.text_laws.specs.Grammar.{Mark, Word, Raised, Power, Factor, Numeral, Symbol, Product, Signed, Tree, AreDigits, IsMark, IsNumber, IsName, IsRaised, IsPower, AreFactors, IsProduct, AreSigned, IsFirstSign, spell_mark, spell_word, spell_raised, spell_power, spell_factors, spell_product, spell_signed, spell_sign, Spells}
use Rattle.text_laws.specs.Summands.{Written, Summand, number_of, exponent_of, power_at, factors_at, product_at, is_minus, signed_at, summands, same_name, is_known, unknown_in, unknown, written_degree, above_degree, size_of, sum_above, one_above, above_coefficient, exponent_at, vector_of, signed, written_term, written_terms, refused, or_else}
use Rattle.sdmp_laws.specs.Limits.{greatest_norm}
use Rattle.text_laws.specs.Denotes.{IsDenoted}
use Rattle.text_laws.specs.Canonical.{sign_text, size_text, power_text, power_texts, starred, behind_stars, later_text, text, IsNameText, NotIn, AreNames}
use Rattle.sdmp_laws.proofs.Parts.{norm_cons}
use Rattle.text_laws.specs.declared.TextFault.TheVariants.{UnknownName, DegreeBound, CoefficientBound}
use Rattle.text_laws.specs.declared.ByteClass.TheVariants.{Digit, Sign, Star, Caret}
use Rattle.sdmp_laws.specs.Order.{degree}
use Rattle.sdmp_laws.specs.Poly.{Term, norm}

eqb_is : (x y : ℕ) → eqb x y ≡ true → x ≡ y
eqb_is x y h = by (eqb_tells x y)
  where
    by : ((eqb x y ≡ true) × (x ≡ y)) ⊎ ((eqb x y ≡ false) × (x ≢ y)) → x ≡ y
    by (inl k) = k.1
    by (inr k) = absurd (true≢false (sym h ∙ k.0))

-- ---- words
abbrev word_of : List ℕ → Word
word_of [] = record { first = 0; more = []; blanks = [] }
word_of (b ∷ bs) = record { first = b; more = bs; blanks = [] }

spell_word_of : (bs : List ℕ) → 0 < length bs → spell_word (word_of bs) ≡ bs
spell_word_of [] h = absurd (omega arith)
spell_word_of (b ∷ bs) h = ap (λ l. b ∷ l) (append-nil bs)

class_digit : (c : ℕ) → 48 ≤ c → c ≤ 57 → class_of c ≡ Digit
unfolding class_of
class_digit c h g = grind arith

digits_all : (ds : List ℕ) → AllDigits 10 ds → AreDigits ds
digits_all [] h = tt
digits_all (d ∷ ds) h = let r = digit_from_value d h.0 in (class_digit d r.0 r.1, digits_all ds h.1)

number_word : (ds : List ℕ) → 0 < length ds → AreDigits ds → IsNumber (word_of ds)
number_word [] h g = absurd (omega arith)
number_word (d ∷ ds) h g = record { first = g.0; more = g.1; blanks = tt }

value_word : (ds : List ℕ) → 0 < length ds → number_of (word_of ds) ≡ digits_value 10 ds
value_word [] h = absurd (omega arith)
value_word (d ∷ ds) h = refl

is_number : (n : ℕ) → n < 10 ^ 64 → IsNumber (word_of (decimal n))
is_number n h = let k = decimal_is_IsNumeral_wide n h in number_word (decimal n) k.0.0 (digits_all (decimal n) k.0.1)

number_is : (n : ℕ) → n < 10 ^ 64 → number_of (word_of (decimal n)) ≡ n
number_is n h = let k = decimal_is_IsNumeral_wide n h in value_word (decimal n) k.0.0 ∙ k.1

number_spelled : (n : ℕ) → n < 10 ^ 64 → spell_word (word_of (decimal n)) ≡ decimal n
number_spelled n h = let k = decimal_is_IsNumeral_wide n h in spell_word_of (decimal n) k.0.0

name_long : (n : List ℕ) → IsNameText n → 0 < length n
name_long [] h = absurd h
name_long (b ∷ bs) h = omega arith

is_name : (n : List ℕ) → IsNameText n → IsName (word_of n)
is_name [] h = absurd h
is_name (b ∷ bs) h = record { first = h.0; more = h.1; blanks = tt }

name_bytes : (n : List ℕ) → IsNameText n → (word_of n).first ∷ (word_of n).more ≡ n
name_bytes [] h = absurd h
name_bytes (b ∷ bs) h = refl

-- ---- powers
abbrev raised_of : ℕ → Option Raised
raised_of e = cond (eqb e 1) None (Some (record { caret = record { byte = 94; blanks = [] }; number = word_of (decimal e) }))

abbrev power_of : List ℕ → ℕ → Power
power_of n e = record { name = word_of n; raised = raised_of e }

caret_class : class_of 94 ≡ Caret
unfolding class_of
caret_class = refl

star_class : class_of 42 ≡ Star
unfolding class_of
star_class = refl

is_raised : (b : Bool) (e : ℕ) → e < 10 ^ 64 → IsRaised (cond b None (Some (record { caret = record { byte = 94; blanks = [] }; number = word_of (decimal e) })))
is_raised true e h = tt
is_raised false e h = (record { byte = caret_class; blanks = tt }, is_number e h)

is_power : (n : List ℕ) (e : ℕ) → IsNameText n → e < 10 ^ 64 → IsPower (power_of n e)
is_power n e h g = record { name = is_name n h; raised = is_raised (eqb e 1) e g }

raised_spelled : (b : Bool) (n : List ℕ) (e : ℕ) → e < 10 ^ 64 → n ++ spell_raised (cond b None (Some (record { caret = record { byte = 94; blanks = [] }; number = word_of (decimal e) }))) ≡ cond b n (n ++ 94 ∷ decimal e)
raised_spelled true n e h = append-nil n
raised_spelled false n e h = ap (λ l. n ++ 94 ∷ l) (number_spelled e h)

power_spelled : (n : List ℕ) (e : ℕ) → IsNameText n → e < 10 ^ 64 → spell_power (power_of n e) ≡ power_text n e
power_spelled n e h g = ap (λ l. l ++ spell_raised (raised_of e)) (spell_word_of n (name_long n h)) ∙ raised_spelled (eqb e 1) n e g

exponent_is : (e : ℕ) → e < 10 ^ 64 → exponent_of (raised_of e) ≡ e
exponent_is e h = by (eqb_tells e 1)
  where
    by : ((eqb e 1 ≡ true) × (e ≡ 1)) ⊎ ((eqb e 1 ≡ false) × (e ≢ 1)) → exponent_of (raised_of e) ≡ e
    by (inl k) = ap (λ b. exponent_of (cond b None (Some (record { caret = record { byte = 94; blanks = [] }; number = word_of (decimal e) })))) k.0 ∙ sym k.1
    by (inr k) = ap (λ b. exponent_of (cond b None (Some (record { caret = record { byte = 94; blanks = [] }; number = word_of (decimal e) })))) k.0 ∙ number_is e h

abbrev powers_of : List (List ℕ) → List ℕ → List Power
powers_of [] es = []
powers_of (n ∷ ns) [] = []
powers_of (n ∷ ns) (e ∷ es) = cond (eqb e 0) (powers_of ns es) (power_of n e ∷ powers_of ns es)

abbrev Small : List ℕ → Type 0
Small [] = Unit {0}
Small (e ∷ es) = (e < 10 ^ 64) × Small es

abbrev Names_each : List (List ℕ) → Type 0
Names_each [] = Unit {0}
Names_each (n ∷ ns) = IsNameText n × Names_each ns

abbrev ArePowers : List Power → Type 0
ArePowers [] = Unit {0}
ArePowers (p ∷ ps) = IsPower p × ArePowers ps

abbrev spelled : List Power → List (List ℕ)
spelled [] = []
spelled (p ∷ ps) = spell_power p ∷ spelled ps

are_powers : (ns : List (List ℕ)) (es : List ℕ) → Names_each ns → Small es → ArePowers (powers_of ns es)
are_powers [] es h g = tt
are_powers (n ∷ ns) [] h g = tt
are_powers (n ∷ ns) (e ∷ es) h g = by (eqb e 0) (are_powers ns es h.1 g.1)
  where
    by : (b : Bool) → ArePowers (powers_of ns es) → ArePowers (cond b (powers_of ns es) (power_of n e ∷ powers_of ns es))
    by true k = k
    by false k = (is_power n e h.0 g.0, k)

powers_spelled : (ns : List (List ℕ)) (es : List ℕ) → Names_each ns → Small es → spelled (powers_of ns es) ≡ power_texts ns es
powers_spelled [] es h g = refl
powers_spelled (n ∷ ns) [] h g = refl
powers_spelled (n ∷ ns) (e ∷ es) h g = by (eqb e 0) (powers_spelled ns es h.1 g.1)
  where
    by : (b : Bool) → spelled (powers_of ns es) ≡ power_texts ns es → spelled (cond b (powers_of ns es) (power_of n e ∷ powers_of ns es)) ≡ cond b (power_texts ns es) (power_text n e ∷ power_texts ns es)
    by true k = k
    by false k = (λ i. power_spelled n e h.0 g.0 i ∷ k i)

-- ---- products
abbrev factors_of : List Power → List Factor
factors_of [] = []
factors_of (p ∷ ps) = record { star = record { byte = 42; blanks = [] }; power = p } ∷ factors_of ps

are_factors : (ps : List Power) → ArePowers ps → AreFactors (factors_of ps)
are_factors [] h = tt
are_factors (p ∷ ps) h = (record { byte = star_class; blanks = tt }, h.0, are_factors ps h.1)

factors_spelled : (ps : List Power) → spell_factors (factors_of ps) ≡ behind_stars (spelled ps)
factors_spelled [] = refl
factors_spelled (p ∷ ps) = ap (λ l. 42 ∷ (spell_power p ++ l)) (factors_spelled ps)

abbrev with_number : ℕ → List Power → Product
with_number s ps = record { head = Numeral (word_of (decimal s)); factors = factors_of ps }

abbrev product_of : Bool → ℕ → List Power → Product
product_of false s ps = with_number s ps
product_of true s [] = with_number s []
product_of true s (p ∷ ps) = record { head = Symbol p; factors = factors_of ps }

is_product : (b : Bool) (s : ℕ) (ps : List Power) → s < 10 ^ 64 → ArePowers ps → IsProduct (product_of b s ps)
is_product false s ps h g = record { head = is_number s h; factors = are_factors ps g }
is_product true s [] h g = record { head = is_number s h; factors = tt }
is_product true s (p ∷ ps) h g = record { head = g.0; factors = are_factors ps g.1 }

product_spelled : (b : Bool) (s : ℕ) (ps : List Power) → s < 10 ^ 64 → (b ≡ true → ps ≡ [] → ⊥) → spell_product (product_of b s ps) ≡ starred (cond b [] (decimal s ∷ []) ++ spelled ps)
product_spelled false s ps h g = (λ i. number_spelled s h i ++ factors_spelled ps i)
product_spelled true s [] h g = absurd (g refl refl)
product_spelled true s (p ∷ ps) h g = ap (λ l. spell_power p ++ l) (factors_spelled ps)

-- ---- written powers, whatever their places
abbrev strip : List Written → List Written
strip [] = []
strip (w ∷ ws) = record { at = 0; name = w.name; exponent = w.exponent } ∷ strip ws

strip_degree : (ws : List Written) → written_degree (strip ws) ≡ written_degree ws
strip_degree [] = refl
strip_degree (w ∷ ws) = ap (λ n. w.exponent + n) (strip_degree ws)

strip_exponent : (n : List ℕ) (ws : List Written) → exponent_at n (strip ws) ≡ exponent_at n ws
strip_exponent n [] = refl
strip_exponent n (w ∷ ws) = ap (λ k. cond (same_name n w.name) w.exponent 0 + k) (strip_exponent n ws)

strip_vector : (ns : List (List ℕ)) (ws : List Written) → vector_of ns (strip ws) ≡ vector_of ns ws
strip_vector [] ws = refl
strip_vector (n ∷ ns) ws = (λ i. strip_exponent n ws i ∷ strip_vector ns ws i)

some_none : (n : ℕ) → Some n ≡ None → ⊥
some_none n e = cc

strip_known : (ns : List (List ℕ)) (ws : List Written) → unknown_in ns (strip ws) ≡ None → unknown_in ns ws ≡ None
strip_known ns [] e = refl
strip_known ns (w ∷ ws) e = by (is_known ns w.name) e (strip_known ns ws)
  where
    by : (b : Bool) → cond b (unknown_in ns (strip ws)) (Some 0) ≡ None → (unknown_in ns (strip ws) ≡ None → unknown_in ns ws ≡ None) → cond b (unknown_in ns ws) (Some w.at) ≡ None
    by true e k = k e
    by false e k = absurd (some_none 0 e)

abbrev plain : List Power → List Written
plain [] = []
plain (p ∷ ps) = power_at 0 p ∷ plain ps

factors_strip : (ps : List Power) (at : ℕ) → strip (factors_at at (factors_of ps)) ≡ plain ps
factors_strip [] at = refl
factors_strip (p ∷ ps) at = ap (λ l. power_at 0 p ∷ l) (factors_strip ps _)

product_strip : (m : Bool) (at : ℕ) (b : Bool) (s : ℕ) (ps : List Power) → strip (product_at m at (product_of b s ps)).powers ≡ plain ps
product_strip m at false s ps = factors_strip ps _
product_strip m at true s [] = refl
product_strip m at true s (p ∷ ps) = ap (λ l. power_at 0 p ∷ l) (factors_strip ps _)

product_size : (m : Bool) (at : ℕ) (b : Bool) (s : ℕ) (ps : List Power) → s < 10 ^ 64 → (b ≡ true → s ≡ 1) → size_of (product_at m at (product_of b s ps)).number ≡ s
product_size m at false s ps h g = number_is s h
product_size m at true s [] h g = number_is s h
product_size m at true s (p ∷ ps) h g = sym (g refl)

product_sign : (m : Bool) (at : ℕ) (b : Bool) (s : ℕ) (ps : List Power) → (product_at m at (product_of b s ps)).negative ≡ m
product_sign m at false s ps = refl
product_sign m at true s [] = refl
product_sign m at true s (p ∷ ps) = refl

-- ---- the powers of a vector
known_more : (ns : List (List ℕ)) (n m : List ℕ) → is_known ns m ≡ true → is_known (n ∷ ns) m ≡ true
known_more ns n m h = by (same_name n m)
  where
    by : (b : Bool) → cond b true (is_known ns m) ≡ true
    by true = refl
    by false = h

same_self : (n : List ℕ) → same_name n n ≡ true
same_self [] = refl
same_self (x ∷ n) = ap (λ b. b && same_name n n) (eqb_self x) ∙ same_self n
  where
    eqb_self : (x : ℕ) → eqb x x ≡ true
    eqb_self x = eq-eqb x x refl

pub same_is : (n m : List ℕ) → same_name n m ≡ true → n ≡ m
same_is [] [] h = refl
same_is [] (y ∷ m) h = absurd (true≢false (sym h))
same_is (x ∷ n) [] h = absurd (true≢false (sym h))
same_is (x ∷ n) (y ∷ m) h =
    let k = and_parts (eqb x y) (same_name n m) h in
    let e : x ≡ y = eqb_is x y k.0 in
    let t = same_is n m k.1 in
    (λ i. e i ∷ t i)

pub not_same : (n m : List ℕ) → (n ≡ m → ⊥) → same_name n m ≡ false
not_same n m h = by (same_name n m) (same_is n m)
  where
    by : (b : Bool) → (b ≡ true → n ≡ m) → b ≡ false
    by true k = absurd (h (k refl))
    by false k = refl

abbrev Known : List (List ℕ) → List (List ℕ) → Type 0
Known all [] = Unit {0}
Known all (n ∷ ns) = (is_known all n ≡ true) × Known all ns

known_cons : (n : List ℕ) (all ns : List (List ℕ)) → Known all ns → Known (n ∷ all) ns
known_cons n all [] h = tt
known_cons n all (m ∷ ns) h = (known_more all n m h.0, known_cons n all ns h.1)

known_self : (ns : List (List ℕ)) → Known ns ns
known_self [] = tt
known_self (n ∷ ns) = (ap (λ b. cond b true (is_known ns n)) (same_self n), known_cons n ns ns (known_self ns))

abbrev ns_of : List (List ℕ) → List ℕ → List Written
ns_of ns es = plain (powers_of ns es)

no_unknown : (all ns : List (List ℕ)) (es : List ℕ) → Known all ns → Names_each ns → unknown_in all (ns_of ns es) ≡ None
no_unknown all [] es h g = refl
no_unknown all (n ∷ ns) [] h g = refl
no_unknown all (n ∷ ns) (e ∷ es) h g = by (eqb e 0) (no_unknown all ns es h.1 g.1)
  where
    by : (b : Bool) → unknown_in all (ns_of ns es) ≡ None → unknown_in all (plain (cond b (powers_of ns es) (power_of n e ∷ powers_of ns es))) ≡ None
    by true k = k
    by false k = ap (λ b. cond b (unknown_in all (ns_of ns es)) (Some 0)) (ap (is_known all) (name_bytes n g.0) ∙ h.0) ∙ k

zero_from : (e : ℕ) → eqb e 0 ≡ true → e ≡ 0
zero_from e h = eqb_is e 0 h

degree_powers : (ns : List (List ℕ)) (es : List ℕ) → length ns ≡ length es → Small es → written_degree (ns_of ns es) ≡ degree es
unfolding degree
degree_powers [] [] h g = refl
degree_powers [] (e ∷ es) h g = absurd (omega (arith, h))
degree_powers (n ∷ ns) [] h g = absurd (omega (arith, h))
degree_powers (n ∷ ns) (e ∷ es) h g = by (eqb e 0) (zero_from e) (degree_powers ns es (omega (arith, h)) g.1)
  where
    by : (b : Bool) → (b ≡ true → e ≡ 0) → written_degree (ns_of ns es) ≡ degree es → written_degree (plain (cond b (powers_of ns es) (power_of n e ∷ powers_of ns es))) ≡ e + degree es
    by true z k = k ∙ omega (arith, z refl)
    by false z k = (λ i. exponent_is e g.0 i + k i)

absent : (m : List ℕ) (ns : List (List ℕ)) (es : List ℕ) → NotIn m ns → Names_each ns → exponent_at m (ns_of ns es) ≡ 0
absent m [] es h g = refl
absent m (n ∷ ns) [] h g = refl
absent m (n ∷ ns) (e ∷ es) h g = by (eqb e 0) (absent m ns es h.1 g.1)
  where
    by : (b : Bool) → exponent_at m (ns_of ns es) ≡ 0 → exponent_at m (plain (cond b (powers_of ns es) (power_of n e ∷ powers_of ns es))) ≡ 0
    by true k = k
    by false k = (λ i. cond (different i) (exponent_of (raised_of e)) 0 + k i) ∙ omega arith
      where
        different : same_name m ((word_of n).first ∷ (word_of n).more) ≡ false
        different = ap (same_name m) (name_bytes n g.0) ∙ not_same m n h.0

-- a name that none of them is adds nothing
pub skip_vector : (m : List ℕ) (w : Written) (ns : List (List ℕ)) (ws : List Written) → w.name ≡ m → NotIn m ns → vector_of ns (w ∷ ws) ≡ vector_of ns ws
skip_vector m w [] ws e h = refl
skip_vector m w (n ∷ ns) ws e h =
    let different : same_name n w.name ≡ false = ap (same_name n) e ∙ not_same n m (λ k. h.0 (sym k)) in
    let zero : cond (same_name n w.name) w.exponent 0 + exponent_at n ws ≡ exponent_at n ws = ap (λ b. cond b w.exponent 0 + exponent_at n ws) different ∙ omega arith in
    let rest = skip_vector m w ns ws e h.1 in
    (λ i. zero i ∷ rest i)

vector_powers : (ns : List (List ℕ)) (es : List ℕ) → length ns ≡ length es → AreNames ns → Names_each ns → Small es → vector_of ns (ns_of ns es) ≡ es
vector_powers [] [] h d f g = refl
vector_powers [] (e ∷ es) h d f g = absurd (omega (arith, h))
vector_powers (n ∷ ns) [] h d f g = absurd (omega (arith, h))
vector_powers (n ∷ ns) (e ∷ es) h d f g = by (eqb e 0) (zero_from e) (vector_powers ns es (omega (arith, h)) d.2 f.1 g.1) (absent n ns es d.1 f.1)
  where
    by : (b : Bool) → (b ≡ true → e ≡ 0) → vector_of ns (ns_of ns es) ≡ es → exponent_at n (ns_of ns es) ≡ 0 → vector_of (n ∷ ns) (plain (cond b (powers_of ns es) (power_of n e ∷ powers_of ns es))) ≡ e ∷ es
    by true z k a = let q : exponent_at n (ns_of ns es) ≡ e = a ∙ sym (z refl) in (λ i. q i ∷ k i)
    by false z k a =
        let same : same_name n ((word_of n).first ∷ (word_of n).more) ≡ true = ap (same_name n) (name_bytes n f.0) ∙ same_self n in
        let here : cond (same_name n ((word_of n).first ∷ (word_of n).more)) (exponent_of (raised_of e)) 0 + exponent_at n (ns_of ns es) ≡ e =
        (λ i. cond (same i) (exponent_is e g.0 i) 0 + a i) ∙ omega arith in
        let rest : vector_of ns (power_at 0 (power_of n e) ∷ ns_of ns es) ≡ es = skip_vector n (power_at 0 (power_of n e)) ns (ns_of ns es) (name_bytes n f.0) d.1 ∙ k in
        (λ i. here i ∷ rest i)

-- where there is a degree there is a power
some_power : (ns : List (List ℕ)) (es : List ℕ) → length ns ≡ length es → (degree es ≡ 0 → ⊥) → powers_of ns es ≡ [] → ⊥
unfolding degree
some_power [] [] h d e = d refl
some_power [] (x ∷ es) h d e = absurd (omega (arith, h))
some_power (n ∷ ns) [] h d e = absurd (omega (arith, h))
some_power (n ∷ ns) (x ∷ es) h d e = by (eqb x 0) (zero_from x) (some_power ns es (omega (arith, h))) e
  where
    by : (b : Bool) → (b ≡ true → x ≡ 0) → ((degree es ≡ 0 → ⊥) → powers_of ns es ≡ [] → ⊥) → cond b (powers_of ns es) (power_of n x ∷ powers_of ns es) ≡ [] → ⊥
    by true z k e = k (λ q. d (omega (arith, z refl, q))) e
    by false z k e = cons_nil (power_of n x) (powers_of ns es) e
      where
        cons_nil : (p : Power) (ps : List Power) → p ∷ ps ≡ [] → ⊥
        cons_nil p ps e = cc

small_from : (es : List ℕ) → degree es < 2 ^ 32 → Small es
unfolding degree
small_from [] h = tt
small_from (e ∷ es) h = (omega (arith, h), small_from es (omega (arith, h)))

names_each : (ns : List (List ℕ)) → AreNames ns → Names_each ns
names_each [] h = tt
names_each (n ∷ ns) h = (h.0, names_each ns h.2)

-- ---- terms
abbrev omit : ℕ → ℕ → Bool
omit s d = eqb s 1 && not (eqb d 0)

abbrev product_for : List (List ℕ) → Term → Product
product_for names t = product_of (omit (unsigned_abs t.coefficient) (degree t.monomial)) (unsigned_abs t.coefficient) (powers_of names t.monomial)

omit_one : (s d : ℕ) → omit s d ≡ true → s ≡ 1
omit_one s d h = eqb_is s 1 (and_parts (eqb s 1) (not (eqb d 0)) h).0

omit_some : (s d : ℕ) → omit s d ≡ true → d ≡ 0 → ⊥
omit_some s d h e = true≢false (sym (and_parts (eqb s 1) (not (eqb d 0)) h).1 ∙ ap not (eq-eqb d 0 e))

size_text_is : (s d : ℕ) → cond (omit s d) [] (decimal s ∷ []) ≡ size_text s d
size_text_is s d = refl

size_small : (s : ℕ) → s ≤ greatest_norm → s < 10 ^ 64
size_small s h = omega (arith, h)

-- a term over the variables, within the limits
pub record IsPrintable (names : List (List ℕ)) (lim : ℕ) (t : Term) : Type 0 where
  pub long : length names ≡ length t.monomial
  pub degree : degree t.monomial ≤ lim
  pub size : unsigned_abs t.coefficient ≤ greatest_norm

abbrev pub ArePrintable : List (List ℕ) → ℕ → List Term → Type 0
ArePrintable names lim [] = Unit {0}
ArePrintable names lim (t ∷ ts) = IsPrintable names lim t × ArePrintable names lim ts

small_exponents : (names : List (List ℕ)) (lim : ℕ) (t : Term) → lim < 2 ^ 32 → IsPrintable names lim t → Small t.monomial
small_exponents names lim t l h = small_from t.monomial (omega (arith, l, h.degree))

product_formed : (names : List (List ℕ)) (lim : ℕ) (t : Term) → lim < 2 ^ 32 → AreNames names → IsPrintable names lim t → IsProduct (product_for names t)
product_formed names lim t l a h = is_product (omit (unsigned_abs t.coefficient) (degree t.monomial)) (unsigned_abs t.coefficient) (powers_of names t.monomial) (size_small _ h.size)
    (are_powers names t.monomial (names_each names a) (small_exponents names lim t l h))

product_text : (names : List (List ℕ)) (lim : ℕ) (t : Term) → lim < 2 ^ 32 → AreNames names → IsPrintable names lim t
    → spell_product (product_for names t) ≡ starred (size_text (unsigned_abs t.coefficient) (degree t.monomial) ++ power_texts names t.monomial)
product_text names lim t l a h =
    product_spelled (omit (unsigned_abs t.coefficient) (degree t.monomial)) (unsigned_abs t.coefficient) (powers_of names t.monomial) (size_small _ h.size)
    (λ o e. some_power names t.monomial h.long (omit_some _ _ o) e)
    ∙ ap (λ l. starred (size_text (unsigned_abs t.coefficient) (degree t.monomial) ++ l)) (powers_spelled names t.monomial (names_each names a) (small_exponents names lim t l h))

-- the summand that is read
abbrev read_at : Bool → ℕ → List (List ℕ) → Term → Summand
read_at m at names t = product_at m at (product_for names t)

read_powers : (m : Bool) (at : ℕ) (names : List (List ℕ)) (t : Term) → strip (read_at m at names t).powers ≡ ns_of names t.monomial
read_powers m at names t = product_strip m at (omit (unsigned_abs t.coefficient) (degree t.monomial)) (unsigned_abs t.coefficient) (powers_of names t.monomial)

read_size : (m : Bool) (at : ℕ) (names : List (List ℕ)) (lim : ℕ) (t : Term) → IsPrintable names lim t → size_of (read_at m at names t).number ≡ unsigned_abs t.coefficient
read_size m at names lim t h = product_size m at (omit (unsigned_abs t.coefficient) (degree t.monomial)) (unsigned_abs t.coefficient) (powers_of names t.monomial) (size_small _ h.size) (omit_one _ _)

read_degree : (m : Bool) (at : ℕ) (names : List (List ℕ)) (lim : ℕ) (t : Term) → lim < 2 ^ 32 → IsPrintable names lim t → written_degree (read_at m at names t).powers ≡ degree t.monomial
read_degree m at names lim t l h = sym (strip_degree (read_at m at names t).powers) ∙ ap written_degree (read_powers m at names t) ∙ degree_powers names t.monomial h.long (small_exponents names lim t l h)

read_known : (m : Bool) (at : ℕ) (names : List (List ℕ)) (t : Term) → AreNames names → unknown_in names (read_at m at names t).powers ≡ None
read_known m at names t a = strip_known names (read_at m at names t).powers (ap (unknown_in names) (read_powers m at names t) ∙ no_unknown names names t.monomial (known_self names) (names_each names a))

abbrev is_negative : ℤ → Bool
is_negative (pos n) = false
is_negative (negsuc n) = true

signed_abs : (z : ℤ) → signed (is_negative z) (unsigned_abs z) ≡ z
signed_abs (pos n) = refl
signed_abs (negsuc n) = refl

read_term : (at : ℕ) (names : List (List ℕ)) (lim : ℕ) (t : Term) → lim < 2 ^ 32 → AreNames names → IsPrintable names lim t → written_term names (read_at (is_negative t.coefficient) at names t) ≡ t
read_term at names lim t l a h =
    let m = is_negative t.coefficient in
    let s = read_at m at names t in
    let v : vector_of names s.powers ≡ t.monomial = sym (strip_vector names s.powers) ∙ ap (vector_of names) (read_powers m at names t) ∙ vector_powers names t.monomial h.long a (names_each names a) (small_exponents names lim t l h) in
    let c : signed s.negative (size_of s.number) ≡ t.coefficient =
    (λ i. signed (product_sign m at (omit (unsigned_abs t.coefficient) (degree t.monomial)) (unsigned_abs t.coefficient) (powers_of names t.monomial) i) (read_size m at names lim t h i)) ∙ signed_abs t.coefficient in
    (λ i. record { monomial = v i; coefficient = c i })

-- ---- the tree
abbrev mark_of : ℤ → Mark
mark_of (pos n) = record { byte = 43; blanks = [] }
mark_of (negsuc n) = record { byte = 45; blanks = [] }

abbrev first_mark : ℤ → Option Mark
first_mark (pos n) = None
first_mark (negsuc n) = Some (record { byte = 45; blanks = [] })

plus_class : class_of 43 ≡ Sign
unfolding class_of
plus_class = refl

minus_class : class_of 45 ≡ Sign
unfolding class_of
minus_class = refl

is_mark : (z : ℤ) → IsMark Sign (mark_of z)
is_mark (pos n) = record { byte = plus_class; blanks = tt }
is_mark (negsuc n) = record { byte = minus_class; blanks = tt }

is_first_mark : (z : ℤ) → IsFirstSign (first_mark z)
is_first_mark (pos n) = tt
is_first_mark (negsuc n) = record { byte = minus_class; blanks = tt }

mark_minus : (z : ℤ) → is_minus (Some (mark_of z)) ≡ is_negative z
mark_minus (pos n) = refl
mark_minus (negsuc n) = refl

first_minus : (z : ℤ) → is_minus (first_mark z) ≡ is_negative z
first_minus (pos n) = refl
first_minus (negsuc n) = refl

abbrev signed_of : List (List ℕ) → List Term → List Signed
signed_of names [] = []
signed_of names (t ∷ ts) = record { sign = mark_of t.coefficient; term = product_for names t } ∷ signed_of names ts

signed_formed : (names : List (List ℕ)) (lim : ℕ) (ts : List Term) → lim < 2 ^ 32 → AreNames names → ArePrintable names lim ts → AreSigned (signed_of names ts)
signed_formed names lim [] l a h = tt
signed_formed names lim (t ∷ ts) l a h = (is_mark t.coefficient, product_formed names lim t l a h.0, signed_formed names lim ts l a h.1)

mark_text : (z : ℤ) (x y : List ℕ) → spell_mark (mark_of z) ++ (x ++ y) ≡ (sign_text false z ++ x) ++ y
mark_text (pos n) x y = refl
mark_text (negsuc n) x y = refl

first_text : (z : ℤ) (x y : List ℕ) → spell_sign (first_mark z) ++ (x ++ y) ≡ (sign_text true z ++ x) ++ y
first_text (pos n) x y = refl
first_text (negsuc n) x y = refl

signed_text : (names : List (List ℕ)) (lim : ℕ) (ts : List Term) → lim < 2 ^ 32 → AreNames names → ArePrintable names lim ts → spell_signed (signed_of names ts) ≡ later_text names ts
signed_text names lim [] l a h = refl
signed_text names lim (t ∷ ts) l a h =
    (λ i. spell_mark (mark_of t.coefficient) ++ (product_text names lim t l a h.0 i ++ signed_text names lim ts l a h.1 i))
    ∙ mark_text t.coefficient (starred (size_text (unsigned_abs t.coefficient) (degree t.monomial) ++ power_texts names t.monomial)) (later_text names ts)

abbrev tree_of : List (List ℕ) → Term → List Term → Tree
tree_of names t ts = record { blanks = []; sign = first_mark t.coefficient; first = product_for names t; others = signed_of names ts }

tree_spells : (names : List (List ℕ)) (lim : ℕ) (t : Term) (ts : List Term) → lim < 2 ^ 32 → AreNames names → ArePrintable names lim (t ∷ ts) → Spells (tree_of names t ts) (text names (t ∷ ts))
tree_spells names lim t ts l a h = record {
  formed = record { blanks = tt; sign = is_first_mark t.coefficient; first = product_formed names lim t l a h.0; others = signed_formed names lim ts l a h.1 };
  spelled = sym ((λ i. spell_sign (first_mark t.coefficient) ++ (product_text names lim t l a h.0 i ++ signed_text names lim ts l a h.1 i))
      ∙ first_text t.coefficient (starred (size_text (unsigned_abs t.coefficient) (degree t.monomial) ++ power_texts names t.monomial)) (later_text names ts));
}

-- ---- what is read of it: summands that belong to the terms
record Reads (names : List (List ℕ)) (lim : ℕ) (s : Summand) (t : Term) : Type 0 where
  known : unknown_in names s.powers ≡ None
  degree : written_degree s.powers ≤ lim
  size : size_of s.number ≡ unsigned_abs t.coefficient
  small : unsigned_abs t.coefficient ≤ greatest_norm
  term : written_term names s ≡ t

abbrev AllRead : List (List ℕ) → ℕ → List Summand → List Term → Type 0
AllRead names lim [] [] = Unit {0}
AllRead names lim [] (t ∷ ts) = ⊥
AllRead names lim (s ∷ ss) [] = ⊥
AllRead names lim (s ∷ ss) (t ∷ ts) = Reads names lim s t × AllRead names lim ss ts

reads_one : (m : Bool) (at : ℕ) (names : List (List ℕ)) (lim : ℕ) (t : Term) → m ≡ is_negative t.coefficient → lim < 2 ^ 32 → AreNames names → IsPrintable names lim t → Reads names lim (read_at m at names t) t
reads_one m at names lim t e l a h = record {
  known = read_known m at names t a;
  degree = omega (arith, read_degree m at names lim t l h, h.degree);
  size = read_size m at names lim t h;
  small = h.size;
  term = ap (λ b. written_term names (read_at b at names t)) e ∙ read_term at names lim t l a h;
}

signed_read : (names : List (List ℕ)) (lim : ℕ) (ts : List Term) (at : ℕ) → lim < 2 ^ 32 → AreNames names → ArePrintable names lim ts → AllRead names lim (signed_at at (signed_of names ts)) ts
signed_read names lim [] at l a h = tt
signed_read names lim (t ∷ ts) at l a h = (reads_one _ _ names lim t (mark_minus t.coefficient) l a h.0, signed_read names lim ts _ l a h.1)

all_read : (names : List (List ℕ)) (lim : ℕ) (t : Term) (ts : List Term) → lim < 2 ^ 32 → AreNames names → ArePrintable names lim (t ∷ ts) → AllRead names lim (summands (tree_of names t ts)) (t ∷ ts)
all_read names lim t ts l a h = (reads_one _ _ names lim t (first_minus t.coefficient) l a h.0, signed_read names lim ts _ l a h.1)

-- ---- no fault
no_unknowns : (names : List (List ℕ)) (lim : ℕ) (ss : List Summand) (ts : List Term) → AllRead names lim ss ts → unknown names ss ≡ None
no_unknowns names lim [] [] h = refl
no_unknowns names lim [] (t ∷ ts) h = absurd h
no_unknowns names lim (s ∷ ss) [] h = absurd h
no_unknowns names lim (s ∷ ss) (t ∷ ts) h = (λ i. or_else (h.0.known i) (no_unknowns names lim ss ts h.1 i))

not_above : (a b : ℕ) → b ≤ a → ltb a b ≡ false
not_above a b h = le-ltb a b h

no_degree : (names : List (List ℕ)) (lim : ℕ) (ss : List Summand) (ts : List Term) → AllRead names lim ss ts → above_degree lim ss ≡ None
no_degree names lim [] [] h = refl
no_degree names lim [] (t ∷ ts) h = absurd h
no_degree names lim (s ∷ ss) [] h = absurd h
no_degree names lim (s ∷ ss) (t ∷ ts) h = ap (λ b. cond b (Some s.at) (above_degree lim ss)) (not_above lim (written_degree s.powers) h.0.degree) ∙ no_degree names lim ss ts h.1

no_big : (names : List (List ℕ)) (lim : ℕ) (ss : List Summand) (ts : List Term) → AllRead names lim ss ts → one_above ss ≡ None
no_big names lim [] [] h = refl
no_big names lim [] (t ∷ ts) h = absurd h
no_big names lim (s ∷ ss) [] h = absurd h
no_big names lim (s ∷ ss) (t ∷ ts) h = ap (λ b. cond b (Some s.at) (one_above ss)) (not_above greatest_norm (size_of s.number) (omega (arith, h.0.size, h.0.small))) ∙ no_big names lim ss ts h.1

no_sum : (names : List (List ℕ)) (lim : ℕ) (ss : List Summand) (ts : List Term) (sum : ℕ) → AllRead names lim ss ts → sum + norm ts ≤ greatest_norm → sum_above sum ss ≡ None
no_sum names lim [] [] sum h g = refl
no_sum names lim [] (t ∷ ts) sum h g = absurd h
no_sum names lim (s ∷ ss) [] sum h g = absurd h
no_sum names lim (s ∷ ss) (t ∷ ts) sum h g =
    ap (λ b. cond b (Some s.at) (sum_above (sum + size_of s.number) ss)) (not_above greatest_norm (sum + size_of s.number) (omega (arith, g, norm_cons t ts, h.0.size)))
    ∙ no_sum names lim ss ts (sum + size_of s.number) h.1 (omega (arith, g, norm_cons t ts, h.0.size))

no_coefficient : (names : List (List ℕ)) (p lim : ℕ) (ss : List Summand) (ts : List Term) → AllRead names lim ss ts → (p ≡ 0 → norm ts ≤ greatest_norm) → above_coefficient p ss ≡ None
no_coefficient names zero lim ss ts h g = no_sum names lim ss ts 0 h (omega (arith, g refl))
no_coefficient names (suc k) lim ss ts h g = no_big names lim ss ts h

terms_read : (names : List (List ℕ)) (lim : ℕ) (ss : List Summand) (ts : List Term) → AllRead names lim ss ts → written_terms names ss ≡ ts
terms_read names lim [] [] h = refl
terms_read names lim [] (t ∷ ts) h = absurd h
terms_read names lim (s ∷ ss) [] h = absurd h
terms_read names lim (s ∷ ss) (t ∷ ts) h = (λ i. h.0.term i ∷ terms_read names lim ss ts h.1 i)

-- the text of some terms within the limits denotes these terms
pub printed_denotes : (names : List (List ℕ)) (p lim : ℕ) (t : Term) (ts : List Term) → lim < 2 ^ 32 → AreNames names → ArePrintable names lim (t ∷ ts) → (p ≡ 0 → norm (t ∷ ts) ≤ greatest_norm)
    → IsDenoted names p lim (text names (t ∷ ts)) (Ok (t ∷ ts))
printed_denotes names p lim t ts l a h n =
    let r = all_read names lim t ts l a h in
    let ss = summands (tree_of names t ts) in (
      tree_of names t ts,
      tree_spells names lim t ts l a h,
      (λ i. refused (λ at. UnknownName at) (no_unknowns names lim ss (t ∷ ts) r i)
          (refused (λ at. DegreeBound at) (no_degree names lim ss (t ∷ ts) r i) (refused (λ at. CoefficientBound at) (no_coefficient names p lim ss (t ∷ ts) r n i) (Ok (terms_read names lim ss (t ∷ ts) r i))))),
    )
