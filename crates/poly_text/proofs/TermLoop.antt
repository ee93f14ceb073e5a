-- The loop over the terms of a text.
use Rattle.std.proofs.Common.{◌≡◌, ◌<◌, ◌≤◌, ◌+◌, ℕ, ℤ, zero, suc, Bool, true, false, min, cond, ltb, eqb, List, [], ◌∷◌, ◌++◌, length, drop, get_or, Option, Some, None, Result, Ok, Err, IfOk, refl, sym, ◌∙◌, ap, subst, append_assoc, append-nil, length-drop, length-append, arith}
use Rattle.std.specs.Prelude.{MatchOption, is_some, is_none, not}
use Rattle.std.proofs.lemmas.List.{drop_more, drop_all, map-append}
use Rattle.std.proofs.lemmas.Bool.Decides.{nat_tests}
use Rattle.sdmp_laws.specs.Limits.{greatest_norm}
use Rattle.sdmp_laws.specs.Poly.{Term}
use Rattle.sdmp_laws.specs.Ring.{red}
use Rattle.canonical_terms.specs.View.{sum_of}
use Rattle.canonical_terms.specs.declared.term.TermOf.{TermOf}
use Rattle.text_laws.specs.Grammar.{Mark, Factor, Head, Numeral, Symbol, Product, Signed, Tree, IsHead, IsProduct, AreSigned, IsFirstSign, spell_mark, spell_head, spell_factors, spell_product, spell_signed, spell_sign, Spells}
use Rattle.text_laws.specs.Summands.{Summand, unknown, product_at, signed_at, summands, is_minus, written_degree, above_degree, size_of, sum_above, one_above, above_coefficient, or_else, vector_of, signed, written_term, written_terms, refused, verdict}
use Rattle.text_laws.specs.Reading.{is_blank, is_sign}
use Rattle.text_laws.specs.declared.ByteClass.{ByteClass}
use Rattle.text_laws.specs.declared.ByteClass.TheVariants.{Digit, Letter}
use Rattle.text_laws.specs.declared.TextFault.{TextFault}
use Rattle.text_laws.specs.declared.TextFault.TheVariants as faults
use Rattle.text_laws.proofs.Fronts.{StopsAt, blanks_are}
use Rattle.poly_text.specs.Tokens.{after, sign_front, cap}
use Rattle.poly_text.specs.ReadsTerms.{weight, minus_front, ReadsTerm, ReadsTree, IsWithin, pushed, reduced}
use Rattle.poly_text.specs.declared.factors.UnknownName.{UnknownName}
use Rattle.poly_text.specs.declared.terms.TermRead.{TermRead}
use Rattle.poly_text.proofs.TokenFronts.{after_front}
use Rattle.poly_text.proofs.FactorLoop.{place}

-- ---- a term's place
at_is : (m : Bool) (at : ℕ) (t : Product) → (product_at m at t).at ≡ at
at_is m at t = by t.head t.factors
  where
    by : (h : Head) (fs : List Factor) → (product_at m at (record { head = h; factors = fs })).at ≡ at
    by (Numeral w) fs = refl
    by (Symbol p) fs = refl

-- ---- both kinds of coefficient faults
abbrev pub above_from : ℕ → ℕ → List Summand → Option ℕ
above_from p sum [] = None
above_from p sum (s ∷ ss) = cond (ltb greatest_norm (weight p (sum + size_of s.number) (size_of s.number))) (Some s.at) (above_from p (sum + size_of s.number) ss)

from_sum : (sum : ℕ) (ss : List Summand) → above_from 0 sum ss ≡ sum_above sum ss
from_sum sum [] = refl
from_sum sum (s ∷ ss) = ap (λ r. cond (ltb greatest_norm (sum + size_of s.number)) (Some s.at) r) (from_sum (sum + size_of s.number) ss)

from_one : (k sum : ℕ) (ss : List Summand) → above_from (suc k) sum ss ≡ one_above ss
from_one k sum [] = refl
from_one k sum (s ∷ ss) =
    (λ j. cond (ltb greatest_norm (cond (suc_zero j) (sum + size_of s.number) (size_of s.number))) (Some s.at) (from_one k (sum + size_of s.number) ss j))
  where
    suc_zero : eqb (suc k) 0 ≡ false
    suc_zero = grind (arith, nat_tests)

from_is : (p : ℕ) (ss : List Summand) → above_from p 0 ss ≡ above_coefficient p ss
from_is zero ss = from_sum 0 ss
from_is (suc k) ss = from_one k 0 ss

chain : (first : Option ℕ) (c : Bool) (at : ℕ) (rest : Option ℕ) → or_else first (cond c (Some at) rest) ≡ or_else (or_else first (cond c (Some at) None)) rest
chain (Some k) c at rest = refl
chain None true at rest = refl
chain None false at rest = refl

or_none : (o : Option ℕ) → or_else o None ≡ o
or_none (Some k) = refl
or_none None = refl

product_stop : (p : ByteClass → Bool) → p Digit ≡ false → p Letter ≡ false → (t : Product) (x : List ℕ) → IsProduct t → StopsAt p (spell_product t ++ x)
product_stop p d l t x i = by t.head t.factors i.head
  where
    by : (h : Head) (fs : List Factor) → IsHead h → StopsAt p ((spell_head h ++ spell_factors fs) ++ x)
    by (Numeral w) fs g = ap p g.first ∙ d
    by (Symbol q) fs g = ap p g.name.first ∙ l

-- ---- a term is next, then others
abbrev pub listed : Bool → ℕ → Product → List Signed → List Summand
listed m i t ss = product_at m i t ∷ signed_at (i + length (spell_product t)) ss

-- what was found of the terms before these ones: their sum, the first faults, and the terms
pub record Found (names : List (List ℕ)) (p lim : ℕ) (all left : List Summand) (sum : ℕ) (deg coef : Option ℕ) (P : List Term) : Type 0 where
  pub total : ℕ
  pub total_is : sum ≡ min total cap
  pub unknown : unknown names all ≡ unknown names left
  pub degree : above_degree lim all ≡ or_else deg (above_degree lim left)
  pub coefficient : above_from p 0 all ≡ or_else coef (above_from p total left)
  pub terms : deg ≡ None → coef ≡ None → P ++ reduced p (written_terms names left) ≡ reduced p (written_terms names all)

pub record TermsLeft (names : List (List ℕ)) (bytes : List ℕ) (p lim : ℕ) (all : List Summand) (i : ℕ) (negative : Bool) (sum : ℕ) (deg coef : Option ℕ) (P : List Term) : Type 0 where
  pub product : Product
  pub others : List Signed
  pub is_product : IsProduct product
  pub are_signed : AreSigned others
  pub spelled : drop i bytes ≡ spell_product product ++ spell_signed others
  pub found : Found names p lim all (listed negative i product others) sum deg coef P

-- signed terms are next
pub record SignedLeft (names : List (List ℕ)) (bytes : List ℕ) (p lim : ℕ) (all : List Summand) (i sum : ℕ) (deg coef : Option ℕ) (P : List Term) : Type 0 where
  pub others : List Signed
  pub are_signed : AreSigned others
  pub spelled : drop i bytes ≡ spell_signed others
  pub found : Found names p lim all (signed_at i others) sum deg coef P

-- the first name of the term is unknown
pub unknown_at : {M E : Type 0} (vector : M → List ℕ) (value : E → ℤ) (names : List (List ℕ)) (bytes : List ℕ) (p lim : ℕ) (all : List Summand) (i : ℕ) (negative : Bool) (sum : ℕ) (deg coef : Option ℕ) (P : List Term) (u : UnknownName)
    (l : TermsLeft names bytes p lim all i negative sum deg coef P) → ReadsTerm vector value names p lim bytes (product_at negative i l.product) (spell_signed l.others) l.found.total (Err u) → unknown names all ≡ Some u.at
unknown_at vector value names bytes p lim all i negative sum deg coef P u l a =
    l.found.unknown ∙ ap (λ o. or_else o (unknown names (signed_at (i + length (spell_product l.product)) l.others))) a

-- ---- one step
below_false : (a b : ℕ) → b ≤ a → ltb a b ≡ false
below_false a b h = grind (arith, nat_tests)

below_true : (a b : ℕ) → a < b → ltb a b ≡ true
below_true a b h = grind (arith, nat_tests)

mono_fault : {M : Type 0} (lim d : ℕ) (Q : M → Type 0) (o : Option M) → MatchOption o (lim < d) (λ m. (d ≤ lim) × Q m) → ltb lim d ≡ is_none o
mono_fault lim d Q None h = below_true lim d h
mono_fault lim d Q (Some m) h = below_false lim d h.0

pub none_is : {X : Type 0} (o : Option X) (b : Bool) → is_some o ≡ not b → b ≡ is_none o
none_is None true e = refl
none_is None false e = cc
none_is (Some x) true e = cc
none_is (Some x) false e = refl

-- without a fault the term was pushed
pushes : {M E : Type 0} (vector : M → List ℕ) (value : E → ℤ) (p lim w d : ℕ) (t : Term) (o : Option M) (e : Option E) (left all P : List Term) → MatchOption o (lim < d) (λ m. (d ≤ lim) × (vector m ≡ t.monomial))
    → MatchOption e (greatest_norm < w) (λ a. (w ≤ greatest_norm) × (value a ≡ red p t.coefficient)) → is_none o ≡ false → is_none e ≡ false
    → P ++ reduced p (t ∷ left) ≡ all → (P ++ sum_of vector value (pushed o e)) ++ reduced p left ≡ all
pushes vector value p lim w d t None e left all P h g n m z = cc
pushes vector value p lim w d t (Some o) None left all P h g n m z = cc
pushes vector value p lim w d t (Some o) (Some e) left all P h g n m z =
    (λ j. (P ++ record { monomial = h.1 j; coefficient = g.1 j } ∷ []) ++ reduced p left) ∙ append_assoc P (record { monomial = t.monomial; coefficient = red p t.coefficient } ∷ []) (reduced p left) ∙ z

first_none : (first : Option ℕ) (at : ℕ) (b : Bool) (o : Option ℕ) → o ≡ or_else first (cond b (Some at) None) → o ≡ None → (first ≡ None) × (b ≡ false)
first_none (Some k) at b o e n = absurd (some_none (sym e ∙ n))
  where
    some_none : Some k ≡ None → ⊥
    some_none e = cc
first_none None at true o e n = absurd (some_none (sym e ∙ n))
  where
    some_none : Some at ≡ None → ⊥
    some_none e = cc
first_none None at false o e n = (refl, refl)

pub step : {M E : Type 0} (vector : M → List ℕ) (value : E → ℤ) (names : List (List ℕ)) (bytes : List ℕ) (p lim : ℕ) (all : List Summand) (i : ℕ) (negative : Bool) (sum : ℕ) (deg coef deg' coef' : Option ℕ) (v v' : List (TermOf M E)) (r : TermRead M E)
    (l : TermsLeft names bytes p lim all i negative sum deg coef (sum_of vector value v)) → i ≤ length bytes → i ≤ r.next → r.next ≤ length bytes
    → ReadsTerm vector value names p lim bytes (product_at negative i l.product) (spell_signed l.others) l.found.total (Ok r)
    → deg' ≡ or_else deg (cond (is_none r.mono) (Some i) None) → coef' ≡ or_else coef (cond (is_none r.coef) (Some i) None) → v' ≡ v ++ pushed r.mono r.coef
    → SignedLeft names bytes p lim all r.next r.sum deg' coef' (sum_of vector value v')
step vector value names bytes p lim all i negative sum deg coef deg' coef' v v' r l within from bound a de ce ve =
    let P : List ℕ = spell_product l.product in
    let S : List ℕ = spell_signed l.others in
    let s : Summand = product_at negative i l.product in
    let f = l.found in
    let size : ℕ = size_of s.number in
    let w : ℕ = weight p (f.total + size) size in
    let long : length (drop i bytes) ≡ length P + length S = ap length l.spelled ∙ length-append P S in
    let q : r.next ≡ i + length P = omega (arith, long, length-drop i bytes, length-drop r.next bytes, ap length a.next, within, bound) in
    let G : ℕ → List Summand = λ k. signed_at k l.others in
    let back : i ≡ s.at = sym (at_is negative i l.product) in
    let d : is_none r.mono ≡ ltb lim (written_degree s.powers) = sym (mono_fault lim (written_degree s.powers) (λ m. vector m ≡ vector_of names s.powers) r.mono a.mono) in
    let k : is_none r.coef ≡ ltb greatest_norm w = sym (mono_fault greatest_norm w (λ c. value c ≡ red p (signed s.negative size)) r.coef a.coef) in
    let dd : deg' ≡ or_else deg (cond (ltb lim (written_degree s.powers)) (Some s.at) None) = de ∙ (λ j. or_else deg (cond (d j) (Some (back j)) None)) in
    let kk : coef' ≡ or_else coef (cond (ltb greatest_norm w) (Some s.at) None) = ce ∙ (λ j. or_else coef (cond (k j) (Some (back j)) None)) in
    let split : sum_of vector value v' ≡ sum_of vector value v ++ sum_of vector value (pushed r.mono r.coef) = ap (sum_of vector value) ve ∙ map-append _ v (pushed r.mono r.coef) in
    record {
      others = l.others;
      are_signed = l.are_signed;
      spelled = a.next;
      found = record {
        total = f.total + size;
        total_is = a.sum;
        unknown = f.unknown ∙ ap (λ o. or_else o (unknown names (G (i + length P)))) a.known ∙ ap (λ k. unknown names (G k)) (sym q);
        degree = f.degree ∙ chain deg (ltb lim (written_degree s.powers)) s.at (above_degree lim (G (i + length P))) ∙ ap (λ o. or_else o (above_degree lim (G (i + length P)))) (sym dd)
            ∙ ap (λ k. or_else deg' (above_degree lim (G k))) (sym q);
        coefficient = f.coefficient ∙ chain coef (ltb greatest_norm w) s.at (above_from p (f.total + size) (G (i + length P))) ∙ ap (λ o. or_else o (above_from p (f.total + size) (G (i + length P)))) (sym kk)
            ∙ ap (λ k. or_else coef' (above_from p (f.total + size) (G k))) (sym q);
        terms = λ dn cn.
            let x = first_none deg i (is_none r.mono) deg' de dn in
            let y = first_none coef i (is_none r.coef) coef' ce cn in
            (λ j. split j ++ reduced p (written_terms names (G (q j))))
            ∙ pushes vector value p lim w (written_degree s.powers) (written_term names s) r.mono r.coef (written_terms names (G (i + length P))) (reduced p (written_terms names all)) (sum_of vector value v) a.mono a.coef x.1 y.1 (f.terms x.0 y.0);
      };
    }

-- the same, where the terms that are left are the same
moved : (names : List (List ℕ)) (p lim : ℕ) (all left left' : List Summand) (sum : ℕ) (deg coef : Option ℕ) (P : List Term) → left ≡ left' → Found names p lim all left sum deg coef P → Found names p lim all left' sum deg coef P
moved names p lim all left left' sum deg coef P e f = subst (λ ss. Found names p lim all ss sum deg coef P) e f

pub next_signed : (names : List (List ℕ)) (bytes : List ℕ) (p lim : ℕ) (all : List Summand) (i at : ℕ) (negative : Bool) (sum : ℕ) (deg coef : Option ℕ) (P : List Term) → SignedLeft names bytes p lim all i sum deg coef P
    → i < length bytes → at ≤ length bytes → drop at bytes ≡ after is_blank (drop (i + 1) bytes) → negative ≡ eqb (get_or bytes i 0) 45 → TermsLeft names bytes p lim all at negative sum deg coef P
next_signed names bytes p lim all i at negative sum deg coef P l h bound a m = by l.others l.are_signed l.spelled l.found
  where
    by : (ss : List Signed) → AreSigned ss → drop i bytes ≡ spell_signed ss → Found names p lim all (signed_at i ss) sum deg coef P → TermsLeft names bytes p lim all at negative sum deg coef P
    by [] f e u = absurd (omega (arith, h, length-drop i bytes, ap length e))
    by (g ∷ ss) f e u =
        let X : List ℕ = spell_product g.term ++ spell_signed ss in
        let both = sym (drop_more bytes i 0 h) ∙ e in
        let behind : drop (i + 1) bytes ≡ g.sign.blanks ++ X = ap (drop 1) both in
        let minus : is_minus (Some g.sign) ≡ negative = sym (m ∙ ap (λ l. eqb (get_or l 0 0) 45) both) in
        let here : drop at bytes ≡ X = a ∙ ap (after is_blank) behind ∙ after_front is_blank g.sign.blanks X (blanks_are g.sign.blanks f.0.blanks) (product_stop is_blank refl refl g.term (spell_signed ss) f.1) in
        let q : at ≡ i + length (spell_mark g.sign) = place bytes X i at (length (spell_mark g.sign)) h bound (ap length e ∙ length-append (spell_mark g.sign) X) here in
        record {
          product = g.term;
          others = ss;
          is_product = f.1;
          are_signed = f.2;
          spelled = here;
          found = moved names p lim all (signed_at i (g ∷ ss)) (listed negative at g.term ss) sum deg coef P (λ j. listed (minus j) (sym q j) g.term ss) u;
        }

-- ---- the first term
sign_stop : (m : Option Mark) (t : Product) (x : List ℕ) → IsFirstSign m → IsProduct t → StopsAt is_blank (spell_sign m ++ (spell_product t ++ x))
sign_stop None t x i j = product_stop is_blank refl refl t x j
sign_stop (Some m) t x i j = ap is_blank i.byte

not_sign : (x : List ℕ) → StopsAt is_sign x → (sign_front x ≡ x) × (minus_front x ≡ false)
not_sign [] h = (refl, refl)
not_sign (b ∷ bs) h = (ap (λ c. cond c (after is_blank bs) (b ∷ bs)) h, ap (λ c. cond c (eqb b 45) false) h)

behind_sign : (m : Option Mark) (t : Product) (x : List ℕ) → IsFirstSign m → IsProduct t
    → (sign_front (spell_sign m ++ (spell_product t ++ x)) ≡ spell_product t ++ x) × (minus_front (spell_sign m ++ (spell_product t ++ x)) ≡ is_minus m)
behind_sign None t x i j = not_sign (spell_product t ++ x) (product_stop is_sign refl refl t x j)
behind_sign (Some m) t x i j = (
  ap (λ c. cond (is_sign c) (after is_blank (m.blanks ++ (spell_product t ++ x))) (m.byte ∷ (m.blanks ++ (spell_product t ++ x)))) i.byte
      ∙ after_front is_blank m.blanks (spell_product t ++ x) (blanks_are m.blanks i.blanks) (product_stop is_blank refl refl t x j),
  ap (λ c. cond (is_sign c) (eqb m.byte 45) false) i.byte,
)

pub begins : (names : List (List ℕ)) (bytes : List ℕ) (p lim : ℕ) (t : Tree) (i : ℕ) (negative : Bool) → Spells t bytes → i ≤ length bytes → drop i bytes ≡ sign_front (after is_blank bytes)
    → negative ≡ minus_front (after is_blank bytes) → TermsLeft names bytes p lim (summands t) i negative 0 None None []
begins names bytes p lim t i negative s bound a m =
    let X : List ℕ = spell_product t.first ++ spell_signed t.others in
    let f = s.formed in
    let front : after is_blank bytes ≡ spell_sign t.sign ++ X =
    ap (after is_blank) s.spelled ∙ after_front is_blank t.blanks (spell_sign t.sign ++ X) (blanks_are t.blanks f.blanks) (sign_stop t.sign t.first (spell_signed t.others) f.sign f.first) in
    let b = behind_sign t.sign t.first (spell_signed t.others) f.sign f.first in
    let here : drop i bytes ≡ X = a ∙ ap sign_front front ∙ b.0 in
    let minus : is_minus t.sign ≡ negative = sym (m ∙ ap minus_front front ∙ b.1) in
    let long : length bytes ≡ length t.blanks + (length (spell_sign t.sign) + length X) = ap length s.spelled ∙ length-append t.blanks (spell_sign t.sign ++ X) ∙ ap (λ n. length t.blanks + n) (length-append (spell_sign t.sign) X) in
    let q : length t.blanks + length (spell_sign t.sign) ≡ i = omega (arith, long, length-drop i bytes, ap length here, bound) in
    record {
      product = t.first;
      others = t.others;
      is_product = f.first;
      are_signed = f.others;
      spelled = here;
      found = moved names p lim (summands t) (summands t) (listed negative i t.first t.others) 0 None None [] (λ j. listed (minus j) (q j) t.first t.others)
          (record { total = 0; total_is = omega arith; unknown = refl; degree = refl; coefficient = refl; terms = λ _ _. refl });
    }

-- ---- the end
pub fault_unknown : (names : List (List ℕ)) (p lim u : ℕ) (t : Tree) → unknown names (summands t) ≡ Some u → verdict names p lim (summands t) ≡ Err (faults.UnknownName u)
fault_unknown names p lim u t e = ap (λ o. refused (λ at. faults.UnknownName at) o (refused (λ at. faults.DegreeBound at) (above_degree lim (summands t)) (refused (λ at. faults.CoefficientBound at) (above_coefficient p (summands t)) (Ok (written_terms names (summands t)))))) e

-- all terms were read
pub record Ended (names : List (List ℕ)) (p lim : ℕ) (t : Tree) (deg coef : Option ℕ) (P : List Term) : Type 0 where
  pub verdict : verdict names p lim (summands t) ≡ refused (λ at. faults.DegreeBound at) deg (refused (λ at. faults.CoefficientBound at) coef (Ok (written_terms names (summands t))))
  pub terms : deg ≡ None → coef ≡ None → P ≡ reduced p (written_terms names (summands t))

pub ended : (names : List (List ℕ)) (bytes : List ℕ) (p lim : ℕ) (t : Tree) (i sum : ℕ) (deg coef : Option ℕ) (P : List Term) → SignedLeft names bytes p lim (summands t) i sum deg coef P → length bytes ≤ i → Ended names p lim t deg coef P
ended names bytes p lim t i sum deg coef P l h = by l.others l.spelled l.found
  where
    nil_cons : (x : ℕ) (xs : List ℕ) → [] ≡ x ∷ xs → ⊥
    nil_cons x xs e = cc

    by : (ss : List Signed) → drop i bytes ≡ spell_signed ss → Found names p lim (summands t) (signed_at i ss) sum deg coef P → Ended names p lim t deg coef P
    by [] e f =
        let d = f.degree ∙ or_none deg in
        let c = sym (from_is p (summands t)) ∙ f.coefficient ∙ or_none coef in
        record {
          verdict = λ j. refused (λ at. faults.UnknownName at) (f.unknown j) (refused (λ at. faults.DegreeBound at) (d j) (refused (λ at. faults.CoefficientBound at) (c j) (Ok (written_terms names (summands t)))));
          terms = λ dn cn. sym (append-nil P) ∙ f.terms dn cn;
        }
    by (g ∷ ss) e f = absurd (nil_cons g.sign.byte (g.sign.blanks ++ (spell_product g.term ++ spell_signed ss)) (sym (drop_all i bytes h) ∙ e))

fault_degree : (names : List (List ℕ)) (p lim at : ℕ) (t : Tree) (deg coef : Option ℕ) (P : List Term) → deg ≡ Some at → Ended names p lim t deg coef P → verdict names p lim (summands t) ≡ Err (faults.DegreeBound at)
fault_degree names p lim at t deg coef P d e = e.verdict ∙ ap (λ o. refused (λ k. faults.DegreeBound k) o (refused (λ k. faults.CoefficientBound k) coef (Ok (written_terms names (summands t))))) d

fault_coefficient : (names : List (List ℕ)) (p lim at : ℕ) (t : Tree) (deg coef : Option ℕ) (P : List Term) → deg ≡ None → coef ≡ Some at → Ended names p lim t deg coef P → verdict names p lim (summands t) ≡ Err (faults.CoefficientBound at)
fault_coefficient names p lim at t deg coef P d c e = e.verdict ∙ (λ j. refused (λ k. faults.DegreeBound k) (d j) (refused (λ k. faults.CoefficientBound k) (c j) (Ok (written_terms names (summands t)))))

no_fault : (names : List (List ℕ)) (p lim : ℕ) (t : Tree) (deg coef : Option ℕ) (P : List Term) → deg ≡ None → coef ≡ None → Ended names p lim t deg coef P
    → (verdict names p lim (summands t) ≡ Ok (written_terms names (summands t))) × (P ≡ reduced p (written_terms names (summands t)))
no_fault names p lim t deg coef P d c e = (e.verdict ∙ (λ j. refused (λ k. faults.DegreeBound k) (d j) (refused (λ k. faults.CoefficientBound k) (c j) (Ok (written_terms names (summands t))))), e.terms d c)

-- the terms that were read, or the first place with a fault, are what the tree gives
pub judged : {X : Type 0} (terms_in : X → List Term) (names : List (List ℕ)) (p lim : ℕ) (t : Tree) (deg coef : Option ℕ) (v : X) (r : Result X TextFault) → Ended names p lim t deg coef (terms_in v) → IsWithin deg coef v r → ReadsTree terms_in names p lim t r
judged terms_in names p lim t deg coef v (Ok w) e (same, d, c) = subst (λ x. ReadsTree terms_in names p lim t (Ok x)) (sym same) (no_fault names p lim t deg coef (terms_in v) d c e)
judged terms_in names p lim t deg coef v (Err (faults.DegreeBound at)) e d = fault_degree names p lim at t deg coef (terms_in v) d e
judged terms_in names p lim t deg coef v (Err (faults.CoefficientBound at)) e (d, c) = fault_coefficient names p lim at t deg coef (terms_in v) d c e
judged terms_in names p lim t deg coef v (Err (faults.Syntax at)) e h = absurd h
judged terms_in names p lim t deg coef v (Err (faults.UnknownName at)) e h = absurd h
judged terms_in names p lim t deg coef v (Err faults.NoMemory) e h = absurd h

-- what holds of the terms holds of what is given of them
pub within_too : {X : Type 0} (P : X → Type 0) (deg coef : Option ℕ) (v : X) (r : Result X TextFault) → IsWithin deg coef v r → P v → IfOk r P
within_too P deg coef v (Ok w) h p = subst P (sym h.0) p
within_too P deg coef v (Err f) h p = tt
