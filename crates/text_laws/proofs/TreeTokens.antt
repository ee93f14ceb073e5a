-- The tokens of a tree's spelling, and the terms that are read off them.
use Rattle.std.proofs.Common.{◌≡◌, ◌+◌, ℕ, suc, Bool, true, false, eqb, cond, List, [], ◌∷◌, ◌++◌, length, Option, Some, None, refl, sym, ◌∙◌, ap, inl, inr, append_assoc, length-append, arith}
use Rattle.std.specs.Str.Parse.{digits_value}
use Rattle.text_laws.specs.Bytes.{class_of}
use Rattle.text_laws.specs.Grammar.{Mark, Word, Raised, Power, Factor, Head, Numeral, Symbol, Product, Signed, Tree, Each, AreBlanks, IsMark, IsNumber, IsName, IsRaised, IsPower, AreFactors, IsHead, IsProduct, AreSigned, IsFirstSign, IsTree, spell_mark, spell_word, spell_raised, spell_power, spell_factors, spell_head, spell_product, spell_signed, spell_sign, spelling, EndsTerm, EndsPower}
use Rattle.text_laws.specs.Summands.{exponent_of, power_at, factors_at, product_at, is_minus, signed_at, summands}
use Rattle.text_laws.specs.Reading.{is_blank, is_sign, is_caret, is_word, Token, word_front, tokens, before_sign, exponent_before, powers_in, number_in, summand_in, signed_in, summands_in}
use Rattle.text_laws.specs.declared.ByteClass.TheVariants.{Sign}
use Rattle.text_laws.proofs.Fronts.{StopsAt, digits_words, words_are, ends_stop, blanks_stop, raised_stop}

-- ---- the tokens of bytes
front_is : (ds rest : List ℕ) → Each (λ c. is_word c ≡ true) ds → StopsAt is_word rest → word_front (ds ++ rest) ≡ ds
front_is [] [] h g = refl
front_is [] (b ∷ rest) h g = rw g
front_is (d ∷ ds) rest h g = rw h.0 (ap (λ l. d ∷ l) (front_is ds rest h.1 g))

within_word : (ds rest : List ℕ) (at : ℕ) → Each (λ c. is_word c ≡ true) ds → tokens true at (ds ++ rest) ≡ tokens true (at + length ds) rest
within_word [] rest at h = ap (λ k. tokens true k rest) (omega arith)
within_word (d ∷ ds) rest at h = rw h.0 (within_word ds rest (suc at) h.1 ∙ ap (λ k. tokens true k rest) (omega arith))

behind_word : (rest : List ℕ) (at : ℕ) → StopsAt is_word rest → tokens true at rest ≡ tokens false at rest
behind_word [] at h = refl
behind_word (b ∷ rest) at h = rw h

over_blanks : (bl rest : List ℕ) (at : ℕ) → AreBlanks bl → tokens false at (bl ++ rest) ≡ tokens false (at + length bl) rest
over_blanks [] rest at h = ap (λ k. tokens false k rest) (omega arith)
over_blanks (b ∷ bl) rest at h = rw h.0 (over_blanks bl rest (suc at) h.1 ∙ ap (λ k. tokens false k rest) (omega arith))

-- ---- the tokens of trees
abbrev word_token : ℕ → Word → Token
word_token at w = record { at = at; first = w.first; more = w.more }

abbrev mark_token : ℕ → Mark → Token
mark_token at m = record { at = at; first = m.byte; more = [] }

word_tokens : (w : Word) (rest : List ℕ) (at : ℕ) → is_word (class_of w.first) ≡ true → Each (λ c. is_word c ≡ true) w.more → AreBlanks w.blanks → StopsAt is_word rest
    → tokens false at (spell_word w ++ rest) ≡ word_token at w ∷ tokens false (at + length (spell_word w)) rest
word_tokens w rest at f m b s =
    let stop : StopsAt is_word (w.blanks ++ rest) = blanks_stop is_word refl w.blanks rest b s in
    let e : (w.more ++ w.blanks) ++ rest ≡ w.more ++ (w.blanks ++ rest) = append_assoc w.more w.blanks rest in
    let n : length (spell_word w) ≡ suc (length w.more + length w.blanks) = ap suc (length-append w.more w.blanks) in
    rw f (
    (λ i. record { at = at; first = w.first; more = (ap word_front e ∙ front_is w.more (w.blanks ++ rest) m stop) i } ∷ tokens true (suc at) (e i))
    ∙ ap (λ l. word_token at w ∷ l) (
    within_word w.more (w.blanks ++ rest) (suc at) m
    ∙ behind_word (w.blanks ++ rest) (suc at + length w.more) stop
    ∙ over_blanks w.blanks rest (suc at + length w.more) b
    ∙ ap (λ k. tokens false k rest) (omega (arith, n))
    )
    )

number_tokens : (w : Word) (rest : List ℕ) (at : ℕ) → IsNumber w → StopsAt is_word rest → tokens false at (spell_word w ++ rest) ≡ word_token at w ∷ tokens false (at + length (spell_word w)) rest
number_tokens w rest at h s = word_tokens w rest at (ap is_word h.first) (digits_words w.more h.more) h.blanks s

name_tokens : (w : Word) (rest : List ℕ) (at : ℕ) → IsName w → StopsAt is_word rest → tokens false at (spell_word w ++ rest) ≡ word_token at w ∷ tokens false (at + length (spell_word w)) rest
name_tokens w rest at h s = word_tokens w rest at (ap is_word h.first) (words_are w.more h.more) h.blanks s

mark_tokens : (m : Mark) (rest : List ℕ) (at : ℕ) → is_word (class_of m.byte) ≡ false → is_blank (class_of m.byte) ≡ false → AreBlanks m.blanks
    → tokens false at (spell_mark m ++ rest) ≡ mark_token at m ∷ tokens false (at + length (spell_mark m)) rest
mark_tokens m rest at w b h = rw (w, b) (ap (λ l. mark_token at m ∷ l) (over_blanks m.blanks rest (suc at) h ∙ ap (λ k. tokens false k rest) (omega arith)))

abbrev raised_tokens : ℕ → Option Raised → List Token
raised_tokens at None = []
raised_tokens at (Some r) = mark_token at r.caret ∷ word_token (at + length (spell_mark r.caret)) r.number ∷ []

abbrev power_tokens : ℕ → Power → List Token
power_tokens at p = word_token at p.name ∷ raised_tokens (at + length (spell_word p.name)) p.raised

abbrev factors_tokens : ℕ → List Factor → List Token
factors_tokens at [] = []
factors_tokens at (f ∷ fs) =
    let start = at + length (spell_mark f.star) in
    mark_token at f.star ∷ (power_tokens start f.power ++ factors_tokens (start + length (spell_power f.power)) fs)

abbrev head_tokens : ℕ → Head → List Token
head_tokens at (Numeral w) = word_token at w ∷ []
head_tokens at (Symbol p) = power_tokens at p

abbrev product_tokens : ℕ → Product → List Token
product_tokens at t = head_tokens at t.head ++ factors_tokens (at + length (spell_head t.head)) t.factors

abbrev signed_tokens : ℕ → List Signed → List Token
signed_tokens at [] = []
signed_tokens at (s ∷ ss) =
    let start = at + length (spell_mark s.sign) in
    mark_token at s.sign ∷ (product_tokens start s.term ++ signed_tokens (start + length (spell_product s.term)) ss)

-- two parts of a text, one behind the other
both : (P x y rest : List ℕ) (X Y : List Token) (at : ℕ) → P ≡ x ++ y → tokens false at (x ++ (y ++ rest)) ≡ X ++ tokens false (at + length x) (y ++ rest)
    → tokens false (at + length x) (y ++ rest) ≡ Y ++ tokens false ((at + length x) + length y) rest → tokens false at (P ++ rest) ≡ (X ++ Y) ++ tokens false (at + length P) rest
both P x y rest X Y at p e f =
    let n : length P ≡ length x + length y = ap length p ∙ length-append x y in
    (λ i. tokens false at (p i ++ rest)) ∙ ap (tokens false at) (append_assoc x y rest) ∙ e ∙ ap (λ l. X ++ l) (f ∙ ap (λ k. Y ++ tokens false k rest) (omega (arith, n)))
    ∙ sym (append_assoc X Y (tokens false (at + length P) rest))

tokens_raised : (r : Option Raised) (rest : List ℕ) (at : ℕ) → IsRaised r → EndsPower rest → tokens false at (spell_raised r ++ rest) ≡ raised_tokens at r ++ tokens false (at + length (spell_raised r)) rest
tokens_raised None rest at h s = ap (λ k. tokens false k rest) (omega arith)
tokens_raised (Some r) rest at h s =
    both (spell_raised (Some r)) (spell_mark r.caret) (spell_word r.number) rest (mark_token at r.caret ∷ []) (word_token (at + length (spell_mark r.caret)) r.number ∷ []) at refl
    (mark_tokens r.caret (spell_word r.number ++ rest) at (ap is_word h.0.byte) (ap is_blank h.0.byte) h.0.blanks)
    (number_tokens r.number rest (at + length (spell_mark r.caret)) h.1 (ends_stop is_word refl refl rest s))

tokens_power : (p : Power) (rest : List ℕ) (at : ℕ) → IsPower p → EndsPower rest → tokens false at (spell_power p ++ rest) ≡ power_tokens at p ++ tokens false (at + length (spell_power p)) rest
tokens_power p rest at h s =
    both (spell_power p) (spell_word p.name) (spell_raised p.raised) rest (word_token at p.name ∷ []) (raised_tokens (at + length (spell_word p.name)) p.raised) at refl
    (name_tokens p.name (spell_raised p.raised ++ rest) at h.name (raised_stop is_word refl refl refl p.raised rest h.raised s))
    (tokens_raised p.raised rest (at + length (spell_word p.name)) h.raised s)

pub sign_ends : (rest : List ℕ) → EndsTerm rest → EndsPower rest
sign_ends [] h = tt
sign_ends (b ∷ bs) h = inl h

pub factors_end : (fs : List Factor) (rest : List ℕ) → AreFactors fs → EndsTerm rest → EndsPower (spell_factors fs ++ rest)
factors_end [] rest h s = sign_ends rest s
factors_end (f ∷ fs) rest h s = inr h.0.byte

tokens_factors : (fs : List Factor) (rest : List ℕ) (at : ℕ) → AreFactors fs → EndsTerm rest → tokens false at (spell_factors fs ++ rest) ≡ factors_tokens at fs ++ tokens false (at + length (spell_factors fs)) rest
tokens_factors [] rest at h s = ap (λ k. tokens false k rest) (omega arith)
tokens_factors (f ∷ fs) rest at h s =
    let start = at + length (spell_mark f.star) in
    both (spell_factors (f ∷ fs)) (spell_mark f.star) (spell_power f.power ++ spell_factors fs) rest (mark_token at f.star ∷ []) (power_tokens start f.power ++ factors_tokens (start + length (spell_power f.power)) fs) at refl
    (mark_tokens f.star ((spell_power f.power ++ spell_factors fs) ++ rest) at (ap is_word h.0.byte) (ap is_blank h.0.byte) h.0.blanks)
    (
    both (spell_power f.power ++ spell_factors fs) (spell_power f.power) (spell_factors fs) rest (power_tokens start f.power) (factors_tokens (start + length (spell_power f.power)) fs) start refl
    (tokens_power f.power (spell_factors fs ++ rest) start h.1 (factors_end fs rest h.2 s))
    (tokens_factors fs rest (start + length (spell_power f.power)) h.2 s)
    )

tokens_head : (h : Head) (rest : List ℕ) (at : ℕ) → IsHead h → EndsPower rest → tokens false at (spell_head h ++ rest) ≡ head_tokens at h ++ tokens false (at + length (spell_head h)) rest
tokens_head (Numeral w) rest at h s = number_tokens w rest at h (ends_stop is_word refl refl rest s)
tokens_head (Symbol p) rest at h s = tokens_power p rest at h s

tokens_product : (t : Product) (rest : List ℕ) (at : ℕ) → IsProduct t → EndsTerm rest → tokens false at (spell_product t ++ rest) ≡ product_tokens at t ++ tokens false (at + length (spell_product t)) rest
tokens_product t rest at h s =
    both (spell_product t) (spell_head t.head) (spell_factors t.factors) rest (head_tokens at t.head) (factors_tokens (at + length (spell_head t.head)) t.factors) at refl
    (tokens_head t.head (spell_factors t.factors ++ rest) at h.head (factors_end t.factors rest h.factors s))
    (tokens_factors t.factors rest (at + length (spell_head t.head)) h.factors s)

pub signed_here : (ss : List Signed) → AreSigned ss → EndsTerm (spell_signed ss)
signed_here [] h = tt
signed_here (s ∷ ss) h = h.0.byte

tokens_signed : (ss : List Signed) (at : ℕ) → AreSigned ss → tokens false at (spell_signed ss) ≡ signed_tokens at ss
tokens_signed [] at h = refl
tokens_signed (s ∷ ss) at h =
    let start = at + length (spell_mark s.sign) in
    mark_tokens s.sign (spell_product s.term ++ spell_signed ss) at (ap is_word h.0.byte) (ap is_blank h.0.byte) h.0.blanks
    ∙ ap (λ l. mark_token at s.sign ∷ l) (tokens_product s.term (spell_signed ss) start h.1 (signed_here ss h.2) ∙ ap (λ l. product_tokens start s.term ++ l) (tokens_signed ss (start + length (spell_product s.term)) h.2))

abbrev sign_tokens : ℕ → Option Mark → List Token
sign_tokens at None = []
sign_tokens at (Some m) = mark_token at m ∷ []

tokens_sign : (m : Option Mark) (rest : List ℕ) (at : ℕ) → IsFirstSign m → tokens false at (spell_sign m ++ rest) ≡ sign_tokens at m ++ tokens false (at + length (spell_sign m)) rest
tokens_sign None rest at h = ap (λ k. tokens false k rest) (omega arith)
tokens_sign (Some m) rest at h = mark_tokens m rest at (ap is_word h.byte) (ap is_blank h.byte) h.blanks

abbrev tree_tokens : Tree → List Token
tree_tokens t =
    let start = length t.blanks + length (spell_sign t.sign) in
    sign_tokens (length t.blanks) t.sign ++ (product_tokens start t.first ++ signed_tokens (start + length (spell_product t.first)) t.others)

tokens_tree : (t : Tree) → IsTree t → tokens false 0 (spelling t) ≡ tree_tokens t
tokens_tree t h =
    let start = length t.blanks + length (spell_sign t.sign) in
    over_blanks t.blanks (spell_sign t.sign ++ (spell_product t.first ++ spell_signed t.others)) 0 h.blanks
    ∙ ap (λ k. tokens false k (spell_sign t.sign ++ (spell_product t.first ++ spell_signed t.others))) (omega arith)
    ∙ tokens_sign t.sign (spell_product t.first ++ spell_signed t.others) (length t.blanks) h.sign
    ∙ ap (λ l. sign_tokens (length t.blanks) t.sign ++ l) (tokens_product t.first (spell_signed t.others) start h.first (signed_here t.others h.others)
    ∙ ap (λ l. product_tokens start t.first ++ l) (tokens_signed t.others (start + length (spell_product t.first)) h.others))

-- ---- the terms of the tokens
-- no token is a sign
abbrev NoSign : List Token → Type 0
NoSign [] = Unit {0}
NoSign (t ∷ ts) = (is_sign (class_of t.first) ≡ false) × NoSign ts

-- nothing is left, or the first token is a sign
abbrev SignNext : List Token → Type 0
SignNext [] = Unit {0}
SignNext (t ∷ ts) = is_sign (class_of t.first) ≡ true

-- the first token, if there is one, is no caret
abbrev NoCaret : List Token → Type 0
NoCaret [] = Unit {0}
NoCaret (t ∷ ts) = is_caret (class_of t.first) ≡ false

no_sign_append : (xs ys : List Token) → NoSign xs → NoSign ys → NoSign (xs ++ ys)
no_sign_append [] ys h g = g
no_sign_append (x ∷ xs) ys h g = (h.0, no_sign_append xs ys h.1 g)

before_sign_is : (xs ts : List Token) → NoSign xs → SignNext ts → before_sign (xs ++ ts) ≡ xs
before_sign_is [] [] h g = refl
before_sign_is [] (t ∷ ts) h g = rw g
before_sign_is (x ∷ xs) ts h g = rw h.0 (ap (λ l. x ∷ l) (before_sign_is xs ts h.1 g))

signed_behind : (xs ts : List Token) → NoSign xs → signed_in (xs ++ ts) ≡ signed_in ts
signed_behind [] ts h = refl
signed_behind (x ∷ xs) ts h = rw h.0 (signed_behind xs ts h.1)

-- ---- powers
raised_no_sign : (r : Option Raised) (at : ℕ) → IsRaised r → NoSign (raised_tokens at r)
raised_no_sign None at h = tt
raised_no_sign (Some r) at h = (ap is_sign h.0.byte, (ap is_sign h.1.first, tt))

power_no_sign : (p : Power) (at : ℕ) → IsPower p → NoSign (power_tokens at p)
power_no_sign p at h = (ap is_sign h.name.first, raised_no_sign p.raised (at + length (spell_word p.name)) h.raised)

factors_no_sign : (fs : List Factor) (at : ℕ) → AreFactors fs → NoSign (factors_tokens at fs)
factors_no_sign [] at h = tt
factors_no_sign (f ∷ fs) at h =
    let start = at + length (spell_mark f.star) in
    (ap is_sign h.0.byte, no_sign_append (power_tokens start f.power) (factors_tokens (start + length (spell_power f.power)) fs) (power_no_sign f.power start h.1) (factors_no_sign fs (start + length (spell_power f.power)) h.2))

head_no_sign : (h : Head) (at : ℕ) → IsHead h → NoSign (head_tokens at h)
head_no_sign (Numeral w) at h = (ap is_sign h.first, tt)
head_no_sign (Symbol p) at h = power_no_sign p at h

product_no_sign : (t : Product) (at : ℕ) → IsProduct t → NoSign (product_tokens at t)
product_no_sign t at h =
    no_sign_append (head_tokens at t.head) (factors_tokens (at + length (spell_head t.head)) t.factors) (head_no_sign t.head at h.head) (factors_no_sign t.factors (at + length (spell_head t.head)) h.factors)

exponent_is_one : (ts : List Token) → NoCaret ts → exponent_before ts ≡ 1
exponent_is_one [] h = refl
exponent_is_one (c ∷ []) h = refl
exponent_is_one (c ∷ n ∷ ts) h = rw h

raised_exponent : (r : Option Raised) (ts : List Token) (at : ℕ) → IsRaised r → NoCaret ts → exponent_before (raised_tokens at r ++ ts) ≡ exponent_of r
raised_exponent None ts at h g = exponent_is_one ts g
raised_exponent (Some r) ts at h g = rw h.0.byte

raised_powers : (r : Option Raised) (ts : List Token) (at : ℕ) → IsRaised r → powers_in (raised_tokens at r ++ ts) ≡ powers_in ts
raised_powers None ts at h = refl
raised_powers (Some r) ts at h = rw (h.0.byte, h.1.first)

power_is : (p : Power) (ts : List Token) (at : ℕ) → IsPower p → NoCaret ts → powers_in (power_tokens at p ++ ts) ≡ power_at at p ∷ powers_in ts
power_is p ts at h g =
    let start = at + length (spell_word p.name) in
    rw h.name.first (λ i. record { at = at; name = p.name.first ∷ p.name.more; exponent = raised_exponent p.raised ts start h.raised g i } ∷ raised_powers p.raised ts start h.raised i)

factors_no_caret : (fs : List Factor) (at : ℕ) → AreFactors fs → NoCaret (factors_tokens at fs)
factors_no_caret [] at h = tt
factors_no_caret (f ∷ fs) at h = ap is_caret h.0.byte

factors_are : (fs : List Factor) (at : ℕ) → AreFactors fs → powers_in (factors_tokens at fs) ≡ factors_at at fs
factors_are [] at h = refl
factors_are (f ∷ fs) at h =
    let start = at + length (spell_mark f.star) in
    let next = start + length (spell_power f.power) in
    rw h.0.byte (power_is f.power (factors_tokens next fs) start h.1 (factors_no_caret fs next h.2) ∙ ap (λ l. power_at start f.power ∷ l) (factors_are fs next h.2))

-- ---- terms
product_is : (m : Bool) (t : Product) (at : ℕ) → IsProduct t → summand_in m (product_tokens at t) ≡ product_at m at t
product_is m t at h = by t.head t.factors h.head h.factors
  where
    by : (k : Head) (fs : List Factor) → IsHead k → AreFactors fs → summand_in m (product_tokens at (record { head = k; factors = fs })) ≡ product_at m at (record { head = k; factors = fs })
    by (Numeral w) fs g f = rw g.first (λ i. record { at = at; negative = m; number = Some (digits_value 10 (w.first ∷ w.more)); powers = factors_are fs (at + length (spell_word w)) f i })
    by (Symbol p) fs g f =
        let next = at + length (spell_power p) in
        let number : number_in (power_tokens at p ++ factors_tokens next fs) ≡ None = rw g.name.first in
        let powers : powers_in (power_tokens at p ++ factors_tokens next fs) ≡ power_at at p ∷ factors_at next fs =
        power_is p (factors_tokens next fs) at g (factors_no_caret fs next f) ∙ ap (λ l. power_at at p ∷ l) (factors_are fs next f) in
        (λ i. record { at = at; negative = m; number = number i; powers = powers i })

signed_next : (ss : List Signed) (at : ℕ) → AreSigned ss → SignNext (signed_tokens at ss)
signed_next [] at h = tt
signed_next (s ∷ ss) at h = ap is_sign h.0.byte

signed_are : (ss : List Signed) (at : ℕ) → AreSigned ss → signed_in (signed_tokens at ss) ≡ signed_at at ss
signed_are [] at h = refl
signed_are (s ∷ ss) at h =
    let start = at + length (spell_mark s.sign) in
    let next = start + length (spell_product s.term) in
    let xs = product_tokens start s.term in
    let ts = signed_tokens next ss in
    let n = product_no_sign s.term start h.1 in
    let first : summand_in (eqb s.sign.byte 45) (before_sign (xs ++ ts)) ≡ product_at (is_minus (Some s.sign)) start s.term =
    ap (summand_in (eqb s.sign.byte 45)) (before_sign_is xs ts n (signed_next ss next h.2)) ∙ product_is (eqb s.sign.byte 45) s.term start h.1 in
    rw h.0.byte (λ i. first i ∷ (signed_behind xs ts n ∙ signed_are ss next h.2) i)

product_some : (m : Bool) (t : Product) (ts : List Token) (at : ℕ) → IsProduct t → SignNext ts → summands_in (product_tokens at t ++ ts) ≡ product_at false at t ∷ signed_in ts
product_some m t ts at h s = by t.head t.factors h.head h.factors (product_no_sign t at h) (product_is false t at h)
  where
    by : (k : Head) (fs : List Factor) → IsHead k → AreFactors fs → NoSign (product_tokens at (record { head = k; factors = fs })) → summand_in false (product_tokens at (record { head = k; factors = fs })) ≡ product_at false at (record { head = k; factors = fs })
        → summands_in (product_tokens at (record { head = k; factors = fs }) ++ ts) ≡ product_at false at (record { head = k; factors = fs }) ∷ signed_in ts
    by (Numeral w) fs g f n e =
        let xs = product_tokens at (record { head = Numeral w; factors = fs }) in
        let first : summand_in false (before_sign (xs ++ ts)) ≡ product_at false at (record { head = Numeral w; factors = fs }) = ap (summand_in false) (before_sign_is xs ts n s) ∙ e in
        ap (λ b. cond b (signed_in (xs ++ ts)) (summand_in false (before_sign (xs ++ ts)) ∷ signed_in (xs ++ ts))) n.0 ∙ (λ i. first i ∷ signed_behind xs ts n i)
    by (Symbol p) fs g f n e =
        let xs = product_tokens at (record { head = Symbol p; factors = fs }) in
        let first : summand_in false (before_sign (xs ++ ts)) ≡ product_at false at (record { head = Symbol p; factors = fs }) = ap (summand_in false) (before_sign_is xs ts n s) ∙ e in
        ap (λ b. cond b (signed_in (xs ++ ts)) (summand_in false (before_sign (xs ++ ts)) ∷ signed_in (xs ++ ts))) n.0 ∙ (λ i. first i ∷ signed_behind xs ts n i)

signed_first : (m : Mark) (t : Product) (ss : List Signed) (at : ℕ) → IsMark Sign m → IsProduct t → AreSigned ss
    → summands_in (signed_tokens at (record { sign = m; term = t } ∷ ss)) ≡ signed_at at (record { sign = m; term = t } ∷ ss)
signed_first m t ss at h p s =
    let start = at + length (spell_mark m) in
    let ts = product_tokens start t ++ signed_tokens (start + length (spell_product t)) ss in
    ap (λ c. cond (is_sign c) (signed_in (mark_token at m ∷ ts)) (summand_in false (before_sign (mark_token at m ∷ ts)) ∷ signed_in (mark_token at m ∷ ts))) h.byte ∙ signed_are (record { sign = m; term = t } ∷ ss) at (h, p, s)

-- the terms of the tokens of a tree are those of the tree
pub summands_are : (t : Tree) → IsTree t → summands_in (tokens false 0 (spelling t)) ≡ summands t
summands_are t h = ap summands_in (tokens_tree t h) ∙ by t.sign h.sign
  where
    by : (m : Option Mark) → IsFirstSign m
        → summands_in (sign_tokens (length t.blanks) m ++ (product_tokens (length t.blanks + length (spell_sign m)) t.first ++ signed_tokens ((length t.blanks + length (spell_sign m)) + length (spell_product t.first)) t.others))
        ≡ product_at (is_minus m) (length t.blanks + length (spell_sign m)) t.first ∷ signed_at ((length t.blanks + length (spell_sign m)) + length (spell_product t.first)) t.others
    by None g =
        let start = length t.blanks + 0 in
        let next = start + length (spell_product t.first) in
        product_some false t.first (signed_tokens next t.others) start h.first (signed_next t.others next h.others) ∙ ap (λ l. product_at false start t.first ∷ l) (signed_are t.others next h.others)
    by (Some m) g = signed_first m t.first t.others (length t.blanks) g h.first h.others
