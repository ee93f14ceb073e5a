-- A text has one tree.
use Rattle.std.proofs.Common.{◌≡◌, ◌⊎◌, ℕ, List, [], ◌∷◌, ◌++◌, drop, get_or, Option, Some, None, refl, sym, ◌∙◌, ap, subst, inl, inr, append_assoc}
use Rattle.text_laws.specs.Bytes.{class_of}
use Rattle.text_laws.specs.Grammar.{Mark, Word, Raised, Power, Factor, Head, Numeral, Symbol, Product, Signed, Tree, Each, AreBlanks, IsNumber, IsName, IsRaised, IsPower, AreFactors, IsHead, IsProduct, AreSigned, IsFirstSign, IsTree, spell_mark, spell_word, spell_raised, spell_power, spell_factors, spell_head, spell_product, spell_signed, spell_sign, spelling, Spells}
use Rattle.text_laws.specs.declared.ByteClass.{ByteClass}
use Rattle.text_laws.specs.declared.ByteClass.TheVariants.{Blank, Digit, Letter, Sign, Star, Caret}

-- the first byte, if there is one, is not such
abbrev Fails : (ByteClass → Type 0) → List ℕ → Type 0
Fails P [] = Unit {0}
Fails P (b ∷ bs) = P (class_of b) → ⊥

-- the first byte, if there is one, is such
abbrev First : (ByteClass → Type 0) → List ℕ → Type 0
First P [] = Unit {0}
First P (b ∷ bs) = P (class_of b)

head_is : (b c : ℕ) (xs ys : List ℕ) → b ∷ xs ≡ c ∷ ys → b ≡ c
head_is b c xs ys e = ap (λ l. get_or l 0 0) e

tail_is : (b c : ℕ) (xs ys : List ℕ) → b ∷ xs ≡ c ∷ ys → xs ≡ ys
tail_is b c xs ys e = ap (drop 1) e

class_is : (b c : ℕ) (xs ys : List ℕ) → b ∷ xs ≡ c ∷ ys → class_of b ≡ class_of c
class_is b c xs ys e = ap class_of (head_is b c xs ys e)

nil_cons : (b : ℕ) (bs : List ℕ) → [] ≡ b ∷ bs → ⊥
nil_cons b bs e = cc

-- the longest front of such bytes is one
span : (P : ByteClass → Type 0) (ds es x y : List ℕ) → Each P ds → Each P es → Fails P x → Fails P y → ds ++ x ≡ es ++ y → (ds ≡ es) × (x ≡ y)
span P [] [] x y d f g h e = (refl, e)
span P [] (b ∷ es) [] y d f g h e = absurd (nil_cons b (es ++ y) e)
span P [] (b ∷ es) (c ∷ x) y d f g h e = absurd (g (subst P (sym (class_is c b x (es ++ y) e)) f.0))
span P (b ∷ ds) [] x [] d f g h e = absurd (nil_cons b (ds ++ x) (sym e))
span P (b ∷ ds) [] x (c ∷ y) d f g h e = absurd (h (subst P (class_is b c (ds ++ x) y e) d.0))
span P (b ∷ ds) (c ∷ es) x y d f g h e =
    let k = span P ds es x y d.1 f.1 g h (tail_is b c (ds ++ x) (es ++ y) e) in
    let i = head_is b c (ds ++ x) (es ++ y) e in
    ((λ j. i j ∷ k.0 j), k.1)

-- what follows a word: nothing or a mark
abbrev Mark_class : ByteClass → Type 0
Mark_class c = (c ≡ Sign) ⊎ (c ≡ Star) ⊎ (c ≡ Caret)

abbrev Tail_class : ByteClass → Type 0
Tail_class c = (c ≡ Sign) ⊎ (c ≡ Star)

fails : (P Q : ByteClass → Type 0) → ((c : ByteClass) → P c → Q c → ⊥) → (x : List ℕ) → First Q x → Fails P x
fails P Q h [] f = tt
fails P Q h (b ∷ bs) f = λ p. h (class_of b) p f

blank_mark : (c : ByteClass) → c ≡ Blank → Mark_class c → ⊥
blank_mark c e (inl f) = cc
blank_mark c e (inr (inl f)) = cc
blank_mark c e (inr (inr f)) = cc

digit_mark : (c : ByteClass) → c ≡ Digit → Mark_class c → ⊥
digit_mark c e (inl f) = cc
digit_mark c e (inr (inl f)) = cc
digit_mark c e (inr (inr f)) = cc

word_mark : (c : ByteClass) → (c ≡ Letter) ⊎ (c ≡ Digit) → Mark_class c → ⊥
word_mark c (inl e) (inl f) = cc
word_mark c (inl e) (inr (inl f)) = cc
word_mark c (inl e) (inr (inr f)) = cc
word_mark c (inr e) (inl f) = cc
word_mark c (inr e) (inr (inl f)) = cc
word_mark c (inr e) (inr (inr f)) = cc

-- blanks and what follows a word begin with no byte of the word
blanks_fail : (P : ByteClass → Type 0) → ((c : ByteClass) → P c → c ≡ Blank → ⊥) → ((c : ByteClass) → P c → Mark_class c → ⊥) → (bl x : List ℕ) → AreBlanks bl → First Mark_class x → Fails P (bl ++ x)
blanks_fail P h g [] x b f = fails P Mark_class g x f
blanks_fail P h g (c ∷ bl) x b f = λ p. h (class_of c) p b.0

digit_blank : (c : ByteClass) → c ≡ Digit → c ≡ Blank → ⊥
digit_blank c e f = cc

word_blank : (c : ByteClass) → (c ≡ Letter) ⊎ (c ≡ Digit) → c ≡ Blank → ⊥
word_blank c (inl e) f = cc
word_blank c (inr e) f = cc

-- a word before marks is one
word_one : (P : ByteClass → Type 0) → ((c : ByteClass) → P c → c ≡ Blank → ⊥) → ((c : ByteClass) → P c → Mark_class c → ⊥)
    → (w v : Word) (x y : List ℕ) → Each P w.more → AreBlanks w.blanks → Each P v.more → AreBlanks v.blanks → First Mark_class x → First Mark_class y → spell_word w ++ x ≡ spell_word v ++ y → (w ≡ v) × (x ≡ y)
word_one P h g w v x y m b n c f k e =
    let i = head_is w.first v.first ((w.more ++ w.blanks) ++ x) ((v.more ++ v.blanks) ++ y) e in
    let t = tail_is w.first v.first ((w.more ++ w.blanks) ++ x) ((v.more ++ v.blanks) ++ y) e in
    let s = span P w.more v.more (w.blanks ++ x) (v.blanks ++ y) m n (blanks_fail P h g w.blanks x b f) (blanks_fail P h g v.blanks y c k) (sym (append_assoc w.more w.blanks x) ∙ t ∙ append_assoc v.more v.blanks y) in
    let r = span (λ c. c ≡ Blank) w.blanks v.blanks x y b c (fails (λ c. c ≡ Blank) Mark_class blank_mark x f) (fails (λ c. c ≡ Blank) Mark_class blank_mark y k) s.1 in
    ((λ j. record { first = i j; more = s.0 j; blanks = r.0 j }), r.1)

number_one : (w v : Word) (x y : List ℕ) → IsNumber w → IsNumber v → First Mark_class x → First Mark_class y → spell_word w ++ x ≡ spell_word v ++ y → (w ≡ v) × (x ≡ y)
number_one w v x y i j f g e = word_one (λ c. c ≡ Digit) digit_blank digit_mark w v x y i.more i.blanks j.more j.blanks f g e

name_one : (w v : Word) (x y : List ℕ) → IsName w → IsName v → First Mark_class x → First Mark_class y → spell_word w ++ x ≡ spell_word v ++ y → (w ≡ v) × (x ≡ y)
name_one w v x y i j f g e = word_one (λ c. (c ≡ Letter) ⊎ (c ≡ Digit)) word_blank word_mark w v x y i.more i.blanks j.more j.blanks f g e

-- a mark before a word is one
abbrev Word_class : ByteClass → Type 0
Word_class c = (c ≡ Digit) ⊎ (c ≡ Letter)

blank_word : (c : ByteClass) → c ≡ Blank → Word_class c → ⊥
blank_word c e (inl f) = cc
blank_word c e (inr f) = cc

mark_one : (m n : Mark) (x y : List ℕ) → AreBlanks m.blanks → AreBlanks n.blanks → First Word_class x → First Word_class y → spell_mark m ++ x ≡ spell_mark n ++ y → (m ≡ n) × (x ≡ y)
mark_one m n x y b c f g e =
    let i = head_is m.byte n.byte (m.blanks ++ x) (n.blanks ++ y) e in
    let r = span (λ c. c ≡ Blank) m.blanks n.blanks x y b c (fails (λ c. c ≡ Blank) Word_class blank_word x f) (fails (λ c. c ≡ Blank) Word_class blank_word y g) (tail_is m.byte n.byte (m.blanks ++ x) (n.blanks ++ y) e) in
    ((λ j. record { byte = i j; blanks = r.0 j }), r.1)

-- tails begin so
tail_mark : (x : List ℕ) → First Tail_class x → First Mark_class x
tail_mark [] f = tt
tail_mark (b ∷ bs) (inl e) = inl e
tail_mark (b ∷ bs) (inr e) = inr (inl e)

signed_first : (ss : List Signed) → AreSigned ss → First Tail_class (spell_signed ss)
signed_first [] h = tt
signed_first (s ∷ ss) h = inl h.0.byte

factors_first : (fs : List Factor) (x : List ℕ) → AreFactors fs → First Tail_class x → First Tail_class (spell_factors fs ++ x)
factors_first [] x h f = f
factors_first (f ∷ fs) x h g = inr h.0.byte

raised_first : (r : Option Raised) (x : List ℕ) → IsRaised r → First Tail_class x → First Mark_class (spell_raised r ++ x)
raised_first None x h f = tail_mark x f
raised_first (Some r) x h f = inr (inr h.0.byte)

no_caret : (b : ℕ) (x y : List ℕ) → class_of b ≡ Caret → First Tail_class x → x ≡ b ∷ y → ⊥
no_caret b [] y c f e = nil_cons b y e
no_caret b (d ∷ x) y c (inl f) e = let k = class_is d b x y e in cc
no_caret b (d ∷ x) y c (inr f) e = let k = class_is d b x y e in cc

again : (a b c d e f : List ℕ) → (a ++ b) ++ c ≡ (d ++ e) ++ f → a ++ (b ++ c) ≡ d ++ (e ++ f)
again a b c d e f h = sym (append_assoc a b c) ∙ h ∙ append_assoc d e f

raised_one : (r s : Option Raised) (x y : List ℕ) → IsRaised r → IsRaised s → First Tail_class x → First Tail_class y → spell_raised r ++ x ≡ spell_raised s ++ y → (r ≡ s) × (x ≡ y)
raised_one None None x y i j f g e = (refl, e)
raised_one None (Some s) x y i j f g e = absurd (no_caret s.caret.byte x ((s.caret.blanks ++ spell_word s.number) ++ y) j.0.byte f e)
raised_one (Some r) None x y i j f g e = absurd (no_caret r.caret.byte y ((r.caret.blanks ++ spell_word r.number) ++ x) i.0.byte g (sym e))
raised_one (Some r) (Some s) x y i j f g e =
    let m = mark_one r.caret s.caret (spell_word r.number ++ x) (spell_word s.number ++ y) i.0.blanks j.0.blanks (inl i.1.first) (inl j.1.first) (again (spell_mark r.caret) (spell_word r.number) x (spell_mark s.caret) (spell_word s.number) y e) in
    let n = number_one r.number s.number x y i.1 j.1 (tail_mark x f) (tail_mark y g) m.1 in
    ((λ k. Some (record { caret = m.0 k; number = n.0 k })), n.1)

power_one : (p q : Power) (x y : List ℕ) → IsPower p → IsPower q → First Tail_class x → First Tail_class y → spell_power p ++ x ≡ spell_power q ++ y → (p ≡ q) × (x ≡ y)
power_one p q x y i j f g e =
    let n = name_one p.name q.name (spell_raised p.raised ++ x) (spell_raised q.raised ++ y) i.name j.name (raised_first p.raised x i.raised f) (raised_first q.raised y j.raised g) (again (spell_word p.name) (spell_raised p.raised) x (spell_word q.name) (spell_raised q.raised) y e) in
    let r = raised_one p.raised q.raised x y i.raised j.raised f g n.1 in
    ((λ k. record { name = n.0 k; raised = r.0 k }), r.1)

no_star : (b : ℕ) (ss : List Signed) (y : List ℕ) → class_of b ≡ Star → AreSigned ss → spell_signed ss ≡ b ∷ y → ⊥
no_star b [] y c h e = nil_cons b y e
no_star b (s ∷ ss) y c h e = let k = class_is s.sign.byte b (s.sign.blanks ++ (spell_product s.term ++ spell_signed ss)) y e in let l = h.0.byte in cc

factors_one : (fs gs : List Factor) (ss us : List Signed) → AreFactors fs → AreFactors gs → AreSigned ss → AreSigned us → spell_factors fs ++ spell_signed ss ≡ spell_factors gs ++ spell_signed us → (fs ≡ gs) × (spell_signed ss ≡ spell_signed us)
factors_one [] [] ss us f g s u e = (refl, e)
factors_one [] (h ∷ gs) ss us f g s u e = absurd (no_star h.star.byte ss ((h.star.blanks ++ (spell_power h.power ++ spell_factors gs)) ++ spell_signed us) g.0.byte s e)
factors_one (h ∷ fs) [] ss us f g s u e = absurd (no_star h.star.byte us ((h.star.blanks ++ (spell_power h.power ++ spell_factors fs)) ++ spell_signed ss) f.0.byte u (sym e))
factors_one (h ∷ fs) (k ∷ gs) ss us f g s u e =
    let m = mark_one h.star k.star ((spell_power h.power ++ spell_factors fs) ++ spell_signed ss) ((spell_power k.power ++ spell_factors gs) ++ spell_signed us) f.0.blanks g.0.blanks (inr f.1.name.first) (inr g.1.name.first)
    (again (spell_mark h.star) (spell_power h.power ++ spell_factors fs) (spell_signed ss) (spell_mark k.star) (spell_power k.power ++ spell_factors gs) (spell_signed us) e) in
    let p = power_one h.power k.power (spell_factors fs ++ spell_signed ss) (spell_factors gs ++ spell_signed us) f.1 g.1 (factors_first fs (spell_signed ss) f.2 (signed_first ss s)) (factors_first gs (spell_signed us) g.2 (signed_first us u))
    (again (spell_power h.power) (spell_factors fs) (spell_signed ss) (spell_power k.power) (spell_factors gs) (spell_signed us) m.1) in
    let r = factors_one fs gs ss us f.2 g.2 s u p.1 in
    ((λ i. record { star = m.0 i; power = p.0 i } ∷ r.0 i), r.1)

digit_not_letter : (b c : ℕ) (xs ys : List ℕ) → class_of b ≡ Digit → class_of c ≡ Letter → b ∷ xs ≡ c ∷ ys → ⊥
digit_not_letter b c xs ys d l e = let k = class_is b c xs ys e in cc

head_one : (h k : Head) (x y : List ℕ) → IsHead h → IsHead k → First Tail_class x → First Tail_class y → spell_head h ++ x ≡ spell_head k ++ y → (h ≡ k) × (x ≡ y)
head_one (Numeral w) (Numeral v) x y i j f g e = let n = number_one w v x y i j (tail_mark x f) (tail_mark y g) e in ((λ k. Numeral (n.0 k)), n.1)
head_one (Numeral w) (Symbol q) x y i j f g e = absurd (digit_not_letter w.first q.name.first ((w.more ++ w.blanks) ++ x) (((q.name.more ++ q.name.blanks) ++ spell_raised q.raised) ++ y) i.first j.name.first e)
head_one (Symbol p) (Numeral v) x y i j f g e = absurd (digit_not_letter v.first p.name.first ((v.more ++ v.blanks) ++ y) (((p.name.more ++ p.name.blanks) ++ spell_raised p.raised) ++ x) j.first i.name.first (sym e))
head_one (Symbol p) (Symbol q) x y i j f g e = let n = power_one p q x y i j f g e in ((λ k. Symbol (n.0 k)), n.1)

product_one : (t u : Product) (ss vs : List Signed) → IsProduct t → IsProduct u → AreSigned ss → AreSigned vs → spell_product t ++ spell_signed ss ≡ spell_product u ++ spell_signed vs → (t ≡ u) × (spell_signed ss ≡ spell_signed vs)
product_one t u ss vs i j s v e =
    let h = head_one t.head u.head (spell_factors t.factors ++ spell_signed ss) (spell_factors u.factors ++ spell_signed vs) i.head j.head (factors_first t.factors (spell_signed ss) i.factors (signed_first ss s)) (factors_first u.factors (spell_signed vs) j.factors (signed_first vs v))
    (again (spell_head t.head) (spell_factors t.factors) (spell_signed ss) (spell_head u.head) (spell_factors u.factors) (spell_signed vs) e) in
    let f = factors_one t.factors u.factors ss vs i.factors j.factors s v h.1 in
    ((λ k. record { head = h.0 k; factors = f.0 k }), f.1)

-- a product begins with a digit or a letter
product_first : (t : Product) (x : List ℕ) → IsProduct t → First Word_class (spell_product t ++ x)
product_first t x i = head_first t.head t.factors i.head
  where
    head_first : (h : Head) (fs : List Factor) → IsHead h → First Word_class ((spell_head h ++ spell_factors fs) ++ x)
    head_first (Numeral w) fs i = inl i.first
    head_first (Symbol p) fs i = inr i.name.first

signed_one : (ss vs : List Signed) → AreSigned ss → AreSigned vs → spell_signed ss ≡ spell_signed vs → ss ≡ vs
signed_one [] [] s v e = refl
signed_one [] (h ∷ vs) s v e = absurd (nil_cons h.sign.byte (h.sign.blanks ++ (spell_product h.term ++ spell_signed vs)) e)
signed_one (h ∷ ss) [] s v e = absurd (nil_cons h.sign.byte (h.sign.blanks ++ (spell_product h.term ++ spell_signed ss)) (sym e))
signed_one (h ∷ ss) (k ∷ vs) s v e =
    let m = mark_one h.sign k.sign (spell_product h.term ++ spell_signed ss) (spell_product k.term ++ spell_signed vs) s.0.blanks v.0.blanks (product_first h.term (spell_signed ss) s.1) (product_first k.term (spell_signed vs) v.1) e in
    let p = product_one h.term k.term ss vs s.1 v.1 s.2 v.2 m.1 in
    let r = signed_one ss vs s.2 v.2 p.1 in
    (λ i. record { sign = m.0 i; term = p.0 i } ∷ r i)

word_not_sign : (b : ℕ) (x y : List ℕ) → class_of b ≡ Sign → First Word_class x → x ≡ b ∷ y → ⊥
word_not_sign b [] y c f e = nil_cons b y e
word_not_sign b (d ∷ x) y c (inl f) e = let k = class_is d b x y e in cc
word_not_sign b (d ∷ x) y c (inr f) e = let k = class_is d b x y e in cc

sign_one : (m n : Option Mark) (x y : List ℕ) → IsFirstSign m → IsFirstSign n → First Word_class x → First Word_class y → spell_sign m ++ x ≡ spell_sign n ++ y → (m ≡ n) × (x ≡ y)
sign_one None None x y i j f g e = (refl, e)
sign_one None (Some n) x y i j f g e = absurd (word_not_sign n.byte x (n.blanks ++ y) j.byte f e)
sign_one (Some m) None x y i j f g e = absurd (word_not_sign m.byte y (m.blanks ++ x) i.byte g (sym e))
sign_one (Some m) (Some n) x y i j f g e = let r = mark_one m n x y i.blanks j.blanks f g e in ((λ k. Some (r.0 k)), r.1)

no_blank : (m : Option Mark) (x : List ℕ) → IsFirstSign m → First Word_class x → Fails (λ c. c ≡ Blank) (spell_sign m ++ x)
no_blank None x i f = fails (λ c. c ≡ Blank) Word_class blank_word x f
no_blank (Some m) x i f = λ b. let k = i.byte in cc

tree_one : (t u : Tree) → IsTree t → IsTree u → spelling t ≡ spelling u → t ≡ u
tree_one t u i j e =
    let f = product_first t.first (spell_signed t.others) i.first in
    let g = product_first u.first (spell_signed u.others) j.first in
    let b = span (λ c. c ≡ Blank) t.blanks u.blanks (spell_sign t.sign ++ (spell_product t.first ++ spell_signed t.others)) (spell_sign u.sign ++ (spell_product u.first ++ spell_signed u.others)) i.blanks j.blanks (no_blank t.sign _ i.sign f) (no_blank u.sign _ j.sign g) e in
    let s = sign_one t.sign u.sign (spell_product t.first ++ spell_signed t.others) (spell_product u.first ++ spell_signed u.others) i.sign j.sign f g b.1 in
    let p = product_one t.first u.first t.others u.others i.first j.first i.others j.others s.1 in
    let o = signed_one t.others u.others i.others j.others p.1 in
    (λ k. record { blanks = b.0 k; sign = s.0 k; first = p.0 k; others = o k })

-- two readings of the same bytes have one tree
pub one_tree : (bytes : List ℕ) (t u : Tree) → Spells t bytes → Spells u bytes → t ≡ u
one_tree bytes t u a b = tree_one t u a.formed b.formed (sym a.spelled ∙ b.spelled)
