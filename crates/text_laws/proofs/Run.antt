-- The automaton goes along each text and ends where a text may end.
use Rattle.std.proofs.Common.{◌≡◌, ℕ, true, List, [], ◌∷◌, ◌++◌, Option, Some, None, refl, sym, ◌∙◌, ap, subst, inl, inr, append_assoc, true≢false}
use Rattle.text_laws.specs.Bytes.{class_of}
use Rattle.text_laws.specs.Grammar.{Mark, Word, Raised, Power, Factor, Head, Numeral, Symbol, Product, Signed, AreBlanks, AreDigits, AreLettersOrDigits, IsNumber, IsName, IsRaised, IsPower, AreFactors, IsHead, IsProduct, AreSigned, IsFirstSign, spell_word, spell_raised, spell_power, spell_factors, spell_head, spell_product, spell_signed, spell_sign, IsText}
use Rattle.text_laws.specs.Automaton.{next, is_whole, run}
use Rattle.text_laws.specs.declared.ByteClass.{ByteClass}
use Rattle.text_laws.specs.declared.ByteClass.TheVariants.{Blank, Digit, Letter, Sign, Star, Caret}
use Rattle.text_laws.specs.declared.State.{State}
use Rattle.text_laws.specs.declared.State.TheVariants as states

-- the automaton accepts the bytes from the state
abbrev pub Takes : State → List ℕ → Type 0
Takes s bs = is_whole (run s bs) ≡ true

-- it accepts them from each state at which a text may end, and from each state after a name
abbrev pub Ends : List ℕ → Type 0
Ends bs = (s : State) → is_whole s ≡ true → Takes s bs

abbrev pub Names : List ℕ → Type 0
Names bs = Takes states.Name bs × Takes states.NameEnd bs

pub run-append : (s : State) (a b : List ℕ) → run s (a ++ b) ≡ run (run s a) b
run-append s [] b = refl
run-append s (x ∷ a) b = run-append (next s (class_of x)) a b

step : (s t : State) (c : ByteClass) (b : ℕ) (bs : List ℕ) → class_of b ≡ c → next s c ≡ t → Takes t bs → Takes s (b ∷ bs)
step s t c b bs e n h = ap (λ k. is_whole (run (next s k) bs)) e ∙ ap (λ k. is_whole (run k bs)) n ∙ h

-- blanks that leave the state as it is
stay : (s : State) → next s Blank ≡ s → (bl bs : List ℕ) → AreBlanks bl → Takes s bs → Takes s (bl ++ bs)
stay s e [] bs h g = g
stay s e (b ∷ bl) bs h g = step s s Blank b (bl ++ bs) h.0 e (stay s e bl bs h.1 g)

blank_whole : (s : State) → is_whole s ≡ true → is_whole (next s Blank) ≡ true
blank_whole states.Number e = refl
blank_whole states.NumberEnd e = refl
blank_whole states.Name e = refl
blank_whole states.NameEnd e = refl
blank_whole states.Start e = absurd (true≢false (sym e))
blank_whole states.Term e = absurd (true≢false (sym e))
blank_whole states.Power e = absurd (true≢false (sym e))
blank_whole states.Exponent e = absurd (true≢false (sym e))
blank_whole states.Dead e = absurd (true≢false (sym e))

star_whole : (s : State) → is_whole s ≡ true → next s Star ≡ states.Power
star_whole states.Number e = refl
star_whole states.NumberEnd e = refl
star_whole states.Name e = refl
star_whole states.NameEnd e = refl
star_whole states.Start e = absurd (true≢false (sym e))
star_whole states.Term e = absurd (true≢false (sym e))
star_whole states.Power e = absurd (true≢false (sym e))
star_whole states.Exponent e = absurd (true≢false (sym e))
star_whole states.Dead e = absurd (true≢false (sym e))

sign_whole : (s : State) → is_whole s ≡ true → next s Sign ≡ states.Term
sign_whole states.Number e = refl
sign_whole states.NumberEnd e = refl
sign_whole states.Name e = refl
sign_whole states.NameEnd e = refl
sign_whole states.Start e = absurd (true≢false (sym e))
sign_whole states.Term e = absurd (true≢false (sym e))
sign_whole states.Power e = absurd (true≢false (sym e))
sign_whole states.Exponent e = absurd (true≢false (sym e))
sign_whole states.Dead e = absurd (true≢false (sym e))

-- blanks where a text may end
ends_blanks : (bl bs : List ℕ) → AreBlanks bl → Ends bs → Ends (bl ++ bs)
ends_blanks [] bs h g = g
ends_blanks (b ∷ bl) bs h g = λ s w. step s (next s Blank) Blank b (bl ++ bs) h.0 refl (ends_blanks bl bs h.1 g (next s Blank) (blank_whole s w))

number_more : (ds bl bs : List ℕ) → AreDigits ds → AreBlanks bl → Ends bs → Takes states.Number ((ds ++ bl) ++ bs)
number_more [] bl bs d h g = ends_blanks bl bs h g states.Number refl
number_more (b ∷ ds) bl bs d h g = step states.Number states.Number Digit b ((ds ++ bl) ++ bs) d.0 refl (number_more ds bl bs d.1 h g)

takes_number : (s : State) → next s Digit ≡ states.Number → (w : Word) (bs : List ℕ) → IsNumber w → Ends bs → Takes s (spell_word w ++ bs)
takes_number s e w bs h g = step s states.Number Digit w.first ((w.more ++ w.blanks) ++ bs) h.first e (number_more w.more w.blanks bs h.more h.blanks g)

names_blanks : (bl bs : List ℕ) → AreBlanks bl → Names bs → Names (bl ++ bs)
names_blanks [] bs h g = g
names_blanks (b ∷ bl) bs h g =
    let k = names_blanks bl bs h.1 g in
    (step states.Name states.NameEnd Blank b (bl ++ bs) h.0 refl k.1, step states.NameEnd states.NameEnd Blank b (bl ++ bs) h.0 refl k.1)

name_more : (ls bl bs : List ℕ) → AreLettersOrDigits ls → AreBlanks bl → Names bs → Takes states.Name ((ls ++ bl) ++ bs)
name_more [] bl bs d h g = (names_blanks bl bs h g).0
name_more (b ∷ ls) bl bs (inl e, d) h g = step states.Name states.Name Letter b ((ls ++ bl) ++ bs) e refl (name_more ls bl bs d h g)
name_more (b ∷ ls) bl bs (inr e, d) h g = step states.Name states.Name Digit b ((ls ++ bl) ++ bs) e refl (name_more ls bl bs d h g)

takes_name : (s : State) → next s Letter ≡ states.Name → (w : Word) (bs : List ℕ) → IsName w → Names bs → Takes s (spell_word w ++ bs)
takes_name s e w bs h g = step s states.Name Letter w.first ((w.more ++ w.blanks) ++ bs) h.first e (name_more w.more w.blanks bs h.more h.blanks g)

again : (P : List ℕ → Type 0) (a b c : List ℕ) → P (a ++ (b ++ c)) → P ((a ++ b) ++ c)
again P a b c h = subst P (sym (append_assoc a b c)) h

takes_raised : (r : Option Raised) (bs : List ℕ) → IsRaised r → Ends bs → Names (spell_raised r ++ bs)
takes_raised None bs h g = (g states.Name refl, g states.NameEnd refl)
takes_raised (Some r) bs h g =
    let k : Takes states.Exponent (r.caret.blanks ++ (spell_word r.number ++ bs)) = stay states.Exponent refl r.caret.blanks (spell_word r.number ++ bs) h.0.blanks (takes_number states.Exponent refl r.number bs h.1 g) in
    let l : Takes states.Exponent ((r.caret.blanks ++ spell_word r.number) ++ bs) = again (Takes states.Exponent) r.caret.blanks (spell_word r.number) bs k in (
      step states.Name states.Exponent Caret r.caret.byte ((r.caret.blanks ++ spell_word r.number) ++ bs) h.0.byte refl l,
      step states.NameEnd states.Exponent Caret r.caret.byte ((r.caret.blanks ++ spell_word r.number) ++ bs) h.0.byte refl l,
    )

takes_power : (s : State) → next s Letter ≡ states.Name → (p : Power) (bs : List ℕ) → IsPower p → Ends bs → Takes s (spell_power p ++ bs)
takes_power s e p bs h g = again (Takes s) (spell_word p.name) (spell_raised p.raised) bs (takes_name s e p.name (spell_raised p.raised ++ bs) h.name (takes_raised p.raised bs h.raised g))

takes_factors : (fs : List Factor) (bs : List ℕ) → AreFactors fs → Ends bs → Ends (spell_factors fs ++ bs)
takes_factors [] bs h g = g
takes_factors (f ∷ fs) bs h g = λ s w.
    let p : Takes states.Power (spell_power f.power ++ (spell_factors fs ++ bs)) = takes_power states.Power refl f.power (spell_factors fs ++ bs) h.1 (takes_factors fs bs h.2 g) in
    let q : Takes states.Power ((spell_power f.power ++ spell_factors fs) ++ bs) = again (Takes states.Power) (spell_power f.power) (spell_factors fs) bs p in
    let r : Takes states.Power (f.star.blanks ++ ((spell_power f.power ++ spell_factors fs) ++ bs)) = stay states.Power refl f.star.blanks ((spell_power f.power ++ spell_factors fs) ++ bs) h.0.blanks q in
    step s states.Power Star f.star.byte ((f.star.blanks ++ (spell_power f.power ++ spell_factors fs)) ++ bs) h.0.byte (star_whole s w)
    (again (Takes states.Power) f.star.blanks (spell_power f.power ++ spell_factors fs) bs r)

takes_head : (s : State) → next s Digit ≡ states.Number → next s Letter ≡ states.Name → (h : Head) (bs : List ℕ) → IsHead h → Ends bs → Takes s (spell_head h ++ bs)
takes_head s d l (Numeral w) bs h g = takes_number s d w bs h g
takes_head s d l (Symbol p) bs h g = takes_power s l p bs h g

takes_product : (s : State) → next s Digit ≡ states.Number → next s Letter ≡ states.Name → (t : Product) (bs : List ℕ) → IsProduct t → Ends bs → Takes s (spell_product t ++ bs)
takes_product s d l t bs h g = again (Takes s) (spell_head t.head) (spell_factors t.factors) bs (takes_head s d l t.head (spell_factors t.factors ++ bs) h.head (takes_factors t.factors bs h.factors g))

takes_signed : (ss : List Signed) → AreSigned ss → Ends (spell_signed ss)
takes_signed [] h = λ s w. w
takes_signed (s ∷ ss) h = λ t w.
    let p : Takes states.Term (spell_product s.term ++ spell_signed ss) = takes_product states.Term refl refl s.term (spell_signed ss) h.1 (takes_signed ss h.2) in
    step t states.Term Sign s.sign.byte (s.sign.blanks ++ (spell_product s.term ++ spell_signed ss)) h.0.byte (sign_whole t w)
    (stay states.Term refl s.sign.blanks (spell_product s.term ++ spell_signed ss) h.0.blanks p)

takes_first : (m : Option Mark) (t : Product) (ss : List Signed) → IsFirstSign m → IsProduct t → AreSigned ss → Takes states.Start (spell_sign m ++ (spell_product t ++ spell_signed ss))
takes_first None t ss m p h = takes_product states.Start refl refl t (spell_signed ss) p (takes_signed ss h)
takes_first (Some k) t ss m p h =
    step states.Start states.Term Sign k.byte (k.blanks ++ (spell_product t ++ spell_signed ss)) m.byte refl
    (stay states.Term refl k.blanks (spell_product t ++ spell_signed ss) m.blanks (takes_product states.Term refl refl t (spell_signed ss) p (takes_signed ss h)))

-- each text is accepted
pub text_taken : (bs : List ℕ) → IsText bs → Takes states.Start bs
text_taken bs (t, s) = subst (Takes states.Start) (sym s.spelled)
    (stay states.Start refl t.blanks (spell_sign t.sign ++ (spell_product t.first ++ spell_signed t.others)) s.formed.blanks (takes_first t.sign t.first t.others s.formed.sign s.formed.first s.formed.others))
