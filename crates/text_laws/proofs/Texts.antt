-- What the automaton accepts is a text, and it lives on exactly what begins a text.
use Rattle.std.proofs.Common.{◌≡◌, ℕ, true, List, [], ◌∷◌, ◌++◌, Option, Some, None, refl, sym, ◌∙◌, ap, inl, inr, append_assoc, true≢false}
use Rattle.text_laws.specs.Bytes.{class_of}
use Rattle.text_laws.specs.Grammar.{Word, Raised, Power, Factor, Numeral, Symbol, Product, Signed, AreBlanks, AreDigits, AreLettersOrDigits, IsNumber, IsRaised, IsPower, AreFactors, IsProduct, AreSigned, spell_word, spell_raised, spell_power, spell_factors, spell_product, spell_signed, spelling, IsText, BeginsText}
use Rattle.text_laws.specs.Automaton.{next, is_whole, is_live, run}
use Rattle.text_laws.specs.declared.ByteClass.{ByteClass}
use Rattle.text_laws.specs.declared.ByteClass.TheVariants.{Blank, Digit, Letter, Sign, Star, Caret}
use Rattle.text_laws.specs.declared.State.{State}
use Rattle.text_laws.specs.declared.State.TheVariants as states
use Rattle.text_laws.proofs.Run.{Takes, run-append, text_taken}

-- ---- what may follow in each state
abbrev Tail : List ℕ → Type 0
Tail bs = (fs : List Factor) × (ss : List Signed) × AreFactors fs × AreSigned ss × (bs ≡ spell_factors fs ++ spell_signed ss)

abbrev Raise : List ℕ → Type 0
Raise bs = (r : Option Raised) × (rest : List ℕ) × IsRaised r × (bs ≡ spell_raised r ++ rest) × Tail rest

-- after digits, after a number and blanks, after letters, after a name and blanks
abbrev InNumber : List ℕ → Type 0
InNumber bs = (ds : List ℕ) × (bl : List ℕ) × (rest : List ℕ) × AreDigits ds × AreBlanks bl × (bs ≡ (ds ++ bl) ++ rest) × Tail rest

abbrev AfterNumber : List ℕ → Type 0
AfterNumber bs = (bl : List ℕ) × (rest : List ℕ) × AreBlanks bl × (bs ≡ bl ++ rest) × Tail rest

abbrev InName : List ℕ → Type 0
InName bs = (ls : List ℕ) × (bl : List ℕ) × (rest : List ℕ) × AreLettersOrDigits ls × AreBlanks bl × (bs ≡ (ls ++ bl) ++ rest) × Raise rest

abbrev AfterName : List ℕ → Type 0
AfterName bs = (bl : List ℕ) × (rest : List ℕ) × AreBlanks bl × (bs ≡ bl ++ rest) × Raise rest

-- after a caret, after a star, after a sign
abbrev AfterCaret : List ℕ → Type 0
AfterCaret bs = (bl : List ℕ) × (w : Word) × (rest : List ℕ) × AreBlanks bl × IsNumber w × (bs ≡ bl ++ (spell_word w ++ rest)) × Tail rest

abbrev AfterStar : List ℕ → Type 0
AfterStar bs = (bl : List ℕ) × (p : Power) × (rest : List ℕ) × AreBlanks bl × IsPower p × (bs ≡ bl ++ (spell_power p ++ rest)) × Tail rest

abbrev AfterSign : List ℕ → Type 0
AfterSign bs = (bl : List ℕ) × (t : Product) × (ss : List Signed) × AreBlanks bl × IsProduct t × AreSigned ss × (bs ≡ bl ++ (spell_product t ++ spell_signed ss))

abbrev Rest : State → List ℕ → Type 0
Rest states.Start bs = IsText bs
Rest states.Term bs = AfterSign bs
Rest states.Number bs = InNumber bs
Rest states.NumberEnd bs = AfterNumber bs
Rest states.Power bs = AfterStar bs
Rest states.Name bs = InName bs
Rest states.NameEnd bs = AfterName bs
Rest states.Exponent bs = AfterCaret bs
Rest states.Dead bs = ⊥

-- ---- one more byte in front
cons : (b : ℕ) (xs ys : List ℕ) → xs ≡ ys → b ∷ xs ≡ b ∷ ys
cons b xs ys e = ap (λ l. b ∷ l) e

assoc3 : (a b c d : List ℕ) → a ++ (b ++ (c ++ d)) ≡ (a ++ (b ++ c)) ++ d
assoc3 a b c d = ap (λ l. a ++ l) (sym (append_assoc b c d)) ∙ sym (append_assoc a (b ++ c) d)

no_tail : Tail []
no_tail = ([], [], tt, tt, refl)

star_tail : (b : ℕ) (bs : List ℕ) → class_of b ≡ Star → AfterStar bs → Tail (b ∷ bs)
star_tail b bs c (bl, p, rest, h, g, e, (fs, ss, f, s, d)) = (
  record { star = record { byte = b; blanks = bl }; power = p } ∷ fs,
  ss,
  (record { byte = c; blanks = h }, g, f),
  s,
  cons b bs ((bl ++ (spell_power p ++ spell_factors fs)) ++ spell_signed ss)
      (e ∙ ap (λ l. bl ++ (spell_power p ++ l)) d ∙ assoc3 bl (spell_power p) (spell_factors fs) (spell_signed ss)),
)

sign_tail : (b : ℕ) (bs : List ℕ) → class_of b ≡ Sign → AfterSign bs → Tail (b ∷ bs)
sign_tail b bs c (bl, t, ss, h, g, s, e) = (
  [],
  record { sign = record { byte = b; blanks = bl }; term = t } ∷ ss,
  tt,
  (record { byte = c; blanks = h }, g, s),
  cons b bs (bl ++ (spell_product t ++ spell_signed ss)) e,
)

none_raised : (bs : List ℕ) → Tail bs → Raise bs
none_raised bs t = (None, bs, tt, refl, t)

caret_raised : (b : ℕ) (bs : List ℕ) → class_of b ≡ Caret → AfterCaret bs → Raise (b ∷ bs)
caret_raised b bs c (bl, w, rest, h, g, e, t) = (
  Some (record { caret = record { byte = b; blanks = bl }; number = w }),
  rest,
  (record { byte = c; blanks = h }, g),
  cons b bs ((bl ++ spell_word w) ++ rest) (e ∙ sym (append_assoc bl (spell_word w) rest)),
  t,
)

abbrev WordThen : List ℕ → Type 0
WordThen bs = (w : Word) × (rest : List ℕ) × IsNumber w × (bs ≡ spell_word w ++ rest) × Tail rest

number_word : (b : ℕ) (bs : List ℕ) → class_of b ≡ Digit → InNumber bs → WordThen (b ∷ bs)
number_word b bs c (ds, bl, rest, d, h, e, t) =
    (record { first = b; more = ds; blanks = bl }, rest, record { first = c; more = d; blanks = h }, cons b bs ((ds ++ bl) ++ rest) e, t)

abbrev PowerThen : List ℕ → Type 0
PowerThen bs = (p : Power) × (rest : List ℕ) × IsPower p × (bs ≡ spell_power p ++ rest) × Tail rest

name_power : (b : ℕ) (bs : List ℕ) → class_of b ≡ Letter → InName bs → PowerThen (b ∷ bs)
name_power b bs c (ls, bl, r, d, h, e, (o, rest, i, f, t)) = (
  record { name = record { first = b; more = ls; blanks = bl }; raised = o },
  rest,
  record { name = record { first = c; more = d; blanks = h }; raised = i },
  cons b bs (((ls ++ bl) ++ spell_raised o) ++ rest) (e ∙ ap (λ l. (ls ++ bl) ++ l) f ∙ sym (append_assoc (ls ++ bl) (spell_raised o) rest)),
  t,
)

abbrev ProductThen : List ℕ → Type 0
ProductThen bs = (t : Product) × (ss : List Signed) × IsProduct t × AreSigned ss × (bs ≡ spell_product t ++ spell_signed ss)

number_product : (bs : List ℕ) → WordThen bs → ProductThen bs
number_product bs (w, rest, i, e, (fs, ss, f, s, d)) = (
  record { head = Numeral w; factors = fs },
  ss,
  record { head = i; factors = f },
  s,
  e ∙ ap (λ l. spell_word w ++ l) d ∙ sym (append_assoc (spell_word w) (spell_factors fs) (spell_signed ss)),
)

power_product : (bs : List ℕ) → PowerThen bs → ProductThen bs
power_product bs (p, rest, i, e, (fs, ss, f, s, d)) = (
  record { head = Symbol p; factors = fs },
  ss,
  record { head = i; factors = f },
  s,
  e ∙ ap (λ l. spell_power p ++ l) d ∙ sym (append_assoc (spell_power p) (spell_factors fs) (spell_signed ss)),
)

signless : (bs : List ℕ) → ProductThen bs → IsText bs
signless bs (t, ss, i, s, e) = (record { blanks = []; sign = None; first = t; others = ss }, record { formed = record { blanks = tt; sign = tt; first = i; others = s }; spelled = e })

after_sign : (bs : List ℕ) → ProductThen bs → AfterSign bs
after_sign bs (t, ss, i, s, e) = ([], t, ss, tt, i, s, e)

sign_text : (b : ℕ) (bs : List ℕ) → class_of b ≡ Sign → AfterSign bs → IsText (b ∷ bs)
sign_text b bs c (bl, t, ss, h, i, s, e) = (
  record { blanks = []; sign = Some (record { byte = b; blanks = bl }); first = t; others = ss },
  record { formed = record { blanks = tt; sign = record { byte = c; blanks = h }; first = i; others = s }; spelled = cons b bs (bl ++ (spell_product t ++ spell_signed ss)) e },
)

blank_text : (b : ℕ) (bs : List ℕ) → class_of b ≡ Blank → IsText bs → IsText (b ∷ bs)
blank_text b bs c (t, s) =
    (record t { blanks = b ∷ t.blanks }, record { formed = record { blanks = (c, s.formed.blanks); sign = s.formed.sign; first = s.formed.first; others = s.formed.others }; spelled = cons b bs (spelling t) s.spelled })

after_number : (bs : List ℕ) → Tail bs → AfterNumber bs
after_number bs t = ([], bs, tt, refl, t)

in_number : (bs : List ℕ) → AfterNumber bs → InNumber bs
in_number bs (bl, rest, h, e, t) = ([], bl, rest, tt, h, e, t)

after_name : (bs : List ℕ) → Raise bs → AfterName bs
after_name bs t = ([], bs, tt, refl, t)

in_name : (bs : List ℕ) → AfterName bs → InName bs
in_name bs (bl, rest, h, e, t) = ([], bl, rest, tt, h, e, t)

rest_step : (s : State) (c : ByteClass) (b : ℕ) (bs : List ℕ) → class_of b ≡ c → Rest (next s c) bs → Rest s (b ∷ bs)
rest_step states.Start Blank b bs c r = blank_text b bs c r
rest_step states.Start Sign b bs c r = sign_text b bs c r
rest_step states.Start Digit b bs c r = signless (b ∷ bs) (number_product (b ∷ bs) (number_word b bs c r))
rest_step states.Start Letter b bs c r = signless (b ∷ bs) (power_product (b ∷ bs) (name_power b bs c r))
rest_step states.Term Blank b bs c (bl, t, ss, h, i, s, e) = (b ∷ bl, t, ss, (c, h), i, s, cons b bs (bl ++ (spell_product t ++ spell_signed ss)) e)
rest_step states.Term Digit b bs c r = after_sign (b ∷ bs) (number_product (b ∷ bs) (number_word b bs c r))
rest_step states.Term Letter b bs c r = after_sign (b ∷ bs) (power_product (b ∷ bs) (name_power b bs c r))
rest_step states.Number Digit b bs c (ds, bl, rest, d, h, e, t) = (b ∷ ds, bl, rest, (c, d), h, cons b bs ((ds ++ bl) ++ rest) e, t)
rest_step states.Number Blank b bs c (bl, rest, h, e, t) = ([], b ∷ bl, rest, tt, (c, h), cons b bs (bl ++ rest) e, t)
rest_step states.Number Star b bs c r = in_number (b ∷ bs) (after_number (b ∷ bs) (star_tail b bs c r))
rest_step states.Number Sign b bs c r = in_number (b ∷ bs) (after_number (b ∷ bs) (sign_tail b bs c r))
rest_step states.NumberEnd Blank b bs c (bl, rest, h, e, t) = (b ∷ bl, rest, (c, h), cons b bs (bl ++ rest) e, t)
rest_step states.NumberEnd Star b bs c r = after_number (b ∷ bs) (star_tail b bs c r)
rest_step states.NumberEnd Sign b bs c r = after_number (b ∷ bs) (sign_tail b bs c r)
rest_step states.Power Blank b bs c (bl, p, rest, h, i, e, t) = (b ∷ bl, p, rest, (c, h), i, cons b bs (bl ++ (spell_power p ++ rest)) e, t)
rest_step states.Power Letter b bs c r = let k = name_power b bs c r in ([], k.0, k.1, tt, k.2, k.3, k.4)
rest_step states.Name Letter b bs c (ls, bl, rest, d, h, e, t) = (b ∷ ls, bl, rest, (inl c, d), h, cons b bs ((ls ++ bl) ++ rest) e, t)
rest_step states.Name Digit b bs c (ls, bl, rest, d, h, e, t) = (b ∷ ls, bl, rest, (inr c, d), h, cons b bs ((ls ++ bl) ++ rest) e, t)
rest_step states.Name Blank b bs c (bl, rest, h, e, t) = ([], b ∷ bl, rest, tt, (c, h), cons b bs (bl ++ rest) e, t)
rest_step states.Name Caret b bs c r = in_name (b ∷ bs) (after_name (b ∷ bs) (caret_raised b bs c r))
rest_step states.Name Star b bs c r = in_name (b ∷ bs) (after_name (b ∷ bs) (none_raised (b ∷ bs) (star_tail b bs c r)))
rest_step states.Name Sign b bs c r = in_name (b ∷ bs) (after_name (b ∷ bs) (none_raised (b ∷ bs) (sign_tail b bs c r)))
rest_step states.NameEnd Blank b bs c (bl, rest, h, e, t) = (b ∷ bl, rest, (c, h), cons b bs (bl ++ rest) e, t)
rest_step states.NameEnd Caret b bs c r = after_name (b ∷ bs) (caret_raised b bs c r)
rest_step states.NameEnd Star b bs c r = after_name (b ∷ bs) (none_raised (b ∷ bs) (star_tail b bs c r))
rest_step states.NameEnd Sign b bs c r = after_name (b ∷ bs) (none_raised (b ∷ bs) (sign_tail b bs c r))
rest_step states.Exponent Blank b bs c (bl, w, rest, h, i, e, t) = (b ∷ bl, w, rest, (c, h), i, cons b bs (bl ++ (spell_word w ++ rest)) e, t)
rest_step states.Exponent Digit b bs c r = let k = number_word b bs c r in ([], k.0, k.1, tt, k.2, k.3, k.4)
rest_step _ _ b bs c r = absurd r

rest_none : (s : State) → is_whole s ≡ true → Rest s []
rest_none states.Number e = in_number [] (after_number [] no_tail)
rest_none states.NumberEnd e = after_number [] no_tail
rest_none states.Name e = in_name [] (after_name [] (none_raised [] no_tail))
rest_none states.NameEnd e = after_name [] (none_raised [] no_tail)
rest_none states.Start e = absurd (true≢false (sym e))
rest_none states.Term e = absurd (true≢false (sym e))
rest_none states.Power e = absurd (true≢false (sym e))
rest_none states.Exponent e = absurd (true≢false (sym e))
rest_none states.Dead e = absurd (true≢false (sym e))

rest_of : (bs : List ℕ) (s : State) → Takes s bs → Rest s bs
rest_of [] s h = rest_none s h
rest_of (b ∷ bs) s h = rest_step s (class_of b) b bs refl (rest_of bs (next s (class_of b)) h)

-- what is accepted is a text
pub taken_text : (bs : List ℕ) → Takes states.Start bs → IsText bs
taken_text bs h = rest_of bs states.Start h

-- ---- the states that live
-- from each of them some bytes lead to the end of a text
complete : (s : State) → is_live s ≡ true → (rest : List ℕ) × Takes s rest
unfolding class_of
complete states.Start e = (48 ∷ [], refl)
complete states.Term e = (48 ∷ [], refl)
complete states.Number e = ([], refl)
complete states.NumberEnd e = ([], refl)
complete states.Power e = (120 ∷ [], refl)
complete states.Name e = ([], refl)
complete states.NameEnd e = ([], refl)
complete states.Exponent e = (48 ∷ [], refl)
complete states.Dead e = absurd (true≢false (sym e))

dead_stays : (bs : List ℕ) → run states.Dead bs ≡ states.Dead
dead_stays [] = refl
dead_stays (b ∷ bs) = dead_stays bs

-- what may still become a text is alive
pub live_before : (s : State) (bs : List ℕ) → is_whole (run s bs) ≡ true → is_live s ≡ true
live_before states.Dead bs h = absurd (true≢false (sym (sym (ap is_whole (dead_stays bs)) ∙ h)))
live_before states.Start bs h = refl
live_before states.Term bs h = refl
live_before states.Number bs h = refl
live_before states.NumberEnd bs h = refl
live_before states.Power bs h = refl
live_before states.Name bs h = refl
live_before states.NameEnd bs h = refl
live_before states.Exponent bs h = refl

-- the automaton lives exactly on what begins a text
pub live_begins : (bs : List ℕ) → is_live (run states.Start bs) ≡ true → BeginsText bs
live_begins bs h =
    let k = complete (run states.Start bs) h in
    (k.0, taken_text (bs ++ k.0) (ap is_whole (run-append states.Start bs k.0) ∙ k.1))

pub begins_live : (bs : List ℕ) → BeginsText bs → is_live (run states.Start bs) ≡ true
begins_live bs (rest, t) = live_before (run states.Start bs) rest (sym (ap is_whole (run-append states.Start bs rest)) ∙ text_taken (bs ++ rest) t)
