-- The grammar of polynomial text. A text is the spelling of a well-formed tree. The blanks before the first token stand in the text,
-- and those after a token stand with the token:
--
--   poly   = [sign] term { sign term }
--   sign   = '+' | '-'
--   term   = number { '*' power } | power { '*' power }
--   power  = name [ '^' number ]
--   number = digit { digit }
--   name   = letter { letter | digit }          where _ is a letter
--
-- No token follows another that it could prolong: a number or a name is followed by blanks, a mark or the end. So each token is as long
-- as possible in each tree.
use Rattle.std.specs.Prelude.{◌≡◌, ◌⊎◌, ℕ, List, [], ◌∷◌, ◌++◌, Option, Some, None}
use Rattle.text_laws.specs.Bytes.{class_of}
use Rattle.text_laws.specs.declared.ByteClass.{ByteClass}
use Rattle.text_laws.specs.declared.ByteClass.TheVariants.{Blank, Digit, Letter, Sign, Star, Caret}

-- ---- tokens, each with the blanks after it
-- a sign, a star or a caret
pub record Mark : Type 0 where
  pub byte : ℕ
  pub blanks : List ℕ

-- a number or a name
pub record Word : Type 0 where
  pub first : ℕ
  pub more : List ℕ
  pub blanks : List ℕ

-- ---- trees
-- '^' number
pub record Raised : Type 0 where
  pub caret : Mark
  pub number : Word

-- name [ '^' number ]
pub record Power : Type 0 where
  pub name : Word
  pub raised : Option Raised

-- '*' power
pub record Factor : Type 0 where
  pub star : Mark
  pub power : Power

-- number | power
pub data Head : Type 0 where
  Numeral : Word → Head
  Symbol : Power → Head

-- ( number | power ) { '*' power }
pub record Product : Type 0 where
  pub head : Head
  pub factors : List Factor

-- sign term
pub record Signed : Type 0 where
  pub sign : Mark
  pub term : Product

-- [sign] term { sign term }
pub record Tree : Type 0 where
  pub blanks : List ℕ
  pub sign : Option Mark
  pub first : Product
  pub others : List Signed

-- ---- well-formed trees
-- the class of each byte is such
abbrev pub Each : (ByteClass → Type 0) → List ℕ → Type 0
Each P [] = Unit {0}
Each P (b ∷ bs) = P (class_of b) × Each P bs

abbrev pub AreBlanks : List ℕ → Type 0
AreBlanks bs = Each (λ c. c ≡ Blank) bs

abbrev pub AreDigits : List ℕ → Type 0
AreDigits bs = Each (λ c. c ≡ Digit) bs

abbrev pub AreLettersOrDigits : List ℕ → Type 0
AreLettersOrDigits bs = Each (λ c. (c ≡ Letter) ⊎ (c ≡ Digit)) bs

-- a token of one byte of the class
pub record IsMark (c : ByteClass) (m : Mark) : Type 0 where
  pub byte : class_of m.byte ≡ c
  pub blanks : AreBlanks m.blanks

pub record IsNumber (w : Word) : Type 0 where
  pub first : class_of w.first ≡ Digit
  pub more : AreDigits w.more
  pub blanks : AreBlanks w.blanks

pub record IsName (w : Word) : Type 0 where
  pub first : class_of w.first ≡ Letter
  pub more : AreLettersOrDigits w.more
  pub blanks : AreBlanks w.blanks

abbrev pub IsRaised : Option Raised → Type 0
IsRaised None = Unit {0}
IsRaised (Some r) = IsMark Caret r.caret × IsNumber r.number

pub record IsPower (p : Power) : Type 0 where
  pub name : IsName p.name
  pub raised : IsRaised p.raised

abbrev pub AreFactors : List Factor → Type 0
AreFactors [] = Unit {0}
AreFactors (f ∷ fs) = IsMark Star f.star × IsPower f.power × AreFactors fs

abbrev pub IsHead : Head → Type 0
IsHead (Numeral w) = IsNumber w
IsHead (Symbol p) = IsPower p

pub record IsProduct (t : Product) : Type 0 where
  pub head : IsHead t.head
  pub factors : AreFactors t.factors

abbrev pub AreSigned : List Signed → Type 0
AreSigned [] = Unit {0}
AreSigned (s ∷ ss) = IsMark Sign s.sign × IsProduct s.term × AreSigned ss

abbrev pub IsFirstSign : Option Mark → Type 0
IsFirstSign None = Unit {0}
IsFirstSign (Some m) = IsMark Sign m

pub record IsTree (t : Tree) : Type 0 where
  pub blanks : AreBlanks t.blanks
  pub sign : IsFirstSign t.sign
  pub first : IsProduct t.first
  pub others : AreSigned t.others

-- ---- spelling
abbrev pub spell_mark : Mark → List ℕ
spell_mark m = m.byte ∷ m.blanks

abbrev pub spell_word : Word → List ℕ
spell_word w = w.first ∷ (w.more ++ w.blanks)

abbrev pub spell_raised : Option Raised → List ℕ
spell_raised None = []
spell_raised (Some r) = spell_mark r.caret ++ spell_word r.number

abbrev pub spell_power : Power → List ℕ
spell_power p = spell_word p.name ++ spell_raised p.raised

abbrev pub spell_factors : List Factor → List ℕ
spell_factors [] = []
spell_factors (f ∷ fs) = spell_mark f.star ++ (spell_power f.power ++ spell_factors fs)

abbrev pub spell_head : Head → List ℕ
spell_head (Numeral w) = spell_word w
spell_head (Symbol p) = spell_power p

abbrev pub spell_product : Product → List ℕ
spell_product t = spell_head t.head ++ spell_factors t.factors

abbrev pub spell_signed : List Signed → List ℕ
spell_signed [] = []
spell_signed (s ∷ ss) = spell_mark s.sign ++ (spell_product s.term ++ spell_signed ss)

abbrev pub spell_sign : Option Mark → List ℕ
spell_sign None = []
spell_sign (Some m) = spell_mark m

abbrev pub spelling : Tree → List ℕ
spelling t = t.blanks ++ (spell_sign t.sign ++ (spell_product t.first ++ spell_signed t.others))

-- ---- what may follow in a text
-- behind a term: nothing, or a sign
abbrev pub EndsTerm : List ℕ → Type 0
EndsTerm [] = Unit {0}
EndsTerm (b ∷ bs) = class_of b ≡ Sign

-- behind a power: nothing, a sign or a star
abbrev pub EndsPower : List ℕ → Type 0
EndsPower [] = Unit {0}
EndsPower (b ∷ bs) = (class_of b ≡ Sign) ⊎ (class_of b ≡ Star)

-- ---- texts
-- the tree is well formed and spells the bytes
pub record Spells (t : Tree) (bytes : List ℕ) : Type 0 where
  pub formed : IsTree t
  pub spelled : bytes ≡ spelling t

-- the bytes are in the grammar
abbrev pub IsText : List ℕ → Type 0
IsText bytes = (t : Tree) × Spells t bytes

-- some text of the grammar begins with the bytes
abbrev pub BeginsText : List ℕ → Type 0
BeginsText bytes = (rest : List ℕ) × IsText (bytes ++ rest)
