-- Lemmas on names.
use Rattle.std.proofs.Common.{◌≡◌, ◌==◌, Result, Ok, Err, ◌≢◌, ◌≤◌, ◌<◌, ◌||◌, ◌&&◌, ◌⊎◌, ℕ, suc, zero, Bool, true, false, not, cond, List, [], ◌∷◌, ◌++◌, length, map, nat_le, All, Option, Some, None, IsUtf8, IsAscii, refl, sym, ap, ◌∙◌, subst, arith, append_assoc}
use Rattle.std.proofs.lemmas.Bool.{and_parts}
use Rattle.std.proofs.lemmas.List.Elements.{All-nil, All-push}
use Rattle.std.proofs.lemmas.Str.{IsUtf8-from_ascii}
use Rattle.std.proofs.lemmas.Slice.Eq.{bytes_eq-Decides}
use Rattle.std.specs.List.{list_all, list_any}
use Rattle.std.specs.Str.{bytes_eq}
use Rattle.text_laws.specs.Bytes.{class_of}
use Rattle.text_laws.specs.Grammar.{AreLettersOrDigits}
use Rattle.text_laws.specs.Canonical.{IsNameText, NotIn, AreNames}
use Rattle.text_laws.specs.declared.ByteClass.TheVariants.{Letter, Digit}
use Rattle.poly_text.specs.Names.{is_digit, is_letter, is_name, is_among, is_reserved, word_fault, fault_behind, names_of, unless}
use Rattle.poly_text.specs.declared.names.TheConstants.{MOST_NAMES, LONGEST_NAME}
use Rattle.poly_text.specs.declared.names.NamesFault.{NamesFault}
use Rattle.poly_text.specs.declared.names.NamesFault.TheVariants.{Count, BadName, Reserved, Repeated}

pub among_map : {X : Type 0} (f : X → List ℕ) (name : List ℕ) (xs : List X) → is_among name (map f xs) ≡ list_any (λ x. bytes_eq (f x) name) xs
among_map f name [] = refl
among_map f name (x ∷ xs) = ap (λ (b : Bool). bytes_eq (f x) name || b) (among_map f name xs)

-- ---- bytes
letter_small : (b : ℕ) → is_letter b ≡ true → b < 128
letter_small b h = grind arith

small : (b : ℕ) → (is_letter b || is_digit b) ≡ true → b < 128
small b h = grind arith

letter_class : (b : ℕ) → is_letter b ≡ true → class_of b ≡ Letter
unfolding class_of
letter_class b h = grind arith

letter_or_digit : (b : ℕ) → (is_letter b || is_digit b) ≡ true → (class_of b ≡ Letter) ⊎ (class_of b ≡ Digit)
unfolding class_of
letter_or_digit b h = grind arith

-- ---- names
all_small : (bytes : List ℕ) → list_all (λ b. is_letter b || is_digit b) bytes ≡ true → IsAscii bytes
all_small [] h i = omega arith
all_small (b ∷ bytes) h zero = small b (and_parts (is_letter b || is_digit b) (list_all (λ b. is_letter b || is_digit b) bytes) h).0
all_small (b ∷ bytes) h (suc i) = all_small bytes (and_parts (is_letter b || is_digit b) (list_all (λ b. is_letter b || is_digit b) bytes) h).1 i

name_ascii : (word : List ℕ) → is_name word ≡ true → IsAscii word
name_ascii [] h i = let wrong : false ≡ true = h in absurd cc
name_ascii (b ∷ bytes) h zero = letter_small b (and_parts _ _ h).0
name_ascii (b ∷ bytes) h (suc i) =
    all_small bytes (and_parts (list_all (λ b. is_letter b || is_digit b) bytes) (nat_le (length (b ∷ bytes)) LONGEST_NAME) (and_parts (is_letter b) _ h).1).0 i

no_utf8_where : (word : List ℕ) (b : Bool) → is_name word ≡ b → (IsUtf8 word → ⊥) → b ≡ false
no_utf8_where word true e h = absurd (h (IsUtf8-from_ascii word (name_ascii word e)))
no_utf8_where word false e h = refl

-- a name is UTF-8
pub no_utf8 : (word : List ℕ) → (IsUtf8 word → ⊥) → is_name word ≡ false
no_utf8 word h = no_utf8_where word (is_name word) refl h

-- ---- names behind others
-- names, none of them too long
pub record AreSound (names : List (List ℕ)) : Type 0 where
  pub apart : AreNames names
  pub short : All (λ name. length name ≤ LONGEST_NAME) names

pub sound_nil : AreSound []
sound_nil = record { apart = tt; short = All-nil (λ name. length name ≤ LONGEST_NAME) }

are_letters_or_digits : (bytes : List ℕ) → list_all (λ b. is_letter b || is_digit b) bytes ≡ true → AreLettersOrDigits bytes
are_letters_or_digits [] h = tt
are_letters_or_digits (b ∷ bytes) h =
    let rest = list_all (λ b. is_letter b || is_digit b) bytes in
    (letter_or_digit b (and_parts (is_letter b || is_digit b) rest h).0, are_letters_or_digits bytes (and_parts (is_letter b || is_digit b) rest h).1)

name_text : (word : List ℕ) → is_name word ≡ true → IsNameText word
name_text [] h = let wrong : false ≡ true = h in absurd cc
name_text (b ∷ bytes) h =
    let rest = list_all (λ b. is_letter b || is_digit b) bytes in
    let fits = nat_le (length (b ∷ bytes)) LONGEST_NAME in
    (letter_class b (and_parts (is_letter b) (rest && fits) h).0, are_letters_or_digits bytes (and_parts rest fits (and_parts (is_letter b) (rest && fits) h).1).0)

name_short : (word : List ℕ) → is_name word ≡ true → length word ≤ LONGEST_NAME
name_short [] h = let wrong : false ≡ true = h in absurd cc
name_short (b ∷ bytes) h =
    let rest = list_all (λ b. is_letter b || is_digit b) bytes in
    let fits = nat_le (length (b ∷ bytes)) LONGEST_NAME in
    let fit : fits ≡ true = (and_parts rest fits (and_parts (is_letter b) (rest && fits) h).1).1 in
    grind arith

-- none is among none
neither_left : (a b : Bool) → (a || b) ≡ false → a ≡ false
neither_left true b h = h
neither_left false b h = refl

neither_right : (a b : Bool) → (a || b) ≡ false → b ≡ false
neither_right true b h = let wrong : true ≡ false = h in absurd cc
neither_right false b h = h

other : (v w : List ℕ) → bytes_eq v w ≡ false → v ≢ w
other v w h e = let same : bytes_eq v w ≡ true = (bytes_eq-Decides v w).1 e in let wrong : false ≡ true = sym h ∙ same in absurd cc

not_in-push : (name : List ℕ) (names : List (List ℕ)) (word : List ℕ) → NotIn name names → name ≢ word → NotIn name (names ++ word ∷ [])
not_in-push name [] word h ne = (ne, tt)
not_in-push name (other ∷ names) word h ne = (h.0, not_in-push name names word h.1 ne)

names-push : (names : List (List ℕ)) (word : List ℕ) → AreNames names → IsNameText word → is_among word names ≡ false → AreNames (names ++ word ∷ [])
names-push [] word h formed fresh = (formed, tt, tt)
names-push (name ∷ names) word h formed fresh =
    let here : bytes_eq name word ≡ false = neither_left (bytes_eq name word) (is_among word names) fresh in
    let later : is_among word names ≡ false = neither_right (bytes_eq name word) (is_among word names) fresh in
    (h.0, not_in-push name names word h.1 (other name word here), names-push names word h.2 formed later)

-- what a word without a fault is
pub record IsFresh (earlier : List (List ℕ)) (word : List ℕ) : Type 0 where
  pub name : is_name word ≡ true
  pub fresh : is_among word earlier ≡ false

fresh_where : (earlier : List (List ℕ)) (word : List ℕ) (a b c : Bool) → is_name word ≡ a → is_among word earlier ≡ c →
    cond (not a) (Some (BadName (length earlier))) (cond b (Some (Reserved (length earlier))) (cond c (Some (Repeated (length earlier))) None)) ≡ None → IsFresh earlier word
fresh_where earlier word true false false ea ec h = record { name = ea; fresh = ec }
fresh_where earlier word true false true ea ec h = absurd cc
fresh_where earlier word true true c ea ec h = absurd cc
fresh_where earlier word false b c ea ec h = absurd cc

pub fresh : (earlier : List (List ℕ)) (word : List ℕ) → word_fault earlier word ≡ None → IsFresh earlier word
unfolding word_fault
fresh earlier word h = fresh_where earlier word (is_name word) (is_reserved word) (is_among word earlier) refl refl h

-- a word without a fault is one more name
pub sound_push : (earlier : List (List ℕ)) (word : List ℕ) → AreSound earlier → word_fault earlier word ≡ None → AreSound (earlier ++ word ∷ [])
sound_push earlier word sound none =
    let f = fresh earlier word none in
    record {
      apart = names-push earlier word sound.apart (name_text word f.name) f.fresh;
      short = All-push (λ name. length name ≤ LONGEST_NAME) earlier word sound.short (name_short word f.name);
    }

-- ---- the first fault
pub fault_none : (earlier : List (List ℕ)) → fault_behind earlier [] ≡ None
unfolding fault_behind
fault_none earlier = refl

abbrev after_word : Option NamesFault → Option NamesFault → Option NamesFault
after_word (Some fault) later = Some fault
after_word None later = later

fault_behind-cons : (earlier : List (List ℕ)) (word : List ℕ) (words : List (List ℕ)) →
    fault_behind earlier (word ∷ words) ≡ after_word (word_fault earlier word) (fault_behind (earlier ++ word ∷ []) words)
unfolding fault_behind
fault_behind-cons earlier word words = split (word_fault earlier word)
  where
    split : (o : Option NamesFault) → elim o [ Some fault ↦ Some fault | None ↦ fault_behind (earlier ++ word ∷ []) words ] ≡ after_word o (fault_behind (earlier ++ word ∷ []) words)
    split (Some fault) = refl
    split None = refl

pub fault_here : (earlier : List (List ℕ)) (word : List ℕ) (words : List (List ℕ)) (fault : NamesFault) → word_fault earlier word ≡ Some fault
    → fault_behind earlier (word ∷ words) ≡ Some fault
fault_here earlier word words fault e =
    fault_behind-cons earlier word words ∙ ap (λ (o : Option NamesFault). after_word o (fault_behind (earlier ++ word ∷ []) words)) e

pub fault_later : (earlier : List (List ℕ)) (word : List ℕ) (words : List (List ℕ)) → word_fault earlier word ≡ None
    → fault_behind earlier (word ∷ words) ≡ fault_behind (earlier ++ word ∷ []) words
fault_later earlier word words e =
    fault_behind-cons earlier word words ∙ ap (λ (o : Option NamesFault). after_word o (fault_behind (earlier ++ word ∷ []) words)) e

counted : (words : List (List ℕ)) → 0 < length words → length words ≤ MOST_NAMES → names_of words ≡ unless (fault_behind [] words) words
counted words some few =
    let tested : (length words == 0 || not (nat_le (length words) MOST_NAMES)) ≡ false = grind arith in
    ap (λ (b : Bool). cond b (Err Count) (unless (fault_behind [] words) words)) tested

-- a word with a fault refuses the words
pub refused_by : (words earlier rest later : List (List ℕ)) (word : List ℕ) (fault : NamesFault) → 0 < length words → length words ≤ MOST_NAMES →
    fault_behind earlier rest ≡ fault_behind [] words → rest ≡ word ∷ later → word_fault earlier word ≡ Some fault → names_of words ≡ Err fault
refused_by words earlier rest later word fault some few so_far cut wrong =
    counted words some few
    ∙ ap (λ (o : Option NamesFault). unless o words) (sym so_far ∙ ap (fault_behind earlier) cut ∙ fault_here earlier word later fault wrong)

-- the words are names where none is left
pub accepted : (words earlier : List (List ℕ)) → 0 < length words → length words ≤ MOST_NAMES →
    fault_behind earlier [] ≡ fault_behind [] words → earlier ≡ words → names_of words ≡ Ok earlier
accepted words earlier some few so_far all =
    counted words some few ∙ ap (λ (o : Option NamesFault). unless o words) (sym so_far ∙ fault_none earlier) ∙ ap (λ (ws : List (List ℕ)). Ok ws) (sym all)

-- what stands between the words that were read and the others
pub record IsTurn (words earlier rest : List (List ℕ)) : Type 0 where
  pub cut : earlier ++ rest ≡ words
  pub fault : fault_behind earlier rest ≡ fault_behind [] words
  pub sound : AreSound earlier

pub first_turn : (words : List (List ℕ)) → IsTurn words [] words
first_turn words = record { cut = refl; fault = refl; sound = sound_nil }

pub one_more : (words earlier rest later next : List (List ℕ)) (word : List ℕ) → IsTurn words earlier rest → rest ≡ word ∷ later →
    next ≡ earlier ++ word ∷ [] → word_fault earlier word ≡ None → IsTurn words next later
one_more words earlier rest later next word turn cut longer right =
    subst (λ (ws : List (List ℕ)). IsTurn words ws later) (sym longer)
    (record {
      cut = append_assoc earlier (word ∷ []) later ∙ ap (λ (ws : List (List ℕ)). earlier ++ ws) (sym cut) ∙ turn.cut;
      fault = sym (fault_later earlier word later right) ∙ ap (fault_behind earlier) (sym cut) ∙ turn.fault;
      sound = sound_push earlier word turn.sound right;
    })
