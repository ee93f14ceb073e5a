-- Lemmas on the words of a line.
use Rattle.std.proofs.Common.{◌≡◌, ◌<◌, ◌≤◌, ℕ, Bool, true, false, not, ◌&&◌, cond, List, [], ◌∷◌, ◌++◌, length, take, drop, get_or, refl, sym, ap, subst, ◌∙◌, arith}
use Rattle.std.proofs.lemmas.List.{take-append-drop, drop_more, drop_all, length-take-le, nil_from_length}
use Rattle.std.proofs.lemmas.Bool.{and_parts}
use Rattle.std.specs.List.{list_all}
use Rattle.poly_text.specs.Words.{is_space, word_before, words_of}

abbrev pub is_solid : ℕ → Bool
is_solid byte = not (is_space byte)

pub words_of-space : (byte : ℕ) (bytes : List ℕ) → is_space byte ≡ true → words_of (byte ∷ bytes) ≡ words_of bytes
unfolding words_of
words_of-space byte bytes e = ap (λ (b : Bool). cond b (words_of bytes) (word_before byte bytes (words_of bytes))) e

pub words_of-solid : (byte : ℕ) (bytes : List ℕ) → is_space byte ≡ false → words_of (byte ∷ bytes) ≡ word_before byte bytes (words_of bytes)
unfolding words_of
words_of-solid byte bytes e = ap (λ (b : Bool). cond b (words_of bytes) (word_before byte bytes (words_of bytes))) e

pub words_of-nil : words_of [] ≡ []
unfolding words_of
words_of-nil = refl

-- the bytes are none, or begin with a space
abbrev pub Begins : List ℕ → Type 0
Begins [] = Unit {0}
Begins (byte ∷ bytes) = is_space byte ≡ true

last_byte : (byte : ℕ) (rest : List ℕ) (words : List (List ℕ)) → Begins rest → word_before byte rest words ≡ (byte ∷ []) ∷ words
last_byte byte [] [] h = refl
last_byte byte [] (word ∷ words) h = refl
last_byte byte (next ∷ rest) [] h = refl
last_byte byte (next ∷ rest) (word ∷ words) h =
    ap (λ (b : Bool). cond b ((byte ∷ []) ∷ word ∷ words) ((byte ∷ word) ∷ words)) h

is_false : (a : Bool) → not a ≡ true → a ≡ false
is_false true h = let wrong : false ≡ true = h in absurd cc
is_false false h = refl

pub word_run : (word rest : List ℕ) → 0 < length word → list_all is_solid word ≡ true → Begins rest → words_of (word ++ rest) ≡ word ∷ words_of rest
word_run [] rest some solid h = absurd (omega (arith, some))
word_run (x ∷ []) rest some solid h =
    words_of-solid x rest (is_false (is_space x) (and_parts (is_solid x) true solid).0) ∙ last_byte x rest (words_of rest) h
word_run (x ∷ y ∷ ys) rest some solid h =
    let others : list_all is_solid (y ∷ ys) ≡ true = (and_parts (is_solid x) (list_all is_solid (y ∷ ys)) solid).1 in
    let here : is_space x ≡ false = is_false (is_space x) (and_parts (is_solid x) (list_all is_solid (y ∷ ys)) solid).0 in
    let next : is_space y ≡ false = is_false (is_space y) (and_parts (is_solid y) (list_all is_solid ys) others).0 in
    words_of-solid x (y ∷ ys ++ rest) here
    ∙ ap (word_before x (y ∷ ys ++ rest)) (word_run (y ∷ ys) rest (omega arith) others h)
    ∙ ap (λ (b : Bool). cond b ((x ∷ []) ∷ (y ∷ ys) ∷ words_of rest) ((x ∷ y ∷ ys) ∷ words_of rest)) next

pub word_at : (bytes : List ℕ) (end : ℕ) → list_all is_solid (take end bytes) ≡ true → 0 < end → end ≤ length bytes → Begins (drop end bytes)
    → words_of bytes ≡ take end bytes ∷ words_of (drop end bytes)
word_at bytes end solid some within h =
    ap words_of (sym (take-append-drop end bytes))
    ∙ word_run (take end bytes) (drop end bytes) (omega (arith, length-take-le end bytes within)) solid h

pub begins_with : (bytes : List ℕ) (end d : ℕ) → end < length bytes → is_space (get_or bytes end d) ≡ true → Begins (drop end bytes)
begins_with bytes end d below space = subst Begins (sym (drop_more bytes end d below)) space

pub begins_none : (bytes : List ℕ) (end : ℕ) → length bytes ≤ end → Begins (drop end bytes)
begins_none bytes end above = subst Begins (sym (drop_all end bytes above)) tt

pub skip_one : (rest : List ℕ) → 0 < length rest → is_space (get_or rest 0 0) ≡ true → words_of (drop 1 rest) ≡ words_of rest
skip_one [] some space = refl
skip_one (x ∷ xs) some space = sym (words_of-space x xs space)

pub no_words : (bytes : List ℕ) → length bytes ≡ 0 → words_of bytes ≡ []
no_words bytes none = ap words_of (nil_from_length bytes none) ∙ words_of-nil
