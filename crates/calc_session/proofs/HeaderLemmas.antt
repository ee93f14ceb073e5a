-- Lemmas on the line with the ring.
use Rattle.std.proofs.Common.{◌≡◌, inl, inr, ◌+◌, ◌*◌, ◌-◌, ◌<◌, ◌≤◌, ℕ, Bool, true, false, ◌&&◌, cond, List, [], ◌∷◌, length, take, drop, get_or, fold, nat_le, Result, Ok, Err, refl, sym, ap, subst, ◌∙◌, arith}
use Rattle.std.proofs.lemmas.List.{take-append-drop}
use Rattle.std.proofs.lemmas.List.Sums.{fold-append}
use Rattle.std.proofs.lemmas.List.Folds.{list_all_at}
use Rattle.std.specs.List.{list_all}
use Rattle.std.proofs.lemmas.Bool.Decides.{leb_tells}
use Rattle.std.specs.Prelude.{codes}
use Rattle.std.specs.Str.{bytes_eq}
use Rattle.poly_text.specs.Names.{is_digit}
use Rattle.calc_session.specs.Header.{number_of, modulus_of, ring_by, ring_of, IsChoice}
use Rattle.calc_session.specs.declared.fault.LineFault.{LineFault}
use Rattle.calc_session.specs.declared.fault.LineFault.TheVariants.{BadModulus, RingExpected}
use Rattle.calc_session.specs.declared.ring.RingChoice.{RingChoice}
use Rattle.calc_session.specs.declared.ring.RingChoice.TheVariants.{Integers, Modulus}

abbrev pub with_digit : ℕ → ℕ → ℕ
with_digit n byte = n * 10 + (byte - 48)

-- more digits make no smaller number
grows : (n : ℕ) (digits : List ℕ) → n ≤ fold with_digit n digits
grows n [] = omega arith
grows n (byte ∷ digits) = omega (arith, grows (with_digit n byte) digits)

pub number_of-take : (word : List ℕ) (i : ℕ) → number_of (take i word) ≤ number_of word
number_of-take word i =
    let whole : number_of word ≡ fold with_digit (number_of (take i word)) (drop i word) =
    ap number_of (sym (take-append-drop i word)) ∙ fold-append with_digit 0 (take i word) (drop i word) in
    omega (arith, whole, grows (number_of (take i word)) (drop i word))

and_false : (a b c : Bool) → c ≡ false → (a && (b && c)) ≡ false
and_false true true c h = h
and_false true false c h = refl
and_false false b c h = refl

and_first : (a b : Bool) → a ≡ false → (a && b) ≡ false
and_first a b h = ap (λ (x : Bool). x && b) h

and_second : (a b c : Bool) → b ≡ false → (a && (b && c)) ≡ false
and_second true b c h = ap (λ (x : Bool). x && c) h
and_second false b c h = refl

abbrev choice : Bool → ℕ → Result RingChoice LineFault
choice b n = cond b (Ok (Modulus n)) (Err BadModulus)

not_le : (m n : ℕ) → n < m → nat_le m n ≡ false
not_le m n h = search (arith, h)

pub modulus_big : (word : List ℕ) (i : ℕ) → 18446744073709551615 < number_of (take i word) → Err BadModulus ≡ modulus_of word
unfolding modulus_of
modulus_big word i big =
    sym (ap (λ (b : Bool). choice b (number_of word)) (and_false (list_all is_digit word) (nat_le 2 (number_of word)) (nat_le (number_of word) 18446744073709551615)
    (not_le (number_of word) 18446744073709551615 (omega (arith, number_of-take word i)))))

pub modulus_small : (word : List ℕ) → number_of word < 2 → Err BadModulus ≡ modulus_of word
unfolding modulus_of
modulus_small word small =
    sym (ap (λ (b : Bool). choice b (number_of word)) (and_second (list_all is_digit word) (nat_le 2 (number_of word)) (nat_le (number_of word) 18446744073709551615)
    (not_le 2 (number_of word) small)))

pub modulus_bad : (word : List ℕ) (i d : ℕ) → i < length word → is_digit (get_or word i d) ≡ false → Err BadModulus ≡ modulus_of word
unfolding modulus_of
modulus_bad word i d below bad =
    sym (ap (λ (b : Bool). choice b (number_of word)) (and_first (list_all is_digit word) (nat_le 2 (number_of word) && nat_le (number_of word) 18446744073709551615)
    (list_all_at is_digit word i d below bad)))

-- ---- a modulus is at least 2

middle : (a b c : Bool) → (a && (b && c)) ≡ true → b ≡ true
middle true true c h = refl
middle true false c h = h
middle false b c h = absurd cc

at_least : (n : ℕ) → nat_le 2 n ≡ true → 2 ≤ n
at_least n h = elim (leb_tells 2 n) [
  | inl at ↦ at.1
  | inr below ↦ absurd cc
]

modulus_choice : (word : List ℕ) (choice : RingChoice) → modulus_of word ≡ Ok choice → IsChoice choice
unfolding modulus_of
modulus_choice word choice e = pick _ refl e
  where
    pick : (b : Bool) → (list_all is_digit word && (nat_le 2 (number_of word) && nat_le (number_of word) 18446744073709551615)) ≡ b
        → cond b (Ok (Modulus (number_of word))) (Err BadModulus) ≡ Ok choice → IsChoice choice
    pick true t h =
        let same : Modulus (number_of word) ≡ choice = cc in
        subst IsChoice same (at_least (number_of word) (middle (list_all is_digit word) _ _ t))
    pick false t h = absurd cc

by_choice : (words : List (List ℕ)) (choice : RingChoice) → ring_by words ≡ Ok choice → IsChoice choice
by_choice [] choice e = absurd cc
by_choice (word ∷ []) choice e = pick (bytes_eq word (codes "Z")) e
  where
    pick : (b : Bool) → cond b (Ok Integers) (Err RingExpected) ≡ Ok choice → IsChoice choice
    pick true h =
        let same : Integers ≡ choice = cc in
        subst IsChoice same tt
    pick false h = absurd cc
by_choice (word ∷ modulus ∷ []) choice e = pick (bytes_eq word (codes "mod")) e
  where
    pick : (b : Bool) → cond b (modulus_of modulus) (Err RingExpected) ≡ Ok choice → IsChoice choice
    pick true h = modulus_choice modulus choice h
    pick false h = absurd cc
by_choice (word ∷ modulus ∷ more ∷ words) choice e = absurd cc

pub ring_choice : (words : List (List ℕ)) (choice : RingChoice) → ring_of words ≡ Ok choice → IsChoice choice
ring_choice [] choice e = absurd cc
ring_choice (first ∷ words) choice e = pick (bytes_eq first (codes "ring")) e
  where
    pick : (b : Bool) → cond b (ring_by words) (Err RingExpected) ≡ Ok choice → IsChoice choice
    pick true h = by_choice words choice h
    pick false h = absurd cc
