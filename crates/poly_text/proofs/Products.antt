-- A term at the place.
use Rattle.std.proofs.Common.{◌≡◌, ◌<◌, ◌≤◌, ◌+◌, ℕ, min, cond, List, [], ◌∷◌, ◌++◌, length, drop, get_or, Some, Ok, Err, refl, sym, ◌∙◌, ap, subst, append_assoc, length-append, arith}
use Rattle.std.proofs.lemmas.List.{drop_more, drop_all}
use Rattle.text_laws.specs.Bytes.{class_of}
use Rattle.text_laws.specs.Grammar.{Word, Power, Factor, Head, Numeral, Symbol, Product, IsPower, AreFactors, IsHead, IsProduct, spell_word, spell_power, spell_factors, spell_head, spell_product, EndsPower, EndsTerm}
use Rattle.text_laws.specs.Summands.{Written, unknown_in, factors_at, number_of}
use Rattle.text_laws.specs.Reading.{is_blank, is_digit}
use Rattle.text_laws.specs.declared.ByteClass.{ByteClass}
use Rattle.text_laws.specs.declared.ByteClass.TheVariants.{Digit, Letter}
use Rattle.text_laws.proofs.TreeTokens.{factors_end}
use Rattle.poly_text.specs.Exponents.{all_added}
use Rattle.poly_text.specs.Tokens.{after, cap, capped_front}
use Rattle.poly_text.specs.Reads.{AddsPower, AddsFactors, ReadsProduct}
use Rattle.poly_text.specs.declared.factors.UnknownName.{UnknownName}
use Rattle.poly_text.proofs.TokenFronts.{number_front}
use Rattle.poly_text.proofs.FactorLoop.{place}

head_class : (bytes xs : List ℕ) (at b : ℕ) → at < length bytes → drop at bytes ≡ b ∷ xs → class_of (get_or bytes at 0) ≡ class_of b
head_class bytes xs at b h e = ap (λ l. class_of (get_or l 0 0)) (sym (drop_more bytes at 0 h) ∙ e)

-- a number stands at the place
pub record Numbered (bytes rest : List ℕ) (at next size : ℕ) (t : Product) : Type 0 where
  pub word : Word
  pub fs : List Factor
  pub is : t ≡ record { head = Numeral word; factors = fs }
  pub formed : AreFactors fs
  pub place : next ≡ at + length (spell_word word)
  pub left : drop next bytes ≡ spell_factors fs ++ rest
  pub value : size ≡ min (number_of word) cap

pub numbered : (bytes rest : List ℕ) (at next size : ℕ) (t : Product) → IsProduct t → EndsTerm rest → drop at bytes ≡ spell_product t ++ rest → at < length bytes → class_of (get_or bytes at 0) ≡ Digit
    → next ≤ length bytes → size ≡ capped_front 0 (drop at bytes) → drop next bytes ≡ after is_blank (after is_digit (drop at bytes)) → Numbered bytes rest at next size t
numbered bytes rest at next size t i s e h c b v a = by t.head t.factors refl i.head i.factors e
  where
    by : (k : Head) (fs : List Factor) → t ≡ record { head = k; factors = fs } → IsHead k → AreFactors fs → drop at bytes ≡ (spell_head k ++ spell_factors fs) ++ rest → Numbered bytes rest at next size t
    by (Symbol p) fs q g f e =
        let d : class_of p.name.first ≡ Digit = sym (head_class bytes ((((p.name.more ++ p.name.blanks) ++ _) ++ spell_factors fs) ++ rest) at p.name.first h e) ∙ c in
        let l : class_of p.name.first ≡ Letter = g.name.first in
        absurd (clash (class_of p.name.first) d l)
      where
        clash : (c : ByteClass) → c ≡ Digit → c ≡ Letter → ⊥
        clash c d l = cc
    by (Numeral w) fs q g f e =
        let F : List ℕ = spell_factors fs ++ rest in
        let here : drop at bytes ≡ spell_word w ++ F = e ∙ append_assoc (spell_word w) (spell_factors fs) rest in
        let n = number_front w F g (factors_end fs rest f s) in
        let left : drop next bytes ≡ F = a ∙ ap (λ l. after is_blank (after is_digit l)) here ∙ n.1 in
        record {
          word = w;
          fs = fs;
          is = q;
          formed = f;
          place = place bytes F at next (length (spell_word w)) h b (ap length here ∙ length-append (spell_word w) F) left;
          left = left;
          value = v ∙ ap (capped_front 0) here ∙ n.0;
        }

pub numbered_ok : (names : List (List ℕ)) (bytes rest : List ℕ) (at end size next : ℕ) (t : Product) (old new : List ℕ) (n : Numbered bytes rest at end size t) → AddsFactors names bytes end n.fs rest old new (Ok next)
    → ReadsProduct names bytes at t rest old new (Ok (record { size = size; next = next }))
numbered_ok names bytes rest at end size next t old new n a =
    let W : ℕ → List Written = λ k. factors_at k n.fs in
    let R : Product → Type 0 = λ u. ReadsProduct names bytes at u rest old new (Ok (record { size = size; next = next })) in
    subst R (sym n.is) (ap (λ k. unknown_in names (W k)) (sym n.place) ∙ a.0, n.value, a.1, a.2 ∙ ap (λ k. all_added names (W k) old) n.place)

pub numbered_err : (names : List (List ℕ)) (bytes rest : List ℕ) (at end size : ℕ) (u : UnknownName) (t : Product) (old new : List ℕ) (n : Numbered bytes rest at end size t) → AddsFactors names bytes end n.fs rest old new (Err u)
    → ReadsProduct names bytes at t rest old new (Err u)
numbered_err names bytes rest at end size u t old new n a =
    let R : Product → Type 0 = λ v. ReadsProduct names bytes at v rest old new (Err u) in
    subst R (sym n.is) (ap (λ k. unknown_in names (factors_at k n.fs)) (sym n.place) ∙ a)

-- a power stands at the place
pub record Named (bytes rest : List ℕ) (at : ℕ) (t : Product) : Type 0 where
  pub power : Power
  pub fs : List Factor
  pub is : t ≡ record { head = Symbol power; factors = fs }
  pub is_power : IsPower power
  pub formed : AreFactors fs
  pub ends : EndsPower (spell_factors fs ++ rest)
  pub spelled : drop at bytes ≡ spell_power power ++ (spell_factors fs ++ rest)

pub named : (bytes rest : List ℕ) (at : ℕ) (t : Product) → IsProduct t → EndsTerm rest → drop at bytes ≡ spell_product t ++ rest → at < length bytes → (class_of (get_or bytes at 0) ≡ Digit → ⊥) → Named bytes rest at t
named bytes rest at t i s e h c = by t.head t.factors refl i.head i.factors e
  where
    by : (k : Head) (fs : List Factor) → t ≡ record { head = k; factors = fs } → IsHead k → AreFactors fs → drop at bytes ≡ (spell_head k ++ spell_factors fs) ++ rest → Named bytes rest at t
    by (Numeral w) fs q g f e = absurd (c (head_class bytes (((w.more ++ w.blanks) ++ spell_factors fs) ++ rest) at w.first h e ∙ g.first))
    by (Symbol p) fs q g f e = record { power = p; fs = fs; is = q; is_power = g; formed = f; ends = factors_end fs rest f s; spelled = e ∙ append_assoc (spell_power p) (spell_factors fs) rest }

pub behind : (names : List (List ℕ)) (bytes rest : List ℕ) (at end : ℕ) (t : Product) (old mid : List ℕ) (n : Named bytes rest at t) → at < length bytes → end ≤ length bytes
    → AddsPower names bytes at n.power (spell_factors n.fs ++ rest) old mid (Ok end) → end ≡ at + length (spell_power n.power)
behind names bytes rest at end t old mid n h b a = place bytes (spell_factors n.fs ++ rest) at end (length (spell_power n.power)) h b (ap length n.spelled ∙ length-append (spell_power n.power) (spell_factors n.fs ++ rest)) a.1

pub named_ok : (names : List (List ℕ)) (bytes rest : List ℕ) (at end next : ℕ) (t : Product) (old mid new : List ℕ) (n : Named bytes rest at t) → at < length bytes → end ≤ length bytes
    → AddsPower names bytes at n.power (spell_factors n.fs ++ rest) old mid (Ok end) → AddsFactors names bytes end n.fs rest mid new (Ok next)
    → ReadsProduct names bytes at t rest old new (Ok (record { size = 1; next = next }))
named_ok names bytes rest at end next t old mid new n h b a f =
    let q = behind names bytes rest at end t old mid n h b a in
    let W : ℕ → List Written = λ k. factors_at k n.fs in
    let ws : List Written = factors_at (at + length (spell_power n.power)) n.fs in
    let R : Product → Type 0 = λ u. ReadsProduct names bytes at u rest old new (Ok (record { size = 1; next = next })) in
    subst R (sym n.is) (
      ap (λ k. cond k (unknown_in names ws) (Some at)) a.0 ∙ ap (λ k. unknown_in names (W k)) (sym q) ∙ f.0,
      refl,
      f.1,
      f.2 ∙ ap (λ k. all_added names (W k) mid) q ∙ ap (λ xs. all_added names ws xs) a.2,
    )

pub named_err : (names : List (List ℕ)) (bytes rest : List ℕ) (at end : ℕ) (u : UnknownName) (t : Product) (old mid new : List ℕ) (n : Named bytes rest at t) → at < length bytes → end ≤ length bytes
    → AddsPower names bytes at n.power (spell_factors n.fs ++ rest) old mid (Ok end) → AddsFactors names bytes end n.fs rest mid new (Err u) → ReadsProduct names bytes at t rest old new (Err u)
named_err names bytes rest at end u t old mid new n h b a f =
    let q = behind names bytes rest at end t old mid n h b a in
    let ws : List Written = factors_at (at + length (spell_power n.power)) n.fs in
    let R : Product → Type 0 = λ v. ReadsProduct names bytes at v rest old new (Err u) in
    subst R (sym n.is) (ap (λ k. cond k (unknown_in names ws) (Some at)) a.0 ∙ ap (λ k. unknown_in names (factors_at k n.fs)) (sym q) ∙ f)

pub named_unknown : (names : List (List ℕ)) (bytes rest : List ℕ) (at : ℕ) (u : UnknownName) (t : Product) (old new : List ℕ) (n : Named bytes rest at t) → AddsPower names bytes at n.power (spell_factors n.fs ++ rest) old new (Err u)
    → ReadsProduct names bytes at t rest old new (Err u)
named_unknown names bytes rest at u t old new n a =
    let R : Product → Type 0 = λ v. ReadsProduct names bytes at v rest old new (Err u) in
    subst R (sym n.is) (ap (λ k. cond k (unknown_in names (factors_at (at + length (spell_power n.power)) n.fs)) (Some at)) a.0 ∙ ap (λ k. Some k) (sym a.1))

-- a term takes a byte at least
pub some_byte : (bytes rest : List ℕ) (at : ℕ) (t : Product) → drop at bytes ≡ spell_product t ++ rest → at ≡ length bytes → ⊥
some_byte bytes rest at t e h = by t.head t.factors (sym (drop_all at bytes (omega (arith, h))) ∙ e)
  where
    by : (k : Head) (fs : List Factor) → [] ≡ (spell_head k ++ spell_factors fs) ++ rest → ⊥
    by (Numeral w) fs e = cc
    by (Symbol p) fs e = cc
