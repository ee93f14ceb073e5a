-- The loop over the factors of a term.
use Rattle.std.proofs.Common.{◌≡◌, ◌<◌, ◌≤◌, ◌+◌, ℕ, cond, List, [], ◌∷◌, ◌++◌, length, drop, get_or, Some, Ok, Err, refl, sym, ◌∙◌, ap, append_assoc, length-drop, length-append, arith}
use Rattle.std.proofs.lemmas.List.{drop_more, drop_all}
use Rattle.text_laws.specs.Bytes.{class_of}
use Rattle.text_laws.specs.Grammar.{Power, Factor, IsPower, AreFactors, spell_mark, spell_power, spell_factors, EndsPower, EndsTerm}
use Rattle.text_laws.specs.Summands.{Written, unknown_in, power_at, factors_at}
use Rattle.text_laws.specs.Reading.{is_blank}
use Rattle.text_laws.specs.declared.ByteClass.TheVariants.{Star}
use Rattle.text_laws.proofs.Fronts.{blanks_are}
use Rattle.text_laws.proofs.TreeTokens.{factors_end}
use Rattle.poly_text.specs.Exponents.{all_added}
use Rattle.poly_text.specs.Tokens.{after}
use Rattle.poly_text.specs.Reads.{AddsPower, AddsFactors}
use Rattle.poly_text.specs.declared.factors.UnknownName.{UnknownName}
use Rattle.poly_text.proofs.TokenFronts.{after_front}

-- the factors gs are left, and the rest
pub record Left (names : List (List ℕ)) (bytes rest : List ℕ) (all : List Written) (old : List ℕ) (i : ℕ) (now : List ℕ) : Type 0 where
  pub gs : List Factor
  pub formed : AreFactors gs
  pub spelled : drop i bytes ≡ spell_factors gs ++ rest
  pub unknown : unknown_in names all ≡ unknown_in names (factors_at i gs)
  pub added : all_added names all old ≡ all_added names (factors_at i gs) now

pub left_begins : (names : List (List ℕ)) (bytes rest : List ℕ) (start : ℕ) (old : List ℕ) (fs : List Factor) → AreFactors fs → drop start bytes ≡ spell_factors fs ++ rest → Left names bytes rest (factors_at start fs) old start old
left_begins names bytes rest start old fs h e = record { gs = fs; formed = h; spelled = e; unknown = refl; added = refl }

-- a power is next, then gs and the rest
pub record Next (names : List (List ℕ)) (bytes rest : List ℕ) (all : List Written) (old : List ℕ) (at : ℕ) (now : List ℕ) : Type 0 where
  pub power : Power
  pub gs : List Factor
  pub is_power : IsPower power
  pub formed : AreFactors gs
  pub ends : EndsPower (spell_factors gs ++ rest)
  pub spelled : drop at bytes ≡ spell_power power ++ (spell_factors gs ++ rest)
  pub unknown : unknown_in names all ≡ unknown_in names (power_at at power ∷ factors_at (at + length (spell_power power)) gs)
  pub added : all_added names all old ≡ all_added names (power_at at power ∷ factors_at (at + length (spell_power power)) gs) now

no_star : (b : ℕ) (xs rest : List ℕ) → class_of b ≡ Star → EndsTerm rest → b ∷ xs ≡ rest → ⊥
no_star b xs [] c s e = nil_cons e
  where
    nil_cons : b ∷ xs ≡ [] → ⊥
    nil_cons e = cc
no_star b xs (r ∷ rest) c s e = let k : class_of b ≡ class_of r = ap (λ l. class_of (get_or l 0 0)) e in cc

-- the place behind the n bytes that are no longer left
pub place : (bytes xs : List ℕ) (i at n : ℕ) → i < length bytes → at ≤ length bytes → length (drop i bytes) ≡ n + length xs → drop at bytes ≡ xs → at ≡ i + n
place bytes xs i at n h g e f = omega (arith, h, g, e, length-drop i bytes, length-drop at bytes, ap length f)

pub next_from : (names : List (List ℕ)) (bytes rest : List ℕ) (all : List Written) (old : List ℕ) (i at : ℕ) (now : List ℕ) → Left names bytes rest all old i now
    → EndsTerm rest → i < length bytes → class_of (get_or bytes i 0) ≡ Star → at ≤ length bytes → drop at bytes ≡ after is_blank (drop (i + 1) bytes) → Next names bytes rest all old at now
next_from names bytes rest all old i at now l s h c b a = by l.gs l.formed l.spelled l.unknown l.added
  where
    by : (gs : List Factor) → AreFactors gs → drop i bytes ≡ spell_factors gs ++ rest → unknown_in names all ≡ unknown_in names (factors_at i gs)
        → all_added names all old ≡ all_added names (factors_at i gs) now → Next names bytes rest all old at now
    by [] f e u w = absurd (no_star (get_or bytes i 0) (drop (i + 1) bytes) rest c s (sym (drop_more bytes i 0 h) ∙ e))
    by (g ∷ gs) f e u w =
        let P : List ℕ = spell_power g.power in
        let F : List ℕ = spell_factors gs ++ rest in
        let behind : drop (i + 1) bytes ≡ g.star.blanks ++ (P ++ F) =
        ap (drop 1) (sym (drop_more bytes i 0 h) ∙ e) ∙ append_assoc g.star.blanks (P ++ spell_factors gs) rest ∙ ap (λ l. g.star.blanks ++ l) (append_assoc P (spell_factors gs) rest) in
        let here : drop at bytes ≡ P ++ F = a ∙ ap (after is_blank) behind ∙ after_front is_blank g.star.blanks (P ++ F) (blanks_are g.star.blanks f.0.blanks) (ap is_blank f.1.name.first) in
        let long : length (drop i bytes) ≡ length (spell_mark g.star) + length (P ++ F) =
        ap length (drop_more bytes i 0 h ∙ ap (λ l. get_or bytes i 0 ∷ l) behind) ∙ length-append (get_or bytes i 0 ∷ g.star.blanks) (P ++ F) in
        let p : at ≡ i + length (spell_mark g.star) = place bytes (P ++ F) i at (length (spell_mark g.star)) h b long here in
        let W : ℕ → List Written = λ n. power_at n g.power ∷ factors_at (n + length P) gs in
        record {
          power = g.power;
          gs = gs;
          is_power = f.1;
          formed = f.2;
          ends = factors_end gs rest f.2 s;
          spelled = here;
          unknown = u ∙ ap (λ n. unknown_in names (W n)) (sym p);
          added = w ∙ ap (λ n. all_added names (W n) now) (sym p);
        }

-- the power was added
pub left_from : (names : List (List ℕ)) (bytes rest : List ℕ) (all : List Written) (old : List ℕ) (at next : ℕ) (now new : List ℕ) (n : Next names bytes rest all old at now)
    → at ≤ length bytes → at ≤ next → next ≤ length bytes → AddsPower names bytes at n.power (spell_factors n.gs ++ rest) now new (Ok next) → Left names bytes rest all old next new
left_from names bytes rest all old at next now new n b f g a =
    let P : List ℕ = spell_power n.power in
    let F : List ℕ = spell_factors n.gs ++ rest in
    let long : length (drop at bytes) ≡ length P + length F = ap length n.spelled ∙ length-append P F in
    let p : next ≡ at + length P = omega (arith, long, length-drop at bytes, length-drop next bytes, ap length a.1, b, g) in
    let ws : List Written = factors_at (at + length P) n.gs in
    let known : unknown_in names (power_at at n.power ∷ ws) ≡ unknown_in names ws = ap (λ k. cond k (unknown_in names ws) (Some at)) a.0 in
    let G : ℕ → List Written = λ k. factors_at k n.gs in
    record {
      gs = n.gs;
      formed = n.formed;
      spelled = a.1;
      unknown = n.unknown ∙ known ∙ ap (λ k. unknown_in names (G k)) (sym p);
      added = n.added ∙ ap (λ xs. all_added names ws xs) (sym a.2) ∙ ap (λ k. all_added names (G k) new) (sym p);
    }

-- the name was unknown
pub unknown_from : (names : List (List ℕ)) (bytes rest : List ℕ) (all : List Written) (old : List ℕ) (at : ℕ) (now new : List ℕ) (u : UnknownName) (n : Next names bytes rest all old at now)
    → AddsPower names bytes at n.power (spell_factors n.gs ++ rest) now new (Err u) → unknown_in names all ≡ Some u.at
unknown_from names bytes rest all old at now new u n a =
    n.unknown ∙ ap (λ k. cond k (unknown_in names (factors_at (at + length (spell_power n.power)) n.gs)) (Some at)) a.0 ∙ ap (λ k. Some k) (sym a.1)

-- nothing is left
pub done_from : (names : List (List ℕ)) (bytes rest : List ℕ) (start : ℕ) (fs : List Factor) (old : List ℕ) (next : ℕ) (now : List ℕ) → Left names bytes rest (factors_at start fs) old next now
    → ((g : Factor) (gs : List Factor) → AreFactors (g ∷ gs) → drop next bytes ≡ spell_factors (g ∷ gs) ++ rest → ⊥) → AddsFactors names bytes start fs rest old now (Ok next)
done_from names bytes rest start fs old next now l none_left = by l.gs l.formed l.spelled l.unknown l.added
  where
    by : (gs : List Factor) → AreFactors gs → drop next bytes ≡ spell_factors gs ++ rest → unknown_in names (factors_at start fs) ≡ unknown_in names (factors_at next gs)
        → all_added names (factors_at start fs) old ≡ all_added names (factors_at next gs) now → AddsFactors names bytes start fs rest old now (Ok next)
    by [] f e u w = (u, e, sym w)
    by (g ∷ gs) f e u w = absurd (none_left g gs f e)

-- no byte is left, or one that is no star
pub no_byte : (bytes rest : List ℕ) (i : ℕ) → length bytes ≤ i → (g : Factor) (gs : List Factor) → AreFactors (g ∷ gs) → drop i bytes ≡ spell_factors (g ∷ gs) ++ rest → ⊥
no_byte bytes rest i h g gs f e = nil_cons (sym (drop_all i bytes h) ∙ e)
  where
    nil_cons : [] ≡ spell_factors (g ∷ gs) ++ rest → ⊥
    nil_cons e = cc

pub other_byte : (bytes rest : List ℕ) (i : ℕ) → i < length bytes → (class_of (get_or bytes i 0) ≡ Star → ⊥) → (g : Factor) (gs : List Factor) → AreFactors (g ∷ gs) → drop i bytes ≡ spell_factors (g ∷ gs) ++ rest → ⊥
other_byte bytes rest i h c g gs f e = c (ap (λ l. class_of (get_or l 0 0)) (sym (drop_more bytes i 0 h) ∙ e) ∙ f.0.byte)
