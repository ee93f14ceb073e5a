-- The list of the terms of a product that has room.
use Rattle.std.proofs.Common.{◌≡◌, ℕ, suc, ◌+◌, ◌%◌, ◌<◌, ◌≤◌, ◌⊎◌, inl, inr, Bool, cond, List, [], ◌∷◌, ◌++◌, map, mod-lt, append_assoc, append-nil, eq-eqb, refl, sym, ap, ◌∙◌, arith}
use Rattle.std.proofs.lemmas.Bool.{cases_lt}
use Rattle.std.proofs.lemmas.List.{map-append}
use Rattle.std.proofs.Math.Nat.{mul_comm}
use Rattle.sdmp_laws.specs.Order.{Order, degree}
use Rattle.sdmp_laws.specs.Poly.{Term, Over, norm, terms, times, every, part, lm, AllDegrees}
use Rattle.sdmp_laws.specs.Limits.{HasRoom, IsDegreeOver}
use Rattle.sdmp_laws.specs.Canonical.{IsCanonical}
use Rattle.sdmp_laws.proofs.Parts.{norm_times}
use Rattle.sdmp_laws.proofs.NormLemmas.{terms_norm}
use Rattle.sdmp_laws.proofs.DegreeLemmas.{degree_laws}
use Rattle.sdmp_laws.proofs.TermsLemmas.{terms_poly, terms_equal}
use Rattle.sdmp_laws.proofs.PolyLemmas.{Same-times_comm}
use Rattle.sdmp_laws.proofs.LongLemmas.{Over-times}
use Rattle.row_merge.proofs.PartLemmas.{room_norm}
use Rattle.sdmp_laws.proofs.ListLemmas.{every_one, AllDegrees-up}

-- ---- the only worker has all rows
part_one : (f g : List Term) → part f g 1 0 ≡ times f g
unfolding part
part_one f g = ap (λ (A : List Term). times A g) (every_one 0 f)

pub all_listed : (ord : Order) (p : ℕ) (f g L rest : List Term) → L ≡ rest → rest ≡ terms ord p (part f g 1 0) → L ≡ terms ord p (times f g)
all_listed ord p f g L rest a b = a ∙ b ∙ ap (terms ord p) (part_one f g)

-- ---- the product is within the limits
degrees_fit : (lim : ℕ) (f g : List Term) → AllDegrees lim f → AllDegrees lim g → (IsDegreeOver lim f g → ⊥) → degree (lm f) + degree (lm g) ≤ lim
unfolding lm AllDegrees degree
degrees_fit lim [] [] h k n = omega arith
degrees_fit lim [] (u ∷ g) h k n = omega (arith, k.0)
degrees_fit lim (t ∷ f) [] h k n = omega (arith, h.0)
degrees_fit lim (t ∷ f) (u ∷ g) h k n = by (cases_lt lim (degree t.monomial + degree u.monomial))
  where
    by : (lim < degree t.monomial + degree u.monomial) ⊎ (degree t.monomial + degree u.monomial ≤ lim) → degree t.monomial + degree u.monomial ≤ lim
    by (inl over) = absurd (n (record { left = λ e. absurd cc; right = λ e. absurd cc; over = over }))
    by (inr fits) = fits

pub product_canonical : (ord : Order) (p n lim : ℕ) (f g : List Term) → IsCanonical ord p n lim f → IsCanonical ord p n lim g → HasRoom lim p f g → IsCanonical ord p n lim (terms ord p (times f g))
product_canonical ord p n lim f g a b room =
    let laws = degree_laws ord p n in
    record {
      poly = terms_poly ord p n (times f g) (Over-times n f g a.poly.vectors b.poly.vectors);
      degrees = laws.2 lim (times f g)
          (AllDegrees-up (degree (lm f) + degree (lm g)) lim (times f g) (degrees_fit lim f g a.degrees b.degrees room.degree_fits)
          (laws.1 (degree (lm f)) (degree (lm g)) f g (laws.0 f a.poly) (laws.0 g b.poly)));
      norm_fits = λ z. omega (arith, ap (λ (q : ℕ). norm (terms ord q (times f g))) z, terms_norm ord (times f g), norm_times f g, room_norm lim p f g room z);
    }

-- ---- the factors change places
pub room_swapped : (lim p q : ℕ) (f g : List Term) → p ≡ q → HasRoom lim p f g → HasRoom lim q g f
room_swapped lim p q f g e room = record {
  degree_fits = λ o. room.degree_fits (record { left = o.right; right = o.left; over = omega (arith, o.over) });
  norm_fits = λ o. room.norm_fits (record { integers = e ∙ o.integers; over = omega (arith, o.over, mul_comm (norm f) (norm g)) });
}

pub product_swapped : (ord : Order) (p q n : ℕ) (f g : List Term) → p ≡ q → Over n f → Over n g → terms ord q (times g f) ≡ terms ord p (times f g)
product_swapped ord p q n f g e a b =
    ap (λ (r : ℕ). terms ord r (times g f)) (sym e) ∙ terms_equal ord p n (times g f) (times f g) (Over-times n g f b a) (Over-times n f g a b) (Same-times_comm p g f)

-- ---- the terms that were handed out, and those that are left
pub out_more : {X : Type 0} (f : X → Term) (xs ys : List X) (x : X) (rest later all : List Term) → ys ≡ xs ++ x ∷ [] → rest ≡ f x ∷ later → map f xs ++ rest ≡ all → map f ys ++ later ≡ all
out_more {X} f xs ys x rest later all e n is =
    ap (λ (zs : List X). map f zs ++ later) e ∙ ap (λ (L : List Term). L ++ later) (map-append f xs (x ∷ [])) ∙ append_assoc (map f xs) (f x ∷ []) later
    ∙ ap (λ (L : List Term). map f xs ++ L) (sym n) ∙ is

pub out_all : (L rest all : List Term) → rest ≡ [] → L ++ rest ≡ all → L ≡ all
out_all L rest all e is = sym (append-nil L) ∙ ap (λ (R : List Term). L ++ R) (sym e) ∙ is
