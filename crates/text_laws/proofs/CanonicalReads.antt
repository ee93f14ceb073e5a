-- The canonical text of a polynomial is read as that polynomial, and what is read is a polynomial within the limits.
use Rattle.std.proofs.Common.{◌≡◌, ◌<◌, ◌≤◌, ◌^◌, ℕ, zero, suc, cond, List, [], ◌∷◌, length, Result, Ok, Err, pos, refl, sym, ◌∙◌, ap, subst, arith}
use Rattle.std.specs.Prelude.{unsigned_abs}
use Rattle.sdmp_laws.specs.Order.{Order}
use Rattle.sdmp_laws.specs.Ring.{red}
use Rattle.sdmp_laws.specs.Poly.{Term, Over, AllDegrees, Proper, Same, norm, is_zero, keep, put, terms}
use Rattle.sdmp_laws.specs.Limits.{greatest_norm}
use Rattle.sdmp_laws.specs.Canonical.{IsCanonical}
use Rattle.sdmp_laws.proofs.Ints.{red_zero}
use Rattle.sdmp_laws.proofs.ReducedLemmas.{reduced_is}
use Rattle.sdmp_laws.proofs.Merging.{canonical_terms}
use Rattle.sdmp_laws.proofs.TermsLemmas.{terms_unique}
use Rattle.sdmp_laws.proofs.DegreeLemmas.{degree_laws}
use Rattle.sdmp_laws.proofs.NormLemmas.{terms_norm}
use Rattle.text_laws.specs.Canonical.{text, AreNames}
use Rattle.text_laws.specs.Grammar.{Tree, Spells}
use Rattle.text_laws.specs.Summands.{vector_of, summands, verdict, written_terms}
use Rattle.text_laws.specs.Reading.{denotes, summed}
use Rattle.text_laws.specs.Laws.{TextReads, ReadingIsCanonical}
use Rattle.text_laws.specs.declared.TextFault.{TextFault}
use Rattle.sdmp_laws.proofs.Parts.{norm_cons}
use Rattle.text_laws.proofs.Printed.{ArePrintable, printed_denotes}
use Rattle.text_laws.proofs.Zero.{zero_denotes}
use Rattle.text_laws.proofs.Limits.{ok_is, err_ok, faultless, terms_over, degrees_within, norm_within}
use Rattle.text_laws.proofs.Denoting.{denotes_is}

-- ---- the canonical text
size_small : (p : ℕ) (t : Term) → 0 < p → p < 2 ^ 64 → red p t.coefficient ≡ t.coefficient → unsigned_abs t.coefficient ≤ greatest_norm
size_small p t h b r =
    let n = reduced_is p t.coefficient h r in
    let e : unsigned_abs t.coefficient ≡ n.0 = ap unsigned_abs n.1 in
    omega (arith, e, n.2)

printable_modulo : (names : List (List ℕ)) (p lim : ℕ) (L : List Term) → 0 < p → p < 2 ^ 64 → Over (length names) L → AllDegrees lim L → Proper p L → ArePrintable names lim L
unfolding Over AllDegrees Proper
printable_modulo names p lim [] h b o d r = tt
printable_modulo names p lim (t ∷ L) h b o d r = (record { long = sym o.0; degree = d.0; size = size_small p t h b r.0 }, printable_modulo names p lim L h b o.1 d.1 r.2)

printable_integers : (names : List (List ℕ)) (lim : ℕ) (L : List Term) → Over (length names) L → AllDegrees lim L → norm L ≤ greatest_norm → ArePrintable names lim L
unfolding Over AllDegrees
printable_integers names lim [] o d n = tt
printable_integers names lim (t ∷ L) o d n =
    (record { long = sym o.0; degree = d.0; size = omega (arith, norm_cons t L, n) }, printable_integers names lim L o.1 d.1 (omega (arith, norm_cons t L, n)))

printable : (ord : Order) (names : List (List ℕ)) (p lim : ℕ) (L : List Term) → p < 2 ^ 64 → IsCanonical ord p (length names) lim L → ArePrintable names lim L
printable ord names zero lim L b c = printable_integers names lim L c.poly.vectors c.degrees (c.norm_fits refl)
printable ord names (suc k) lim L b c = printable_modulo names (suc k) lim L (omega arith) b c.poly.vectors c.degrees c.poly.proper

-- the term 0 is left out
zero_left_out : (ord : Order) (p : ℕ) (v : List ℕ) → terms ord p (record { monomial = v; coefficient = pos 0 } ∷ []) ≡ []
unfolding terms put keep is_zero
zero_left_out ord p v = ap (λ z. cond (is_zero z) [] (record { monomial = v; coefficient = z } ∷ [])) (red_zero p)

same_self : (p : ℕ) (A : List Term) → Same p A A
same_self p A = record { at = λ m. refl }

pub text_reads : TextReads
text_reads ord names p lim [] b l a c =
    ap (summed ord p) ((denotes_is names p lim (text names []) (Ok (record { monomial = vector_of names []; coefficient = pos 0 } ∷ []))).0 (zero_denotes names p lim)) ∙ ap (λ F. Ok F) (zero_left_out ord p (vector_of names []))
text_reads ord names p lim (t ∷ ts) b l a c =
    let d = printed_denotes names p lim t ts l a (printable ord names p lim (t ∷ ts) b c) c.norm_fits in
    ap (summed ord p) ((denotes_is names p lim (text names (t ∷ ts)) (Ok (t ∷ ts))).0 d)
    ∙ ap (λ F. Ok F) (sym (canonical_terms ord p (length names) lim (t ∷ ts) (t ∷ ts) c.poly.vectors c (same_self p (t ∷ ts))))

-- ---- what is read
pub terms_canonical : (ord : Order) (p n lim : ℕ) (F : List Term) → Over n F → AllDegrees lim F → (p ≡ 0 → norm F ≤ greatest_norm) → IsCanonical ord p n lim (terms ord p F)
terms_canonical ord p n lim F o d h = record {
  poly = (terms_unique ord p n F F o).0.canonical;
  degrees = (degree_laws ord p n).2 lim F d;
  norm_fits = λ z. small z;
}
  where
    small : p ≡ 0 → norm (terms ord p F) ≤ greatest_norm
    small z = let e : norm (terms ord p F) ≡ norm (terms ord 0 F) = ap (λ q. norm (terms ord q F)) z in omega (arith, e, terms_norm ord F, h z)

pub denoted_canonical : (ord : Order) (names : List (List ℕ)) (p lim : ℕ) (bytes : List ℕ) (F : List Term) → AreNames names → denotes names p lim bytes ≡ Ok F → IsCanonical ord p (length names) lim (terms ord p F)
denoted_canonical ord names p lim bytes F a e = by ((denotes_is names p lim bytes (Ok F)).1 e)
  where
    by : ((t : Tree) × Spells t bytes × (verdict names p lim (summands t) ≡ Ok F)) → IsCanonical ord p (length names) lim (terms ord p F)
    by (t, s, v) =
        let ss = summands t in
        let f = faultless names p lim ss F v in
        subst (λ G. IsCanonical ord p (length names) lim (terms ord p G)) (sym f.terms)
        (terms_canonical ord p (length names) lim (written_terms names ss) (terms_over names ss) (degrees_within names lim ss a f.degrees) (norm_within names p ss f.coefficients))

pub reading_is_canonical : ReadingIsCanonical
reading_is_canonical ord names p lim bytes L a e = by (denotes names p lim bytes) refl e
  where
    by : (r : Result (List Term) TextFault) → denotes names p lim bytes ≡ r → summed ord p r ≡ Ok L → IsCanonical ord p (length names) lim L
    by (Ok F) d e = subst (IsCanonical ord p (length names) lim) (ok_is (terms ord p F) L e) (denoted_canonical ord names p lim bytes F a d)
    by (Err f) d e = absurd (err_ok f L e)
