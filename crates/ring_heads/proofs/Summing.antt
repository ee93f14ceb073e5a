-- The heads at a monomial, added up one by one.
use Rattle.std.proofs.Common.{◌≡◌, ℕ, zero, suc, ◌+◌, ◌<◌, ◌≤◌, ℤ, pos, ◌+ℤ◌, true, false, List, [], ◌∷◌, length, get_or, set, map, drop, unsigned_abs, refl, sym, ap, ◌∙◌, subst, arith, add-one, below_more, length-set, get_or-set_same, get_or-set_other}
use Rattle.std.proofs.Math.Seq.{drop-cons}
use Rattle.std.proofs.lemmas.Int.{ints}
use Rattle.std.proofs.lemmas.List.{length-map, get_or_default, get_or-map, same_lists}
use Rattle.std.specs.declared.cmp.Ordering.{Ordering}
use Rattle.std.specs.Ordering.{is_eq}
use Rattle.sdmp_laws.specs.Order.{alike}
use Rattle.sdmp_laws.specs.Ring.{red, IsReduced}
use Rattle.sdmp_laws.specs.Poly.{total, coef}
use Rattle.sdmp_laws.specs.Limits.{greatest_norm}
use Rattle.canonical_terms.specs.declared.term.TermOf.{TermOf}
use Rattle.sdmp_laws.proofs.Ints.{red_add, red_red, add_zero, zero_add}
use Rattle.sdmp_laws.proofs.Parts.{abs_add}
use Rattle.ring_heads.specs.declared.head.HeadOf.{HeadOf}
use Rattle.ring_heads.specs.declared.head.HeadOf.TheVariants as head
use Rattle.ring_heads.specs.Heads.{live, size_at, missing_at}
use Rattle.ring_heads.proofs.HeadLemmas.{stands, stays, goes, total_on, total_off, size_on, size_off, none_total}

-- a head that was put back where it stood
pub put_back : {X : Type 0} (hs now : List X) (i : ℕ) (h : X) → now ≡ set hs i (get_or hs i h) → now ≡ hs
put_back {X = X} hs now i h e = e ∙ same hs i
  where
    same : (ks : List X) (j : ℕ) → set ks j (get_or ks j h) ≡ ks
    same [] j = refl
    same (k ∷ ks) zero = refl
    same (k ∷ ks) (suc j) = ap (λ (l : List X). k ∷ l) (same ks j)

module _ {M E : Type 0} (cmp : M → M → Ordering) (vector : M → List ℕ) (value : E → ℤ) (belongs : E → Type 0) (p : ℕ) (x : M) where
  -- c is the sum of the heads at x that `rest` lacks of `all`
  pub record Rest (all rest : List (HeadOf M E)) (c : E) : Type 0 where
    pub mine : belongs c
    pub sum : red p (value c +ℤ total (live vector value rest) (vector x)) ≡ red p (total (live vector value all) (vector x))
    pub bound : p ≡ 0 → unsigned_abs (value c) + size_at (vector x) (live vector value rest) ≤ size_at (vector x) (live vector value all)

  -- the first i heads of `all` at x are summed, and gone from `hs`
  pub record Taking (all hs : List (HeadOf M E)) (i : ℕ) (c : E) : Type 0 where
    pub rest : Rest all (drop i all) c
    pub long : length hs ≡ length all
    pub gone : (k : ℕ) → k < i → (d : HeadOf M E) → k < length all → get_or hs k d ≡ missing_at cmp x (get_or all k d)
    pub ahead : (k : ℕ) (d : HeadOf M E) → i ≤ k → get_or hs k d ≡ get_or all k d

  -- `rest` has one head more at x than `less`, with the coefficient e
  pub record OneMore (rest less : List (HeadOf M E)) (e : E) : Type 0 where
    pub total_is : total (live vector value rest) (vector x) ≡ value e +ℤ total (live vector value less) (vector x)
    pub size_is : size_at (vector x) (live vector value rest) ≡ unsigned_abs (value e) + size_at (vector x) (live vector value less)

  pub rest_begins : (all : List (HeadOf M E)) (c : E) → belongs c → value c ≡ pos 0 → Rest all all c
  rest_begins all c b z = record {
    mine = b;
    sum = ap (λ (n : ℤ). red p (n +ℤ total (live vector value all) (vector x))) z ∙ ap (red p) (zero_add (total (live vector value all) (vector x)));
    bound = λ i. let e0 : unsigned_abs (value c) ≡ 0 = ap unsigned_abs z in omega arith;
  }

  -- the next partial sum fits
  pub rest_fits : (all rest less : List (HeadOf M E)) (c e : E) → Rest all rest c → OneMore rest less e → (p ≡ 0 → size_at (vector x) (live vector value all) ≤ greatest_norm) → p ≡ 0 → unsigned_abs (value c +ℤ value e) ≤ greatest_norm
  rest_fits all rest less c e s m b i =
      let one = m.size_is in
      let within = s.bound i in
      let top = b i in
      let two = abs_add (value c) (value e) in
      omega arith

  pub rest_step : (all rest less : List (HeadOf M E)) (c d e : E) → Rest all rest c → OneMore rest less e → belongs d → value d ≡ red p (value c +ℤ value e) → Rest all less d
  rest_step all rest less c d e s m b v =
      let R : ℤ = total (live vector value less) (vector x) in
      let one = m.total_is in
      record {
        mine = b;
        sum =
            ap (λ (n : ℤ). red p (n +ℤ R)) v ∙ red_add p (red p (value c +ℤ value e)) (value c +ℤ value e) R R (red_red p (value c +ℤ value e)) refl
            ∙ ap (red p) (omega (arith, ints, one)) ∙ s.sum;
        bound = λ i.
            let n = m.size_is in
            let w = s.bound i in
            let two = abs_add (value c) (value e) in
            let z : unsigned_abs (value d) ≡ unsigned_abs (value c +ℤ value e) = ap unsigned_abs (v ∙ ap (λ (q : ℕ). red q (value c +ℤ value e)) i) in
            omega arith;
      }

  pub rest_ends : (all rest : List (HeadOf M E)) (c : E) → Rest all rest c → total (live vector value rest) (vector x) ≡ pos 0 → IsReduced p (value c) → value c ≡ coef p (live vector value all) (vector x)
  unfolding coef
  rest_ends all rest c s gone reduced = sym reduced ∙ ap (red p) (sym (add_zero (value c))) ∙ ap (λ (n : ℤ). red p (value c +ℤ n)) (sym gone) ∙ s.sum

module _ {M E : Type 0} (cmp : M → M → Ordering) (vector : M → List ℕ) (value : E → ℤ) (belongs : E → Type 0) (p : ℕ) (x : M) (law : (a b : M) → is_eq (cmp a b) ≡ alike (vector a) (vector b)) where
  -- ---- a scan, at the head i
  pub one_on : (all : List (HeadOf M E)) (i : ℕ) (h : HeadOf M E) (t : TermOf M E) → i < length all → h ≡ get_or all i h → h ≡ head.Term t → is_eq (cmp t.mono x) ≡ true → OneMore cmp vector value belongs p x (drop i all) (drop (i + 1) all) t.coef
  one_on all i h t l at is e =
      let cons : drop i all ≡ head.Term t ∷ drop (i + 1) all = drop-cons all i h l ∙ ap (λ (k : HeadOf M E). k ∷ drop (suc i) all) (sym at ∙ is) ∙ ap (λ (j : ℕ). head.Term t ∷ drop j all) (sym (add-one i)) in
      record {
        total_is = ap (λ (hs : List (HeadOf M E)). total (live vector value hs) (vector x)) cons ∙ total_on vector value cmp x law t (drop (i + 1) all) e;
        size_is = ap (λ (hs : List (HeadOf M E)). size_at (vector x) (live vector value hs)) cons ∙ size_on vector value cmp x law t (drop (i + 1) all) e;
      }

  pub scan_off : (all : List (HeadOf M E)) (i : ℕ) (h : HeadOf M E) (c : E) → i < length all → h ≡ get_or all i h → stands cmp x h ≡ false → Rest cmp vector value belongs p x all (drop i all) c → Rest cmp vector value belongs p x all (drop (i + 1) all) c
  scan_off all i h c l at e s =
      let cons : drop i all ≡ h ∷ drop (i + 1) all = drop-cons all i h l ∙ ap (λ (k : HeadOf M E). k ∷ drop (suc i) all) (sym at) ∙ ap (λ (j : ℕ). h ∷ drop j all) (sym (add-one i)) in
      let t = ap (λ (hs : List (HeadOf M E)). total (live vector value hs) (vector x)) cons ∙ total_off vector value cmp x law h (drop (i + 1) all) e in
      let z = ap (λ (hs : List (HeadOf M E)). size_at (vector x) (live vector value hs)) cons ∙ size_off vector value cmp x law h (drop (i + 1) all) e in
      record {
        mine = s.mine;
        sum = ap (λ (n : ℤ). red p (value c +ℤ n)) (sym t) ∙ s.sum;
        bound = λ q. let b = s.bound q in omega arith;
      }

  pub scan_ends : (all : List (HeadOf M E)) (i : ℕ) (c : E) → length all ≤ i → Rest cmp vector value belongs p x all (drop i all) c → IsReduced p (value c) → value c ≡ coef p (live vector value all) (vector x)
  scan_ends all i c l s reduced = rest_ends cmp vector value belongs p x all (drop i all) c s (ap (λ (hs : List (HeadOf M E)). total (live vector value hs) (vector x)) (nothing_left all i l) ∙ none_total vector value (vector x)) reduced
    where
      nothing_left : {A : Type 0} (xs : List A) (i : ℕ) → length xs ≤ i → drop i xs ≡ []
      nothing_left [] zero l = refl
      nothing_left [] (suc i) l = refl
      nothing_left (x ∷ xs) zero l = absurd (omega arith)
      nothing_left (x ∷ xs) (suc i) l = nothing_left xs i (omega arith)

  -- ---- a scan that takes the heads at x away
  pub taking_begins : (all : List (HeadOf M E)) (c : E) → belongs c → value c ≡ pos 0 → Taking cmp vector value belongs p x all all 0 c
  taking_begins all c b z = record { rest = rest_begins cmp vector value belongs p x all c b z; long = refl; gone = λ k l d h. absurd (omega arith); ahead = λ k d l. refl }

  -- the head i, as it was at first
  was : (all hs : List (HeadOf M E)) (i : ℕ) (c : E) (h : HeadOf M E) → Taking cmp vector value belongs p x all hs i c → h ≡ get_or hs i h → h ≡ get_or all i h
  was all hs i c h s at = at ∙ s.ahead i h (omega arith)

  pub taking_one : (all hs : List (HeadOf M E)) (i : ℕ) (c : E) (h : HeadOf M E) (t : TermOf M E) → Taking cmp vector value belongs p x all hs i c → i < length all → h ≡ get_or hs i h → h ≡ head.Term t → is_eq (cmp t.mono x) ≡ true → OneMore cmp vector value belongs p x (drop i all) (drop (i + 1) all) t.coef
  taking_one all hs i c h t s l at is e = one_on all i h t l (was all hs i c h s at) is e

  pub taking_on : (all hs now : List (HeadOf M E)) (i : ℕ) (c d : E) (h : HeadOf M E) (t : TermOf M E) → Taking cmp vector value belongs p x all hs i c → i < length all → h ≡ get_or hs i h → h ≡ head.Term t → is_eq (cmp t.mono x) ≡ true
      → belongs d → value d ≡ red p (value c +ℤ value t.coef) → now ≡ set hs i head.Missing → Taking cmp vector value belongs p x all now (i + 1) d
  taking_on all hs now i c d h t s l at is e b v new = record {
    rest = rest_step cmp vector value belongs p x all (drop i all) (drop (i + 1) all) c d t.coef s.rest (taking_one all hs i c h t s l at is e) b v;
    long = ap (λ (ks : List (HeadOf M E)). length ks) new ∙ length-set hs i head.Missing ∙ s.long;
    gone = λ k m d k'.
        below_more (λ k. (d : HeadOf M E) → k < length all → get_or now k d ≡ missing_at cmp x (get_or all k d)) i
        (λ k m d l'. ap (λ (ks : List (HeadOf M E)). get_or ks k d) new ∙ get_or-set_other hs i k head.Missing d (λ q. omega arith) ∙ s.gone k m d l')
        (λ d l'. ap (λ (ks : List (HeadOf M E)). get_or ks i d) new ∙ get_or-set_same hs i head.Missing d (let z = s.long in omega arith) ∙ sym (goes cmp x (get_or all i d) t (get_or_default all i d h l ∙ sym (was all hs i c h s at) ∙ is) e))
        k m d k';
    ahead = λ k d m. ap (λ (ks : List (HeadOf M E)). get_or ks k d) new ∙ get_or-set_other hs i k head.Missing d (λ q. omega arith) ∙ s.ahead k d (omega arith);
  }

  pub taking_off : (all hs now : List (HeadOf M E)) (i : ℕ) (c d : E) (h : HeadOf M E) → Taking cmp vector value belongs p x all hs i c → i < length all → h ≡ get_or hs i h → stands cmp x h ≡ false → d ≡ c → now ≡ hs → Taking cmp vector value belongs p x all now (i + 1) d
  taking_off all hs now i c d h s l at e same new =
      subst (λ (ks : List (HeadOf M E)). Taking cmp vector value belongs p x all ks (i + 1) d) (sym new) (subst (λ (b : E). Taking cmp vector value belongs p x all hs (i + 1) b) (sym same) (record {
        rest = scan_off all i h c l (was all hs i c h s at) e s.rest;
        long = s.long;
        gone = below_more (λ k. (d : HeadOf M E) → k < length all → get_or hs k d ≡ missing_at cmp x (get_or all k d)) i s.gone
            (λ d l'. s.ahead i d (omega arith) ∙ get_or_default all i d h l ∙ sym (was all hs i c h s at) ∙ sym (stays cmp x h e) ∙ ap (missing_at cmp x) (was all hs i c h s at ∙ get_or_default all i h d l));
        ahead = λ k d m. s.ahead k d (omega arith);
      }))

  pub taking_ends : (all hs : List (HeadOf M E)) (i : ℕ) (c : E) → Taking cmp vector value belongs p x all hs i c → length all ≤ i → hs ≡ map (missing_at cmp x) all
  taking_ends all hs i c s l =
      same_lists hs (map (missing_at cmp x) all) (s.long ∙ sym (length-map all (missing_at cmp x)))
      (λ k d h. let inside : k < length all = let z = s.long in omega arith in s.gone k (omega arith) d inside ∙ sym (get_or-map (missing_at cmp x) all k d d inside))
