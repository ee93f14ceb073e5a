-- The rows of a part, from their beginning to their end.
use Rattle.std.proofs.Common.{◌≡◌, ℕ, zero, suc, ◌*◌, ◌^◌, ◌<◌, ◌≤◌, ◌⊎◌, inl, inr, Bool, false, cond, List, [], ◌∷◌, length, drop, replicate, Option, Some, None, refl, sym, ap, ◌∙◌, subst, arith, length-append}
use Rattle.std.specs.Prelude.{MatchOption, option_map}
use Rattle.std.proofs.lemmas.Bool.{cases_lt}
use Rattle.std.proofs.lemmas.List.{length-replicate, get_or-replicate}
use Rattle.std.proofs.Math.Nat.{mul-le-mul_right}
use Rattle.std.proofs.Math.Path.{transport}
use Rattle.std.proofs.Math.ListN.{get_or-eq_default}
use Rattle.sdmp_laws.specs.Order.{Order}
use Rattle.sdmp_laws.specs.Poly.{Term, row, times, terms, part}
use Rattle.sdmp_laws.specs.Limits.{HasRoom, greatest_norm}
use Rattle.sdmp_laws.specs.Canonical.{IsCanonical}
use Rattle.sdmp_laws.specs.Poly.{norm}
use Rattle.chained_heap.specs.declared.node.Place.{Place}
use Rattle.chained_heap.specs.declared.node.Place.TheVariants.{Out, In, Taken}
use Rattle.chained_heap.specs.Shape.{place_at}
use Rattle.row_merge.specs.Rows.{strided, reads_of, made, entered, IsFalling, IsNext, InRange}
use Rattle.row_merge.specs.Learned.{IsPlaced, IsTakenAt, AreRows, ceiling, product_at, unread}
use Rattle.row_merge.specs.Part.{row_count, IsPart}
use Rattle.row_merge.proofs.Falls.{length-strided, falling_strided, norm-strided}
use Rattle.row_merge.proofs.Places.{ceiling_low}
use Rattle.row_merge.proofs.RowSteps.{rows_start}
use Rattle.row_merge.proofs.Counts.{none_present}
use Rattle.row_merge.proofs.Sums.{within}
use Rattle.sdmp_laws.proofs.ListLemmas.{length-times}
use Rattle.row_merge.proofs.Unread.{unread_begins, unread_length}
use Rattle.row_merge.proofs.Every.{rows_are, rows_in_range}

zeros_at : (n k : ℕ) → reads_of (replicate n 0) k ≡ 0
zeros_at n k = by (cases_lt k n)
  where
    by : (k < n) ⊎ (n ≤ k) → reads_of (replicate n 0) k ≡ 0
    by (inl h) = get_or-replicate n k 0 0 h
    by (inr h) = get_or-eq_default (replicate n 0) 0 (omega (arith, length-replicate n (let z : ℕ = 0 in z)))

-- the part is what is unread at first
pub part_begins : (f g : List Term) (W w : ℕ) → w < W → unread (strided f w W (row_count (length f) W w)) (replicate (row_count (length f) W w) 0) g ≡ part f g W w
unfolding part
part_begins f g W w h =
    unread_begins (strided f w W (row_count (length f) W w)) (replicate (row_count (length f) W w) 0) g
    (length-replicate (row_count (length f) W w) 0 ∙ sym (length-strided f w W (row_count (length f) W w))) (zeros_at (row_count (length f) W w))
    ∙ ap (λ (a : List Term). times a g) (sym (rows_are W w f h))

pub length-part : (f g : List Term) (W w n : ℕ) → w < W → n ≡ row_count (length f) W w → length (part f g W w) ≡ length (strided f w W n) * length g
unfolding part
length-part f g W w n h e =
    ap (λ (a : List Term). length (times a g)) (rows_are W w f h ∙ ap (strided f w W) (sym e)) ∙ length-times (strided f w W n) g

-- ---- the end
row_some : (s : Term) (B : List Term) (r : ℕ) → r < length B → 0 < length (row s (drop r B))
unfolding row
row_some s [] r h = absurd (omega arith)
row_some s (t ∷ B) zero h = omega arith
row_some s (t ∷ B) (suc r) h = row_some s B r (omega arith)

unread_some : (A : List Term) (reads : List ℕ) (B : List Term) (k : ℕ) → length reads ≡ length A → k < length A → reads_of reads k < length B → 0 < length (unread A reads B)
unfolding unread
unread_some [] reads B k l h r = absurd (omega arith)
unread_some (s ∷ A) [] B k l h r = absurd (omega arith)
unread_some (s ∷ A) (q ∷ reads) B zero l h r = omega (arith, length-append (row s (drop q B)) (unread A reads B), row_some s B q r)
unread_some (s ∷ A) (q ∷ reads) B (suc k) l h r = omega (arith, length-append (row s (drop q B)) (unread A reads B), unread_some A reads B k (omega arith) (omega arith) r)

pub rows_end : {M : Type 0} (vector : M → List ℕ) (ord : Order) (A B : List Term) (reads : List ℕ) (ps : List (Place M)) → AreRows vector ord None B A reads ps → unread A reads B ≡ [] → (made reads ≡ length A * length B) × (entered reads ps ≡ length A * length B)
unfolding IsPlaced IsTakenAt
rows_end {M} vector ord A B reads ps a e =
    let l = unread_length A reads B a.reads_count (within vector ord None B A reads ps a) in
    let z : length (unread A reads B) ≡ 0 = ap length e in
    let p = none_present ps (λ k h. let r : k < length A = omega (arith, h, a.places_count) in out k r (place_at ps k) (a.placed k r)) in
    (omega (arith, l, z), omega (arith, l, z, p))
  where
    out : (k : ℕ) → k < length A → (p : Place M) → IsPlaced vector ord None p (reads_of reads k) (ceiling B reads k) (product_at A B k (reads_of reads k)) → p ≡ Out
    out k h Out q = refl
    out k h (In m) q = absurd (let c = ceiling_low vector ord None B A reads ps a k h in let u = unread_some A reads B k a.reads_count h (omega (arith, q.0, c)) in omega (arith, u, ap length e))
    out k h Taken q = absurd q.1

-- what a next term says to a caller
pub next_at : {X : Type 0} (f : X → Term) (ord : Order) (p : ℕ) (A B : List Term) (old new : List ℕ) (o : Option X) → IsNext ord p A B old new (option_map f o)
    → MatchOption o ((terms ord p (unread A old B) ≡ []) × (terms ord p (unread A new B) ≡ [])) (λ x. terms ord p (unread A old B) ≡ f x ∷ terms ord p (unread A new B))
unfolding terms
next_at f ord p A B old new None h = (h.0, ap (terms ord p) h.1)
next_at f ord p A B old new (Some x) h = h

pub ends_at : {X M : Type 0} (f : X → Term) (ord : Order) (p : ℕ) (vector : M → List ℕ) (A B : List Term) (old new : List ℕ) (ps : List (Place M)) (m n : ℕ) (o : Option X) → IsNext ord p A B old new (option_map f o) → AreRows vector ord None B A new ps → m ≡ length A * length B → n ≤ made new
    → MatchOption o ((made new ≡ m) × (entered new ps ≡ m)) (λ _. n ≤ made new)
ends_at f ord p vector A B old new ps m n None h r e g = let z = rows_end vector ord A B new ps r h.1 in (z.0 ∙ sym e, z.1 ∙ sym e)
ends_at f ord p vector A B old new ps m n (Some x) h r e g = g

pub room_norm : (lim p : ℕ) (f g : List Term) → HasRoom lim p f g → p ≡ 0 → norm f * norm g ≤ greatest_norm
room_norm lim p f g h z = by (cases_lt greatest_norm (norm f * norm g))
  where
    by : (greatest_norm < norm f * norm g) ⊎ (norm f * norm g ≤ greatest_norm) → norm f * norm g ≤ greatest_norm
    by (inl o) = absurd (h.norm_fits (record { integers = z; over = o }))
    by (inr q) = q

-- ---- the same, where the parts are known by other names
pub part_invariant : {M : Type 0} (vector : M → List ℕ) (ord : Order) (v lim p q : ℕ) (f g : List Term) (W w : ℕ) (A : List Term) (reads : List ℕ) (places : List (Place M)) (begun : Bool) (n : ℕ) → p ≡ q → w < W → HasRoom lim p f g → IsCanonical ord p v lim f → n < 2 ^ 32 → n ≡ row_count (length f) W w → A ≡ strided f w W n → reads ≡ replicate n 0 → places ≡ replicate n Out → begun ≡ false
    → IsPart vector ord v lim p q f g W w A reads places begun
part_invariant {M} vector ord v lim p q f g W w A reads places begun n e h r i few c t d k z =
    let len : length reads ≡ n = ap length d ∙ length-replicate n 0 in
    let long : length A ≡ n = ap length t ∙ length-strided f w W n in
    record {
      modulus = e;
      worker = h;
      room = r;
      few = omega (arith, len, few);
      count = len ∙ c;
      terms = t ∙ ap (strided f w W) (sym len);
      falls = subst (λ (L : List Term). IsFalling ord v lim L) (sym t) (falling_strided ord v lim f w W n (record { vectors = i.poly.vectors; decreasing = i.poly.decreasing; degrees = i.degrees }) (omega arith) (λ j l. rows_in_range W w (length f) h j (omega (arith, l, c))));
      rows = transport (λ j. AreRows vector ord None (cond (sym z j) g []) A (sym (d ∙ (λ u. replicate (sym long u) 0)) j) (sym (k ∙ (λ u. replicate {A = Place M} (sym long u) Out)) j)) (rows_start vector ord A);
    }

pub rest_begins : (f g : List Term) (W w n : ℕ) (reads : List ℕ) → w < W → n ≡ row_count (length f) W w → reads ≡ replicate n 0 → unread (strided f w W (length reads)) reads g ≡ part f g W w
rest_begins f g W w n reads h c d =
    let len : length reads ≡ n = ap length d ∙ length-replicate n 0 in
    (λ i. unread (strided f w W (len i)) (d i) g) ∙ (λ i. unread (strided f w W (c i)) (replicate (c i) 0) g) ∙ part_begins f g W w h

pub range_at : (W w L first stride n len : ℕ) → w < W → first ≡ w → stride ≡ W → n ≡ row_count L W w → len ≡ L → InRange first stride n len
range_at W w L first stride n len h a b c d = transport (λ i. InRange (sym a i) (sym b i) (sym c i) (sym d i)) (rows_in_range W w L h)

pub next_seen : {X : Type 0} (f : X → Term) (ord : Order) (p q : ℕ) (A A' A'' B B' : List Term) (old old' new : List ℕ) (rest : List Term) (o : Option X) → q ≡ p → A' ≡ A → A'' ≡ A → B' ≡ B → old' ≡ old → terms ord p (unread A old B) ≡ rest → IsNext ord q A' B' old' new (option_map f o)
    → MatchOption o ((rest ≡ []) × (terms ord p (unread A'' new B) ≡ [])) (λ x. rest ≡ f x ∷ terms ord p (unread A'' new B))
next_seen f ord p q A A' A'' B B' old old' new rest o a b c d e r h =
    transport (λ i. MatchOption o ((r i ≡ []) × (terms ord p (unread (sym c i) new B) ≡ [])) (λ x. r i ≡ f x ∷ terms ord p (unread (sym c i) new B)))
    (next_at f ord p A B old new o (transport (λ i. IsNext ord (a i) (b i) (d i) (e i) new (option_map f o)) h))

pub ends_seen : {X M : Type 0} (f : X → Term) (ord : Order) (q : ℕ) (vector : M → List ℕ) (A A' B B' : List Term) (old' new : List ℕ) (ps : List (Place M)) (m n : ℕ) (o : Option X) → A' ≡ A → B' ≡ B → IsNext ord q A' B' old' new (option_map f o) → AreRows vector ord None B' A' new ps → m ≡ length A * length B → n ≤ made new
    → MatchOption o ((made new ≡ m) × (entered new ps ≡ m)) (λ _. n ≤ made new)
ends_seen f ord q vector A A' B B' old' new ps m n o b d h r e g =
    ends_at f ord q vector A' B' old' new ps m n o h r (e ∙ (λ i. length (sym b i) * length (sym d i))) g

-- the products of the part are within the room of the factors
pub part_room : (lim p : ℕ) (f g A : List Term) (W w n : ℕ) → w < W → HasRoom lim p f g → A ≡ strided f w W n → p ≡ 0 → norm A * norm g ≤ greatest_norm
part_room lim p f g A W w n h r t z =
    omega (arith, room_norm lim p f g r z, mul-le-mul_right (norm g) (let k : norm A ≤ norm f = omega (arith, ap norm t, norm-strided f w W n (omega arith)) in k))
