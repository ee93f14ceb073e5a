-- A team that has sent nothing, and its merge.
use Rattle.std.proofs.Common.{◌≡◌, ℕ, zero, suc, ◌+◌, ◌<◌, List, [], ◌∷◌, ◌++◌, length, get_or, map, replicate, refl, sym, ap, ◌∙◌, subst, arith, length-append}
use Rattle.std.proofs.lemmas.List.{map-append, length-map}
use Rattle.sdmp_laws.specs.Order.{Order}
use Rattle.sdmp_laws.specs.Poly.{terms, part}
use Rattle.sdmp_laws.specs.Canonical.{Polynomial}
use Rattle.whole_laws.specs.Notes.{Note, Product, ProductScript, script_list}
use Rattle.whole_laws.specs.Wholes.{MergeState, merge_start, notes_of}
use Rattle.row_merge.specs.Part.{Remaining}
use Rattle.term_ring.specs.Ends.{head_seen, full_looks, IsWriterOf}
use Rattle.term_ring.specs.declared.ring.Ring.{Ring}
use Rattle.term_ring.specs.declared.ring.Writer.{Writer}
use Rattle.term_ring.specs.Names.{RingName, ring_name, writer_name}
use Rattle.global_heap.specs.Names.{script_product, first_product, HasScripts, IsFit, notes_total}
use Rattle.global_heap.specs.Merges.{MergeView, IsSound}
use Rattle.term_ring.specs.Sending.{SenderView}
use Rattle.term_ring.proofs.Lists.{each_more}
use Rattle.term_ring.proofs.Naming.{name_of_writer}
use Rattle.mul_workers.specs.Inside.{script_of_rows}
use Rattle.mul_workers.specs.Rounds.{AreMembers, AreRead, IsTeam}
use Rattle.mul_workers.specs.Products.{product_of}

-- ---- one worker
pub rows_script : (ord : Order) (n : ℕ) (rows : Remaining) (f g : Polynomial) (W w : ℕ) → (rows.modulus ≡ f.modulus) × (rows.f ≡ f.list) × (rows.g ≡ g.list) → (rows.workers ≡ W) × (rows.worker ≡ w) → script_of_rows ord n rows ≡ ProductScript (product_of ord n f g) W w
rows_script ord n rows f g W w a b = λ i. ProductScript record { ord = ord; p = a.0 i; n = n; f = a.1 i; g = a.2 i } (b.0 i) (b.1 i)

pub rows_rest : (ord : Order) (n : ℕ) (rows : Remaining) (f g : Polynomial) (W w : ℕ) → (rows.modulus ≡ f.modulus) × (rows.f ≡ f.list) × (rows.g ≡ g.list) → (rows.workers ≡ W) × (rows.worker ≡ w) → rows.rest ≡ terms ord f.modulus (part f.list g.list W w)
    → rows.rest ≡ script_list (script_of_rows ord n rows)
unfolding script_list
rows_rest ord n rows f g W w a b e = e ∙ sym (ap script_list (rows_script ord n rows f g W w a b))

module _ {X M E : Type 0} where
  pub hired_sender : (ring : Ring X M E) (w : Writer X M E) (k : ℕ) (s : SenderView) → IsWriterOf ring w → (head_seen w ≡ 0) × (full_looks w ≡ 0) → s ≡ record { ring = writer_name w; worker = k; sent = []; head = head_seen w; full_looks = full_looks w } → s ≡ record { ring = ring_name ring; worker = k; sent = []; head = 0; full_looks = 0 }
  hired_sender ring w k s of h e = e ∙ (λ i. record { ring = name_of_writer ring w of i; worker = k; sent = []; head = h.0 i; full_looks = h.1 i })

-- the ring has the script of the worker k of W, and the worker has sent nothing
pub record IsHired (m : Product) (W k : ℕ) (name : RingName) (s : SenderView) : Type 0 where
  pub script : name.script ≡ ProductScript m W k
  pub places : 0 < name.places
  pub sender : s ≡ record { ring = name; worker = k; sent = []; head = 0; full_looks = 0 }

-- the first i workers have their rings
pub record AreHired (m : Product) (W : ℕ) (names : List RingName) (team : List SenderView) (i : ℕ) : Type 0 where
  pub count : length names ≡ i
  pub long : length team ≡ i
  pub each : (k : ℕ) (c : RingName) (d : SenderView) → k < i → IsHired m W k (get_or names k c) (get_or team k d)

pub none_hired : {A B : Type 0} (m : Product) (W : ℕ) (f : A → RingName) (h : B → SenderView) (xs : List A) (ys : List B) → length xs ≡ 0 → length ys ≡ 0 → AreHired m W (map f xs) (map h ys) 0
none_hired m W f h xs ys p q = record { count = length-map xs f ∙ p; long = length-map ys h ∙ q; each = λ k c d l. absurd (omega arith) }

pub one_hired : (m : Product) (W i : ℕ) (names : List RingName) (team : List SenderView) (name : RingName) (s : SenderView) → AreHired m W names team i → IsHired m W i name s → AreHired m W (names ++ name ∷ []) (team ++ s ∷ []) (i + 1)
one_hired m W i names team name s h new = record {
  count = let l = length-append names (name ∷ []) in let c = h.count in omega arith;
  long = let l = length-append team (s ∷ []) in let c = h.long in omega arith;
  each = each_more (IsHired m W) names team name s i h.count h.long h.each new;
}

module _ {A B : Type 0} (xs later : List A) (a : A) (ys after : List B) (b : B) (p : later ≡ xs ++ a ∷ []) (q : after ≡ ys ++ b ∷ []) where
  pub hired_more : (f : A → RingName) (h : B → SenderView) (m : Product) (W i : ℕ) → AreHired m W (map f xs) (map h ys) i → IsHired m W i (f a) (h b) → AreHired m W (map f later) (map h after) (i + 1)
  hired_more f h m W i old new =
      subst (λ (n : List RingName). AreHired m W n (map h after) (i + 1)) (sym (ap (map f) p ∙ map-append f xs (a ∷ [])))
      (subst (λ (t : List SenderView). AreHired m W (map f xs ++ f a ∷ []) t (i + 1)) (sym (ap (map h) q ∙ map-append h ys (b ∷ [])))
      (one_hired m W i (map f xs) (map h ys) (f a) (h b) old new))

pub hired_scripts : (m : Product) (W : ℕ) (names : List RingName) (team : List SenderView) → AreHired m W names team W → HasScripts m names
hired_scripts m W names team h w d l =
    subst (λ (n : ℕ). (get_or names w d).script ≡ ProductScript m n w) (sym h.count)
    (h.each w d record { ring = d; worker = 0; sent = []; head = 0; full_looks = 0 } (let c = h.count in omega arith)).script

pub hired_members : (m : Product) (W : ℕ) (names : List RingName) (team : List SenderView) → AreHired m W names team W → AreMembers names team
hired_members m W names team h = record {
  long = h.long ∙ sym h.count;
  each = λ k d l.
      let below : k < W = let c = h.long in omega arith in
      let one : (e : RingName) → IsHired m W k (get_or names k e) (get_or team k d) = λ e. h.each k e d below in
      record {
        number = ap (λ (s : SenderView). s.worker) (one d.ring).sender;
        below = let c = h.count in omega arith;
        ring = λ e. sym (ap (λ (s : SenderView). s.ring) (one e).sender);
        places = subst (λ (r : RingName). 0 < r.places) (sym (ap (λ (s : SenderView). s.ring) (one d.ring).sender)) (one d.ring).places;
      };
}

-- ---- the merge of the readers
pub first_is : (m : Product) (names : List RingName) → HasScripts m names → 0 < length names → first_product names ≡ m
first_is m [] h l = absurd (omega arith)
first_is m (a ∷ names) h l = ap script_product (h 0 a l)

nothing_at : (n k : ℕ) → length (get_or (replicate {A = List Note} n []) k []) ≡ 0
nothing_at zero k = refl
nothing_at (suc n) zero = refl
nothing_at (suc n) (suc k) = nothing_at n k

pub first_team : (v : MergeView) (m : Product) (W : ℕ) (team : List SenderView) → v.state ≡ merge_start m W → AreMembers v.rings team → IsTeam v team
unfolding merge_start notes_of
first_team v m W team start members = record {
  members = members;
  seen = λ k d l.
      let none : length (get_or v.state.taken k []) ≡ 0 = ap (λ (s : MergeState). length (get_or s.taken k [])) start ∙ nothing_at W k in
      omega arith;
}

-- ---- the product of a merge of these rings
module _ {m : Product} {W : ℕ} {names readers : List RingName} (r : AreRead m W names readers) (some : 0 < W) where
  names_some : 0 < length names
  names_some = let n = r.count in omega arith

  pub readers_are : first_product readers ≡ m
  readers_are = ap first_product r.same ∙ first_is m names r.scripts names_some

  pub readers_scripts : HasScripts (first_product readers) readers
  readers_scripts = subst (λ (n : Product). HasScripts n readers) (sym readers_are) (subst (HasScripts m) (sym r.same) r.scripts)

  pub readers_fit : (lim : ℕ) → IsFit lim m → IsFit lim (first_product readers)
  readers_fit lim fit = subst (IsFit lim) (sym readers_are) fit

  pub all_sent : (v : List RingName) → v ≡ readers → notes_total (first_product v) (length v) ≡ notes_total m W
  all_sent v e = ap (λ (x : List RingName). notes_total (first_product x) (length x)) (e ∙ r.same) ∙ ap (λ (n : Product). notes_total n (length names)) (first_is m names r.scripts names_some) ∙ ap (notes_total m) r.count

  pub product_of_merge : (lim : ℕ) (v : MergeView) → IsSound lim v → v.rings ≡ readers → v.state.product ≡ m
  product_of_merge lim v s e = s.product ∙ ap first_product e ∙ readers_are

  pub workers_of_merge : (lim : ℕ) (v : MergeView) → IsSound lim v → v.rings ≡ readers → v.state.workers ≡ W
  workers_of_merge lim v s e = sym s.rings_count ∙ ap (λ (x : List RingName). length x) (e ∙ r.same) ∙ r.count

  pub team_of_merge : (v : MergeView) (n : ℕ) (team : List SenderView) → v.state ≡ merge_start (first_product readers) n → v.rings ≡ readers → AreMembers names team → IsTeam v team
  team_of_merge v n team start e members = first_team v (first_product readers) n team start (subst (λ (x : List RingName). AreMembers x team) (sym (e ∙ r.same)) members)
