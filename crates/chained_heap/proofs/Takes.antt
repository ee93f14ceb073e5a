-- What the calls that take rows keep.
use Rattle.std.proofs.Common.{ℕ, suc, ◌+◌, ◌<◌, ◌≤◌, ◌≡◌, ◌≢◌, Bool, true, false, eqb, List, [], ◌∷◌, length, get_or, set, refl, sym, ap, subst, ◌∙◌, arith, inl, inr}
use Rattle.std.specs.declared.cmp.Ordering.{Ordering}
use Rattle.std.specs.Ordering.{is_eq}
use Rattle.std.specs.List.{All, sum_by}
use Rattle.std.specs.List.Sorted.{IsPermutation}
use Rattle.std.proofs.lemmas.Bool.{false≢true, cases_lt}
use Rattle.std.proofs.lemmas.List.{length-set, set-get_or}
use Rattle.std.proofs.lemmas.List.Elements.{All-head, All-tail}
use Rattle.std.proofs.lemmas.List.Sums.{sum_by-set}
use Rattle.std.proofs.lemmas.List.Sorted.{sum_by_popped, All-permutation}
use Rattle.chained_heap.specs.declared.node.Node.{Node}
use Rattle.chained_heap.specs.declared.node.Place.{Place}
use Rattle.chained_heap.specs.declared.node.Place.TheVariants.{Out, In, Taken}
use Rattle.chained_heap.specs.Shape.{no_row, bit, occ, place_at, present, is_free, is_taken, is_at, Chain, chain_of, Holds, Shape, MayTake, TakesChain}
use Rattle.chained_heap.proofs.Chains.{same_or_not, hit_same, hit_other, occ_head, all_both, some_of, place_same, place_other, chain_frame, chain_cons, chain_tail, chain_head}
use Rattle.chained_heap.proofs.Insertions.{each_frame, sums_frame}

module _ {M : Type 0} where
  present_most : (p : Place M) → present p ≤ 1
  present_most Out = omega arith
  present_most (In m) = omega arith
  present_most Taken = omega arith

  pub free_at : (cmp : M → M → Ordering) (x : M) (p : Place M) → is_at cmp x p ≡ true → is_free p ≡ 0
  free_at cmp x Out h = absurd (false≢true h)
  free_at cmp x (In m) h = refl
  free_at cmp x Taken h = absurd (false≢true h)

  free_taken : (p : Place M) → is_taken p ≡ true → is_free p ≡ 1
  free_taken Out h = absurd (false≢true h)
  free_taken (In m) h = absurd (false≢true h)
  free_taken Taken h = refl

  present_taken : (p : Place M) → is_taken p ≡ true → present p ≡ 1
  present_taken Out h = absurd (false≢true h)
  present_taken (In m) h = absurd (false≢true h)
  present_taken Taken h = refl

  -- a chain from the mark has no row
  pub no_rows : (next : List ℕ) (ps : List (Place M)) (want : Place M → Bool) (first : ℕ) (c : List ℕ) → length next ≤ no_row → first ≡ no_row → Chain next ps want first c → c ≡ []
  no_rows next ps want first [] f e h = refl
  no_rows next ps want first (r ∷ c) f e h = absurd (omega (arith, h.linked.0, h.linked.1))

  -- a chain from a row begins with it
  pub some_rows : (next : List ℕ) (ps : List (Place M)) (want : Place M → Bool) (first : ℕ) (c : List ℕ) → first ≢ no_row → Chain next ps want first c → (d : List ℕ) × (c ≡ first ∷ d)
  some_rows next ps want first [] n h = absurd (n h.linked)
  some_rows next ps want first (r ∷ c) n h = (c, ap (λ q. q ∷ c) (sym h.linked.0))

module _ {M : Type 0} (cmp : M → M → Ordering) where
  module _ (want : Place M → Bool) (H : List (Node M)) (next : List ℕ) (ps : List (Place M)) (loose taken : ℕ) (s : Shape cmp want H next ps loose taken) where
    next_few : length next ≤ no_row
    next_few = omega (arith, s.long, s.fits)

    pub move_one : loose ≢ no_row → (loose < length next) × (want (place_at ps loose) ≡ true) × Shape cmp want H (set next loose taken) (set ps loose Taken) (get_or next loose 0) loose
    move_one ne =
        let d = some_rows next ps want loose s.rest ne s.free in
        let c : List ℕ = d.0 in
        let free : Chain next ps want loose (loose ∷ d.0) = subst (Chain next ps want loose) d.1 s.free in
        let lb = free.linked.1 in
        let lp : loose < length ps = omega (arith, s.long) in
        let cut : (r : ℕ) → occ r s.rest ≡ bit (eqb loose r) + occ r d.0 = λ r. ap (occ r) d.1 in
        let cut_long : length s.rest ≡ suc (length d.0) = ap length d.1 in
        let own : bit (eqb loose loose) ≡ 1 = hit_same loose loose refl in
        let at = s.once loose in
        let most = present_most (place_at ps loose) in
        let here : present (place_at ps loose) ≡ 1 = omega (arith, cut loose) in
        let z1 : sum_by (λ a. occ loose (chain_of s.chains a)) H ≡ 0 = omega (arith, cut loose) in
        let z2 : occ loose d.0 ≡ 0 = omega (arith, cut loose) in
        let z3 : occ loose s.held ≡ 0 = omega (arith, cut loose) in
        let w = free.inside loose (occ_head loose d.0) in
        let keeps : (r : ℕ) → present (place_at (set ps loose Taken) r) ≡ present (place_at ps r) = λ r. elim (same_or_not loose r) [
          | inl q ↦ (λ i. present (place_at (set ps loose Taken) (sym q i))) ∙ ap present (place_same ps loose Taken lp) ∙ sym here ∙ (λ i. present (place_at ps (q i)))
          | inr q ↦ ap present (place_other ps loose r Taken (λ u. q (sym u)))
        ] in (
          lb,
          w,
          record {
            chains = set s.chains loose [];
            rest = d.0;
            held = loose ∷ s.held;
            each = each_frame cmp H next ps s.chains loose taken Taken [] z1 s.each;
            free = chain_frame next ps want (get_or next loose 0) loose d.0 taken Taken z2 (chain_tail next ps want loose loose d.0 free);
            out = chain_cons next ps is_taken taken loose s.held Taken lb lp refl z3 s.out;
            once = λ r. let f = sums_frame cmp H next ps s.chains loose taken Taken [] (occ r) z1 s.each in omega (arith, keeps r, s.once r, cut r);
            room =
                let f = sums_frame cmp H next ps s.chains loose taken Taken [] length z1 s.each in
                let e = sum_by-set is_free ps loose Taken Out lp in
                let g : is_free (get_or ps loose Out) ≡ 0 = s.wanted (place_at ps loose) w in
                omega (arith, s.room, length-set ps loose Taken);
            long = omega (arith, s.long, length-set next loose taken, length-set ps loose Taken);
            fits = omega (arith, s.fits, length-set ps loose Taken);
            chained = omega (arith, s.chained, length-set s.chains loose [], length-set ps loose Taken);
            wanted = s.wanted;
          },
        )

    pub pop_one : taken ≢ no_row → (taken < length next) × (is_taken (place_at ps taken) ≡ true) × Shape cmp want H next (set ps taken Out) loose (get_or next taken 0)
    pop_one ne =
        let d = some_rows next ps is_taken taken s.held ne s.out in
        let out : Chain next ps is_taken taken (taken ∷ d.0) = subst (Chain next ps is_taken taken) d.1 s.out in
        let lb = out.linked.1 in
        let lp : taken < length ps = omega (arith, s.long) in
        let cut : (r : ℕ) → occ r s.held ≡ bit (eqb taken r) + occ r d.0 = λ r. ap (occ r) d.1 in
        let own : bit (eqb taken taken) ≡ 1 = hit_same taken taken refl in
        let at = s.once taken in
        let most = present_most (place_at ps taken) in
        let z1 : sum_by (λ a. occ taken (chain_of s.chains a)) H ≡ 0 = omega (arith, cut taken) in
        let z2 : occ taken d.0 ≡ 0 = omega (arith, cut taken) in
        let z3 : occ taken s.rest ≡ 0 = omega (arith, cut taken) in
        let v : ℕ = get_or next taken 0 in
        let w = out.inside taken (occ_head taken d.0) in (
          lb,
          w,
          subst (λ n. Shape cmp want H n (set ps taken Out) loose (get_or next taken 0)) (set-get_or next taken 0) record {
            chains = set s.chains taken [];
            rest = s.rest;
            held = d.0;
            each = each_frame cmp H next ps s.chains taken (get_or next taken 0) Out [] z1 s.each;
            free = chain_frame next ps want loose taken s.rest (get_or next taken 0) Out z3 s.free;
            out = chain_frame next ps is_taken (get_or next taken 0) taken d.0 (get_or next taken 0) Out z2 (chain_tail next ps is_taken taken taken d.0 out);
            once = λ r.
                let f = sums_frame cmp H next ps s.chains taken (get_or next taken 0) Out [] (occ r) z1 s.each in
                elim (same_or_not taken r) [
                  | inl q ↦
                      let e : present (place_at (set ps taken Out) r) ≡ 0 = (λ i. present (place_at (set ps taken Out) (sym q i))) ∙ ap present (place_same ps taken Out lp) in
                      let z1' : sum_by (λ a. occ r (chain_of s.chains a)) H ≡ 0 = subst (λ i. sum_by (λ a. occ i (chain_of s.chains a)) H ≡ 0) q z1 in
                      let z2' : occ r d.0 ≡ 0 = subst (λ i. occ i d.0 ≡ 0) q z2 in
                      let z3' : occ r s.rest ≡ 0 = subst (λ i. occ i s.rest ≡ 0) q z3 in
                      omega arith
                  | inr q ↦
                      let e : present (place_at (set ps taken Out) r) ≡ present (place_at ps r) = ap present (place_other ps taken r Out (λ u. q (sym u))) in
                      omega (arith, s.once r, cut r, hit_other taken r q)
                ];
            room =
                let f = sums_frame cmp H next ps s.chains taken (get_or next taken 0) Out [] length z1 s.each in
                let e = sum_by-set is_free ps taken Out Out lp in
                let g : is_free (get_or ps taken Out) ≡ 1 = free_taken (place_at ps taken) w in
                omega (arith, s.room, length-set ps taken Out);
            long = omega (arith, s.long, length-set next taken (get_or next taken 0), length-set ps taken Out);
            fits = omega (arith, s.fits, length-set ps taken Out);
            chained = omega (arith, s.chained, length-set s.chains taken [], length-set ps taken Out);
            wanted = s.wanted;
          },
        )

    -- a row in the heap stands in the chain of a node
    pub in_node : (Q : Node M → Type 0) → All Q H → loose ≡ no_row → (r : ℕ) (m : M) → place_at ps r ≡ In m → (a : Node M) × Q a × (is_eq (cmp m a.mono) ≡ true)
    in_node Q q e r m h =
        let empty : s.rest ≡ [] = no_rows next ps want loose s.rest next_few e s.free in
        let z : occ r s.rest ≡ 0 = ap (occ r) empty in
        let p : present (place_at ps r) ≡ 1 = ap present h in
        let n : occ r s.held ≡ 0 = elim (cases_lt 0 (occ r s.held)) [
          | inl k ↦ absurd (false≢true (sym (ap is_taken h) ∙ s.out.inside r k))
          | inr k ↦ omega arith
        ] in
        let f = some_of (λ a. occ r (chain_of s.chains a)) (λ a. Holds cmp next ps s.chains a × Q a) H (omega (arith, s.once r)) (all_both (Holds cmp next ps s.chains) Q (λ a. Holds cmp next ps s.chains a × Q a) H (λ a u v. (u, v)) s.each q) in
        (f.0, f.2.1, sym (ap (is_at cmp f.0.mono) h) ∙ f.2.0.0.inside r f.1)

    -- no row is taken where the chain of the taken ones is empty
    pub none_taken : taken ≡ no_row → (r : ℕ) (b : Bool) → is_taken (place_at ps r) ≡ b → b ≡ false
    none_taken e r false h = refl
    none_taken e r true h =
        let empty : s.held ≡ [] = no_rows next ps is_taken taken s.held next_few e s.out in
        let z : occ r s.held ≡ 0 = ap (occ r) empty in
        let p = present_taken (place_at ps r) h in
        let f1 = free_taken (place_at ps r) h in
        let n : occ r s.rest ≡ 0 = elim (cases_lt 0 (occ r s.rest)) [
          | inl k ↦ let w = s.wanted (place_at ps r) (s.free.inside r k) in absurd (omega arith)
          | inr k ↦ omega arith
        ] in
        let f = some_of (λ a. occ r (chain_of s.chains a)) (Holds cmp next ps s.chains) H (omega (arith, s.once r)) s.each in
        let w = free_at cmp f.0.mono (place_at ps r) (f.2.0.inside r f.1) in
        absurd (omega arith)

  module _ (want : Place M → Bool) (H : List (Node M)) (next : List ℕ) (ps : List (Place M)) (taken : ℕ) (s : Shape cmp want H next ps no_row taken) where
    pub rest_none : s.rest ≡ []
    rest_none = no_rows next ps want no_row s.rest (omega (arith, s.long, s.fits)) refl s.free

    -- another test for the loose rows, of which there is none
    pub retest : (other : Place M → Bool) → ((p : Place M) → other p ≡ true → is_free p ≡ 0) → Shape cmp other H next ps no_row taken
    retest other w = record {
      chains = s.chains;
      rest = [];
      held = s.held;
      each = s.each;
      free = record { linked = refl; inside = λ r k. absurd (omega arith) };
      out = s.out;
      once = λ r. let z : occ r s.rest ≡ 0 = ap (occ r) rest_none in omega (arith, s.once r);
      room = let z : length s.rest ≡ 0 = ap length rest_none in omega (arith, s.room);
      long = s.long;
      fits = s.fits;
      chained = s.chained;
      wanted = w;
    }

  module _ (want : Place M → Bool) (H H' : List (Node M)) (root : Node M) (next : List ℕ) (ps : List (Place M)) (taken : ℕ) (s : Shape cmp want H next ps no_row taken) where
    -- the root's chain is let loose
    pub detach : IsPermutation H (root ∷ H') → ((p : Place M) → is_at cmp root.mono p ≡ true → want p ≡ true) → Shape cmp want H' next ps root.row taken
    detach perm hw =
        let all = All-permutation (Holds cmp next ps s.chains) H (root ∷ H') perm s.each in
        let own = All-head (Holds cmp next ps s.chains) root H' all in
        let long0 : length s.rest ≡ 0 = ap length (rest_none want H next ps taken s) in
        record {
          chains = s.chains;
          rest = chain_of s.chains root;
          held = s.held;
          each = All-tail (Holds cmp next ps s.chains) root H' all;
          free = record { linked = own.0.linked; inside = λ r k. hw (place_at ps r) (own.0.inside r k) };
          out = s.out;
          once = λ r.
              let e = sum_by_popped (λ a. occ r (chain_of s.chains a)) root H H' perm in
              let z : occ r s.rest ≡ 0 = ap (occ r) (rest_none want H next ps taken s) in
              omega (arith, s.once r);
          room = let e = sum_by_popped (λ a. length (chain_of s.chains a)) root H H' perm in omega (arith, s.room);
          long = s.long;
          fits = s.fits;
          chained = s.chained;
          wanted = s.wanted;
        }

    -- the root's own row is in the heap
    pub root_row : IsPermutation H (root ∷ H') → is_at cmp root.mono (place_at ps root.row) ≡ true
    root_row perm =
        let own = All-head (Holds cmp next ps s.chains) root H' (All-permutation (Holds cmp next ps s.chains) H (root ∷ H') perm s.each) in
        own.0.inside root.row (chain_head next ps (is_at cmp root.mono) root.row (chain_of s.chains root) own.0 own.1)

    pub root_real : IsPermutation H (root ∷ H') → root.row ≢ no_row
    root_real perm e =
        let own = All-head (Holds cmp next ps s.chains) root H' (All-permutation (Holds cmp next ps s.chains) H (root ∷ H') perm s.each) in
        let z : length (chain_of s.chains root) ≡ 0 = ap length (no_rows next ps (is_at cmp root.mono) root.row (chain_of s.chains root) (omega (arith, s.long, s.fits)) e own.0) in
        absurd (omega (arith, own.1))

  may_join : (want : Place M → Bool) (a b : Place M) → want b ≡ true → MayTake want a b → MayTake want a Taken
  may_join want a b w (inl e) = inr (sym (ap want e) ∙ w, refl)
  may_join want a b w (inr h) = inr (h.0, refl)

  module _ (want : Place M → Bool) (H : List (Node M)) (ps0 : List (Place M)) (first : ℕ) where
    pub takes_begins : (next : List ℕ) (taken : ℕ) → Shape cmp want H next ps0 first taken → TakesChain cmp want H ps0 first next ps0 first taken
    takes_begins next taken s = record {
      shape = s;
      may = λ r. inl refl;
      long = refl;
      fewer = omega arith;
      some = λ n. absurd (n refl);
    }

    pub takes_steps : (next : List ℕ) (ps : List (Place M)) (loose taken : ℕ) → want Taken ≡ false → loose ≢ no_row → TakesChain cmp want H ps0 first next ps loose taken → TakesChain cmp want H ps0 first (set next loose taken) (set ps loose Taken) (get_or next loose 0) loose
    takes_steps next ps loose taken off ne t =
        let m = move_one want H next ps loose taken t.shape ne in
        let lp : loose < length ps = omega (arith, m.0, t.shape.long) in
        let e = sum_by-set (λ p. bit (want p)) ps loose Taken Out lp in
        let a : bit (want (get_or ps loose Out)) ≡ 1 = ap bit m.1 in
        let b : bit (want Taken) ≡ 0 = ap bit off in
        record {
          shape = m.2;
          may = λ r. elim (same_or_not loose r) [
            | inl q ↦ subst (λ i. MayTake want (place_at ps0 i) (place_at (set ps loose Taken) i)) q (subst (MayTake want (place_at ps0 loose)) (sym (place_same ps loose Taken lp)) (may_join want (place_at ps0 loose) (place_at ps loose) m.1 (t.may loose)))
            | inr q ↦ subst (MayTake want (place_at ps0 r)) (sym (place_other ps loose r Taken (λ u. q (sym u)))) (t.may r)
          ];
          long = length-set ps loose Taken ∙ t.long;
          fewer = omega (arith, t.fewer);
          some = λ n. omega (arith, t.fewer);
        }

pub taken_place : {M : Type 0} (p : Place M) → is_taken p ≡ true → p ≡ Taken
taken_place Out h = absurd (false≢true h)
taken_place (In m) h = absurd (false≢true h)
taken_place Taken h = refl
