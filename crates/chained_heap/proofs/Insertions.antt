-- What an insertion into the heap keeps, and a write at a row that stands in no chain.
use Rattle.std.proofs.Common.{ℕ, suc, ◌+◌, ◌<◌, ◌≤◌, ◌≡◌, ◌≢◌, ◌⊎◌, Bool, true, eqb, List, [], ◌∷◌, ◌++◌, length, get_or, set, refl, sym, ap, subst, ◌∙◌, arith, inl, inr}
use Rattle.std.specs.declared.cmp.Ordering.{Ordering}
use Rattle.std.specs.Ordering.{is_eq}
use Rattle.std.specs.List.{All, sum_by}
use Rattle.std.specs.List.Sorted.{IsPermutation}
use Rattle.std.proofs.lemmas.List.{get_or-set_same, get_or-set_other, length-set}
use Rattle.std.proofs.lemmas.List.Elements.{All-set, All-get_or, All-push, All-weaker}
use Rattle.std.proofs.lemmas.List.Sums.{sum_by-set, sum_by_push}
use Rattle.std.proofs.lemmas.List.Sorted.{sum_by-IsPermutation, All-permutation}
use Rattle.chained_heap.specs.declared.node.Node.{Node}
use Rattle.chained_heap.specs.declared.node.Place.{Place}
use Rattle.chained_heap.specs.declared.node.Place.TheVariants.{Out, In}
use Rattle.chained_heap.specs.Shape.{no_row, bit, occ, place_at, present, is_free, is_taken, is_at, Chain, chain_of, Holds, Shape}
use Rattle.chained_heap.proofs.Chains.{same_or_not, hit_same, hit_other, all_zero, all_both, sum_same, sum_more, place_same, place_other, chain_frame, chain_cons, chain_head}

module _ {M : Type 0} (cmp : M → M → Ordering) where
  -- a write at a row that stands in no chain of H
  module _ (H : List (Node M)) (next : List ℕ) (ps : List (Place M)) (chains : List (List ℕ)) (row v : ℕ) (p : Place M) (c : List ℕ) where
    pub each_frame : sum_by (λ a. occ row (chain_of chains a)) H ≡ 0 → All (Holds cmp next ps chains) H → All (Holds cmp (set next row v) (set ps row p) (set chains row c)) H
    each_frame z h = all_both (Holds cmp next ps chains) (λ a. occ row (chain_of chains a) ≡ 0) (Holds cmp (set next row v) (set ps row p) (set chains row c)) H one h (all_zero (λ a. occ row (chain_of chains a)) H z)
      where
        one : (a : Node M) → Holds cmp next ps chains a → occ row (chain_of chains a) ≡ 0 → Holds cmp (set next row v) (set ps row p) (set chains row c) a
        one a k o =
            let head = chain_head next ps (is_at cmp a.mono) a.row (chain_of chains a) k.0 k.1 in
            let ne : a.row ≢ row = λ e. let q : occ a.row (chain_of chains a) ≡ occ row (chain_of chains a) = ap (λ i. occ i (chain_of chains a)) e in absurd (omega arith) in
            let same : chain_of chains a ≡ chain_of (set chains row c) a = sym (get_or-set_other chains row a.row c [] ne) in
            subst (λ l. Chain (set next row v) (set ps row p) (is_at cmp a.mono) a.row l × (0 < length l)) same
            (chain_frame next ps (is_at cmp a.mono) a.row row (chain_of chains a) v p o k.0, k.1)

    pub sums_frame : (f : List ℕ → ℕ) → sum_by (λ a. occ row (chain_of chains a)) H ≡ 0 → All (Holds cmp next ps chains) H → sum_by (λ a. f (chain_of (set chains row c) a)) H ≡ sum_by (λ a. f (chain_of chains a)) H
    sums_frame f z h = sum_same (λ a. f (chain_of (set chains row c) a)) (λ a. f (chain_of chains a)) H
        (all_both (Holds cmp next ps chains) (λ a. occ row (chain_of chains a) ≡ 0) (λ a. f (chain_of (set chains row c) a) ≡ f (chain_of chains a)) H one h (all_zero (λ a. occ row (chain_of chains a)) H z))
      where
        one : (a : Node M) → Holds cmp next ps chains a → occ row (chain_of chains a) ≡ 0 → f (chain_of (set chains row c) a) ≡ f (chain_of chains a)
        one a k o =
            let head = chain_head next ps (is_at cmp a.mono) a.row (chain_of chains a) k.0 k.1 in
            let ne : a.row ≢ row = λ e. let q : occ a.row (chain_of chains a) ≡ occ row (chain_of chains a) = ap (λ i. occ i (chain_of chains a)) e in absurd (omega arith) in
            ap f (get_or-set_other chains row a.row c [] ne)

  module _ (want : Place M → Bool) (H : List (Node M)) (next : List ℕ) (ps : List (Place M)) (loose taken : ℕ) (s : Shape cmp want H next ps loose taken) where
    pub few : length H + sum_by is_free ps ≤ length ps
    few =
        let m = sum_more (λ a. length (chain_of s.chains a)) H (All-weaker (Holds cmp next ps s.chains) (λ a. 0 < length (chain_of s.chains a)) (λ a h. h.1) H s.each) in
        omega (arith, s.room)

    module _ (row : ℕ) (mono : M) (below : row < length ps) (is : place_at ps row ≡ Out) where
      zero_at : sum_by (λ a. occ row (chain_of s.chains a)) H + occ row s.rest + occ row s.held ≡ 0
      zero_at = s.once row ∙ ap present is

      free_falls : sum_by is_free (set ps row (In mono)) + 1 ≡ sum_by is_free ps
      free_falls =
          let e = sum_by-set is_free ps row (In mono) Out below in
          let f : is_free (get_or ps row Out) ≡ 1 = ap is_free is in
          omega arith

      pub has_room : length H < length ps
      has_room = omega (arith, free_falls, few)

      sum_in : (r : ℕ) (n : ℕ) → n ≡ present (place_at ps r) → bit (eqb row r) + n ≡ present (place_at (set ps row (In mono)) r)
      sum_in r n e = by (same_or_not row r)
        where
          by : (row ≡ r) ⊎ (row ≢ r) → bit (eqb row r) + n ≡ present (place_at (set ps row (In mono)) r)
          by (inl q) =
              let a : n ≡ 0 = e ∙ (λ i. present (place_at ps (sym q i))) ∙ ap present is in
              let b : present (place_at (set ps row (In mono)) r) ≡ 1 = (λ i. present (place_at (set ps row (In mono)) (sym q i))) ∙ ap present (place_same ps row (In mono) below) in
              omega (arith, hit_same row r q)
          by (inr q) =
              let b : present (place_at (set ps row (In mono)) r) ≡ present (place_at ps r) = ap present (place_other ps row r (In mono) (λ u. q (sym u))) in
              omega (arith, hit_other row r q)

      pub insert_room : (H' : List (Node M)) → IsPermutation (H ++ record { mono = mono; row = row } ∷ []) H' → is_eq (cmp mono mono) ≡ true → Shape cmp want H' (set next row no_row) (set ps row (In mono)) loose taken
      insert_room H' perm self =
          let new : Node M = record { mono = mono; row = row } in
          let chains : List (List ℕ) = set s.chains row (row ∷ []) in
          let z = zero_at in
          let lc : row < length s.chains = omega (arith, s.chained) in
          let got : chain_of (set s.chains row (row ∷ [])) (record { mono = mono; row = row }) ≡ row ∷ [] = get_or-set_same s.chains row (row ∷ []) [] lc in
          let own : Holds cmp (set next row no_row) (set ps row (In mono)) (set s.chains row (row ∷ [])) (record { mono = mono; row = row }) =
          subst (λ l. Chain (set next row no_row) (set ps row (In mono)) (is_at cmp mono) row l × (0 < length l)) (sym got)
          (chain_cons next ps (is_at cmp mono) no_row row [] (In mono) (omega (arith, s.long)) below self refl (record { linked = refl; inside = λ r k. absurd (omega arith) }), omega arith) in
          let framed = each_frame H next ps s.chains row no_row (In mono) (row ∷ []) (omega arith) s.each in
          record {
            chains = set s.chains row (row ∷ []);
            rest = s.rest;
            held = s.held;
            each = All-permutation (Holds cmp (set next row no_row) (set ps row (In mono)) (set s.chains row (row ∷ []))) (H ++ record { mono = mono; row = row } ∷ []) H' perm
                (All-push (Holds cmp (set next row no_row) (set ps row (In mono)) (set s.chains row (row ∷ []))) H (record { mono = mono; row = row }) framed own);
            free = chain_frame next ps want loose row s.rest no_row (In mono) (omega arith) s.free;
            out = chain_frame next ps is_taken taken row s.held no_row (In mono) (omega arith) s.out;
            once = λ r.
                let a = sum_by-IsPermutation (λ b. occ r (chain_of (set s.chains row (row ∷ [])) b)) (H ++ record { mono = mono; row = row } ∷ []) H' perm in
                let b = sum_by_push (λ b. occ r (chain_of (set s.chains row (row ∷ [])) b)) H (record { mono = mono; row = row }) in
                let d = sums_frame H next ps s.chains row no_row (In mono) (row ∷ []) (occ r) (omega arith) s.each in
                let g : occ r (chain_of (set s.chains row (row ∷ [])) (record { mono = mono; row = row })) ≡ bit (eqb row r) + 0 = ap (occ r) got in
                omega (arith, sum_in r _ (s.once r));
            room =
                let a = sum_by-IsPermutation (λ b. length (chain_of (set s.chains row (row ∷ [])) b)) (H ++ record { mono = mono; row = row } ∷ []) H' perm in
                let b = sum_by_push (λ b. length (chain_of (set s.chains row (row ∷ [])) b)) H (record { mono = mono; row = row }) in
                let d = sums_frame H next ps s.chains row no_row (In mono) (row ∷ []) length (omega arith) s.each in
                let g : length (chain_of (set s.chains row (row ∷ [])) (record { mono = mono; row = row })) ≡ 1 = ap length got in
                omega (arith, s.room, free_falls, length-set ps row (In mono));
            long = omega (arith, s.long, length-set next row no_row, length-set ps row (In mono));
            fits = omega (arith, s.fits, length-set ps row (In mono));
            chained = omega (arith, s.chained, length-set s.chains row (row ∷ []), length-set ps row (In mono));
            wanted = s.wanted;
          }

      pub insert_chain : (k : ℕ) (a : Node M) → k < length H → a ≡ get_or H k a → is_eq (cmp mono a.mono) ≡ true → Shape cmp want (set H k (record { mono = a.mono; row = row })) (set next row a.row) (set ps row (In mono)) loose taken
      insert_chain k a kh e eq =
          let z = zero_at in
          let lc : row < length s.chains = omega (arith, s.chained) in
          let rows : List ℕ = chain_of s.chains a in
          let held = subst (Holds cmp next ps s.chains) (sym e) (All-get_or (Holds cmp next ps s.chains) H k a kh s.each) in
          let za = subst (λ b. occ row (chain_of s.chains b) ≡ 0) (sym e) (All-get_or (λ b. occ row (chain_of s.chains b) ≡ 0) H k a kh (all_zero (λ b. occ row (chain_of s.chains b)) H (omega arith))) in
          let got : chain_of (set s.chains row (row ∷ chain_of s.chains a)) (record { mono = a.mono; row = row }) ≡ row ∷ chain_of s.chains a = get_or-set_same s.chains row (row ∷ chain_of s.chains a) [] lc in
          let own : Holds cmp (set next row a.row) (set ps row (In mono)) (set s.chains row (row ∷ chain_of s.chains a)) (record { mono = a.mono; row = row }) =
          subst (λ l. Chain (set next row a.row) (set ps row (In mono)) (is_at cmp a.mono) row l × (0 < length l)) (sym got)
          (chain_cons next ps (is_at cmp a.mono) a.row row (chain_of s.chains a) (In mono) (omega (arith, s.long)) below eq za held.0, omega arith) in
          let framed = each_frame H next ps s.chains row a.row (In mono) (row ∷ chain_of s.chains a) (omega arith) s.each in
          let old : (f : List ℕ → ℕ) → f (chain_of (set s.chains row (row ∷ chain_of s.chains a)) (get_or H k a)) ≡ f (chain_of s.chains a) = λ f.
          (λ i. f (chain_of (set s.chains row (row ∷ chain_of s.chains a)) (sym e i)))
          ∙ ap f (get_or-set_other s.chains row a.row (row ∷ chain_of s.chains a) [] (λ q.
          let h = chain_head next ps (is_at cmp a.mono) a.row (chain_of s.chains a) held.0 held.1 in
          let w : occ a.row (chain_of s.chains a) ≡ occ row (chain_of s.chains a) = ap (λ i. occ i (chain_of s.chains a)) q in absurd (omega arith))) in
          record {
            chains = set s.chains row (row ∷ chain_of s.chains a);
            rest = s.rest;
            held = s.held;
            each = All-set (Holds cmp (set next row a.row) (set ps row (In mono)) (set s.chains row (row ∷ chain_of s.chains a))) H k (record { mono = a.mono; row = row }) own framed;
            free = chain_frame next ps want loose row s.rest a.row (In mono) (omega arith) s.free;
            out = chain_frame next ps is_taken taken row s.held a.row (In mono) (omega arith) s.out;
            once = λ r.
                let b = sum_by-set (λ b. occ r (chain_of (set s.chains row (row ∷ chain_of s.chains a)) b)) H k (record { mono = a.mono; row = row }) a kh in
                let d = sums_frame H next ps s.chains row a.row (In mono) (row ∷ chain_of s.chains a) (occ r) (omega arith) s.each in
                let g : occ r (chain_of (set s.chains row (row ∷ chain_of s.chains a)) (record { mono = a.mono; row = row })) ≡ bit (eqb row r) + occ r (chain_of s.chains a) = ap (occ r) got in
                omega (arith, sum_in r _ (s.once r), old (occ r));
            room =
                let b = sum_by-set (λ b. length (chain_of (set s.chains row (row ∷ chain_of s.chains a)) b)) H k (record { mono = a.mono; row = row }) a kh in
                let d = sums_frame H next ps s.chains row a.row (In mono) (row ∷ chain_of s.chains a) length (omega arith) s.each in
                let g : length (chain_of (set s.chains row (row ∷ chain_of s.chains a)) (record { mono = a.mono; row = row })) ≡ suc (length (chain_of s.chains a)) = ap length got in
                omega (arith, s.room, free_falls, length-set ps row (In mono), old length);
            long = omega (arith, s.long, length-set next row a.row, length-set ps row (In mono));
            fits = omega (arith, s.fits, length-set ps row (In mono));
            chained = omega (arith, s.chained, length-set s.chains row (row ∷ chain_of s.chains a), length-set ps row (In mono));
            wanted = s.wanted;
          }
