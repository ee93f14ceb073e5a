-- The loop of an advance.
use Rattle.std.proofs.Common.{◌≡◌, ◌≢◌, ◌⊎◌, inl, inr, ℕ, zero, suc, ◌+◌, ◌-◌, ◌<◌, ◌≤◌, Bool, true, false, List, [], ◌∷◌, ◌++◌, length, get_or, Option, Some, None, is_some, true≢false, refl, sym, ap, ◌∙◌, subst, arith, length-append}
use Rattle.std.proofs.lemmas.List.{length-map}
use Rattle.std.proofs.Math.ListN.{get_or-map}
use mathlib.Core.List.{IsPrefix}
use Rattle.sdmp_laws.specs.Poly.{Term}
use Rattle.whole_laws.specs.Notes.{Note, EndNote, NoEnd}
use Rattle.whole_laws.specs.Wholes.{MergeState, head_terms, notes_of, head_of_worker}
use Rattle.term_ring.specs.Names.{RingName, NoneBelow, notes_count}
use Rattle.global_heap.specs.Names.{notes_total}
use Rattle.global_heap.specs.Merges.{MergeView, IsWanting, IsServed, AllServed, IsCause, Grows, Emits, IsSound, Fills}
use Rattle.global_heap.specs.Reached.{merge_reached}
use Rattle.global_heap.specs.declared.answer.Advance.TheVariants.{Done, NeedsRing, OutFull}
use Rattle.global_heap.proofs.Steps.{Grows-refl, Grows-trans}
use Rattle.global_heap.proofs.Emitting.{emits_fewer, emits_taken, emits_workers, emits_product, emits_grows, emits_wanting}
use Rattle.global_heap.proofs.Counts.{count_within, after_end}

-- room is as at first, or notes were taken, or a worker whose head was summed wants one
abbrev pub Moved : MergeView → MergeView → Type 0
Moved a b = (b.spare ≡ a.spare) ⊎ (notes_count a.state.taken < notes_count b.state.taken) ⊎ ((w : ℕ) × (w < b.state.workers) × IsWanting b.state w)

-- after some turns
pub record Runs (lim : ℕ) (a b : MergeView) : Type 0 where
  pub sound : IsSound lim b
  pub grows : Grows a b
  pub workers : b.state.workers ≡ a.state.workers
  pub counts : notes_count a.state.taken ≤ notes_count b.state.taken
  pub moved : Moved a b

-- how many more turns there may be
unfoldable pub turns_left : MergeView → ℕ
turns_left v = notes_total v.state.product v.state.workers + length (head_terms v.state.heads) - notes_count v.state.taken

pub runs_begin : (lim : ℕ) (a : MergeView) → IsSound lim a → Runs lim a a
runs_begin lim a s = record { sound = s; grows = Grows-refl a; workers = refl; counts = omega arith; moved = inl refl }

none_some : (t : Term) → None ≡ Some t → ⊥
none_some t e = true≢false (sym (ap is_some e))

pub no_head : (heads : List (Option Term)) (w : ℕ) (t : Term) → head_terms heads ≡ [] → get_or heads w None ≡ Some t → ⊥
unfolding head_terms
no_head [] w t e h = none_some t h
no_head (None ∷ heads) zero t e h = none_some t h
no_head (Some u ∷ heads) zero t e h = true≢false (ap (λ (L : List Term). elim L as (λ _. Bool) [ [] ↦ false | v ∷ M ↦ true ]) e)
no_head (None ∷ heads) (suc w) t e h = no_head heads w t e h
no_head (Some u ∷ heads) (suc w) t e h = true≢false (ap (λ (L : List Term). elim L as (λ _. Bool) [ [] ↦ false | v ∷ M ↦ true ]) e)

served_not_wanting : (s : MergeState) (w : ℕ) → IsServed s w → IsWanting s w → ⊥
served_not_wanting s w (inl h) n = none_some h.0 (sym n.0 ∙ h.1)
served_not_wanting s w (inr h) n = after_end h.0 (subst NoEnd h.1 n.1)

-- a worker that wanted a note and is served took one
fill_counts : (a b : MergeView) (i : ℕ) (o : Option ℕ) → Fills a b i o → notes_count a.state.taken ≤ notes_count b.state.taken
fill_counts a b i o f = pick f.counts
  where
    pick : (b.state ≡ a.state) ⊎ (notes_count a.state.taken < notes_count b.state.taken) → notes_count a.state.taken ≤ notes_count b.state.taken
    pick (inl e) = let n = ap (λ (s : MergeState). notes_count s.taken) e in omega arith
    pick (inr l) = omega arith

-- once no worker wants a note, room is as at first or notes were taken
pub settled : (lim : ℕ) (a b c : MergeView) (o : Option ℕ) → Runs lim a b → Fills b c b.state.workers o → AllServed c.state → (c.spare ≡ a.spare) ⊎ (notes_count a.state.taken < notes_count c.state.taken)
settled lim a b c o r f served = pick r.moved f.counts
  where
    pick : Moved a b → (c.state ≡ b.state) ⊎ (notes_count b.state.taken < notes_count c.state.taken) → (c.spare ≡ a.spare) ⊎ (notes_count a.state.taken < notes_count c.state.taken)
    pick (inl e) k = inl (f.spare ∙ e)
    pick (inr (inl l)) k = inr (let m = fill_counts b c b.state.workers o f in omega arith)
    pick (inr (inr w)) (inl e) = absurd (served_not_wanting b.state w.0 (subst (λ (s : MergeState). IsServed s w.0) e (served w.0 (subst (λ (n : ℕ). w.0 < n) (sym f.workers) w.1))) w.2)
    pick (inr (inr w)) (inr l) = inr (let m = r.counts in omega arith)

-- the answer of fill says who is served
pub all_served : (a b : MergeView) → Fills a b a.state.workers None → AllServed b.state
all_served a b f w l = f.answer w (let e = f.workers in omega arith)

-- ---- the answers
pub needs_cause : (lim : ℕ) (a b c : MergeView) (w : ℕ) → Runs lim a b → Fills b c b.state.workers (Some w) → IsCause a c (NeedsRing w)
needs_cause lim a b c w r f =
    let n = f.answer in (
      record { worker = (let l = n.0 in let e = f.workers in omega arith); wanting = n.1; first = n.2 },
      n.3,
      (let l = n.4 in let m = r.grows.looks.each w in omega arith),
    )

ended : (s : MergeState) (w : ℕ) → head_terms s.heads ≡ [] → IsServed s w → (before : List Note) × (notes_of s.taken w ≡ before ++ EndNote ∷ [])
unfolding head_of_worker
ended s w e (inl h) = absurd (no_head s.heads w h.0 e h.1)
ended s w e (inr h) = h

pub done_cause : (lim : ℕ) (a b c : MergeView) → Runs lim a b → Fills b c b.state.workers None → head_terms c.state.heads ≡ [] → IsCause a c Done
done_cause lim a b c r f e = record { no_heads = e; ended = λ w l. ended c.state w e (all_served b c f w l) }

pub full_cause : (lim : ℕ) (a b c : MergeView) → Runs lim a b → Fills b c b.state.workers None → head_terms c.state.heads ≢ [] → c.spare ≡ 0 → IsCause a c OutFull
full_cause lim a b c r f n z = (all_served b c f, n, z)

pub full_moved : (lim : ℕ) (a b c : MergeView) → Runs lim a b → Fills b c b.state.workers None → c.spare ≡ 0 → 0 < a.spare → notes_count a.state.taken < notes_count c.state.taken
full_moved lim a b c r f z room = pick (settled lim a b c None r f (all_served b c f))
  where
    pick : (c.spare ≡ a.spare) ⊎ (notes_count a.state.taken < notes_count c.state.taken) → notes_count a.state.taken < notes_count c.state.taken
    pick (inl e) = absurd (omega arith)
    pick (inr l) = l

-- ---- a turn that emits
pub runs_on : (lim : ℕ) (a b c d : MergeView) → Runs lim a b → Fills b c b.state.workers None → IsSound lim c → Emits c d → IsSound lim d → Runs lim a d
runs_on lim a b c d r f s e t = record {
  sound = t;
  grows = Grows-trans a b d r.grows (Grows-trans b c d f.grows (emits_grows c d e));
  workers = emits_workers c d e ∙ f.workers ∙ r.workers;
  counts = let k = ap notes_count (emits_taken c d e) in let l = r.counts in let m = fill_counts b c b.state.workers None f in omega arith;
  moved = let w = emits_wanting lim c d s e in inr (inr (w.0, (let l = w.1 in let n = emits_workers c d e in omega arith), w.2));
}

pub shorter : (lim : ℕ) (b c d : MergeView) → Fills b c b.state.workers None → IsSound lim b → IsSound lim c → Emits c d → turns_left d < turns_left b
unfolding turns_left
shorter lim b c d f sb sc e =
    let less = emits_fewer c d e in
    let heads = f.heads in
    let k = ap notes_count (emits_taken c d e) in
    let p = emits_product c d e ∙ f.product in
    let w = emits_workers c d e ∙ f.workers in
    let n : notes_total d.state.product d.state.workers ≡ notes_total b.state.product b.state.workers = λ i. notes_total (p i) (w i) in
    let within : notes_count c.state.taken ≤ notes_total b.state.product b.state.workers = subst (λ (m : ℕ). notes_count c.state.taken ≤ m) (λ i. notes_total (f.product i) (f.workers i)) (count_within c.state sc.whole) in
    omega arith

-- ---- how far a merge has come
fewer_notes : (a b : List Note) → IsPrefix a b → length a ≤ length b
fewer_notes a b p = let l = length-append a p.0 in let e = ap (λ (n : List Note). length n) p.1 in omega arith

pub grows_reached : (lim : ℕ) (a b : MergeView) → IsSound lim a → IsSound lim b → Grows a b → NoneBelow (merge_reached a) (merge_reached b)
unfolding notes_of
grows_reached lim a b sa sb g =
    let count : length b.state.taken ≡ length a.state.taken = sb.whole.taken_count ∙ sym sb.rings_count ∙ ap (λ (l : List RingName). length l) g.rings ∙ sa.rings_count ∙ sym sa.whole.taken_count in
    record {
      long = length-map b.state.taken (λ (n : List Note). length n) ∙ count ∙ sym (length-map a.state.taken (λ (n : List Note). length n));
      each = λ k.
          let x = get_or-map (λ (n : List Note). length n) a.state.taken k [] in
          let y = get_or-map (λ (n : List Note). length n) b.state.taken k [] in
          let p = fewer_notes (get_or a.state.taken k []) (get_or b.state.taken k []) (g.taken k) in
          omega arith;
    }
