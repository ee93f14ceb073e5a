-- Notes are taken of each worker until it has a head or its ring is empty.
use Rattle.std.proofs.Common.{◌≡◌, ◌⊎◌, inl, inr, ℕ, ◌+◌, ◌-◌, ◌<◌, ◌≤◌, ◌^◌, List, [], ◌∷◌, ◌++◌, length, get_or, set, map, Some, None, refl, sym, ap, ◌∙◌, subst, arith, length-append, append-nil}
use Rattle.std.proofs.lemmas.List as lists
use Rattle.std.proofs.lemmas.List.{get_or-set_same, get_or-set_other}
use mathlib.Core.List.{IsPrefix}
use Rattle.whole_laws.specs.Notes.{Note, TermNote, MarkNote, EndNote}
use Rattle.whole_laws.specs.Wholes.{notes_of, head_of_worker}
use Rattle.whole_laws.proofs.StepLemmas.{each_worker}
use Rattle.divide_wholes.specs.Wholes.{divide_take}
use Rattle.dividing_rounds.specs.Runs.{DivideRun, run_take}
use Rattle.term_ring.specs.Names.{RingName, NoneBelow, notes_count, ring_name}
use Rattle.term_ring.specs.declared.ring.Ring.{Ring}
use Rattle.term_ring.proofs.Lists.{prefix_self, prefix_trans}
use Rattle.global_heap.proofs.Steps.{NoneBelow-refl, NoneBelow-trans, NoneBelow-set}
use Rattle.divide_merge.specs.Merges.{DivideView, IsSound, taken_of, AllStarved}
use Rattle.divide_merge.specs.Steps.{Looks, TakesNote, Fills, IsLeftAlone, IsAskedAll}
use Rattle.divide_merge.proofs.Taking.{count_more}

-- ---- beginnings
-- ---- a note that was taken
-- nothing but the heads and the notes taken changes
record Takes (r t : DivideRun) (w : ℕ) (x : Note) : Type 0 where
  run : t ≡ record r { state = record r.state { heads = t.state.heads; taken = t.state.taken } }
  taken : t.state.taken ≡ set r.state.taken w (notes_of r.state.taken w ++ x ∷ [])
  others : (v : ℕ) → (v ≡ w → ⊥) → head_of_worker t.state.heads v ≡ head_of_worker r.state.heads v

takes : (r : DivideRun) (w : ℕ) (x : Note) → Takes r (run_take r w x) w x
unfolding run_take divide_take head_of_worker
takes r w (TermNote t) = record { run = refl; taken = refl; others = λ v other. get_or-set_other r.state.heads w v (Some t) None other }
takes r w (MarkNote k top) = record { run = refl; taken = refl; others = λ v other. refl }
takes r w EndNote = record { run = refl; taken = refl; others = λ v other. refl }

takes_note : (a b : DivideView) (w : ℕ) → (t : TakesNote a b w) → Takes a.run b.run w t.note
takes_note a b w t = subst (λ (r : DivideRun). Takes a.run r w t.note) (sym t.run) (takes a.run w t.note)

one_longer : (a b : DivideView) (w v : ℕ) → w < length a.run.state.taken → TakesNote a b w → IsPrefix (taken_of a v) (taken_of b v)
unfolding notes_of
one_longer a b w v l t =
    let k = takes_note a b w t in
    subst (λ (ts : List (List Note)). IsPrefix (get_or a.run.state.taken v []) (get_or ts v [])) (sym k.taken)
    (each_worker (λ u. IsPrefix (get_or a.run.state.taken u []) (get_or (set a.run.state.taken w (get_or a.run.state.taken w [] ++ t.note ∷ [])) u [])) w v
    (t.note ∷ [], sym (get_or-set_same a.run.state.taken w (get_or a.run.state.taken w [] ++ t.note ∷ []) [] l))
    (λ other. ([], append-nil (get_or a.run.state.taken v []) ∙ sym (get_or-set_other a.run.state.taken w v (get_or a.run.state.taken w [] ++ t.note ∷ []) [] other))))

pub longer : (lim : ℕ) (a b : DivideView) (w : ℕ) → IsSound lim a → w < a.run.state.workers → TakesNote a b w → length (taken_of b w) ≡ length (taken_of a w) + 1
unfolding notes_of
longer lim a b w s l t =
    let k = takes_note a b w t in
    let inside : w < length a.run.state.taken = let c = s.whole.whole.taken_count in omega arith in
    let e = ap (λ (ts : List (List Note)). length (get_or ts w [])) k.taken in
    let g = ap (λ (ns : List Note). length ns) (get_or-set_same a.run.state.taken w (get_or a.run.state.taken w [] ++ t.note ∷ []) [] inside) in
    let n = length-append (get_or a.run.state.taken w []) (t.note ∷ []) in
    omega arith

-- ---- what is filled
pub Fills-refl : (a : DivideView) → Fills a a
Fills-refl a = record { run = refl; answer = refl; spare = refl; rings = refl; row = refl; taken = λ w. prefix_self (taken_of a w); counts = inl refl; tails = NoneBelow-refl a.tails; looks = NoneBelow-refl a.looks }

-- the last run with other heads and notes
refilled : (a b c : DivideRun) → b ≡ record a { state = record a.state { heads = b.state.heads; taken = b.state.taken } } → c ≡ record b { state = record b.state { heads = c.state.heads; taken = c.state.taken } }
    → c ≡ record a { state = record a.state { heads = c.state.heads; taken = c.state.taken } }
refilled a b c e f = f ∙ ap (λ (r : DivideRun). record r { state = record r.state { heads = c.state.heads; taken = c.state.taken } }) e

pub Fills-trans : (a b c : DivideView) → Fills a b → Fills b c → Fills a c
Fills-trans a b c f g = record {
  run = refilled a.run b.run c.run f.run g.run;
  answer = g.answer ∙ f.answer;
  spare = g.spare ∙ f.spare;
  rings = g.rings ∙ f.rings;
  row = g.row ∙ f.row;
  taken = λ w. prefix_trans (taken_of a w) (taken_of b w) (taken_of c w) (f.taken w) (g.taken w);
  counts = pick f.counts g.counts;
  tails = NoneBelow-trans a.tails b.tails c.tails f.tails g.tails;
  looks = NoneBelow-trans a.looks b.looks c.looks f.looks g.looks;
}
  where
    pick : (b.run ≡ a.run) ⊎ (notes_count a.run.state.taken < notes_count b.run.state.taken) → (c.run ≡ b.run) ⊎ (notes_count b.run.state.taken < notes_count c.run.state.taken)
        → (c.run ≡ a.run) ⊎ (notes_count a.run.state.taken < notes_count c.run.state.taken)
    pick (inl e) (inl h) = inl (h ∙ e)
    pick (inl e) (inr l) = inr (let n = ap (λ (r : DivideRun). notes_count r.state.taken) e in omega arith)
    pick (inr k) (inl h) = inr (let n = ap (λ (r : DivideRun). notes_count r.state.taken) h in omega arith)
    pick (inr k) (inr l) = inr (omega arith)

looked : (a b : DivideView) (w : ℕ) → Looks a b w → NoneBelow a.tails b.tails
looked a b w l = subst (NoneBelow a.tails) (sym l.tails) (NoneBelow-set a.tails w l.tail l.higher)

pub fills_take : (lim : ℕ) (a b : DivideView) (w : ℕ) → IsSound lim a → w < a.run.state.workers → Looks a b w → TakesNote a b w → Fills a b
fills_take lim a b w s below l t =
    let k = takes_note a b w t in
    let inside : w < length a.run.state.taken = let c = s.whole.whole.taken_count in omega arith in record {
      run = k.run;
      answer = l.answer;
      spare = l.spare;
      rings = l.rings;
      row = l.row;
      taken = λ v. one_longer a b w v inside t;
      counts = inr (let n = ap notes_count k.taken in let c = count_more a.run.state.taken w t.note inside in omega arith);
      tails = looked a b w l;
      looks = l.looks;
    }

pub fills_idle : (a b : DivideView) (w : ℕ) → Looks a b w → b.run ≡ a.run → Fills a b
fills_idle a b w l e = record {
  run = subst (λ (r : DivideRun). r ≡ record a.run { state = record a.run.state { heads = r.state.heads; taken = r.state.taken } }) (sym e) refl;
  answer = l.answer;
  spare = l.spare;
  rings = l.rings;
  row = l.row;
  taken = λ v. subst (λ (r : DivideRun). IsPrefix (taken_of a v) (notes_of r.state.taken v)) (sym e) (prefix_self (taken_of a v));
  counts = inl e;
  tails = looked a b w l;
  looks = l.looks;
}

-- ---- the other workers
pub alone_refl : (a : DivideView) (w : ℕ) → IsLeftAlone a a w
alone_refl a w = record { taken = λ v other. refl; heads = λ v other. refl; tails = λ v other. refl }

pub alone_trans : (a b c : DivideView) (w : ℕ) → IsLeftAlone a b w → IsLeftAlone b c w → IsLeftAlone a c w
alone_trans a b c w f g = record { taken = λ v other. g.taken v other ∙ f.taken v other; heads = λ v other. g.heads v other ∙ f.heads v other; tails = λ v other. g.tails v other ∙ f.tails v other }

tails_alone : (a b : DivideView) (w v : ℕ) → Looks a b w → (v ≡ w → ⊥) → get_or b.tails v 0 ≡ get_or a.tails v 0
tails_alone a b w v l other = ap (λ (ts : List ℕ). get_or ts v 0) l.tails ∙ get_or-set_other a.tails w v l.tail 0 other

pub alone_take : (a b : DivideView) (w : ℕ) → Looks a b w → TakesNote a b w → IsLeftAlone a b w
unfolding notes_of
alone_take a b w l t =
    let k = takes_note a b w t in record {
      taken = λ v other. ap (λ (ts : List (List Note)). get_or ts v []) k.taken ∙ get_or-set_other a.run.state.taken w v (get_or a.run.state.taken w [] ++ t.note ∷ []) [] other;
      heads = k.others;
      tails = λ v other. tails_alone a b w v l other;
    }

pub alone_idle : (a b : DivideView) (w : ℕ) → Looks a b w → b.run ≡ a.run → IsLeftAlone a b w
alone_idle a b w l e = record {
  taken = λ v other. ap (λ (r : DivideRun). notes_of r.state.taken v) e;
  heads = λ v other. ap (λ (r : DivideRun). head_of_worker r.state.heads v) e;
  tails = λ v other. tails_alone a b w v l other;
}

-- ---- who was asked
pub asked_later : (a b c : DivideView) (w : ℕ) → NoneBelow a.looks b.looks → IsAskedAll b c w → IsAskedAll a c w
asked_later a b c w l h none = let k = h none in (k.0, (let m = l.each w in let n = k.1 in omega arith))

pub asked_stays : (a b c : DivideView) (w v : ℕ) → Fills b c → IsLeftAlone b c w → (v ≡ w → ⊥) → IsAskedAll a b v → IsAskedAll a c v
asked_stays a b c w v f l other h none =
    let k = h (sym (l.heads v other) ∙ none) in (
      l.tails v other ∙ k.0 ∙ ap (λ (ns : List Note). length ns) (sym (l.taken v other)),
      (let m = f.looks.each v in let n = k.1 in omega arith),
    )

pub asked_more : (a b c : DivideView) (i : ℕ) → ((v : ℕ) → v < i → IsAskedAll a b v) → Fills b c → IsLeftAlone b c i → IsAskedAll b c i → NoneBelow a.looks b.looks → (v : ℕ) → v < i + 1 → IsAskedAll a c v
asked_more a b c i before f l here looks v below =
    each_worker (λ u. u < i + 1 → IsAskedAll a c u) i v (λ _. asked_later a b c i looks here)
    (λ other b'. asked_stays a b c i v f l other (before v (let o = other in grind (arith, other, b')))) below

-- ---- the two loops
-- notes of the worker w were taken, and nothing else was done
pub record FilledOne (lim : ℕ) (a b : DivideView) (w : ℕ) : Type 0 where
  pub sound : IsSound lim b
  pub fills : Fills a b
  pub alone : IsLeftAlone a b w

pub one_begins : (lim : ℕ) (a : DivideView) (w : ℕ) → IsSound lim a → FilledOne lim a a w
one_begins lim a w s = record { sound = s; fills = Fills-refl a; alone = alone_refl a w }

-- how many more notes are taken of w at most
abbrev pub notes_left : DivideView → ℕ → ℕ
notes_left v w = 2 ^ 63 - length (taken_of v w)

same_workers : (a b : DivideView) → Fills a b → b.run.state.workers ≡ a.run.state.workers
same_workers a b f = ap (λ (r : DivideRun). r.state.workers) f.run

pub one_takes : (lim : ℕ) (a b c : DivideView) (w : ℕ) → FilledOne lim a b w → w < a.run.state.workers → IsSound lim c → Looks b c w → TakesNote b c w → FilledOne lim a c w
one_takes lim a b c w f below s l t = record {
  sound = s;
  fills = Fills-trans a b c f.fills (fills_take lim b c w f.sound (let e = same_workers a b f.fills in omega arith) l t);
  alone = alone_trans a b c w f.alone (alone_take b c w l t);
}

pub one_idle : (lim : ℕ) (a b c : DivideView) (w : ℕ) → FilledOne lim a b w → IsSound lim c → Looks b c w → c.run ≡ b.run → FilledOne lim a c w
one_idle lim a b c w f s l e = record {
  sound = s;
  fills = Fills-trans a b c f.fills (fills_idle b c w l e);
  alone = alone_trans a b c w f.alone (alone_idle b c w l e);
}

pub fewer_left : (lim : ℕ) (a b c : DivideView) (w : ℕ) → FilledOne lim a b w → w < a.run.state.workers → TakesNote b c w → length (taken_of c w) ≤ 2 ^ 63 → notes_left c w < notes_left b w
fewer_left lim a b c w f below t few = let e = longer lim b c w f.sound (let e = same_workers a b f.fills in omega arith) t in omega arith

-- each worker below i has a head, or was asked in vain
pub record FilledTo (lim : ℕ) (a b : DivideView) (i : ℕ) : Type 0 where
  pub sound : IsSound lim b
  pub fills : Fills a b
  pub asked : (v : ℕ) → v < i → IsAskedAll a b v

pub filled_begins : (lim : ℕ) (a : DivideView) → IsSound lim a → FilledTo lim a a 0
filled_begins lim a s = record { sound = s; fills = Fills-refl a; asked = λ v l. absurd (omega arith) }

pub filled_next : (lim : ℕ) (a b c : DivideView) (i : ℕ) → FilledTo lim a b i → IsSound lim c → Fills b c → IsLeftAlone b c i → IsAskedAll b c i → FilledTo lim a c (i + 1)
filled_next lim a b c i f s g l here = record {
  sound = s;
  fills = Fills-trans a b c f.fills g;
  asked = asked_more a b c i f.asked g l here f.fills.looks;
}

pub all_filled : (lim : ℕ) (a b : DivideView) (i : ℕ) → FilledTo lim a b i → a.run.state.workers ≡ i → AllStarved a b
all_filled lim a b i f e w l none = f.asked w (let s = same_workers a b f.fills in omega arith) none

-- ---- what the calls in them are told
pub one_below : (lim : ℕ) (a b : DivideView) (w : ℕ) → FilledOne lim a b w → w < a.run.state.workers → w < b.run.state.workers
one_below lim a b w f l = let e = same_workers a b f.fills in omega arith

pub same_ring : (a b : DivideView) (w : ℕ) (name : RingName) → Fills a b → ((d : RingName) → get_or a.rings w d ≡ name) → (d : RingName) → get_or b.rings w d ≡ name
same_ring a b w name f r d = ap (λ (L : List RingName). get_or L w d) f.rings ∙ r d

pub filled_below : (lim : ℕ) (a b : DivideView) (i w : ℕ) → FilledTo lim a b i → w < a.run.state.workers → w < b.run.state.workers
filled_below lim a b i w f l = let e = same_workers a b f.fills in omega arith

pub own_ring : {X M E : Type 0} (L : List RingName) (rings : List (Ring X M E)) (w : ℕ) (r : Ring X M E) → L ≡ map ring_name rings → w < length rings → r ≡ get_or rings w r → (d : RingName) → get_or L w d ≡ ring_name r
own_ring L rings w r e l is d = ap (λ (K : List RingName). get_or K w d) e ∙ lists.get_or-map ring_name rings w r d l ∙ ap ring_name (sym is)
