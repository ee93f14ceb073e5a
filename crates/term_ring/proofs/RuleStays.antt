-- The rule of a ring stays at each step, and where seats are split and joined.
use Rattle.std.proofs.Common.{◌≡◌, ◌≢◌, ℕ, zero, suc, ◌+◌, ◌-◌, ◌*◌, ◌%◌, ◌^◌, ◌<◌, ◌≤◌, List, [], ◌∷◌, ◌++◌, length, get_or, set, sym, refl, ap, ◌∙◌, subst, ⊎_elim, inl, inr, arith, Some, le_refl, length-set, length-append, get_or-set_other, get_or-set_same, append_assoc, append-nil}
use mathlib.Core.List.{IsPrefix}
use mathlib.Core.Logic.{dite}
use mathlib.Core.Option.{none, some, some-injective, some-ne-none}
use native.Mathlib.Decide.{ℕ_discrete}
use lib.ListN.{get_elem?}
use Rattle.atomic_table.specs.Table.{State, Me, step, keeps, stepped, Allows, Splits, Joins, opening}
use Rattle.atomic_table.proofs.Lists.{one_turn}
use Rattle.term_ring.specs.declared.view.View.{View}
use Rattle.term_ring.specs.declared.view.Kind.{Kind}
use Rattle.term_ring.specs.declared.view.Kind.TheVariants.{Spent, First, Writing, Reading, SentCopy, TakenCopy}
use Rattle.term_ring.specs.Rule.{place, words_of_ring, LeavesNoRoom, RisesWhere, WriterKnows, ReaderKnows, FirstKnows, KnowsAs, Knows, IsRing}
use Rattle.term_ring.specs.Steps.{first, spent, writing, reading, copy_of, copied, LooksAtHead, Puts, LooksAtTail, Takes}
use Rattle.term_ring.specs.Views.{told, Sends, Peeks}
use Rattle.term_ring.proofs.Seats.{SaysOfSeats, seats_stay, seats_more, other_at, knows, unmoved, split_off, join_in}
use Rattle.term_ring.proofs.Lists.{prefix_self, prefix_trans, prefix_more, prefix_length, both_begin, at_snoc, first_of_longer, first_there, within, index_snoc_before, index_snoc_last, same_list, apart, place_below, place_above}

module _ {N C : Type 0} (words : N → List ℕ) (script : C) (places : ℕ) where
  abbrev V : Type 0
  V = View Kind N C

  -- what another seat knows stays, where the writer has sent more
  beside_writer : (taken inside inside' : List N) (stored stored' : List ℕ) (parted writer reader j : ℕ) → j ≢ writer → IsPrefix (taken ++ inside) (taken ++ inside') → length inside ≤ length inside' → parted ≡ 1
      → ((n : N) → get_elem? inside' 0 ≡ some n → 0 < length inside → get_elem? inside 0 ≡ some n) → (v : V) (k : Kind)
      → KnowsAs words script places taken inside stored parted writer reader j v k → KnowsAs words script places taken inside' stored' parted writer reader j v k
  beside_writer taken inside inside' stored stored' parted writer reader j other more wider begun first v Spent h = tt
  beside_writer taken inside inside' stored stored' parted writer reader j other more wider begun first v First h = let e = h.unbegun in absurd (omega arith)
  beside_writer taken inside inside' stored stored' parted writer reader j other more wider begun first v Writing h = absurd (other h.mine)
  beside_writer taken inside inside' stored stored' parted writer reader j other more wider begun first v Reading h = let saw = h.saw in record {
    begun = h.begun;
    mine = h.mine;
    scripted = h.scripted;
    sized = h.sized;
    all = h.all;
    saw = omega arith;
    short = h.short;
    ahead = h.ahead;
    read = λ n e k l. let a = h.ahead (omega arith) in h.read n (first n e (omega arith)) k l;
    heard = prefix_trans _ _ _ h.heard more;
  }
  beside_writer taken inside inside' stored stored' parted writer reader j other more wider begun first v SentCopy h = prefix_trans _ _ _ h more
  beside_writer taken inside inside' stored stored' parted writer reader j other more wider begun first v TakenCopy h = h

  -- the same, where the reader has taken a note
  beside_reader : (taken taken' inside inside' : List N) (stored : List ℕ) (parted writer reader j : ℕ) → j ≢ reader → taken ++ inside ≡ taken' ++ inside' → IsPrefix taken taken' → parted ≡ 1 → (v : V) (k : Kind)
      → KnowsAs words script places taken inside stored parted writer reader j v k → KnowsAs words script places taken' inside' stored parted writer reader j v k
  beside_reader taken taken' inside inside' stored parted writer reader j other same more begun v Spent h = tt
  beside_reader taken taken' inside inside' stored parted writer reader j other same more begun v First h = let e = h.unbegun in absurd (omega arith)
  beside_reader taken taken' inside inside' stored parted writer reader j other same more begun v Writing h = let l = prefix_length taken taken' more in let saw = h.saw in record {
    begun = h.begun;
    mine = h.mine;
    scripted = h.scripted;
    sized = h.sized;
    all = h.all ∙ same;
    saw = omega arith;
    wrote = h.wrote;
    heard = prefix_trans _ _ _ h.heard more;
  }
  beside_reader taken taken' inside inside' stored parted writer reader j other same more begun v Reading h = absurd (other h.mine)
  beside_reader taken taken' inside inside' stored parted writer reader j other same more begun v SentCopy h = (h.0, h.1 ∙ same)
  beside_reader taken taken' inside inside' stored parted writer reader j other same more begun v TakenCopy h = prefix_trans _ _ _ h more

-- the count of looks in vain, where the head is so
counts_room : (head places sent vain : ℕ) → (after : ℕ) × RisesWhere (LeavesNoRoom head places sent) vain after
counts_room head places sent vain = dite (ℕ_discrete (head + places) sent)
    (λ full. (vain + 1, record { raised = λ _. refl; stays = λ no. absurd (no (inl full)) }))
    (λ room. dite (ℕ_discrete sent (2 ^ 63))
    (λ many. (vain + 1, record { raised = λ _. refl; stays = λ no. absurd (no (inr many)) }))
    (λ few. (vain, record { raised = λ h. absurd (⊎_elim room few h); stays = λ _. refl })))

-- and where the tail is so
counts_none : (tail taken vain : ℕ) → (after : ℕ) × RisesWhere (tail ≡ taken) vain after
counts_none tail taken vain = dite (ℕ_discrete tail taken)
    (λ none. (vain + 1, record { raised = λ _. refl; stays = λ no. absurd (no none) }))
    (λ more. (vain, record { raised = λ h. absurd (more h); stays = λ _. refl }))

-- the table has no slots
abbrev S : Type 0
S = Unit {0}

module _ {N C : Type 0} (words : N → List ℕ) (fits : C → N → Type 0) (carry : C → List N → Type 0) (script : C) (places : ℕ) where
  abbrev View' : Type 0
  View' = View Kind N C

  abbrev St : Type 0
  St = State S View'

  abbrev M : Type 0
  M = Me S View'

  abbrev Rule : St → Type 0
  Rule = IsRing words fits carry script places

  -- what the rule says of a seat with this view, where it is of this kind
  abbrev SaysAs : (s : St) → Rule s → ℕ → View' → Kind → Type 0
  SaysAs s r = KnowsAs words script places r.taken r.inside r.stored r.parted r.writer r.reader

  sent_length : (s : St) (r : Rule s) → length (r.taken ++ r.inside) ≡ length r.taken + length r.inside
  sent_length s r = length-append r.taken r.inside

  seats : SaysOfSeats Rule (λ (v : View'). v.kind) SaysAs
  seats = record {
    each = λ s r. r.each_seat;
    reseated = λ s r views all. record {
      taken = r.taken;
      inside = r.inside;
      stored = r.stored;
      parted = r.parted;
      writer = r.writer;
      reader = r.reader;
      some_place = r.some_place;
      wide = r.wide;
      head_is = r.head_is;
      tail_is = r.tail_is;
      room = r.room;
      few = r.few;
      carried = r.carried;
      good = r.good;
      spelt = r.spelt;
      short = r.short;
      free = r.free;
      next = r.next;
      each_seat = all;
    };
  }

  pub looks_head : (slots id : ℕ) (m : M) → m.0.kind ≡ Writing → Allows Rule slots id m 0 (λ x. x) (LooksAtHead (step slots 0 0 0 none) m)
  looks_head slots id m is s r _ at _ =
      let p : WriterKnows script places r.taken r.inside r.stored r.parted r.writer id m.0 = knows seats s r id m.0 Writing at is in
      let h : ℕ = get_or s.words 0 0 in let hi : h ≡ length r.taken = r.head_is in
      let counted = counts_room h m.0.places (length m.0.notes) m.0.looks in let w : View' = record m.0 { seen = h; looks = counted.0 } in
      let all : length m.0.notes ≡ length r.taken + length r.inside = ap length p.all ∙ sent_length s r in
      let saw = p.saw in let room = r.room in let sized = p.sized in let heard = prefix_length m.0.told r.taken p.heard in
      let mine : WriterKnows script places r.taken r.inside r.stored r.parted r.writer id w = record {
        begun = p.begun;
        mine = p.mine;
        scripted = p.scripted;
        sized = p.sized;
        all = p.all;
        saw = omega arith;
        wrote = p.wrote;
        heard = p.heard;
      } in (
        w,
        keeps,
        tt,
        unmoved seats s r 0 id m.1 w (subst (SaysAs s r id w) (sym is) mine),
        (refl, counted.1, omega arith, omega arith, omega arith, omega arith, subst (IsPrefix m.0.told) (sym p.all) (prefix_trans m.0.told r.taken (r.taken ++ r.inside) p.heard (prefix_more r.taken r.inside))),
      )

  -- the writer knows the words `now` of its next place, the last of which is written there
  pens : (s : St) (r : Rule s) (id : ℕ) (m : M) (k i b : ℕ) (now : List ℕ) → get_elem? s.views id ≡ some m.0 → m.0.kind ≡ Writing → k < 5 → length m.0.notes < m.0.seen + m.0.places → i ≡ place m.0.places (length m.0.notes) k
      → k ≤ length m.0.words → length now ≡ k + 1 → ((c : ℕ) → c < k → get_or now c 0 ≡ get_or m.0.words c 0) → get_or now k 0 ≡ b → Rule (stepped s i b id m.1 (record m.0 { words = now }) keeps)
  pens s r id m k i b now at is few room here known longer_now before last =
      let p : WriterKnows script places r.taken r.inside r.stored r.parted r.writer id m.0 = knows seats s r id m.0 Writing at is in
      let w : View' = record m.0 { words = now } in
      let all : length m.0.notes ≡ length r.taken + length r.inside = ap length p.all ∙ sent_length s r in
      let saw = p.saw in let sized = p.sized in let wide = r.wide in let some_place = r.some_place in
      let kept : length r.stored ≡ length m.0.words = ap length (sym p.wrote) in
      let at_here : i ≡ place places (length r.taken + length r.inside) k = here ∙ (λ j. place (sized j) (all j) k) in
      let low : 32 ≤ i = subst (λ (z : ℕ). 32 ≤ z) (sym at_here) (place_above places (length r.taken + length r.inside) k) in
      let high : i < length s.words = subst (λ (z : ℕ). z < length s.words) (sym at_here) (subst (λ (z : ℕ). place places (length r.taken + length r.inside) k < z) (sym wide) (place_below places (length r.taken + length r.inside) k some_place few)) in
      let fewer : length r.inside < places = omega arith in
      let mine : WriterKnows script places r.taken r.inside now r.parted r.writer id w = record {
        begun = p.begun;
        mine = p.mine;
        scripted = p.scripted;
        sized = p.sized;
        all = p.all;
        saw = p.saw;
        wrote = refl;
        heard = p.heard;
      } in record {
        taken = r.taken;
        inside = r.inside;
        stored = now;
        parted = r.parted;
        writer = r.writer;
        reader = r.reader;
        some_place = r.some_place;
        wide = length-set s.words i b ∙ r.wide;
        head_is = get_or-set_other s.words i 0 b 0 (λ e. omega arith) ∙ r.head_is;
        tail_is = get_or-set_other s.words i 16 b 0 (λ e. omega arith) ∙ r.tail_is;
        room = r.room;
        few = r.few;
        carried = r.carried;
        good = r.good;
        spelt = λ j n e c l. get_or-set_other s.words i (place places (length r.taken + j) c) b 0
            (λ same. apart places (length r.taken + j) (length r.taken + length r.inside) c k
            (λ turn. let inside_j : j < length r.inside = within r.inside j n e in let one = one_turn (length r.taken + j) (length r.taken + length r.inside) places (omega arith) (omega arith) turn in omega arith) l few (same ∙ at_here))
            ∙ r.spelt j n e c l;
        short = omega arith;
        free = λ _. fewer;
        next = λ c l. dite (ℕ_discrete c k)
            (λ e. ap (λ (z : ℕ). get_or (set s.words i b) z 0) (ap (place places (length r.taken + length r.inside)) e ∙ sym at_here) ∙ (get_or-set_same s.words i b 0 high ∙ (sym last ∙ ap (λ (z : ℕ). get_or now z 0) (sym e))))
            (λ ne. let first : c < k = omega arith in
            get_or-set_other s.words i (place places (length r.taken + length r.inside) c) b 0
            (λ same. let x : ℕ = (length r.taken + length r.inside) % places in let same' : 32 + 5 * x + c ≡ 32 + 5 * x + k = same ∙ at_here in ne (omega arith))
            ∙ (r.next c (omega arith) ∙ (ap (λ l. get_or l c 0) (sym p.wrote) ∙ sym (before c first))));
        each_seat = seats_stay (Knows words script places r.taken r.inside now r.parted r.writer r.reader) s.views id w (subst (KnowsAs words script places r.taken r.inside now r.parted r.writer r.reader id w) (sym is) mine)
            (λ j v other e. beside_writer words script places r.taken r.inside r.inside r.stored now r.parted r.writer r.reader j (λ same. other (same ∙ sym p.mine)) (prefix_self (r.taken ++ r.inside)) (le_refl _) p.begun (λ n first _. first) v v.kind
            (r.each_seat j v e));
      }

  pub finds : (slots id : ℕ) (m : M) (k i : ℕ) → m.0.kind ≡ Writing → length m.0.words ≡ k → k < 5 → length m.0.notes < m.0.seen + m.0.places → i ≡ place m.0.places (length m.0.notes) k
      → Allows Rule slots id m i (λ x. x) (Peeks (step slots i 0 0 none) m)
  finds slots id m k i is long few room here s r _ at _ =
      let b : ℕ = get_or s.words i 0 in let now : List ℕ = m.0.words ++ b ∷ [] in
      let longer_now : length now ≡ k + 1 = length-append m.0.words (b ∷ []) ∙ ap (λ (z : ℕ). z + 1) long in (
        record m.0 { words = now },
        keeps,
        tt,
        pens s r id m k i b now at is few room here (omega arith) longer_now (λ c l. index_snoc_before m.0.words b c (omega arith)) (index_snoc_last m.0.words b k (sym long)),
        refl,
      )

  pub puts : (slots id : ℕ) (m : M) (k i b : ℕ) → m.0.kind ≡ Writing → length m.0.words ≡ k + 1 → k < 5 → length m.0.notes < m.0.seen + m.0.places → i ≡ place m.0.places (length m.0.notes) k
      → Allows Rule slots id m i (λ _. b) (λ _. Puts (step slots i b 0 none) m b)
  puts slots id m k i b is long few room here s r _ at _ =
      let now : List ℕ = set m.0.words (length m.0.words - 1) b in let at_k : length m.0.words - 1 ≡ k = omega arith in (
        record m.0 { words = now },
        keeps,
        tt,
        pens s r id m k i b now at is few room here (omega arith) (length-set m.0.words (length m.0.words - 1) b ∙ long) (λ c l. get_or-set_other m.0.words (length m.0.words - 1) c b 0 (λ e. omega arith))
            (ap (λ (z : ℕ). get_or now z 0) (sym at_k) ∙ get_or-set_same m.0.words (length m.0.words - 1) b 0 (omega arith)),
        refl,
      )

  pub posts : (slots id : ℕ) (m : M) (n : N) (new : ℕ) → m.0.kind ≡ Writing → words n ≡ m.0.words → length m.0.words ≡ 5 → m.0.subject ≡ Some script → fits script n → carry script (m.0.notes ++ n ∷ [])
      → new ≡ length m.0.notes + 1 → new ≤ 2 ^ 63 → Allows Rule slots id m 16 (λ _. new) (λ _. Sends words fits (step slots 16 new 0 none) m new)
  posts slots id m n new is spell long scripted fit carried up enough s r _ at _ =
      let p : WriterKnows script places r.taken r.inside r.stored r.parted r.writer id m.0 = knows seats s r id m.0 Writing at is in
      let w : View' = record m.0 { notes = m.0.notes ++ n ∷ []; words = [] } in let now : List N = r.inside ++ n ∷ [] in
      let all : length m.0.notes ≡ length r.taken + length r.inside = ap length p.all ∙ sent_length s r in
      let wide = r.wide in let some_place = r.some_place in
      let kept : length r.stored ≡ 5 = ap length (sym p.wrote) ∙ long in
      let five : length (words n) ≡ 5 = ap length spell ∙ long in
      let fewer : length r.inside < places = r.free (omega arith) in
      let longer_now : length now ≡ length r.inside + 1 = length-append r.inside (n ∷ []) in
      let regroup : m.0.notes ++ n ∷ [] ≡ r.taken ++ now = ap (λ l. l ++ n ∷ []) p.all ∙ append_assoc r.taken r.inside (n ∷ []) in
      let mine : WriterKnows script places r.taken now [] r.parted r.writer id w = record {
        begun = p.begun;
        mine = p.mine;
        scripted = p.scripted;
        sized = p.sized;
        all = regroup;
        saw = p.saw;
        wrote = refl;
        heard = p.heard;
      } in (
        w,
        keeps,
        tt,
        record {
          taken = r.taken;
          inside = now;
          stored = [];
          parted = r.parted;
          writer = r.writer;
          reader = r.reader;
          some_place = r.some_place;
          wide = length-set s.words 16 new ∙ r.wide;
          head_is = get_or-set_other s.words 16 0 new 0 (λ e. omega arith) ∙ r.head_is;
          tail_is = get_or-set_same s.words 16 new 0 (omega arith) ∙ omega arith;
          room = omega arith;
          few = omega arith;
          carried = subst (carry script) regroup carried;
          good = λ j x e. ⊎_elim (λ (t : get_elem? r.inside j ≡ some x). r.good j x t) (λ (t : (j ≡ length r.inside) × (n ≡ x)). subst (λ (y : N). fits script y × (length (words y) ≡ 5)) t.1 (fit, five)) (at_snoc r.inside n x j e);
          spelt = λ j x e c l. get_or-set_other s.words 16 (place places (length r.taken + j) c) new 0 (λ same. let a = place_above places (length r.taken + j) c in omega arith)
              ∙ ⊎_elim (λ (t : get_elem? r.inside j ≡ some x). r.spelt j x t c l)
              (λ (t : (j ≡ length r.inside) × (n ≡ x)). ap (λ (z : ℕ). get_or s.words (place places (length r.taken + z) c) 0) t.0 ∙ (r.next c (omega arith) ∙ ap (λ z. get_or z c 0) (sym p.wrote ∙ (sym spell ∙ ap words t.1))))
              (at_snoc r.inside n x j e);
          short = omega arith;
          free = λ z. absurd (omega arith);
          next = λ c z. absurd (omega arith);
          each_seat = seats_stay (Knows words script places r.taken now [] r.parted r.writer r.reader) s.views id w (subst (KnowsAs words script places r.taken now [] r.parted r.writer r.reader id w) (sym is) mine)
              (λ j v other e. beside_writer words script places r.taken r.inside now r.stored [] r.parted r.writer r.reader j (λ same. other (same ∙ sym p.mine)) (n ∷ [], append_assoc r.taken r.inside (n ∷ [])) (omega arith) p.begun
              (λ x first some_inside. first_of_longer r.inside n x some_inside first) v v.kind (r.each_seat j v e));
        },
        (n, (script, scripted, fit), spell, refl),
      )

  pub looks_tail : (slots id : ℕ) (m : M) → m.0.kind ≡ Reading → Allows Rule slots id m 16 (λ x. x) (LooksAtTail (step slots 16 0 0 none) m)
  looks_tail slots id m is s r _ at _ =
      let p : ReaderKnows words script places r.taken r.inside r.parted r.reader id m.0 = knows seats s r id m.0 Reading at is in
      let h : ℕ = get_or s.words 16 0 in let hi : h ≡ length r.taken + length r.inside = r.tail_is in
      let counted = counts_none h (length m.0.notes) m.0.looks in let w : View' = record m.0 { seen = h; looks = counted.0 } in
      let all : length m.0.notes ≡ length r.taken = ap length p.all in
      let saw = p.saw in let room = r.room in let sized = p.sized in
      let heard : length m.0.told ≤ length r.taken + length r.inside = subst (λ (z : ℕ). length m.0.told ≤ z) (sent_length s r) (prefix_length m.0.told (r.taken ++ r.inside) p.heard) in
      let mine : ReaderKnows words script places r.taken r.inside r.parted r.reader id w = record {
        begun = p.begun;
        mine = p.mine;
        scripted = p.scripted;
        sized = p.sized;
        all = p.all;
        saw = omega arith;
        short = p.short;
        ahead = λ l. let a = p.ahead l in omega arith;
        read = p.read;
        heard = p.heard;
      } in (
        w,
        keeps,
        tt,
        unmoved seats s r 16 id m.1 w (subst (SaysAs s r id w) (sym is) mine),
        (refl, counted.1, omega arith, omega arith, omega arith, omega (arith, r.few), omega arith, both_begin m.0.notes m.0.told (r.taken ++ r.inside) (r.inside, ap (λ l. l ++ r.inside) p.all) p.heard),
      )

  -- the next note, where the reader has seen that there is one
  ahead_is : (s : St) (r : Rule s) (id : ℕ) (v : View') → ReaderKnows words script places r.taken r.inside r.parted r.reader id v → length v.notes < v.seen → 0 < length r.inside
  ahead_is s r id v p ahead = let saw = p.saw in let all : length v.notes ≡ length r.taken = ap length p.all in omega arith

  pub peeks : (slots id : ℕ) (m : M) (k i : ℕ) → m.0.kind ≡ Reading → length m.0.words ≡ k → k < 5 → length m.0.notes < m.0.seen → i ≡ place m.0.places (length m.0.notes) k
      → Allows Rule slots id m i (λ x. x) (Peeks (step slots i 0 0 none) m)
  peeks slots id m k i is long few ahead here s r _ at _ =
      let p : ReaderKnows words script places r.taken r.inside r.parted r.reader id m.0 = knows seats s r id m.0 Reading at is in
      let b : ℕ = get_or s.words i 0 in
      let w : View' = record m.0 { words = m.0.words ++ b ∷ [] } in
      let all : length m.0.notes ≡ length r.taken = ap length p.all in let sized = p.sized in
      let some_inside : 0 < length r.inside = ahead_is s r id m.0 p ahead in
      let all_here : length m.0.notes ≡ length r.taken + 0 = omega arith in
      let at_here : i ≡ place places (length r.taken + 0) k = here ∙ (λ j. place (sized j) (all_here j) k) in
      let longer_now : length (m.0.words ++ b ∷ []) ≡ k + 1 = length-append m.0.words (b ∷ []) ∙ ap (λ (z : ℕ). z + 1) long in
      let mine : ReaderKnows words script places r.taken r.inside r.parted r.reader id w = record {
        begun = p.begun;
        mine = p.mine;
        scripted = p.scripted;
        sized = p.sized;
        all = p.all;
        saw = p.saw;
        short = omega arith;
        ahead = λ _. omega arith;
        read = λ n e c l. dite (ℕ_discrete c k)
            (λ same. index_snoc_last m.0.words b c (same ∙ sym long) ∙ (ap (λ (z : ℕ). get_or s.words z 0) at_here ∙ (r.spelt 0 n e k few ∙ ap (λ (z : ℕ). get_or (words n) z 0) (sym same))))
            (λ ne. let before : c < length m.0.words = omega arith in index_snoc_before m.0.words b c before ∙ p.read n e c before);
        heard = p.heard;
      } in (
        w,
        keeps,
        tt,
        unmoved seats s r i id m.1 w (subst (SaysAs s r id w) (sym is) mine),
        refl,
      )

  pub takes_note : (slots id : ℕ) (m : M) (new : ℕ) → m.0.kind ≡ Reading → length m.0.words ≡ 5 → m.0.subject ≡ Some script → length m.0.notes < m.0.seen → new ≡ length m.0.notes + 1
      → Allows Rule slots id m 0 (λ _. new) (λ _. Takes words fits carry (step slots 0 new 0 none) m new)
  takes_note slots id m new is long scripted ahead up s r _ at _ =
      let p : ReaderKnows words script places r.taken r.inside r.parted r.reader id m.0 = knows seats s r id m.0 Reading at is in
      let all : length m.0.notes ≡ length r.taken = ap length p.all in let wide = r.wide in let some_place = r.some_place in let room = r.room in
      let there = first_there r.inside (ahead_is s r id m.0 p ahead) in let n : N = there.0 in let rest : List N = there.1 in let split : r.inside ≡ n ∷ rest = there.2 in
      let here : get_elem? r.inside 0 ≡ some n = ap (λ l. get_elem? l 0) split in
      let known = r.good 0 n here in let five : length (words n) ≡ 5 = known.1 in
      let spell : words n ≡ m.0.words = same_list (words n) m.0.words (five ∙ sym long) (λ k l. sym (p.read n here k (omega arith))) in
      let one_less : length r.inside ≡ length rest + 1 = ap length split ∙ omega arith in
      let now : List N = r.taken ++ n ∷ [] in
      let longer_now : length now ≡ length r.taken + 1 = length-append r.taken (n ∷ []) in
      let same : r.taken ++ r.inside ≡ now ++ rest = ap (λ l. r.taken ++ l) split ∙ sym (append_assoc r.taken (n ∷ []) rest) in
      let mine_is : m.0.notes ++ n ∷ [] ≡ now = ap (λ l. l ++ n ∷ []) p.all in
      let w : View' = record m.0 { notes = m.0.notes ++ n ∷ []; words = [] } in
      let later : (j : ℕ) (x : N) → get_elem? rest j ≡ some x → get_elem? r.inside (suc j) ≡ some x = λ j x e. ap (λ l. get_elem? l (suc j)) split ∙ e in
      let shifted : (j : ℕ) → length now + j ≡ length r.taken + suc j = λ j. omega arith in
      let mine : ReaderKnows words script places now rest r.parted r.reader id w = record {
        begun = p.begun;
        mine = p.mine;
        scripted = p.scripted;
        sized = p.sized;
        all = mine_is;
        saw = let saw = p.saw in omega arith;
        short = omega arith;
        ahead = λ z. absurd (omega arith);
        read = λ x e c z. absurd (omega arith);
        heard = (p.heard.0, p.heard.1 ∙ same);
      } in (
        w,
        keeps,
        tt,
        record {
          taken = now;
          inside = rest;
          stored = r.stored;
          parted = r.parted;
          writer = r.writer;
          reader = r.reader;
          some_place = r.some_place;
          wide = length-set s.words 0 new ∙ r.wide;
          head_is = get_or-set_same s.words 0 new 0 (omega arith) ∙ omega arith;
          tail_is = get_or-set_other s.words 0 16 new 0 (λ e. omega arith) ∙ (r.tail_is ∙ omega arith);
          room = omega arith;
          few = omega (arith, r.few);
          carried = subst (carry script) same r.carried;
          good = λ j x e. r.good (suc j) x (later j x e);
          spelt = λ j x e c l. get_or-set_other s.words 0 (place places (length now + j) c) new 0 (λ h. let a = place_above places (length now + j) c in omega arith)
              ∙ (ap (λ (z : ℕ). get_or s.words (place places z c) 0) (shifted j) ∙ r.spelt (suc j) x (later j x e) c l);
          short = r.short;
          free = λ z. let f = r.free z in omega arith;
          next = λ c l. get_or-set_other s.words 0 (place places (length now + length rest) c) new 0 (λ h. let a = place_above places (length now + length rest) c in omega arith)
              ∙ (ap (λ (z : ℕ). get_or s.words (place places z c) 0) (omega arith) ∙ r.next c l);
          each_seat = seats_stay (Knows words script places now rest r.stored r.parted r.writer r.reader) s.views id w (subst (KnowsAs words script places now rest r.stored r.parted r.writer r.reader id w) (sym is) mine)
              (λ j v other e. beside_reader words script places r.taken now r.inside rest r.stored r.parted r.writer r.reader j (λ h. other (h ∙ sym p.mine)) same (n ∷ [], refl) p.begun v v.kind (r.each_seat j v e));
        },
        (
          n,
          rest,
          (script, scripted, (known.0, subst (carry script) (same ∙ (ap (λ l. l ++ rest) (sym mine_is) ∙ append_assoc m.0.notes (n ∷ []) rest)) r.carried)),
          spell,
          both_begin (m.0.notes ++ n ∷ []) m.0.told (now ++ rest) (rest, ap (λ l. l ++ rest) mine_is) (p.heard.0, p.heard.1 ∙ same),
          refl,
        ),
      )

  pub starts : (ws : List ℕ) → 0 < places → length ws ≡ words_of_ring places → ((i : ℕ) → get_or ws i 0 ≡ 0) → carry script [] → Rule (opening ws [] (first script places))
  starts ws some_place wide blank carried = record {
    taken = [];
    inside = [];
    stored = [];
    parted = 0;
    writer = 0;
    reader = 0;
    some_place = some_place;
    wide = wide;
    head_is = blank 0;
    tail_is = blank 16;
    room = omega arith;
    few = omega arith;
    carried = carried;
    good = λ i n e. absurd (some-ne-none n (sym e));
    spelt = λ i n e. absurd (some-ne-none n (sym e));
    short = omega arith;
    free = λ z. absurd (omega arith);
    next = λ k z. absurd (omega arith);
    each_seat = only;
  }
    where
      only : (j : ℕ) (v : View') → get_elem? (first script places ∷ []) j ≡ some v → Knows words script places [] [] [] 0 0 0 j v
      only zero v e = subst (Knows words script places [] [] [] 0 0 0 0) (some-injective _ _ e) record { unbegun = refl; mine = refl; scripted = refl; sized = refl; notes = refl; seen = refl; words = refl; told = refl; taken_none = refl; inside_none = refl; stored_none = refl }
      only (suc j) v e = absurd (some-ne-none v (sym e))

  -- before the ring has begun, no seat but the first knows anything
  begins_alone : (s : St) (r : Rule s) (j reader : ℕ) → r.parted ≡ 0 → j ≢ r.writer → (v : View') (k : Kind) → SaysAs s r j v k → KnowsAs words script places r.taken r.inside r.stored 1 r.writer reader j v k
  begins_alone s r j reader unbegun other v Spent h = tt
  begins_alone s r j reader unbegun other v First h = absurd (other h.mine)
  begins_alone s r j reader unbegun other v Writing h = let e = h.begun in absurd (omega arith)
  begins_alone s r j reader unbegun other v Reading h = let e = h.begun in absurd (omega arith)
  begins_alone s r j reader unbegun other v SentCopy h = h
  begins_alone s r j reader unbegun other v TakenCopy h = h

  pub parts : (id : ℕ) (v : View') → v.kind ≡ First → Splits Rule id v (writing v) (reading v)
  parts id v is s r at = let p : FirstKnows script places r.taken r.inside r.stored r.parted r.writer id v = knows seats s r id v First at is in
      let n : ℕ = length (set s.views id (writing v)) in let K = Knows words script places r.taken r.inside r.stored 1 r.writer n in
      let pen : WriterKnows script places r.taken r.inside r.stored 1 r.writer id (writing v) = record {
        begun = refl;
        mine = p.mine;
        scripted = p.scripted;
        sized = p.sized;
        all = p.notes ∙ sym (λ i. p.taken_none i ++ p.inside_none i);
        saw = let e = p.seen in omega arith;
        wrote = p.words ∙ sym p.stored_none;
        heard = (r.taken, ap (λ l. l ++ r.taken) p.told);
      } in
      let none_read : length v.words ≡ 0 = ap length p.words in
      let eye : ReaderKnows words script places r.taken r.inside 1 n n (reading v) = record {
        begun = refl;
        mine = refl;
        scripted = p.scripted;
        sized = p.sized;
        all = p.notes ∙ sym p.taken_none;
        saw = let e = p.seen in omega arith;
        short = omega arith;
        ahead = λ z. absurd (omega arith);
        read = λ x e k z. absurd (omega arith);
        heard = (r.taken ++ r.inside, ap (λ l. l ++ (r.taken ++ r.inside)) p.told);
      } in record {
        taken = r.taken;
        inside = r.inside;
        stored = r.stored;
        parted = 1;
        writer = r.writer;
        reader = n;
        some_place = r.some_place;
        wide = r.wide;
        head_is = r.head_is;
        tail_is = r.tail_is;
        room = r.room;
        few = r.few;
        carried = r.carried;
        good = r.good;
        spelt = r.spelt;
        short = r.short;
        free = r.free;
        next = r.next;
        each_seat = seats_more K (set s.views id (writing v)) (reading v) eye
            (seats_stay K s.views id (writing v) pen (λ j x other there. begins_alone s r j n p.unbegun (λ h. other (h ∙ sym p.mine)) x x.kind (r.each_seat j x there)));
      }

  pub copies_sent : (id : ℕ) (v : View') → v.kind ≡ Writing → Splits Rule id v v (copied v)
  copies_sent id v is s r at = let p : WriterKnows script places r.taken r.inside r.stored r.parted r.writer id v = knows seats s r id v Writing at is in
      split_off seats s r id v (copied v) at (λ j. subst (λ k. SaysAs s r j (copied v) (copy_of k)) (sym is) ([], append-nil v.notes ∙ p.all))

  pub copies_taken : (id : ℕ) (v : View') → v.kind ≡ Reading → Splits Rule id v v (copied v)
  copies_taken id v is s r at = let p : ReaderKnows words script places r.taken r.inside r.parted r.reader id v = knows seats s r id v Reading at is in
      split_off seats s r id v (copied v) at (λ j. subst (λ k. SaysAs s r j (copied v) (copy_of k)) (sym is) ([], append-nil v.notes ∙ p.all))

  pub told_sent : (id : ℕ) (v : View') (other : ℕ) (w : View') → v.kind ≡ Reading → w.kind ≡ SentCopy → Joins Rule id v other w (told v w) spent
  told_sent id v other w is copy s r at not_me there = let p : ReaderKnows words script places r.taken r.inside r.parted r.reader id v = knows seats s r id v Reading at is in
      let heard : IsPrefix w.notes (r.taken ++ r.inside) = knows seats s r other w SentCopy (other_at s.views id other (told v w) w not_me there) copy in
      let mine : ReaderKnows words script places r.taken r.inside r.parted r.reader id (told v w) = record {
        begun = p.begun;
        mine = p.mine;
        scripted = p.scripted;
        sized = p.sized;
        all = p.all;
        saw = p.saw;
        short = p.short;
        ahead = p.ahead;
        read = p.read;
        heard = heard;
      } in join_in seats s r id other (told v w) spent (subst (SaysAs s r id (told v w)) (sym is) mine) tt

  pub told_taken : (id : ℕ) (v : View') (other : ℕ) (w : View') → v.kind ≡ Writing → w.kind ≡ TakenCopy → Joins Rule id v other w (told v w) spent
  told_taken id v other w is copy s r at not_me there = let p : WriterKnows script places r.taken r.inside r.stored r.parted r.writer id v = knows seats s r id v Writing at is in
      let heard : IsPrefix w.notes r.taken = knows seats s r other w TakenCopy (other_at s.views id other (told v w) w not_me there) copy in
      let mine : WriterKnows script places r.taken r.inside r.stored r.parted r.writer id (told v w) = record {
        begun = p.begun;
        mine = p.mine;
        scripted = p.scripted;
        sized = p.sized;
        all = p.all;
        saw = p.saw;
        wrote = p.wrote;
        heard = heard;
      } in join_in seats s r id other (told v w) spent (subst (SaysAs s r id (told v w)) (sym is) mine) tt
