-- The rule of a row stays at each step, and where seats are split and joined.
use Rattle.std.proofs.Common.{◌≡◌, ◌≢◌, ℕ, zero, suc, ◌+◌, ◌*◌, ◌<◌, List, [], ◌∷◌, ◌++◌, length, get_or, set, sym, refl, ap, ◌∙◌, subst, ⊎_elim, arith, Some, length-set, length-append, get_or-set_other, get_or-set_same, append_assoc, append-nil}
use mathlib.Core.List.{IsPrefix}
use mathlib.Core.Logic.{dite}
use mathlib.Core.Option.{none, some, some-injective, some-ne-none}
use native.Mathlib.Decide.{ℕ_discrete}
use lib.ListN.{get_elem?}
use Rattle.atomic_table.specs.Table.{State, Me, step, keeps, Allows, Splits, Joins, opening}
use Rattle.term_ring.specs.Views.{told, Sends, Peeks}
use Rattle.term_ring.proofs.Seats.{SaysOfSeats, seats_stay, other_at, knows, unmoved, split_off, join_in}
use Rattle.term_ring.proofs.Lists.{prefix_trans, prefix_more, prefix_length, both_begin, at_snoc, first_there, within, index_snoc_before, index_snoc_last, same_list}
use Rattle.term_ring.specs.declared.view.View.{View}
use Rattle.quotient_row.specs.declared.kind.Kind.{Kind}
use Rattle.quotient_row.specs.declared.kind.Kind.TheVariants.{Spent, Publishing, Looking, Copied}
use Rattle.quotient_row.specs.Rule.{place, WriterKnows, ReaderKnows, KnowsAs, Knows, IsRow}
use Rattle.quotient_row.specs.Steps.{first, spent, fresh, copied, Puts, Checks, LooksAtCount, Learns}

module _ {A : Type 0} where
  -- the element after a beginning
  at_split : (xs rest : List A) (a : A) → get_elem? (xs ++ a ∷ rest) (length xs) ≡ some a
  at_split [] rest a = refl
  at_split (x ∷ xs) rest a = at_split xs rest a

  -- an element that was there is still the same
  same_at : (xs ys : List A) (i : ℕ) (a : A) → i < length xs → get_elem? (xs ++ ys) i ≡ some a → get_elem? xs i ≡ some a
  same_at [] ys i a l e = absurd (omega arith)
  same_at (x ∷ xs) ys zero a l e = e
  same_at (x ∷ xs) ys (suc i) a l e = same_at xs ys i a (omega arith) e

module _ {N C : Type 0} (words : N → List ℕ) (name : C) (places : ℕ) where
  abbrev V : Type 0
  V = View Kind N C

  -- what another seat knows stays, where the writer has published more
  beside_writer : (notes more : List N) (stored stored' : List ℕ) (writer j : ℕ) → j ≢ writer → (v : V) (k : Kind)
      → KnowsAs words name places notes stored writer j v k → KnowsAs words name places (notes ++ more) stored' writer j v k
  beside_writer notes more stored stored' writer j other v Publishing h = absurd (other h.mine)
  beside_writer notes more stored stored' writer j other v Looking h = let saw = h.saw in let grown = length-append notes more in record {
    named = h.named;
    sized = h.sized;
    some_of = prefix_trans _ _ _ h.some_of (prefix_more notes more);
    saw = omega arith;
    ahead = h.ahead;
    read = λ n e k l. let a = h.ahead (omega arith) in h.read n (same_at notes more (length v.notes) n (omega arith) e) k l;
    heard = prefix_trans _ _ _ h.heard (prefix_more notes more);
  }
  beside_writer notes more stored stored' writer j other v Copied h = prefix_trans _ _ _ h (prefix_more notes more)
  beside_writer notes more stored stored' writer j other v Spent h = tt

-- the table has no slots
abbrev S : Type 0
S = Unit {0}

module _ {N C : Type 0} (words : N → List ℕ) (fits : C → N → Type 0) (legal : C → List N → Type 0) (name : C) (places : ℕ) where
  abbrev View' : Type 0
  View' = View Kind N C

  abbrev St : Type 0
  St = State S View'

  abbrev M : Type 0
  M = Me S View'

  abbrev Rule : St → Type 0
  Rule = IsRow words fits legal name places

  -- what the rule says of a seat with this view, where it is of this kind
  abbrev SaysAs : (s : St) → Rule s → ℕ → View' → Kind → Type 0
  SaysAs s r = KnowsAs words name places r.notes r.stored r.writer

  seats : SaysOfSeats Rule (λ (v : View'). v.kind) SaysAs
  seats = record {
    each = λ s r. r.each_seat;
    reseated = λ s r views all. record {
      notes = r.notes;
      stored = r.stored;
      writer = r.writer;
      wide = r.wide;
      count_is = r.count_is;
      room = r.room;
      lawful = r.lawful;
      good = r.good;
      spelt = r.spelt;
      free = r.free;
      next = r.next;
      each_seat = all;
    };
  }

  pub puts : (slots id : ℕ) (m : M) (k i b : ℕ) → m.0.kind ≡ Publishing → length m.0.words ≡ k → k < 5 → length m.0.notes < m.0.places → i ≡ place (length m.0.notes) k
      → Allows Rule slots id m i (λ _. b) (λ _. Puts (step slots i b 0 none) m b)
  puts slots id m k i b is long few room here s r _ at _ =
      let p : WriterKnows name places r.notes r.stored r.writer id m.0 = knows seats s r id m.0 Publishing at is in
      let w : View' = record m.0 { words = m.0.words ++ b ∷ [] } in let now : List ℕ = r.stored ++ b ∷ [] in
      let all : length m.0.notes ≡ length r.notes = ap length p.all in let sized = p.sized in let wide = r.wide in
      let kept : length r.stored ≡ k = ap length (sym p.wrote) ∙ long in
      let at_here : i ≡ place (length r.notes) k = here ∙ (λ j. place (all j) k) in
      let high : i < length s.words = omega arith in
      let longer_now : length now ≡ k + 1 = length-append r.stored (b ∷ []) ∙ ap (λ (z : ℕ). z + 1) kept in
      let mine : WriterKnows name places r.notes now r.writer id w = record {
        mine = p.mine;
        named = p.named;
        sized = p.sized;
        all = p.all;
        wrote = ap (λ l. l ++ b ∷ []) p.wrote;
        heard = p.heard;
      } in (
        w,
        keeps,
        tt,
        record {
          notes = r.notes;
          stored = now;
          writer = r.writer;
          wide = length-set s.words i b ∙ r.wide;
          count_is = get_or-set_other s.words i 0 b 0 (λ e. omega arith) ∙ r.count_is;
          room = r.room;
          lawful = r.lawful;
          good = r.good;
          spelt = λ j n e c l. get_or-set_other s.words i (place j c) b 0 (λ same. let inside : j < length r.notes = within r.notes j n e in omega arith) ∙ r.spelt j n e c l;
          free = λ _. omega arith;
          next = λ c l. dite (ℕ_discrete c k)
              (λ e. ap (λ (z : ℕ). get_or (set s.words i b) z 0) (ap (place (length r.notes)) e ∙ sym at_here) ∙ (get_or-set_same s.words i b 0 high ∙ sym (index_snoc_last r.stored b c (e ∙ sym kept))))
              (λ ne. let before : c < length r.stored = omega arith in get_or-set_other s.words i (place (length r.notes) c) b 0 (λ same. ne (omega arith)) ∙ (r.next c before ∙ sym (index_snoc_before r.stored b c before)));
          each_seat = seats_stay (Knows words name places r.notes now r.writer) s.views id w (subst (KnowsAs words name places r.notes now r.writer id w) (sym is) mine)
              (λ j v other e. subst (λ l. KnowsAs words name places l now r.writer j v v.kind) (append-nil r.notes) (beside_writer words name places r.notes [] r.stored now r.writer j (λ same. other (same ∙ sym p.mine)) v v.kind (r.each_seat j v e)));
        },
        refl,
      )

  pub publishes : (slots id : ℕ) (m : M) (n : N) (new : ℕ) → m.0.kind ≡ Publishing → words n ≡ m.0.words → length m.0.words ≡ 5 → m.0.subject ≡ Some name → fits name n → legal name (m.0.notes ++ n ∷ [])
      → new ≡ length m.0.notes + 1 → Allows Rule slots id m 0 (λ _. new) (λ _. Sends words fits (step slots 0 new 0 none) m new)
  publishes slots id m n new is spell long named fit lawful up s r _ at _ =
      let p : WriterKnows name places r.notes r.stored r.writer id m.0 = knows seats s r id m.0 Publishing at is in
      let w : View' = record m.0 { notes = m.0.notes ++ n ∷ []; words = [] } in let now : List N = r.notes ++ n ∷ [] in
      let all : length m.0.notes ≡ length r.notes = ap length p.all in let wide = r.wide in
      let kept : length r.stored ≡ 5 = ap length (sym p.wrote) ∙ long in
      let five : length (words n) ≡ 5 = ap length spell ∙ long in
      let fewer : length r.notes < places = r.free (omega arith) in
      let longer_now : length now ≡ length r.notes + 1 = length-append r.notes (n ∷ []) in
      let same : m.0.notes ++ n ∷ [] ≡ now = ap (λ l. l ++ n ∷ []) p.all in
      let mine : WriterKnows name places now [] r.writer id w = record {
        mine = p.mine;
        named = p.named;
        sized = p.sized;
        all = same;
        wrote = refl;
        heard = prefix_trans _ _ _ p.heard (prefix_more r.notes (n ∷ []));
      } in (
        w,
        keeps,
        tt,
        record {
          notes = now;
          stored = [];
          writer = r.writer;
          wide = length-set s.words 0 new ∙ r.wide;
          count_is = get_or-set_same s.words 0 new 0 (omega arith) ∙ omega arith;
          room = omega arith;
          lawful = subst (legal name) same lawful;
          good = λ j x e. ⊎_elim (λ (t : get_elem? r.notes j ≡ some x). r.good j x t) (λ (t : (j ≡ length r.notes) × (n ≡ x)). subst (λ (y : N). fits name y × (length (words y) ≡ 5)) t.1 (fit, five)) (at_snoc r.notes n x j e);
          spelt = λ j x e c l. get_or-set_other s.words 0 (place j c) new 0 (λ h. omega arith)
              ∙ ⊎_elim (λ (t : get_elem? r.notes j ≡ some x). r.spelt j x t c l)
              (λ (t : (j ≡ length r.notes) × (n ≡ x)). ap (λ (z : ℕ). get_or s.words (place z c) 0) t.0 ∙ (r.next c (omega arith) ∙ ap (λ z. get_or z c 0) (sym p.wrote ∙ (sym spell ∙ ap words t.1))))
              (at_snoc r.notes n x j e);
          free = λ z. absurd (omega arith);
          next = λ c z. absurd (omega arith);
          each_seat = seats_stay (Knows words name places now [] r.writer) s.views id w (subst (KnowsAs words name places now [] r.writer id w) (sym is) mine)
              (λ j v other e. beside_writer words name places r.notes (n ∷ []) r.stored [] r.writer j (λ h. other (h ∙ sym p.mine)) v v.kind (r.each_seat j v e));
        },
        (n, (name, named, fit), spell, refl),
      )

  pub looks_count : (slots id : ℕ) (m : M) → m.0.kind ≡ Looking → Allows Rule slots id m 0 (λ x. x) (LooksAtCount (step slots 0 0 0 none) m)
  looks_count slots id m is s r _ at _ =
      let p : ReaderKnows words name places r.notes m.0 = knows seats s r id m.0 Looking at is in
      let h : ℕ = get_or s.words 0 0 in let hi : h ≡ length r.notes = r.count_is in
      let w : View' = record m.0 { seen = h; looks = m.0.looks + 1 } in
      let some_of = prefix_length m.0.notes r.notes p.some_of in let heard = prefix_length m.0.told r.notes p.heard in let saw = p.saw in let room = r.room in let sized = p.sized in
      let mine : ReaderKnows words name places r.notes w = record {
        named = p.named;
        sized = p.sized;
        some_of = p.some_of;
        saw = omega arith;
        ahead = λ l. let a = p.ahead l in omega arith;
        read = p.read;
        heard = p.heard;
      } in (
        w,
        keeps,
        tt,
        unmoved seats s r 0 id m.1 w (subst (SaysAs s r id w) (sym is) mine),
        (refl, omega arith, omega arith, omega arith, omega arith, both_begin m.0.notes m.0.told r.notes p.some_of p.heard),
      )

  pub looks_own : (slots id : ℕ) (m : M) → m.0.kind ≡ Publishing → Allows Rule slots id m 0 (λ x. x) (Checks (step slots 0 0 0 none) m)
  looks_own slots id m is s r _ at _ = let p : WriterKnows name places r.notes r.stored r.writer id m.0 = knows seats s r id m.0 Publishing at is in
      (m.0, keeps, tt, unmoved seats s r 0 id m.1 m.0 (r.each_seat id m.0 at), (refl, r.count_is ∙ ap length (sym p.all), subst (IsPrefix m.0.told) (sym p.all) p.heard))

  -- the next note of a reader that has seen that there is one
  next_is : (s : St) (r : Rule s) (v : View') → ReaderKnows words name places r.notes v → length v.notes < v.seen → (n : N) × (rest : List N) × (r.notes ≡ v.notes ++ n ∷ rest) × (get_elem? r.notes (length v.notes) ≡ some n)
  next_is s r v p ahead = let saw = p.saw in let after : List N = p.some_of.0 in let e : r.notes ≡ v.notes ++ after = sym p.some_of.1 in
      let some_after : 0 < length after = omega (arith, ap length e, length-append v.notes after) in let t = first_there after some_after in
      let split : r.notes ≡ v.notes ++ t.0 ∷ t.1 = e ∙ ap (λ l. v.notes ++ l) t.2 in (t.0, t.1, split, ap (λ l. get_elem? l (length v.notes)) split ∙ at_split v.notes t.1 t.0)

  -- one more word of the next note
  reads_on : (s : St) (r : Rule s) (v : View') (k i : ℕ) → ReaderKnows words name places r.notes v → length v.words ≡ k → k < 5 → i ≡ place (length v.notes) k
      → (n : N) → get_elem? r.notes (length v.notes) ≡ some n → (c : ℕ) → c < k + 1 → get_or (v.words ++ get_or s.words i 0 ∷ []) c 0 ≡ get_or (words n) c 0
  reads_on s r v k i p long few here n e c l = let b : ℕ = get_or s.words i 0 in dite (ℕ_discrete c k)
      (λ same. index_snoc_last v.words b c (same ∙ sym long) ∙ (ap (λ (z : ℕ). get_or s.words z 0) here ∙ (r.spelt (length v.notes) n e k few ∙ ap (λ (z : ℕ). get_or (words n) z 0) (sym same))))
      (λ ne. let before : c < length v.words = omega arith in index_snoc_before v.words b c before ∙ p.read n e c before)

  pub peeks : (slots id : ℕ) (m : M) (k i : ℕ) → m.0.kind ≡ Looking → length m.0.words ≡ k → k < 5 → length m.0.notes < m.0.seen → i ≡ place (length m.0.notes) k
      → Allows Rule slots id m i (λ x. x) (Peeks (step slots i 0 0 none) m)
  peeks slots id m k i is long few ahead here s r _ at _ =
      let p : ReaderKnows words name places r.notes m.0 = knows seats s r id m.0 Looking at is in
      let b : ℕ = get_or s.words i 0 in let w : View' = record m.0 { words = m.0.words ++ b ∷ [] } in
      let longer_now : length (m.0.words ++ b ∷ []) ≡ k + 1 = length-append m.0.words (b ∷ []) ∙ ap (λ (z : ℕ). z + 1) long in
      let mine : ReaderKnows words name places r.notes w = record {
        named = p.named;
        sized = p.sized;
        some_of = p.some_of;
        saw = p.saw;
        ahead = λ _. ahead;
        read = λ n e c l. reads_on s r m.0 k i p long few here n e c (omega arith);
        heard = p.heard;
      } in (w, keeps, tt, unmoved seats s r i id m.1 w (subst (SaysAs s r id w) (sym is) mine), refl)

  pub learns : (slots id : ℕ) (m : M) (i : ℕ) → m.0.kind ≡ Looking → length m.0.words ≡ 4 → m.0.subject ≡ Some name → length m.0.notes < m.0.seen → i ≡ place (length m.0.notes) 4
      → Allows Rule slots id m i (λ x. x) (Learns words fits legal (step slots i 0 0 none) m)
  learns slots id m i is long named ahead here s r _ at _ =
      let p : ReaderKnows words name places r.notes m.0 = knows seats s r id m.0 Looking at is in let b : ℕ = get_or s.words i 0 in
      let t = next_is s r m.0 p ahead in let n : N = t.0 in let rest : List N = t.1 in let split : r.notes ≡ m.0.notes ++ n ∷ rest = t.2 in let good = r.good (length m.0.notes) n t.3 in
      let bits : List ℕ = m.0.words ++ b ∷ [] in let longer_now : length bits ≡ 5 = length-append m.0.words (b ∷ []) ∙ ap (λ (z : ℕ). z + 1) long in let five : length (words n) ≡ 5 = good.1 in
      let spell : words n ≡ bits = same_list (words n) bits (five ∙ sym longer_now) (λ k l. sym (reads_on s r m.0 4 i p long (omega arith) here n t.3 k (omega arith))) in
      let now : List N = m.0.notes ++ n ∷ [] in let begun : IsPrefix now r.notes = (rest, append_assoc m.0.notes (n ∷ []) rest ∙ sym split) in
      let w : View' = record m.0 { notes = now; words = [] } in
      let mine : ReaderKnows words name places r.notes w = record {
        named = p.named;
        sized = p.sized;
        some_of = begun;
        saw = p.saw;
        ahead = λ z. absurd (omega arith);
        read = λ x e c z. absurd (omega arith);
        heard = p.heard;
      } in (
        w,
        keeps,
        tt,
        unmoved seats s r i id m.1 w (subst (SaysAs s r id w) (sym is) mine),
        (n, rest, (name, named, (good.0, subst (legal name) split r.lawful)), spell, both_begin now m.0.told r.notes begun p.heard, refl),
      )

  pub starts : (ws : List ℕ) → length ws ≡ 1 + 5 * places → get_or ws 0 0 ≡ 0 → legal name [] → Rule (opening ws [] (first name places))
  starts ws wide blank lawful = record {
    notes = [];
    stored = [];
    writer = 0;
    wide = wide;
    count_is = blank;
    room = omega arith;
    lawful = lawful;
    good = λ i n e. absurd (some-ne-none n (sym e));
    spelt = λ i n e. absurd (some-ne-none n (sym e));
    free = λ z. absurd (omega arith);
    next = λ k z. absurd (omega arith);
    each_seat = only;
  }
    where
      only : (j : ℕ) (v : View') → get_elem? (first name places ∷ []) j ≡ some v → Knows words name places [] [] 0 j v
      only zero v e = subst (Knows words name places [] [] 0 0) (some-injective _ _ e) record { mine = refl; named = refl; sized = refl; all = refl; wrote = refl; heard = ([], refl) }
      only (suc j) v e = absurd (some-ne-none v (sym e))

  pub new_reader : (id : ℕ) (v : View') → v.kind ≡ Publishing → Splits Rule id v v (fresh v)
  new_reader id v is s r at = let p : WriterKnows name places r.notes r.stored r.writer id v = knows seats s r id v Publishing at is in
      split_off seats s r id v (fresh v) at (λ j. record { named = p.named; sized = p.sized; some_of = (r.notes, refl); saw = omega arith; ahead = λ z. absurd (omega arith); read = λ x e c z. absurd (omega arith); heard = (r.notes, refl) })

  pub copies_published : (id : ℕ) (v : View') → v.kind ≡ Publishing → Splits Rule id v v (copied v)
  copies_published id v is s r at = let p : WriterKnows name places r.notes r.stored r.writer id v = knows seats s r id v Publishing at is in
      split_off seats s r id v (copied v) at (λ j. ([], append-nil v.notes ∙ p.all))

  pub copies_known : (id : ℕ) (v : View') → v.kind ≡ Looking → Splits Rule id v v (copied v)
  copies_known id v is s r at = let p : ReaderKnows words name places r.notes v = knows seats s r id v Looking at is in
      split_off seats s r id v (copied v) at (λ j. p.some_of)

  pub told_reader : (id : ℕ) (v : View') (other : ℕ) (w : View') → v.kind ≡ Looking → w.kind ≡ Copied → Joins Rule id v other w (told v w) spent
  told_reader id v other w is copy s r at not_me there = let p : ReaderKnows words name places r.notes v = knows seats s r id v Looking at is in
      let heard : IsPrefix w.notes r.notes = knows seats s r other w Copied (other_at s.views id other (told v w) w not_me there) copy in
      let mine : ReaderKnows words name places r.notes (told v w) = record { named = p.named; sized = p.sized; some_of = p.some_of; saw = p.saw; ahead = p.ahead; read = p.read; heard = heard } in
      join_in seats s r id other (told v w) spent (subst (SaysAs s r id (told v w)) (sym is) mine) tt

  pub told_writer : (id : ℕ) (v : View') (other : ℕ) (w : View') → v.kind ≡ Publishing → w.kind ≡ Copied → Joins Rule id v other w (told v w) spent
  told_writer id v other w is copy s r at not_me there = let p : WriterKnows name places r.notes r.stored r.writer id v = knows seats s r id v Publishing at is in
      let heard : IsPrefix w.notes r.notes = knows seats s r other w Copied (other_at s.views id other (told v w) w not_me there) copy in
      let mine : WriterKnows name places r.notes r.stored r.writer id (told v w) = record { mine = p.mine; named = p.named; sized = p.sized; all = p.all; wrote = p.wrote; heard = heard } in
      join_in seats s r id other (told v w) spent (subst (SaysAs s r id (told v w)) (sym is) mine) tt
