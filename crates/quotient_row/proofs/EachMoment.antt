-- The rule, said of the views of the writer and of a reader.
use Rattle.std.proofs.Common.{◌≡◌, ℕ, ◌<◌, List, length, get_or, sym, ap, ◌∙◌, subst, arith}
use mathlib.Core.List.{IsPrefix}
use mathlib.Core.Option.{some}
use lib.ListN.{get_elem?}
use Rattle.quotient_row.specs.Rule.{place, WriterKnows, ReaderKnows, KnowsAs}
use Rattle.quotient_row.specs.Moments.{AtEachMoment}

module _ {N C : Type 0} (words : N → List ℕ) (fits : C → N → Type 0) (legal : C → List N → Type 0) where
  pub at_each_moment : AtEachMoment words fits legal
  at_each_moment name places s k i j w r at_w is_w at_r is_r =
      let p : WriterKnows name places k.notes k.stored k.writer i w = subst (KnowsAs words name places k.notes k.stored k.writer i w) is_w (k.each_seat i w at_w) in
      let q : ReaderKnows words name places k.notes r = subst (KnowsAs words name places k.notes k.stored k.writer j r) is_r (k.each_seat j r at_r) in
      let all : length w.notes ≡ length k.notes = ap length p.all in
      let saw = q.saw in let count = k.count_is in let room = k.room in record {
        lawful = subst (legal name) (sym p.all) k.lawful;
        room = omega arith;
        count = count ∙ sym all;
        spelt = λ e n a. k.spelt e n (subst (λ z. get_elem? z e ≡ some n) p.all a);
        stored = λ c l. ap (λ (z : ℕ). get_or s.words (place z c) 0) all ∙ (k.next c (subst (λ z. c < length z) p.wrote l) ∙ ap (λ z. get_or z c 0) (sym p.wrote));
        stored_within = λ l. let f = k.free (subst (λ z. 0 < length z) p.wrote l) in omega arith;
        known = subst (IsPrefix r.notes) (sym p.all) q.some_of;
        count_seen = omega arith;
        read = λ n a. q.read n (subst (λ z. get_elem? z (length r.notes) ≡ some n) p.all a);
        read_ahead = q.ahead;
        told_reader = subst (IsPrefix r.told) (sym p.all) q.heard;
        told_writer = subst (IsPrefix w.told) (sym p.all) p.heard;
        copies = λ e v a is. subst (IsPrefix v.notes) (sym p.all) (subst (KnowsAs words name places k.notes k.stored k.writer e v) is (k.each_seat e v a));
      }
