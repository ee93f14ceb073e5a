-- The rule, said of the views of both ends.
use Rattle.std.proofs.Common.{◌≡◌, ℕ, ◌+◌, ◌<◌, List, ◌++◌, length, get_or, sym, ap, ◌∙◌, subst, arith, length-append}
use mathlib.Core.List.{IsPrefix}
use Rattle.term_ring.specs.Rule.{place, WriterKnows, ReaderKnows, KnowsAs}
use Rattle.term_ring.specs.Moments.{AtEachMoment}

module _ {N C : Type 0} (words : N → List ℕ) (fits : C → N → Type 0) (carry : C → List N → Type 0) where
  pub at_each_moment : AtEachMoment words fits carry
  at_each_moment script places s k i j w r at_w is_w at_r is_r =
      let p : WriterKnows script places k.taken k.inside k.stored k.parted k.writer i w = subst (KnowsAs words script places k.taken k.inside k.stored k.parted k.writer k.reader i w) is_w (k.each_seat i w at_w) in
      let q : ReaderKnows words script places k.taken k.inside k.parted k.reader j r = subst (KnowsAs words script places k.taken k.inside k.stored k.parted k.writer k.reader j r) is_r (k.each_seat j r at_r) in
      let all : length w.notes ≡ length k.taken + length k.inside = ap length p.all ∙ length-append k.taken k.inside in
      let took : length k.taken ≡ length r.notes = ap length (sym q.all) in
      let saw = p.saw in let seen = q.saw in let head = k.head_is in let tail = k.tail_is in record {
        inside = k.inside;
        sent = p.all ∙ ap (λ l. l ++ k.inside) (sym q.all);
        carried = subst (carry script) (sym p.all) k.carried;
        room = k.room;
        spelt = λ e n a c l. ap (λ (z : ℕ). get_or s.words (place places (z + e) c) 0) (sym took) ∙ k.spelt e n a c l;
        head = head ∙ took;
        tail = tail ∙ sym all;
        head_seen = omega arith;
        tail_seen = omega arith;
        stored = λ c l. ap (λ (z : ℕ). get_or s.words (place places z c) 0) all ∙ (k.next c (subst (λ z. c < length z) p.wrote l) ∙ ap (λ z. get_or z c 0) (sym p.wrote));
        stored_apart = λ l. k.free (subst (λ z. 0 < length z) p.wrote l);
        read = q.read;
        read_ahead = λ l. let a = q.ahead l in omega arith;
        told_sent = subst (IsPrefix r.told) (sym p.all) q.heard;
        told_taken = subst (IsPrefix w.told) (sym q.all) p.heard;
        sent_copies = λ e v a is. subst (IsPrefix v.notes) (sym p.all) (subst (KnowsAs words script places k.taken k.inside k.stored k.parted k.writer k.reader e v) is (k.each_seat e v a));
        taken_copies = λ e v a is. subst (IsPrefix v.notes) (sym q.all) (subst (KnowsAs words script places k.taken k.inside k.stored k.parted k.writer k.reader e v) is (k.each_seat e v a));
      }
