use Rattle.std.proofs.Common.{rules, arith, ◌≡◌, ◌<◌, ◌+◌, ℕ, Some, length, sym, ap, ◌∙◌, subst}
use Rattle.term_ring.specs.Carried.{Carries}
use Rattle.term_ring.proofs.Carrying.{carries_front}
use Rattle.term_ring.proofs.RuleStays.{takes_note}
use Rattle.term_ring.proofs.ring.Reader.pop.Goals as goal

pub store-requires : goal.store-requires
store-requires g c =
    let w = c.has_note.new.self.end in let ring = c.args.ring.now in let read = c.read_note-bits.ensures.2 in let of = c.has_note.ensures.of in (
      c.read_note-bits.ensures.0 ∙ of.1,
      omega (arith, ring.sized),
      takes_note _ _ _ _ _ _ _ _ _ (ap (λ m. m.0.kind) read ∙ of.0) (ap (λ m. length m.0.words) read ∙ search rules) (ap (λ m. m.0.subject) read ∙ (w.scripted.0 ∙ ap Some of.2))
          (subst (λ m. length m.0.notes < m.0.seen) (sym read) c.if-not-has_note.ensures.note.0)
          (ap (λ (z : ℕ). z + 1) (sym w.counted.0 ∙ sym (ap (λ m. length m.0.notes) read))),
    )

pub returns-clause-carries : goal.returns-clause-carries
returns-clause-carries g c =
    let w = c.has_note.new.self.end in let s = c.args.ring.now.table.shared.key.script.value in let now = c.read_note-bits.new.seat.me in
    let scripted : now.0.subject ≡ Some s = ap (λ m. m.0.subject) c.read_note-bits.ensures.2 ∙ (w.scripted.0 ∙ ap Some c.has_note.ensures.of.2) in
    let told = c.store.ensures.2 in let same : told.2.0 ≡ s = cc (told.2.1, scripted) in
    let front = carries_front g.M.Monomial.vector g.R.CoeffRing.value told.2.0 now.0.notes told.1 told.0 told.2.2.1 in
    subst (λ z. Carries g.M.Monomial.vector g.R.CoeffRing.value z c.store.new.seat.me.0.notes) same (subst (Carries g.M.Monomial.vector g.R.CoeffRing.value told.2.0) (sym (ap (λ m. m.0.notes) told.5)) front)
