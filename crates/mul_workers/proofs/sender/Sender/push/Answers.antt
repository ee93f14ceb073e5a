use Rattle.std.proofs.Common.{sym, ap, subst, ◌∙◌}
use Rattle.term_ring.specs.Ends.{script_in}
use Rattle.term_ring.specs.Sending.{sender_view, Sends}
use Rattle.term_ring.proofs.Naming.{name_of_writer}
use Rattle.mul_workers.proofs.Sending.{ready, carries_ring, keeps_note, sends_note, carried_by, within_script, sends_one}
use Rattle.mul_workers.proofs.sender.Sender.push.Goals as goal

pub push-requires-clause-carries : goal.push-requires-clause-carries
push-requires-clause-carries g c κs within =
    let r = ready g.M.Monomial.vector g.R.CoeffRing.value g.R.CoeffRing.belongs g.M.Monomial.order g.M.Monomial.VARS c.self.inside.rows c.next_note-note.new.rows c.self.inside.writer c.self.inside.kept c.self.inside.has_ended c.self.inside.worker c.next_note-note.result c.args.self.now c.self.view_is c.self.invariant c.next_note-note.ensures.factors c.next_note-note.ensures.next c.next_note-note.ensures.belongs c.requires.clear in
    let e = ap (λ a. a.script) (c.requires.ring ∙ sym (ap (λ v. v.ring) c.self.view_is)) ∙ c.self.invariant.script in
    carries_ring g.M.Monomial.vector g.R.CoeffRing.value g.R.CoeffRing.belongs g.M.Monomial.order g.M.Monomial.VARS c.self.inside.rows c.next_note-note.new.rows c.self.inside.writer c.self.inside.kept c.self.inside.has_ended c.self.inside.worker c.next_note-note.result r (script_in c.args.ring.now) e

pub returns-in-Err-clause-within : goal.returns-in-Err-clause-within
returns-in-Err-clause-within g c =
    let r = ready g.M.Monomial.vector g.R.CoeffRing.value g.R.CoeffRing.belongs g.M.Monomial.order g.M.Monomial.VARS c.self.inside.rows c.next_note-note.new.rows c.self.inside.writer c.self.inside.kept c.self.inside.has_ended c.self.inside.worker c.next_note-note.result c.args.self.now c.self.view_is c.self.invariant c.next_note-note.ensures.factors c.next_note-note.ensures.next c.next_note-note.ensures.belongs c.requires.clear in
    let e = ap (λ a. a.script) (c.requires.ring ∙ sym (ap (λ v. v.ring) c.self.view_is)) ∙ c.self.invariant.script in
    within_script g.M.Monomial.vector g.R.CoeffRing.value g.R.CoeffRing.belongs g.M.Monomial.order g.M.Monomial.VARS c.next_note-note.new.rows c.push.new.self _ _ c.self.inside.worker (keeps_note g.M.Monomial.vector g.R.CoeffRing.value g.R.CoeffRing.belongs g.M.Monomial.order g.M.Monomial.VARS c.self.inside.rows c.next_note-note.new.rows c.self.inside.writer c.self.inside.kept c.self.inside.has_ended c.self.inside.worker c.next_note-note.result r c.push.new.self c.push.ensures.of.0 (c.push.ensures.of.2 ∙ e) c.in-Err.ensures.kept)

pub invariant_of-self : goal.invariant_of-self
invariant_of-self g c =
    let r = ready g.M.Monomial.vector g.R.CoeffRing.value g.R.CoeffRing.belongs g.M.Monomial.order g.M.Monomial.VARS c.self.inside.rows c.next_note-note.new.rows c.self.inside.writer c.self.inside.kept c.self.inside.has_ended c.self.inside.worker c.next_note-note.result c.args.self.now c.self.view_is c.self.invariant c.next_note-note.ensures.factors c.next_note-note.ensures.next c.next_note-note.ensures.belongs c.requires.clear in
    let e = ap (λ a. a.script) (c.requires.ring ∙ sym (ap (λ v. v.ring) c.self.view_is)) ∙ c.self.invariant.script in
    sends_note g.M.Monomial.vector g.R.CoeffRing.value g.R.CoeffRing.belongs g.M.Monomial.order g.M.Monomial.VARS c.self.inside.rows c.next_note-note.new.rows c.self.inside.writer c.self.inside.kept c.self.inside.has_ended c.self.inside.worker c.next_note-note.result r c.push.new.self c.is_end-self-inside.result c.push.ensures.of.0 (c.push.ensures.of.2 ∙ e) c.in-Ok.ensures.sent c.is_end-self-inside.ensures

pub returns-in-Ok-clause-sends : goal.returns-in-Ok-clause-sends
returns-in-Ok-clause-sends g c =
    subst (λ u. Sends u (sender_view g.M.Monomial.vector g.R.CoeffRing.value c.self.inside.worker c.push.new.self)) c.self.view_is
    (sends_one g.M.Monomial.vector g.R.CoeffRing.value c.self.inside.worker c.self.inside.writer c.push.new.self c.next_note-note.result (name_of_writer c.args.ring.now c.push.new.self c.push.ensures.of ∙ c.requires.ring ∙ sym (ap (λ v. v.ring) c.self.view_is)) c.in-Ok.ensures.sent c.push.ensures.head)

pub returns-in-Ok-clause-carried : goal.returns-in-Ok-clause-carried
returns-in-Ok-clause-carried g c =
    let r = ready g.M.Monomial.vector g.R.CoeffRing.value g.R.CoeffRing.belongs g.M.Monomial.order g.M.Monomial.VARS c.self.inside.rows c.next_note-note.new.rows c.self.inside.writer c.self.inside.kept c.self.inside.has_ended c.self.inside.worker c.next_note-note.result c.args.self.now c.self.view_is c.self.invariant c.next_note-note.ensures.factors c.next_note-note.ensures.next c.next_note-note.ensures.belongs c.requires.clear in
    let e = ap (λ a. a.script) (c.requires.ring ∙ sym (ap (λ v. v.ring) c.self.view_is)) ∙ c.self.invariant.script in
    carried_by g.M.Monomial.vector g.R.CoeffRing.value g.R.CoeffRing.belongs g.M.Monomial.order g.M.Monomial.VARS c.next_note-note.new.rows c.push.new.self _ _ c.self.inside.worker (sends_note g.M.Monomial.vector g.R.CoeffRing.value g.R.CoeffRing.belongs g.M.Monomial.order g.M.Monomial.VARS c.self.inside.rows c.next_note-note.new.rows c.self.inside.writer c.self.inside.kept c.self.inside.has_ended c.self.inside.worker c.next_note-note.result r c.push.new.self c.is_end-self-inside.result c.push.ensures.of.0 (c.push.ensures.of.2 ∙ e) c.in-Ok.ensures.sent c.is_end-self-inside.ensures)

pub returns-in-Ok-clause-within : goal.returns-in-Ok-clause-within
returns-in-Ok-clause-within g c =
    let r = ready g.M.Monomial.vector g.R.CoeffRing.value g.R.CoeffRing.belongs g.M.Monomial.order g.M.Monomial.VARS c.self.inside.rows c.next_note-note.new.rows c.self.inside.writer c.self.inside.kept c.self.inside.has_ended c.self.inside.worker c.next_note-note.result c.args.self.now c.self.view_is c.self.invariant c.next_note-note.ensures.factors c.next_note-note.ensures.next c.next_note-note.ensures.belongs c.requires.clear in
    let e = ap (λ a. a.script) (c.requires.ring ∙ sym (ap (λ v. v.ring) c.self.view_is)) ∙ c.self.invariant.script in
    within_script g.M.Monomial.vector g.R.CoeffRing.value g.R.CoeffRing.belongs g.M.Monomial.order g.M.Monomial.VARS c.next_note-note.new.rows c.push.new.self _ _ c.self.inside.worker (sends_note g.M.Monomial.vector g.R.CoeffRing.value g.R.CoeffRing.belongs g.M.Monomial.order g.M.Monomial.VARS c.self.inside.rows c.next_note-note.new.rows c.self.inside.writer c.self.inside.kept c.self.inside.has_ended c.self.inside.worker c.next_note-note.result r c.push.new.self c.is_end-self-inside.result c.push.ensures.of.0 (c.push.ensures.of.2 ∙ e) c.in-Ok.ensures.sent c.is_end-self-inside.ensures)
