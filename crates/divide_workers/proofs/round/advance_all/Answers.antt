use Rattle.std.proofs.Common.{◌≡◌, rules, ◌<◌, get_or, map, refl, sym, subst, arith}
use Rattle.std.proofs.lemmas.List.{length-map}
use denote.Exit.{yes}
use denote.Param.{copied}
use denote.Param.Send.{param_send, arg_send}
use mathlib.Core.List.{[]}
use mir.Syntax.{named}
use Rattle.divide_merge.proofs.Shares.{merge_send}
use Rattle.divide_merge.specs.Names.{row_identity}
use Rattle.turnstile.proofs.Sharing.{member_send}
use Rattle.turnstile.specs.Passes.{HasPass}
use Rattle.term_ring.specs.Names.{ring_name}
use Rattle.term_ring.specs.Sending.{IsAmong}
use Rattle.divide_workers.specs.Views.{sender_of}
use Rattle.divide_workers.specs.Working.{HasRoom}
use Rattle.divide_workers.specs.Rounds.{Moves}
use Rattle.divide_workers.proofs.Shares.{part_send, captures_sync, shared_sync}
use Rattle.divide_workers.proofs.TeamSteps.{all_move}
use Rattle.divide_workers.proofs.round.advance_all.Goals as goal

pub for_each_mut-requires-send-T : goal.for_each_mut-requires-send-T
for_each_mut-requires-send-T g c κs within =
    let b = c.type_bounds in
    let merge = merge_send (copied 1 g.row.R) (copied 2 g.row.M) (copied 4 g.row.R-E) g.R.CoeffRing g.M.Monomial g.M.Ord g.M.PartialEq g.M.PartialOrd b.send-R b.send-M b.send-R-E in
    param_send _ _ (arg_send _ yes _ (member_send _ _ (part_send _ _ _ g.R.CoeffRing g.M.Monomial g.M.Ord g.M.PartialEq g.M.PartialOrd _ b.send-R b.send-M b.send-R-E b.sync-R b.sync-M b.sync-R-E) merge))

pub for_each_mut-requires-sync-F : goal.for_each_mut-requires-sync-F
for_each_mut-requires-sync-F g c κs within =
    let b = c.type_bounds in
    let shared = shared_sync (copied 1 g.row.R) (copied 2 g.row.M) (copied 4 g.row.R-E) g.R.CoeffRing g.R.Clone g.R.E.Clone g.M.Monomial g.M.Clone g.M.Ord g.M.Eq g.M.PartialEq g.M.PartialOrd record { mir = named 8; lft = κs.1.1.1.1.1.1.1.1.0 } b.send-R b.send-M b.send-R-E b.sync-R in
    let all = captures_sync [] record { mir = named 7; lft = κs.1.1.1.1.1.1.1.0 } record { mir = named 9; lft = κs.1.1.1.1.1.1.1.1.1.0 } _ _ shared b.sync-G in
    record { shared = all.shared }

pub for_each_mut-requires-clause-accepts : goal.for_each_mut-requires-clause-accepts
for_each_mut-requires-clause-accepts g c κs within = λ i p lt is.
    let t = c.args.shared.now.turnstile.now in let rings = map ring_name c.args.shared.now.rings.now in let row = row_identity c.args.shared.now.row.now in
    let h = subst (λ w. HasPass t w.pass × IsAmong rings (sender_of w.worker.sender) × (w.worker.sender.row ≡ row) × HasRoom w.worker.sender) (sym is) (c.requires.have i p.now lt) in
    ((h.0, c.requires.name, h.1, h.2, h.3), search rules)

pub returns-then-count-gt0-clause-have : goal.returns-then-count-gt0-clause-have
returns-then-count-gt0-clause-have g c = λ k d lt.
    let e = (c.for_each_mut.ensures k d (subst (λ n. k < n) c.for_each_mut.auto.s lt)).1 in
    subst (λ w. HasPass c.args.shared.now.turnstile.now w.pass) e.left e.call.0

pub returns-then-count-gt0-clause-moves : goal.returns-then-count-gt0-clause-moves
returns-then-count-gt0-clause-moves g c = all_move (λ w. w.worker.sender) c.args.workers.now c.for_each_mut.new.s c.for_each_mut.auto.s (λ k d lt.
    let e = (c.for_each_mut.ensures k d lt).1 in
    subst (λ w. Moves (get_or c.args.workers.now k d).worker.sender w.worker.sender) e.left (subst (λ w. Moves w.worker.sender e.after_call.now.worker.sender) e.argument_is e.call.1))

pub returns-else-count-gt0-clause-moves : goal.returns-else-count-gt0-clause-moves
returns-else-count-gt0-clause-moves g c = record {
  long = refl;
  each = λ k d lt. absurd (let l = length-map c.args.workers.now (λ w. w.worker.sender) in let z = c.if-count-gt0.false in omega arith);
}
