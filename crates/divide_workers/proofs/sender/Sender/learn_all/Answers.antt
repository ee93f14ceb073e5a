use Rattle.std.proofs.Common.{refl, ◌∙◌}
use Rattle.divide_workers.proofs.Working.{works_itself, works_again}
use Rattle.divide_workers.proofs.Looking.{rows_stay}
use Rattle.divide_workers.proofs.sender.Sender.learn_all.Goals as goal

pub loop-init : goal.loop-init
loop-init g c = record { works = works_itself g.M.Monomial.LIM c.args.self.now c.whole.ensures.working; sender = refl; kept = refl }

pub look-requires-clause-row : goal.look-requires-clause-row
look-requires-clause-row g c κs within = c.loop.invariant.works.row ∙ c.requires.row

pub look-requires-clause-rows : goal.look-requires-clause-rows
look-requires-clause-rows g c κs within = rows_stay c.args.self.now c.loop.self c.loop.invariant.works c.requires.rows

pub look-requires-clause-room : goal.look-requires-clause-room
look-requires-clause-room g c κs within = c.loop.invariant.works.room c.requires.room

pub loop-preserved : goal.loop-preserved
loop-preserved g c = record {
  works = works_again c.args.self.now c.loop.self c.look.new.self c.loop.invariant.works c.look.ensures.works;
  sender = c.look.ensures.sender ∙ c.loop.invariant.sender;
  kept = c.look.ensures.kept ∙ c.loop.invariant.kept;
}

pub returns-clause-works : goal.returns-clause-works
returns-clause-works g c = works_again c.args.self.now c.loop.self c.look.new.self c.loop.invariant.works c.look.ensures.works
