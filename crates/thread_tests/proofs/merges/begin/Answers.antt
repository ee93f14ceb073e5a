use Rattle.std.proofs.Common.{rules, ◌≡◌, [], ◌∷◌, map, ap, ◌∙◌}
use Rattle.whole_laws.specs.Notes.{Product}
use Rattle.term_ring.specs.Names.{reader_name}
use Rattle.thread_tests.proofs.Room.{product_is, scripts, fits}
use Rattle.thread_tests.proofs.merges.begin.Goals as goal

pub new-requires-clause-scripts : goal.new-requires-clause-scripts
new-requires-clause-scripts c κs =
    let is : c.push-2.new.self.items ≡ c.args.first ∷ c.args.second ∷ [] = search rules in
    scripts (map reader_name c.push-2.new.self.items) (reader_name c.args.first) (reader_name c.args.second) (ap (map reader_name) is) (c.requires.first.2 ∙ c.requires.first_script) (c.requires.second.2 ∙ c.requires.second_script)

pub new-requires-clause-fit : goal.new-requires-clause-fit
new-requires-clause-fit c κs =
    let is : c.push-2.new.self.items ≡ c.args.first ∷ c.args.second ∷ [] = search rules in
    fits (map reader_name c.push-2.new.self.items) (reader_name c.args.first) (reader_name c.args.second) (ap (map reader_name) is) (c.requires.first.2 ∙ c.requires.first_script) (c.requires.second.2 ∙ c.requires.second_script)

pub new-requires-clause-order : goal.new-requires-clause-order
new-requires-clause-order c κs =
    let is : c.push-2.new.self.items ≡ c.args.first ∷ c.args.second ∷ [] = search rules in
    ap (λ (m : Product). m.ord) (product_is (map reader_name c.push-2.new.self.items) (reader_name c.args.first) (reader_name c.args.second) (ap (map reader_name) is) (c.requires.first.2 ∙ c.requires.first_script) (c.requires.second.2 ∙ c.requires.second_script))
