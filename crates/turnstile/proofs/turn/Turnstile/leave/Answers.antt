use Rattle.std.proofs.Common.{rules, subst, sym}
use Rattle.atomic_table.specs.Table.{Allows}
use Rattle.turnstile.specs.Turns.{Kept, Left, Stays}
use Rattle.turnstile.proofs.RuleStays.{filled, leaves}
use Rattle.turnstile.proofs.turn.Turnstile.leave.Goals as goal

pub store-requires : goal.store-requires
store-requires g c = let t = c.args.self.now in let p = c.args.pass.now in let m = c.exchange-old.new.seat in
    let fits = Stays g.T.Named.name g.T.Named.reached g.T.Named.follows g.T.Named.whole t.table.shared.key.value in
    let is = filled m.me p.seat.me.0 c.args.value p.seat.me.1 c.exchange-old.ensures.3 c.requires.inside.1 in
    (search rules, search rules, subst (λ n. Allows (Kept fits) n m.id m.me 0 (λ _. 0) (λ _. Left m.me)) (sym t.sized.1) (leaves fits m.id m.me p.seat.me.0 c.args.value is c.requires.inside.0 c.requires.of.2 c.requires.value))
