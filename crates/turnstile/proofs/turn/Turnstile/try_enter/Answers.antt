use Rattle.std.proofs.Common.{rules, sym, ap, ◌∙◌, Some, ◌∷◌}
use Rattle.atomic_table.specs.Table.{rest}
use Rattle.turnstile.specs.Turns.{Stays}
use Rattle.turnstile.proofs.RuleStays.{enters}
use Rattle.turnstile.proofs.turn.Turnstile.try_enter.Goals as goal

pub compare_exchange-found-requires : goal.compare_exchange-found-requires
compare_exchange-found-requires g c = let t = c.args.self.now in let p = c.args.pass.now in
    (c.requires.of.0, search rules, enters (Stays g.T.Named.name g.T.Named.reached g.T.Named.follows g.T.Named.whole) t.table.shared.key.value _ p.seat.id p.seat.me c.requires.of.1 c.requires.outside.0 c.requires.of.2)

pub exchange-requires : goal.exchange-requires
exchange-requires g c = let t = (c.compare_exchange-found.ensures.2.1 c.if-found-ne0.false).1 in
    (search rules, (Some t.0, t.1 ∙ ap (λ l. (0, Some t.0) ∷ rest l) (sym t.1)))
