use Rattle.std.proofs.Common.{ap, ◌∙◌}
use Rattle.calc_session.specs.View.{Body}
use Rattle.calc_session.proofs.CommandLemmas.{if_ok_weaker}
use Rattle.calc_session.proofs.session.BodySession.look_up.Goals as goal

pub returns-clause-modulus : goal.returns-clause-modulus
returns-clause-modulus g c =
    if_ok_weaker c.look_up.result _ _
    (λ f same. same (g.R.CoeffRing.characteristic c.self.inside.ring) c.self.invariant.1 ∙ ap (λ (s : Body). s.setting.modulus) c.self.view_is)
    c.look_up.ensures.modulus
