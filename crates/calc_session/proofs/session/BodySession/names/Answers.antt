use Rattle.std.proofs.Common.{length, ap, sym, ◌∙◌}
use Rattle.calc_session.specs.View.{Body}
use Rattle.calc_session.proofs.session.BodySession.names.Goals as goal

pub returns-clause-setting : goal.returns-clause-setting
returns-clause-setting g c =
    let is = sym c.self.view_is in
    record {
      order = ap (λ (s : Body). s.setting.order) is;
      limit = ap (λ (s : Body). s.setting.limit) is;
      variables = ap (λ (s : Body). length s.setting.variables) is ∙ c.self.invariant.0;
    }
