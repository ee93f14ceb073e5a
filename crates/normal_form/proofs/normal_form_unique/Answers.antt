use Rattle.normal_form.proofs.Unique.{normal_form_unique}
use Rattle.normal_form.proofs.normal_form_unique.Goals as goal

pub returns : goal.returns
returns c = normal_form_unique
