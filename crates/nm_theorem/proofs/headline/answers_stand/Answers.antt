use Rattle.nm_theorem.proofs.StandingAnswers.{answers_stand}
use Rattle.nm_theorem.proofs.headline.answers_stand.Goals as goal

pub returns : goal.returns
returns c = answers_stand
