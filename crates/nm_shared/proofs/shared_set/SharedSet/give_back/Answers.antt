use Rattle.std.proofs.Common.{◌≡◌, ◌∙◌, subst, sym}
use Rattle.nm_set.specs.Seats.{MemberView}
use Rattle.nm_shared.specs.OwnActs.{WorkerGoesOn}
use Rattle.nm_shared.specs.Sharing.{pass_of}
use Rattle.nm_shared.proofs.shared_set.SharedSet.give_back.Goals as goal

pub give_back-visits-requires-clause-goes : goal.give_back-visits-requires-clause-goes
give_back-visits-requires-clause-goes g c x is =
    let same : c.note.new.self ≡ c.args.worker = c.note.ensures.same ∙ (c.deref_mut.ensures.value ∙ c.worker.view_is) in
    subst (λ (m : MemberView). WorkerGoesOn pass_of x m) (sym same) (c.requires.back.goes x is)
