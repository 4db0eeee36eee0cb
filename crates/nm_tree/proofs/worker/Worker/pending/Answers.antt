use Rattle.std.proofs.Common.{◌≡◌, inl, inr, refl, ap, subst}
use Rattle.std.specs.Prelude.{None}
use Rattle.nm_tree.specs.declared.worker.Standing.{Standing}
use Rattle.nm_tree.specs.Workers.{IsAs, held_in, pending_in}
use Rattle.nm_tree.proofs.FlaggedSeen.{none_seen, pending_seen}
use Rattle.nm_tree.proofs.worker.Worker.pending.Goals as goal

pub returns-in-Pending-clause-flagged : goal.returns-in-Pending-clause-flagged
returns-in-Pending-clause-flagged c =
    let removing = subst (λ (s : Standing). IsAs c.self.inside.pass (pending_in s) (held_in s)) c.in-Pending.is
    c.self.invariant.between.stands in
    rw (← c.self.view_is, c.in-Pending.is) (pending_seen c.self.inside.pass c.in-Pending.unfinished.key
    c.in-Pending.unfinished.leaf c.know_run.ensures.seen removing)

pub returns-in-Pending-clause-rests : goal.returns-in-Pending-clause-rests
returns-in-Pending-clause-rests c = rw (← c.self.view_is, c.in-Pending.is) tt

pub returns-in-Resting : goal.returns-in-Resting
returns-in-Resting c =
    let none : pending_in c.self.inside.standing ≡ None = elim c.in-Resting.is [
      | inl at ↦ ap pending_in at
      | inr at ↦ ap pending_in at.1
    ] in
    rw (← c.self.view_is, none)
    (record {
      key = refl;
      flagged = tt;
      rests = none_seen c.self.inside.pass (pending_in c.self.inside.standing)
          (held_in c.self.inside.standing) c.know_run.ensures.seen c.self.invariant.between.stands none;
    })
