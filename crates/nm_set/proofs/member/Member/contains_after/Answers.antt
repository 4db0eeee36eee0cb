use Rattle.std.proofs.Common.{◌∙◌, ◌+◌, refl, subst, arith}
use Rattle.std.specs.Prelude.{Err}
use Rattle.nm_model.specs.declared.event.Op.TheVariants.{Has}
use Rattle.nm_steps.specs.Steps.{TreeView}
use Rattle.nm_calls.specs.declared.fault.CallFault.{CallFault}
use Rattle.nm_calls.specs.declared.fault.CallFault.TheVariants.{Pending}
use Rattle.nm_tree.specs.Workers.{WorkerView}
use Rattle.nm_set.specs.Managed.{Manages}
use Rattle.nm_set.specs.Rounds.{AnswersIn, Finishes}
use Rattle.nm_set.proofs.Managing.{finish_err, finished, has_failed, looks_at_once, manages, never_full, never_unfinished, pending_has, pending_manages, prepares_look}
use Rattle.nm_set.proofs.member.Member.contains_after.Goals as goal

pub retry-requires : goal.retry-requires
retry-requires g c = record {
  begun = (
    c.requires.begun.0,
    (has_failed c.args.self.now.tree.layout c.args.options.now.tries c.args.key c.requires.begun.0
        c.args.self.now.worker c.args.fault (c.if-not-is_pending.ensures.no refl) c.requires.begun.1).1,
  );
}

pub finish_with_retries-requires : goal.finish_with_retries-requires
finish_with_retries-requires g c = record { free = c.requires.begun.1.says.held }

pub returns-in_default-clause-frees : goal.returns-in_default-clause-frees
returns-in_default-clause-frees g c = c.in_default.ensures.says.frees

pub returns-clause-frees : goal.returns-clause-frees
returns-clause-frees g c = c.ask_with_retries.ensures.frees ∙ c.in-Ok.ensures.says.frees

pub returns-then-not-is_pending-clause-says : goal.returns-then-not-is_pending-clause-says
returns-then-not-is_pending-clause-says g c = λ w free l.
    let b = c.args.self.now.tree in
    let h = c.args.options.now in
    let k = c.args.key in
    let failed = has_failed b.layout h.tries k w c.args.self.now.worker c.args.fault
    (c.if-not-is_pending.ensures.no refl) l in
    looks_at_once b h k w c.retry.new.self.worker c.retry.result free failed.0 (c.retry.ensures.says w failed.1)

pub returns-in_default-clause-says : goal.returns-in_default-clause-says
returns-in_default-clause-says g c = λ w free l.
    let b = c.args.self.now.tree in
    let h = c.args.options.now in
    let k = c.args.key in
    let x = c.args.self.now.worker in
    let z = c.finish_with_retries.new.self.worker in
    let f = c.in_default.ensures.says in
    let unfinished = subst (λ (g : CallFault). Finishes b h x z (Err g))
    (finish_err b h x z c.in_default.field-0 f) f in
    subst (λ (v : WorkerView). Manages b h Has k v z (Err Pending))
    (pending_has b.layout h.tries k w x c.args.fault (c.if-not-is_pending.ensures.yes refl) l)
    (pending_manages b h Has k x z unfinished)

pub returns-clause-says : goal.returns-clause-says
returns-clause-says g c = λ w free l.
    let b = c.args.self.now.tree in
    let h = c.args.options.now in
    let k = c.args.key in
    let y = c.args.self.now.worker in
    let x = c.finish_with_retries.new.self.worker in
    let z = c.ask_with_retries.new.self.worker in
    let r = c.ask_with_retries.result in
    let f = c.in-Ok.ensures.says in
    let a = subst (λ (d : TreeView). AnswersIn d h Has k (h.rounds + 1) x z r) c.finish_with_retries.ensures.tree
    c.ask_with_retries.ensures.says in
    subst (λ (v : WorkerView). Manages b h Has k v z r)
    (pending_has b.layout h.tries k w y c.args.fault (c.if-not-is_pending.ensures.yes refl) l)
    (manages b h Has k (h.rounds + 1) (h.rounds + 1) y x z r (omega arith)
    (finished b h y x c.in-Ok._done f) (prepares_look b h y x c.in-Ok._done f) a
    (never_full Has k _ _ x z r (λ is. (let no = is in cc)) a)
    (never_unfinished Has k _ _ x z r (λ is. (let no = is in cc)) a))
