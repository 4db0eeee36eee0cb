use Rattle.std.proofs.Common.{Bool, subst}
use Rattle.std.specs.Prelude.{Option, Ok, IfSome}
use Rattle.nm_model.specs.declared.event.Op.{Op}
use Rattle.nm_model.specs.declared.event.Op.TheVariants.{Has, Insert}
use Rattle.nm_shared.specs.Sharing.{CallerView, SharedView, SaysShared, note_of}
use Rattle.nm_shared.proofs.Answered.{calls_of_one_caller_are_in_order}
use Rattle.nm_callers.proofs.any_thread.insert_then_find_shared.Goals as goal

pub returns-clause-in_order : goal.returns-clause-in_order
returns-clause-in_order c =
    let s : SharedView = c.args.set.now in
    let mid : CallerView = c.insert_shared-caller.result.0 in
    let last : CallerView = c.find_shared-caller.result.0 in
    let says : Op → CallerView → CallerView → Bool → Type 0 =
    λ op was now x. SaysShared op s c.args.options.now c.args.key was now (Ok x) in
    let first : says Insert c.args.caller mid c.in-Some.inserted =
    subst (λ (o : Option Bool). IfSome o (says Insert c.args.caller mid)) c.in-Some.is
    c.insert_shared-caller.ensures.says in
    let second : says Has mid last c.in-Some-found.found =
    subst (λ (o : Option Bool). IfSome o (says Has mid last)) c.in-Some-found.is
    c.find_shared-caller.ensures.says in (
      note_of second.visit.left,
      second.note,
      calls_of_one_caller_are_in_order Insert Has s c.args.options.now
          c.args.key c.args.key c.in-Some.inserted c.in-Some-found.found c.args.caller mid last first second,
    )
