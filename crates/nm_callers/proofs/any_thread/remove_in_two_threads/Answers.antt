use denote.Param.Send.{sendable}
use Rattle.std.proofs.Common.{◌≡◌, ◌∙◌, Bool, List, [], ◌∷◌, ◌++◌, ap, subst, sym}
use Rattle.std.specs.Prelude.{Option, Ok, IfSome}
use Rattle.std.proofs.Crossing.{crosses}
use Rattle.nm_lending.specs.declared.knowing.Visit.{Visit}
use Rattle.nm_model.specs.declared.event.Op.TheVariants.{Delete}
use Rattle.nm_set.specs.Seats.{MemberView}
use Rattle.nm_shared.specs.Sharing.{CallerView, SharedView, SaysShared}
use Rattle.nm_shared.proofs.Answered.{shown_calls_are_apart}
use Rattle.nm_shared.proofs.Sending.{shared_sync, caller_send}
use Rattle.nm_callers.proofs.any_thread.remove_in_two_threads.Goals as goal

pub join-one-requires-send-F : goal.join-one-requires-send-F
join-one-requires-send-F g c κs within = search (sendable, crosses, shared_sync, caller_send) depth 60

pub join-one-requires-send-A : goal.join-one-requires-send-A
join-one-requires-send-A g c κs within = search (sendable, crosses, shared_sync, caller_send) depth 60

pub returns-clause-apart : goal.returns-clause-apart
returns-clause-apart g c =
    let s : SharedView = c.args.set.now in
    let one : CallerView = c.join-one.result.0.0 in
    let two : CallerView = c.join-one.result.1.0 in
    let last : CallerView = c.show.new.caller in
    let removes : CallerView → CallerView → Bool → Type 0 =
    λ was now x. SaysShared Delete s c.args.options.now c.args.key was now (Ok x) in
    let first : removes c.args.one one c.in-Some-Some.first =
    subst (λ (o : Option Bool). IfSome o (removes c.args.one one)) c.in-Some-Some.is-0 c.join-one.ensures.first.1 in
    let second : removes c.args.two two c.in-Some-Some.second =
    subst (λ (o : Option Bool). IfSome o (removes c.args.two two)) c.in-Some-Some.is-1
    c.join-one.ensures.second.1 in
    let a : Visit MemberView = first.visit in
    let b : Visit MemberView = second.visit in
    let same : last.visits ≡ c.join.new.caller.visits = ap (λ (d : CallerView). d.visits) c.show.ensures.same in
    let both : last.visits ≡ (c.args.one.visits ++ a ∷ []) ++ (c.args.two.visits ++ b ∷ []) =
    same ∙ (c.join.ensures.visits ∙ (ap (λ (ds : List (Visit MemberView)). ds ++ two.visits) first.more
    ∙ ap (λ (ds : List (Visit MemberView)). (c.args.one.visits ++ a ∷ []) ++ ds) second.more)) in
    let shown : c.join.new.caller.visits ≡ (c.args.one.visits ++ a ∷ []) ++ (c.args.two.visits ++ b ∷ []) =
    sym same ∙ both in (
      a,
      b,
      both,
      shown_calls_are_apart Delete Delete s c.args.options.now c.args.key c.args.key
          c.in-Some-Some.first c.in-Some-Some.second c.args.one one c.args.two two c.join.new.caller first second
          c.show.ensures.apart c.show.ensures.order c.args.one.visits c.args.two.visits [] shown,
    )
