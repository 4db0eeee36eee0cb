use Rattle.std.proofs.Common.{rules, ◌≡◌, ◌+◌, suc, List, ◌∷◌, length, ap, subst, sym, arith}
use Rattle.std.proofs.lemmas.List.{length-append}
use Rattle.nm_order.specs.Hands.{AreApart}
use Rattle.nm_steps.specs.Rules.{knowledge}
use Rattle.nm_steps.specs.Steps.{IsInRun}
use Rattle.nm_steps.proofs.AfterSteps.{apart_in_run}
use Rattle.nm_epoch.specs.declared.collecting.HeldQueue.{HeldQueue}
use Rattle.nm_epoch.specs.Collecting.{AreHeld, FreesFronts, ripe_of, ripe_part}
use Rattle.nm_epoch.proofs.FewFreed.{few_ripe}
use Rattle.nm_epoch.proofs.SeveralQueues.{held_on, fronts_freed}
use Rattle.nm_epoch.proofs.collecting.+collect_fronts.Goals as goal

pub collect_fronts-requires : goal.collect_fronts-requires
collect_fronts-requires t c =
    let split : c.args.queues.now ≡ c.in-Some.first.now ∷ c.in-Some.rest.now = c.in-Some.ensures.cases.0 in
    let longer : length c.args.queues.now ≡ suc (length c.in-Some.rest.now) = ap (λ (hs : List HeldQueue). length hs)
    split in
    let all : AreHeld (knowledge c.args.pass.now.view) (c.in-Some.first.now ∷ c.in-Some.rest.now) = subst
    (λ (hs : List HeldQueue). AreHeld (knowledge c.args.pass.now.view) hs) split c.requires.queues in
    let held' = held_on (knowledge c.args.pass.now.view) (knowledge c.collect_front-here.new.pass.view)
    c.in-Some.first.now.origin c.in-Some.rest.now all.1 c.collect_front-here.ensures.after.others all.2 in
    (omega (arith, longer), (search rules, (search rules, held')))

-- fewer are freed than there are nodes
pub overflow_add-result : goal.overflow_add-result
overflow_add-result t c =
    let p = c.args.pass.now in
    let run : IsInRun p = record { fits = c.know_run.ensures.fits; run = c.know_run.ensures.run } in
    let apart : AreApart p.view.layout (knowledge p.view) = apart_in_run p run in
    let least = run.fits.least in
    let most = run.fits.most in
    let all : AreHeld (knowledge p.view) (c.in-Some.first.now ∷ c.in-Some.rest.now) = subst
    (λ (hs : List HeldQueue). AreHeld (knowledge p.view) hs) c.in-Some.ensures.cases.0 c.requires.queues in
    let few = few_ripe p.view.layout (knowledge p.view) c.args.epoch (c.in-Some.first.now ∷ c.in-Some.rest.now) apart
    (omega (arith, least)) all in
    let sum = length-append (ripe_part c.args.epoch c.in-Some.first.now.queue.items)
    (ripe_of c.args.epoch c.in-Some.rest.now) in
    let here = c.collect_front-here.ensures.after.freed in
    let wide = c.from.ensures in
    let rest = c.collect_fronts.ensures.after.freed in
    omega (arith, few, sum, here, wide, rest, most)

pub returns-clause-after : goal.returns-clause-after
returns-clause-after t c =
    let q = c.collect_front-here.new.pass in
    let r = c.collect_fronts.new.pass in
    let gs : List HeldQueue = c.collect_front-here.new.held ∷ c.collect_fronts.new.queues in
    let all : AreHeld (knowledge c.args.pass.now.view) (c.in-Some.first.now ∷ c.in-Some.rest.now) = subst
    (λ (hs : List HeldQueue). AreHeld (knowledge c.args.pass.now.view) hs) c.in-Some.ensures.cases.0
    c.requires.queues in
    subst (λ (hs : List HeldQueue). FreesFronts c.args.epoch c.args.pass.now r hs gs
    (c.from.result + c.collect_fronts.result)) (sym c.in-Some.ensures.cases.0)
    (subst (λ n. FreesFronts c.args.epoch c.args.pass.now r (c.in-Some.first.now ∷ c.in-Some.rest.now) gs
    (n + c.collect_fronts.result)) (sym c.from.ensures)
    (fronts_freed c.args.epoch c.args.pass.now q r c.in-Some.first.now c.collect_front-here.new.held
    c.in-Some.rest.now c.collect_fronts.new.queues c.collect_front-here.result c.collect_fronts.result all
    c.collect_front-here.ensures.after c.collect_fronts.ensures.after))
