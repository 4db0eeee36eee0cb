use Rattle.std.proofs.Common.{rules, ◌≡◌, ◌++◌, ◌∙◌, suc, List, ℕ, [], ◌∷◌, append-nil, append_assoc, sym, ap, subst, arith}
use Rattle.std.specs.Prelude.{length, nat_lt, take}
use Rattle.nm_model.specs.declared.knowledge.Brief.{Brief}
use Rattle.nm_steps.specs.Rules.{knowledge}
use Rattle.nm_epoch.specs.declared.collecting.HeldQueue.{HeldQueue}
use Rattle.nm_epoch.specs.Collecting.{AreHeld}
use Rattle.nm_epoch.specs.Handing.{HandsFronts}
use Rattle.nm_epoch.proofs.SeveralQueues.{held_on}
use Rattle.nm_epoch.proofs.HandedQueues.{fronts_handed, none_to_hand, room_before}
use Rattle.nm_epoch.proofs.handing.+hand_out_fronts.Goals as goal

pub hand_out_fronts-requires : goal.hand_out_fronts-requires
hand_out_fronts-requires t c =
    let p = c.args.pass.now in
    let q = c.hand_out_front-here.new.pass in
    let split : c.args.queues.now ≡ c.in-Some.first.now ∷ c.in-Some.rest.now = c.in-Some.ensures.cases.0 in
    let longer : length c.args.queues.now ≡ suc (length c.in-Some.rest.now) = ap (λ (hs : List HeldQueue). length hs)
    split in
    let all : AreHeld (knowledge p.view) (c.in-Some.first.now ∷ c.in-Some.rest.now) = subst
    (λ (hs : List HeldQueue). AreHeld (knowledge p.view) hs) split c.requires.queues in
    let did = c.hand_out_front-here.ensures.after.1 in
    let held' = held_on (knowledge p.view) (knowledge q.view) c.in-Some.first.now.origin c.in-Some.rest.now all.1
    did.others all.2 in (
      omega (arith, longer),
      (
        search rules,
        (
          search rules,
          (
            ap (λ (b : Brief). b.seen) did.only.epochs_are
                ∙ c.requires.seen,
            (held', c.hand_out_front-here.ensures.long.2),
          ),
        ),
      ),
    )

pub returns-in_default-clause-after : goal.returns-in_default-clause-after
returns-in_default-clause-after t c = (
  [],
  none_to_hand c.args.epoch _ c.args.pass.now c.args.queues.now
      (record { fits = c.know_run.ensures.fits; run = c.know_run.ensures.run }) c.in_default.ensures.cases,
  sym
      (append-nil (take c.args.count c.args.out.now)),
)

pub returns-clause-after : goal.returns-clause-after
returns-clause-after t c =
    let p = c.args.pass.now in
    let q = c.hand_out_front-here.new.pass in
    let r = c.hand_out_fronts.new.pass in
    let split : c.args.queues.now ≡ c.in-Some.first.now ∷ c.in-Some.rest.now = c.in-Some.ensures.cases.0 in
    let all : AreHeld (knowledge p.view) (c.in-Some.first.now ∷ c.in-Some.rest.now) = subst
    (λ (hs : List HeldQueue). AreHeld (knowledge p.view) hs) split c.requires.queues in
    let here = c.hand_out_front-here.ensures in
    let later = c.hand_out_fronts.ensures in
    let vs = here.after.0 in
    let ws = later.after.0 in
    let last = c.hand_out_fronts.result in
    let full = nat_lt last (length c.hand_out_fronts.new.out) in
    let long : length c.hand_out_front-here.new.out ≡ length c.hand_out_fronts.new.out = sym later.long.0 in
    let handed : HandsFronts c.args.epoch full p r (c.in-Some.first.now ∷ c.in-Some.rest.now)
    (c.hand_out_front-here.new.held ∷ c.hand_out_fronts.new.queues) (vs ++ ws) =
    fronts_handed c.args.epoch _ full p q r c.in-Some.first.now c.hand_out_front-here.new.held c.in-Some.rest.now
    c.hand_out_fronts.new.queues vs ws all here.after.1 later.after.1
    (λ there. ap (λ (m : ℕ). nat_lt c.hand_out_front-here.result m) long
    ∙ room_before c.hand_out_front-here.result last (length c.hand_out_fronts.new.out) later.long.1 there) in (
      vs ++ ws,
      subst (λ (hs : List HeldQueue). HandsFronts c.args.epoch full p r hs
          (c.hand_out_front-here.new.held ∷ c.hand_out_fronts.new.queues) (vs ++ ws)) (sym split) handed,
      later.after.2 ∙ (ap (λ (l : List ℕ). l ++ ws) here.after.2
          ∙ append_assoc (take c.args.count c.args.out.now) vs ws),
    )
