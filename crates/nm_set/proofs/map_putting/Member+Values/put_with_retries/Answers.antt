use Rattle.std.proofs.Common.{◌∙◌, ◌+◌, refl, subst, arith}
use Rattle.std.specs.Prelude.{Result}
use Rattle.nm_steps.specs.Steps.{TreeView}
use Rattle.nm_calls.specs.declared.fault.CallFault.{CallFault}
use Rattle.nm_puts.specs.declared.putting.PutOutcome.{PutOutcome}
use Rattle.nm_set.specs.MapPuts.{SaysTryPut}
use Rattle.nm_set.proofs.MapPutting.{not_yet_put, put_again, put_last, puts_once}
use Rattle.nm_set.proofs.map_putting.Member+Values.put_with_retries.Goals as goal

pub loop-round-init : goal.loop-round-init
loop-round-init c = record {
  tree = refl;
  busy = not_yet_put c.args.self.now.tree c.args.options.now c.args.condition c.args.key c.args.value
      c.args.self.now.worker c.requires.none c.requires.free;
}

pub loop-round-preserved : goal.loop-round-preserved
loop-round-preserved c =
    let at = c.loop-round in
    let b = c.args.self.now.tree in
    let h = c.args.options.now in
    let when = c.args.condition in
    let k = c.args.key in
    let v = c.args.value in
    let x = at.self.worker in
    let z = c.try_put-told.new.self.worker in
    let r = c.try_put-told.result in
    let on = at.invariant.busy.onward in
    let says = subst (λ (d : TreeView). SaysTryPut d.layout h.tries when k v x z r) at.invariant.tree
    c.try_put-told.ensures.says in
    let busy = subst (λ (q : Result PutOutcome CallFault). SaysTryPut b.layout h.tries when k v x z q)
    (c.if-not-is_busy.ensures.yes refl) says in
    record {
      tree = c.try_put-told.ensures.tree ∙ at.invariant.tree;
      busy = put_again b h when k v at._round c.args.self.now.worker x z at.invariant.busy
          (puts_once b.layout h.tries when k v x z _ on.on.held on.none busy);
    }

pub returns-then-not-is_busy-clause-says : goal.returns-then-not-is_busy-clause-says
returns-then-not-is_busy-clause-says c =
    let at = c.loop-round in
    let b = c.args.self.now.tree in
    let h = c.args.options.now in
    let when = c.args.condition in
    let k = c.args.key in
    let v = c.args.value in
    let x = at.self.worker in
    let z = c.try_put-told.new.self.worker in
    let r = c.try_put-told.result in
    let on = at.invariant.busy.onward in
    let says = subst (λ (d : TreeView). SaysTryPut d.layout h.tries when k v x z r) at.invariant.tree
    c.try_put-told.ensures.says in
    put_last b h when k v at._round (h.rounds + 1) c.args.self.now.worker x z r
    (omega (arith, c.loop-round-test.true)) (λ is. absurd (c.if-not-is_busy.ensures.no refl is)) at.invariant.busy
    (puts_once b.layout h.tries when k v x z r on.on.held on.none says)

pub returns-clause-says : goal.returns-clause-says
returns-clause-says c =
    let at = c.loop-round in
    let b = c.args.self.now.tree in
    let h = c.args.options.now in
    let when = c.args.condition in
    let k = c.args.key in
    let v = c.args.value in
    let x = at.self.worker in
    let z = c.try_put.new.self.worker in
    let r = c.try_put.result in
    let past = c.loop-round-test.false in
    let within = at.auto._round-end in
    let on = at.invariant.busy.onward in
    let says = subst (λ (d : TreeView). SaysTryPut d.layout h.tries when k v x z r) at.invariant.tree
    c.try_put.ensures.says in
    put_last b h when k v at._round (h.rounds + 1) c.args.self.now.worker x z r (omega (arith, within))
    (λ is. omega (arith, past, within)) at.invariant.busy
    (puts_once b.layout h.tries when k v x z r on.on.held on.none says)
