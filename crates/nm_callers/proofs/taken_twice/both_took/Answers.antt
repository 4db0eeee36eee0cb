use Rattle.std.proofs.Common.{◌≡◌, ◌≢◌, ◌∙◌, ℕ, ap, subst, sym}
use Rattle.std.specs.Prelude.{IfSome}
use Rattle.nm_steps.specs.Rules.{Extends, ExtendsStores}
use Rattle.nm_steps.specs.Steps.{PassView}
use Rattle.nm_steps.proofs.Growing.{goes_on_through}
use Rattle.nm_steps.proofs.Seeing.{stores_through}
use Rattle.nm_callers.specs.TakenTwice.{AreTwoDeletes, TookByDelete}
use Rattle.nm_callers.proofs.TwoTakes.{are_two_deletes}
use Rattle.nm_callers.proofs.taken_twice.both_took.Goals as goal

pub returns-clause-deletes : goal.returns-clause-deletes
returns-clause-deletes g c =
    let o : PassView = c.args.one.pass in
    let n : PassView = c.args.two.pass in
    let p : PassView = c.take_at_once-first.result.0.worker.pass in
    let r : PassView = c.take_at_once-first.result.1.worker.pass in
    let mid : PassView = c.tell_worker.new.to.pass in
    let q : PassView = c.tell_worker-2.new.to.pass in
    let k : ℕ = c.args.key in
    let x : ℕ = c.in_ok-left.left in
    let y : ℕ = c.in_ok-right.right in
    let a : TookByDelete o p k x = subst (λ v. IfSome v (TookByDelete o p k)) c.in_ok-left.was
    c.take_at_once-first.ensures.first in
    let b : TookByDelete n r k y = subst (λ v. IfSome v (TookByDelete n r k)) c.in_ok-right.was
    c.take_at_once-first.ensures.second in
    let first : p.view.number ≡ o.view.number = ap (λ (z : PassView). z.view.number)
    c.take_at_once-first.ensures.same_one in
    let second : r.view.number ≡ n.view.number = ap (λ (z : PassView). z.view.number)
    c.take_at_once-first.ensures.same_two in
    let apart : p.view.number ≢ r.view.number = λ same. c.requires.others (sym first ∙ (same ∙ second)) in
    let own = c.tell_worker-2.ensures.own.layout in
    let heard : Extends q.view.past p.view.past = goes_on_through q.view.past mid.view.past p.view.past
    c.tell_worker-2.ensures.past.goes_on c.tell_worker.ensures.heard.goes_on in
    let stores : ExtendsStores q.view.stores p.view.stores = stores_through p.view.stores mid.view.stores
    q.view.stores c.tell_worker.ensures.heard_stores c.tell_worker-2.ensures.stores in
    let both = are_two_deletes q (c.tell_worker-2.ensures.values c.requires.values) c.know_run.ensures.fits
    c.know_map.ensures o p n r k x y
    (c.take_at_once-first.ensures.one.layout ∙ sym own) (c.take_at_once-first.ensures.two.layout ∙ sym own) heard
    c.tell_worker-2.ensures.heard.goes_on stores c.tell_worker-2.ensures.heard_stores apart a b in
    subst (λ (w : ℕ). AreTwoDeletes q w n.view.number k x y) first
    (subst (λ (u : ℕ). AreTwoDeletes q p.view.number u k x y) second both)
