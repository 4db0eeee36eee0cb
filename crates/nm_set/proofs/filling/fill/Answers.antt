use Rattle.std.proofs.Common.{◌≡◌, ◌+◌, ◌∙◌, ℕ, true, List, ◌∷◌, drop, ap, subst, sym}
use Rattle.std.specs.Prelude.{Ok}
use Rattle.std.proofs.lemmas.List.{drop_more, drop_all}
use Rattle.nm_model.specs.declared.event.Op.TheVariants.{Insert}
use Rattle.nm_tree.specs.Workers.{WorkerView}
use Rattle.nm_set.specs.Filling.{HasInserted}
use Rattle.nm_set.specs.Managed.{SaysManaged}
use Rattle.nm_set.proofs.Filled.{inserts_none, inserts_one, rests_then}
use Rattle.nm_set.proofs.filling.fill.Goals as goal

pub loop-key-preserved : goal.loop-key-preserved
loop-key-preserved c =
    let i = c.loop-key.invariant in
    let k : ℕ = c.key-item.result in
    let rest : List ℕ = drop (c.loop-key.key-index + 1) c.args.keys.now in
    let cut : drop c.loop-key.key-index c.args.keys.now
    ≡ k ∷ rest = drop_more c.args.keys.now c.loop-key.key-index k c.loop-key-test.true
    ∙ ap (λ (e : ℕ). e ∷ rest) (sym c.key-item.is) in
    let b = c.loop-key.member.tree in
    let h = c.args.options.now in
    let x : WorkerView = c.loop-key.member.worker in
    let y : WorkerView = c.add.new.member.worker in
    let said : SaysManaged Insert b h k x y (Ok true) = c.in_default.ensures.did in
    let at = rests_then b h k x y said in
    record {
      tree = c.add.ensures.tree ∙ i.tree;
      free = at.0;
      settled = at.1;
      did = λ z done. i.did z (subst (λ (ks : List ℕ). HasInserted ks x z) (sym cut)
          (inserts_one b h k x y z rest said done));
    }

pub returns-clause-did : goal.returns-clause-did
returns-clause-did c =
    let w : WorkerView = c.loop-key.member.worker in
    let last : HasInserted (drop c.loop-key.key-index c.args.keys.now) w w = rw
    (drop_all c.loop-key.key-index c.args.keys.now c.loop-key-test.false) (inserts_none w) in
    c.loop-key.invariant.did w last
