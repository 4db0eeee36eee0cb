-- A member of a map that gets a value after an insert of the same key.
use Rattle.std.proofs.Common.{◌≡◌, inl, inr, ℕ, true, sym, ap, subst, ◌∙◌}
use Rattle.std.specs.Prelude.{IfSome, IsSome, Ok, Err, Option, Some, Result}
use Rattle.std.specs.Result.{result_ok}
use Rattle.nm_edge.specs.Keys.{IsKey}
use Rattle.nm_edge.specs.Layouts.{IsLayout}
use Rattle.nm_model.specs.declared.event.Op.TheVariants.{Insert}
use Rattle.nm_model.specs.Histories.{HasHistory}
use Rattle.nm_steps.specs.Steps.{HasSeen, PassView, TreeView}
use Rattle.nm_calls.specs.declared.fault.CallFault.{CallFault}
use Rattle.nm_calls.specs.declared.fault.CallFault.TheVariants as fault
use Rattle.nm_calls.specs.Maps.{HasPut, MapGave}
use Rattle.nm_tree.specs.Workers.{WorkerView}
use Rattle.nm_set.specs.declared.managed.Options.{Options}
use Rattle.nm_set.specs.Maps.{SaysChange, SaysGet}
use Rattle.nm_set.proofs.Managing.{was_made}
use Rattle.nm_callers.specs.Mapping.{PutsThenGets}
use Rattle.nm_callers.specs.Meanwhile.{NoneDeleted, NoneReplaced}
use Rattle.nm_callers.proofs.KeptAfterPut.{is_kept}
use Rattle.nm_callers.proofs.Mapped.{is_found, of_found}

-- where a call was refused, nothing is said
refused : (P : Option ℕ → Type 0) (r : Result (Option ℕ) CallFault) (o : Option (Option ℕ)) → o ≡ result_ok r
    → r ≡ Err fault.Pinned → IfSome o P
refused P r o is told = subst (λ (y : Option (Option ℕ)). IfSome y P)
    (sym (is ∙ ap (λ (q : Result (Option ℕ) CallFault). result_ok q) told)) tt

module _ (b d : TreeView) (h : Options) (k v : ℕ) (w x z : WorkerView) (r : Result (Option ℕ) CallFault)
    (o : Option (Option ℕ)) (is : o ≡ result_ok r) where
  pub puts_then_gets : HasPut w.pass x.pass k v → SaysGet d h k x z r → IfSome o (PutsThenGets w.pass z.pass k v)
  puts_then_gets put (inl pinned) = refused (PutsThenGets w.pass z.pass k v) r o is pinned.1
  puts_then_gets put (inr (free, l)) = of_found r o (MapGave x.pass z.pass k) (PutsThenGets w.pass z.pass k v) is
      (λ found gave. record { mid = x.pass; put = put; on = l.answers.on.past; gave = gave }) l.answers.moment

  pub finds_some : IsKey k → HasHistory z.pass.view.layout z.pass.view.past
      → SaysChange Insert b h k w x (Ok true) → NoneDeleted z.pass.view.layout w.pass.view.past z.pass.view.past k
      → SaysGet d h k x z r → IfSome o (λ found. IsSome found)
  finds_some key history says none (inl pinned) = refused (λ found. IsSome found) r o is pinned.1
  finds_some key history says none (inr (free, l)) = of_found r o (MapGave x.pass z.pass k) (λ found. IsSome found) is
      (is_found w.pass x.pass z.pass k key history (sym (ap (λ (p : PassView). p.view.layout) l.answers.on.same))
      l.answers.on.past (was_made w x true says).answers.moment none) l.answers.moment

  pub finds : IsKey k → HasSeen z.pass.view → IsLayout z.pass.view.layout
      → HasHistory z.pass.view.layout z.pass.view.past → SaysChange Insert b h k w x (Ok true)
      → HasPut w.pass x.pass k v → NoneDeleted z.pass.view.layout w.pass.view.past z.pass.view.past k
      → NoneReplaced z.pass.view.layout w.pass.view.past z.pass.view.past k
      → SaysGet d h k x z r → IfSome o (λ found. found ≡ Some v)
  finds key seen fits history says put none unreplaced (inl pinned) = refused (λ found. found ≡ Some v) r o is pinned.1
  finds key seen fits history says put none unreplaced (inr (free, l)) =
      let m = was_made w x true says in
      of_found r o (MapGave x.pass z.pass k) (λ found. found ≡ Some v) is
      (λ found gave. is_kept w.pass x.pass z.pass k v seen fits history l.answers.on.same l.answers.on.past
      (l.stores m.answers.left) put none unreplaced found
      (is_found w.pass x.pass z.pass k key history (sym (ap (λ (p : PassView). p.view.layout) l.answers.on.same))
      l.answers.on.past m.answers.moment none found gave) gave)
      l.answers.moment
