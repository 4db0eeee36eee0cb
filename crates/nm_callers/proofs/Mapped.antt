-- A get after an insert of the same key finds a value, over the page alone.
use Rattle.std.proofs.Common.{◌≡◌, ℕ, true, List, length, refl, sym, ap, ◌∙◌, subst, arith}
use Rattle.std.proofs.lemmas.List.{length-append}
use Rattle.std.specs.Prelude.{IfOk, IfSome, IsSome, None, Ok, Err, Option, Result, Some}
use Rattle.std.specs.Result.{result_ok}
use Rattle.nm_edge.specs.Keys.{IsKey}
use Rattle.nm_edge.specs.Layouts.{Layout}
use Rattle.nm_model.specs.declared.event.Op.TheVariants.{Insert}
use Rattle.nm_model.specs.declared.trace.Turn.{Turn}
use Rattle.nm_model.specs.Acts.{InSet}
use Rattle.nm_model.specs.Headline.{words_after}
use Rattle.nm_model.specs.Histories.{HasHistory}
use Rattle.nm_steps.specs.Steps.{HasSeenAllOf, PassView}
use Rattle.nm_calls.specs.Maps.{MapGave, value_at}
use Rattle.nm_calls.specs.Moments.{AnswerHasMoment}
use Rattle.nm_callers.specs.Meanwhile.{NoneDeleted}
use Rattle.nm_callers.proofs.StayingKeys.{stays_at_each_moment}

-- a map whose set has the key gives a value
not_missed : (o p q : PassView) (k : ℕ) → IsKey k → HasHistory q.view.layout q.view.past
    → p.view.layout ≡ q.view.layout → HasSeenAllOf q p → AnswerHasMoment o p Insert k true
    → NoneDeleted q.view.layout o.view.past q.view.past k → MapGave p q k None → ⊥
not_missed o p q k key history layout on put none was = was.gives
    (value_at (length was.so_far) q.view.stores there.slot) (record {
      slot = there.slot;
      reached = there.reached;
      leaf = there.leaf;
      has_key = there.has_key;
      has_value = refl;
    })
  where
    there : InSet (words_after q.view.layout was.so_far) k
    there = subst (λ (L : Layout). InSet (words_after L was.so_far) k) layout
        (stays_at_each_moment p.view.layout o.view.past p.view.past q.view.past was.so_far was.rest p.view.number k
        key put on.goes_on (subst (λ (L : Layout). HasHistory L q.view.past) (sym layout) history)
        (subst (λ (L : Layout). NoneDeleted L o.view.past q.view.past k) (sym layout) none) was.are
        (let later = was.later in omega (arith, later)))

pub is_found : (o p q : PassView) (k : ℕ) → IsKey k → HasHistory q.view.layout q.view.past
    → p.view.layout ≡ q.view.layout → HasSeenAllOf q p → AnswerHasMoment o p Insert k true
    → NoneDeleted q.view.layout o.view.past q.view.past k → (found : Option ℕ) → MapGave p q k found → IsSome found
is_found o p q k key history layout on put none (Some v) gave = refl
is_found o p q k key history layout on put none None gave = absurd
    (not_missed o p q k key history layout on put none gave)

-- what the map gave after one has seen more, it gave after that too
pub gave_earlier : (p m q : PassView) → HasSeenAllOf m p → (k : ℕ) (found : Option ℕ) → MapGave m q k found
    → MapGave p q k found
gave_earlier p m q told k found gave =
    let long = ap (λ (ts : List Turn). length ts) told.goes_on.is ∙ length-append p.view.past told.goes_on.more in
    let late = gave.later in
    record {
      so_far = gave.so_far;
      rest = gave.rest;
      are = gave.are;
      later = omega (arith, late, long);
      pinned =
          gave.pinned;
      gives = gave.gives;
      stored = gave.stored;
    }

-- where an error is left out
pub of_found : {E : Type 0} (r : Result (Option ℕ) E) (o : Option (Option ℕ)) (P Q : Option ℕ → Type 0)
    → o ≡ result_ok r → ((found : Option ℕ) → P found → Q found) → IfOk r P → IfSome o Q
of_found (Ok x) o P Q is then' holds = subst (λ (y : Option (Option ℕ)). IfSome y Q) (sym is) (then' x holds)
of_found (Err e) o P Q is then' holds = subst (λ (y : Option (Option ℕ)). IfSome y Q) (sym is) tt
