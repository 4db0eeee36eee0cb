-- What a pass has seen goes on from what it had seen.
use Rattle.nm_model.specs.declared.event.Event.{Event}
use Rattle.nm_model.specs.declared.reply.Reply.{Reply}
use Rattle.nm_model.specs.Walks.{Entry}
use Rattle.nm_steps.specs.Steps.{PassView, Stepped, HasTurn, HasSeenAllOf, IsSamePass, TakesStep, Continues}
use Rattle.nm_steps.proofs.Growing.{goes_on_itself, goes_on_through, goes_on_by}
use Rattle.std.proofs.Common.{◌≡◌, [], ◌++◌, append-nil, append_assoc, sym, subst, ap, ◌∙◌, List}
use Rattle.nm_model.specs.declared.trace.Turn.{Turn}
use Rattle.nm_steps.specs.Rules.{Extends, ExtendsStores, answered_turn}
use Rattle.nm_steps.specs.declared.view.Stored.{Stored}

pub seen_itself : (p : PassView) → HasSeenAllOf p p
seen_itself p = record { goes_on = goes_on_itself p.view.past }

pub seen_through : (p q r : PassView) → HasSeenAllOf q p → HasSeenAllOf r q → HasSeenAllOf r p
seen_through p q r first second = record {
  goes_on = goes_on_through r.view.past q.view.past p.view.past
      second.goes_on first.goes_on;
}

pub seen_by_turn : (p q : PassView) (e : Event) (r : Reply) → HasTurn p q e r → HasSeenAllOf q p
seen_by_turn p q e r turn = record {
  goes_on = subst (λ (run : List Turn). Extends run p.view.past) (sym turn.is)
      (goes_on_by turn.before p.view.past (answered_turn p.view.number e r) turn.extends);
}

pub same_then : (p q r : PassView) → IsSamePass p q → IsSamePass q r → IsSamePass p r
same_then p q r first second = second ∙ ap (λ (z : PassView). record z
    { view = record z.view { log = r.view.log; past = r.view.past; stores = r.view.stores } }) first

pub same_by_step : (p q : PassView) (e : Event) (r : Reply) → Stepped p q e r → IsSamePass p q
same_by_step p q e r step = step ∙ ap (λ (log : List Entry). record p
    { view = record p.view { log = log; past = q.view.past; stores = q.view.stores } })
    (sym (ap (λ (z : PassView). z.view.log) step))

pub stores_through : (a b c : List Stored) → ExtendsStores b a → ExtendsStores c b → ExtendsStores c a
stores_through a b c first second = record {
  more = first.more ++ second.more;
  is = second.is ∙ (ap (λ (l : List Stored). l ++ second.more) first.is ∙ append_assoc a first.more second.more);
}

pub stores_same : (now was : List Stored) → now ≡ was → ExtendsStores now was
stores_same now was same = record { more = []; is = same ∙ sym (append-nil was) }

pub continues_then : (p q r : PassView) → Continues p q → Continues q r → Continues p r
continues_then p q r first second = record {
  same = same_then p q r first.same second.same;
  past = seen_through p q r first.past second.past;
  run = second.run;
  stores = stores_through p.view.stores q.view.stores r.view.stores first.stores second.stores;
}

pub continues_by : (p q : PassView) (e : Event) (r : Reply) → TakesStep p q e r → Continues p q
continues_by p q e r step = record {
  same = same_by_step p q e r step.step;
  past = seen_by_turn p q e r step.past;
  run = step.run;
  stores = stores_same q.view.stores p.view.stores step.stores;
}

pub ruleset seen_all = (seen_itself, seen_through, seen_by_turn, stores_through, stores_same)
