-- A value that was read under a pin is that of its leaf as long as the pin lasts.
use Rattle.std.proofs.Common.{◌≡◌, ℕ, ◌≤◌, List, [], ◌++◌, append_assoc, sym, ap, subst, ◌∙◌}
use Rattle.nm_edge.specs.Keys.{IsKey}
use Rattle.nm_edge.specs.Layouts.{Layout, IsLayout}
use Rattle.nm_model.specs.declared.trace.Turn.{Turn}
use Rattle.nm_model.specs.Headline.{HasLeft}
use Rattle.nm_model.specs.Ordered.{after_in, ordered, trace_in}
use Rattle.nm_order.specs.Logs.{part_of}
use Rattle.nm_steps.specs.Rules.{value_of}
use Rattle.nm_steps.specs.Steps.{Continues, PassView}
use Rattle.nm_steps.specs.Values.{HasSeenStores}
use Rattle.nm_calls.specs.Maps.{HasReadValue, HoldsStores}
use Rattle.nm_calls.proofs.MapMoments.{ReadAt, holds_longer, read_in_run}
use Rattle.nm_calls.proofs.StayingValues.{value_by_later}
use Rattle.nm_calls.proofs.StoresInTurns.{stores_in_turns}
use Rattle.nm_puts.specs.Swaps.{IsUnderPin}
use Rattle.nm_puts.proofs.UnderPins.{left_in_none, none_left_then}

module _ (o z : PassView) (fits : IsLayout o.view.layout) (on : Continues o z)
    (under : IsUnderPin o.view.log z.view.log) (seen : HasSeenStores z.view)
    (k c : ℕ) (is_key : IsKey k) (r : HasReadValue o k c) where
  abbrev L : Layout
  L = o.view.layout

  abbrev w : ℕ
  w = o.view.number

  there : HasSeenStores (record o.view { log = z.view.log; past = z.view.past; stores = z.view.stores })
  there = subst (λ (s : PassView). HasSeenStores s.view) on.same seen

  at : ReadAt o [] r.seen.run.events k c r.slot
  at = read_in_run o fits k is_key c r

  abbrev first_turns : List Turn
  first_turns = trace_in (ordered L) at.before

  abbrev rest : List Turn
  rest = trace_in (after_in (ordered L) at.before) at.since

  abbrev more : List Turn
  more = on.past.goes_on.more

  past_is : z.view.past ≡ first_turns ++ (rest ++ on.past.goes_on.more)
  past_is = on.past.goes_on.is ∙ (ap (λ (l : List Turn). l ++ more) at.are ∙ append_assoc first_turns rest more)

  whole : trace_in (ordered o.view.layout) there.run.events ≡ first_turns ++ (rest ++ on.past.goes_on.more)
  whole = sym there.run.are ∙ past_is

  stays : HasLeft o.view.number (rest ++ on.past.goes_on.more) → ⊥
  stays = none_left_then w rest more at.stays
      (left_in_none w o.view.past more o.view.log z.view.log r.seen.run.is_part
      (ap (part_of w) (sym on.past.goes_on.is) ∙ there.run.is_part) under)

  holds : HoldsStores o.view.layout first_turns (trace_in (ordered o.view.layout) there.run.events) o.view.stores
  holds = subst (λ (ts : List Turn). HoldsStores L first_turns ts o.view.stores) there.run.are
      (holds_longer L first_turns o.view.past z.view.past o.view.stores on.past.goes_on at.stored)

  later_stores : HoldsStores o.view.layout first_turns (trace_in (ordered o.view.layout) there.run.events) z.view.stores
  later_stores = subst (λ (ts : List Turn). HoldsStores L first_turns ts z.view.stores) there.run.are
      (stores_in_turns
      (record o.view { log = z.view.log; past = z.view.past; stores = z.view.stores }) fits there first_turns
      (record { more = rest ++ more; is = past_is }))

  pub value_later : c ≡ value_of z.view.stores r.slot
  value_later =
      value_by_later L fits there.run.events there.run.keys w first_turns (rest ++ more) whole at.pinned stays
      o.view.stores z.view.stores holds on.stores later_stores there.held k c at.in_map
      (subst (λ (x : ℕ). 6 ≤ x) (sym at.slot_is) r.high) (subst (λ (x : ℕ). x ≤ L.nodes) (sym at.slot_is) r.within)
      ∙ ap (value_of z.view.stores) at.slot_is
