-- A call that has replaced a value has its put in each history of the map.
use Rattle.std.proofs.Common.{◌≡◌, ℕ, inr, List, [], ◌∷◌, ◌++◌, append_assoc, length, sym, ap, subst, ◌∙◌}
use Rattle.std.specs.Prelude.{All, Contains, Some}
use Rattle.std.proofs.lemmas.Option.{same_Some}
use Rattle.nm_edge.specs.Keys.{IsKey}
use Rattle.nm_edge.specs.Layouts.{Layout, IsLayout}
use Rattle.nm_model.specs.declared.event.Event.{Event}
use Rattle.nm_model.specs.declared.event.Op.TheVariants.{Insert}
use Rattle.nm_model.specs.declared.event.Event.TheVariants.{Swap}
use Rattle.nm_model.specs.declared.reply.Reply.TheVariants.{Cut}
use Rattle.nm_model.specs.declared.trace.Turn.{Turn}
use Rattle.nm_model.specs.Acts.{Act}
use Rattle.nm_model.specs.Histories.{Called, called_in}
use Rattle.nm_model.specs.Memory.{named}
use Rattle.nm_model.specs.Headline.{words_after}
use Rattle.nm_model.specs.Ordered.{HasKey, ordered, trace_in}
use Rattle.nm_steps.specs.declared.view.Stored.{Stored}
use Rattle.nm_steps.specs.Rules.{Extends, ExtendsStores, answered_turn}
use Rattle.nm_calls.specs.MapHistories.{IsMapHistory, IsPutOf, MapAct}
use Rattle.nm_calls.specs.Maps.{HoldsStores, value_at}
use Rattle.nm_calls.proofs.MapMoments.{holds_longer}
use Rattle.nm_calls.proofs.MoreStores.{same_by_more}
use Rattle.nm_calls.proofs.WonSwaps.{SwapShown, swap_shown}
use Rattle.nm_puts.specs.Replaced.{HasItsPut, ReplacedValuesHavePuts, WasReplaced}

module _ (L : Layout) (fits : IsLayout L) (events : List (ℕ × Event)) (keys : All (λ t. HasKey t.1) events)
    (from : List Turn) (stores : List Stored) (held : HoldsStores L from (trace_in (ordered L) events) stores)
    (was now : List Turn) (seen : List Stored) (w k old new : ℕ) (r : WasReplaced L was now seen w k old new)
    (on : Extends held.until now) (extends : ExtendsStores stores seen) where
  abbrev turns : List Turn
  turns = trace_in (ordered L) events

  abbrev won : Turn
  won = answered_turn w (Swap r.won.parent r.won.side r.found.slot r.left.slot) (Cut
      (named (words_after L r.so_far) r.found.slot ∷ []))

  -- the swap among the turns up to which there are stores
  until_is : held.until ≡ r.so_far ++ answered_turn w (Swap r.won.parent r.won.side r.found.slot r.left.slot) (Cut
      (named (words_after L r.so_far) r.found.slot ∷ [])) ∷ (r.rest ++ on.more)
  until_is = on.is ∙ (ap (λ (ts : List Turn). ts ++ on.more) r.are ∙ (append_assoc r.so_far (r.swap ∷ r.rest) on.more
      ∙ ap (λ (t : Turn). r.so_far ++ t ∷ (r.rest ++ on.more)) r.won.is))

  -- and among all
  abbrev after : List Turn
  after = (r.rest ++ on.more) ++ held.ends.more

  whole : trace_in (ordered L) events ≡ r.so_far ++ r.swap ∷ ((r.rest ++ on.more) ++ held.ends.more)
  whole = held.ends.is ∙ (ap (λ (ts : List Turn). ts ++ held.ends.more) until_is
      ∙ (append_assoc r.so_far (won ∷ (r.rest ++ on.more)) held.ends.more ∙ ap (λ (t : Turn). r.so_far ++ t ∷ after)
      (sym r.won.is)))

  now_extends : Extends (trace_in (ordered L) events) now
  now_extends = record {
    more = on.more ++ held.ends.more;
    is = held.ends.is ∙ (ap (λ (ts : List Turn). ts ++ held.ends.more) on.is ∙ append_assoc now on.more held.ends.more);
  }

  -- the stores that the worker had seen hold from the moment after the swap, and so from that before it
  holds : HoldsStores L (r.so_far ++ r.swap ∷ []) (trace_in (ordered L) events) seen
  holds = holds_longer L (r.so_far ++ r.swap ∷ []) now turns seen now_extends r.holds

  holds_before : HoldsStores L r.so_far (trace_in (ordered L) events) seen
  holds_before = record {
    until = holds.until;
    from = record {
      more = r.swap ∷ holds.from.more;
      is = holds.from.is ∙ append_assoc r.so_far
          (r.swap ∷ []) holds.from.more;
    };
    ends = holds.ends;
    held = holds.held;
    linked = holds.linked;
    swapped = holds.swapped;
    order = holds.order;
  }

  shown : SwapShown L r.so_far w r.won.parent r.won.side r.found.slot r.left.slot (named
      (words_after L r.so_far) r.found.slot ∷ [])
  shown = swap_shown L fits events keys r.so_far after w r.won.parent r.won.side r.found.slot r.left.slot (named
      (words_after L r.so_far) r.found.slot ∷ [])
      (whole ∙ ap (λ (t : Turn). r.so_far ++ t ∷ after) r.won.is)

  key_is : shown.of_key ≡ k
  key_is = ap (λ (c : Called). c.key) (same_Some _ _ (sym shown.call ∙ r.call))

  is_key : IsKey k
  is_key = subst IsKey key_is shown.is_key

  -- the values are the same by all stores
  old_by_all : value_at (length r.so_far) stores r.found.slot ≡ old
  old_by_all = same_by_more L fits events keys r.so_far (r.swap ∷ after) whole r.found.slot r.found.reached r.found.leaf
      (inr (subst IsKey (sym r.found.has_key) is_key)) seen stores holds_before extends from held ∙ r.found.has_value

  new_by_all : value_at (length (r.so_far ++ r.swap ∷ [])) stores r.left.slot ≡ new
  new_by_all = same_by_more L fits events keys (r.so_far ++ r.swap ∷ []) after (whole ∙ sym
      (append_assoc r.so_far (r.swap ∷ []) after))
      r.left.slot r.left.reached r.left.leaf (inr
      (subst IsKey (sym r.left.has_key) is_key)) seen stores holds extends from held ∙ r.left.has_value

  -- ---- the put

  pub its_put : (acts : List Act) (valued : List MapAct) → IsMapHistory L held.until stores acts valued
      → HasItsPut L stores valued was now seen w k old new r
  its_put acts valued h = of_put p.0 p.1 (subst
      (λ (t : Turn). IsPutOf L stores r.so_far w r.found.slot r.left.slot t p.0) (sym r.won.is) p.2)
    where
      p : (a : MapAct) × Contains valued a × IsPutOf L stores r.so_far w r.found.slot r.left.slot
          (answered_turn w (Swap r.won.parent r.won.side r.found.slot r.left.slot) (Cut
          (named (words_after L r.so_far) r.found.slot ∷ []))) a
      p = h.swaps r.so_far (r.rest ++ on.more) w r.won.parent r.won.side r.found.slot r.left.slot (named
          (words_after L r.so_far) r.found.slot ∷ []) until_is

      of_put : (a : MapAct) → Contains valued a → IsPutOf L stores r.so_far w r.found.slot r.left.slot r.swap a
          → HasItsPut L stores valued was now seen w k old new r
      of_put a among is = record {
        act = a;
        among = among;
        is = is;
        call = same_Some (called_in a.act) (record { pin = r.pin; op = Insert; key = k }) (sym is.call ∙ r.call);
        finds = sym is.found.has_value ∙ (ap (value_at (length r.so_far) stores) is.in_old ∙ old_by_all);
        leaves = is.leaves ∙ ap Some (sym is.left.has_value ∙
            (ap (value_at (length (r.so_far ++ r.swap ∷ [])) stores) is.in_new ∙ new_by_all));
      }

pub replaced_values_have_puts : ReplacedValuesHavePuts
replaced_values_have_puts L fits events keys from stores held was now seen w k old new r on extends acts its valued h =
    its_put L fits events keys from stores held was now seen w k old new r on extends acts valued h
