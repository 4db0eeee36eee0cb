-- An insert and a later get, by one worker or by one that has heard of the insert, are of one plain map.
use Rattle.std.proofs.Common.{◌≡◌, ℕ, ◌+◌, ◌<◌, ◌≤◌, List, [], ◌∷◌, ◌++◌, append-nil, append_assoc, length, refl, sym, ap, subst, ◌∙◌, arith}
use Rattle.std.specs.Prelude.{Some, Option, None, IfSome, filter}
use Rattle.std.proofs.lemmas.List.{length-append}
use Rattle.std.proofs.lemmas.Option.{same_Some}
use Rattle.nm_edge.specs.Keys.{IsKey}
use Rattle.nm_edge.specs.Layouts.{Layout, IsLayout}
use Rattle.nm_model.specs.declared.event.Event.TheVariants.{Link}
use Rattle.nm_model.specs.declared.event.Op.TheVariants.{Insert}
use Rattle.nm_model.specs.declared.reply.Reply.TheVariants.{Linked}
use Rattle.nm_model.specs.declared.trace.Turn.{Turn}
use Rattle.nm_model.specs.Acts.{Act, IsAmong}
use Rattle.nm_model.specs.Histories.{Called, IsHistory, IsInCall, call_begun, called_in}
use Rattle.nm_model.specs.Ordered.{ordered, trace_in}
use Rattle.nm_order.proofs.RealTime.{begins_with}
use Rattle.nm_steps.specs.Rules.{ExtendsStores, answered_turn}
use Rattle.nm_steps.specs.Steps.{HasSeen, HasSeenAllOf, IsSamePass, PassView}
use Rattle.nm_calls.specs.MapHistories.{IsMapHistory, MapAct, PutsItsValue, is_plain}
use Rattle.nm_calls.specs.Maps.{HasPut, HoldsStores, IsInMap, MapGave, WasMapped, WasPut, value_at}
use Rattle.nm_calls.proofs.KeptValues.{put_values_stay}
use Rattle.nm_calls.proofs.MapsOfRuns.{histories_are_of_maps}
use Rattle.nm_calls.proofs.PlainMaps.{In, contains_in, from_filter, in_act, in_all}
use Rattle.nm_callers.specs.Mapping.{AreOfOneMap, HasInsert}

no_turn : (before since : List Turn) (t : Turn) → [] ≡ before ++ t ∷ since → ⊥
no_turn before since t is = let long = ap (λ (l : List Turn). length l) is ∙ length-append before (t ∷ since) in
    omega (arith, long)

module _ (o p q : PassView) (w k v : ℕ) (worker : w < q.view.layout.workers) (is_key : IsKey k)
    (seen : HasSeen q.view) (fits : IsLayout q.view.layout) (on : HasSeenAllOf q p)
    (more : ExtendsStores q.view.stores p.view.stores)
    (put : WasPut q.view.layout o.view.past p.view.past p.view.stores w k v) (found : ℕ)
    (gave : WasMapped q.view.layout p.view.past q.view.past q.view.stores q.view.number k (Some found)) where
  abbrev L : Layout
  L = q.view.layout

  abbrev linked : List Turn
  linked = put.so_far ++ put.link ∷ []

  held : HoldsStores L gave.so_far q.view.past q.view.stores
  held = gave.stored

  abbrev in_run : HoldsStores L gave.so_far (trace_in (ordered L) seen.events) q.view.stores
  in_run = record {
    until = held.until;
    from = held.from;
    ends = record { more = held.ends.more; is = sym seen.are ∙ held.ends.is };
    held = held.held;
    linked = held.linked;
    swapped = held.swapped;
    order = held.order;
  }

  link_seen : q.view.past ≡ linked ++ (put.rest ++ on.goes_on.more)
  link_seen = on.goes_on.is ∙ (ap (λ (ts : List Turn). ts ++ on.goes_on.more) put.are
      ∙ append_assoc linked put.rest on.goes_on.more)

  put_first : length linked < length gave.so_far
  put_first = let long = ap (λ (ts : List Turn). length ts) put.are ∙ length-append linked put.rest in
      let later = gave.later in omega (arith, later, long)

  got_within : length gave.so_far ≤ length held.until
  got_within =
      let long = ap (λ (ts : List Turn). length ts) held.from.is ∙ length-append gave.so_far held.from.more in
      omega (arith, long)

  part : (mid : List Turn) × (held.until ≡ linked ++ mid)
  part = begins_with linked (put.rest ++ on.goes_on.more) held.until held.ends.more (sym link_seen ∙ held.ends.is)
      (let first = put_first in let last = got_within in omega (arith, first, last))

  -- the value right after the link, by all that was seen later
  here : IsInMap L linked q.view.stores k (value_at (length linked) q.view.stores put.is.slot)
  here = record {
    slot = put.is.slot;
    reached = put.is.reached;
    leaf = put.is.leaf;
    has_key = put.is.has_key;
    has_value = refl;
  }

  same_value : value_at (length linked) q.view.stores put.is.slot ≡ v
  same_value =
      put_values_stay L fits seen.events seen.keys o.view.past p.view.past p.view.stores q.view.stores w k v worker
      put more gave.so_far in_run [] (put.rest ++ on.goes_on.more) (sym seen.are ∙ link_seen)
      (λ before since t is c. no_turn before since t is) (value_at (length linked) q.view.stores put.is.slot)
      (subst (λ (ts : List Turn). IsInMap L ts q.view.stores k (value_at (length linked) q.view.stores put.is.slot))
      (sym (append-nil linked)) here)

  -- the insert among the acts of a history
  inserted : (acts : List Act) → IsHistory L held.until acts → (valued : List MapAct)
      → IsMapHistory L held.until q.view.stores acts valued → HasInsert valued w (length linked) k v
  inserted acts h valued m = by (h.links put.so_far part.0 w put.won.parent put.won.side put.won.old put.won.new
      put.won.node link_is)
    where
      link_is : held.until ≡ put.so_far ++ answered_turn w (Link put.won.parent put.won.side put.won.old put.won.new)
          (Linked put.won.node) ∷ part.0
      link_is = part.1 ∙ (append_assoc put.so_far (put.link ∷ []) part.0
          ∙ ap (λ (t : Turn). put.so_far ++ t ∷ part.0) put.won.is)

      by : (a : Act) × IsAmong acts a × (a.worker ≡ w) × (a.moment ≡ length put.so_far + 1)
          × IsInCall put.so_far Insert a → HasInsert valued w (length linked) k v
      by (a, among, own, moment, call) = of_act (in_act (filter is_plain valued) a
          (subst (λ (l : List Act). IsAmong l a) (sym m.are) among))
        where
          has_key : a.key ≡ k
          has_key = ap (λ (c : Called). c.key) (same_Some (called_in a)
              (record { pin = put.pin; op = Insert; key = k })
              (sym call.0 ∙ (ap (λ (u : ℕ). call_begun u put.so_far) own ∙ put.call)))

          of_act : (y : MapAct) × In (filter is_plain valued) y × (y.act ≡ a) → HasInsert valued w (length linked) k v
          of_act (y, among, same) =
              let at = (from_filter is_plain valued y among).0 in
              let long = length-append put.so_far (put.link ∷ []) in
              let then' = ap (λ (b : Act). b.moment) same in
              let when : y.act.moment ≡ length linked = omega (arith, long, moment, then') in (
                y,
                contains_in valued y at,
                ap (λ (b : Act). b.worker) same ∙ own,
                when,
                ap (λ (b : Act). b.op) same ∙ call.1,
                ap (λ (b : Act). b.key) same ∙ has_key,
                ap (λ (b : Act). b.answer) same ∙ call.2,
                in_all (PutsItsValue L held.until q.view.stores) valued m.puts y at
                    (ap (λ (b : Act). b.op) same ∙ call.1) (ap (λ (b : Act). b.answer) same ∙ call.2) linked part.0
                    part.1 (sym when) v
                    (subst (λ (j : ℕ). IsInMap L linked q.view.stores j v)
                    (sym (ap (λ (b : Act). b.key) same ∙ has_key))
                    (subst (λ (u : ℕ). IsInMap L linked q.view.stores k u) same_value here)),
              )

  pub of_one_map : AreOfOneMap L o.view.past q.view.past w k v found
  of_one_map =
      let maps = histories_are_of_maps L fits seen.events seen.keys gave.so_far q.view.stores in_run in
      record {
        until = held.until;
        ends = held.ends;
        stores = q.view.stores;
        history = maps.0;
        put = length linked;
        got = length gave.so_far;
        later = (let long = length-append put.so_far (put.link ∷ []) in let later = put.later in
            omega (arith, long, later));
        order = put_first;
        within = got_within;
        each = λ acts h. let r = maps.1 acts h in (
          r.0,
          r.1,
          inserted acts h r.0 r.1,
          (r.1.moments linked part.0 part.1 k v is_key).1
              (subst (λ (u : ℕ). IsInMap L linked q.view.stores k u) same_value here),
          (r.1.moments gave.so_far held.from.more held.from.is k found is_key).1 gave.gives,
        );
      }

-- of what a get has found
pub got_of_one_map : (o p q : PassView) (k v : ℕ) → IsKey k → HasSeen q.view → IsLayout q.view.layout
    → IsSamePass p q → HasSeenAllOf q p → ExtendsStores q.view.stores p.view.stores → HasPut o p k v
    → (found : Option ℕ) → MapGave p q k found → IfSome found
    (AreOfOneMap q.view.layout o.view.past q.view.past q.view.number k v)
got_of_one_map o p q k v is_key seen fits same on more put None gave = tt
got_of_one_map o p q k v is_key seen fits same on more put (Some found) gave =
    of_one_map o p q q.view.number k v seen.worker is_key seen fits on more
    (subst (λ (z : PassView). WasPut z.view.layout o.view.past p.view.past p.view.stores z.view.number k v)
    (sym same) put) found gave

-- the same of another worker that has heard of the insert
pub told_of_one_map : (o p q : PassView) (k v : ℕ) → IsKey k → HasSeen p.view → HasSeen q.view
    → IsLayout q.view.layout → p.view.layout ≡ q.view.layout → HasSeenAllOf q p
    → ExtendsStores q.view.stores p.view.stores → HasPut o p k v
    → (found : Option ℕ) → MapGave p q k found → IfSome found
    (AreOfOneMap q.view.layout o.view.past q.view.past p.view.number k v)
told_of_one_map o p q k v is_key first seen fits layout on more put None gave = tt
told_of_one_map o p q k v is_key first seen fits layout on more put (Some found) gave =
    of_one_map o p q p.view.number k v (subst (λ (L : Layout). p.view.number < L.workers) layout first.worker) is_key
    seen fits on more
    (subst (λ (L : Layout). WasPut L o.view.past p.view.past p.view.stores p.view.number k v) layout put) found gave
